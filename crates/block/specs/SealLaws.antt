-- Laws of sealing: the parts of a bundle, the lengths, and one law for each way that sealing ends.
use Rattle.std.specs.Prelude.{◌≡◌, refl, true, false, List, ℕ, ◌+◌, ◌-◌, ◌*◌, ◌/◌, min, length}
use Rattle.std.proofs.Common.{arith, length-take, length-drop}
use Rattle.std.proofs.Math.ListN.{length-append}
use Rattle.laws.specs.Pieces.{joined, length-joined}
use Rattle.limits.specs.Limits.{right_size}
use Rattle.refusals.specs.Table.{bundle_length_number}
use Rattle.refusals.specs.Results.{value, refused, passes, fails, passed}
use Rattle.block.specs.Block.{block, with_sums}
use Rattle.block.specs.File.{part_at, sealed_block_at, blocks_for, sealed_file, sealed}
use Rattle.block.specs.BlockLaws.{length-summed_bytes}

-- a block for each 504 bytes, the last of them begun
pub blocks_for-is : (n : ℕ) → blocks_for n ≡ (n + 503) / 504
unfolding blocks_for
blocks_for-is n = refl

module _ (bundle : List ℕ) where
  pub length-part_at : (k : ℕ) → length (part_at bundle k) ≡ min 504 (length bundle - 504 * k)
  unfolding part_at
  length-part_at k = simp (length-take, length-drop)

  pub length-sealed_block_at : (k : ℕ) → length (sealed_block_at bundle k) ≡ 512
  unfolding sealed_block_at block with_sums
  length-sealed_block_at k =
      simp length-append (omega (arith, length-summed_bytes k (part_at bundle k) (omega (arith, length-part_at k))))

  pub length_blocks_before : (k : ℕ) → length (joined (sealed_block_at bundle) k) ≡ 512 * k
  length_blocks_before k = length-joined (sealed_block_at bundle) 512 k (λ j l. length-sealed_block_at j)

  pub length-sealed_file : length (sealed_file bundle) ≡ 512 * blocks_for (length bundle)
  unfolding sealed_file
  length-sealed_file = length_blocks_before (blocks_for (length bundle))

  pub sealed-length : right_size (length bundle) ≡ false → sealed bundle ≡ refused bundle_length_number 0
  unfolding sealed
  sealed-length e = fails _ _ _ _ e

  pub sealed-file : right_size (length bundle) ≡ true → sealed bundle ≡ value (sealed_file bundle)
  unfolding sealed
  sealed-file e = passes _ _ _ _ e

  -- and back
  pub sealed→ : (file : List ℕ) → sealed bundle ≡ value file → (right_size (length bundle) ≡ true) × (sealed_file bundle ≡ file)
  unfolding sealed
  sealed→ file e = let p = passed _ _ _ _ file e in let is = p.1 in (p.0, cc)
