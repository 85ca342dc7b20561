-- Sealed files: what opening a file and sealing a bundle give.
use Rattle.std.specs.Prelude.{◌≡◌, List, Bool, cond, ◌&&◌, ℕ, ◌+◌, ◌*◌, ◌/◌, ◌%◌, ◌≤◌, ◌<◌, length, take, drop, eqb, leb}
use Rattle.laws.specs.Pieces.{joined}
use Rattle.laws.specs.Scans.{first_false}
use Rattle.limits.specs.Limits.{max_file_size, right_size}
use Rattle.refusals.specs.Table.{file_length_number, bundle_length_number}
use Rattle.refusals.specs.Results.{Result, value, ◌>>◌, require}
use Rattle.refusals.specs.Answers.{refusal}
use Rattle.refusals.specs.declared.Refusal.{Refusal}
use Rattle.block.specs.Block.{is_zero, block, fault, used_contents}

-- ---- Opening

-- how many whole blocks a file has, and block k
unfoldable pub block_count : List ℕ → ℕ
block_count file = length file / 512

unfoldable pub block_at : List ℕ → ℕ → List ℕ
block_at file k = take 512 (drop (512 * k) file)

-- the fault of block k
unfoldable pub fault_at : List ℕ → ℕ → ℕ
fault_at file k = fault (eqb (k + 1) (block_count file)) k (block_at file k)

-- the lowest block with a fault, or the block count where there is none
unfoldable pub first_faulty : List ℕ → ℕ
first_faulty file = first_false (λ k. is_zero (fault_at file k)) (block_count file)

-- the refusal of the lowest block with a fault; number 0 where there is none
unfoldable pub first_fault : List ℕ → Refusal
first_fault file =
    cond (eqb (first_faulty file) (block_count file)) (refusal 0 (block_count file)) (refusal (fault_at file (first_faulty file)) (first_faulty file))

-- the contents that block k uses
unfoldable pub contents_at : List ℕ → ℕ → List ℕ
contents_at file k = used_contents (block_at file k)

-- the used contents joined
unfoldable pub bundle_of : List ℕ → List ℕ
bundle_of file = joined (contents_at file) (block_count file)

-- 1 to 128 blocks of 512 bytes
unfoldable pub right_length : ℕ → Bool
right_length n = leb 1 n && (eqb (n % 512) 0 && leb n max_file_size)

-- what opening gives: 1, then the refusal of the lowest faulty block; else the bundle
unfoldable pub opened : List ℕ → Result (List ℕ)
opened file = do
  require (right_length (length file)) file_length_number 0
  require (is_zero (first_fault file).number) (first_fault file).number (first_fault file).spot
  value (bundle_of file)

-- a file of whole blocks that all keep the rules
pub record Sound (file : List ℕ) : Type 0 where
  pub whole : length file ≡ 512 * block_count file
  pub some : 0 < block_count file
  pub most : block_count file ≤ 128
  pub each : (k : ℕ) → k < block_count file → fault_at file k ≡ 0

-- ---- Sealing

-- the contents of block k: 504 bytes of the bundle, in the last block what is left
unfoldable pub part_at : List ℕ → ℕ → List ℕ
part_at bundle k = take 504 (drop (504 * k) bundle)

-- block k of the sealed file
unfoldable pub sealed_block_at : List ℕ → ℕ → List ℕ
sealed_block_at bundle k = block k (part_at bundle k)

-- the blocks that n bytes take
unfoldable pub blocks_for : ℕ → ℕ
blocks_for n = (n + 503) / 504

-- the blocks joined
unfoldable pub sealed_file : List ℕ → List ℕ
sealed_file bundle = joined (sealed_block_at bundle) (blocks_for (length bundle))

-- what sealing gives: 4; else the file
unfoldable pub sealed : List ℕ → Result (List ℕ)
sealed bundle = do
  require (right_size (length bundle)) bundle_length_number 0
  value (sealed_file bundle)
