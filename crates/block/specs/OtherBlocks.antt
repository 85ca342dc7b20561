-- A file whose blocks are those of another, up to the first position that holds a block from elsewhere in it: it is refused there, with 17.
use Rattle.std.specs.Prelude.{◌≡◌, true, ℕ, ◌+◌, ◌*◌, ◌<◌, length, drop}
use Rattle.std.proofs.Math.Path.{sym, ap}
use Rattle.std.proofs.Common.{◌∙◌, arith}
use mathlib.Core.List.{List}
use Rattle.std.proofs.Math.ListN.{take}
use Rattle.std.proofs.Math.Seq.{take_all}
use borrow.Author.Tests.{ne_eqb}
use Rattle.laws.specs.Numbers.{number_at}
use Rattle.laws.specs.Parts.{take-drop-take}
use Rattle.laws.specs.Pieces.{joined_same, joined-parts}
use Rattle.refusals.specs.Table.{block_number_number}
use Rattle.refusals.specs.Results.{value, refused}
use Rattle.block.specs.File.{block_count, block_at, fault_at, right_length, opened}
use Rattle.block.specs.Causes.{fault_at-none, fault_at-number, opened-fault-exactly, opened_gives}

module _ (file other : List ℕ) where
  -- files with the same front have the same blocks in it
  pub front-blocks : (k : ℕ) → take (512 * k) other ≡ take (512 * k) file → (j : ℕ) → j < k → block_at other j ≡ block_at file j
  unfolding block_at
  front-blocks k same j less =
      sym (take-drop-take 512 (512 * j) (512 * k) other (omega arith))
      ∙ ap (λ (l : List ℕ). take 512 (drop (512 * j) l)) same
      ∙ take-drop-take 512 (512 * j) (512 * k) file (omega arith)

  -- files of whole blocks that have the same blocks are the same
  pub same_blocks : (blocks : ℕ) → length file ≡ 512 * blocks → length other ≡ 512 * blocks
      → ((k : ℕ) → k < blocks → block_at other k ≡ block_at file k) → other ≡ file
  unfolding block_at
  same_blocks blocks size others each =
      sym (take_all (512 * blocks) other (omega arith))
      ∙ sym (joined-parts other 512 blocks)
      ∙ joined_same (block_at other) (block_at file) blocks each
      ∙ joined-parts file 512 blocks
      ∙ take_all (512 * blocks) file (omega arith)

  -- a block that is the last of neither has the same fault in both
  same-fault : (j : ℕ) → block_at other j ≡ block_at file j → j + 1 < block_count other → j + 1 < block_count file → fault_at other j ≡ fault_at file j
  unfolding fault_at
  same-fault j same here there = rw (same, ne_eqb (j + 1) (block_count other) (λ e. omega arith), ne_eqb (j + 1) (block_count file) (λ e. omega arith))

  -- a block from another position has another number
  moved-fault : (k i : ℕ) → block_at other k ≡ block_at file i → fault_at file i ≡ 0 → (i ≡ k → ⊥) → fault_at other k ≡ block_number_number
  moved-fault k i same none moved =
      (fault_at-number other k).1 (λ e. moved (sym ((fault_at-none file i).0 none).0 ∙ ap (λ (b : List ℕ). number_at b 0) (sym same) ∙ e))

  -- where the first opens, the other is refused at the first position that holds another block
  pub other_block : (b : List ℕ) → opened file ≡ value b → right_length (length other) ≡ true → (k i : ℕ) → k < block_count other → k < block_count file
      → i < block_count file → (i ≡ k → ⊥) → block_at other k ≡ block_at file i → ((j : ℕ) → j < k → block_at other j ≡ block_at file j)
      → opened other ≡ refused block_number_number k
  other_block b opens right k i here there within moved block lower =
      let none = (((opened_gives file).line b).0 opens).1 in
      ((opened-fault-exactly other block_number_number (λ e. omega (arith, e)) (λ e. omega (arith, e))).line k).1 (
        right,
        (
          here,
          moved-fault k i block (none i within) moved,
          λ j less. same-fault j (lower j less) (omega arith) (omega arith) ∙ none j (omega arith),
        ),
      )
