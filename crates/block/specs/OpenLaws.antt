-- Laws of opening: the parts of a sound file, the lowest fault, and one law for each way that opening ends.
use Rattle.std.specs.Prelude.{◌≡◌, cond, List, [], ◌∷◌, ◌++◌, take, drop, leb}
use Rattle.std.proofs.Math.Path.{refl, sym, ap}
use Rattle.std.proofs.Common.{◌∙◌, eq-or-lt_of_le, length-append, length-take, length-drop, drop-drop}
use Rattle.std.proofs.Math.Bool.{Bool, true, false}
use Rattle.std.proofs.Math.Logic.{⊎_elim}
use Prim.Native.Nat.{ℕ, ◌+◌, ◌-◌, ◌*◌, ◌/◌, ◌%◌, ◌≤◌, ◌<◌}
use native.Mathlib.Omega.{arith}
use Rattle.std.specs.Simd.{first_chunks}
use Rattle.std.proofs.Math.ListN.{length, get_or}
use Rattle.std.proofs.Math.Seq.{get_or-append_seam}
use Rattle.std.proofs.Math.Dec.{eqb}
use borrow.Author.Tests.{leb-true, eqb-true, eqb-false, ne_eqb, eq-eqb}
use Rattle.laws.specs.Booleans.{and_left, and_right}
use Rattle.laws.specs.Parts.{take-drop-take}
use Rattle.laws.specs.Pieces.{joined, joined-next, length-joined}
use Rattle.laws.specs.Scans.{first_false-all, first_false-at, first_false-none, first_false-fails, first_false-most}
use Rattle.limits.specs.Limits.{max_file_size}
use Rattle.refusals.specs.Table.{file_length_number}
use Rattle.laws.specs.Chunks.{chunk, length-chunks}
use Rattle.refusals.specs.Results.{value, refused, passes, fails, passed}
use Rattle.refusals.specs.Answers.{refusal}
use Rattle.block.specs.Block.{is_zero, used_count, used_contents, right_count}
use Rattle.block.specs.File.{block_count, block_at, fault_at, first_faulty, first_fault, contents_at, bundle_of, right_length, opened, Sound}
use Rattle.block.specs.BlockLaws.{Rules, rules, right_count-most}

-- ---- The blocks of a file, as the library cuts them

module _ (file : List ℕ) (blocks : List (List ℕ)) (cut : blocks ≡ first_chunks 512 (length file / 512) file) where
  pub blocks-count : length blocks ≡ block_count file
  unfolding block_count
  blocks-count = ap length cut ∙ length-chunks 512 (length file / 512) file

  pub blocks_at : (k : ℕ) (d : List ℕ) → k < block_count file → get_or blocks k d ≡ block_at file k
  unfolding block_count block_at
  blocks_at k d h = ap (λ (l : List (List ℕ)). get_or l k d) cut ∙ chunk 512 (length file / 512) file k d h

  -- the last of them
  pub blocks-last : (full : List (List ℕ)) (last : List ℕ) → blocks ≡ full ++ last ∷ []
      → (length full + 1 ≡ block_count file) × (block_at file (block_count file - 1) ≡ last)
  blocks-last full last e =
      let size : length full + 1 ≡ block_count file = omega (arith, blocks-count, ap length e, length-append full (last ∷ [])) in
      let before : block_count file - 1 ≡ length full = omega (arith, size) in (
        size,
        rw before (sym (blocks_at (length full) [] (omega (arith, size))) ∙ ap (λ (l : List (List ℕ)). get_or l (length full) []) e ∙ get_or-append_seam full last [] []),
      )

-- ---- The parts of a sound file

module _ (file : List ℕ) (sound : Sound file) where
  -- block k, whole
  pub length-block_at : (k : ℕ) → k < block_count file → length (block_at file k) ≡ 512
  unfolding block_at
  length-block_at k h = simp (length-take, length-drop) (omega (arith, sound.whole))

  -- block k keeps the rules
  pub keeps : (k : ℕ) → k < block_count file → Rules (eqb (k + 1) (block_count file)) k (block_at file k)
  unfolding fault_at
  keeps k h = rules _ _ _ (sound.each k h)

  pub used-most : (k : ℕ) → k < block_count file → used_count (block_at file k) ≤ 504
  used-most k h = right_count-most _ _ (keeps k h).counted

  -- every block but the last uses 504 bytes
  pub used-full : (k : ℕ) → k + 1 < block_count file → used_count (block_at file k) ≡ 504
  unfolding right_count
  used-full k h =
      let inner : eqb (k + 1) (block_count file) ≡ false = ne_eqb (k + 1) (block_count file) (λ e. omega arith) in
      eqb-true _ _ (rw inner at (keeps k (omega arith)).counted)

  pub length-contents_at : (k : ℕ) → k < block_count file → length (contents_at file k) ≡ used_count (block_at file k)
  unfolding contents_at used_contents
  length-contents_at k h = simp (length-take, length-drop) (omega (arith, used-most k h, length-block_at k h))

  -- the bundle's length before block k, with it, and in all
  pub length_before : (k : ℕ) → k < block_count file → length (joined (contents_at file) k) ≡ 504 * k
  length_before k h = length-joined (contents_at file) 504 k (λ j l. length-contents_at j (omega arith) ∙ used-full j (omega arith))

  pub length_through : (k : ℕ) → k < block_count file → length (joined (contents_at file) (k + 1)) ≡ 504 * k + used_count (block_at file k)
  length_through k h =
      omega (arith, ap length (joined-next (contents_at file) k), length-append (joined (contents_at file) k) (contents_at file k), length_before k h, length-contents_at k h)

  pub length-bundle : length (bundle_of file) ≡ 504 * (block_count file - 1) + used_count (block_at file (block_count file - 1))
  unfolding bundle_of
  length-bundle =
      let last : block_count file - 1 + 1 ≡ block_count file = omega arith in
      ap (λ (k : ℕ). length (joined (contents_at file) k)) (sym last) ∙ length_through (block_count file - 1) (omega arith)

  -- the used contents of block k, as a part of the file
  pub contents-part : (k : ℕ) → k < block_count file → take (used_count (block_at file k)) (drop (512 * k + 4) file) ≡ contents_at file k
  unfolding contents_at used_contents block_at
  contents-part k h = sym (take-drop-take (used_count (block_at file k)) 4 512 (drop (512 * k) file) (omega (arith, used-most k h)) ∙ rw drop-drop)

-- ---- The lowest fault

module _ (file : List ℕ) where
  pub first_fault-none : ((k : ℕ) → k < block_count file → fault_at file k ≡ 0) → first_fault file ≡ refusal 0 (block_count file)
  unfolding first_fault first_faulty
  first_fault-none none =
      rw (eq-eqb _ _ (first_false-all (λ (k : ℕ). is_zero (fault_at file k)) (block_count file) (λ k h. eq-eqb _ _ (none k h))))

  pub first_fault-at : (k : ℕ) → k < block_count file → ((j : ℕ) → j < k → fault_at file j ≡ 0) → (fault_at file k ≡ 0 → ⊥)
      → first_fault file ≡ refusal (fault_at file k) k
  unfolding first_fault first_faulty
  first_fault-at k h below here =
      rw (first_false-at (λ (j : ℕ). is_zero (fault_at file j)) (block_count file) k h (λ j l. eq-eqb _ _ (below j l)) (ne_eqb _ _ here), ne_eqb k (block_count file) (λ e. omega arith))

  -- where there is a fault, the number is not 0
  faulty : (first_faulty file ≡ block_count file → ⊥) → fault_at file (first_faulty file) ≡ 0 → ⊥
  unfolding first_faulty
  faulty some none =
      let test : ℕ → Bool = λ k. is_zero (fault_at file k) in
      let below : first_faulty file < block_count file = ⊎_elim (λ e. absurd (some e)) (λ l. l) (eq-or-lt_of_le (first_false-most test (block_count file))) in
      eqb-false _ 0 (first_false-fails test (block_count file) below) none

  -- number 0 stands for no fault, and only for that
  pub first_fault-zero : (first_fault file).number ≡ 0 → (k : ℕ) → k < block_count file → fault_at file k ≡ 0
  unfolding first_fault first_faulty
  first_fault-zero e = go (eqb (first_faulty file) (block_count file)) refl e
    where
      go : (b : Bool) → eqb (first_faulty file) (block_count file) ≡ b
          → (cond b (refusal 0 (block_count file)) (refusal (fault_at file (first_faulty file)) (first_faulty file))).number ≡ 0
          → (k : ℕ) → k < block_count file → fault_at file k ≡ 0
      go true p z k h = eqb-true _ _ (first_false-none (λ (j : ℕ). is_zero (fault_at file j)) (block_count file) (eqb-true _ _ p) k h)
      go false p z k h = absurd (faulty (eqb-false _ _ p) z)

-- ---- How opening ends

-- a file of whole blocks
pub right_length-whole : (n : ℕ) → right_length n ≡ true → (1 ≤ n) × (n ≡ 512 * (n / 512)) × (n ≤ max_file_size)
unfolding right_length
right_length-whole n e =
    let rest = and_right (leb 1 n) _ e in
    let whole = eqb-true (n % 512) 0 (and_left (eqb (n % 512) 0) _ rest) in
    (leb-true _ _ (and_left (leb 1 n) _ e), omega arith, leb-true _ _ (and_right (eqb (n % 512) 0) _ rest))

module _ (file : List ℕ) where
  pub opened-length : right_length (length file) ≡ false → opened file ≡ refused file_length_number 0
  unfolding opened
  opened-length e = fails _ _ _ _ e

  pub opened-fault : right_length (length file) ≡ true → ((first_fault file).number ≡ 0 → ⊥) → opened file ≡ refused (first_fault file).number (first_fault file).spot
  unfolding opened
  opened-fault e bad = passes _ _ _ _ e ∙ fails _ _ _ _ (ne_eqb (first_fault file).number 0 bad)

  pub opened-bundle : right_length (length file) ≡ true → (first_fault file).number ≡ 0 → opened file ≡ value (bundle_of file)
  unfolding opened
  opened-bundle e none = passes _ _ _ _ e ∙ passes _ _ _ _ (eq-eqb (first_fault file).number 0 none)

  -- and back
  pub opened→ : (bundle : List ℕ) → opened file ≡ value bundle → (right_length (length file) ≡ true) × ((first_fault file).number ≡ 0) × (bundle_of file ≡ bundle)
  unfolding opened
  opened→ bundle e =
      let p = passed _ _ _ _ bundle e in
      let q = passed _ _ _ _ bundle p.1 in
      let is = q.1 in
      (p.0, eqb-true _ _ q.0, cc)

  pub opened-sound : right_length (length file) ≡ true → (first_fault file).number ≡ 0 → Sound file
  unfolding block_count
  opened-sound e none =
      let w = right_length-whole (length file) e in
      record { whole = w.1; some = omega arith; most = omega arith; each = first_fault-zero file none }
