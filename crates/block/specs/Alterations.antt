-- Files of one length: where one opens, and the other differs from it in one byte or two, the other is refused at the lowest block that differs.
use Rattle.std.specs.Prelude.{◌≡◌, true, ℕ, ◌+◌, ◌*◌, ◌/◌, ◌≤◌, ◌<◌, length, take, drop}
use Rattle.std.proofs.Math.Path.{refl, ap}
use Rattle.std.proofs.Common.{sym, ◌∙◌, arith, length-take, length-drop, eqb-true}
use Rattle.std.proofs.lemmas.Bool.{false≢true}
use Rattle.std.proofs.Math.Logic.{⊎_elim}
use mathlib.Core.List.{List}
use Rattle.std.proofs.Math.ListN.{get_or}
use Rattle.std.proofs.Math.Seq.{get_or-take, get_or-drop}
use Rattle.laws.specs.Booleans.{impossible, yes_true, lt_or_le}
use Rattle.laws.specs.Lists.{any, among, not-among, equal, eq→equal, equal_true}
use Rattle.laws.specs.Numbers.{Bytes, bytes_take, bytes_drop}
use Rattle.laws.specs.Distance.{distance, distance-part}
use Rattle.laws.specs.Scans.{first_false_cases}
use Rattle.refusals.specs.Table.{file_length_number}
use Rattle.refusals.specs.Results.{value, refused}
use Rattle.block.specs.File.{block_count, block_at, fault_at, right_length, opened}
use Rattle.block.specs.OpenLaws.{right_length-whole}
use Rattle.block.specs.RefusalNumbers.{fault_numbers, fault-numbers}
use Rattle.block.specs.Causes.{fault_at-none, opened-fault-exactly, opened_gives}
use Rattle.block.specs.OtherBlocks.{front-blocks, same_blocks}
use Rattle.block.specs.SumLaws.{same_block}

-- block k is the lowest that is not the same in both
pub record LowestAltered (file altered : List ℕ) (k : ℕ) : Type 0 where
  pub within : k < block_count file
  pub here : block_at altered k ≡ block_at file k → ⊥
  pub lower : (j : ℕ) → j < k → block_at altered j ≡ block_at file j

module _ (file altered : List ℕ) where
  -- the same bytes up to block k, and another byte in it
  pub lowest-at : (k i : ℕ) → k < block_count file → i < 512 → take (512 * k) altered ≡ take (512 * k) file
      → (get_or altered (512 * k + i) 0 ≡ get_or file (512 * k + i) 0 → ⊥) → LowestAltered file altered k
  unfolding block_at
  lowest-at k i within inside front differs = record {
    within = within;
    here = λ same. differs (sym (byte altered) ∙ ap (λ (l : List ℕ). get_or l i 0) same ∙ byte file);
    lower = front-blocks file altered k front;
  }
    where
      byte : (l : List ℕ) → get_or (take 512 (drop (512 * k) l)) i 0 ≡ get_or l (512 * k + i) 0
      byte l = get_or-take 512 (drop (512 * k) l) i 0 inside ∙ get_or-drop (512 * k) l i 0

  module _ (b : List ℕ) (opens : opened file ≡ value b) (size : length altered ≡ length file) where
    right : right_length (length file) ≡ true
    right = (((opened_gives file).line b).0 opens).0

    kept : (k : ℕ) → k < block_count file → fault_at file k ≡ 0
    kept = (((opened_gives file).line b).0 opens).1

    whole : length file ≡ 512 * block_count file
    unfolding block_count
    whole = (right_length-whole (length file) right).1

    count : block_count altered ≡ block_count file
    unfolding block_count
    count = ap (λ (n : ℕ). n / 512) size

    -- where they differ, there is a lowest block that does
    pub lowest-altered : (altered ≡ file → ⊥) → (k : ℕ) × LowestAltered file altered k
    lowest-altered differs = ⊎_elim
        (λ (k, within, here, lower). (
          k,
          record {
            within = within;
            here = λ same. false≢true (sym here ∙ yes_true _ (eq→equal _ _ same));
            lower = λ j less. equal_true _ _ (lower j less);
          },
        ))
        (λ each. absurd (differs (same_blocks file altered (block_count file) whole (size ∙ whole) (λ k h. equal_true _ _ (each k h)))))
        (first_false_cases (λ k. equal (block_at altered k) (block_at file k)) (block_count file))

    module _ (old : Bytes file) (new : Bytes altered) (near : distance file altered ≤ 2) (k : ℕ) (lowest : LowestAltered file altered k) where
      full : (l : List ℕ) → length l ≡ length file → length (block_at l k) ≡ 512
      unfolding block_at
      full l same = simp (length-take, length-drop) (omega (arith, whole, lowest.within))

      bytes-block : (l : List ℕ) → Bytes l → Bytes (block_at l k)
      unfolding block_at
      bytes-block l small = bytes_take 512 (drop (512 * k) l) (bytes_drop (512 * k) l small)

      near-block : distance (block_at file k) (block_at altered k) ≤ 2
      unfolding block_at
      near-block = omega (arith, distance-part 512 (512 * k) file altered)

      faulty : fault_at altered k ≡ 0 → ⊥
      faulty none = lowest.here
          (same_block (block_at file k) (block_at altered k) (full file refl) (full altered size) (bytes-block file old) (bytes-block altered new)
          ((fault_at-none file k).0 (kept k lowest.within)).2 ((fault_at-none altered k).0 none).2 near-block)

      -- the fault is one of a block
      pub altered-number : among (fault_at altered k) fault_numbers ≡ true
      unfolding fault_at
      altered-number = ⊎_elim (λ none. absurd (faulty (eqb-true _ _ none))) (λ listed. listed) (fault-numbers _ _ _)

      lower-kept : (j : ℕ) → j < k → fault_at altered j ≡ 0
      unfolding fault_at
      lower-kept j less = rw (count, lowest.lower j less) (kept j (omega (arith, lowest.within)))

      -- where the first opens, and they differ in one byte or two, the other is refused at the lowest block that differs
      pub altered-refused : opened altered ≡ refused (fault_at altered k) k
      unfolding any
      altered-refused =
          ((opened-fault-exactly altered (fault_at altered k) faulty (not-among fault_numbers file_length_number _ refl altered-number)).line k).1
          (ap right_length size ∙ right, (rw count lowest.within, refl, lower-kept))

-- two files of one length that open, and are not the same, differ in three bytes or more
pub three-apart : (file other b c : List ℕ) → opened file ≡ value b → opened other ≡ value c → length other ≡ length file → Bytes file → Bytes other
    → (other ≡ file → ⊥) → 3 ≤ distance file other
three-apart file other b c opens others size old new differs = ⊎_elim
    (λ near. let (k, lowest) = lowest-altered file other b opens size differs in
    impossible (let e = sym others ∙ altered-refused file other b opens size old new (omega arith) k lowest in cc))
    (λ far. far)
    (lt_or_le (distance file other) 3)
