-- The page of request 4, proved: one theorem on files that differ in one byte or two, `altered-refused` of the block crate, and its cases.
use Rattle.std.specs.Prelude.{◌≡◌, refl, Bool, true, false, ◌||◌, ◌⊎◌, List, ℕ, ◌+◌, ◌*◌, ◌/◌, ◌%◌, ◌≤◌, ◌<◌, eqb, length, take, get_or, set}
use Rattle.std.proofs.Common.{sym, ◌∙◌, inl, inr, arith, length-set, get_or-set_same, get_or-set_other, eqb-true}
use Rattle.std.proofs.Math.Path.{ap}
use Rattle.std.proofs.lemmas.Bool.{false≢true}
use Rattle.std.proofs.lemmas.List.{take-set-le}
use Rattle.laws.specs.Lists.{any, among}
use Rattle.laws.specs.Distance.{distance, distance_self, distance-set}
use Rattle.laws.specs.Numbers.{Bytes, bytes-set}
use Rattle.limits.specs.Limits.{right_size_intro}
use Rattle.refusals.specs.Results.{value}
use Rattle.refusals.specs.Answers.{written}
use Rattle.refusals.proofs.Laws.{ends-refused, answer-taken}
use Rattle.block.specs.File.{block_count, block_at, fault_at, opened, sealed_file, sealed}
use Rattle.block.specs.OpenLaws.{right_length-whole}
use Rattle.block.specs.SealLaws.{sealed-file, sealed→}
use Rattle.block.specs.RoundTrip.{opened-sealed, sealed-small}
use Rattle.block.specs.RefusalNumbers.{fault_numbers}
use Rattle.block.specs.Causes.{opened_gives}
use Rattle.block.specs.Alterations.{lowest-at, lowest-altered, altered-number, altered-refused, three-apart}
use Rattle.block.specs.Alterations as blocks
use Rattle.demands.specs.Opening.{byte_of}
use Rattle.demands.specs.BlockOrderProved.{answer-refused}
use Rattle.demands.specs.CallSamples.{three_uncaught}
use Rattle.demands.specs.Alterations.{swapped, LowestAltered, RefusedAt, SumsCatch, Request4}

-- one of the three numbers
which-number : (n : ℕ) → among n fault_numbers ≡ true → (n ≡ 17) ⊎ ((n ≡ 18) ⊎ (n ≡ 2))
unfolding any
which-number n e = go (eqb n 17) refl (eqb n 18) refl (eqb n 2) refl e
  where
    go : (p : Bool) → eqb n 17 ≡ p → (q : Bool) → eqb n 18 ≡ q → (s : Bool) → eqb n 2 ≡ s → (p || (q || (s || false))) ≡ true
        → (n ≡ 17) ⊎ ((n ≡ 18) ⊎ (n ≡ 2))
    go true is q other s last e = inl (eqb-true _ _ is)
    go false is true other s last e = inr (inl (eqb-true _ _ other))
    go false is false other true last e = inr (inr (eqb-true _ _ last))
    go false is false other false last e = absurd (false≢true e)

module _ (file b : List ℕ) (old : Bytes file) (opens : opened file ≡ value b) where
  whole : length file ≡ 512 * block_count file
  unfolding block_count
  whole = (right_length-whole (length file) (((opened_gives file).line b).0 opens).0).1

  -- at the lowest altered block
  refused-at : (altered : List ℕ) → length altered ≡ length file → Bytes altered → distance file altered ≤ 2 → (k : ℕ)
      → blocks.LowestAltered file altered k → RefusedAt altered k
  refused-at altered size new near k lowest =
      let refuses = altered-refused file altered b opens size old new near k lowest in
      record {
        number = fault_at altered k;
        which = which-number _ (altered-number file altered b opens size old new near k lowest);
        refuses = λ room. answer-refused (opened altered) _ k room refuses;
        untouched = λ output. sym (ends-refused (opened altered) output _ k refuses).1;
      }

  one : (i x : ℕ) → i < length file → x < 256 → (x ≡ get_or file i 0 → ⊥) → RefusedAt (set file i x) (i / 512)
  one i x inside small differs = refused-at (set file i x) (length-set file i x) (bytes-set file i x old small) near (i / 512)
      (lowest-at file (set file i x) (i / 512) (i % 512) (omega (arith, whole)) (omega arith) front other)
    where
      near : distance file (set file i x) ≤ 2
      near = omega (arith, distance-set file file i x, distance_self file)

      front : take (512 * (i / 512)) (set file i x) ≡ take (512 * (i / 512)) file
      front = take-set-le (512 * (i / 512)) file i x (omega arith)

      at : 512 * (i / 512) + i % 512 ≡ i
      at = omega arith

      other : get_or (set file i x) (512 * (i / 512) + i % 512) 0 ≡ get_or file (512 * (i / 512) + i % 512) 0 → ⊥
      other = rw at (λ same. differs (sym (get_or-set_same file i x 0 inside) ∙ same))

  places : (k i j : ℕ) → 512 * k < length file → i < 508 → j < 508 → (byte_of file k i ≡ byte_of file k j → ⊥)
      → RefusedAt (swapped (512 * k + i) (512 * k + j) file) k
  places k i j inside hi hj differs = refused-at altered size new near k (lowest-at file altered k i (omega (arith, whole)) (omega arith) front other)
    where
      p : ℕ
      p = 512 * k + i

      q : ℕ
      q = 512 * k + j

      x : ℕ
      x = get_or file q 0

      y : ℕ
      y = get_or file p 0

      altered : List ℕ
      altered = set (set file p x) q y

      size : length altered ≡ length file
      size = length-set (set file p x) q y ∙ length-set file p x

      new : Bytes altered
      new = bytes-set (set file p x) q y (bytes-set file p x old (old q)) (old p)

      near : distance file altered ≤ 2
      near = omega (arith, distance-set file (set file p x) q y, distance-set file file p x, distance_self file)

      front : take (512 * k) altered ≡ take (512 * k) file
      front = take-set-le (512 * k) (set file p x) q y (omega arith) ∙ take-set-le (512 * k) file p x (omega arith)

      other : get_or altered p 0 ≡ y → ⊥
      other same =
          let apart : p ≡ q → ⊥ = λ e. differs (ap (λ (n : ℕ). get_or file n 0) e) in
          differs (sym (sym (get_or-set_other (set file p x) q p y 0 apart ∙ get_or-set_same file p x 0 (omega (arith, whole))) ∙ same))

  two : (altered : List ℕ) → length altered ≡ length file → Bytes altered → 1 ≤ distance file altered → distance file altered ≤ 2
      → (k : ℕ) × LowestAltered file altered k × RefusedAt altered k
  unfolding block_at
  two altered size new some near =
      let (k, lowest) = lowest-altered file altered b opens size (λ e. omega (arith, ap (distance file) e, distance_self file)) in
      (k, record { here = lowest.here; lower = lowest.lower }, refused-at altered size new near k lowest)

  sums_catch : SumsCatch file
  sums_catch = record {
    one = one;
    places = places;
    two = two;
    apart = λ other c size new others differs. three-apart file other b c opens others size old new differs;
  }

-- what sealing gives, opens
sealed_catch : (b file : List ℕ) → Bytes b → sealed b ≡ value file → SumsCatch file
sealed_catch b file small e =
    let same = (sealed→ b file e).1 in
    sums_catch file b (rw (← same) (sealed-small b small)) (opened-sealed b file e)

pub request_4 : Request4
request_4 = record {
  files = λ b small some most. sealed_catch b (sealed_file b) small (sealed-file b (right_size_intro (length b) some most));
  calls = λ b output n small e. sealed_catch b (take n (written (sealed b) output)) small (answer-taken (sealed b) output n e);
  opening = sums_catch;
  three = three_uncaught;
}
