-- The loop that notes the rows of a word's prefixes.
use Rattle.std.specs.Prelude.{◌≡◌, ℕ, ◌+◌, ◌<◌, ◌≤◌, get_or, take, drop, set}
use Rattle.std.proofs.Math.Path.{refl, ap}
use Rattle.std.proofs.Common.{◌∙◌, zero-le, add-one, arith, length-set, take-suc, get_or-set_same}
use mathlib.Core.List.{List, [], ◌∷◌, ◌++◌}
use Rattle.std.proofs.Math.ListN.{length, drop_of_length-le}
use Rattle.std.proofs.Math.Seq.{drop-cons, append_snoc}
use Rattle.std.proofs.lemmas.List.{take-set-le}
use Rattle.limits.specs.Limits.{max_events}
use Rattle.rows.specs.Rows.{Row, add_event, absent, row_or, new_rows, numbered, none}
use Rattle.taking.specs.Prefixes.{Counted, counted_none, counted-add_event, count-again, count-end}
use Rattle.rows.specs.Growth.{new_le}

-- after i events of w: ns has the rows of the prefixes so far, the prefix has the counts v, and the next new row is k
pub record Noting (rs : List Row) (k₀ : ℕ) (w ns₀ ns v : List ℕ) (k i : ℕ) : Type 0 where
  pub passed : i ≤ length w
  pub counted : Counted v i
  pub size : length ns ≡ length ns₀
  pub few : k ≤ k₀ + i
  pub more : k + new_rows rs v (drop i w) ≡ k₀ + new_rows rs none w
  pub noted : take i ns ++ numbered rs k v (drop i w) ≡ numbered rs k₀ none w

pub noting_none : (rs : List Row) (k : ℕ) (w ns v : List ℕ) → v ≡ none → Noting rs k w ns ns v k 0
noting_none rs k w ns v e =
    rw e (record { passed = zero-le; counted = counted_none; size = refl; few = omega arith; more = refl; noted = refl })

-- one more row is noted
note : (ns : List ℕ) (i x : ℕ) → i < length ns → take (i + 1) (set ns i x) ≡ take i ns ++ (x ∷ [])
note ns i x h = rw (add-one, take-suc (set ns i x) i 0 (rw length-set h), take-set-le i ns i x (omega arith), get_or-set_same ns i x 0 h)

module _ (rs : List Row) (k₀ : ℕ) (w ns₀ ns v : List ℕ) (k i : ℕ) (s : Noting rs k₀ w ns₀ ns v k i) (room : length w < length ns₀)
    (ns' : List ℕ) (k' : ℕ) (now : k' ≡ k + absent v rs) (noted : ns' ≡ set ns i (row_or rs k v)) where
  here : i < length ns
  here = omega (arith, s.size, s.passed)

  -- a turn of the loop
  pub noting_again : (v' : List ℕ) → i < length w → get_or w i 0 < max_events → v' ≡ add_event v (get_or w i 0) → Noting rs k₀ w ns₀ ns' v' k' (i + 1)
  unfolding numbered
  noting_again v' h event next = record {
    passed = omega arith;
    counted = rw next (counted-add_event v i (get_or w i 0) event s.counted);
    size = rw noted (length-set ns i _ ∙ s.size);
    few = omega (arith, now, new_le (absent v rs) v rs refl, s.few);
    more = rw now (count-again rs v v' w i _ k (absent v rs) s.more refl h next);
    noted =
        ap (λ (l : List ℕ). l ++ numbered rs k' v' (drop (i + 1) w)) (ap (take (i + 1)) noted ∙ note ns i (row_or rs k v) here)
        ∙ append_snoc (take i ns) (row_or rs k v) (numbered rs k' v' (drop (i + 1) w))
        ∙ rw (now, next, ← s.noted, drop-cons w i 0 h, add-one);
  }

  -- the last prefix
  pub noting_end : length w ≤ i → (k' ≡ k₀ + new_rows rs none w) × (take (length w + 1) ns' ≡ numbered rs k₀ none w)
  unfolding numbered
  noting_end h =
      let last : length w ≡ i = omega (arith, s.passed) in (
        now ∙ count-end rs v v w i _ k (absent v rs) s.more refl h,
        rw (last, noted) (note ns i (row_or rs k v) here ∙ rw (← s.noted, drop_of_length-le w h)),
      )
