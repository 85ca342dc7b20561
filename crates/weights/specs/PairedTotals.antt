-- The sums of terms and pairs, as the code has them, hold when the weights do.
use Rattle.std.specs.Prelude.{◌≡◌, Bool, true, false, ◌&&◌, Option, List, [], ℕ, ◌+◌, ◌*◌, ◌≤◌, ◌<◌, leb, ℤ, pos, ◌+ℤ◌, get_or}
use Rattle.std.specs.Int.Signed.{le_z}
use Rattle.std.proofs.Common.{refl, sym, ap, ap₂, ◌∙◌, add-zero, arith, leb-true}
use Rattle.std.proofs.Math.Bool.{and-true}
use Rattle.std.proofs.Math.IntN.{+ℤ_assoc, +ℤ_comm}
use Rattle.laws.specs.Lists.{all, all_below, all_below-same, tabulate, get_d_tabulate}
use Rattle.limits.specs.Limits.{max_events}
use Rattle.nets.specs.Nets.{Counts, at, same}
use Rattle.nets.specs.Weights.{weighed-add}
use Rattle.rows.specs.Rows.{Row}
use Rattle.bundles.specs.Layout.{TermFields, PairFields}
use Rattle.pairs.specs.Pairs.{all_noted, paired_rows}
use Rattle.weights.specs.Terms.{weight_in, step_in, weighed_rows, holds_rows}
use Rattle.weights.specs.Totals.{max_number, sums_hold, paired_holds_at, paired_hold, all_both, sums_of, Summed}

module _ (rs : List Row) {ts : List TermFields} {total : ℕ} {before of_event : List ℕ} {allowed : Bool}
    (s : Summed rs ts total before of_event allowed) (noted : List (Option ℕ))
    (v : Counts) (e k : ℕ) (small : k ≤ max_number) where
  pub summed-paired : (qs : List PairFields)
      → (allowed && all_noted noted qs && leb total k && paired_hold before of_event (tabulate max_events (paired_rows rs noted qs)) v e k)
      ≡ holds_rows rs noted v e (record { k = k; terms = ts; pairs = qs })
  unfolding paired_hold holds_rows
  summed-paired qs = rw (← s.steps, ← s.weights) (go allowed (all_noted noted qs) (leb total k) refl)
    where
      paired : ℕ → ℤ
      paired = paired_rows rs noted qs

      second : ℕ → ℕ → Bool
      second x i = le_z (pos x +ℤ paired i) (pos (k * at v i))

      third : ℕ → ℕ → Bool
      third x i = le_z (pos (k * (at v i + same e i))) (pos x +ℤ paired i)

      swap : (x y : ℕ) (z : ℤ) → pos x +ℤ z +ℤ pos y ≡ pos (x + y) +ℤ z
      swap x y z = +ℤ_assoc (pos x) z (pos y) ∙ ap (λ (c : ℤ). pos x +ℤ c) (+ℤ_comm z (pos y)) ∙ sym (+ℤ_assoc (pos x) (pos y) z)

      go : (a b c : Bool) → leb total k ≡ c
          → (a && b && c && all_below max_events (paired_holds_at before of_event (tabulate max_events paired) v e k))
          ≡ (a && b && c && all_below max_events (λ i. second (weighed_rows rs (λ u f. at u i) ts) i)
          && all_below max_events (λ i. third (weighed_rows rs (λ u f. at u i + same f i) ts) i))
      go false b c q = refl
      go true false c q = refl
      go true true false q = refl
      go true true true q =
          let most : total ≤ k = leb-true total k q in
          let is : (before ≡ sums_of rs (λ i u f. at u i) ts) × (of_event ≡ sums_of rs (λ i u f. same f i) ts) = s.exact (omega arith) in
          let first : (i : ℕ) → i < max_events → at before i ≡ weighed_rows rs (λ u f. at u i) ts =
          λ i b. ap (λ (l : List ℕ). at l i) is.0 ∙ get_d_tabulate max_events _ i 0 b in
          let later : (i : ℕ) → i < max_events → at of_event i ≡ weighed_rows rs (λ u f. same f i) ts =
          λ i b. ap (λ (l : List ℕ). at l i) is.1 ∙ get_d_tabulate max_events _ i 0 b in
          let here : (i : ℕ) → i < max_events → get_or (tabulate max_events paired) i (pos 0) ≡ paired i =
          λ i b. get_d_tabulate max_events paired i (pos 0) b in
          all_both _ _ (tabulate max_events (λ i. i))
          ∙ ap₂ (λ (x y : Bool). x && y)
          (all_below-same max_events _ _ (λ i b. ap₂ (λ (x : ℕ) (z : ℤ). le_z (pos x +ℤ z) (pos (k * at v i))) (first i b) (here i b)))
          (all_below-same max_events _ _ (λ i b.
          ap (le_z (pos (k * (at v i + same e i))))
          (ap (λ (z : ℤ). pos (at before i) +ℤ z +ℤ pos (at of_event i)) (here i b) ∙ swap (at before i) (at of_event i) (paired i))
          ∙ ap (λ (x : ℕ). third x i)
          (ap₂ ◌+◌ (first i b) (later i b) ∙ sym (weighed-add weight_in (step_in rs (λ u f. at u i)) (step_in rs (λ u f. same f i)) ts))))

  -- without pairs
  none-paired : (i : ℕ) → i < max_events → get_or (tabulate max_events (paired_rows rs noted [])) i (pos 0) ≡ pos 0
  unfolding paired_rows
  none-paired i b = get_d_tabulate max_events (paired_rows rs noted []) i (pos 0) b

  hold-alone : sums_hold before of_event v e k ≡ paired_hold before of_event (tabulate max_events (paired_rows rs noted [])) v e k
  unfolding sums_hold paired_hold
  hold-alone = all_below-same max_events _ _ (λ i b. sym (alone i b))
    where
      alone : (i : ℕ) → i < max_events
          → (le_z (pos (at before i) +ℤ get_or (tabulate max_events (paired_rows rs noted [])) i (pos 0)) (pos (k * at v i))
          && le_z (pos (k * (at v i + same e i)))
          (pos (at before i) +ℤ get_or (tabulate max_events (paired_rows rs noted [])) i (pos 0) +ℤ pos (at of_event i)))
          ≡ (leb (at before i) (k * at v i) && leb (k * (at v i + same e i)) (at before i + at of_event i))
      alone i b = rw (none-paired i b, add-zero)

  none_noted : all_noted noted [] ≡ true
  unfolding all_noted all
  none_noted = refl

  pub summed-alone : (allowed && leb total k && sums_hold before of_event v e k) ≡ holds_rows rs noted v e (record { k = k; terms = ts; pairs = [] })
  summed-alone =
      ap (λ (x : Bool). allowed && leb total k && x) hold-alone
      ∙ passed allowed (all_noted noted []) (leb total k)
      (paired_hold before of_event (tabulate max_events (paired_rows rs noted [])) v e k) none_noted
      ∙ summed-paired []
    where
      passed : (a n t x : Bool) → n ≡ true → (a && t && x) ≡ (a && n && t && x)
      passed a n t x e = rw (e, and-true a) refl
