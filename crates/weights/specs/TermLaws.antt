-- Weights tested on the rows of a log's table hold exactly when they hold in the definitions.
use Rattle.std.specs.Prelude.{◌≡◌, Bool, true, false, ◌&&◌, Option, ℤ, pos, ◌+ℤ◌, length}
use Rattle.std.specs.Int.Signed.{le_z}
use Rattle.std.proofs.Math.Path.{refl, sym, ap, ap₂}
use Rattle.std.proofs.Common.{◌∙◌, arith, le-leb}
use mathlib.Core.List.{List, [], ◌∷◌, map}
use Prim.Native.Nat.{ℕ, ◌+◌, ◌*◌, ◌≤◌, ◌<◌}
use Rattle.std.proofs.Math.Nat.{mul-zero}
use Rattle.std.proofs.Math.ListN.{get_or, get_or-eq_default}
use Rattle.laws.specs.Every.{Every}
use Rattle.laws.specs.Parts.{get_d_padded}
use Rattle.laws.specs.Lists.{all, all_map, all_below, all_below-same, all_below-wide, get_d_member, get_d_map}
use Rattle.laws.specs.Bits.{bit}
use Rattle.limits.specs.Limits.{max_events}
use Rattle.nets.specs.Nets.{Counts, Log, Step, at, same, rows, allowed, weighed}
use Rattle.nets.specs.Bundle.{Term, Pair, Weights, weight_of, names_completed, weighs_before, weighs_after, weights_hold}
use Rattle.nets.proofs.Rows.{row→}
use Rattle.nets.specs.CountLaws.{length-counts}
use Rattle.nets.specs.Weights.{same_ne}
use Rattle.nets.specs.Fits.{LogBelow}
use Rattle.nets.specs.Wide.{wide}
use Rattle.rows.specs.Rows.{Row, new_row, none}
use Rattle.logs.specs.Log.{log_row, log_rows}
use Rattle.logs.specs.LogTable.{log_rows-is, log_row-bit}
use Rattle.bundles.specs.Layout.{TermFields, Head, TermInLimits, to_term, to_pair, WeightFields, WeightsInLimits, rows_in, to_weights, words_in, LogBelowIn, weights_hold_in}
use Rattle.heads.specs.Noted.{Noted}
use Rattle.pairs.specs.Pairs.{row_of, all_noted, paired_rows}
use Rattle.pairs.specs.PairLaws.{noted-is, paired-is, paired-beyond}
use Rattle.weights.specs.Terms.{weighed_rows, holds_rows}

-- 0 is at most any natural number
none-most : (x b : ℕ) {z : ℤ} → x ≡ 0 → z ≡ pos 0 → le_z (pos x +ℤ z) (pos b) ≡ true
none-most x b e f = rw (e, f) (le-leb 0 b (omega arith))

none-least : (a x : ℕ) {z : ℤ} → a ≡ 0 → z ≡ pos 0 → le_z (pos a) (pos x +ℤ z) ≡ true
none-least a x e f = rw (e, f) (le-leb 0 (x + 0) (omega arith))

-- two tests that agree where an earlier one passes
agree_where_named : (a n t : Bool) {x y x' y' : Bool} → (n ≡ true → (x ≡ x') × (y ≡ y')) → (a && n && t && x && y) ≡ (a && n && t && x' && y')
agree_where_named false n t agree = refl
agree_where_named true false t agree = refl
agree_where_named true true t agree = let q = agree refl in ap₂ (λ (x y : Bool). t && x && y) q.0 q.1

-- tests that agree where P holds
all_every : {A : Type 0} (P : A → Type 0) (f g : A → Bool) → ((x : A) → P x → f x ≡ g x) → (xs : List A) → Every P xs → all f xs ≡ all g xs
unfolding all
all_every P f g h [] v = refl
all_every P f g h (x ∷ xs) v = ap₂ ◌&&◌ (h x v.0) (all_every P f g h xs v.1)

module _ (n k' : ℕ) (log : Log) (width : n + k' ≡ max_events) (below : LogBelow n log) where
  -- row i of the log's table: its counts with zeros from n on, and the events that the log allows
  row_is : (i : ℕ) → i < length (rows n log) → row_of (log_rows log) i ≡ log_row log (wide k' (get_or (rows n log) i []))
  row_is i h = ap (λ (rs : List Row). get_or rs i (new_row none)) (log_rows-is n k' log width below) ∙ get_d_map _ (rows n log) i [] (new_row none) h

  pub row_counts : (i : ℕ) → i < length (rows n log) → (row_of (log_rows log) i).counts ≡ wide k' (get_or (rows n log) i [])
  row_counts i h = ap (λ (r : Row). r.counts) (row_is i h)

  pub row-mask : (i : ℕ) → i < length (rows n log) → (e : ℕ) → e < n
      → bit (row_of (log_rows log) i).mask e ≡ allowed n log (record { row = get_or (rows n log) i []; event = e })
  row-mask i h e b = ap (λ (r : Row). bit r.mask e) (row_is i h) ∙ log_row-bit n k' log width below (get_or (rows n log) i []) e (omega arith)

-- no count of a row is above its width
pub row-beyond : (n : ℕ) (log : Log) (r : ℕ) → r < length (rows n log) → (i : ℕ) → n ≤ i → at (get_or (rows n log) r []) i ≡ 0
row-beyond n log r h i b =
    let from = row→ n log (get_d_member (rows n log) r [] h) in
    get_or-eq_default (get_or (rows n log) r []) 0 {n = i} (omega (arith, ap length from.2, length-counts n from.0))

module _ (h : Head) (k' : ℕ) (width : h.events + k' ≡ max_events) (below : LogBelowIn h) where
  -- a sum over the rows of the table is the sum over the steps
  weighed-is : (f : Counts → ℕ → ℕ) (g : Step → ℕ) → ((v : Counts) (e : ℕ) → f (wide k' v) e ≡ g (record { row = v; event = e }))
      → (ts : List TermFields) → Every (TermInLimits h) ts
      → weighed_rows (log_rows (words_in h)) f ts ≡ weighed weight_of (λ t. g t.step) (map (to_term h) ts)
  unfolding weighed to_term
  weighed-is f g agree [] v = refl
  weighed-is f g agree (t ∷ ts) v = ap₂ ◌+◌
      (ap (λ (x : ℕ). t.weight * x)
      (ap (λ (u : Counts). f u t.event) (row_counts h.events k' (words_in h) width below t.row v.0.row) ∙ agree _ t.event))
      (weighed-is f g agree ts v.1)

  -- from n on, no count is above 0
  weighed-beyond : (i : ℕ) → h.events ≤ i → (ts : List TermFields) → Every (TermInLimits h) ts
      → weighed weight_of (λ t. at t.step.row i) (map (to_term h) ts) ≡ 0
  unfolding weighed to_term
  weighed-beyond i b [] v = refl
  weighed-beyond i b (t ∷ ts) v =
      omega (arith, weighed-beyond i b ts v.1, ap (λ (x : ℕ). t.weight * x) (row-beyond h.events (words_in h) t.row v.0.row i b), mul-zero t.weight)

  -- a test of each count, where it passes by itself from n on
  counts-tested : (f g : ℕ → Bool) → ((i : ℕ) → f i ≡ g i) → ((i : ℕ) → h.events ≤ i → g i ≡ true) → all_below max_events f ≡ all_below h.events g
  counts-tested f g agree beyond =
      ap (λ (c : ℕ). all_below c f) (sym width)
      ∙ all_below-same (h.events + k') f g (λ i b. agree i)
      ∙ all_below-wide h.events k' g beyond

  -- THE LAW: the weights hold on the rows of the log's table, and what is noted of its words, exactly when they do for the step
  pub holds-is : {noted : List (Option ℕ)} → Noted h.entries noted → (w : WeightFields)
      → WeightsInLimits h w → (r : ℕ) → r < length (rows_in h) → (e : ℕ) → e < h.events
      → holds_rows (log_rows (words_in h)) noted (wide k' (get_or (rows_in h) r [])) e w
      ≡ weights_hold_in h (record { row = get_or (rows_in h) r []; event = e }) w
  unfolding holds_rows weights_hold weighs_before weighs_after to_term
  holds-is {noted} rows-noted w l r inside e b =
      rw (le-leb 1 w.k l.positive, steps, total, named) (agree_where_named (all allowed_step terms) (all (names_completed n h.entries) pairs) _
      (λ all_named. let known = named ∙ all_named in (before known, after known)))
    where
      n : ℕ
      n = h.events

      v : Counts
      v = get_or (rows_in h) r []

      rs : List Row
      rs = log_rows (words_in h)

      ts : List TermFields
      ts = w.terms

      terms : List Term
      terms = map (to_term h) ts

      pairs : List Pair
      pairs = map to_pair w.pairs

      allowed_step : Term → Bool
      allowed_step t = allowed n (words_in h) t.step

      weights : Weights
      weights = to_weights h w

      steps : all (λ t. bit (row_of rs t.row).mask t.event) ts ≡ all allowed_step terms
      steps =
          all_every (TermInLimits h) _ _ (λ t l. row-mask n k' (words_in h) width below t.row l.row t.event l.event) ts l.terms
          ∙ sym (all_map allowed_step (to_term h) ts)

      total : weighed_rows rs (λ u f. 1) ts ≡ weighed weight_of (λ t. 1) terms
      total = weighed-is (λ u f. 1) (λ t. 1) (λ u f. refl) ts l.terms

      named : all_noted noted w.pairs ≡ all (names_completed n h.entries) pairs
      named = noted-is h k' width below rows-noted w.pairs l.pairs

      before : all_noted noted w.pairs ≡ true
          → all_below max_events
          (λ i. le_z (pos (weighed_rows rs (λ u f. at u i) ts) +ℤ paired_rows rs noted w.pairs i) (pos (w.k * at (wide k' v) i)))
          ≡ all_below n (weighs_before n h.entries (record { row = v; event = e }) weights)
      before known = counts-tested _ _
          (λ i. ap₂ le_z
          (ap₂ (λ (x : ℕ) (z : ℤ). pos x +ℤ z)
          (weighed-is (λ u f. at u i) (λ t. at t.row i) (λ u f. get_d_padded u k' i 0) ts l.terms)
          (paired-is h k' width below rows-noted w.pairs l.pairs known i))
          (ap (λ (y : ℕ). pos (w.k * y)) (get_d_padded v k' i 0)))
          (λ i c. none-most _ _ (weighed-beyond i c ts l.terms) (paired-beyond n h.entries pairs i c))

      after : all_noted noted w.pairs ≡ true
          → all_below max_events (λ i. le_z (pos (w.k * (at (wide k' v) i + same e i)))
          (pos (weighed_rows rs (λ u f. at u i + same f i) ts) +ℤ paired_rows rs noted w.pairs i))
          ≡ all_below n (weighs_after n h.entries (record { row = v; event = e }) weights)
      after known = counts-tested _ _
          (λ i. ap₂ le_z
          (ap (λ (x : ℕ). pos (w.k * (x + same e i))) (get_d_padded v k' i 0))
          (ap₂ (λ (x : ℕ) (z : ℤ). pos x +ℤ z)
          (weighed-is (λ u f. at u i + same f i) (λ t. at t.row i + same t.event i)
          (λ u f. ap (λ (x : ℕ). x + same f i) (get_d_padded u k' i 0)) ts l.terms)
          (paired-is h k' width below rows-noted w.pairs l.pairs known i)))
          (λ i c. none-least _ _
          (ap₂ (λ (x y : ℕ). w.k * (x + y)) (row-beyond n (words_in h) r inside i c) (same_ne e i (λ q. omega arith)) ∙ mul-zero w.k)
          (paired-beyond n h.entries pairs i c))
