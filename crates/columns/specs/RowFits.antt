-- Whether a place fits the rows of a table: it permits the events of each row's mask after the row's counts.
use Rattle.std.specs.Prelude.{◌≡◌, Bool, true, false, not, ◌&&◌, ◌||◌, List, ℕ, ◌+◌, ◌*◌, ◌≤◌, ◌<◌, length, get_or, drop, ◌↔◌, MatchBool}
use Rattle.std.proofs.Math.Path.{refl}
use Rattle.std.proofs.Common.{sym, ap, ◌∙◌, arith, drop_of_length-le}
use Rattle.std.proofs.lemmas.Bool.{false≢true}
use Rattle.laws.specs.Bits.{bit}
use Rattle.laws.specs.Booleans.{fails-exactly}
use Rattle.laws.specs.Lists.{all, all-next, tabulate}
use Rattle.laws.specs.Scans.{all-exactly}
use Rattle.limits.specs.Limits.{max_events}
use Rattle.nets.specs.Nets.{Place, place_permits}
use Rattle.rows.specs.Rows.{row_size, Row, row_at, rows_of}
use Rattle.rows.specs.Flat.{length-rows, rows_at}

-- a place permits what a row allows
unfoldable pub row_fits : Place → Row → Bool
row_fits p r = all (λ e. not (bit r.mask e) || place_permits max_events p (record { row = r.counts; event = e })) (tabulate max_events (λ e. e))

-- a place permits what every row allows
unfoldable pub fits_rows : Place → List Row → Bool
fits_rows p rs = all (row_fits p) rs

-- ---- the rows

module _ (p : Place) (k : ℕ) (t : List ℕ) where
  -- a loop over the rows that found no misfit below r
  abbrev pub RowsBelow : ℕ → Type 0
  RowsBelow r = fits_rows p (rows_of k t) ≡ all (row_fits p) (drop r (rows_of k t))

  pub rows_start : RowsBelow 0
  unfolding fits_rows
  rows_start = refl

  module _ (r : ℕ) (h : r < k) (inv : RowsBelow r) where
    rows_step : fits_rows p (rows_of k t) ≡ (row_fits p (row_at (drop (row_size * r) t)) && all (row_fits p) (drop (r + 1) (rows_of k t)))
    rows_step =
        inv
        ∙ all-next (row_fits p) (rows_of k t) r (row_at t) (rw length-rows h)
        ∙ ap (λ (x : Row). row_fits p x && all (row_fits p) (drop (r + 1) (rows_of k t))) (rows_at k t r (row_at t) h)

    pub rows_next : row_fits p (row_at (drop (row_size * r) t)) ≡ true → RowsBelow (r + 1)
    rows_next e = rows_step ∙ rw e

  pub rows_end : (r : ℕ) → k ≤ r → RowsBelow r → fits_rows p (rows_of k t) ≡ true
  unfolding all
  rows_end r h inv = inv ∙ rw (drop_of_length-le (rows_of k t) {i = r} (rw length-rows h))

  -- what the test of row i says
  abbrev pub RowTested : ℕ → Bool → Type 0
  RowTested i r = row_fits p (row_at (drop (row_size * i) t)) ≡ r

  -- the tests of the rows decide: each passes, or there is one that fails
  abbrev RowsTested : Bool → Type 0
  RowsTested r = MatchBool r ((i : ℕ) → i < k → RowTested i true) ((i : ℕ) × (i < k) × RowTested i false)

  pub rows_decide : (r : Bool) → RowsTested r → r ≡ fits_rows p (rows_of k t)
  unfolding fits_rows
  rows_decide r tested = go r tested
    where
      rows : List Row
      rows = rows_of k t

      each : (all (row_fits p) rows ≡ true) ↔ ((i : ℕ) → i < length rows → row_fits p (get_or rows i (row_at t)) ≡ true)
      each = all-exactly (row_fits p) (row_at t) rows

      at : (i : ℕ) → i < k → row_fits p (get_or rows i (row_at t)) ≡ row_fits p (row_at (drop (row_size * i) t))
      at i h = ap (row_fits p) (rows_at k t i (row_at t) h)

      go : (b : Bool) → RowsTested b → b ≡ all (row_fits p) rows
      go true h = sym (each.1 (λ i b. let few : i < k = omega (arith, length-rows k t) in at i few ∙ h i few))
      go false (i, few, fails) =
          sym ((fails-exactly (all (row_fits p) rows) each).1 (λ fit. false≢true (sym fails ∙ sym (at i few) ∙ fit i (rw length-rows few))))
