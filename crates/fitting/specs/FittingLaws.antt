-- The code's steps, as laws of the definitions; and that a place fits the rows of a log's table exactly when it fits the log.
use Rattle.std.specs.Prelude.{◌≡◌, true, false, not, ◌&&◌, ◌||◌, T, ℤ, pos, ◌-ℤ◌, length, get_or, drop, Option, None, MatchOption}
use Rattle.std.proofs.Math.Path.{refl, sym, ap}
use Rattle.std.proofs.Common.{ap₂, ◌∙◌, subst, arith, drop_of_length-le, get_or-drop}
use Rattle.std.proofs.Math.Bool.{Bool, and-true, and_assoc}
use mathlib.Core.List.Memᴰ
use mathlib.Core.List.{List, map, Memᴰ}
use Prim.Native.Nat.{ℕ, ◌+◌, ◌-◌, ◌*◌, ◌≤◌, ◌<◌}
use Rattle.std.specs.Int.Signed.{non_neg}
use Rattle.laws.specs.Booleans.{same_test, yes_true, implied, implies}
use Rattle.laws.specs.Bits.{bit, bit-of-zero}
use Rattle.laws.specs.Lists.{all, all-member, all_intro, all-next, tabulate, length-tabulate, get_d_tabulate, tabulate-member, tabulate_inverse}
use Rattle.laws.specs.Scans.{failing-never}
use Rattle.laws.specs.Failure.{failure_found, no-failure}
use Rattle.limits.specs.Limits.{max_events}
use Rattle.nets.specs.Nets.{Log, Counts, Step, Place, no_place, tokens, surplus, place_permits, rows, allowed, allowed_steps, fits}
use Rattle.nets.specs.CountLaws.{length-counts}
use Rattle.nets.specs.Fits.{LogBelow}
use Rattle.nets.proofs.Fits.{allowed-listed}
use Rattle.nets.proofs.Rows.{row→, continuation→, allowed_step→}
use Rattle.nets.specs.Wide.{wide, permits-wide}
use Rattle.places.specs.Machine.{place_of}
use Rattle.places.specs.declared.Place as Declared
use Rattle.rows.specs.Rows.{row_size, Row, row_at, rows_of}
use Rattle.logs.specs.Log.{log_row, log_rows}
use Rattle.logs.specs.LogTable.{log_rows-is, log_row-bit}
use Rattle.bundles.specs.Readers.{events_in, log_in, net_in}
use Rattle.bundles.specs.HeadReading.{net-size}
use Rattle.bundles.specs.NextPlace.{place_in}
use Rattle.heads.specs.Heads.{HeadHeld}
use Rattle.bundles.specs.declared.net.Net.{Net}
use Rattle.nets.specs.Surplus.{tokens-front}
use Rattle.columns.specs.RowFits.{row_fits, fits_rows}
use Rattle.columns.specs.declared.Matrix.{Matrix}
use Rattle.columns.specs.Matrix.{column, Filled}
use Rattle.columns.specs.MatrixLaws.{same-fits}
use Rattle.fitting.specs.Fitting.{event_fits, events_fit, misfit_in, misfit}

-- ---- a row

-- a loop over the events that has tested those below e
abbrev pub EventsPassed : ℤ → List ℕ → ℕ → Bool → ℕ → Type 0
EventsPassed t consumed mask fit e = events_fit t consumed mask ≡ (fit && all (event_fits t consumed mask) (drop e (tabulate max_events (λ e. e))))

module _ (t : ℤ) (consumed : List ℕ) (mask : ℕ) where
  pub events-start : EventsPassed t consumed mask true 0
  unfolding events_fit
  events-start = refl

  pub events-next : (fit : Bool) (e : ℕ) → e < max_events → EventsPassed t consumed mask fit e
      → EventsPassed t consumed mask (fit && (not (bit mask e) || non_neg (t -ℤ pos (get_or consumed e 0)))) (e + 1)
  unfolding event_fits
  events-next fit e h inv =
      let test : ℕ → Bool = event_fits t consumed mask in
      let events : List ℕ = tabulate max_events (λ e. e) in
      let here = get_d_tabulate max_events (λ e. e) e 0 h in
      inv
      ∙ ap (λ (b : Bool). fit && b) (all-next test events e 0 (rw length-tabulate h) ∙ ap (λ (x : ℕ). test x && all test (drop (e + 1) events)) here)
      ∙ sym (and_assoc fit (test e) (all test (drop (e + 1) events)))

  pub events-end : (fit : Bool) (e : ℕ) → max_events ≤ e → EventsPassed t consumed mask fit e → events_fit t consumed mask ≡ fit
  unfolding all
  events-end fit e h inv =
      inv ∙ rw (drop_of_length-le (tabulate max_events (λ e. e)) {i = e} (rw length-tabulate h)) (and-true fit)

-- the tokens after the row's counts decide for its events
pub row_fits_lem : (p : Declared.Place) (t : List ℕ)
    → events_fit (tokens max_events (place_of p) t) p.consumed (get_or t max_events 0) ≡ row_fits (place_of p) (row_at t)
unfolding row_fits events_fit event_fits row_at place_permits surplus
row_fits_lem p t = ap (λ (z : ℤ). events_fit z p.consumed (get_or t max_events 0)) (tokens-front max_events (place_of p) t)

-- the same of row i of a table
pub table_row_fits : (p : Declared.Place) (table : List ℕ) (i : ℕ) (t : ℤ) (counts : List ℕ)
    → t ≡ tokens max_events (place_of p) counts → counts ≡ (row_at (drop (row_size * i) table)).counts
    → events_fit t p.consumed (get_or table (row_size * i + max_events) 0) ≡ row_fits (place_of p) (row_at (drop (row_size * i) table))
unfolding row_at
table_row_fits p table i t counts is same =
    let l = drop (row_size * i) table in
    ap₂ (λ (z : ℤ) (mask : ℕ). events_fit z p.consumed mask)
    (is ∙ ap (tokens max_events (place_of p)) same ∙ sym (tokens-front max_events (place_of p) l))
    (sym (get_or-drop (row_size * i) table max_events 0))
    ∙ row_fits_lem p l

-- a row that nothing follows asks for nothing
pub row-empty : (p : Place) (t : List ℕ) → get_or t max_events 0 ≡ 0 → row_fits p (row_at t) ≡ true
unfolding row_fits row_at
row-empty p t none = rw none (yes_true _ (all_intro _ (tabulate max_events (λ e. e)) (λ e m. rw (bit-of-zero e) tt)))

-- ---- a log

-- a place fits the rows of a log's table exactly when it fits the log
pub fits-log : (n k : ℕ) (log : Log) → n + k ≡ max_events → LogBelow n log → (p : Place) → fits_rows p (log_rows log) ≡ fits n log p
unfolding fits_rows row_fits fits
fits-log n k log width below p = ap (all (row_fits p)) (log_rows-is n k log width below) ∙ same_test _ _ to from
  where
    row : Counts → Row
    row v = log_row log (wide k v)

    -- the test of an event in a row
    test : Counts → ℕ → Bool
    test v e = not (bit (row v).mask e) || place_permits max_events p (record { row = wide k v; event = e })

    test-is : (s : Step) → Memᴰ s.row (rows n log) → s.event < max_events → test s.row s.event ≡ (not (allowed n log s) || place_permits n p s)
    test-is s m h =
        let u = row→ n log m in
        ap₂ (λ (a b : Bool). not a || b)
        (log_row-bit n k log width below s.row s.event h)
        (ap (λ (c : ℕ). place_permits c p (record { row = wide k s.row; event = s.event })) (sym width)
        ∙ permits-wide n k p s.row s.event (ap length (sym u.2) ∙ length-counts n u.0))

    to : T (all (row_fits p) (map row (rows n log))) → T (all (place_permits n p) (allowed_steps n log))
    to t = all_intro (place_permits n p) (allowed_steps n log) (λ s m.
        let a = allowed_step→ n log s m in
        let c = continuation→ n log s a.0 in
        let h : s.event < max_events = omega (arith, c.1) in
        let tests = all-member (row_fits p) (map row (rows n log)) t (Memᴰ.map row c.0) in
        let here = all-member (test s.row) (tabulate max_events (λ e. e)) tests (tabulate-member max_events (λ e. e) s.event h) in
        implied (allowed n log s) (place_permits n p s) (subst T (test-is s c.0 h) here) a.1)

    from : T (all (place_permits n p) (allowed_steps n log)) → T (all (row_fits p) (map row (rows n log)))
    from t = all_intro (row_fits p) (map row (rows n log)) (λ r m.
        let v = Memᴰ.of_map row (rows n log) m in
        subst (λ (x : Row). T (row_fits p x)) v.2
        (all_intro (test v.0) (tabulate max_events (λ e. e)) (λ e k.
        let i = tabulate_inverse max_events (λ e. e) k in
        let s : Step = record { row = v.0; event = e } in
        let h : e < max_events = omega (arith, i.1, i.2) in
        let permitted = λ (a : T (allowed n log s)). all-member (place_permits n p) (allowed_steps n log) t (allowed-listed n log below s a) in
        subst T (sym (test-is s v.1 h)) (implies (allowed n log s) (place_permits n p s) permitted))))

-- ---- a bundle

-- whose log is in a table: a place fits its rows exactly when it fits the log
pub fits-held : {t : List ℕ} {net : Net} {row_count : ℕ} → HeadHeld t net row_count
    → (p : Place) → fits_rows p (rows_of row_count t) ≡ fits (events_in net.bundle.now) (log_in net.bundle.now) p
fits-held {t} {net} held p =
    let b = net.bundle.now in
    let same : events_in b ≡ net.n = held.found.events in
    let width : events_in b + (max_events - events_in b) ≡ max_events = omega (arith, same, held.found.limits) in
    rw held.table (fits-log (events_in b) (max_events - events_in b) (log_in b) width held.below p)

-- where each place fits the rows in its column of a matrix, none is a misfit
pub all_fit : {t : List ℕ} {net : Net} {row_count : ℕ} {m : Matrix} → HeadHeld t net row_count → Filled net.bundle.now m net.count
    → ((j : ℕ) → j < net.count → fits_rows (column m j) (rows_of row_count t) ≡ true) → net.count ≡ misfit_in net.bundle.now
all_fit {t} {net} {row_count} held written fit =
    let b = net.bundle.now in
    let size = net-size held.found in
    sym (failing-never (fits (events_in b) (log_in b)) no_place (net_in b) (λ j l.
    let few : j < net.count = omega arith in
    sym (fits-held held (place_in b j)) ∙ same-fits (written.places j few) (rows_of row_count t) (fit j few))
    ∙ size)

-- a search through the places that gives the first that does not fit
module _ (b : List ℕ) (count : ℕ) (size : length (net_in b) ≡ count) where
  abbrev pub Fits : ℕ → Bool → Type 0
  Fits j t = fits (events_in b) (log_in b) (place_in b j) ≡ t

  pub misfit_first : (r : Option ℕ)
      → MatchOption r ((k : ℕ) → 0 ≤ k → k < count → Fits k true)
      (λ i. (0 ≤ i) × (i < count) × Fits i false × ((k : ℕ) → 0 ≤ k → k < i → Fits k true))
      → r ≡ misfit b
  unfolding misfit
  misfit_first = failure_found (fits (events_in b) (log_in b)) no_place (net_in b) count size

-- where all places fit, there is none
pub misfit-none : (b : List ℕ) → misfit_in b ≡ length (net_in b) → None ≡ misfit b
unfolding misfit
misfit-none b e = no-failure (fits (events_in b) (log_in b)) (net_in b) e
