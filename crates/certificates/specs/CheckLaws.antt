-- One certificate: what the code tests on the rows of the table and the bytes of the bundle is what `solved` requires.
use Rattle.std.specs.Prelude.{◌≡◌, Ok, Err, Option, Bool, ℕ, zero, suc, ◌+◌, ◌-◌, ◌*◌, ◌≤◌, ◌<◌, ℤ, ◌-ℤ◌, length}
use Rattle.std.proofs.Math.Path.{refl, ap, ap₂}
use Rattle.std.proofs.Common.{sym, ◌∙◌, not-suc-le-zero, le_of_suc-le-suc, arith, ltb-true, get_or-drop}
use Rattle.std.proofs.Math.Bool.{true, false, not, cond}
use mathlib.Core.List.{List, [], ◌∷◌}
use Rattle.std.proofs.Math.IntN.{pos}
use Rattle.std.proofs.Math.ListN.{get_or}
use Rattle.std.specs.Int.Signed.{non_neg}
use Rattle.laws.specs.Booleans.{impossible}
use Rattle.laws.specs.Parts.{get_d_padded}
use Rattle.laws.specs.Bits.{bit}
use Rattle.limits.specs.Limits.{max_events}
use Rattle.refusals.specs.Table.{place_permits_number, weights_number}
use Rattle.refusals.specs.Answers.{refusal}
use Rattle.refusals.specs.Results.{value, refused, bind}
use Rattle.nets.specs.Nets.{Place, Net, Step, Counts, no_place, surplus, place_permits, refused_by}
use Rattle.nets.specs.Bundle.{solves}
use Rattle.nets.specs.Surplus.{tokens-row}
use Rattle.nets.specs.Wide.{wide}
use Rattle.rows.specs.Rows.{row_size, Row, row_at, rows_of, new_row, none}
use Rattle.rows.specs.Flat.{rows_at}
use Rattle.bundles.specs.Reading.{Read, Reader, got, item, and_then, ◌>>=◌, ◌>>◌, give, require, byte, onward}
use Rattle.bundles.specs.Layout.{CertificateFields, kind0, kind1, Head, CertificateInLimits, to_certificate, WeightFields, WeightsInLimits, rows_in, allowed_in, solves_in, words_in, weights_hold_in}
use Rattle.bundles.specs.Keeping.{behind}
use Rattle.bundles.specs.Limits.{got→front}
use Rattle.bundles.specs.LayoutLaws.{law-certificate}
use Rattle.bundles.specs.Readers.{any_rows, weights, of_kind, certificate, head_of, net_in}
use Rattle.bundles.specs.FieldReading.{up_to, below, byte-got}
use Rattle.bundles.specs.ReadingLaws.{and_then-got}
use Rattle.bundles.specs.Chains.{ReadBy, map_read, read_got, →got, →refused}
use Rattle.bundles.specs.NextPlace.{place_in}
use Rattle.bundles.specs.HeadReading.{place-count, net-size}
use Rattle.bundles.specs.declared.Reader as Machine
use Rattle.bundles.specs.declared.net.Net as Declared
use Rattle.bundles.specs.declared.terms.Kind.TheVariants as Kind
use Rattle.verdicts.specs.Judging.{solved, unsolved}
use Rattle.heads.specs.Heads.{HeadHeld}
use Rattle.heads.specs.Noted.{Noted}
use Rattle.pairs.specs.Pairs.{row_of}
use Rattle.weights.specs.Terms.{holds_rows, holds_by}
use Rattle.weights.specs.Steps.{holds_for}
use Rattle.weights.specs.TermLaws.{row_counts, row-mask, holds-is}
use Rattle.weights.specs.declared.Step as certified
use Rattle.certificates.specs.Certifying.{step_of, kind_in, permits_for, of_kind_checked, certificate_checked}

-- ---- places

-- place j of a net
refused-at : (n : ℕ) (net : Net) (j : ℕ) (s : Step) → j < length net → refused_by n net j s ≡ not (place_permits n (get_or net j no_place) s)
unfolding refused_by
refused-at n [] j s h = absurd (not-suc-le-zero h)
refused-at n (p ∷ net) zero s h = refl
refused-at n (p ∷ net) (suc j) s h = refused-at n net j s (le_of_suc-le-suc h)

-- reading weights gives weights
weights-kind : (h : Head) (b : List ℕ) (at j next : ℕ) → weights h b at ≡ got (kind0 j) next → ⊥
unfolding weights
weights-kind h b at j next e =
    let k = and_then-got b _ _ _ _ e in
    let size = and_then-got b _ _ _ _ k.3 in
    let ts = and_then-got b _ _ _ _ size.3 in
    let qs = and_then-got b _ _ _ _ ts.3 in
    other qs.3
  where
    other : {w : WeightFields} {at : ℕ} → got (kind1 w) at ≡ got (kind0 j) next → ⊥
    other same = impossible cc

-- ---- a head and its table

module _ {t : List ℕ} {net : Declared.Net} {row_count : ℕ} (held : HeadHeld t net row_count) where
  abbrev b : List ℕ
  b = net.bundle.now

  abbrev h : Head
  h = head_of b

  abbrev n : ℕ
  n = net.n

  few_words : length h.entries ≤ 255
  few_words = (got→front any_rows (λ n. tt) (λ n log more t. tt) b held.bytes h (behind net) held.found.read).0.limits.log_size

  width : h.events + (max_events - h.events) ≡ max_events
  width = omega (arith, held.found.events, held.found.limits)

  module _ (i : ℕ) (inside : i < row_count) where
    counts-held : (row_of (rows_of row_count t) i).counts ≡ wide (max_events - h.events) (get_or (rows_in h) i [])
    counts-held = ap (λ (rs : List Row). (row_of rs i).counts) held.table
        ∙ row_counts h.events (max_events - h.events) (words_in h) width held.below i (omega (arith, held.size))

    module _ (e : ℕ) (event : e < n) where
      -- the bit of an event says whether the step is allowed
      pub mask-held : bit (get_or t (row_size * i + max_events) 0) e ≡ allowed_in h (step_of h i e)
      unfolding row_at
      mask-held =
          ap (λ (m : ℕ). bit m e) (sym (get_or-drop (row_size * i) t max_events 0))
          ∙ ap (λ (r : Row). bit r.mask e) (sym (rows_at row_count t i (new_row none) inside) ∙ ap (λ (rs : List Row). row_of rs i) held.table)
          ∙ row-mask h.events (max_events - h.events) (words_in h) width held.below i (omega (arith, held.size)) e (omega (arith, held.found.events))

      -- a place permits the step exactly when it does with twelve counts
      permits-held : (p : Place)
          → place_permits n p (record { row = (row_of (rows_of row_count t) i).counts; event = e }) ≡ place_permits h.events p (step_of h i e)
      unfolding place_permits surplus
      permits-held p =
          ap₂ (λ (c : ℕ) (v : Counts). place_permits c p (record { row = v; event = e })) (sym held.found.events) counts-held
          ∙ ap (λ (z : ℤ). non_neg (z -ℤ pos (p.consumed e)))
          (tokens-row h.events p (wide (max_events - h.events) (get_or (rows_in h) i []))
          (get_or (rows_in h) i []) (λ j _. get_d_padded (get_or (rows_in h) i []) (max_events - h.events) j 0))

      -- so place j of the net decides whether it refuses the step
      place-refuses : (j : ℕ) → j < net.count → refused_by h.events (net_in b) j (step_of h i e)
          ≡ not (place_permits n (place_in b j) (record { row = (row_of (rows_of row_count t) i).counts; event = e }))
      place-refuses j listed =
          refused-at h.events (net_in b) j (step_of h i e) (omega (arith, net-size held.found)) ∙ ap not (sym (permits-held (place_in b j)))

      -- weights that hold on the rows of the table are weights of the step
      test-held : {noted : List (Option ℕ)} → Noted h.entries noted → (w : WeightFields) → WeightsInLimits h w
          → holds_rows (rows_of row_count t) noted (row_of (rows_of row_count t) i).counts e w ≡ weights_hold_in h (step_of h i e) w
      test-held {noted} rows-noted w l =
          ap₂ (λ (rs : List Row) (v : Counts). holds_rows rs noted v e w) held.table counts-held
          ∙ holds-is h (max_events - h.events) width held.below rows-noted w l i (omega (arith, held.size)) e (omega (arith, held.found.events))

      -- a certificate whose kind was read has its limits
      limits : (at : ℕ) {k next mid : ℕ} → byte (up_to 1) b at ≡ got k next
          → (c : CertificateFields) → of_kind h k b next ≡ got c mid → CertificateInLimits h c
      unfolding certificate bind onward
      limits at {mid = mid} kind c known = ((law-certificate b held.bytes h (omega (arith, held.found.events))
          (omega (arith, held.size)) (omega (arith, place-count held.found)) few_words).sound at c mid (rw kind known)).0

-- ---- one certificate

-- the code's tests are those of the next certificate of a wrong continuation
pub certificate-solved : (s : certified.Step) (before : List CertificateFields) (number : ℕ) → length before ≡ number → (at : ℕ)
    → let b = s.head.now.net.bundle.now in
    map_read kind_in (solved (head_of b) (step_of (head_of b) s.row s.event) before b at) ≡ certificate_checked s number b at
unfolding solved certificate bind onward map_read kind_in holds_by of_kind of_kind_checked solves to_certificate unsolved require
certificate-solved s before number size at = rw (← size) (by_kind (byte (up_to 1) b at) refl)
  where
    held : HeadHeld s.head.now.table.now s.head.now.net s.head.now.rows
    held = s.head.now.held

    b : List ℕ
    b = s.head.now.net.bundle.now

    h : Head
    h = head_of b

    step : Step
    step = step_of h s.row s.event

    checks : CertificateFields → Reader CertificateFields
    checks c = require (solves_in h step c) (unsolved c) (length before) >> give c

    by_place : (m : Read ℕ) (next : ℕ) → byte (below s.head.now.net.count) b next ≡ m
        → map_read kind_in (and_then (and_then m (λ j. give (kind0 j)) b) checks b)
        ≡ and_then (and_then m (λ j. require (not (permits_for s j)) place_permits_number (length before)) b) (λ u. give Kind.Place) b
    by_place (refused cause spot) next known = refl
    by_place (value (item j mid)) next known =
        rw (place-refuses held s.row s.row_there s.event s.event_there j (ltb-true j s.head.now.net.count (byte-got _ _ _ _ _ known).0))
        (decided (permits_for s j))
      where
        decided : (p : Bool)
            → map_read kind_in (and_then (cond (not p) (got (tt {0}) mid) (refused place_permits_number (length before))) (λ u. give (kind0 j)) b)
            ≡ and_then (cond (not p) (got (tt {0}) mid) (refused place_permits_number (length before))) (λ u. give Kind.Place) b
        decided true = refl
        decided false = refl

    by_weights : (m : Read CertificateFields) → ((c : CertificateFields) (mid : ℕ) → m ≡ got c mid → CertificateInLimits h c)
        → ((j mid : ℕ) → m ≡ got (kind0 j) mid → ⊥)
        → map_read kind_in (and_then m checks b)
        ≡ and_then (and_then (map_read (holds_by (holds_for s)) m) (λ holds. require holds weights_number (length before)) b)
        (λ u. give Kind.Weights) b
    by_weights (refused cause spot) limited never = refl
    by_weights (value (item (kind0 j) mid)) limited never = absurd (never j mid refl)
    by_weights (value (item (kind1 w) mid)) limited never =
        rw (test-held held s.row s.row_there s.event s.event_there s.head.now.marked.rows w (limited (kind1 w) mid refl))
        (decided (weights_hold_in h step w))
      where
        decided : (p : Bool)
            → map_read kind_in (and_then (cond p (got (tt {0}) mid) (refused weights_number (length before))) (λ u. give (kind1 w)) b)
            ≡ and_then (cond p (got (tt {0}) mid) (refused weights_number (length before))) (λ u. give Kind.Weights) b
        decided true = refl
        decided false = refl

    by_kind : (m : Read ℕ) → byte (up_to 1) b at ≡ m
        → map_read kind_in (and_then (and_then m (of_kind h) b) checks b) ≡ and_then m (of_kind_checked s (length before)) b
    by_kind (refused cause spot) known = refl
    by_kind (value (item zero next)) known = rw (place-count held.found) (by_place (byte (below s.head.now.net.count) b next) next refl)
    by_kind (value (item (suc k) next)) known =
        by_weights (weights h b next) (λ c mid is. limits held s.row s.row_there s.event s.event_there at known c is)
        (λ j mid is. weights-kind h b next j mid is)

-- ---- what was read, and a test of it

module _ {A : Type 0} {old new : Machine.Reader} {r : Reader A} (ok : A → Bool) (number spot : ℕ) {x : A} (read : ReadBy old new (Ok x) r) where
  pub tested_passed : ok x ≡ true → ReadBy old new (Ok tt) (r >>= λ y. require (ok y) number spot)
  unfolding require bind onward
  tested_passed e = →got read.bytes (rw (read_got read, e))

  pub tested-refused : ok x ≡ false → ReadBy old new (Err (refusal number spot)) (r >>= λ y. require (ok y) number spot)
  unfolding require bind onward
  tested-refused e = →refused read.bytes (rw (read_got read, e))
