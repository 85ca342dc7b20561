-- How taking a word ends: one law for each way, by the tests in their order.
use Rattle.std.specs.Prelude.{◌≡◌, refl, true, false, List, ℕ, ◌+◌, ◌-◌, ◌<◌, ◌≤◌, leb, Err, Ok}
use Rattle.std.proofs.Common.{sym, ◌∙◌, lt_of_lt_of_le, leb-true, le-leb}
use Rattle.std.proofs.Math.Path.{ap}
use native.Mathlib.Omega.{arith}
use Rattle.std.proofs.Math.ListN.{length}
use Rattle.std.proofs.Math.Dec.{ltb}
use Rattle.std.proofs.lemmas.Bool.{lt-leb}
use Rattle.laws.specs.Booleans.{impossible, and_left, and_right}
use Rattle.laws.specs.Scans.{failing-all, failing-some}
use Rattle.limits.specs.Limits.{max_events, max_log_events, max_rows}
use Rattle.refusals.specs.Table.{numbers_short_number, value_number, events_number, rows_number, state_range_number}
use Rattle.refusals.specs.Results.{Result, value, refused, ◌>>◌, require, passes, fails}
use Rattle.refusals.specs.Answers.{refusal}
use Rattle.refusals.specs.declared.Refusal.{Refusal}
use Rattle.nets.specs.Events.{first_bad, none_bad}
use Rattle.rows.specs.Rows.{rows_of, none, new_rows, Added}
use Rattle.rows.specs.Adding.{added_some, added_none}
use Rattle.logs.specs.Answers.{table_size, right_event_count, right_summary, taken_of, rows_after, word_taken, taken_answer, taken_table}
use Rattle.taking.specs.Takable.{Takable}
use Rattle.rows.specs.Flat.{length-rows, holds_with}
use Rattle.rows.specs.Growth.{length-take}
use Rattle.logs.specs.declared.Summary.{Summary}
use Rattle.logs.specs.Answers.{Taken}

-- an answer with a summary is that of the chain behind it
pub next→value : (m : Result Summary) (s : Summary) → taken_of m ≡ Ok s → m ≡ value s
unfolding taken_of
next→value (value s') s e = cc
next→value (refused number spot) s e = impossible cc

-- the bounds of numbers within their ranges
pub right_event_count-most : (n : ℕ) → right_event_count n ≡ true → n ≤ max_events
unfolding right_event_count
right_event_count-most n e = leb-true n max_events (and_right (leb 1 n) (leb n max_events) e)

pub right_summary-bounds : (s : Summary) → right_summary s ≡ true → (s.n ≤ max_events) × (s.rows ≤ max_rows) × (s.events ≤ max_log_events)
unfolding right_summary
right_summary-bounds s e =
    let n = right_event_count-most _ (and_left (right_event_count s.n) _ e) in
    let rest = and_right (leb 1 s.rows) _ (and_right (right_event_count s.n) _ e) in
    (n, leb-true _ _ (and_left (leb s.rows max_rows) _ rest), leb-true _ _ (and_right (leb s.rows max_rows) _ rest))

module _ (s : Summary) (t w : List ℕ) where
  -- a refused word leaves the table
  pub refused-table : (r : Refusal) → taken_answer s t w ≡ Err r → t ≡ taken_table (taken_answer s t w) s t w
  unfolding taken_table
  refused-table r e = rw e

  -- the answer and the table afterwards, together
  abbrev pub Ends : Taken → List ℕ → Type 0
  Ends answer after = (answer ≡ taken_answer s t w) × (after ≡ taken_table (taken_answer s t w) s t w)

  ends-refused : (number spot : ℕ) → word_taken s t w ≡ refused number spot → Ends (Err (refusal number spot)) t
  unfolding taken_answer taken_of
  ends-refused number spot e = let a = ap taken_of e in (sym a, refused-table (refusal number spot) a)

  pub answer_5 : length t < table_size → Ends (Err (refusal numbers_short_number table_size)) t
  unfolding word_taken
  answer_5 h = ends-refused _ _ (fails _ _ _ _ (lt-leb _ _ h))

  pub answer_16 : table_size ≤ length t → right_summary s ≡ false → Ends (Err (refusal state_range_number 0)) t
  unfolding word_taken
  answer_16 long e = ends-refused _ _ (passes _ _ _ _ (le-leb _ _ long) ∙ fails _ _ _ _ e)

  pub answer_8 : table_size ≤ length t → right_summary s ≡ true → max_log_events - s.events < length w → Ends (Err (refusal events_number 0)) t
  unfolding word_taken
  answer_8 long fine h =
      let over : max_log_events < s.events + length w = omega arith in
      ends-refused _ _ (passes _ _ _ _ (le-leb _ _ long) ∙ passes _ _ _ _ fine ∙ fails _ _ _ _ (lt-leb _ _ over))

  -- the tests that come before those of the word's events
  pub record Admitted : Type 0 where
    pub long : table_size ≤ length t
    pub fine : right_summary s ≡ true
    pub few : length w ≤ max_log_events - s.events

  within : Admitted → s.events + length w ≤ max_log_events
  within a = let g = right_summary-bounds s a.fine in omega arith

  pub answer_7 : Admitted → (bad : ℕ) → bad ≡ first_bad s.n w → bad < length w → Ends (Err (refusal value_number bad)) t
  unfolding word_taken first_bad
  answer_7 a bad first h =
      let some = failing-some (λ e. ltb e s.n) w (omega arith) in
      rw first
      (ends-refused _ _ (passes _ _ _ _ (le-leb _ _ a.long) ∙ passes _ _ _ _ a.fine ∙ passes _ _ _ _ (le-leb _ _ (within a))
      ∙ fails _ _ _ _ some))

  -- and with those
  pub record WordAdmitted : Type 0 where
    pub admitted : Admitted
    pub events : length w ≤ first_bad s.n w

  module _ (r : WordAdmitted) where
    -- what the loops over the word ask
    pub takable : Takable s.rows t w
    takable =
        let g = right_summary-bounds s r.admitted.fine in
        record {
          rows = g.1;
          table = r.admitted.long;
          short = omega (arith, within r.admitted);
          below = λ k h. lt_of_lt_of_le (none_bad s.n w r.events k h) g.0;
        }

    -- its rows are added to the table, or there are too many
    abbrev total : ℕ
    total = s.rows + new_rows (rows_of s.rows t) none w

    abbrev next : ℕ → Summary
    next k = record { n = s.n; rows = k; events = s.events + length w }

    size : length (rows_after s t w) ≡ total
    size = length-take (rows_of s.rows t) none w refl takable.below ∙ rw length-rows refl

    -- the test that is left
    rows-test : word_taken s t w ≡ require (leb total max_rows) rows_number 0 >> value (next total)
    unfolding word_taken first_bad
    rows-test =
        let a = r.admitted in
        passes _ _ _ _ (le-leb _ _ a.long) ∙ passes _ _ _ _ a.fine ∙ passes _ _ _ _ (le-leb _ _ (within a))
        ∙ passes _ _ _ _ (failing-all (λ e. ltb e s.n) w r.events) ∙ rw size

    module _ (t' : List ℕ) where
      pub answer_9 : (k : ℕ) → Added max_rows s.rows w t t' (Err k) → Ends (Err (refusal rows_number 0)) t'
      answer_9 k added =
          let full = added_none max_rows s.rows t w k t' added in
          let e = ends-refused _ _ (rows-test ∙ fails _ _ _ _ (lt-leb _ _ (rw (← full.0) full.1))) in
          (e.0, full.2 ∙ e.1)

      pub answer-next : (k : ℕ) → Added max_rows s.rows w t t' (Ok k) → length t' ≡ length t → Ends (Ok (next k)) t'
      unfolding taken_answer taken_table taken_of
      answer-next k added kept =
          let fits = added_some max_rows s.rows t w k t' added in
          let test : word_taken s t w ≡ value (next k) = rw fits.0 (rows-test ∙ passes _ _ _ _ (le-leb _ _ (rw (← fits.0) fits.1))) in
          rw test (refl, holds_with k _ t t' fits.2 (omega (arith, fits.1, r.admitted.long)))
