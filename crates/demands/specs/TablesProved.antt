-- The log table, proved: the lines of Tables.antt from the laws of the log's rows.
use Rattle.std.specs.Prelude.{◌≡◌, true, false, ◌↔◌, List, ℕ, ◌+◌, ◌≤◌, ◌<◌, leb, length, Ok}
use Rattle.std.proofs.Common.{sym, ap, ◌∙◌, subst, true≢false, ⊎_elim, lt_of_lt_of_le, arith}
use mathlib.Core.Logic.Iff
use Rattle.laws.specs.Booleans.{at_least, less, true_or_false}
use Rattle.limits.specs.Limits.{max_events, max_rows}
use Rattle.nets.specs.Nets.{Word, Log, rows}
use Rattle.nets.specs.Events.{EventsBelow, below-exactly, bad_exactly, each_below}
use Rattle.nets.specs.Fits.{LogBelow}
use Rattle.rows.specs.Rows.{with_rows, cleared}
use Rattle.logs.specs.Answers.{table_size, right_summary, fresh_answer, fresh_table, rows_after, taken_answer, taken_table}
use Rattle.logs.specs.Log.{log_rows, Takes}
use Rattle.logs.specs.LogTable.{taken-below, taken-rows, fresh-passed, log-table}
use Rattle.tables.specs.Causes.{event_count-right, event_count_wrong, summary-right, fresh-refused, fresh-next, fresh_5, fresh_16, fresh_gives, take-refused, take_next, take_5, take_16, take_8, take_7, take_9, take_gives}
use Rattle.tables.specs.Tables.{rows-after, taken-kept, taken-appended, taken-bits, taken-used, taken-unused, taken-new, taken-rest, taken-length}
use Rattle.tables.specs.LogNumbers.{row_number, row_zero, row-passed, row-bit, row-clear, table-zero, table-rest, table-length}
use Rattle.logs.specs.declared.Summary.{Summary}
use Rattle.demands.specs.Tables.{FreshExactly, InRange, Admitted, rows_with, TakeExactly, TakeLeaves, LogLeft}

-- ---- Fresh

pub fresh-exactly : (n : ℕ) (t : List ℕ) → FreshExactly n t
fresh-exactly n t = record {
  table-short = λ spot. Iff.trans (fresh-refused n t (fresh_5 n t) spot)
      ((λ (at, e). (at, (less table_size (length t)).0 e)), (λ (at, h). (at, (less table_size (length t)).1 h)));
  range = λ spot. Iff.trans (fresh-refused n t (fresh_16 n t) spot) (
    (λ (long, (at, e)). (at, (at_least table_size (length t)).0 long, (event_count_wrong n).0 e)),
    (λ (at, long, c). ((at_least table_size (length t)).1 long, (at, (event_count_wrong n).1 c))),
  );
  next = λ s. Iff.trans (fresh-next n t (fresh_gives n t) s) (
    (λ (long, (e, is)). let r = (event_count-right n).0 e in ((at_least table_size (length t)).0 long, r.0, r.1, is)),
    (λ (long, some, most, is). ((at_least table_size (length t)).1 long, ((event_count-right n).1 (some, most), is))),
  );
}

-- ---- Take

range-exactly : (s : Summary) → (right_summary s ≡ true) ↔ InRange s
range-exactly s = Iff.trans (summary-right s) (
  (λ (a, b, c, d, e). record { n-some = a; n-most = b; rows-some = c; rows-most = d; events-most = e }),
  (λ r. (r.n-some, r.n-most, r.rows-some, r.rows-most, r.events-most)),
)

out_of_range : (s : Summary) → (right_summary s ≡ false) ↔ (InRange s → ⊥)
out_of_range s = (
  (λ e r. true≢false (sym ((range-exactly s).1 r) ∙ e)),
  (λ none. ⊎_elim (λ e. absurd (none ((range-exactly s).0 e))) (λ e. e) (true_or_false (right_summary s))),
)

module _ (s : Summary) (t : List ℕ) (w : Word) where
  -- the events of a word that is in range are below twelve, so its rows are counted by the missing prefixes
  count-rows : InRange s → EventsBelow s.n w → length (rows_after s t w) ≡ rows_with s t w
  count-rows range below = rows-after s t w (λ e m. lt_of_lt_of_le (each_below s.n w below e m) range.n-most)

  pub take-exactly : TakeExactly s t w
  take-exactly = record {
    table-short = λ spot. Iff.trans (take-refused s t w (take_5 s t w) spot)
        ((λ (at, e). (at, (less table_size (length t)).0 e)), (λ (at, h). (at, (less table_size (length t)).1 h)));
    range = λ spot. Iff.trans (take-refused s t w (take_16 s t w) spot) (
      (λ (long, (at, e)). (at, (at_least table_size (length t)).0 long, (out_of_range s).0 e)),
      (λ (at, long, none). ((at_least table_size (length t)).1 long, (at, (out_of_range s).1 none))),
    );
    events = λ spot. Iff.trans (take-refused s t w (take_8 s t w) spot) (
      (λ (long, (fine, (at, e))). (at, (at_least table_size (length t)).0 long, (range-exactly s).0 fine, (less _ 1024).0 e)),
      (λ (at, long, range, over). ((at_least table_size (length t)).1 long, ((range-exactly s).1 range, (at, (less _ 1024).1 over)))),
    );
    event = λ spot. Iff.trans (take-refused s t w (take_7 s t w) spot) (
      (λ (long, (fine, (few, c))). let r = (bad_exactly s.n w spot).0 c in (admitted long fine few, r.0, r.1, r.2)),
      (λ (a, within, here, lower). (
        (at_least table_size (length t)).1 a.table,
        ((range-exactly s).1 a.range, ((at_least _ 1024).1 a.events, (bad_exactly s.n w spot).1 (within, here, lower))),
      )),
    );
    rows = λ spot. Iff.trans (take-refused s t w (take_9 s t w) spot) (
      (λ (long, (fine, (few, (below, (at, over))))).
          let a = admitted long fine few in
          let b = (below-exactly s.n w).0 below in
          (at, a, b, subst (λ (k : ℕ). 256 < k) (count-rows a.range b) ((less _ 256).0 over))),
      (λ (at, a, b, over). (
        (at_least table_size (length t)).1 a.table,
        (
          (range-exactly s).1 a.range,
          (
            (at_least _ 1024).1 a.events,
            (
              (below-exactly s.n w).1 b,
              (at, (less _ 256).1 (subst (λ (k : ℕ). 256 < k) (sym (count-rows a.range b)) over)),
            ),
          ),
        ),
      )),
    );
    next = λ s'. Iff.trans (take_next s t w (take_gives s t w) s') (
      (λ (long, (fine, (few, (below, (fits, is))))).
          let a = admitted long fine few in
          let b = (below-exactly s.n w).0 below in
          (a, b, subst (λ (k : ℕ). k ≤ 256) (count-rows a.range b) ((at_least _ 256).0 fits), is ∙ ap (summary') (count-rows a.range b))),
      (λ (a, b, fits, is). (
        (at_least table_size (length t)).1 a.table,
        (
          (range-exactly s).1 a.range,
          (
            (at_least _ 1024).1 a.events,
            (
              (below-exactly s.n w).1 b,
              (
                (at_least _ 256).1 (subst (λ (k : ℕ). k ≤ 256) (sym (count-rows a.range b)) fits),
                is
                    ∙ ap (summary') (sym (count-rows a.range b)),
              ),
            ),
          ),
        ),
      )),
    );
  }
    where
      summary' : ℕ → Summary
      summary' k = record { n = s.n; rows = k; events = s.events + length w }

      admitted : leb table_size (length t) ≡ true → right_summary s ≡ true → leb (s.events + length w) 1024 ≡ true → Admitted s t w
      admitted long fine few = record { table = (at_least table_size (length t)).0 long; range = (range-exactly s).0 fine; events = (at_least _ 1024).0 few }

  pub take-leaves : (s' : Summary) → taken_answer s t w ≡ Ok s' → TakeLeaves s t w s' (taken_table (taken_answer s t w) s t w)
  take-leaves s' e = record {
    kept = taken-kept s t w s' e;
    appended = taken-appended s t w s' e;
    bits = taken-bits s t w s' e;
    used = taken-used s t w s' e;
    unused = taken-unused s t w s' e;
    new = taken-new s t w s' e;
    rest = taken-rest s t w s' e;
    size = taken-length s t w s' e;
  }

-- ---- The table of a log

pub log-left : (n : ℕ) (log : Log) → n ≤ max_events → LogBelow n log → length (rows n log) ≤ max_rows → (t : List ℕ) → table_size ≤ length t
    → LogLeft n log t (with_rows (log_rows log) (cleared table_size t))
log-left n log most below few t long = record {
  few = few;
  count = λ r h i b. row_number n log most below t r h i (omega arith);
  zero = λ r h i from b. row_zero n log most below t r h i from b;
  bits = λ r h e. row-bit n log most below t r h e;
  clear = λ r h e from. row-clear n log most below t r h e from;
  traffic = λ r h. row-passed n log most below t r h;
  zeros = λ i from b. table-zero n log most below t few i from b;
  rest = table-rest n log most below t few;
  size = table-length n log most below t few long;
}

-- after the words that were taken from a fresh table
pub taken-left : (n : ℕ) (t : List ℕ) (log : Log) (s s' : Summary) (t' : List ℕ)
    → fresh_answer n t ≡ Ok s → Takes s (fresh_table (fresh_answer n t) t) log s' t' → LogLeft n log t t'
taken-left n t log s s' t' e takes =
    let law = log-table n t log s s' t' e takes in
    let f = fresh-passed n t s e in
    let long = (((fresh-exactly n t).next s).0 e).0 in
    let below : LogBelow n log = subst (λ (x : Summary). LogBelow x.n log) f.1 (taken-below s _ log s' t' takes) in
    let few = taken-rows s _ log s' t' (rw f.1 (omega arith)) takes in
    subst (LogLeft n log t) (sym law.1) (log-left n log f.0 below
    (subst (λ (k : ℕ). k ≤ max_rows) (ap (λ (x : Summary). x.rows) law.0) few) t long)
