-- What a fresh summary and a taken word answer, and what they leave in the table.
use Rattle.std.specs.Prelude.{Bool, ◌&&◌, List, ℕ, ◌+◌, length, leb, ltb, Err, Ok}
use Rattle.laws.specs.Lists.{all}
use Rattle.limits.specs.Limits.{max_events, max_log_events, max_rows}
use Rattle.refusals.specs.Table.{numbers_short_number, value_number, events_number, rows_number, state_range_number}
use Rattle.refusals.specs.Results.{Result, value, refused, ◌>>◌, require}
use Rattle.refusals.specs.Answers.{refusal, Answer}
use Rattle.nets.specs.Events.{first_bad}
use Rattle.nets.specs.Nets.{Word}
pub use Rattle.rows.specs.Rows.{table_size}
use Rattle.rows.specs.Rows.{Row, rows_of, with_rows, take_word, none, cleared}
use Rattle.logs.specs.declared.Summary.{Summary}

-- 1 to 12 events
unfoldable pub right_event_count : ℕ → Bool
right_event_count n = leb 1 n && leb n max_events

-- a summary within its ranges: n 1-12, rows 1-256, at most 1,024 events
unfoldable pub right_summary : Summary → Bool
right_summary s = right_event_count s.n && (leb 1 s.rows && (leb s.rows max_rows && leb s.events max_log_events))

-- a call's answer: the next summary, or the refusal
abbrev pub Taken : Type 0
Taken = Answer Summary

unfoldable pub taken_of : Result Summary → Taken
taken_of (value s) = Ok s
taken_of (refused number spot) = Err (refusal number spot)

-- ---- A fresh summary

-- one row and no events
abbrev pub fresh_summary : ℕ → Summary
fresh_summary n = record { n = n; rows = 1; events = 0 }

-- what starting a log gives: 5, 16; else its summary
unfoldable pub log_started : ℕ → List ℕ → Result Summary
log_started n t = do
  require (leb table_size (length t)) numbers_short_number table_size
  require (right_event_count n) state_range_number 0
  value (fresh_summary n)

unfoldable pub fresh_answer : ℕ → List ℕ → Taken
fresh_answer n t = taken_of (log_started n t)

-- the table afterwards: its first 3,584 numbers zero; after a refusal as it was
unfoldable pub fresh_table : Taken → List ℕ → List ℕ
fresh_table (Ok s) t = cleared table_size t
fresh_table (Err r) t = t

-- ---- A taken word

-- the rows after the word w
abbrev pub rows_after : Summary → List ℕ → Word → List Row
rows_after s t w = take_word (rows_of s.rows t) none w

-- the summary after it
abbrev pub summary_after : Summary → List ℕ → Word → Summary
summary_after s t w = record { n = s.n; rows = length (rows_after s t w); events = s.events + length w }

-- what taking the word gives: 5, 16, 8, 7, 9; else the next summary
unfoldable pub word_taken : Summary → List ℕ → Word → Result Summary
word_taken s t w = do
  require (leb table_size (length t)) numbers_short_number table_size
  require (right_summary s) state_range_number 0
  require (leb (s.events + length w) max_log_events) events_number 0
  require (all (λ e. ltb e s.n) w) value_number (first_bad s.n w)
  require (leb (length (rows_after s t w)) max_rows) rows_number 0
  value (summary_after s t w)

unfoldable pub taken_answer : Summary → List ℕ → Word → Taken
taken_answer s t w = taken_of (word_taken s t w)

-- the table afterwards: with the rows after the word; after a refusal as it was
unfoldable pub taken_table : Taken → Summary → List ℕ → Word → List ℕ
taken_table (Ok next) s t w = with_rows (rows_after s t w) t
taken_table (Err r) s t w = t

-- ---- An answer as a number: 0 for a summary, else the refusal's

unfoldable pub taken_number : Taken → ℕ
taken_number (Ok s) = 0
taken_number (Err r) = r.number
