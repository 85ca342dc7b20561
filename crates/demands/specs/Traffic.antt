-- REQUEST 5: 'How many words pass a row.' 'Modellers weigh a row by its traffic. Each row has a fourteenth number, after the mask: how many words of
-- the log have a prefix with those counts.' That number is `traffic n log v`, of any size (crates/nets/specs/Nets.antt); a table has its minimum
-- with 65,535. What a taken word leaves in any table, also one with other contents, say the lines `used`, `unused` and `new` of TakeLeaves in
-- Tables.antt: 'Taking a word adds 1 in each row it uses, an appended row starting from 0, and 65,535 stays.' That 'the table is now at least 3,584
-- numbers, in refusal 5, in its spot and in the zeroing rules' say the lines of fresh, take and judge in Tables.antt, Judging.antt and demand 1.
-- Here is what stands in the table of a log; that it is left by the log's words and by judging; and what is as it was without the number.
use Rattle.std.specs.Prelude.{◌≡◌, ◌↔◌, List, [], map, ℕ, ◌≤◌, ◌<◌, min, T, length, get_or, replicate, Ok}
use Rattle.laws.specs.Numbers.{Bytes}
use Rattle.nets.specs.Nets.{Word, Log, Counts, counts, rows, passes, traffic, empty_words}
use Rattle.nets.specs.Words.{Begins}
use Rattle.rows.specs.Rows.{rows_of, none}
use Rattle.logs.specs.Answers.{fresh_answer, fresh_table, taken_answer, taken_table}
use Rattle.logs.specs.Log.{Takes}
use Rattle.logs.specs.declared.Summary.{Summary}
use Rattle.tables.specs.Tables.{traffic_in}
use Rattle.tables.specs.Forgetting.{forget, mask_row, take_uncounted}
use Rattle.bundles.specs.Readers.{events_in, log_in}
use Rattle.verdicts.specs.Judging.{verdict, table_after}
use Rattle.verdicts.specs.declared.Tally.{Tally}

-- of the table t' of a log over n events
pub record TrafficLeft (n : ℕ) (log : Log) (t' : List ℕ) : Type 0 where
  pub number : (r : ℕ) → r < length (rows n log) → traffic_in t' r ≡ min 65535 (traffic n log (get_or (rows n log) r []))
  -- every word passes row 0
  pub first : traffic_in t' 0 ≡ min 65535 (length log)
  -- some word passes each other row, and at most as many as there are events: its number is the traffic itself
  pub other : (r : ℕ) → 1 ≤ r → r < length (rows n log)
      → (traffic_in t' r ≡ traffic n log (get_or (rows n log) r [])) × (1 ≤ traffic_in t' r) × (traffic_in t' r ≤ 1024)
  -- 'only row 0 can reach that, and not without empty words': 1,024 events allow at most 1,024 other words
  pub full : (r : ℕ) → r < length (rows n log) → traffic_in t' r ≡ 65535 → (r ≡ 0) × (64511 ≤ empty_words log)
  -- 'Row numbers, masks .. are untouched': the rows, with the fourteenth number forgotten
  pub untouched : map forget (rows_of (length (rows n log)) t') ≡ map (mask_row log) (rows 12 log)

pub record Request5 : Type 0 where
  -- a word counts where one of its prefixes has the counts
  pub passing : (n : ℕ) (v : Counts) (w : Word) → T (passes n v w) ↔ ((u : Word) × Begins u w × (counts n u ≡ v))
  -- 'From a fresh table that nothing else writes, with each summary handed on to the next word', for a log of any number of words
  pub taken : (n : ℕ) (table : List ℕ) (log : Log) (s s' : Summary) (table' : List ℕ)
      → fresh_answer n table ≡ Ok s → Takes s (fresh_table (fresh_answer n table) table) log s' table' → TrafficLeft n log table'
  -- the judge leaves it too; a bundle has at most 255 words, so every number is the traffic itself
  pub judged : (table b : List ℕ) → Bytes b → (c : Tally) → verdict (length table) b ≡ Ok c
      → TrafficLeft (events_in b) (log_in b) (table_after b table)
  pub judged-number : (table b : List ℕ) → Bytes b → (c : Tally) → verdict (length table) b ≡ Ok c
      → (r : ℕ) → r < length (rows (events_in b) (log_in b))
      → traffic_in (table_after b table) r ≡ traffic (events_in b) (log_in b) (get_or (rows (events_in b) (log_in b)) r [])
  -- in any table: the rows that a word leaves, with the fourteenth number forgotten, are those of a word that is taken without that number
  pub untouched : (s : Summary) (table : List ℕ) (w : Word) (s' : Summary) → taken_answer s table w ≡ Ok s'
      → map forget (rows_of s'.rows (taken_table (taken_answer s table w) s table w)) ≡ take_uncounted (map forget (rows_of s.rows table)) none w
  -- the premises can be met, and 65,535 is reached: any number of empty words is taken from a fresh table
  pub empty-words : (n : ℕ) (table : List ℕ) (s : Summary) → fresh_answer n table ≡ Ok s → (k : ℕ)
      → (s' : Summary) × (table' : List ℕ) × Takes s (fresh_table (fresh_answer n table) table) (replicate k []) s' table'
