-- THE LOG table_size, in the words of the requirements: exactly when a fresh summary and a taken word succeed or are refused, and what they leave.
-- Every line is about any summary, any table and any word.
use Rattle.std.specs.Prelude.{◌≡◌, false, ◌↔◌, ◌⊎◌, List, [], ◌∷◌, ◌++◌, ℕ, ◌+◌, ◌*◌, ◌≤◌, ◌<◌, min, T, length, get_or, drop, Err, Ok}
use Rattle.laws.specs.Bits.{bit}
use Rattle.refusals.specs.Answers.{refusal}
use Rattle.nets.specs.Nets.{Word, Log, counts, rows, at, traffic}
use Rattle.nets.specs.Words.{Prefix, Begins}
use Rattle.nets.specs.Events.{EventsBelow}
use Rattle.logs.specs.Answers.{fresh_answer, taken_answer}
use Rattle.tables.specs.Tables.{counts_in, mask_in, traffic_in, missing_counts, LowestRow}
use Rattle.logs.specs.declared.Summary.{Summary}

-- A row is 14 numbers of the table: row r has its twelve counts, `counts_in t r`, from number 14 × r on, behind them its mask, `mask_in t r`, and last
-- its traffic, `traffic_in t r`. `LowestRow t k v r`: row r is the lowest of the k rows with the counts v. `missing_counts t k w`: the counts of the
-- prefixes of w, shortest first, that none of the k rows has. All five are in crates/tables/specs/Tables.antt, each in a line or two.

-- ---- Fresh: 5, 16

pub record FreshExactly (n : ℕ) (t : List ℕ) : Type 0 where
  -- 'table under 3,584 numbers | 5 | 3,584'
  pub table-short : (spot : ℕ) → (fresh_answer n t ≡ Err (refusal 5 spot)) ↔ ((spot ≡ 3584) × (length t < 3584))
  -- 'n not 1-12, .. | 16 | 0'
  pub range : (spot : ℕ) → (fresh_answer n t ≡ Err (refusal 16 spot)) ↔ ((spot ≡ 0) × (3584 ≤ length t) × ((n ≡ 0) ⊎ (12 < n)))
  -- 'A fresh one has one row, no events'
  pub next : (s : Summary) → (fresh_answer n t ≡ Ok s)
      ↔ ((3584 ≤ length t) × (1 ≤ n) × (n ≤ 12) × (s ≡ record { n = n; rows = 1; events = 0 }))

-- ---- Take: 5, 16, 8, 7, 9

-- 'n not 1-12, rows not 1-256, events above 1,024' is not so
pub record InRange (s : Summary) : Type 0 where
  pub n-some : 1 ≤ s.n
  pub n-most : s.n ≤ 12
  pub rows-some : 1 ≤ s.rows
  pub rows-most : s.rows ≤ 256
  pub events-most : s.events ≤ 1024

-- the tests that come before those of the word's events
pub record Admitted (s : Summary) (t : List ℕ) (w : Word) : Type 0 where
  pub table : 3584 ≤ length t
  pub range : InRange s
  pub events : s.events + length w ≤ 1024

-- the rows there are with the word taken
abbrev pub rows_with : Summary → List ℕ → Word → ℕ
rows_with s t w = s.rows + length (missing_counts t s.rows w)

pub record TakeExactly (s : Summary) (t : List ℕ) (w : Word) : Type 0 where
  -- 'table under 3,584 numbers | 5 | 3,584'
  pub table-short : (spot : ℕ) → (taken_answer s t w ≡ Err (refusal 5 spot)) ↔ ((spot ≡ 3584) × (length t < 3584))
  -- 'n not 1-12, rows not 1-256, events above 1,024 | 16 | 0'
  pub range : (spot : ℕ) → (taken_answer s t w ≡ Err (refusal 16 spot)) ↔ ((spot ≡ 0) × (3584 ≤ length t) × (InRange s → ⊥))
  -- 'events would pass 1,024 | 8 | .. for a summary 0'
  pub events : (spot : ℕ) → (taken_answer s t w ≡ Err (refusal 8 spot))
      ↔ ((spot ≡ 0) × (3584 ≤ length t) × InRange s × (1024 < s.events + length w))
  -- '.. event .. that isn't there | 7 | .. in a lent word, its position': the first one
  pub event : (spot : ℕ) → (taken_answer s t w ≡ Err (refusal 7 spot))
      ↔ (Admitted s t w × (spot < length w) × (s.n ≤ get_or w spot 0) × ((i : ℕ) → i < spot → get_or w i 0 < s.n))
  -- 'rows would pass 256 | 9 | as for 8'
  pub rows : (spot : ℕ) → (taken_answer s t w ≡ Err (refusal 9 spot))
      ↔ ((spot ≡ 0) × Admitted s t w × EventsBelow s.n w × (256 < rows_with s t w))
  -- else the next summary
  pub next : (s' : Summary) → (taken_answer s t w ≡ Ok s')
      ↔ (Admitted s t w × EventsBelow s.n w × (rows_with s t w ≤ 256)
      × (s' ≡ record { n = s.n; rows = rows_with s t w; events = s.events + length w }))

-- ---- What a taken word leaves in any table

-- 'for each prefix, shortest first, the lowest present row with its counts is used, else a row with mask 0 is appended; then the next event's bit
-- is set. No other number of the table changes.', and from request 5 on 'Taking a word adds 1 in each row it uses, an appended row starting from 0,
-- and 65,535 stays': of the table t' that is left, with the summary s'
pub record TakeLeaves (s : Summary) (t : List ℕ) (w : Word) (s' : Summary) (t' : List ℕ) : Type 0 where
  -- the rows that were there keep their counts
  pub kept : (r : ℕ) → r < s.rows → counts_in t' r ≡ counts_in t r
  -- the missing prefixes' counts are appended, in order
  pub appended : (i : ℕ) → i < length (missing_counts t s.rows w) → counts_in t' (s.rows + i) ≡ get_or (missing_counts t s.rows w) i []
  -- a mask has the bits that it had, a new one none, and those of the events that follow the prefixes whose lowest row it is
  pub bits : (r : ℕ) → r < s'.rows → (e : ℕ)
      → T (bit (mask_in t' r) e)
      ↔ (((r < s.rows) × T (bit (mask_in t r) e)) ⊎ ((u : Word) × Begins (u ++ e ∷ []) w × LowestRow t' s'.rows (counts 12 u) r))
  -- the traffic of a row that is the lowest of some prefix grows by 1, up to 65,535; that of each other row stays, and that of a new row is 1
  pub used : (r : ℕ) → r < s.rows → (u : Word) → Begins u w → LowestRow t' s'.rows (counts 12 u) r
      → traffic_in t' r ≡ min 65535 (traffic_in t r + 1)
  pub unused : (r : ℕ) → r < s.rows → ((u : Word) → Begins u w → LowestRow t' s'.rows (counts 12 u) r → ⊥) → traffic_in t' r ≡ traffic_in t r
  pub new : (r : ℕ) → s.rows ≤ r → r < s'.rows → traffic_in t' r ≡ 1
  -- every other number is as it was
  pub rest : drop (14 * s'.rows) t' ≡ drop (14 * s'.rows) t
  pub size : length t' ≡ length t

-- ---- The table of a log, number by number

-- 'twelve counts (zero from n on), then a mask whose bit e is set when some prefix with these counts is followed by e in the log', then 'how many
-- words of the log have a prefix with those counts', for each of the log's rows in their order; zeros up to number 3,583, and the rest as in t
pub record LogLeft (n : ℕ) (log : Log) (t t' : List ℕ) : Type 0 where
  pub few : length (rows n log) ≤ 256
  pub count : (r : ℕ) → r < length (rows n log) → (i : ℕ) → i < n → get_or t' (14 * r + i) 0 ≡ at (get_or (rows n log) r []) i
  pub zero : (r : ℕ) → r < length (rows n log) → (i : ℕ) → n ≤ i → i < 12 → get_or t' (14 * r + i) 0 ≡ 0
  pub bits : (r : ℕ) → r < length (rows n log) → (e : ℕ)
      → T (bit (mask_in t' r) e) ↔ ((u : Word) × (counts n u ≡ get_or (rows n log) r []) × Prefix log (u ++ e ∷ []))
  pub clear : (r : ℕ) → r < length (rows n log) → (e : ℕ) → n ≤ e → bit (mask_in t' r) e ≡ false
  pub traffic : (r : ℕ) → r < length (rows n log) → traffic_in t' r ≡ min 65535 (traffic n log (get_or (rows n log) r []))
  pub zeros : (i : ℕ) → 14 * length (rows n log) ≤ i → i < 3584 → get_or t' i 0 ≡ 0
  pub rest : drop 3584 t' ≡ drop 3584 t
  pub size : length t' ≡ length t
