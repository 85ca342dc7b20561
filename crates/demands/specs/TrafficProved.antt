-- The page of request 5, proved.
use Rattle.std.specs.Prelude.{◌≡◌, refl, true, length, get_or, replicate, Ok}
use Rattle.std.proofs.Common.{sym, ◌∙◌, subst, ⊎_elim, not-suc-le-zero, arith}
use Rattle.std.proofs.Math.Path.{ap}
use mathlib.Core.List.{List, [], ◌∷◌, map, map-map, Memᴰ}
use Prim.Native.Nat.{ℕ, zero, suc, ◌≤◌, ◌<◌, min}
use Rattle.laws.specs.Booleans.{lt_or_le, yes_true}
use Rattle.laws.specs.Lists.{keep, tabulate, get_d_member, member, →member}
use Rattle.laws.specs.Numbers.{Bytes}
use Rattle.limits.specs.Limits.{max_events, max_log_events}
use Rattle.nets.specs.Nets.{Log, Counts, counts, beginnings, rows, event_count, traffic, empty_words}
use Rattle.nets.specs.Words.{empty-prefix}
use Rattle.nets.specs.Fits.{LogBelow}
use Rattle.nets.proofs.Rows.{→row, first-row, other_row}
use Rattle.nets.specs.LogLaws.{length-words}
use Rattle.nets.proofs.Traffic.{passes-exactly, traffic-most, traffic-first, traffic-some, traffic-few, words-most}
use Rattle.rows.specs.Growth.{counts-none}
use Rattle.rows.specs.Rows.{Row, rows_of, none, cleared}
use Rattle.logs.specs.Answers.{table_size, fresh_summary, fresh_answer, fresh_table, taken_answer, taken_table}
use Rattle.logs.specs.Log.{log_row, log_rows, Takes}
use Rattle.logs.specs.LogTable.{taken-below, taken-events, cleared-table, cleared-length, fresh-passed, log-table}
use Rattle.rows.specs.Visiting.{counts_of}
use Rattle.logs.specs.declared.Summary.{Summary}
use Rattle.tables.specs.Tables.{counts_in, traffic_in, missing_counts, row_counts, taken-rows as rows_taken}
use Rattle.tables.specs.LogNumbers.{log_table, row-passed, table-rows}
use Rattle.tables.specs.Forgetting.{forget, mask_row, take-forget}
use Rattle.bundles.specs.Readers.{head_of, events_in, log_in}
use Rattle.bundles.specs.Limits.{log-below}
use Rattle.verdicts.specs.Judging.{verdict, table_after}
use Rattle.verdicts.specs.declared.Tally.{Tally}
use Rattle.demands.specs.Tables.{TakeLeaves}
use Rattle.demands.specs.TablesProved.{fresh-exactly, take-exactly, take-leaves}
use Rattle.demands.specs.Comparing.{fields, table-left}
use Rattle.demands.specs.Traffic.{TrafficLeft, Request5}

-- ---- The table of a log

module _ (n : ℕ) (log : Log) (most : n ≤ max_events) (below : LogBelow n log) (events : event_count log ≤ max_log_events) (t : List ℕ) where
  abbrev t' : List ℕ
  t' = log_table n log most below t

  abbrev row : ℕ → Counts
  row r = get_or (rows n log) r []

  some-row : 0 < length (rows n log)
  some-row = some (rows n log) (→row n log [] (empty-prefix log))
    where
      some : {x : Counts} (l : List Counts) → Memᴰ x l → 0 < length l
      some [] m = elim m [ ]
      some (y ∷ l) m = omega arith

  first : traffic_in t' 0 ≡ min 65535 (length log)
  first =
      row-passed n log most below t 0 some-row
      ∙ ap (λ (v : Counts). min 65535 (traffic n log v)) (first-row n log)
      ∙ ap (min 65535) (traffic-first n log)

  other : (r : ℕ) → 1 ≤ r → r < length (rows n log) → (traffic_in t' r ≡ traffic n log (row r)) × (1 ≤ traffic_in t' r) × (traffic_in t' r ≤ 1024)
  other r some h =
      let number = row-passed n log most below t r h in
      let apart = other_row n log r some h in
      let few = traffic-few n log (row r) apart in
      let one = traffic-some n log (row r) (get_d_member (rows n log) r [] h) apart in
      (omega arith, omega arith, omega arith)

  full : (r : ℕ) → r < length (rows n log) → traffic_in t' r ≡ 65535 → (r ≡ 0) × (64511 ≤ empty_words log)
  full r h e = ⊎_elim
      (λ low.
      let zero_row : r ≡ 0 = omega arith in
      let here : min 65535 (length log) ≡ 65535 = sym first ∙ ap (traffic_in t') (sym zero_row) ∙ e in
      (zero_row, omega (arith, here, words-most log)))
      (λ some. let few = (other r some h).2 in absurd (omega arith))
      (lt_or_le r 1)

  untouched : map forget (rows_of (length (rows n log)) t') ≡ map (mask_row log) (rows 12 log)
  unfolding log_rows
  untouched = ap (map forget) (table-rows n log most below t) ∙ map-map forget (log_row log) (rows 12 log)

  traffic-left : TrafficLeft n log t'
  traffic-left = record { number = row-passed n log most below t; first = first; other = other; full = full; untouched = untouched }

-- after the words that were taken from a fresh table
taken : (n : ℕ) (t : List ℕ) (log : Log) (s s' : Summary) (t' : List ℕ)
    → fresh_answer n t ≡ Ok s → Takes s (fresh_table (fresh_answer n t) t) log s' t' → TrafficLeft n log t'
taken n t log s s' t' e takes =
    let law = log-table n t log s s' t' e takes in
    let f = fresh-passed n t s e in
    let below : LogBelow n log = subst (λ (x : Summary). LogBelow x.n log) f.1 (taken-below s _ log s' t' takes) in
    let few = taken-events s _ log s' t' (rw f.1 (omega arith)) takes in
    subst (TrafficLeft n log) (sym law.1) (traffic-left n log f.0 below
    (subst (λ (k : ℕ). k ≤ max_log_events) (ap (λ (x : Summary). x.events) law.0) few) t)

-- and after judging
module _ (table b : List ℕ) (bytes : Bytes b) (c : Tally) (accepted : verdict (length table) b ≡ Ok c) where
  left : TrafficLeft (events_in b) (log_in b) (table_after b table)
  left =
      let l = (fields b bytes (length table) c accepted).1.limits.head in
      subst (TrafficLeft (events_in b) (log_in b)) (sym (table-left b bytes (length table) c accepted table refl))
      (traffic-left (events_in b) (log_in b) l.events.1 (log-below (head_of b) l) l.log_events table)

  left-number : (r : ℕ) → r < length (rows (events_in b) (log_in b))
      → traffic_in (table_after b table) r ≡ traffic (events_in b) (log_in b) (get_or (rows (events_in b) (log_in b)) r [])
  left-number r h =
      let l = (fields b bytes (length table) c accepted).1.limits.head in
      let number = left.number r h in
      let most = traffic-most (events_in b) (log_in b) (get_or (rows (events_in b) (log_in b)) r []) in
      omega (arith, number, most, l.log_size, length-words (head_of b).entries)

-- ---- Any number of empty words

-- a table whose row 0 is zeros misses no row for the empty word
none-missing : (t : List ℕ) → counts_in t 0 ≡ none → length (missing_counts t 1 []) ≡ 0
unfolding keep beginnings tabulate
none-missing t zeros =
    let there : member (counts max_events []) (counts_in t 0 ∷ []) ≡ true =
    yes_true _ (→member (counts max_events []) (counts_in t 0 ∷ []) (Memᴰ.head (sym counts-none ∙ sym zeros))) in
    rw there

module _ (n : ℕ) (some : 1 ≤ n) (most : n ≤ 12) where
  module _ (t : List ℕ) (long : 3584 ≤ length t) (zeros : counts_in t 0 ≡ none) where
    next : taken_answer (fresh_summary n) t [] ≡ Ok (fresh_summary n)
    next = ((take-exactly (fresh_summary n) t []).next (fresh_summary n)).1 (
      record {
        table = long;
        range = record { n-some = some; n-most = most; rows-some = omega arith; rows-most = omega arith; events-most = omega arith };
        events = omega arith;
      },
      (λ i h. absurd (not-suc-le-zero h)),
      omega (arith, none-missing t zeros),
      rw (none-missing t zeros),
    )

    abbrev after : List ℕ
    after = taken_table (taken_answer (fresh_summary n) t []) (fresh_summary n) t []

    leaves : TakeLeaves (fresh_summary n) t [] (fresh_summary n) after
    leaves = take-leaves (fresh_summary n) t [] (fresh_summary n) next

  empty-from : (k : ℕ) (t : List ℕ) → 3584 ≤ length t → counts_in t 0 ≡ none
      → (s' : Summary) × (t' : List ℕ) × Takes (fresh_summary n) t (replicate k []) s' t'
  unfolding Takes
  empty-from zero t long zeros = (fresh_summary n, t, (refl, refl))
  empty-from (suc k) t long zeros =
      let l = leaves t long zeros in
      let rest = empty-from k (after t long zeros) (omega (arith, l.size)) (l.kept 0 (omega arith) ∙ zeros) in
      (rest.0, rest.1, (fresh_summary n, next t long zeros, rest.2))

fresh-zeros : (t : List ℕ) → counts_in (cleared table_size t) 0 ≡ none
unfolding counts_of
fresh-zeros t = sym (row_counts 1 (cleared table_size t) 0 (omega arith)) ∙ ap (λ (rs : List Row). get_or (counts_of rs) 0 []) (cleared-table t)

empty-words : (n : ℕ) (t : List ℕ) (s : Summary) → fresh_answer n t ≡ Ok s → (k : ℕ)
    → (s' : Summary) × (t' : List ℕ) × Takes s (fresh_table (fresh_answer n t) t) (replicate k []) s' t'
unfolding fresh_table
empty-words n t s e k =
    let f = ((fresh-exactly n t).next s).0 e in
    rw (e, f.3) (empty-from n f.1 f.2 k (cleared table_size t) (cleared-length table_size t) (fresh-zeros t))

pub request_5 : Request5
request_5 = record {
  passing = passes-exactly;
  taken = taken;
  judged = left;
  judged-number = left-number;
  untouched = λ s table w s' e. ap (map forget) (rows_taken s table w s' e) ∙ take-forget w none (rows_of s.rows table);
  empty-words = empty-words;
}
