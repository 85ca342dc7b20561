-- The user's three demands, as types: the summary. Proved.antt proves each of them; docs/ASSURANCE.md says how to read them.
-- A page for each group of calls says exactly when which refusal meets a call, and at which spot, in the words of the requirements: Opening.antt
-- (open, seal), Tables.antt (fresh, take, and what stands in a table), Judging.antt and Screening.antt; Boundary.antt says what the calls for C and
-- Rust return and put in `answer`. Here they are gathered by name. A page for each change request says what it promised beyond that: BlockOrder.antt
-- (request 1), Shortfalls.antt (2), Sealing.antt (3), Alterations.antt (4), Traffic.antt (5), Joining.antt (6), Pruning.antt (7; the refusals of
-- prune stand there, too), Completed.antt (8), Converting.antt (9: the refusals of to_new and to_old), Converted.antt (9: what they write),
-- Carrying.antt (10: the refusals of start and step, what they leave), Carried.antt (10: a run of the carried engine), Replacing.antt (11: the
-- refusals of replacing, what it leaves), Sales.antt (11: a sale with replacements, and two files that meet the premise of demand 3) and
-- Reaching.antt (12: the search for a word). The demands are stated with the requests' changes in them; demands 2 and 3 as they were before request
-- 8, for bundles of the old edition, are at the end.
-- A file, a bundle, an output, a table and a word are lists of numbers; `Bytes` says that each number is below 256.
use Rattle.std.specs.Prelude.{◌≡◌, true, false, not, ◌↔◌, ℕ, ◌*◌, ◌≤◌, ◌<◌, T, length, take, drop, get_or, Err, None, Ok, Some}
use mathlib.Core.List.{List, [], ◌∷◌, ◌++◌, Memᴰ}
use Rattle.laws.specs.Distinct.{Cardinality}
use Rattle.laws.specs.Every.{Pointwise}
use Rattle.laws.specs.Lists.{among}
use Rattle.laws.specs.Numbers.{Bytes}
use Rattle.laws.specs.Parts.{front}
use Rattle.laws.specs.Sorting.{Sorted}
use Rattle.limits.specs.Limits.{max_places, max_terms, max_pairs}
use Rattle.refusals.specs.Results.{Result, value}
use Rattle.refusals.specs.Answers.{answer, written, number_of}
use Rattle.refusals.specs.Laws.{Ends}
use Rattle.refusals.specs.declared.Refusal.{Refusal}
use Rattle.block.specs.File.{opened, sealed, blocks_for}
use Rattle.nets.specs.Nets.{Word, Log, Net, Step, join, step_after, net_permits, permits, first_refusing, shortfall_of, rows, wrong_continuations, event_count}
use Rattle.nets.specs.Bundle as theory
use Rattle.nets.specs.Words.{Prefix, Follows, PermitsLog, Obeys, EveryNetPermits, EveryObeyingNetPermits}
use Rattle.nets.specs.Entries.{NoneCompleted}
use Rattle.nets.specs.Tallies.{PrefixCounts, WrongContinuation}
use Rattle.nets.specs.Order.{Before}
use Rattle.nets.specs.Comparison.{PrefixesIn, Contained}
use Rattle.nets.specs.Screening.{FirstRefused, shortfall_at}
use Rattle.nets.specs.TokenGame.{places_of}
use Rattle.nets.specs.Regions.{◌⊆◌, Constraint, Region}
use Rattle.nets.specs.Completed.{sound_regions}
use Rattle.nets.specs.SeparationProblems.{SeparationProblem, SolvedIn, Complete, Suboptimal}
use Rattle.nets.specs.RegionCertificates.{Certifies, ByRegions}
use Rattle.rows.specs.Rows.{with_rows, cleared}
use Rattle.logs.specs.Answers.{table_size, fresh_answer, fresh_table, taken_answer, taken_table, taken_number}
use Rattle.logs.specs.Log.{log_rows, Takes}
use Rattle.logs.specs.declared.Summary.{Summary}
use Rattle.bundles.specs.Layout.{Head, Contents, InLimits, to_net, to_bundle, words_in, completed_in, wrong_in, solves_all_in, bytes_of}
use Rattle.bundles.specs.Readers.{head_of, events_in, log_in, net_in}
use Rattle.verdicts.specs.Judging.{verdict, verdict_number, table_after}
use Rattle.verdicts.specs.Acceptance.{AcceptedAs}
use Rattle.verdicts.specs.declared.Tally.{Tally}
use Rattle.screening.specs.Screening.{screened, screened_joined, screened_number, Screened}
use Rattle.screening.specs.Screens.{Readable, Screenable}
use Rattle.screening.specs.Joins.{JoinReadable}
use Rattle.editions.specs.Converting.{converting_to_new, converting_to_old}
use Rattle.pruning.specs.Pruning.{pruning}
use Rattle.demands.specs.Opening.{OpenExactly, SealExactly}
use Rattle.demands.specs.Tables.{FreshExactly, TakeExactly, TakeLeaves, LogLeft}
use Rattle.demands.specs.Judging.{JudgeExactly, FieldsExactly}
use Rattle.demands.specs.Screening.{ScreenExactly, JoinExactly}
use Rattle.demands.specs.Pruning.{PruneExactly}
use Rattle.demands.specs.Converting.{ToNewExactly, ToOldExactly}
use Rattle.demands.specs.Carrying.{CallsOfEngine}
use Rattle.demands.specs.Replacing.{CallOfReplacing}
use Rattle.demands.specs.Reaching.{Request12}
use Rattle.demands.specs.Boundary.{Boundary}
use Rattle.demands.specs.Completed.{entries_in}

-- ---- DEMAND 1: 'every call on every input ends in a result or in a refusal from the numbered table, touches no memory but the buffers
-- lent to it, and leaves in each of them exactly what the table says.'
-- That a call ends, and touches nothing else, is part of its being proved. Its contract gives the answer and each buffer at exit by the
-- definitions below, for every input. Of them it is stated here when each refusal meets a call, that its number is one of the call's line in the
-- order of refusals, and what is left in the buffers.

pub record Demand1 : Type 0 where
  -- exactly when each call has a result, and exactly when it is refused with which number, at which spot
  pub open_exactly : (file : List ℕ) (room : ℕ) → OpenExactly file room
  pub seal_exactly : (b : List ℕ) (room : ℕ) → SealExactly b room
  pub fresh-exactly : (n : ℕ) (table : List ℕ) → FreshExactly n table
  pub take-exactly : (s : Summary) (table : List ℕ) (w : Word) → TakeExactly s table w
  pub judge_exactly : (table_length : ℕ) (b : List ℕ) → Bytes b → JudgeExactly table_length b
  pub screen-exactly : (b : List ℕ) → Bytes b → (w : Word) → ScreenExactly b w
  pub join-exactly : (first second : List ℕ) (w : Word) → JoinExactly first second w
  pub prune-exactly : (table_length : ℕ) (b : List ℕ) (room : ℕ) → Bytes b → PruneExactly table_length b room
  pub to_new-exactly : (table_length : ℕ) (b : List ℕ) (room : ℕ) → Bytes b → ToNewExactly table_length b room
  pub to_old-exactly : (table_length : ℕ) (b : List ℕ) (room : ℕ) → Bytes b → ToOldExactly table_length b room
  pub fields-exactly : (b : List ℕ) (at : ℕ) → FieldsExactly b at
  -- start and step of the carried engine, replacing and the search for a word: that too, their refusal numbers, and what they leave of what is lent
  pub engine : CallsOfEngine
  pub replacing : CallOfReplacing
  pub search : Request12
  -- what the calls for C and Rust return, 0 for a result alone, 256 for a stop alone and 257 alone where there is no word, and what `answer` holds
  pub boundary : Boundary
  -- the limits that no other line says by a numeral: 64 places, 64 terms, 64 pairs
  pub counts-most : (max_places ≡ 64) × (max_terms ≡ 64) × (max_pairs ≡ 64)
  -- the number of a refusal is one of the call's line, 0 is that of a result, 256 that of a stop
  pub refusal-numbers : (r : Refusal) → (number_of (Err r) ≡ r.number) × (taken_number (Err r) ≡ r.number)
      × (verdict_number (Err r) ≡ r.number) × (screened_number (Err r) ≡ r.number)
  pub refusals_of_open : (file : List ℕ) (room : ℕ) → among (number_of (answer (opened file) room)) (0 ∷ 1 ∷ 17 ∷ 18 ∷ 2 ∷ 3 ∷ []) ≡ true
  pub refusals_of_seal : (b : List ℕ) (room : ℕ) → among (number_of (answer (sealed b) room)) (0 ∷ 4 ∷ 3 ∷ []) ≡ true
  pub refusals_of_fresh : (n : ℕ) (table : List ℕ) → among (taken_number (fresh_answer n table)) (0 ∷ 5 ∷ 16 ∷ []) ≡ true
  pub refusals_of_take : (s : Summary) (table : List ℕ) (w : Word) → among (taken_number (taken_answer s table w)) (0 ∷ 5 ∷ 16 ∷ 8 ∷ 7 ∷ 9 ∷ []) ≡ true
  pub refusals_of_judge : (table_length : ℕ) (b : List ℕ)
      → among (verdict_number (verdict table_length b)) (0 ∷ 4 ∷ 5 ∷ 6 ∷ 7 ∷ 8 ∷ 9 ∷ 10 ∷ 20 ∷ 11 ∷ 12 ∷ 13 ∷ []) ≡ true
  pub refusals_of_screen : (b : List ℕ) (w : Word) → among (screened_number (screened b w)) (0 ∷ 256 ∷ 14 ∷ 4 ∷ 6 ∷ 7 ∷ 8 ∷ 15 ∷ []) ≡ true
  pub refusals_of_join : (first second : List ℕ) (w : Word)
      → among (screened_number (screened_joined first second w)) (0 ∷ 256 ∷ 14 ∷ 4 ∷ 6 ∷ 7 ∷ 8 ∷ 19 ∷ 15 ∷ []) ≡ true
  pub refusals_of_prune : (table_length : ℕ) (b : List ℕ) (room : ℕ)
      → among (number_of (answer (pruning table_length b) room)) (0 ∷ 4 ∷ 5 ∷ 6 ∷ 7 ∷ 8 ∷ 9 ∷ 10 ∷ 20 ∷ 11 ∷ 12 ∷ 13 ∷ 3 ∷ []) ≡ true
  pub refusals_of_to_new : (table_length : ℕ) (b : List ℕ) (room : ℕ)
      → among (number_of (answer (converting_to_new table_length b) room)) (0 ∷ 4 ∷ 5 ∷ 6 ∷ 7 ∷ 8 ∷ 9 ∷ 10 ∷ 20 ∷ 11 ∷ 12 ∷ 13 ∷ 3 ∷ []) ≡ true
  pub refusals_of_to_old : (table_length : ℕ) (b : List ℕ) (room : ℕ)
      → among (number_of (answer (converting_to_old table_length b) room)) (0 ∷ 4 ∷ 5 ∷ 6 ∷ 7 ∷ 8 ∷ 9 ∷ 10 ∷ 20 ∷ 11 ∷ 12 ∷ 13 ∷ 21 ∷ 3 ∷ []) ≡ true
  -- 'No refusal writes to an output': one line for all calls that are lent one. These are open, seal, prune, to_new and to_old: each answers
  -- `answer result (length output)` and leaves `written result output`, where the result is `opened file`, `sealed b`, `pruning (length table) b`,
  -- `converting_to_new (length table) b` or `converting_to_old (length table) b`. `run` and `run_both` lend theirs to open, and hand its answer on.
  pub refused_output : (result : Result (List ℕ)) (output : List ℕ) (r : Refusal) → answer result (length output) ≡ Err r
      → written result output ≡ output
  -- a result stands in front of the output, and the rest is left
  pub result_output : (result : Result (List ℕ)) (output : List ℕ) (n : ℕ) → answer result (length output) ≡ Ok n
      → (new : List ℕ) × (result ≡ value new) × (n ≡ length new) × (written result output ≡ front new output)
  pub result-rest : (result : Result (List ℕ)) (output : List ℕ) (n : ℕ) → answer result (length output) ≡ Ok n
      → (length (written result output) ≡ length output) × (drop n (written result output) ≡ drop n output)
  -- a fresh summary leaves zeros up to number 3,583, and the rest; from there on the words that are taken leave the rows of their log, each
  -- with its mask and its traffic, zeros up to number 3,583, and the rest
  pub fresh-table : (n : ℕ) (table : List ℕ) (s : Summary) → fresh_answer n table ≡ Ok s
      → fresh_table (fresh_answer n table) table ≡ cleared table_size table
  pub log-table : (n : ℕ) (table : List ℕ) (log : Log) (s s' : Summary) (table' : List ℕ)
      → fresh_answer n table ≡ Ok s → Takes s (fresh_table (fresh_answer n table) table) log s' table'
      → (s' ≡ record { n = n; rows = length (rows n log); events = event_count log }) × (table' ≡ with_rows (log_rows log) (cleared table_size table))
  -- number by number: n counts, zeros from n on, bits for the allowed steps, and the traffic
  pub log-numbers : (n : ℕ) (table : List ℕ) (log : Log) (s s' : Summary) (table' : List ℕ)
      → fresh_answer n table ≡ Ok s → Takes s (fresh_table (fresh_answer n table) table) log s' table' → LogLeft n log table table'
  -- what a taken word leaves in any table
  pub taken-table : (s : Summary) (table : List ℕ) (w : Word) (s' : Summary) → taken_answer s table w ≡ Ok s'
      → TakeLeaves s table w s' (taken_table (taken_answer s table w) s table w)
  -- the summary and fresh, refusing, leave the table
  pub refused-fresh : (n : ℕ) (table : List ℕ) (r : Refusal) → fresh_answer n table ≡ Err r → fresh_table (fresh_answer n table) table ≡ table
  pub refused-take : (s : Summary) (table : List ℕ) (w : Word) (r : Refusal) → taken_answer s table w ≡ Err r
      → taken_table (taken_answer s table w) s table w ≡ table
  -- the judge, refusing with 4 or 5, leaves the table; with any other number it leaves zeros up to number 3,583, and the rest
  pub refused_judge : (table b : List ℕ) (r : Refusal) → verdict (length table) b ≡ Err r
      → ((among r.number (4 ∷ 5 ∷ []) ≡ true) → table_after b table ≡ table)
      × ((among r.number (4 ∷ 5 ∷ []) ≡ false) → table_after b table ≡ cleared table_size table)
  -- accepting, it leaves the log's rows, each with its mask and its traffic, zeros up to number 3,583, and the rest
  pub accepted_judge : (table b : List ℕ) → Bytes b → (c : Tally) → verdict (length table) b ≡ Ok c
      → table_after b table ≡ with_rows (log_rows (log_in b)) (cleared table_size table)
  pub accepted-numbers : (table b : List ℕ) → Bytes b → (c : Tally) → verdict (length table) b ≡ Ok c
      → LogLeft (events_in b) (log_in b) table (table_after b table)

-- ---- DEMAND 2: 'With long enough buffers lent, a bundle is accepted exactly when it keeps the layout and limits and, by the region
-- definitions of Badouel and Schlachter, its net permits every log word and each wrong continuation is refused by the place its
-- certificate lists or, in that certificate, has whole-number weights that meet the stated inequalities; the four counts are those of the
-- definitions. Screening names a readable word's first refused step, or permits when there is none. Sealing and opening, so lent, undo
-- each other.' Request 8: 'A net whose places all do so obeys the log's completed words, and demand 2 now asks that too for acceptance.'

-- what the four counts c are the numbers of, for a log and a net over n events
pub record FourCounts (n : ℕ) (log : Log) (net : Net) (c : Tally) : Type 0 where
  -- 'A row is a distinct v', the count vector of some prefix
  pub row_count : Cardinality (PrefixCounts n log) c.rows
  -- '.. some prefix with these counts is followed by e in the log. .. These .. are the allowed steps.'
  pub allowed-count : Cardinality (Follows n log) c.allowed
  -- 'A pair of row and event with its bit clear is a wrong continuation': those of kind 0 are the ones that the net refuses,
  pub kind_0 : Cardinality (λ s. WrongContinuation n log s × T (not (net_permits n net s))) c.by_place
  -- those of kind 1 the ones that it permits
  pub kind_1 : Cardinality (λ s. WrongContinuation n log s × T (net_permits n net s)) c.by_weights

pub record Demand2 : Type 0 where
  pub accepted : (table_length : ℕ) → 3584 ≤ table_length → (b : List ℕ) → Bytes b → (c : Tally) → (verdict table_length b ≡ Ok c)
      ↔ ((d : Contents) × AcceptedAs b c d)
  -- what it asks of contents: their net permits every log word and obeys the completed ones, and their certificates solve the wrong continuations
  pub asks : (d : Contents) → T (theory.accepted (to_bundle d)) ↔ (PermitsLog d.head.events (to_net d.head) (words_in d.head)
      × Obeys d.head.events (to_net d.head) (completed_in d.head) × T (solves_all_in d.head (wrong_in d.head) d.certificates))
  -- the event count, log and net that the lines below and demand 3 speak of are, of an accepted bundle, those of its contents
  pub head : (b : List ℕ) → Bytes b → (c : Tally) (d : Contents) → AcceptedAs b c d → head_of b ≡ d.head
  -- 'the four counts are those of the definitions'
  pub counts : (table_length : ℕ) (b : List ℕ) → Bytes b → (c : Tally) → verdict table_length b ≡ Ok c
      → FourCounts (events_in b) (log_in b) (net_in b) c
  -- 'by the region definitions of Badouel and Schlachter', in their terms alone: accepted, with some counts, exactly when it keeps layout and limits,
  -- every place is a sound region of the log, that is a region with ⟨Ψ(w)⟩ · p = 0 for each completed word w, and each separation problem that is no
  -- constraint is, in their order, witnessed by the region of the place that its certificate lists, or has in that certificate weights on
  -- constraints, and signed ones on completed words, that meet the inequalities
  pub by-regions : (table_length : ℕ) → 3584 ≤ table_length → (b : List ℕ) → Bytes b → ((c : Tally) × (verdict table_length b ≡ Ok c))
      ↔ ((d : Contents) × (b ≡ bytes_of d) × InLimits d × ByRegions (to_bundle d))
  -- the wrong continuations are these problems; one that is a constraint too, by another prefix with its counts, is witnessed by no region
  pub problems : (n : ℕ) (log : Log) (s : Step) → Memᴰ s (wrong_continuations n log)
      ↔ (SeparationProblem n (Prefix log) s × (Constraint n (Prefix log) s → ⊥))
  pub unsolvable : (n : ℕ) (log : Log) (s : Step) → Constraint n (Prefix log) s → SolvedIn n (Region n (Prefix log)) s → ⊥
  -- 'Rows are numbered by first occurrence', 'their order is by row, then event'
  pub order : (n : ℕ) (log : Log) → Sorted (Before n log) (wrong_continuations n log)
  -- so its places are a complete set of sound regions of the log, and on the prefixes with one event more it has the language of all of them
  -- (crates/nets/specs/SeparationProblems.antt)
  pub complete : (b : List ℕ) → Bytes b → (c : Tally) (d : Contents) → AcceptedAs b c d
      → Complete (events_in b) (Prefix (log_in b)) (sound_regions (events_in b) (entries_in b)) (places_of (net_in b))
  pub suboptimal : (b : List ℕ) → Bytes b → (c : Tally) (d : Contents) → AcceptedAs b c d
      → Suboptimal (events_in b) (Prefix (log_in b)) (sound_regions (events_in b) (entries_in b)) (places_of (net_in b))
  pub permitted : (b : List ℕ) (w : Word) → Readable b w → (screened b w ≡ Ok None) ↔ T (permits (events_in b) (net_in b) w)
  -- position and place are those of the first refused step; the third number is how many tokens that place lacks there
  pub stopped : (b : List ℕ) (w : Word) → Readable b w → (i j k : ℕ)
      → (screened b w ≡ Ok (Some (record { position = i; place = j; shortfall = k })))
      ↔ (FirstRefused (events_in b) (net_in b) w i j × (k ≡ shortfall_at (events_in b) (net_in b) w i j))
  pub readable : (b : List ℕ) → Bytes b → (w : Word) → Readable b w ↔ ((h : Head) × (rest : List ℕ) × Screenable b w h rest)
  -- accepted or not, the head that the layout has in front of the bundle is the one that these lines speak of
  pub readable-head : (b : List ℕ) → Bytes b → (w : Word) (h : Head) (rest : List ℕ) → Screenable b w h rest → head_of b ≡ h
  -- with two bundles the net is the joined one; a word is readable so exactly when it is with each, and the event counts are the same
  pub joined-readable : (first second : List ℕ) (w : Word) → JoinReadable first second w
      ↔ (Readable first w × Readable second w × (events_in first ≡ events_in second))
  pub joined-permitted : (first second : List ℕ) (w : Word) → JoinReadable first second w
      → (screened_joined first second w ≡ Ok None) ↔ T (permits (events_in first) (join (net_in first) (net_in second)) w)
  pub joined-stopped : (first second : List ℕ) (w : Word) → JoinReadable first second w → (i j k : ℕ)
      → (screened_joined first second w ≡ Ok (Some (record { position = i; place = j; shortfall = k })))
      ↔ (FirstRefused (events_in first) (join (net_in first) (net_in second)) w i j × (k ≡ shortfall_at (events_in first) (join (net_in first) (net_in second)) w i j))
  -- every bundle of 1 to 64,512 bytes is sealed
  pub seals : (b output : List ℕ) → 1 ≤ length b → length b ≤ 64512 → 512 * blocks_for (length b) ≤ length output
      → answer (sealed b) (length output) ≡ Ok (512 * blocks_for (length b))
  pub seal_then_open : (b first second : List ℕ) (n : ℕ) → answer (sealed b) (length first) ≡ Ok n → length b ≤ length second
      → Ends (opened (take n (written (sealed b) first))) second (Ok (length b)) (front b second)
  pub open_then_seal : (file first second : List ℕ) (n : ℕ) → Bytes file → answer (opened file) (length first) ≡ Ok n
      → length file ≤ length second
      → Ends (sealed (take n (written (opened file) first))) second (Ok (length file)) (front file second)

-- ---- DEMAND 3: 'Take any two sealed files that open and are accepted, whatever the outputs and tables held before, with the same event
-- count and with every prefix in the first log a prefix in the second. Add any one event at the end of any prefix of the first log. ...' Request 8:
-- 'the comparison now also needs each completed word of the first to be completed in the second, and "every net" means every net that obeys the
-- first log's completed words too. Its equalities need the same prefixes and the same completed words.'

-- the file opens into the output, in front of which is then the bundle b, and with the table b is accepted with the counts c
pub record FileAccepted (file output table b : List ℕ) (c : Tally) : Type 0 where
  pub size : ℕ
  pub opens : answer (opened file) (length output) ≡ Ok size
  pub bundle : take size (written (opened file) output) ≡ b
  pub accepted : verdict (length table) b ≡ Ok c

-- '.. screening .. answers permitted exactly when that net permits it, and otherwise stops at the added event': the answer s is so for the
-- net over n events, the prefix w and the event e; where it stops, it names the lowest place that refuses e, and how many tokens that lacks
pub record ScreenedAtEnd (s : Screened) (n : ℕ) (net : Net) (w : Word) (e : ℕ) : Type 0 where
  pub permitted : (s ≡ Ok None) ↔ T (permits n net (w ++ e ∷ []))
  pub stopped : T (not (permits n net (w ++ e ∷ []))) → s ≡ Ok (Some (record {
    position = length w;
    place = first_refusing n net (step_after n w e);
    shortfall = shortfall_of n net (first_refusing n net (step_after n w e)) (step_after n w e);
  }))

-- '.. with the same event count and with every prefix in the first log a prefix in the second', 'each completed word of the first .. completed in
-- the second'
abbrev pub LogContained : List ℕ → List ℕ → Type 0
LogContained b₁ b₂ = Contained (events_in b₁) (entries_in b₁) (events_in b₂) (entries_in b₂)

-- of the prefix w and the event e, for the bundles b₁ and b₂
pub record Longer (b₁ b₂ : List ℕ) (w : Word) (e : ℕ) : Type 0 where
  -- 'The first net permits that longer word exactly when it is permitted by every net, of any number of places with whole numbers of any
  -- size, that permits all words of the first log' and obeys its completed words
  pub exactly : T (permits (events_in b₁) (net_in b₁) (w ++ e ∷ []))
      ↔ EveryObeyingNetPermits (events_in b₁) (entries_in b₁) (w ++ e ∷ [])
  -- 'When the first net permits it, so does the second.'
  pub second : T (permits (events_in b₁) (net_in b₁) (w ++ e ∷ [])) → T (permits (events_in b₂) (net_in b₂) (w ++ e ∷ []))
  -- 'Where the logs have the same prefixes' and the same completed words, 'both nets permit and refuse the same longer words'
  pub same : LogContained b₂ b₁ → permits (events_in b₁) (net_in b₁) (w ++ e ∷ []) ≡ permits (events_in b₂) (net_in b₂) (w ++ e ∷ [])
  -- 'Screening the longer word with either bundle ..'
  pub screened₁ : ScreenedAtEnd (screened b₁ (w ++ e ∷ [])) (events_in b₁) (net_in b₁) w e
  pub screened₂ : ScreenedAtEnd (screened b₂ (w ++ e ∷ [])) (events_in b₂) (net_in b₂) w e

-- the whole of demand 3 for two bundles
pub record Compared (b₁ b₂ : List ℕ) (c₁ c₂ : Tally) : Type 0 where
  pub longer : (w : Word) → Prefix (log_in b₁) w → (e : ℕ) → e < events_in b₁ → Longer b₁ b₂ w e
  -- '.. and the four counts in the first verdict equal those in the second, one by one.'
  pub counts : LogContained b₂ b₁
      → (c₁.rows ≡ c₂.rows) × (c₁.allowed ≡ c₂.allowed) × (c₁.by_place ≡ c₂.by_place) × (c₁.by_weights ≡ c₂.by_weights)

-- for any two files that open and are accepted, whatever the outputs and tables held before
abbrev pub Demand3 : Type 0
Demand3 =
    (file₁ file₂ output₁ output₂ table₁ table₂ b₁ b₂ : List ℕ) (c₁ c₂ : Tally) → Bytes file₁ → Bytes file₂
    → FileAccepted file₁ output₁ table₁ b₁ c₁ → FileAccepted file₂ output₂ table₂ b₂ c₂
    → LogContained b₁ b₂ → Compared b₁ b₂ c₁ c₂

-- ---- DEMANDS 2 AND 3 AS THEY WERE, where no word is completed, as in every bundle of the old edition (`old` of Completed.antt)

pub record OldDemand2 (table_length : ℕ) (b : List ℕ) : Type 0 where
  -- what acceptance asks of its contents: their net permits every log word, and their certificates solve the wrong continuations
  pub asks : (d : Contents) → b ≡ bytes_of d → InLimits d → T (theory.accepted (to_bundle d))
      ↔ (PermitsLog d.head.events (to_net d.head) (words_in d.head) × T (solves_all_in d.head (wrong_in d.head) d.certificates))
  -- accepted exactly when every place is a region of the log, and each problem has its certificate; there are no pairs (`alone` of Completed.antt)
  pub by-regions : 3584 ≤ table_length → ((c : Tally) × (verdict table_length b ≡ Ok c)) ↔ ((d : Contents) × (b ≡ bytes_of d) × InLimits d
      × (places_of (to_net d.head) ⊆ Region d.head.events (Prefix (words_in d.head)))
      × Pointwise (Certifies d.head.events d.head.entries (to_net d.head)) (wrong_in d.head) (to_bundle d).certificates)
  -- and its places are then a complete set of all regions of the log
  pub complete : (c : Tally) → verdict table_length b ≡ Ok c
      → Complete (events_in b) (Prefix (log_in b)) (Region (events_in b) (Prefix (log_in b))) (places_of (net_in b))
  pub suboptimal : (c : Tally) → verdict table_length b ≡ Ok c
      → Suboptimal (events_in b) (Prefix (log_in b)) (Region (events_in b) (Prefix (log_in b))) (places_of (net_in b))

-- 'every net .. that permits all words of the first log', whether or not it obeys anything; the premise and the equalities by prefixes alone
pub record OldDemand3 (b₁ b₂ : List ℕ) (c₁ c₂ : Tally) : Type 0 where
  pub exactly : (w : Word) → Prefix (log_in b₁) w → (e : ℕ) → e < events_in b₁ → T (permits (events_in b₁) (net_in b₁) (w ++ e ∷ []))
      ↔ EveryNetPermits (events_in b₁) (log_in b₁) (w ++ e ∷ [])
  pub compared : Compared b₁ b₂ c₁ c₂
  pub back : NoneCompleted (entries_in b₂) → PrefixesIn (log_in b₂) (log_in b₁) → LogContained b₂ b₁

pub record OldDemands : Type 0 where
  pub demand_2 : (table_length : ℕ) (b : List ℕ) → Bytes b → get_or b 0 0 < 128 → OldDemand2 table_length b
  pub demand_3 : (file₁ file₂ output₁ output₂ table₁ table₂ b₁ b₂ : List ℕ) (c₁ c₂ : Tally) → Bytes file₁ → Bytes file₂
      → FileAccepted file₁ output₁ table₁ b₁ c₁ → FileAccepted file₂ output₂ table₂ b₂ c₂
      → NoneCompleted (entries_in b₁) → events_in b₁ ≡ events_in b₂ → PrefixesIn (log_in b₁) (log_in b₂) → OldDemand3 b₁ b₂ c₁ c₂
