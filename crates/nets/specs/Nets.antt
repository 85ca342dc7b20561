-- Words, logs, places and nets: the definitions of the product, with natural numbers of any size. Certificates and acceptance: Bundle.antt.
-- Events are the numbers below n. Every test is a Bool and computes; the laws are in the other files.
use Rattle.std.specs.Prelude.{Bool, true, false, not, cond, ◌&&◌, ℕ, zero, suc, ◌+◌, ◌*◌, eqb, ℤ, pos, ◌+ℤ◌, ◌-ℤ◌, ◌*ℤ◌, length, get_or, take}
use mathlib.Core.List.{List, [], ◌∷◌, ◌++◌, map, flat_map, foldl}
use Rattle.std.specs.Int.Signed.{non_neg}
use Rattle.laws.specs.Lists.{all, any, keep, tabulate, equal, member}
use Rattle.laws.specs.Differences.{negative_part, is_zero_ℤ, sumℤ}
use Rattle.laws.specs.Scans.{first_failing}

-- ---- What there is

-- a word: events, in order
abbrev pub Word : Type 0
Word = List ℕ

-- a log: words, in order
abbrev pub Log : Type 0
Log = List Word

-- a word as a log lists it, and whether it is completed: a case that was brought to its end, not one that was broken off
pub record Entry : Type 0 where
  pub word : Word
  pub completed : Bool

-- what `get_or` gives beyond the entries of a log
abbrev pub no_entry : Entry
no_entry = record { word = []; completed = false }

-- a count vector v (Parikh vector): v(i) says how often event i occurs
abbrev pub Counts : Type 0
Counts = List ℕ

-- an event after a count vector
pub record Step : Type 0 where
  pub row : Counts
  pub event : ℕ

-- a place: m, its initial tokens; in(i), the tokens that event i puts there; out(i), those that it takes. From n on they are not used
pub record Place : Type 0 where
  pub initial : ℕ
  pub produced : ℕ → ℕ
  pub consumed : ℕ → ℕ

-- a net: a finite list of places, the empty list included, each with natural numbers of any size.
-- 'Every net' means every value of this type, whether or not a bundle could hold it.
abbrev pub Net : Type 0
Net = List Place

-- two nets over the same events, joined: the place list of the first, then that of the second
abbrev pub join : Net → Net → Net
join one two = one ++ two

-- a place with its numbers multiplied by k
abbrev pub scaled : ℕ → Place → Place
scaled k p = record { initial = k * p.initial; produced = λ i. k * p.produced i; consumed = λ i. k * p.consumed i }

-- what `get_or` gives beyond the places of a net: it permits every step
abbrev pub no_place : Place
no_place = record { initial = 0; produced = λ i. 0; consumed = λ i. 0 }

-- the answer of screening a word
pub data Answer : Type 0 where
  permitted : Answer
  -- the position of the first refused step, the lowest place that refuses it, and that place's shortfall there
  stopped : ℕ → ℕ → ℕ → Answer

-- ---- Entries

-- the log: the words of the entries, in order
unfoldable pub words : List Entry → Log
words entries = map (λ x. x.word) entries

-- the completed words among them
unfoldable pub completed_words : List Entry → Log
completed_words entries = words (keep (λ x. x.completed) entries)

-- ---- Counting

-- [a = b]: 1 if true, else 0
unfoldable pub same : ℕ → ℕ → ℕ
same a b = cond (eqb a b) 1 0

-- how often i occurs in a word
unfoldable pub occurrences : ℕ → Word → ℕ
occurrences i [] = 0
occurrences i (a ∷ w) = same a i + occurrences i w

-- the events of a log, counted
unfoldable pub event_count : Log → ℕ
event_count [] = 0
event_count (w ∷ log) = length w + event_count log

-- the empty words of a log, counted
unfoldable pub empty_words : Log → ℕ
empty_words log = length (keep (λ w. equal w []) log)

-- v(i)
abbrev pub at : Counts → ℕ → ℕ
at v i = get_or v i 0

-- the sum of g(x) × h(x) over the members of a list
unfoldable pub weighed : {A : Type 0} → (A → ℕ) → (A → ℕ) → List A → ℕ
weighed g h [] = 0
weighed g h (x ∷ xs) = g x * h x + weighed g h xs

-- ---- Prefixes

-- the beginnings of a word, shortest first
unfoldable pub beginnings : Word → List Word
beginnings [] = [] ∷ []
beginnings (a ∷ w) = [] ∷ map {B = Word} (λ u. a ∷ u) (beginnings w)

-- a log's prefixes: the beginnings of its words; the empty word is always one
unfoldable pub prefixes : Log → List Word
prefixes log = [] ∷ flat_map beginnings log

-- a new row at the end, if there is none with these counts
unfoldable pub add_row : List Counts → Counts → List Counts
add_row rows v = cond (member v rows) rows (rows ++ v ∷ [])

module _ (n : ℕ) where
  -- the count vector of a word
  unfoldable pub counts : Word → Counts
  counts w = tabulate n (λ i. occurrences i w)

  -- event e after the events of u
  abbrev pub step_after : Word → ℕ → Step
  step_after u e = record { row = counts u; event = e }

  -- the step of a word at a position
  abbrev pub step_at : Word → ℕ → Step
  step_at w i = step_after (take i w) (get_or w i 0)

  -- ---- The log's rows and steps

  -- the rows: the distinct count vectors of prefixes, by first occurrence
  unfoldable pub rows : Log → List Counts
  rows log = foldl add_row [] (map counts (prefixes log))

  -- an allowed step: some prefix with these counts is followed by the event in the log
  unfoldable pub allowed : Log → Step → Bool
  allowed log s = any (λ u. equal (counts u) s.row && member (u ++ s.event ∷ []) (prefixes log)) (prefixes log)

  -- a word passes a row: it has a prefix with these counts
  unfoldable pub passes : Counts → Word → Bool
  passes v w = any (λ u. equal (counts u) v) (beginnings w)

  -- the traffic of a row: how many words of the log have a prefix with these counts
  unfoldable pub traffic : Log → Counts → ℕ
  traffic log v = length (keep (passes v) log)

  -- a row with each event
  unfoldable pub row_steps : Counts → List Step
  row_steps v = tabulate n (λ e. record { row = v; event = e })

  -- each row with each event, by row, then event
  unfoldable pub continuations : Log → List Step
  continuations log = flat_map row_steps (rows log)

  -- the allowed steps, by row, then event
  unfoldable pub allowed_steps : Log → List Step
  allowed_steps log = keep (allowed log) (continuations log)

  -- the wrong continuations: a row and an event that is not allowed there, by row, then event
  unfoldable pub wrong_continuations : Log → List Step
  wrong_continuations log = keep (λ s. not (allowed log s)) (continuations log)

  -- ---- Places and nets

  -- the effect of counts u on a place: sum of u(i) × (in(i) − out(i))
  abbrev pub effect : Place → Counts → ℤ
  effect p u = sumℤ n (λ i. pos (at u i) *ℤ (pos (p.produced i) -ℤ pos (p.consumed i)))

  -- the tokens in a place after counts v (its marking): m + sum of v(i) × (in(i) − out(i))
  unfoldable pub tokens : Place → Counts → ℤ
  tokens p v = pos p.initial +ℤ effect p v

  -- the surplus at (v, e): m + sum of v(i) × (in(i) − out(i)) − out(e)
  unfoldable pub surplus : Place → Step → ℤ
  surplus p s = tokens p s.row -ℤ pos (p.consumed s.event)

  -- a place permits e after v when the surplus is 0 or more, and refuses it when negative
  unfoldable pub place_permits : Place → Step → Bool
  place_permits p s = non_neg (surplus p s)

  -- the shortfall at (v, e): 0 where the surplus is 0 or more, else minus the surplus
  unfoldable pub shortfall : Place → Step → ℕ
  shortfall p s = negative_part (surplus p s)

  -- every place permits the step
  unfoldable pub net_permits : Net → Step → Bool
  net_permits net s = all (λ p. place_permits p s) net

  -- the net permits the steps of w, which follow those of u
  unfoldable pub permits_after : Net → Word → Word → Bool
  permits_after net u [] = true
  permits_after net u (e ∷ w) = net_permits net (step_after u e) && permits_after net (u ++ e ∷ []) w

  -- a net permits a word when every place permits each of its steps
  unfoldable pub permits : Net → Word → Bool
  permits net w = permits_after net [] w

  -- a net permits the log: every word of it
  unfoldable pub permits_log : Net → Log → Bool
  permits_log net log = all (permits net) log

  -- a place fits (is a region of the log) when it permits every allowed step
  unfoldable pub fits : Log → Place → Bool
  fits log p = all (place_permits p) (allowed_steps log)

  -- a place obeys completed words: the counts of each have the effect 0
  unfoldable pub place_obeys : Log → Place → Bool
  place_obeys completed p = all (λ w. is_zero_ℤ (effect p (counts w))) completed

  -- a net obeys them when all its places do
  unfoldable pub obeys : Net → Log → Bool
  obeys net completed = all (place_obeys completed) net

  -- place number j is there, and refuses the step
  unfoldable pub refused_by : Net → ℕ → Step → Bool
  refused_by [] j s = false
  refused_by (p ∷ net) zero s = not (place_permits p s)
  refused_by (p ∷ net) (suc j) s = refused_by net j s

  -- ---- Screening

  -- the lowest place that refuses the step, or the number of places where none does
  unfoldable pub first_refusing : Net → Step → ℕ
  first_refusing net s = first_failing (λ p. place_permits p s) net

  -- the shortfall of place number j
  unfoldable pub shortfall_of : Net → ℕ → Step → ℕ
  shortfall_of net j s = shortfall (get_or net j no_place) s

  -- stopped at a position, where the step is s
  unfoldable pub stopped_at : Net → ℕ → Step → Answer
  stopped_at net i s = stopped i (first_refusing net s) (shortfall_of net (first_refusing net s) s)

  -- the first refused step of w, whose steps follow those of u
  unfoldable pub screen_after : Net → Word → Word → Answer
  screen_after net u [] = permitted
  screen_after net u (e ∷ w) =
      cond (net_permits net (step_after u e)) (screen_after net (u ++ e ∷ []) w) (stopped_at net (length u) (step_after u e))

  -- the first refused step of a word
  unfoldable pub screen : Net → Word → Answer
  screen net w = screen_after net [] w
