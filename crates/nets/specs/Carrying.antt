-- A net played event by event: a list has the tokens of each place, in place order, and each event moves them. Its laws are in proofs/Carrying.antt.
use Rattle.std.specs.Prelude.{Bool, cond, List, [], ◌∷◌, map, ℕ, suc, ◌+◌, ◌-◌, ◌≤◌, ◌<◌, ◌≡◌, leb, ltb, length, get_or, pos}
use Rattle.laws.specs.Differences.{positive_part}
use Rattle.laws.specs.Lists.{tabulate}
use Rattle.laws.specs.Scans.{first_false}
use Rattle.nets.specs.Nets.{Word, Net, Counts, no_place, Answer, permitted, stopped, counts, tokens}

-- the tokens at first: M₀
abbrev pub initials : Net → List ℕ
initials net = map (λ p. p.initial) net

module _ (net : Net) (ts : List ℕ) (e : ℕ) where
  -- what the event takes from place j, and puts there
  abbrev pub taken_from : ℕ → ℕ
  taken_from j = (get_or net j no_place).consumed e

  abbrev pub put_into : ℕ → ℕ
  put_into j = (get_or net j no_place).produced e

  -- place j has as many tokens as the event takes
  abbrev pub has_enough : ℕ → Bool
  has_enough j = leb (taken_from j) (get_or ts j 0)

  -- every place has
  abbrev pub AllEnough : Type 0
  AllEnough = (j : ℕ) → j < length net → taken_from j ≤ get_or ts j 0

  -- place j is the lowest that has too few
  abbrev pub LowestShort : ℕ → Type 0
  LowestShort j = (j < length net) × (get_or ts j 0 < taken_from j) × ((i : ℕ) → i < j → taken_from i ≤ get_or ts i 0)

  -- its number, or the number of places where none has too few
  unfoldable pub first_short : ℕ
  first_short = first_false has_enough (length net)

  -- the tokens behind the event: M − p•(e) + •p(e)
  unfoldable pub tokens_behind : List ℕ
  tokens_behind = tabulate (length net) (λ j. get_or ts j 0 - taken_from j + put_into j)

-- what an event does
pub data Played : Type 0 where
  -- every place has enough: the tokens behind it
  moved : List ℕ → Played
  -- the lowest place that has too few, and how many it lacks
  lacking : ℕ → ℕ → Played

unfoldable pub play : Net → List ℕ → ℕ → Played
play net ts e =
    let j = first_short net ts e in
    cond (ltb j (length net)) (lacking j (taken_from net ts e j - get_or ts j 0)) (moved (tokens_behind net ts e))

-- stopped there, with so many events before it, or on with the tokens behind
unfoldable pub go_on : ℕ → Played → (List ℕ → Answer) → Answer
go_on i (moved us) rest = rest us
go_on i (lacking j k) rest = stopped i j k

-- a word, event by event, with so many events before it
unfoldable pub carry : Net → ℕ → List ℕ → Word → Answer
carry net i ts [] = permitted
carry net i ts (e ∷ w) = go_on i (play net ts e) (λ us. carry net (suc i) us w)

-- the list has the marking after the events of u (001, equation 1)
abbrev pub Carried : ℕ → Net → Word → List ℕ → Type 0
Carried n net u ts = (j : ℕ) → j < length net → pos (get_or ts j 0) ≡ tokens n (get_or net j no_place) (counts n u)

-- the marking by the counts of a permitted word: m + sum of v(i) × (in(i) − out(i)) for each place
abbrev pub marking_by : ℕ → Net → Counts → List ℕ
marking_by n net v = map (λ p. positive_part (tokens n p v)) net

unfoldable pub marking_after : ℕ → Net → Word → List ℕ
marking_after n net w = marking_by n net (counts n w)
