-- Eight places side by side. A table has, for each two events a and b, what a step from a to b adds to the surplus of each place: in(a) − out(b).
use Rattle.std.specs.Prelude.{◌≡◌, true, List, [], ◌∷◌, ℕ, ◌+◌, ◌≤◌, ◌<◌, T, ℤ, pos, ◌+ℤ◌, ◌-ℤ◌, length, get_or, replicate, take}
use Rattle.std.specs.Int.Signed.{non_neg}
use Rattle.std.specs.Int.{w64}
use Rattle.std.proofs.Common.{SFits}
use Rattle.limits.specs.Limits.{max_events, max_word_events}
use Rattle.nets.specs.Nets.{Word, Place}
use Rattle.nets.specs.Events.{EventsBelow}
use Rattle.nets.specs.Markings.{covered, moved}
use Rattle.places.specs.Machine.{Held}
use Rattle.replays.specs.declared.Changes.{Changes}

-- ---- The table

-- its columns, one for each place
abbrev pub column_width : ℕ
column_width = 8

-- the events, and one more that takes no token and puts none there: it stands before the first event of a part and behind its last one
abbrev pub event_slots : ℕ
event_slots = max_events + 1

-- what the steps from event a add, by the event that they go to
abbrev pub from_event : List Changes → ℕ → Changes
from_event m a = get_or m a (record { to = [] })

-- what a step from event a to event b adds, by the column
abbrev pub changes_of : List Changes → ℕ → ℕ → List ℤ
changes_of m a b = get_or (from_event m a).to b []

-- what a step to event b adds in column j
abbrev pub change : Changes → ℕ → ℕ → ℤ
change r b j = get_or (get_or r.to b []) j (pos 0)

-- those of places that take no token and put none there
abbrev pub no_changes : Changes
no_changes = record { to = replicate event_slots (replicate column_width (pos 0)) }

-- column j has the changes of a place, whose numbers are `u16`
pub record Column (p : Place) (m : List Changes) (j : ℕ) : Type 0 where
  pub changes : (a b : ℕ) → a ≤ max_events → b ≤ max_events → change (from_event m a) b j ≡ pos (p.produced a) -ℤ pos (p.consumed b)
  pub still : (p.produced max_events ≡ 0) × (p.consumed max_events ≡ 0)
  pub produced : (e : ℕ) → p.produced e < 65536
  pub consumed : (e : ℕ) → p.consumed e < 65536

-- the table m' is m but for column j
abbrev pub Beside : List Changes → List Changes → ℕ → Type 0
Beside m m' j = (a b k : ℕ) → (k ≡ j → ⊥) → change (from_event m' a) b k ≡ change (from_event m a) b k

-- the changes r' from an event are r but for column j: there they are those from an event that puts x tokens there
pub record Changed (r r' : Changes) (j x : ℕ) (consumed : ℕ → ℕ) : Type 0 where
  pub changes : (b : ℕ) → b ≤ max_events → change r' b j ≡ pos x -ℤ pos (consumed b)
  pub others : (b k : ℕ) → (k ≡ j → ⊥) → change r' b k ≡ change r b k

-- ---- One step

-- the surplus of column j, with its change
abbrev pub stepped : List ℤ → List ℤ → ℕ → ℤ
stepped c s j = get_or s j (pos 0) +ℤ get_or c j (pos 0)

-- the surplus of eight places, to which changes may be added
abbrev pub Steppable : List ℤ → List ℤ → Type 0
Steppable c s = (j : ℕ) → j < column_width → SFits w64 (stepped c s j)

-- s' has the surplus after the step
abbrev pub Stepped : List ℤ → List ℤ → List ℤ → Type 0
Stepped c s s' = (j : ℕ) → j < column_width → get_or s' j (pos 0) ≡ stepped c s j

-- a number of x' that is 0 or more says so of that of x, and of the surplus after the step
abbrev pub Noted : List ℤ → List ℤ → List ℤ → List ℤ → Type 0
Noted c s x x' = (j : ℕ) → j < column_width → T (non_neg (get_or x' j (pos 0))) → T (non_neg (get_or x j (pos 0))) × T (non_neg (stepped c s j))

-- ---- The replay

-- the tokens of a place behind the events of a word, of t at first
unfoldable pub behind : Place → ℤ → Word → ℤ
behind p t [] = t
behind p t (e ∷ w) = behind p (moved p t e) w

-- at each step of a word the tokens cover what its event takes
abbrev pub Covered : Place → ℤ → Word → Type 0
Covered p t w = (i : ℕ) → i < length w → covered p (behind p t (take i w)) (get_or w i 0) ≡ true

-- tokens, a table and a part of a word: what the replay asks
pub record Replayable (t : List ℤ) (m : List Changes) (w : Word) : Type 0 where
  pub tokens : column_width ≤ length t
  pub held : (j : ℕ) → j < column_width → Held (get_or t j (pos 0))
  pub columns : (j : ℕ) → j < column_width → (p : Place) × Column p m j
  pub size : length w ≤ max_word_events
  pub events : EventsBelow max_events w

-- t' has the tokens behind a word of the places of a table's columns, of which t had those before it
abbrev pub Advanced : List Changes → List ℤ → List ℤ → Word → Type 0
Advanced m t t' w = (j : ℕ) (p : Place) → j < column_width → Column p m j → get_or t' j (pos 0) ≡ behind p (get_or t j (pos 0)) w

-- no step of a word lacks a token in any column, of the tokens t before it
abbrev pub CoveredAll : List Changes → List ℤ → Word → Type 0
CoveredAll m t w = (j : ℕ) (p : Place) → j < column_width → Column p m j → Covered p (get_or t j (pos 0)) w
