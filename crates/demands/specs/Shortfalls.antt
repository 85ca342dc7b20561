-- REQUEST 2: 'Say how many tokens were missing.' 'On a stopped word the gate shows place and position, and the modeller wants the amount.'
-- That screening stops exactly at the first refused step, and with that shortfall, is `stopped` of demand 2; demand 3 says it of a prefix of the
-- log with one event more. Here is what the shortfall is: of every place, then of a stopped word, then of judging. Refusal 10 names the lowest
-- place that does not fit (`LowestMisfit` in Judging.antt), 11 a listed place that does not refuse: the last two lines say both by shortfalls.
use Rattle.std.specs.Prelude.{◌≡◌, not, ◌↔◌, List, [], ◌∷◌, ℕ, ◌≤◌, ◌<◌, T, pos, ◌-ℤ◌, length, take, get_or, Ok, Some}
use Rattle.laws.specs.Numbers.{Bytes}
use Rattle.nets.specs.Nets.{Word, Log, Net, Place, Step, no_place, counts, step_after, tokens, place_permits, shortfall, shortfall_of, refused_by, permits, allowed}
use Rattle.nets.specs.Fits.{Below, Fits}
use Rattle.nets.specs.Shortfall.{with_tokens}
use Rattle.bundles.specs.Readers.{events_in, net_in}
use Rattle.screening.specs.Screening.{screened}
use Rattle.stops.specs.declared.Stop.{Stop}

-- of a place and a step, with whole numbers of any size
pub record PlaceLacks (n : ℕ) (p : Place) (s : Step) : Type 0 where
  -- 'the shortfall, out(e) minus the tokens present'
  pub lacking : T (not (place_permits n p s)) → pos (shortfall n p s) ≡ pos (p.consumed s.event) -ℤ tokens n p s.row
  -- 'which is at least 1 when it refuses', and 0 exactly when it permits
  pub some : (1 ≤ shortfall n p s) ↔ T (not (place_permits n p s))
  pub none : (shortfall n p s ≡ 0) ↔ T (place_permits n p s)
  -- the least number of tokens that, added to m, makes the place permit the step
  pub least : (t : ℕ) → T (place_permits n (with_tokens p t) s) ↔ (shortfall n p s ≤ t)

-- of a word that is stopped at s: p is the place that is named, e the event that it refuses, behind the events of u
pub record StopLacks (b : List ℕ) (s : Stop) (p : Place) (u : Word) (e : ℕ) : Type 0 where
  pub there : s.place < length (net_in b)
  pub lacking : pos s.shortfall ≡ pos (p.consumed e) -ℤ tokens (events_in b) p (counts (events_in b) u)
  pub some : 1 ≤ s.shortfall
  pub most : s.shortfall ≤ p.consumed e
  -- out(e) stands in two bytes
  pub number : Bytes b → s.shortfall ≤ 65535

pub record Request2 : Type 0 where
  pub place : (n : ℕ) (p : Place) (s : Step) → PlaceLacks n p s
  -- in a word whose earlier steps the place permits, at most out(e)
  pub most : (n : ℕ) (p : Place) (u : Word) → Below n u → T (permits n (p ∷ []) u) → (e : ℕ) → shortfall n p (step_after n u e) ≤ p.consumed e
  -- 'Screening returns it with position and place.'
  pub stopped : (b : List ℕ) (w : Word) (s : Stop) → screened b w ≡ Ok (Some s)
      → StopLacks b s (get_or (net_in b) s.place no_place) (take s.position w) (get_or w s.position 0)
  -- 'Judging and refusal 10 keep their spots but use the new result.'
  pub fits : (n : ℕ) (log : Log) (p : Place) → Fits n log p ↔ ((s : Step) → T (allowed n log s) → shortfall n p s ≡ 0)
  pub refused : (n : ℕ) (net : Net) (j : ℕ) (s : Step) → T (refused_by n net j s) ↔ (1 ≤ shortfall_of n net j s)
