-- REQUEST 10, the calls: 'Add a second engine that keeps the tokens of each place in a lent slice of unsigned 64-bit numbers and moves them at every
-- event.'
-- REQUEST 11: it 'also keeps the events so far, in order, at the front of a lent byte buffer, the rest untouched'.
-- Exactly when start and step answer what, and what they leave of the slice and of the buffer, for any bundle of bytes, any slice, any buffer, any
-- number of events so far and any event. What a start and the steps behind it answer together is said by Carried.antt, replacing by Replacing.antt.
use Rattle.std.specs.Prelude.{◌≡◌, true, ◌↔◌, List, [], ◌∷◌, ◌++◌, ℕ, ◌+◌, ◌-◌, ◌≤◌, ◌<◌, length, get_or, take, drop, Err, Ok}
use Rattle.laws.specs.Lists.{among}
use Rattle.refusals.specs.Answers.{refusal, Answer, output_of}
use Rattle.refusals.specs.declared.Refusal.{Refusal}
use Rattle.nets.specs.Nets.{Place, no_place}
use Rattle.bundles.specs.Readers.{events_in, net_in}
use Rattle.screening.specs.Screening.{screened}
use Rattle.screening.specs.Screens.{Readable}
use Rattle.stops.specs.declared.Stop.{Stop}
use Rattle.engine.specs.Engine.{starting, started, stepping, stepped, tokens_stepped, kept_stepped}
use Rattle.engine.specs.declared.Outcome.{Outcome}
use Rattle.engine.specs.declared.Outcome.TheVariants.{Moved, Stopped}

-- what the calls answer, and how they leave the slice and the buffer, by the definitions that their contracts cite
abbrev pub start_answer : List ℕ → List ℕ → Answer ℕ
start_answer b ts = started (starting b ts)

abbrev pub start_leaves : List ℕ → List ℕ → List ℕ
start_leaves b ts = output_of (starting b ts) ts

abbrev pub step_answer : List ℕ → List ℕ → List ℕ → ℕ → ℕ → Answer Outcome
step_answer b ts kept number event = stepped number (stepping b ts kept number event)

abbrev pub step_leaves : List ℕ → List ℕ → List ℕ → ℕ → ℕ → List ℕ
step_leaves b ts kept number event = tokens_stepped (stepping b ts kept number event) ts

abbrev pub step_keeps : List ℕ → List ℕ → List ℕ → ℕ → ℕ → List ℕ
step_keeps b ts kept number event = kept_stepped (stepping b ts kept number event) kept number event

-- the places of the bundle, and the number that the slice has for place j
abbrev pub place_count : List ℕ → ℕ
place_count b = length (net_in b)

abbrev pub place_in : List ℕ → ℕ → Place
place_in b j = get_or (net_in b) j no_place

abbrev pub held : List ℕ → ℕ → ℕ
held ts j = get_or ts j 0

-- the slice ts' has so many tokens for each place; 'numbers past the last place are never touched'
pub record Leaves (b : List ℕ) (amount : ℕ → ℕ) (ts ts' : List ℕ) : Type 0 where
  pub each : (j : ℕ) → j < place_count b → held ts' j ≡ amount j
  pub rest : drop (place_count b) ts' ≡ drop (place_count b) ts
  pub size : length ts' ≡ length ts

-- two slices that have the same numbers for the places
abbrev pub SameFront : List ℕ → List ℕ → List ℕ → Type 0
SameFront b ts ts' = take (place_count b) ts ≡ take (place_count b) ts'

-- ---- Start: 4, then 6, 7, 8 in bundle order, then 5

pub record StartExactly (b ts : List ℕ) : Type 0 where
  -- 'the bundle's refusals': those that screening the empty word with it gets (ScreenExactly)
  pub own : (k : ℕ) → among k (4 ∷ 6 ∷ 7 ∷ 8 ∷ []) ≡ true → (spot : ℕ) → (start_answer b ts ≡ Err (refusal k spot))
      ↔ (screened b [] ≡ Err (refusal k spot))
  -- 'Fewer numbers in the slice than places is refused with 5, spot the place count'
  pub short : (spot : ℕ) → (start_answer b ts ≡ Err (refusal 5 spot)) ↔ ((spot ≡ place_count b) × Readable b [] × (length ts < place_count b))
  -- no event so far
  pub result : (n : ℕ) → (start_answer b ts ≡ Ok n) ↔ ((n ≡ 0) × Readable b [] × (place_count b ≤ length ts))
  -- 'A start call writes the initial tokens'
  pub tokens : (n : ℕ) → start_answer b ts ≡ Ok n → Leaves b (λ j. (place_in b j).initial) ts (start_leaves b ts)
  -- 'no refusal of this engine .. writes anything'
  pub refused : (r : Refusal) → start_answer b ts ≡ Err r → start_leaves b ts ≡ ts
  -- what stands behind the numbers of the places makes no difference
  pub front : (ts' : List ℕ) → SameFront b ts ts' → (start_answer b ts ≡ start_answer b ts') × SameFront b (start_leaves b ts) (start_leaves b ts')

-- ---- Step: 14; 4, then 6, 7, 8 in bundle order; 5; 16; 15; 3; then the test of all places

-- what was passed before the event is looked at
pub record Tested (b ts : List ℕ) (number : ℕ) : Type 0 where
  pub few : number < 65535
  pub read : Readable b []
  pub room : place_count b ≤ length ts
  pub reachable : (j : ℕ) → j < place_count b → held ts j ≤ 4294901760

-- what was passed before the places test the event
pub record Passed (b ts kept : List ℕ) (number event : ℕ) : Type 0 where
  pub tested : Tested b ts number
  pub there : event < events_in b
  pub space : number < length kept

-- place j is the lowest that has fewer tokens than the event takes
pub record LowestShort (b ts : List ℕ) (event j : ℕ) : Type 0 where
  pub there : j < place_count b
  pub short : held ts j < (place_in b j).consumed event
  pub below : (i : ℕ) → i < j → (place_in b i).consumed event ≤ held ts i

-- the buffer kept' has the event behind so many events of the buffer kept
pub record Keeps (kept : List ℕ) (number event : ℕ) (kept' : List ℕ) : Type 0 where
  pub events : take (number + 1) kept' ≡ take number kept ++ event ∷ []
  pub rest : drop (number + 1) kept' ≡ drop (number + 1) kept
  pub size : length kept' ≡ length kept

pub record StepExactly (b ts kept : List ℕ) (number event : ℕ) : Type 0 where
  -- 'At 65,535 or more the step gets 14, first of all.'
  pub many : (spot : ℕ) → (step_answer b ts kept number event ≡ Err (refusal 14 spot)) ↔ ((spot ≡ 65535) × (65535 ≤ number))
  -- 'the bundle's refusals'
  pub own : (k : ℕ) → among k (4 ∷ 6 ∷ 7 ∷ 8 ∷ []) ≡ true → (spot : ℕ) → (step_answer b ts kept number event ≡ Err (refusal k spot))
      ↔ ((number < 65535) × (screened b [] ≡ Err (refusal k spot)))
  -- '5, then 16, come after the bundle's refusals and before 15.'
  pub short : (spot : ℕ) → (step_answer b ts kept number event ≡ Err (refusal 5 spot))
      ↔ ((spot ≡ place_count b) × (number < 65535) × Readable b [] × (length ts < place_count b))
  -- 'a place's number above 4,294,901,760, which no run reaches, is refused with 16, spot the lowest such place'
  pub over : (spot : ℕ) → (step_answer b ts kept number event ≡ Err (refusal 16 spot))
      ↔ ((number < 65535) × Readable b [] × (place_count b ≤ length ts)
      × (spot < place_count b) × (4294901760 < held ts spot) × ((j : ℕ) → j < spot → held ts j ≤ 4294901760))
  -- 'In a step the position, of 15 or of a stop, is the number of events so far.'
  pub no_event : (spot : ℕ) → (step_answer b ts kept number event ≡ Err (refusal 15 spot))
      ↔ ((spot ≡ number) × Tested b ts number × (events_in b ≤ event))
  -- request 11: 'An event that finds the buffer full gets 3, after 15 and before its test, spot the length needed'
  pub full : (spot : ℕ) → (step_answer b ts kept number event ≡ Err (refusal 3 spot))
      ↔ ((spot ≡ number + 1) × Tested b ts number × (event < events_in b) × (length kept ≤ number))
  -- 'with the shortfall of request 2': out(e) minus the tokens present
  pub stopped : (s : Stop) → (step_answer b ts kept number event ≡ Ok (Stopped s))
      ↔ (Passed b ts kept number event × (s.position ≡ number) × LowestShort b ts event s.place
      × (s.shortfall ≡ (place_in b s.place).consumed event - held ts s.place))
  -- which is at least 1
  pub lacks : (s : Stop) → step_answer b ts kept number event ≡ Ok (Stopped s) → 1 ≤ s.shortfall
  -- 'each step takes the number of events so far and hands back the next'
  pub moved : (next : ℕ) → (step_answer b ts kept number event ≡ Ok (Moved next))
      ↔ (Passed b ts kept number event × (next ≡ number + 1)
      × ((j : ℕ) → j < place_count b → (place_in b j).consumed event ≤ held ts j))
  -- 'moves them': out(e) is taken from the tokens of each place, in(e) put there
  pub tokens : (next : ℕ) → step_answer b ts kept number event ≡ Ok (Moved next)
      → Leaves b (λ j. held ts j - (place_in b j).consumed event + (place_in b j).produced event) ts (step_leaves b ts kept number event)
  -- request 11: 'keeps the events so far, in order, at the front of a lent byte buffer, the rest untouched'
  pub keeps : (next : ℕ) → step_answer b ts kept number event ≡ Ok (Moved next) → Keeps kept number event (step_keeps b ts kept number event)
  -- 'A refused event moves no token', 'no refusal of this engine, now or later, writes anything'
  pub stays : (s : Stop) → step_answer b ts kept number event ≡ Ok (Stopped s)
      → (step_leaves b ts kept number event ≡ ts) × (step_keeps b ts kept number event ≡ kept)
  pub refused : (r : Refusal) → step_answer b ts kept number event ≡ Err r
      → (step_leaves b ts kept number event ≡ ts) × (step_keeps b ts kept number event ≡ kept)
  -- what stands behind the numbers of the places makes no difference
  pub front : (ts' : List ℕ) → SameFront b ts ts' → (step_answer b ts kept number event ≡ step_answer b ts' kept number event)
      × SameFront b (step_leaves b ts kept number event) (step_leaves b ts' kept number event)
      × (step_keeps b ts kept number event ≡ step_keeps b ts' kept number event)

-- ---- The two calls

pub record CallsOfEngine : Type 0 where
  pub start_exactly : (b ts : List ℕ) → StartExactly b ts
  pub step_exactly : (b ts kept : List ℕ) (number event : ℕ) → StepExactly b ts kept number event
  pub refusals_of_start : (b ts : List ℕ) (r : Refusal) → start_answer b ts ≡ Err r → among r.number (4 ∷ 6 ∷ 7 ∷ 8 ∷ 5 ∷ []) ≡ true
  pub refusals_of_step : (b ts kept : List ℕ) (number event : ℕ) (r : Refusal) → step_answer b ts kept number event ≡ Err r
      → among r.number (14 ∷ 4 ∷ 6 ∷ 7 ∷ 8 ∷ 5 ∷ 16 ∷ 15 ∷ 3 ∷ []) ≡ true
