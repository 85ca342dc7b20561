-- REQUEST 6: 'Laws for putting nets together.' 'Two modellers share one log and send places separately. Add a call that joins the place lists of
-- two bundles with the same n, first list first, and screens a word against the joined list without writing a bundle.'
-- The call's refusals are `JoinExactly` (Screening.antt), and that it answers by the joined net's first refused step is `joined-stopped` of
-- demand 2. Here are the laws: of every two nets, of any number of places with whole numbers of any size, then of the call.
use Rattle.std.specs.Prelude.{◌≡◌, ◌↔◌, List, ◌∷◌, ◌++◌, map, ℕ, ◌+◌, ◌-◌, ◌*◌, ◌≤◌, ◌<◌, T, length, get_or, None, Ok, Some}
use Rattle.nets.specs.Nets.{Word, Net, Place, no_place, join, scaled, permits, screen, stopped}
use Rattle.bundles.specs.Readers.{events_in, net_in}
use Rattle.screening.specs.Screening.{screened, screened_joined}
use Rattle.screening.specs.JoinLaws.{NoPlaces, JoinOf}
use Rattle.screening.specs.ScalingLaws.{ScaledPlace, ScaledPlaces}
use Rattle.stops.specs.declared.Stop.{Stop}

-- of nets over n events and a word
pub record NetsJoined (n : ℕ) (w : Word) : Type 0 where
  -- 'joins the place lists .. first list first'
  pub places : (one two : Net) → length (join one two) ≡ length one + length two
  pub place-first : (one two : Net) (j : ℕ) → j < length one → get_or (join one two) j no_place ≡ get_or one j no_place
  pub place-second : (one two : Net) (j : ℕ) → get_or (join one two) (length one + j) no_place ≡ get_or two j no_place
  -- 'Joined, a word is permitted exactly when both nets permit it.'
  pub both : (one two : Net) → T (permits n (join one two) w) ↔ (T (permits n one w) × T (permits n two w))
  -- 'Order of the two and a list joined to itself make no difference to yes or no, and grouping three makes none either.'
  pub order : (one two : Net) → permits n (join one two) w ≡ permits n (join two one) w
  pub itself : (net : Net) → permits n (join net net) w ≡ permits n net w
  pub grouping : (one two three : Net) → permits n (join (join one two) three) w ≡ permits n (join one (join two three)) w
  -- 'multiplying a place's numbers by a whole number of 1 or more changes no yes or no': of one place in a net, and of all of them
  pub scaled-numbers : (k : ℕ) (p : Place) → ((scaled k p).initial ≡ k * p.initial)
      × ((i : ℕ) → ((scaled k p).produced i ≡ k * p.produced i) × ((scaled k p).consumed i ≡ k * p.consumed i))
  pub scaled-place : (k : ℕ) → 1 ≤ k → (before : Net) (p : Place) (behind : Net)
      → permits n (before ++ scaled k p ∷ behind) w ≡ permits n (before ++ p ∷ behind) w
  pub scaled-all : (k : ℕ) → 1 ≤ k → (net : Net) → permits n (map (scaled k) net) w ≡ permits n net w
  -- a stop at a place below the first net's place count is that net's own, one from there on the second's, its places numbered behind the first's
  pub stops_first : (one two : Net) (i j k : ℕ) → screen n (join one two) w ≡ stopped i j k → j < length one → screen n one w ≡ stopped i j k
  pub stops_second : (one two : Net) (i j k : ℕ) → screen n (join one two) w ≡ stopped i j k → length one ≤ j
      → screen n two w ≡ stopped i (j - length one) k

-- of the call
pub record CallJoined (w : Word) : Type 0 where
  pub both : (first second : List ℕ) → (screened_joined first second w ≡ Ok None)
      ↔ ((screened first w ≡ Ok None) × (screened second w ≡ Ok None) × (events_in first ≡ events_in second))
  pub order : (first second : List ℕ) → (screened_joined first second w ≡ Ok None) ↔ (screened_joined second first w ≡ Ok None)
  -- the whole answer, refusals included
  pub itself : (b : List ℕ) → screened_joined b b w ≡ screened b w
  -- a bundle that holds the places of two says what the two say joined; so the grouping of three makes no difference to any part of the answer
  pub whole : (first second whole : List ℕ) → JoinOf first second whole → screened_joined first second w ≡ screened whole w
  pub grouping : (a b c ab bc : List ℕ) → JoinOf a b ab → JoinOf b c bc → screened_joined ab c w ≡ screened_joined a bc w
  -- screening with one bundle is the joined screening with a net of no places, on either side
  pub none-behind : (b none : List ℕ) → NoPlaces b none → screened_joined b none w ≡ screened b w
  pub none_before : (b none : List ℕ) → NoPlaces b none → screened_joined none b w ≡ screened b w
  -- b' is b with the numbers of one place, or of all, multiplied by k
  pub scaled-place : (k : ℕ) → 1 ≤ k → (b b' : List ℕ) → ScaledPlace k b b' → (screened b w ≡ Ok None) ↔ (screened b' w ≡ Ok None)
  pub scaled-all : (k : ℕ) → 1 ≤ k → (b b' : List ℕ) → ScaledPlaces k b b' → (screened b w ≡ Ok None) ↔ (screened b' w ≡ Ok None)
  pub scaled-joined : (k : ℕ) → 1 ≤ k → (b b' other : List ℕ) → ScaledPlace k b b'
      → (screened_joined b other w ≡ Ok None) ↔ (screened_joined b' other w ≡ Ok None)
  -- which net the place is of; 'Place numbers in the answer go up to 127.'
  pub stops_first : (first second : List ℕ) (s : Stop) → screened_joined first second w ≡ Ok (Some s) → s.place < length (net_in first)
      → screened first w ≡ Ok (Some s)
  pub stops_second : (first second : List ℕ) (s : Stop) → screened_joined first second w ≡ Ok (Some s) → length (net_in first) ≤ s.place
      → screened second w ≡ Ok (Some (record { position = s.position; place = s.place - length (net_in first); shortfall = s.shortfall }))
  pub place : (first second : List ℕ) (s : Stop) → screened_joined first second w ≡ Ok (Some s)
      → (s.place < length (net_in first) + length (net_in second)) × (s.place ≤ 127)

pub record Request6 : Type 0 where
  pub nets : (n : ℕ) (w : Word) → NetsJoined n w
  pub call : (w : Word) → CallJoined w
