-- The search for the first refused step, place by place, as the code goes through the places of a bundle.
use Rattle.std.specs.Prelude.{◌≡◌, Bool, Option, ℕ, suc, ◌+◌, ◌*◌, ◌/◌, ◌≤◌, ◌<◌, ℤ, pos, length, take}
use Rattle.std.proofs.Math.Path.{refl}
use Rattle.std.proofs.Props.{props}
use Rattle.std.proofs.Common.{sym, ap, ap₂, ◌∙◌, subst, ⊎_elim, suc-mul, mul-le-mul_right, add-one, length-take, length-append, get_or-take}
use Rattle.std.proofs.Math.Bool.{true, false, cond}
use mathlib.Core.List.{List, [], ◌∷◌, ◌++◌, append_assoc, append-nil, map, map-append}
use native.Mathlib.Omega.{arith}
use borrow.Author.Tests.{le-leb, lt-leb, leb-true, leb-false}
use Rattle.std.proofs.Math.Dec.{leb}
use Rattle.std.proofs.lemmas.List.{length-map}
use Rattle.laws.specs.Booleans.{lt_or_le}
use Rattle.limits.specs.Limits.{max_word_events}
use Rattle.nets.specs.Nets.{Word, Net, Place, step_at, place_permits, shortfall}
use Rattle.nets.specs.Events.{EventsBelow}
use Rattle.nets.specs.Markings.{tokens_none}
use Rattle.places.specs.Machine as machine
use Rattle.places.specs.declared.Place as declared
use Rattle.bundles.specs.Layout.{to_place, to_net}
use Rattle.bundles.specs.Readers.{events_in, net_in}
use Rattle.bundles.specs.HeadReading.{HeadAt}
use Rattle.bundles.specs.NumberReading.{items_at, items-length, items-append, items_snoc}
use Rattle.bundles.specs.PlaceReading.{Kept, place_size, fields_at, place_on, machine_place, place_means}
use Rattle.stops.specs.Positions.{step_cut, Best, best-stays, best-earlier, Finds}
use Rattle.stops.specs.Replay.{First, stop, replay, stop_of, replay-first}
use Rattle.stops.specs.declared.Stop.{Stop}

-- a stop, by the place of that number
abbrev pub named : ℕ → Stop → Stop
named j s = record { position = s.position; place = j; shortfall = s.shortfall }

-- the first stop of two, and which of them it is: 0 for the first one, also where both stop there
unfoldable pub first_of : Stop → Stop → Stop
first_of a b = cond (leb a.position b.position) (named 0 a) (named 1 b)

module _ (a b : Stop) where
  first-sooner : a.position ≤ b.position → first_of a b ≡ named 0 a
  unfolding first_of
  first-sooner h = rw (le-leb a.position b.position h)

  second-sooner : b.position < a.position → first_of a b ≡ named 1 b
  unfolding first_of
  second-sooner h = rw (lt-leb a.position b.position h)

  pub first_stops : {i k : ℕ} → a ≡ stop i k → i ≤ b.position → stop i k ≡ first_of a b
  first_stops is h = ap (named 0) (sym is) ∙ sym (first-sooner (omega (arith, ap (λ (s : Stop). s.position) is)))

  pub second-stops : {i k : ℕ} → b ≡ stop i k → i < a.position → named 1 (stop i k) ≡ first_of a b
  second-stops is h = ap (named 1) (sym is) ∙ sym (second-sooner (omega (arith, ap (λ (s : Stop). s.position) is)))

  -- it is one of the two
  pub one_of_two : ((first_of a b).place ≤ 1) × ((first_of a b).position ≤ a.position) × ((first_of a b).position ≤ b.position)
  unfolding first_of
  one_of_two = go (leb a.position b.position) refl
    where
      go : (t : Bool) → leb a.position b.position ≡ t → let s = cond t (named 0 a) (named 1 b) in (s.place ≤ 1) × (s.position ≤ a.position) × (s.position ≤ b.position)
      go true e = (omega arith, omega arith, omega (arith, leb-true a.position b.position e))
      go false e = (omega arith, omega (arith, leb-false a.position b.position e), omega arith)

-- the place that was read from an offset is the one there: what is replayed on it, and what stops it
pub place_is : (n : ℕ) (b : List ℕ) (at : ℕ) (p : declared.Place) → p ≡ machine_place (fields_at n b at) → machine.place_of p ≡ place_on n b at
place_is n b at p e = ap machine.place_of e ∙ place_means (fields_at n b at)

pub replay_means : (n : ℕ) (b : List ℕ) (at : ℕ) (t : ℤ) (w : Word) (p : declared.Place) → p ≡ machine_place (fields_at n b at) → replay (machine.place_of p) t w ≡ replay (place_on n b at) t w
replay_means n b at t w p e = ap (λ (q : Place). replay q t w) (place_is n b at p e)

pub stop_means : (n : ℕ) (b : List ℕ) (at : ℕ) (w : Word) (p : declared.Place) → p ≡ machine_place (fields_at n b at) → stop_of (machine.place_of p) w ≡ stop_of (place_on n b at) w
stop_means n b at w p e = ap (λ (q : Place). stop_of q w) (place_is n b at p e)

-- ---- the places of a bundle, from an offset on

abbrev pub net_at : ℕ → List ℕ → ℕ → ℕ → Net
net_at n b first count = map to_place (items_at (place_size n) (fields_at n) count b first)

pub net_snoc : (n : ℕ) (b : List ℕ) (first j : ℕ) → net_at n b first (j + 1) ≡ net_at n b first j ++ place_on n b (first + 2 * (j * place_size n)) ∷ []
net_snoc n b first j = rw (add-one j) (ap (map to_place) (items_snoc (place_size n) (fields_at n) j b first) ∙ map-append to_place (items_at (place_size n) (fields_at n) j b first) (fields_at n b (first + 2 * (j * place_size n)) ∷ []))

-- no place yet
pub net-start : (n : ℕ) (b : List ℕ) (first : ℕ) (net : Net) → net ++ net_at n b first 0 ≡ net
unfolding items_at
net-start n b first net = append-nil net

pub net-length : (n : ℕ) (b : List ℕ) (first j : ℕ) → length (net_at n b first j) ≡ j
net-length n b first j = length-map (items_at (place_size n) (fields_at n) j b first) to_place ∙ items-length (place_size n) (fields_at n) j b first

-- the places behind the first k
pub net-behind : (n : ℕ) (b : List ℕ) (first k c : ℕ) → net_at n b first (k + c) ≡ net_at n b first k ++ net_at n b (first + 2 * (k * place_size n)) c
net-behind n b first k c = ap (map to_place) (items-append (place_size n) (fields_at n) k c b first) ∙ map-append to_place (items_at (place_size n) (fields_at n) k b first) (items_at (place_size n) (fields_at n) c b (first + 2 * (k * place_size n)))

-- the net of a bundle whose head was read
pub net-is : {at : Kept} → HeadAt at → net_in at.bundle.now ≡ net_at at.n at.bundle.now at.first at.count
unfolding to_net
net-is found = ap (map to_place) found.places

-- what a search says of the places of a bundle is said of its net
pub over-head : {at : Kept} → HeadAt at → {before : ℕ} {from to : Option Stop} {w : Word}
    → ((net : Net) → length net ≡ before → Finds at.n net w from → Finds at.n (net ++ net_at at.n at.bundle.now at.first at.count) w to)
    → (net : Net) → length net ≡ before → Finds (events_in at.bundle.now) net w from → Finds (events_in at.bundle.now) (net ++ net_in at.bundle.now) w to
over-head found search net size finds = rw (net-is found, found.events) (search net size (rw found.events at finds))

-- a word over n events that may be screened
pub record WordOver (n : ℕ) (w : Word) : Type 0 where
  pub size : length w ≤ max_word_events
  pub events : EventsBelow n w

-- there is one proof of it at most
pub WordOver-prop : (n : ℕ) (w : Word) → IsProp (WordOver n w)
WordOver-prop n w = hlevel props

-- ---- one place more

module _ (n : ℕ) (w : Word) (below : EventsBelow n w) where
  pub part-below : (k : ℕ) → EventsBelow n (take k w)
  part-below k i h = let inside : i < k = omega (arith, length-take k w) in rw (get_or-take k w i 0 inside) (below i (omega (arith, length-take k w)))

  -- what the replay of a prefix says of the word
  module _ (p : Place) (k : ℕ) (inside : k ≤ length w) where
    found : First n p [] (take k w) (stop_of p (take k w))
    unfolding stop_of
    found = replay-first n p (take k w) [] (pos p.initial) (part-below k) (sym (tokens_none n p))

    stop-within : (stop_of p (take k w)).position ≤ k
    stop-within = omega (arith, found.within, length-take k w)

    stop-permits : (i : ℕ) → i < (stop_of p (take k w)).position → place_permits n p (step_at n w i) ≡ true
    stop-permits i h = ap (place_permits n p) (sym (step_cut n w k i (omega (arith, stop-within)))) ∙ found.permits i h

    module _ (h : (stop_of p (take k w)).position < k) where
      stop-refuses : place_permits n p (step_at n w (stop_of p (take k w)).position) ≡ false
      stop-refuses = ap (place_permits n p) (sym (step_cut n w k (stop_of p (take k w)).position h)) ∙ found.refuses (omega (arith, length-take k w))

      stop-short : shortfall n p (step_at n w (stop_of p (take k w)).position) ≡ (stop_of p (take k w)).shortfall
      stop-short = ap (shortfall n p) (sym (step_cut n w k (stop_of p (take k w)).position h)) ∙ found.short (omega (arith, length-take k w))

  -- so far a net and j places of a bundle were searched, and the next place is replayed up to some position of the word
  module _ (net : Net) (b : List ℕ) (first j : ℕ) {from : Stop} (so_far : Best n (net ++ net_at n b first j) w from) (end : ℕ) (inside : end ≤ length w) where
    abbrev place : Place
    place = place_on n b (first + 2 * (j * place_size n))

    abbrev next : Stop
    next = stop_of place (take end w)

    more : net ++ net_at n b first (j + 1) ≡ (net ++ net_at n b first j) ++ place ∷ []
    more = ap (λ (l : Net). net ++ l) (net_snoc n b first j) ∙ sym (append_assoc net (net_at n b first j) (place ∷ []))

    number : length (net ++ net_at n b first j) ≡ length net + j
    number = length-append net (net_at n b first j) ∙ ap (λ (i : ℕ). length net + i) (net-length n b first j)

    pub search_stays : from.position ≤ next.position → Best n (net ++ net_at n b first (j + 1)) w from
    search_stays h = rw more (best-stays n so_far place (λ i l. stop-permits place end inside i (omega arith)))

    pub search_earlier : next.position < from.position → next.position < end
        → Best n (net ++ net_at n b first (j + 1)) w (named (length net + j) next)
    search_earlier h l =
        rw more
        (subst (λ (s : Stop). Best n ((net ++ net_at n b first j) ++ place ∷ []) w s)
        (ap₂ (λ (x y : ℕ). record { position = next.position; place = x; shortfall = y }) number (stop-short place end inside l))
        (best-earlier n so_far place next.position h (stop-permits place end inside) (stop-refuses place end inside l)))

-- ---- two places more

-- the offsets of the pairs
module _ (n first k : ℕ) where
  pub pair_second_at : first + 2 * (2 * k * place_size n) + 2 * place_size n ≡ first + 2 * ((2 * k + 1) * place_size n)
  pair_second_at = omega (arith, suc-mul (2 * k) (place_size n), add-one (2 * k))

  pub pair_next_at : first + 2 * (2 * k * place_size n) + 4 * place_size n ≡ first + 2 * (2 * (k + 1) * place_size n)
  pair_next_at =
      let next : 2 * (k + 1) ≡ suc (suc (2 * k)) = omega arith in
      rw next (omega (arith, suc-mul (suc (2 * k)) (place_size n), suc-mul (2 * k) (place_size n)))

  pub pair_inside : (count size : ℕ) → k < count / 2 → first + 2 * (count * place_size n) ≤ size → first + 2 * (2 * k * place_size n) + 2 * (2 * place_size n) ≤ size
  pair_inside count size h inside =
      let fits : suc (suc (2 * k)) ≤ count = omega arith in
      omega (arith, mul-le-mul_right (place_size n) fits, suc-mul (suc (2 * k)) (place_size n), suc-mul (2 * k) (place_size n))

module _ (n : ℕ) (w : Word) (below : EventsBelow n w) (net : Net) (b : List ℕ) (first j : ℕ) {from : Stop} (so_far : Best n (net ++ net_at n b first j) w from) where
  -- the stops of the next two places, each replayed up to the best position
  abbrev one : Stop
  one = stop_of (place_on n b (first + 2 * (j * place_size n))) (take from.position w)

  abbrev two : Stop
  two = stop_of (place_on n b (first + 2 * ((j + 1) * place_size n))) (take from.position w)

  -- one place more
  stays : from.position ≤ one.position → Best n (net ++ net_at n b first (j + 1)) w from
  stays h = search_stays n w below net b first j so_far from.position so_far.within h

  earlier : one.position < from.position → Best n (net ++ net_at n b first (j + 1)) w (named (length net + j) one)
  earlier h = search_earlier n w below net b first j so_far from.position so_far.within h h

  pub pair_stays : from.position ≤ (first_of one two).position → Best n (net ++ net_at n b first (j + 1 + 1)) w from
  pair_stays h =
      let less = one_of_two one two in
      search_stays n w below net b first (j + 1) (stays (omega (arith, less.1))) from.position so_far.within (omega (arith, less.2))

  pair_first : one.position < from.position → one.position ≤ two.position
      → Best n (net ++ net_at n b first (j + 1 + 1)) w (named (length net + j) one)
  pair_first h sooner = search_stays n w below net b first (j + 1) (earlier h) from.position so_far.within sooner

  pair_second : two.position < from.position → two.position < one.position
      → Best n (net ++ net_at n b first (j + 1 + 1)) w (named (length net + (j + 1)) two)
  pair_second h sooner = ⊎_elim
      (λ l. search_earlier n w below net b first (j + 1) (earlier l) from.position so_far.within sooner h)
      (λ l. search_earlier n w below net b first (j + 1) (stays l) from.position so_far.within h h)
      (lt_or_le one.position from.position)

  -- an earlier stop of the two is the stop of all so far
  pub pair_earlier : (first_of one two).position < from.position
      → Best n (net ++ net_at n b first (j + 1 + 1)) w (named (length net + j + (first_of one two).place) (first_of one two))
  pair_earlier h = ⊎_elim
      (λ second.
      let place : length net + (j + 1) ≡ length net + j + 1 = omega arith in
      let is = second-sooner one two second in
      rw is (subst (λ (k : ℕ). Best n (net ++ net_at n b first (j + 1 + 1)) w (named k two)) place (pair_second (rw is at h) second)))
      (λ sooner.
      let place : length net + j ≡ length net + j + 0 = omega arith in
      let is = first-sooner one two sooner in
      rw is (subst (λ (k : ℕ). Best n (net ++ net_at n b first (j + 1 + 1)) w (named k one)) place (pair_first (rw is at h) sooner)))
      (lt_or_le two.position one.position)
