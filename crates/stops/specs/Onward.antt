-- The search through the places of a net, from one number to another: what is found so far, behind more places.
use Rattle.std.specs.Prelude.{◌≡◌, true, [], ◌∷◌, ◌++◌, Option, Some, None, ℕ, zero, suc, ◌+◌, ◌-◌, ◌*◌, ◌≤◌, ◌<◌, ℤ, length, take}
use Rattle.std.proofs.Common.{refl, sym, ap, ap₂, ◌∙◌, subst, ⊎_elim, arith, zero-mul, add-mul, add-one, append_assoc, length-append, length-take}
use Rattle.laws.specs.Booleans.{lt_or_le}
use Rattle.nets.specs.Nets.{Word, Net, Place, step_at, place_permits}
use Rattle.nets.specs.Events.{EventsBelow}
use Rattle.bundles.specs.Readers.{events_in, net_in}
use Rattle.bundles.specs.NumberReading.{items_at}
use Rattle.bundles.specs.PlaceReading.{place_size, place_on}
use Rattle.bundles.specs.Keeping.{place_spot}
use Rattle.std.specs.Option.{option_or}
use Rattle.stops.specs.Positions.{finds-or, finds-front, finds-whole, Best, Finds, stop_in, stop_or_end, stop_in-some, stop_in-none, best-stays, best-earlier}
use Rattle.stops.specs.Replay.{replay, stop_of}
use Rattle.stops.specs.Searching.{net_at, net-start, net-length, net-behind, part-below, WordOver, over-head, first_of, one_of_two, pair_stays, pair_earlier}
use Rattle.stops.specs.Reached.{part, place_at, part-size, Reached, found-permits, found-refuses, found-short}
use Rattle.bundles.specs.declared.net.Net as bundle
use Rattle.stops.specs.declared.Search.{Search}
use Rattle.stops.specs.declared.Stop.{Stop}

-- t is s in the first `end` events of its word
pub record FrontOf (s : Search) (end : ℕ) (t : Search) : Type 0 where
  pub net : t.net ≡ s.net
  pub before : t.before ≡ s.before
  pub word : t.word.now ≡ take end s.word.now

-- what is said of one is said of the other
module _ {s t : Search} {end : ℕ} (front : FrontOf s end t) (P : bundle.Net → ℕ → Word → Type 0) where
  pub of_front : P t.net t.before t.word.now → P s.net s.before (take end s.word.now)
  of_front p = subst (P s.net s.before) front.word (subst (λ (k : ℕ). P s.net k t.word.now) front.before (subst (λ (at : bundle.Net). P at t.before t.word.now) front.net p))

  pub in_front : P s.net s.before (take end s.word.now) → P t.net t.before t.word.now
  in_front p =
      subst (λ (at : bundle.Net). P at t.before t.word.now) (sym front.net)
      (subst (λ (k : ℕ). P s.net k t.word.now) (sym front.before) (subst (P s.net s.before) (sym front.word) p))

-- the position of a stop, or the word's length
abbrev pub end_of : Search → Option Stop → ℕ
end_of s found = (stop_or_end s.word.now found).position

-- place j of the net
abbrev pub place_of : Search → ℕ → Place
place_of s j = place_on s.net.n s.net.bundle.now (place_spot s.net j)

-- c places of it, from number i on
abbrev pub places_of : Search → ℕ → ℕ → Net
places_of s i c = net_at s.net.n s.net.bundle.now (place_spot s.net i) c

-- behind places that are so many as stand before place i, and with which `from` is found, `to` is found with c places from number i on
abbrev pub OnwardIn : bundle.Net → ℕ → Word → ℕ → ℕ → Option Stop → Option Stop → Type 0
OnwardIn at before w i c from to = (net : Net) → length net ≡ before + i → Finds at.n net w from
    → Finds at.n (net ++ net_at at.n at.bundle.now (place_spot at i) c) w to

-- so it is in a search
abbrev pub Onward : Search → ℕ → ℕ → Option Stop → Option Stop → Type 0
Onward s i c from to = OnwardIn s.net s.before s.word.now i c from to

-- the same with all places, in the words of the bundle
abbrev pub Searched : Search → Option Stop → Option Stop → Type 0
Searched s from to = (net : Net) → length net ≡ s.before → Finds (events_in s.net.bundle.now) net s.word.now from
    → Finds (events_in s.net.bundle.now) (net ++ net_in s.net.bundle.now) s.word.now to

-- place j permits each step of the word
abbrev pub PermitsAll : Search → ℕ → Type 0
PermitsAll s j = (i : ℕ) → i < length s.word.now → place_permits s.net.n (place_of s j) (step_at s.net.n s.word.now i) ≡ true

-- place j permits the first d steps, and has t tokens behind them
abbrev pub ReachedAt : Search → ℕ → ℤ → ℕ → Type 0
ReachedAt s j t d = Reached s.net.n s.word.now (place_of s j) t d

-- a stop that was found so far is one of the word, not among the first d steps
abbrev pub Late : Search → ℕ → Option Stop → Type 0
Late s d found = (d ≤ end_of s found) × (end_of s found ≤ length s.word.now)

module _ (s : Search) where
  abbrev w : Word
  w = s.word.now

  places-one : (j : ℕ) → places_of s j 1 ≡ place_of s j ∷ []
  unfolding items_at
  places-one j = refl

  places-then : (net : Net) (i c d : ℕ) → net ++ places_of s i (c + d) ≡ (net ++ places_of s i c) ++ places_of s (i + c) d
  places-then net i c d =
      let n = s.net.n in
      let b = s.net.bundle.now in
      let there : place_spot s.net i + 2 * (c * place_size n) ≡ place_spot s.net (i + c) = omega (arith, add-mul i c (place_size n)) in
      ap (λ (l : Net). net ++ l) (net-behind n b (place_spot s.net i) c d ∙ ap (λ (at : ℕ). places_of s i c ++ net_at n b at d) there)
      ∙ sym (append_assoc net (places_of s i c) (places_of s (i + c) d))

  places-size : (net : Net) (i c : ℕ) → length net ≡ s.before + i → length (net ++ places_of s i c) ≡ s.before + (i + c)
  places-size net i c size = length-append net (places_of s i c) ∙ omega (arith, size, net-length s.net.n s.net.bundle.now (place_spot s.net i) c)

  -- ---- several places more

  pub onward-none : (i : ℕ) (from : Option Stop) → Onward s i 0 from from
  onward-none i from net size finds = subst (λ (l : Net). Finds s.net.n l w from) (sym (net-start s.net.n s.net.bundle.now (place_spot s.net i) net)) finds

  pub onward_then : (i c d : ℕ) {j e : ℕ} (from mid to : Option Stop) → i + c ≡ j → c + d ≡ e → Onward s i c from mid → Onward s j d mid to → Onward s i e from to
  onward_then i c d from mid to next all first then net size finds =
      let behind = rw (← next) at (then (net ++ places_of s i c)) in
      rw (← all, places-then net i c d) (behind (places-size net i c size) (first net size finds))

  pub permits-next : (i j : ℕ) → ((k : ℕ) → i ≤ k → k < j → PermitsAll s k) → PermitsAll s j → (k : ℕ) → i ≤ k → k < j + 1 → PermitsAll s k
  permits-next i j before here k low high = ⊎_elim (λ less. before k low less) (λ most. let same : j ≡ k = omega arith in subst (PermitsAll s) same here) (lt_or_le k j)

  -- places that permit each step up to the best position
  pub onward-permitted : (j : ℕ) (from : Option Stop) → ((k : ℕ) → k < end_of s from → place_permits s.net.n (place_of s j) (step_at s.net.n w k) ≡ true) → Onward s j 1 from from
  onward-permitted j from permits net size finds = rw (places-one j) (record { best = best-stays s.net.n finds.best (place_of s j) permits; inside = finds.inside })

  pub onward-all : (i c : ℕ) (from : Option Stop)
      → ((j : ℕ) → i ≤ j → j < i + c → (k : ℕ) → k < end_of s from → place_permits s.net.n (place_of s j) (step_at s.net.n w k) ≡ true) → Onward s i c from from
  onward-all i zero from permits net size finds = onward-none i from net size finds
  onward-all i (suc c) from permits net size finds =
      onward_then i c 1 from from from refl (add-one c)
      (onward-all i c from (λ j low high. permits j low (omega arith)))
      (onward-permitted (i + c) from (permits (i + c) (omega arith) (omega arith)))
      net size finds

  -- ---- one place more

  module _ (below : EventsBelow s.net.n w) (j : ℕ) (from : Option Stop) (t : ℤ) (d : ℕ) (r : Reached s.net.n w (place_of s j) t d) (late : Late s d from) where
    -- the steps behind the first d, up to the best position so far, and how the place is replayed on them
    abbrev pub rest_of : Word
    rest_of = part w d (end_of s from - d)

    abbrev next : Stop
    next = replay (place_of s j) t rest_of

    inside : d + (end_of s from - d) ≤ length w
    inside = omega (arith, late.0, late.1)

    size : length rest_of ≡ end_of s from - d
    size = part-size w d (end_of s from - d) inside

    pub onward-stays : None ≡ stop_in rest_of next → Onward s j 1 from from
    onward-stays none =
        let past : end_of s from - d ≤ next.position = omega (arith, stop_in-none rest_of next none, size) in
        onward-permitted j from (λ i h. found-permits s.net.n w below r (end_of s from - d) inside i (omega arith))

    -- where nothing was refused before, the place permits each step
    pub stays-permits : None ≡ stop_in rest_of next → from ≡ None → PermitsAll s j
    unfolding stop_or_end
    stays-permits none nothing i h =
        let past : end_of s from - d ≤ next.position = omega (arith, stop_in-none rest_of next none, size) in
        let end : end_of s from ≡ length w = ap (end_of s) nothing in
        found-permits s.net.n w below r (end_of s from - d) inside i (omega arith)

    pub late-earlier : {f : Stop} → Some f ≡ stop_in rest_of next → (d + f.position < end_of s from) × Late s d (Some (record { position = d + f.position; place = s.before + j; shortfall = f.shortfall }))
    unfolding stop_or_end
    late-earlier {f} some =
        let found = stop_in-some rest_of next some in
        let l : d + f.position < end_of s from = omega (arith, found.1, size, ap (λ (k : Stop). k.position) found.0) in
        (l, (omega arith, omega (arith, late.1)))

    pub onward-earlier : {f : Stop} → Some f ≡ stop_in rest_of next → Onward s j 1 from (Some (record { position = d + f.position; place = s.before + j; shortfall = f.shortfall }))
    unfolding stop_or_end
    onward-earlier {f} some net same finds =
        let found = stop_in-some rest_of next some in
        let l : next.position < end_of s from - d = omega (arith, found.1, size) in
        let here : Best s.net.n (net ++ place_of s j ∷ []) w (record { position = d + next.position; place = s.before + j; shortfall = next.shortfall }) =
        subst (λ (k : Stop). Best s.net.n (net ++ place_of s j ∷ []) w k)
        (ap₂ (λ (x y : ℕ). record { position = d + next.position; place = x; shortfall = y }) same (found-short s.net.n w below r (end_of s from - d) inside l))
        (best-earlier s.net.n finds.best (place_of s j) (d + next.position) (omega arith) (found-permits s.net.n w below r (end_of s from - d) inside) (found-refuses s.net.n w below r (end_of s from - d) inside l)) in
        record {
          best = rw (places-one j, found.0) here;
          inside = λ k e.
              let is : record { position = d + f.position; place = s.before + j; shortfall = f.shortfall } ≡ k = cc in
              omega (arith, ap (λ (k : Stop). k.position) is, ap (λ (k : Stop). k.position) found.0, finds.best.within);
        }

  -- ---- two places more, from their initial tokens

  module _ (below : EventsBelow s.net.n w) (j : ℕ) (from : Option Stop) (late : Late s 0 from) where
    -- the steps up to the best position so far, and which of the two refuses one first
    abbrev pub front_of : Word
    front_of = take (end_of s from) w

    abbrev pub first_two : Stop
    first_two = first_of (stop_of (place_of s j) front_of) (stop_of (place_of s (j + 1)) front_of)

    front-size : length front_of ≡ end_of s from
    front-size = length-take (end_of s from) w ∙ omega (arith, late.1)

    -- the two in the words of Searching.antt
    first-here : place_at s.net.n s.net.bundle.now (place_spot s.net j) 0 ≡ place_of s j
    first-here = ap (place_on s.net.n s.net.bundle.now) (omega (arith, zero-mul (place_size s.net.n)))

    second-here : place_at s.net.n s.net.bundle.now (place_spot s.net j) (0 + 1) ≡ place_of s (j + 1)
    second-here = ap (place_on s.net.n s.net.bundle.now) (omega (arith, add-mul j 1 (place_size s.net.n)))

    none-yet : (net : Net) → Finds s.net.n net w from → Best s.net.n (net ++ places_of s j 0) w (stop_or_end w from)
    none-yet net finds = rw (net-start s.net.n s.net.bundle.now (place_spot s.net j) net) finds.best

    pub pair-onward-stays : None ≡ stop_in front_of first_two → Onward s j 2 from from
    pair-onward-stays none net same finds =
        let past : end_of s from ≤ first_two.position = omega (arith, stop_in-none front_of first_two none, front-size) in
        let stays = rw (first-here, second-here) at (pair_stays s.net.n w below net s.net.bundle.now (place_spot s.net j) 0 (none-yet net finds)) in
        record { best = stays past; inside = finds.inside }

    module _ {f : Stop} (some : Some f ≡ stop_in front_of first_two) where
      abbrev moved : Stop
      moved = record { position = f.position; place = s.before + j + f.place; shortfall = f.shortfall }

      pub pair-late : (f.place ≤ 1) × Late s 0 (Some moved)
      unfolding stop_or_end
      pair-late =
          let found = stop_in-some front_of first_two some in
          let which = one_of_two (stop_of (place_of s j) front_of) (stop_of (place_of s (j + 1)) front_of) in
          (rw found.0 which.0, (omega arith, omega (arith, late.1, found.1, front-size, ap (λ (k : Stop). k.position) found.0)))

      pub pair-onward-earlier : Onward s j 2 from (Some moved)
      unfolding stop_or_end
      pair-onward-earlier net same finds =
          let found = stop_in-some front_of first_two some in
          let early : first_two.position < end_of s from = omega (arith, found.1, front-size) in
          let earlier = rw (first-here, second-here) at (pair_earlier s.net.n w below net s.net.bundle.now (place_spot s.net j) 0 (none-yet net finds)) in
          let number : length net + 0 + first_two.place ≡ s.before + j + first_two.place = omega (arith, same) in
          record {
            best = rw found.0 (rw number at (earlier early));
            inside = λ k e.
                let is : moved ≡ k = cc in
                omega (arith, late.1, ap (λ (k : Stop). k.position) is, ap (λ (k : Stop). k.position) found.0);
          }

  -- ---- the same search in the steps before a stop

  module _ {t : Search} (best found : Option Stop) (front : FrontOf s (end_of s best) t) (within : end_of s best ≤ length w) where
    pub onward-or : (i : ℕ) (c : bundle.Net → ℕ) → Onward t i (c t.net) None found → Onward s i (c s.net) best (option_or found best)
    onward-or i c search net size finds =
        finds-or s.net.n net (places_of s i (c s.net)) w best found finds (of_front front (λ at k v. OnwardIn at k v i (c at) None found) search net size)

    pub late-or : (d : ℕ) → Late t d found → Late s d best → Late s d (option_or found best)
    unfolding stop_or_end
    late-or d late so_far = go found late
      where
        go : (found : Option Stop) → Late t d found → Late s d (option_or found best)
        go None l = so_far
        go (Some f) l = (l.0, omega (arith, l.1, ap length front.word, length-take (end_of s best) w))

  -- and in a front of the word of any length
  pub over-front : (end : ℕ) → WordOver s.net.n (take end w)
  over-front end = record { size = omega (arith, length-take end w, s.over.size); events = part-below s.net.n w s.over.events end }

  module _ {t : Search} {end : ℕ} (front : FrontOf s end t) where
    pub onward-front : (i : ℕ) (c : bundle.Net → ℕ) {f : Stop} → end ≤ length w → Onward t i (c t.net) None (Some f) → Onward s i (c s.net) None (Some f)
    onward-front i c {f} fits search net same finds =
        finds-whole s.net.n end fits (of_front front (λ at k v. OnwardIn at k v i (c at) None (Some f)) search net same (finds-front s.net.n finds end fits))

    pub late-front : (d : ℕ) (f : Stop) → end ≤ length w → Late t d (Some f) → Late s d (Some f)
    unfolding stop_or_end
    late-front d f fits late = (late.0, omega (arith, late.1, ap length front.word, length-take end w))

  -- ---- all places

  pub onward-over : {from to : Option Stop} → Onward s 0 s.net.count from to → Searched s from to
  onward-over search =
      let start : place_spot s.net 0 ≡ s.net.first = omega (arith, zero-mul (place_size s.net.n)) in
      over-head s.found (λ net size finds. rw start at (search net (omega (arith, size)) finds))
