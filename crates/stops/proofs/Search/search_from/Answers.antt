use Rattle.std.proofs.Common.{Option, rules, arith, ◌≡◌, refl, ◌-◌, ◌≤◌, ◌<◌, sym, ap, ◌∙◌, subst, get_or, Fits, w16, ℕ, ◌+◌}
use Rattle.nets.specs.Nets.{Place}
use Rattle.laws.specs.Booleans.{impossible}
use Rattle.places.specs.Machine.{place_of}
use Rattle.stops.specs.Positions.{stop_in}
use Rattle.stops.specs.Replay.{Start, replay, start-bits}
use Rattle.stops.specs.Searching.{place_is}
use Rattle.stops.specs.Reached.{Reached, part, start_reached}
use Rattle.stops.specs.Onward.{end_of, Onward, onward-none, onward_then, onward-stays, onward-earlier, late-earlier, stays-permits, permits-next}
use Rattle.stops.specs.Onward.{place_of as place_in}
use Rattle.stops.specs.declared.Stop.{Stop}
use Rattle.stops.proofs.Search.search_from.Goals as goal
use Rattle.stops.proofs.Search.search_from.Given.{Over}
use Rattle.stops.proofs.Search.search_from.Goals.{In-Some, After-place-place, After-tokens-start, After-end, After-stop_from}

pub loop-j-init : goal.loop-j-init
loop-j-init g c =
    let none : c.args.places.start - c.args.places.start ≡ 0 = omega arith in
    rw (c.into_iter-j-iterator.ensures.into_iter_gives, none) (
      omega arith,
      c.requires.in_bounds.0,
      refl,
      c.requires.late,
      onward-none c.args.self.now c.args.places.start c.args.from,
      λ nothing k low high. absurd (omega arith),
    )

-- the place of a turn is the first of those that are left
turn : (g : Over) (c : In-Some g) → let left = c.loop-j.j-iterator in let j = c.in-Some.j in
    (left.start ≡ j) × (c.args.places.start ≤ j) × (j < c.args.places.end) × (c.next.new.self.start ≡ j + 1) × (c.next.new.self.end ≡ c.args.places.end)
turn g c =
    let steps = c.in-Some.ensures.steps in
    let so_far = c.loop-j.invariant in
    (sym steps.1.1, omega (arith, steps.1.1, so_far.0), omega (arith, steps.1.0, steps.1.1, so_far.2), omega (arith, steps.1.1, steps.1.2), steps.0 ∙ so_far.2)

-- the place that was read
read : (g : Over) (c : After-place-place g) → place_of c.place-place.result ≡ place_in c.args.self.now c.in-Some.j
read g c = place_is _ _ _ _ c.place-place.ensures

initial : (g : Over) (c : After-place-place g) → c.place-place.result.initial ≡ (place_in c.args.self.now c.in-Some.j).initial
initial g c = ap (λ (p : Place). p.initial) (read g c)

pub tokens-start-requires : goal.tokens-start-requires
tokens-start-requires g c =
    let at = goal.at.tokens-start-requires g c in
    let here = turn g at.In-Some in
    let may : goal.F-pre g c.args.tokens c.in-Some.j c.place-place.result.initial = rw (initial g at.After-place-place) (c.requires.callable c.in-Some.j here.1 here.2) in
    may

-- its tokens behind the first steps
reached : (g : Over) (c : After-tokens-start g) → let s = c.args.self.now in Reached s.net.n s.word.now (place_in s c.in-Some.j) c.tokens-start.result c.args.done
reached g c =
    let at = goal.at.After-tokens-start g c in
    let here = turn g at.In-Some in
    let gave : goal.F-post g c.args.tokens c.in-Some.j (place_in c.args.self.now c.in-Some.j).initial c.tokens-start.result = rw (initial g at.After-place-place) at c.tokens-start.ensures in
    c.requires.reached c.in-Some.j here.1 here.2 c.tokens-start.result gave

-- so the place may be replayed from them up to the best position
starts : (g : Over) (c : After-end g) → let s = c.args.self.now in let w = s.word.now in
    Start c.tokens-start.result (part w c.args.done (end_of s c.loop-j.best - c.args.done))
starts g c =
    let p = c.place-place.result in
    let is = read g (goal.at.After-end g c).After-place-place in
    let numbers : (p.initial < 65536) × ((e : ℕ) → get_or p.produced e 0 < 65536) = (omega arith, λ e. let f : Fits w16 (get_or p.produced e 0) = search rules in f.fits) in
    let small = subst (λ (q : Place). (q.initial < 65536) × ((e : ℕ) → q.produced e < 65536)) is numbers in
    let late = c.loop-j.invariant.3 in
    start_reached c.args.self.now.over c.args.self.now.net.limit (place_in c.args.self.now c.in-Some.j) small.0 small.1 (reached g (goal.at.After-end g c).After-tokens-start) (omega (arith, late.0, late.1)) _ (omega (arith, late.0, late.1))

pub stop_from-requires : goal.stop_from-requires
stop_from-requires g c =
    let start = starts g (goal.at.stop_from-requires g c).After-end in
    rw (c.end.ensures, start-bits start) start

-- what a turn finds
found : (g : Over) (c : After-stop_from g) → let s = c.args.self.now in let rest = part s.word.now c.args.done (end_of s c.loop-j.best - c.args.done) in
    c.stop_from.result ≡ stop_in rest (replay (place_in s c.in-Some.j) c.tokens-start.result rest)
found g c =
    let start = starts g (goal.at.After-stop_from g c).After-end in
    rw (c.end.ensures, start-bits start, read g (goal.at.After-stop_from g c).After-place-place) at c.stop_from.ensures

pub overflow_add-best : goal.overflow_add-best
overflow_add-best g c =
    let at = goal.at.overflow_add-best g c in
    let here = found g at.After-stop_from in
    let late = late-earlier c.args.self.now c.args.self.now.over.events c.in-Some.j c.loop-j.best c.tokens-start.result c.args.done (reached g at.After-tokens-start) c.loop-j.invariant.3 (sym c.in-Some-stop_from.is ∙ here) in
    omega (arith, late.0, c.end.ensures, c.end.type_inv)

-- with the place of a turn, what is found so far is that of one more
onward : (g : Over) (c : In-Some g) {to : Option Stop} → let s = c.args.self.now in let first = c.args.places.start in
    Onward s c.in-Some.j 1 c.loop-j.best to → Onward s first (c.next.new.self.start - first) c.args.from to
onward g c = let here = turn g c in onward_then c.args.self.now _ _ 1 _ _ _ (omega (arith, here.0, here.1)) (omega (arith, here.0, here.1, here.3)) c.loop-j.invariant.4

pub loop-j-preserved-in-Some-stop_from : goal.loop-j-preserved-in-Some-stop_from
loop-j-preserved-in-Some-stop_from g c =
    let s = c.args.self.now in
    let at = goal.at.loop-j-preserved-in-Some-stop_from g c in
    let here = turn g at.In-Some in
    let is = sym c.in-Some-stop_from.is ∙ found g at.After-stop_from in
    let r = reached g at.After-tokens-start in
    let late = c.loop-j.invariant.3 in (
      omega (arith, here.1, here.3),
      omega (arith, here.2, here.3),
      here.4,
      (late-earlier s s.over.events c.in-Some.j c.loop-j.best c.tokens-start.result c.args.done r late is).1,
      onward g at.In-Some (onward-earlier s s.over.events c.in-Some.j c.loop-j.best c.tokens-start.result c.args.done r late is),
      λ none. impossible cc,
    )

pub loop-j-preserved : goal.loop-j-preserved
loop-j-preserved g c =
    let s = c.args.self.now in
    let at = goal.at.loop-j-preserved g c in
    let here = turn g at.In-Some in
    let is = sym c.in_default.is ∙ found g at.After-stop_from in
    let r = reached g at.After-tokens-start in
    let late = c.loop-j.invariant.3 in (
      omega (arith, here.1, here.3),
      omega (arith, here.2, here.3),
      here.4,
      late,
      onward g at.In-Some (onward-stays s s.over.events c.in-Some.j c.loop-j.best c.tokens-start.result c.args.done r late is),
      λ none k low high. permits-next s c.args.places.start c.in-Some.j
          (λ i l h. c.loop-j.invariant.5 none i l (omega (arith, here.0)))
          (stays-permits s s.over.events c.in-Some.j c.loop-j.best c.tokens-start.result c.args.done r late is none) k low (omega (arith, here.3)),
    )

pub returns : goal.returns
returns g c =
    let so_far = c.loop-j.invariant in
    let all : c.loop-j.j-iterator.start ≡ c.args.places.end = omega (arith, c.in-None.ensures.steps.1.0, so_far.1, so_far.2) in
    rw (← all) (record { late = so_far.3; onward = so_far.4; permits = so_far.5 })
