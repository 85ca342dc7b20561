use Rattle.std.proofs.Common.{arith, refl, ◌≡◌, ◌∙◌, ◌++◌, ◌-◌, ◌+◌, ◌<◌, ◌≤◌, take, drop, take-take}
use Rattle.limits.specs.Limits.{max_places}
use Rattle.replays.specs.Columns.{column_width}
use Rattle.stops.specs.Onward.{in_front}
use Rattle.parts.specs.Groups.{Searched, searched_start, searched_all, next-marked, next-searched}
use Rattle.parts.proofs.Part.search_part.Goals as goal
use Rattle.parts.proofs.Part.search_part.Goals.{In-loop-first, After-unwrap, After-copy_from_slice}

pub loop-first-init : goal.loop-first-init
loop-first-init c = (refl, searched_start _ _ _ c.requires.places.early)

-- the columns of a turn are there
more : (c : In-loop-first) → (c.loop-first.first < c.args.self.now.search.net.count) × (c.loop-first.first + column_width ≤ max_places)
more c = (omega arith, omega (arith, c.loop-first.invariant.0, c.requires.few))

-- the tokens of a turn
tokens : (c : After-unwrap) → c.unwrap.result.now ≡ take column_width (drop c.loop-first.first c.loop-first.marking)
tokens c =
    let chunk = rw c.unwrap.ensures at c.first_chunk.ensures.cases in
    chunk.same ∙ take-take column_width _ (drop c.loop-first.first c.loop-first.marking) (omega (arith, (more (goal.at.After-unwrap c).In-loop-first).1))

pub search_eight-requires : goal.search_eight-requires
search_eight-requires c =
    let at = goal.at.search_eight-requires c in
    let here = more at.In-loop-first in
    let front = rw c.end.ensures at c.front.ensures in (
      in_front front (λ at k w. c.loop-first.first < at.count) here.0,
      rw (tokens at.After-unwrap) (next-marked c.args.self.now.search c.args.self.now.done c.args.marking.now c.requires c.loop-first.invariant.1 here.0 here.1 front),
    )

-- what a turn leaves
next : (c : After-copy_from_slice) → let k = c.loop-first.first in let t = c.loop-first.marking in
    Searched c.args.self.now.search c.args.self.now.done c.args.marking.now (take k t ++ (c.copy_from_slice.new.self ++ drop (k + 8 - k) (drop k t))) (k + 8) c.or-best.result
next c =
    let s = c.args.self.now.search in
    let here = more (goal.at.After-copy_from_slice c).In-loop-first in
    let front = rw c.end.ensures at c.front.ensures in
    let found = c.search_eight.ensures in
    let eight : c.loop-first.first + 8 - c.loop-first.first ≡ column_width = omega arith in
    rw (c.or-best.ensures, c.copy_from_slice.ensures.after, eight)
    (next-searched s c.args.self.now.done c.args.marking.now c.requires c.loop-first.invariant.1 here.0 here.1 front c.search_eight.array_long found.onward found.late found.marked)

pub loop-first-preserved : goal.loop-first-preserved
loop-first-preserved c = (omega (arith, c.loop-first.invariant.0), next (goal.at.loop-first-preserved c).After-copy_from_slice)

pub returns-2 : goal.returns-2
returns-2 c =
    let last = next (goal.at.returns-2 c).After-copy_from_slice in
    let all = searched_all c.args.self.now.search c.args.self.now.done c.args.marking.now c.requires last (omega arith) in
    record { late = last.late; onward = all.0; marked = all.1 }
