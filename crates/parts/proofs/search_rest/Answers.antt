use Rattle.std.proofs.Common.{arith, ◌≡◌, ◌∙◌, ap, None, min, ◌+◌, ◌<◌, ◌≤◌, length, length-take}
use Rattle.stops.specs.Positions.{stop_or_end}
use Rattle.stops.specs.Onward.{onward-all, onward-front, of_front, in_front}
use Rattle.parts.specs.Parts.{MarkedIn, marked-cut, marked-whole}
use Rattle.parts.proofs.search_rest.Goals as goal
use Rattle.parts.proofs.search_rest.Goals.{After-min-end}

-- the end of a turn's part
within : (c : After-min-end) → let size = length c.args.search.now.word.now in (c.min-end.result ≤ size) × (c.loop-done.done < c.min-end.result) × (min size c.loop-done.done ≡ c.loop-done.done)
within c = (omega (arith, c.min-end.ensures), omega (arith, c.min-end.ensures), omega arith)

pub search_part-requires : goal.search_part-requires
search_part-requires c =
    let s = c.args.search.now in
    let part = within (goal.at.search_part-requires c).After-min-end in
    let so_far = rw part.2 at c.loop-done.invariant in
    in_front c.front.ensures (λ at k w. MarkedIn at w c.loop-done.done c.loop-done.marking) (marked-cut part.0 (omega (arith, part.1)) so_far)

pub returns-in-Some-clause-late : goal.returns-in-Some-clause-late
unfolding stop_or_end
returns-in-Some-clause-late c =
    let part = within (goal.at.returns-in-Some-clause-late c).After-min-end in
    let late = rw c.in-Some.is at c.search_part.ensures.late in
    (omega arith, omega (arith, late.1, part.0, ap length c.front.ensures.word, length-take c.min-end.result c.args.search.now.word.now))

pub returns-in-Some-clause-onward : goal.returns-in-Some-clause-onward
returns-in-Some-clause-onward c =
    let s = c.args.search.now in
    let part = within (goal.at.returns-in-Some-clause-onward c).After-min-end in
    onward-front s c.front.ensures 0 (λ at. at.count) part.0 (rw c.in-Some.is at c.search_part.ensures.onward)

pub loop-done-preserved : goal.loop-done-preserved
loop-done-preserved c =
    let s = c.args.search.now in
    let part = within (goal.at.loop-done-preserved c).After-min-end in
    let size : length c.front.result.word.now ≡ min (length s.word.now) (c.loop-done.done + 4096) =
    ap length c.front.ensures.word ∙ length-take c.min-end.result s.word.now ∙ omega (arith, c.min-end.ensures, part.0) in
    let marked = c.search_part.ensures.marked c.in_default.is in
    rw (← size) (marked-whole part.0 s.over (of_front c.front.ensures (λ at k w. MarkedIn at w (length c.front.result.word.now) c.search_part.new.marking) marked))

pub returns-clause-late : goal.returns-clause-late
unfolding stop_or_end
returns-clause-late c = (omega arith, omega arith)

pub returns-clause-onward : goal.returns-clause-onward
unfolding stop_or_end
returns-clause-onward c =
    let s = c.args.search.now in
    let m = c.loop-done.invariant in
    onward-all s 0 s.net.count None (λ j low high i h. (m.places.reached j (omega arith)).permits i (omega arith))
