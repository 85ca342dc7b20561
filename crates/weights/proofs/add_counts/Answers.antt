use Rattle.std.proofs.Common.{◌≡◌, ◌∙◌, ◌+◌, ◌*◌, ◌≤◌, ap, rules, arith}
use Rattle.limits.specs.Limits.{max_events}
use Rattle.nets.specs.Nets.{at}
use Rattle.weights.specs.Totals.{max_number, added_to, added-start, added-here, added_next, added-done}
use Rattle.weights.proofs.add_counts.Goals as goal
use Rattle.weights.proofs.add_counts.Goals.{After-from}

pub loop-i-init : goal.loop-i-init
loop-i-init c = added-start c.args.weight (at c.args.counts.now) c.args.sums.now

-- the sum that is written
room : (c : After-from) → at c.loop-i.sums c.loop-i.i + c.args.weight * c.from.result ≤ max_number * max_number
room c =
    let a = c.args in
    rw (c.loop-i.invariant, c.from.ensures, added-here a.weight (at a.counts.now) a.sums.now c.loop-i.i (omega arith)) (c.requires c.loop-i.i)

pub overflow_add-sum : goal.overflow_add-sum
overflow_add-sum c = omega (arith, room (goal.at.overflow_add-sum c).After-from)

pub loop-i-preserved : goal.loop-i-preserved
loop-i-preserved c =
    let a = c.args in
    rw (c.loop-i.invariant, c.from.ensures) (added_next a.weight (at a.counts.now) a.sums.now c.loop-i.i (search rules) (omega arith))

pub returns : goal.returns
returns c =
    let a = c.args in
    let all : c.loop-i.i ≡ max_events = omega arith in
    c.loop-i.invariant ∙ ap (added_to a.weight (at a.counts.now) a.sums.now) all ∙ added-done a.weight (at a.counts.now) a.sums.now (search rules)
