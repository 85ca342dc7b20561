use Rattle.std.proofs.Common.{◌≡◌, sym, arith}
use Rattle.laws.specs.Lists.{all_below-none, all_below-next}
use Rattle.limits.specs.Limits.{max_events}
use Rattle.weights.specs.Totals.{sums_hold, one_if}
use Rattle.weights.proofs.Sums.hold.Goals as goal

pub loop-i-init : goal.loop-i-init
loop-i-init c = sym (all_below-none _)

pub loop-i-preserved : goal.loop-i-preserved
loop-i-preserved c =
    rw (c.loop-i.invariant, c.from-count.ensures, c.from.ensures, one_if) (sym (all_below-next _ _))

pub returns : goal.returns
unfolding sums_hold
returns c =
    let all : c.loop-i.i ≡ max_events = omega arith in
    rw (c.loop-i.invariant, all)
