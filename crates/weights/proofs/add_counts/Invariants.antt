-- `weights::add_counts` meets its contract. The loop's invariant: the sums of the events below i are added.
use Rattle.std.proofs.Common.{◌≡◌}
use Rattle.nets.specs.Nets.{at}
use Rattle.weights.specs.Totals.{added_to}
use Rattle.weights.proofs.add_counts.Given as goal

abbrev pub invariant-loop-i : goal.invariant-loop-i
invariant-loop-i l = l.sums ≡ added_to l.weight (at l.counts) l.initial.sums l.i
