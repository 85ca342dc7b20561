-- `weights::Sums::hold_paired` meets its contract. The loop's invariant: the inequalities at the events below i are tested.
use Rattle.std.proofs.Common.{◌≡◌}
use Rattle.laws.specs.Lists.{all_below}
use Rattle.weights.specs.Totals.{paired_holds_at}
use Rattle.weights.proofs.Sums.hold_paired.Given as goal

abbrev pub invariant-loop-i : goal.invariant-loop-i
invariant-loop-i l = l.hold ≡ all_below l.i (paired_holds_at l.self.before l.self.of_event l.paired l.counts l.event l.k)
