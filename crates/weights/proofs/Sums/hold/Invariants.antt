-- `weights::Sums::hold` meets its contract. The loop's invariant: the inequalities at the events below i are tested.
use Rattle.std.proofs.Common.{◌≡◌, ◌+◌, ◌*◌, ◌&&◌, leb}
use Rattle.laws.specs.Lists.{all_below}
use Rattle.nets.specs.Nets.{at, same}
use Rattle.weights.proofs.Sums.hold.Given as goal

abbrev pub invariant-loop-i : goal.invariant-loop-i
invariant-loop-i l =
    l.hold ≡ all_below l.i (λ j.
    leb (at l.self.before j) (l.k * at l.counts j) && leb (l.k * (at l.counts j + same l.event j)) (at l.self.before j + at l.self.of_event j))
