-- `taking::add_event` meets its contract. The invariant: the event is added once the loop is past it.
use Rattle.std.proofs.Common.{◌≡◌}
use Rattle.taking.specs.Prefixes.{adding}
use Rattle.taking.proofs.add_event.Given as goal

abbrev pub invariant-loop-i : goal.invariant-loop-i
invariant-loop-i l = l.counts ≡ adding l.initial.counts l.e l.i
