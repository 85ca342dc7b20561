-- `stops::Search::front` meets its contract.
use Rattle.std.proofs.Common.{arith}
use Rattle.stops.specs.Onward.{over-front}
use Rattle.stops.proofs.Search.front.Goals as goal

pub invariant_of-result : goal.invariant_of-result
invariant_of-result c =
    let s = c.args.self.now in
    record { found = s.found; over = over-front s c.args.end; few = omega (arith, s.few) }
