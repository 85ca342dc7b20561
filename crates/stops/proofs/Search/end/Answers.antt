use Rattle.std.proofs.Common.{rules}
use Rattle.stops.specs.Positions.{stop_or_end}
use Rattle.stops.proofs.Search.end.Goals as goal

pub returns : goal.returns
unfolding stop_or_end
returns c = search rules
