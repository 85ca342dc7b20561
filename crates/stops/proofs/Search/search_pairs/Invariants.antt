-- `stops::Search::search_pairs` meets its contract. The loop's invariant: `best` is that of the pairs so far.
use Rattle.std.proofs.Common.{◌*◌}
use Rattle.stops.specs.Onward.{Late, Onward}
use Rattle.stops.proofs.Search.search_pairs.Given as goal

abbrev pub invariant-loop-pair : goal.invariant-loop-pair
invariant-loop-pair l = Late l.self 0 l.best × Onward l.self 0 (2 * l.pair) l.fn.from l.best
