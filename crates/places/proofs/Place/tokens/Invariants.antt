-- `places::Place::tokens` meets its contract. The loop's invariant: `total` is what the place holds after the events that were counted.
use Rattle.std.proofs.Common.{◌≡◌, length}
use Rattle.nets.specs.Nets.{tokens}
use Rattle.places.specs.Machine.{place_of}
use Rattle.places.proofs.Place.tokens.Given as goal

abbrev pub invariant-loop-count : goal.invariant-loop-count
invariant-loop-count l = l.total ≡ tokens (length l.yielded) (place_of l.fn.self) l.counts
