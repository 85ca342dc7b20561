-- `stops::stop_of_two` meets its contract. The loop's invariant: each replay goes on behind the steps so far, with its tokens.
use Rattle.places.specs.Machine.{place_of}
use Rattle.stops.specs.Replay.{stop_of, Going}
use Rattle.stops.proofs.stop_of_two.Given as goal

abbrev pub invariant-loop-position : goal.invariant-loop-position
invariant-loop-position l = Going (place_of l.fn.one) l.word (stop_of (place_of l.fn.one) l.word) l.first l.position × Going (place_of l.fn.two) l.word (stop_of (place_of l.fn.two) l.word) l.second l.position
