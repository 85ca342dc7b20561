-- `stops::stop_from` meets its contract. The loop's invariant: the replay goes on behind the steps so far, with these tokens.
use Rattle.places.specs.Machine.{place_of}
use Rattle.stops.specs.Replay.{replay, Going}
use Rattle.stops.proofs.stop_from.Given as goal

abbrev pub invariant-loop-position : goal.invariant-loop-position
invariant-loop-position l = Going (place_of l.fn.place) l.word (replay (place_of l.fn.place) l.fn.start l.word) l.tokens l.position
