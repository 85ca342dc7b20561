-- `replays::Changes::write` meets its contract. The invariant: the changes to the events below `to` are written.
use Rattle.std.proofs.Common.{get_or}
use Rattle.replays.specs.StoringLaws.{Changing}
use Rattle.replays.proofs.Changes.write.Given as goal

abbrev pub invariant-loop-to : goal.invariant-loop-to
invariant-loop-to l = Changing l.initial.self l.self l.j l.produced (λ i. get_or l.consumed i 0) l.to
