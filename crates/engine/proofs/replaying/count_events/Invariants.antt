-- `engine::replaying::count_events` meets its contract. The loop's invariant: the events so far are counted.
use Rattle.std.proofs.Common.{◌≡◌, ℕ, ◌<◌, length, get_or, take}
use Rattle.limits.specs.Limits.{max_events}
use Rattle.nets.specs.Nets.{occurrences}
use Rattle.engine.proofs.replaying.count_events.Given as goal

abbrev pub invariant-loop-event : goal.invariant-loop-event
invariant-loop-event l = (length l.counts ≡ max_events) × ((i : ℕ) → i < l.n → get_or l.counts i 0 ≡ occurrences i (take l.event-index l.word))
