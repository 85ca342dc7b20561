-- `replays::Table::replay` meets its contract. The invariant: the surplus and the bits are those behind the events so far.
use Rattle.std.proofs.Common.{◌≡◌, length}
use Rattle.replays.specs.Columns.{column_width}
use Rattle.replays.specs.ReplayLaws.{Replaying}
use Rattle.replays.proofs.Table.replay.Given as goal

abbrev pub invariant-loop-event : goal.invariant-loop-event
invariant-loop-event l =
    (length l.surplus ≡ column_width) × (length l.all ≡ column_width) × Replaying l.self.changes l.tokens l.part l.surplus l.all l.last l.event-index
