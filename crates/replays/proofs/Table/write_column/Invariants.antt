-- `replays::Table::write_column` meets its contract. The invariant: the changes from the events below `from` are written.
use Rattle.places.specs.Machine.{place_of}
use Rattle.replays.specs.StoringLaws.{Storing}
use Rattle.replays.proofs.Table.write_column.Given as goal

abbrev pub invariant-loop-from : goal.invariant-loop-from
invariant-loop-from l = Storing l.initial.self.changes l.self.changes l.j (place_of l.fn.place) l.from
