-- `columns::Matrix::write_column` meets its contract. The invariant: the initial tokens and the numbers of the events below e are written.
use Rattle.places.specs.Machine.{place_of}
use Rattle.columns.specs.MatrixLaws.{Storing}
use Rattle.columns.proofs.Matrix.write_column.Given as goal

abbrev pub invariant-loop-e : goal.invariant-loop-e
invariant-loop-e l = Storing l.fn.self l.self l.j (place_of l.place) l.e
