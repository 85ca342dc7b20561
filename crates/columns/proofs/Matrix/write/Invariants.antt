-- `columns::Matrix::write` meets its contract. The invariant: the places below j are written.
use Rattle.columns.specs.Matrix.{Columns}
use Rattle.columns.specs.MatrixLaws.{numbered}
use Rattle.columns.proofs.Matrix.write.Given as goal

abbrev pub invariant-loop-j : goal.invariant-loop-j
invariant-loop-j l = Columns (numbered l.places) l.self l.j
