-- `columns::Matrix::write` meets its contract.
use Rattle.std.proofs.Common.{arith, ◌≡◌, ℕ, ◌+◌}
use Rattle.nets.specs.Nets.{Place}
use Rattle.columns.specs.Matrix.{column, SamePlace, Beside, Columns}
use Rattle.columns.specs.MatrixLaws.{written_next}
use Rattle.columns.specs.declared.Matrix.{Matrix}
use Rattle.columns.proofs.Matrix.write.Goals as goal

-- one column more, the one that was written; its number is reckoned, since a must-fail edit writes another one
written : {place : ℕ → Place} {m m' : Matrix} {j k : ℕ} → Columns place m j → Beside m m' k → SamePlace (column m' k) (place j) → k ≡ j
    → Columns place m' (j + 1)
written below beside here same = written_next below (rw same at beside) (rw same at here)

pub loop-j-preserved : goal.loop-j-preserved
loop-j-preserved c = let w = c.write_column.ensures in written c.loop-j.invariant w.1 w.0 (omega arith)
