-- `columns::Matrix::start` meets its contract.
use Rattle.std.proofs.Common.{arith, refl}
use Rattle.columns.specs.MatrixLaws.{marking_start}
use Rattle.columns.proofs.Matrix.start.Goals as goal

pub returns : goal.returns
returns c = (record { after = marking_start c.start.ensures.value; held = c.start.ensures.held }, omega (arith, c.div_ceil-blocks.ensures), refl)
