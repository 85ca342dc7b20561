-- `columns::Matrix::fit` meets its contract. The invariant: the tokens are those of a marking, and each column fits the rows below r.
use Rattle.std.proofs.Common.{◌≡◌, ℕ, ◌*◌, ◌<◌}
use Rattle.columns.specs.RowFits.{RowsBelow}
use Rattle.columns.specs.Matrix.{block_width, column}
use Rattle.columns.specs.Markings.{IsMarking}
use Rattle.columns.proofs.Matrix.fit.Given as goal

abbrev pub invariant-loop-r : goal.invariant-loop-r
invariant-loop-r l =
    IsMarking l.self l.marking
    × (l.marking.blocks ≡ l.initial.marking.blocks)
    × ((j : ℕ) → j < block_width * l.initial.marking.blocks → RowsBelow (column l.self j) l.rows l.table l.r)
