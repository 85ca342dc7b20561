-- `columns::Matrix::advance` meets its contract. The invariant: the counts below i are the new ones.
use Rattle.std.proofs.Common.{take, drop, ◌++◌}
use Rattle.columns.specs.Markings.{GoesOn}
use Rattle.columns.proofs.Matrix.advance.Given as goal

abbrev pub invariant-loop-i : goal.invariant-loop-i
invariant-loop-i l = GoesOn l.self l.initial.marking l.marking (take l.i l.counts ++ drop l.i l.initial.marking.counts)
