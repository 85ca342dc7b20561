-- `sums::sums_of` meets its contract. The invariant: the rows from the last to the one before are added up.
use Rattle.std.proofs.Common.{◌-◌, length}
use Rattle.sums.specs.Adding.{RowsAdded}
use Rattle.sums.proofs.sums_of.Given as goal

abbrev pub invariant-loop-row : goal.invariant-loop-row
invariant-loop-row l = RowsAdded l.bytes l.columns.sums l.columns.shifts (15 - length l.yielded)
