-- `obeying::completed_rows` meets its contract. The loop's invariant: the flags that are set are those at the rows so far.
use Rattle.std.proofs.Common.{◌≡◌, length, map}
use Rattle.limits.specs.Limits.{max_rows}
use Rattle.obeying.specs.Obeying.{Flags}
use Rattle.obeying.proofs.completed_rows.Given as goal

abbrev pub invariant-loop-row : goal.invariant-loop-row
invariant-loop-row l = (length l.completed ≡ max_rows) × Flags (map (λ y. y.now) l.yielded) l.completed
