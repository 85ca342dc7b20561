-- `block::rules::first_fault` meets its contract. The invariant: each block passed has no fault.
use Rattle.std.proofs.Common.{◌≡◌, ℕ, ◌<◌}
use Rattle.block.specs.File.{fault_at}
use Rattle.block.proofs.rules.first_fault.Given as goal

abbrev pub invariant-loop-k : goal.invariant-loop-k
invariant-loop-k l = (j : ℕ) → j < l.k → fault_at l.file j ≡ 0
