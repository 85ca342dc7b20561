-- `taking::Prefix::new` meets its contract.
use Rattle.std.proofs.Common.{sym}
use Rattle.rows.specs.IndexLaws.{key-none}
use Rattle.taking.proofs.Prefix.new.Goals as goal

pub invariant_of-result : goal.invariant_of-result
invariant_of-result c = record { keyed = sym key-none }
