-- `bundles::Reader::mark` meets its contract.
use Rattle.std.proofs.Common.{rules}
use Rattle.bundles.specs.Readers.{mark}
use Rattle.bundles.specs.FieldReading.{up_to}
use Rattle.bundles.specs.Chains.{read_give}
use Rattle.bundles.proofs.Reader.mark.Goals as goal

pub returns-then-is_new : goal.returns-then-is_new
unfolding mark
returns-then-is_new c = rw c.if-is_new.true (c.byte.ensures (up_to 1) (λ x small b answer. search rules))

pub returns-else-is_new : goal.returns-else-is_new
unfolding mark
returns-else-is_new c = rw c.if-is_new.false (read_give _)
