use Rattle.std.proofs.Common.{arith}
use Rattle.std.proofs.lemmas.Bool.{le-leb, lt-leb}
use Rattle.weights.specs.Totals.{max_number, added_weight}
use Rattle.weights.proofs.added_weight.Goals as goal

pub returns-then-total-from : goal.returns-then-total-from
unfolding added_weight
returns-then-total-from c = rw (le-leb c.args.total max_number (omega arith))

pub returns-else-total-from : goal.returns-else-total-from
unfolding added_weight
returns-else-total-from c = rw (lt-leb c.args.total max_number (omega arith))
