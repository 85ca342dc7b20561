use Rattle.std.proofs.Common.{arith}
use Rattle.rows.specs.IndexLaws.{index_none}
use Rattle.heads.proofs.LogSoFar.new.Goals as goal

pub extend-requires : goal.extend-requires
extend-requires c = (omega arith, omega arith, omega (arith, c.requires), rw c.new-index.ensures (index_none _))
