-- `taking::add_long_word` meets its contract.
use Rattle.std.proofs.Common.{arith}
use Rattle.taking.specs.Takable.{takable-room}
use Rattle.rows.specs.IndexLaws.{index_none}
use Rattle.taking.proofs.add_long_word.Goals as goal

pub extend-requires : goal.extend-requires
extend-requires c =
    let p = c.requires in
    (omega arith, p.rows, takable-room p, rw c.new-index.ensures (index_none _))
