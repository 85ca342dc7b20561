-- `rows::mark_row` meets its contract.
use Rattle.rows.proofs.mark_row.Goals as goal

pub returns : goal.returns
returns c = rw c.with_bit.ensures
