-- `rows::counts_of` meets its contract.
use Rattle.std.proofs.Common.{rules}
use native.Mathlib.Nat.{add-sub_cancel_left}
use Rattle.rows.specs.Rows.{row_at}
use Rattle.rows.proofs.counts_of.Goals as goal

pub returns : goal.returns
unfolding row_at
returns c =
    let chunk = rw c.unwrap.ensures at c.as_array.ensures.cases in
    (rw add-sub_cancel_left at chunk.same, search rules)
