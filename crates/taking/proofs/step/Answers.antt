-- `taking::step` meets its contract.
use native.Mathlib.Omega.{arith}
use Rattle.rows.specs.Storing.{row_below, followed}
use Rattle.taking.proofs.step.Goals as goal

pub mark_row-requires : goal.mark_row-requires
mark_row-requires c =
    let p = c.requires in
    (omega (arith, row_below _ _ _ _ p.r_value.0, p.rows_in_bounds.1), p.r_value.1)

pub returns : goal.returns
returns c =
    let u = c in
    followed _ _ _ _ u.requires.r_value.0 _ _ _ _ (omega arith) u.visit_row-k.ensures c.mark_row.ensures
