-- `rows::visit_row` meets its contract.
use native.Mathlib.Omega.{arith}
use Rattle.rows.specs.Storing.{row_below, visited}
use Rattle.rows.proofs.visit_row.Goals as goal

pub count_word-requires : goal.count_word-requires
count_word-requires c =
    let p = c.requires in
    omega (arith, row_below _ _ _ _ p.r_value, p.rows_in_bounds.1)

pub returns : goal.returns
returns c =
    let u = c in
    visited _ _ _ _ u.requires.r_value _ _ _ (omega arith) u.append_missing-k.ensures c.count_word.ensures
