-- `rows::append_missing` meets its contract.
use Rattle.rows.specs.Storing.{present-held, visited-room, present-appended}
use Rattle.rows.proofs.append_missing.Goals as goal

pub returns-then-r-rows : goal.returns-then-r-rows
returns-then-r-rows c = present-held _ _ _ _ c.requires.r_value c.if-r-rows.true

pub append_row-requires : goal.append_row-requires
append_row-requires c =
    let p = c.requires in
    visited-room _ _ _ _ p.r_value c.if-r-rows.false _ p.rows_in_bounds.1

pub returns : goal.returns
returns c = present-appended _ _ _ _ c.requires.r_value c.if-r-rows.false _ c.append_row.ensures
