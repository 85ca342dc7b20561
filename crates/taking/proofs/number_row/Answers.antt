-- `taking::number_row` meets its contract.
use Rattle.std.proofs.Common.{arith, refl, sym, ◌≡◌, ◌<◌, ◌≤◌}
use Rattle.rows.specs.Flat.{length-rows}
use Rattle.rows.specs.Rows.{rows_of, find_row}
use Rattle.rows.specs.Storing.{found_some, found_none, absent-found, absent-new, row-found, row_next}
use Rattle.taking.proofs.number_row.Goals as goal
use Rattle.taking.proofs.number_row.Goals.{In-Some, In-None}

-- the row that is found is one of them
some : (c : In-Some) → let rows = c.args.rows.now in
    (c.in-Some.r ≡ find_row c.args.prefix.now.counts (rows_of rows.count rows.table.now)) × (c.in-Some.r < rows.count)
some c =
    let rows = c.args.rows.now in
    let found = found_some _ _ _ c.in-Some.ensures in
    (found.0, rw length-rows at found.1)

-- or there is none
none : (c : In-None) → let rows = c.args.rows.now in rows.count ≤ find_row c.args.prefix.now.counts (rows_of rows.count rows.table.now)
none c = rw length-rows at (found_none _ _ c.in-None.ensures)

pub overflow_cast-number : goal.overflow_cast-number
overflow_cast-number c = omega (arith, (some c).1, c.requires.0)

pub returns-in-Some-clause-value : goal.returns-in-Some-clause-value
returns-in-Some-clause-value c = rw (absent-found _ _ _ _ (some c).0 (some c).1) (omega arith)

pub returns-in-Some-clause-number_after : goal.returns-in-Some-clause-number_after
returns-in-Some-clause-number_after c = sym (row-found _ _ _ _ (some c).0 (some c).1 c.args.next)

pub returns-in-None-clause-value : goal.returns-in-None-clause-value
returns-in-None-clause-value c = rw (absent-new _ _ _ _ refl (none c))

pub returns-in-None-clause-number_after : goal.returns-in-None-clause-number_after
returns-in-None-clause-number_after c = sym (row_next _ _ _ _ refl (none c) c.args.next)
