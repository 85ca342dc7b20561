-- `rows::append_row` meets its contract.
use Rattle.std.proofs.Common.{rules, arith, ◌+◌, ◌-◌, ◌*◌}
use Rattle.std.proofs.lemmas.Slice.{put_mid-paste}
use Rattle.limits.specs.Limits.{max_events}
use Rattle.rows.specs.Rows.{row_size}
use Rattle.rows.specs.Storing.{append-holds}
use Rattle.rows.proofs.append_row.Goals as goal

pub returns : goal.returns
returns c =
    let a = c.args in
    rw (put_mid-paste (row_size * a.rows) (row_size * a.rows + max_events - row_size * a.rows) a.table.now _
    a.counts max_events c.copy_from_slice.ensures.after (omega arith) (search rules))
    (append-holds a.table.now a.counts a.rows c.requires (search rules))
