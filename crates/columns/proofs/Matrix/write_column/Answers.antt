use Rattle.std.proofs.Common.{rules, arith, ◌<◌, length, get_or, []}
use borrow.Author.Rules.{Below-row}
use Rattle.columns.specs.MatrixLaws.{storing_start, storing_next, stored}
use Rattle.columns.proofs.Matrix.write_column.Goals as goal

pub loop-e-init : goal.loop-e-init
loop-e-init c = storing_start (omega arith)

pub loop-e-preserved : goal.loop-e-preserved
loop-e-preserved c =
    let m = c.loop-e.self in
    let produced : c.args.j < length (get_or m.produced c.loop-e.e []) = search (rules, Below-row) in
    let consumed : c.args.j < length (get_or m.consumed c.loop-e.e []) = search (rules, Below-row) in
    storing_next (omega arith) produced (omega arith) consumed c.loop-e.invariant

pub returns : goal.returns
returns c = stored (omega arith) c.loop-e.invariant
