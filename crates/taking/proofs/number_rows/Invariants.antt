-- `taking::number_rows` meets its contract.
use Rattle.rows.specs.Rows.{rows_of}
use Rattle.taking.specs.Noting.{Noting}
use Rattle.taking.proofs.number_rows.Given as goal

abbrev pub invariant-loop-i : goal.invariant-loop-i
invariant-loop-i l =
    Noting (rows_of l.rows.count l.rows.table.now) l.rows.count l.word l.initial.numbers l.numbers l.prefix.counts l.next l.i
