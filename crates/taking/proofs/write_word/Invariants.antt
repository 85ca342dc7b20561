-- `taking::write_word` meets its contract.
use Rattle.std.proofs.Common.{◌+◌, length, take}
use Rattle.rows.specs.Rows.{rows_of, take_word, none}
use Rattle.taking.specs.Taking.{Taking}
use Rattle.taking.proofs.write_word.Given as goal

abbrev pub invariant-loop-i : goal.invariant-loop-i
invariant-loop-i l =
    Taking l.initial.table l.word (take (length l.word + 1) l.numbers) (take_word (rows_of l.rows l.initial.table) none l.word) l.table l.k l.counts l.i
