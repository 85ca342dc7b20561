-- `heads::take_words` meets its contract. The loop's invariant: so many words are taken, whose rows the table has and the index too.
use Rattle.std.proofs.Common.{◌≡◌}
use Rattle.rows.specs.Index.{IsIndex}
use Rattle.bundles.specs.Keeping.{said}
use Rattle.heads.specs.Taken.{TakenSoFar}
use Rattle.heads.proofs.take_words.Given as goal

abbrev pub invariant-loop-row : goal.invariant-loop-row
invariant-loop-row l =
    (l.reader.bytes ≡ l.fn.reader.bytes)
    × TakenSoFar (said l.first) l.fn.reader.bytes.now l.fn.reader.at l.count l.fn.table l.table l.row-items
    l.log.rows l.log.events l.reader.at l.row-index
    × IsIndex l.log.rows l.table l.log.index
