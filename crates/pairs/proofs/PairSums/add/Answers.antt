-- `pairs::PairSums::add` meets its contract: where a row is noted of the word, it is in the table.
use Rattle.std.specs.Prelude.{◌<◌, List, length}
use Rattle.std.proofs.Common.{sym, ap, ◌∙◌, rules, arith}
use Rattle.rows.specs.Rows.{Row, new_row, none}
use Rattle.rows.specs.Flat.{length-rows, rows_at}
use Rattle.heads.specs.Noted.{noted-completed}
use Rattle.pairs.specs.PairSums.{with-noted, with-none}
use Rattle.pairs.proofs.PairSums.add.Goals as goal
use Rattle.pairs.proofs.PairSums.add.Goals.{After-from-in-Some}

row_there : (c : After-from-in-Some) → c.in-Some.row < c.args.head.now.rows
row_there c =
    let head = c.args.head.now in
    let row =
    noted-completed head.marked.rows c.args.pair.now.word (omega (arith, c.requires.0, head.marked.size)) (rw c.from.ensures at c.in-Some.is) in
    omega (arith, row.1, ap (λ (rs : List Row). length rs) head.held.table, length-rows head.rows head.table.now)

pub counts_of-counts-requires : goal.counts_of-counts-requires
counts_of-counts-requires c =
    omega (arith, row_there (goal.at.counts_of-counts-requires c).After-from-in-Some, c.args.head.now.held.room, c.from-in-Some.ensures)

pub returns-in-Some : goal.returns-in-Some
returns-in-Some c =
    let head = c.args.head.now in
    let there = row_there (goal.at.returns-in-Some c).After-from-in-Some in
    let counts = rw c.from-in-Some.ensures at c.counts_of-counts.ensures.0
    ∙ ap (λ (r : Row). r.counts) (sym (rows_at head.rows head.table.now c.in-Some.row (new_row none) there)) in
    rw c.add_counts.ensures (with-noted head c.args.self.now _ _ (rw c.from.ensures at c.in-Some.is) counts)

pub returns-in-None : goal.returns-in-None
returns-in-None c = with-none c.args.head.now c.args.self.now _ (rw c.from.ensures at c.in-None.is) (search rules)
