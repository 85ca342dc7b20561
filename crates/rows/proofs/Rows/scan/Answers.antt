-- `rows::Rows::scan` meets its contract.
use Rattle.std.proofs.Common.{rules}
use Rattle.std.specs.Prelude.{true, false}
use borrow.Author.Tests.{tests}
use Rattle.std.proofs.lemmas.Iterator.{first_from_Range}
use Rattle.rows.specs.Searching.{HasCounts, found_first}
use Rattle.rows.proofs.Rows.scan.Goals as goal

pub returns : goal.returns
returns c =
    let rows = c.args.self.now in
    let v = c.args.counts.now in
    found_first v rows.table.now rows.count c.find.result
    (first_from_Range _ _ _ _ (λ k. HasCounts v rows.table.now k true) (λ k. HasCounts v rows.table.now k false)
    c.find.ensures.ran (λ x q k. search (rules, tests)) (λ x q k. search (rules, tests)))
