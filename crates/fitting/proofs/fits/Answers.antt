-- `fitting::fits` meets its contract.
use Rattle.std.proofs.Common.{rules, true, false}
use borrow.Author.Tests.{tests}
use Rattle.places.specs.Machine.{place_of}
use Rattle.columns.specs.RowFits.{RowTested, rows_decide}
use Rattle.columns.proofs.Ranges.{all_from_Range}
use Rattle.fitting.proofs.fits.Goals as goal

pub returns : goal.returns
returns c =
    let place = place_of c.args.place.now in
    let table = c.args.table.now in
    rows_decide place c.args.rows table c.all.result
    (all_from_Range c.args.rows _ _ _ (λ i. RowTested place c.args.rows table i true) (λ i. RowTested place c.args.rows table i false)
    c.all.ensures.ran (λ x q k. search (rules, tests)) (λ x q k. search (rules, tests)))
