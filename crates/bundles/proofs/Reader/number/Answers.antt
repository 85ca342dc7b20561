-- `bundles::Reader::number` meets its contract.
use Rattle.std.proofs.Common.{rules}
use Rattle.std.proofs.lemmas.Result.{err_from_is_err_and}
use Rattle.bundles.specs.FieldReading.{number_tested, number_untested, chosen}
use Rattle.bundles.proofs.Reader.number.Goals as goal

pub returns-in_err-number : goal.returns-in_err-number
returns-in_err-number g c = λ p decides.
    let q = err_from_is_err_and c.from_residual.result c.from_residual.ensures.1 in
    rw (q.1, q.2) (number_untested p c.in_err-number.ensures)

pub returns : goal.returns
returns g c = λ p decides.
    let d = decides _ (search rules) c.in_range.result c.in_range.ensures in
    rw (c.ok_or.ensures.value, c.then_some.ensures, c.at.ensures, chosen, d) (number_tested p c.in_ok-number.ensures)
