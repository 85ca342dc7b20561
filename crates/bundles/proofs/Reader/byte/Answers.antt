-- `bundles::Reader::byte` meets its contract.
use Rattle.std.proofs.Common.{rules}
use Rattle.std.proofs.lemmas.Result.{err_from_is_err_and}
use Rattle.bundles.specs.FieldReading.{byte_tested, byte_untested, chosen}
use Rattle.bundles.proofs.Reader.byte.Goals as goal

pub returns-in_err-byte : goal.returns-in_err-byte
returns-in_err-byte g c = λ p decides.
    let q = err_from_is_err_and c.from_residual.result c.from_residual.ensures.1 in
    rw (q.1, q.2) (byte_untested p c.in_err-byte.ensures)

pub returns : goal.returns
returns g c = λ p decides.
    let d = decides _ (search rules) c.in_range.result c.in_range.ensures in
    rw (c.ok_or.ensures.value, c.then_some.ensures, c.at.ensures, chosen, d) (byte_tested p c.in_ok-byte.ensures)
