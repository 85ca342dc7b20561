-- `bundles::Reader::kind` meets its contract.
use Rattle.std.proofs.Common.{sym, ap, arith}
use Rattle.std.proofs.lemmas.Bool.{lt-leb}
use Rattle.std.proofs.lemmas.Result.{err_from_is_err_and}
use Rattle.bundles.specs.Chains.{read_means, refused_means}
use Rattle.bundles.specs.FieldReading.{up_to, byte_passed, byte-failed, byte_untested}
use Rattle.bundles.specs.declared.terms.Kind.TheVariants.{Place, Weights}
use Rattle.bundles.proofs.Reader.kind.Goals as goal

pub returns-in_err-any_byte : goal.returns-in_err-any_byte
returns-in_err-any_byte c =
    let q = err_from_is_err_and c.from_residual.result c.from_residual.ensures.1 in
    rw (q.1, q.2) (refused_means (byte_untested (up_to 1) c.in_err-any_byte.ensures))

pub returns-in-0 : goal.returns-in-0
returns-in-0 c = read_means Place (sym c.in-0.is) (byte_passed (up_to 1) (ap (up_to 1) c.in-0.is) c.in_ok-any_byte.ensures)

pub returns-in-1 : goal.returns-in-1
returns-in-1 c = read_means Weights (sym c.in-1.is) (byte_passed (up_to 1) (ap (up_to 1) c.in-1.is) c.in_ok-any_byte.ensures)

pub returns-in_default : goal.returns-in_default
returns-in_default c = rw c.at.ensures (refused_means (byte-failed (up_to 1) (lt-leb _ 1 (omega arith)) c.in_ok-any_byte.ensures))
