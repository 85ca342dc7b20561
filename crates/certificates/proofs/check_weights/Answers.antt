-- `certificates::check_weights` meets its contract.
use Rattle.std.proofs.Common.{Bool}
use Rattle.std.proofs.lemmas.Result.{err_from_is_err_and}
use Rattle.refusals.specs.Table.{weights_number}
use Rattle.bundles.specs.Reading.{require}
use Rattle.bundles.specs.Chains.{then-refused}
use Rattle.certificates.specs.CheckLaws.{tested_passed, tested-refused}
use Rattle.certificates.proofs.check_weights.Goals as goal

pub returns-in_err-read_weights : goal.returns-in_err-read_weights
returns-in_err-read_weights c =
    let q = err_from_is_err_and c.from_residual.result c.from_residual.ensures.1 in
    rw (q.1, q.2) (then-refused (λ (holds : Bool). require holds weights_number c.args.number) c.in_err-read_weights.ensures)

pub returns-then-not-branch : goal.returns-then-not-branch
returns-then-not-branch c =
    rw c.at.ensures (tested-refused (λ (holds : Bool). holds) weights_number c.args.number c.in_ok-read_weights.ensures c.if-not-branch.true)

pub returns : goal.returns
returns c = tested_passed (λ (holds : Bool). holds) weights_number c.args.number c.in_ok-read_weights.ensures c.if-not-branch.false
