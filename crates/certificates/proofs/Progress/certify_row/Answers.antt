use Rattle.std.proofs.Common.{◌∙◌, arith}
use Rattle.std.proofs.lemmas.Result.{err_from_is_err_and}
use Rattle.certificates.specs.CertificateReading.{Passes, outcome-start, outcome-then, outcome-refused, outcome-row}
use Rattle.certificates.proofs.Progress.certify_row.Goals as goal

pub loop-event-init : goal.loop-event-init
loop-event-init c = outcome-start (omega (arith, c.requires.few))

pub certify_step-requires-clause-reader_bytes : goal.certify_step-requires-clause-reader_bytes
unfolding Passes
certify_step-requires-clause-reader_bytes c = c.loop-event.invariant.told.0 ∙ c.requires.reader_bytes

pub certify_step-requires-clause-few : goal.certify_step-requires-clause-few
unfolding Passes
certify_step-requires-clause-few c = c.loop-event.invariant.told.1

pub returns-in_err-certify_step : goal.returns-in_err-certify_step
returns-in_err-certify_step c =
    let q = err_from_is_err_and c.from_residual.result c.from_residual.ensures.1 in
    rw (q.1, q.2) (outcome-refused c.loop-event.invariant (rw c.in_err-certify_step.was at c.certify_step.ensures))

pub loop-event-preserved : goal.loop-event-preserved
loop-event-preserved c = outcome-then c.loop-event.invariant (rw c.in_ok-certify_step.was at c.certify_step.ensures)

pub returns : goal.returns
returns c =
    let found = c.args.head.now.held.found in
    outcome-row (omega (arith, found.limits)) (omega (arith, found.events)) c.loop-event.invariant
