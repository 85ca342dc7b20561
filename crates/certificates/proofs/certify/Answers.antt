use Rattle.std.proofs.Common.{◌∙◌, arith}
use Rattle.std.proofs.lemmas.Result.{err_from_is_err_and}
use Rattle.certificates.specs.CertificateReading.{Passes, outcome-start, outcome-then, outcome-refused, outcome-done, outcome-stopped}
use Rattle.certificates.proofs.certify.Goals as goal

pub loop-row-init : goal.loop-row-init
loop-row-init c = outcome-start (omega arith)

pub certify_row-requires-clause-reader_bytes : goal.certify_row-requires-clause-reader_bytes
unfolding Passes
certify_row-requires-clause-reader_bytes c = c.loop-row.invariant.told.0

pub certify_row-requires-clause-few : goal.certify_row-requires-clause-few
unfolding Passes
certify_row-requires-clause-few c = omega (arith, c.loop-row.invariant.told.1)

pub returns-in_err-certify_row : goal.returns-in_err-certify_row
returns-in_err-certify_row c =
    let q = err_from_is_err_and c.from_residual.result c.from_residual.ensures.1 in
    let stopped =
    outcome-refused c.loop-row.invariant {i' = 0} {e' = 0} {s' = c.loop-row.progress} (rw c.in_err-certify_row.was at c.certify_row.ensures) in
    rw (q.1, q.2) (outcome-stopped _ _ c.args.head.now.held.size stopped ∙ rw c.offset.ensures)

pub loop-row-preserved : goal.loop-row-preserved
loop-row-preserved c = outcome-then c.loop-row.invariant (rw c.in_ok-certify_row.was at c.certify_row.ensures)

pub returns : goal.returns
returns c = outcome-done _ _ c.args.head.now.held.size c.loop-row.invariant (omega arith) ∙ rw c.offset.ensures
