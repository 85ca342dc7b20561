-- `certificates::Progress::certify_step` meets its contract: the bit decides whether the step has a certificate.
use Rattle.std.proofs.Common.{◌≡◌, ◌∙◌, ◌<◌, sym, arith, length}
use Rattle.std.proofs.lemmas.Result.{err_from_is_err_and}
use Rattle.bundles.specs.Layout.{allowed_in, rows_in}
use Rattle.bundles.specs.Readers.{head_of}
use Rattle.bundles.specs.Chains.{read_got, read-refused}
use Rattle.certificates.specs.Certifying.{step_of}
use Rattle.certificates.specs.CheckLaws.{mask-held, certificate-solved}
use Rattle.certificates.specs.CertificateReading.{outcome-allowed, outcome-place, outcome-weights, outcome-unsolved}
use Rattle.certificates.proofs.Progress.certify_step.Goals as goal
use Rattle.certificates.proofs.Progress.certify_step.Goals.{After-has_bit}

-- the test of the bit
tested : (c : After-has_bit)
    → let b = c.args.head.now.net.bundle.now in allowed_in (head_of b) (step_of (head_of b) c.args.row c.args.event) ≡ c.has_bit.result
tested c = sym (c.has_bit.ensures ∙ rw (c.mask_of.ensures, c.from.ensures)
    (mask-held c.args.head.now.held c.args.row c.requires.step_there.0 c.args.event c.requires.step_there.1))

-- the step is one of the log's
inside : (c : After-has_bit) → c.args.row < length (rows_in (head_of c.args.head.now.net.bundle.now))
inside c = omega (arith, c.requires.step_there.0, c.args.head.now.held.size)

below : (c : After-has_bit) → c.args.event < (head_of c.args.head.now.net.bundle.now).events
below c = omega (arith, c.requires.step_there.1, c.args.head.now.held.found.events)

pub returns-then-has_bit : goal.returns-then-has_bit
returns-then-has_bit c =
    let here = (goal.at.returns-then-has_bit c).After-has_bit in
    outcome-allowed c.requires.few (inside here) (below here) (tested here ∙ c.if-has_bit.true)

pub returns-in_err-check_certificate : goal.returns-in_err-check_certificate
returns-in_err-check_certificate c =
    let q = err_from_is_err_and c.from_residual.result c.from_residual.ensures.1 in
    let here = (goal.at.returns-in_err-check_certificate c).After-has_bit in
    let read = rw c.requires.reader_bytes at (read-refused c.in_err-check_certificate.ensures) in
    rw (q.1, q.2)
    (outcome-unsolved c.requires.few (inside here) (below here) (tested here ∙ c.if-has_bit.false)
    (λ before size. certificate-solved _ before _ size _ ∙ read))

pub returns-in-Place : goal.returns-in-Place
returns-in-Place c =
    let here = (goal.at.returns-in-Place c).After-has_bit in
    let got = rw c.in-Place.is at c.in_ok-check_certificate.ensures in
    let read = rw c.requires.reader_bytes at (read_got got) in
    outcome-place c.requires.few (inside here) (below here) (tested here ∙ c.if-has_bit.false) got.bytes
    (λ before size. certificate-solved _ before _ size _ ∙ read)

pub returns-in-Weights : goal.returns-in-Weights
returns-in-Weights c =
    let here = (goal.at.returns-in-Weights c).After-has_bit in
    let got = rw c.in-Weights.is at c.in_ok-check_certificate.ensures in
    let read = rw c.requires.reader_bytes at (read_got got) in
    outcome-weights c.requires.few (inside here) (below here) (tested here ∙ c.if-has_bit.false) got.bytes
    (λ before size. certificate-solved _ before _ size _ ∙ read)
