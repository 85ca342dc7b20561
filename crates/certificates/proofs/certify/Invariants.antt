-- `certificates::certify` meets its contract. The invariant: the rows below `row` are passed.
use Rattle.std.proofs.Common.{Ok}
use Rattle.certificates.specs.CertificateReading.{Outcome}
use Rattle.certificates.proofs.certify.Given as goal

abbrev pub invariant-loop-row : goal.invariant-loop-row
invariant-loop-row l = Outcome l.head.net.bundle.now 0 0 l.row 0 l.initial.progress l.progress (Ok tt)
