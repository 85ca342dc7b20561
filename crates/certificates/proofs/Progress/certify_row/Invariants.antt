-- `certificates::Progress::certify_row` meets its contract. The invariant: the steps of the row below the event are passed.
use Rattle.std.proofs.Common.{Ok}
use Rattle.certificates.specs.CertificateReading.{Outcome}
use Rattle.certificates.proofs.Progress.certify_row.Given as goal

abbrev pub invariant-loop-event : goal.invariant-loop-event
invariant-loop-event l = Outcome l.head.net.bundle.now l.row 0 l.row l.event l.initial.self l.self (Ok tt)
