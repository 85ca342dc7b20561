-- `screening::test_events` meets its contract.
use Rattle.std.specs.Prelude.{Err}
use Rattle.std.proofs.Common.{ap, sym, ◌∙◌}
use Rattle.places.specs.Words.{bad_event-none, bad_event-some}
use Rattle.refusals.specs.Tests.{test-passes, test-fails}
use Rattle.screening.proofs.test_events.Goals as goal

pub returns-in-Some : goal.returns-in-Some
returns-in-Some c =
    let bad = bad_event-some _ _ (rw c.from.ensures at (sym c.in-Some.is ∙ c.first_bad.ensures)) in
    ap Err (rw bad.0 at c.at.ensures) ∙ test-fails _ _ bad.2

pub returns-in-None : goal.returns-in-None
returns-in-None c = test-passes _ _ (bad_event-none _ _ (rw c.from.ensures at (sym c.in-None.is ∙ c.first_bad.ensures))).0
