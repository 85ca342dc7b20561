-- `screening::test_length` meets its contract.
use Rattle.std.specs.Prelude.{Err}
use Rattle.std.proofs.Common.{ap, ◌∙◌, le-leb}
use Rattle.std.proofs.lemmas.Bool.{lt-leb}
use Rattle.refusals.specs.Tests.{test-passes, test-fails}
use Rattle.screening.proofs.test_length.Goals as goal

pub returns-then-word-gt-MAX_WORD_EVENTS : goal.returns-then-word-gt-MAX_WORD_EVENTS
returns-then-word-gt-MAX_WORD_EVENTS c = ap Err c.at.ensures ∙ test-fails _ _ (lt-leb _ _ c.if-word-gt-MAX_WORD_EVENTS.true)

pub returns : goal.returns
returns c = test-passes _ _ (le-leb _ _ c.if-word-gt-MAX_WORD_EVENTS.false)
