-- `engine::test_room` meets its contract.
use Rattle.std.specs.Prelude.{Err}
use Rattle.std.proofs.Common.{ap, ◌∙◌, le-leb, arith}
use Rattle.std.proofs.lemmas.Bool.{lt-leb}
use Rattle.refusals.specs.Tests.{test-passes, test-fails}
use Rattle.engine.proofs.test_room.Goals as goal

pub returns-then-tokens-net : goal.returns-then-tokens-net
returns-then-tokens-net c = ap Err c.at.ensures ∙ test-fails _ _ (lt-leb _ _ (omega arith))

pub returns : goal.returns
returns c = test-passes _ _ (le-leb _ _ (omega arith))
