use Rattle.std.proofs.Common.{rules, arith}
use Rattle.std.proofs.lemmas.Int.{ints}
use Rattle.std.proofs.Math.ListN.{get_or-eq_default}
use borrow.Author.Rules.{Below-row}
use Rattle.replays.specs.StoringLaws.{changing_next, changed}
use Rattle.replays.proofs.Changes.write.Goals as goal

pub loop-to-preserved : goal.loop-to-preserved
loop-to-preserved c = changing_next (omega arith) (search (rules, Below-row)) (omega (arith, ints)) c.loop-to.invariant

pub returns : goal.returns
returns c = changed (omega arith) (omega arith) (search (rules, Below-row)) (omega (arith, ints)) (get_or-eq_default c.args.consumed.now 0 (omega arith)) c.loop-to.invariant
