use Rattle.std.proofs.Common.{rules, arith, sym, ap, ◌∙◌, to_z, w64}
use Rattle.places.specs.Machine.{place_of}
use Rattle.stops.specs.Positions.{stop_in, stop_in-early, stop_in-late}
use Rattle.stops.specs.Replay.{replay, Going, start-bits, going_refused, going-on, going_end}
use Rattle.stops.proofs.stop_from.Goals as goal
use Rattle.stops.proofs.stop_from.Goals.{At-loop-position}

-- the replay from the tokens that were given
going : (c : At-loop-position) → Going (place_of c.args.place) c.args.word.now (replay (place_of c.args.place) c.args.start c.args.word.now) (to_z w64 c.loop-position.tokens-bits) c.loop-position.position
going c = rw (start-bits c.requires) at c.loop-position.invariant

pub returns-in-Err : goal.returns-in-Err
returns-in-Err c =
    let found = going_refused (going (goal.at.returns-in-Err c).At-loop-position) c.loop-position-test.true (sym c.in-Err.is ∙ c.step.ensures) in
    sym (ap (stop_in c.args.word.now) found ∙ stop_in-early _ _ (omega arith))

pub loop-position-preserved : goal.loop-position-preserved
loop-position-preserved c = going-on c.loop-position.invariant c.loop-position-test.true (sym c.in-Ok.is ∙ c.step.ensures) (search rules)

pub returns : goal.returns
returns c = sym (ap (stop_in c.args.word.now) (going_end (going (goal.at.returns c).At-loop-position) c.loop-position-test.false) ∙ stop_in-late _ _ (omega arith))
