use Rattle.std.proofs.Common.{rules, arith, sym, ap, ◌∙◌}
use Rattle.stops.specs.Positions.{stop_in, stop_in-early, stop_in-late}
use Rattle.stops.specs.Replay.{going_start, going_least, going_passed, going_refused, going-on, going_end}
use Rattle.stops.specs.Searching.{first_stops, second-stops}
use Rattle.stops.proofs.stop_of_two.Goals as goal

pub loop-position-init : goal.loop-position-init
loop-position-init c = (rw c.from-first.ensures (going_start _ _ (omega arith) c.requires.size), rw c.from-second.ensures (going_start _ _ (omega arith) c.requires.size))

pub returns-in-Err : goal.returns-in-Err
returns-in-Err c =
    let inv = c.loop-position.invariant in
    let found = going_refused inv.0 c.loop-position-test.true (sym c.in-Err.is ∙ c.step.ensures) in
    sym (ap (stop_in c.args.word.now) (sym (first_stops _ _ found (going_least inv.1))) ∙ stop_in-early _ _ (omega arith))

pub returns-in-Err-step : goal.returns-in-Err-step
returns-in-Err-step c =
    let inv = c.loop-position.invariant in
    let found = going_refused inv.1 c.loop-position-test.true (sym c.in-Err-step.is ∙ c.step-in-loop-position.ensures) in
    sym (ap (stop_in c.args.word.now) (sym (second-stops _ _ found (going_passed inv.0 c.loop-position-test.true (sym c.in-Ok.is ∙ c.step.ensures)))) ∙ stop_in-early _ _ (omega arith))

pub loop-position-preserved : goal.loop-position-preserved
loop-position-preserved c =
    let inv = c.loop-position.invariant in (
      going-on inv.0 c.loop-position-test.true (sym c.in-Ok.is ∙ c.step.ensures) (search rules),
      going-on inv.1 c.loop-position-test.true (sym c.in-Ok-step.is ∙ c.step-in-loop-position.ensures) (search rules),
    )

pub returns : goal.returns
returns c =
    let inv = c.loop-position.invariant in
    sym (ap (stop_in c.args.word.now) (sym (first_stops _ _ (going_end inv.0 c.loop-position-test.false) (going_least inv.1))) ∙ stop_in-late _ _ (omega arith))
