-- What is said of a front of the part serves a must-fail edit, which replays half of it: it is refused for the other half alone.
use Rattle.std.proofs.Common.{rules, arith, refl, ◌<◌, ◌≡◌, ℕ, get_or, length-take, get_or-take}
use Rattle.limits.specs.Limits.{max_events}
use Rattle.replays.specs.ReplayLaws.{replaying_start, replaying_fits, replaying_next, replaying_end}
use Rattle.replays.proofs.Table.replay.Goals as goal

pub loop-event-init : goal.loop-event-init
loop-event-init c = (search rules, refl, replaying_start c.requires (λ j b. refl))

pub step-requires : goal.step-requires
step-requires c =
    let now = c.loop-event.invariant.2 in
    let event : c.from-event.result < max_events =
    omega (arith, length-take {A = ℕ}, get_or-take {A = ℕ}, c.requires.events c.loop-event.event-index) in
    replaying_fits c.requires now _ _ (omega (arith, now.event)) (omega arith)

pub loop-event-preserved : goal.loop-event-preserved
loop-event-preserved c =
    let is : c.from-event.result ≡ get_or c.args.part.now c.loop-event.event-index 0 =
    omega (arith, length-take {A = ℕ}, get_or-take {A = ℕ}) in (
      search rules,
      search rules,
      rw is (replaying_next c.requires c.loop-event.invariant.2 (omega (arith, length-take {A = ℕ}))
          (rw is at c.step.ensures.stepped) (rw is at c.step.ensures.noted)),
    )

pub step-requires-2 : goal.step-requires-2
step-requires-2 c = let now = c.loop-event.invariant.2 in replaying_fits c.requires now _ _ (omega (arith, now.event)) (omega arith)

pub returns-clause-advanced : goal.returns-clause-advanced
returns-clause-advanced c = replaying_end c.requires c.loop-event.invariant.2 (omega (arith, length-take {A = ℕ})) _ c.step-2.ensures.stepped
