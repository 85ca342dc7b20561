-- `engine::step` meets its contract: its tests are those of `stepping`, in the same order.
use Rattle.std.proofs.Common.{◌≡◌, sym, ◌∙◌, arith, ◌≤◌, ◌<◌, leb-true}
use Rattle.std.proofs.lemmas.Result.{err_from_is_err_and}
use Rattle.refusals.specs.Results.{value}
use Rattle.refusals.specs.Tests.{test-passed}
use Rattle.nets.specs.Carrying.{play}
use Rattle.bundles.specs.HeadReading.{kept-refused}
use Rattle.bundles.specs.NetReading.{NetOf, net-of}
use Rattle.engine.specs.Engine.{stepping}
use Rattle.engine.specs.Playing.{places_of}
use Rattle.engine.specs.EngineLaws.{number_large, step_unread, step_short, step_unreachable, ready, event_bad, kept_full, step_played}
use Rattle.engine.specs.EngineLaws.{step-refused, step-left, step-moved, step-stopped, kept-moved, kept-stopped}
use Rattle.engine.proofs.step.Goals as goal
use Rattle.engine.proofs.step.Goals.{In_ok-net, Else-from-event, Else-kept-number}

net : (c : In_ok-net) → NetOf c.args.bundle.now c.in_ok-net.net
net c = net-of c.args.bundle c.in_ok-net.net c.in_ok-net.ensures

pub returns-then-number-ge-MAX_WORD_EVENTS : goal.returns-then-number-ge-MAX_WORD_EVENTS
returns-then-number-ge-MAX_WORD_EVENTS c =
    let a = c.args in
    let large = number_large a.bundle.now a.tokens.now a.kept.now a.number a.event c.if-number-ge-MAX_WORD_EVENTS.true in
    let ends = step-refused a.tokens.now a.number a.kept.now a.event _ large in
    record { value = rw c.at.ensures ends.0; tokens_after = ends.1; kept_after = ends.2 }

pub returns-in_err-net : goal.returns-in_err-net
returns-in_err-net c =
    let a = c.args in
    let q = err_from_is_err_and c.from_residual.result c.from_residual.ensures.1 in
    let head = kept-refused _ _ (sym c.in_err-net.ensures) in
    let unread = step_unread a.bundle.now a.tokens.now a.kept.now a.number a.event c.if-number-ge-MAX_WORD_EVENTS.false _ head in
    let ends = step-refused a.tokens.now a.number a.kept.now a.event c.in_err-net.field-0.0 unread in
    record { value = rw (q.1, q.2) ends.0; tokens_after = ends.1; kept_after = ends.2 }

pub returns-in_err-test_room : goal.returns-in_err-test_room
returns-in_err-test_room c =
    let a = c.args in
    let is = net (goal.at.returns-in_err-test_room c).In_ok-net in
    let q = err_from_is_err_and c.from_residual-in_err-test_room.result c.from_residual-in_err-test_room.ensures.1 in
    let short = step_short a.bundle.now a.tokens.now a.kept.now a.number a.event c.if-number-ge-MAX_WORD_EVENTS.false _ is c.in_err-test_room.ensures in
    let ends = step-refused a.tokens.now a.number a.kept.now a.event c.in_err-test_room.field-0.0 short in
    record { value = rw (q.1, q.2) ends.0; tokens_after = ends.1; kept_after = ends.2 }

pub test_tokens-requires : goal.test_tokens-requires
test_tokens-requires c = leb-true _ _ (test-passed _ _ _ c.in_ok-test_room.ensures)

pub returns-in_err-test_tokens : goal.returns-in_err-test_tokens
returns-in_err-test_tokens c =
    let a = c.args in
    let is = net (goal.at.returns-in_err-test_tokens c).In_ok-net in
    let q = err_from_is_err_and c.from_residual-in_err-test_tokens.result c.from_residual-in_err-test_tokens.ensures.1 in
    let few = c.if-number-ge-MAX_WORD_EVENTS.false in
    let over = step_unreachable a.bundle.now a.tokens.now a.kept.now a.number a.event few _ is c.in_ok-test_room.ensures c.in_err-test_tokens.ensures in
    let ends = step-refused a.tokens.now a.number a.kept.now a.event c.in_err-test_tokens.field-0.0 over in
    record { value = rw (q.1, q.2) ends.0; tokens_after = ends.1; kept_after = ends.2 }

pub returns-then-from-event : goal.returns-then-from-event
returns-then-from-event c =
    let a = c.args in
    let is = net (goal.at.returns-then-from-event c).In_ok-net in
    let few = c.if-number-ge-MAX_WORD_EVENTS.false in
    let from_n : c.in_ok-net.net.n ≤ a.event = omega (arith, c.if-from-event.true, c.from.ensures) in
    let bad = event_bad a.bundle.now a.tokens.now a.kept.now a.number a.event few _ is c.in_ok-test_room.ensures c.in_ok-test_tokens.ensures from_n in
    let ends = step-refused a.tokens.now a.number a.kept.now a.event _ bad in
    record { value = rw c.at-then-from-event.ensures ends.0; tokens_after = ends.1; kept_after = ends.2 }

-- the event is there
below : (c : Else-from-event) → c.args.event < c.in_ok-net.net.n
below c = omega (arith, c.if-from-event.false, c.from.ensures)

pub returns-then-kept-number : goal.returns-then-kept-number
returns-then-kept-number c =
    let a = c.args in
    let at = goal.at.returns-then-kept-number c in
    let few = c.if-number-ge-MAX_WORD_EVENTS.false in
    let full =
    kept_full a.bundle.now a.tokens.now a.kept.now a.number a.event few _ (net at.In_ok-net) c.in_ok-test_room.ensures c.in_ok-test_tokens.ensures
    (below at.Else-from-event) c.if-kept-number.true in
    let ends = step-refused a.tokens.now a.number a.kept.now a.event _ full in
    record { value = rw c.at-then-kept-number.ensures ends.0; tokens_after = ends.1; kept_after = ends.2 }

pub play-requires : goal.play-requires
play-requires c =
    let a = c.args in
    let at = goal.at.play-requires c in
    let few = c.if-number-ge-MAX_WORD_EVENTS.false in
    ready a.bundle.now a.tokens.now a.kept.now a.number a.event few _ (net at.In_ok-net) c.in_ok-test_room.ensures c.in_ok-test_tokens.ensures
    (below at.Else-from-event)

played : (c : Else-kept-number) → stepping c.args.bundle.now c.args.tokens.now c.args.kept.now c.args.number c.args.event
    ≡ value (play (places_of c.in_ok-net.net) c.args.tokens.now c.args.event)
played c =
    let a = c.args in
    let at = goal.at.Else-kept-number c in
    let few = c.if-number-ge-MAX_WORD_EVENTS.false in
    step_played a.bundle.now a.tokens.now a.kept.now a.number a.event few _ (net at.In_ok-net) c.in_ok-test_room.ensures c.in_ok-test_tokens.ensures
    (below at.Else-from-event) c.if-kept-number.false

pub returns : goal.returns
returns c =
    let a = c.args in
    let is = played (goal.at.returns c).Else-kept-number in
    let none = sym c.in_default.is ∙ c.play.ensures.value in
    record {
      value = step-moved a.tokens.now a.number _ is none;
      tokens_after = c.play.ensures.tokens_after ∙ step-left a.tokens.now a.number _ is;
      kept_after = kept-moved a.tokens.now a.number _ is a.kept.now a.event none;
    }

pub returns-in-Some : goal.returns-in-Some
returns-in-Some c =
    let a = c.args in
    let is = played (goal.at.returns-in-Some c).Else-kept-number in
    let some = sym c.in-Some.is ∙ c.play.ensures.value in
    record {
      value = step-stopped a.tokens.now a.number _ is c.in-Some.lack some;
      tokens_after = c.play.ensures.tokens_after ∙ step-left a.tokens.now a.number _ is;
      kept_after = kept-stopped a.tokens.now a.number _ is a.kept.now a.event c.in-Some.lack some;
    }
