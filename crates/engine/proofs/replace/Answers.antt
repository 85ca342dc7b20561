-- `engine::replace` meets its contract: its tests are those of `replacing`, in the same order.
use Rattle.std.proofs.Common.{sym, subst, ℕ, List, arith, leb-true, length-take-le}
use Rattle.std.proofs.lemmas.Result.{err_from_is_err_and}
use Rattle.refusals.specs.Tests.{test-passed}
use Rattle.bundles.specs.HeadReading.{kept-refused}
use Rattle.bundles.specs.NetReading.{NetOf, net-of}
use Rattle.engine.specs.EngineLaws.{replace_large, replace_unkept, old_unread, new_unread, other_events, replace_short, replace_room, call-refused}
use Rattle.engine.proofs.replace.Goals as goal
use Rattle.engine.proofs.replace.Goals.{In_ok-one, In_ok-two}

pub returns-then-number-gt-MAX_WORD_EVENTS : goal.returns-then-number-gt-MAX_WORD_EVENTS
returns-then-number-gt-MAX_WORD_EVENTS c =
    let a = c.args in
    let large = replace_large a.old.now a.new.now a.tokens.now a.kept.now a.number c.if-number-gt-MAX_WORD_EVENTS.true in
    let ends = call-refused a.tokens.now tt _ large in
    record { value = rw c.at.ensures ends.0; tokens_after = ends.1 }

pub returns-then-kept-number : goal.returns-then-kept-number
returns-then-kept-number c =
    let a = c.args in
    let short = replace_unkept a.old.now a.new.now a.tokens.now a.kept.now a.number c.if-number-gt-MAX_WORD_EVENTS.false c.if-kept-number.true in
    let ends = call-refused a.tokens.now tt _ short in
    record { value = rw c.at-then-kept-number.ensures ends.0; tokens_after = ends.1 }

pub returns-in_err-one : goal.returns-in_err-one
returns-in_err-one c =
    let a = c.args in
    let q = err_from_is_err_and c.from_residual.result c.from_residual.ensures.1 in
    let head = kept-refused _ _ (sym c.in_err-one.ensures) in
    let unread = old_unread a.old.now a.new.now a.tokens.now a.kept.now a.number c.if-number-gt-MAX_WORD_EVENTS.false c.if-kept-number.false _ head in
    let ends = call-refused a.tokens.now tt c.in_err-one.field-0.0 unread in
    record { value = rw (q.1, q.2) ends.0; tokens_after = ends.1 }

one : (c : In_ok-one) → NetOf c.args.old.now c.in_ok-one.one
one c = net-of c.args.old c.in_ok-one.one c.in_ok-one.ensures

two : (c : In_ok-two) → NetOf c.args.new.now c.in_ok-two.two
two c = net-of c.args.new c.in_ok-two.two c.in_ok-two.ensures

pub returns-in_err-two : goal.returns-in_err-two
returns-in_err-two c =
    let at = goal.at.returns-in_err-two c in
    let a = c.args in
    let q = err_from_is_err_and c.from_residual-in_err-two.result c.from_residual-in_err-two.ensures.1 in
    let head = kept-refused _ _ (sym c.in_err-two.ensures) in
    let unread = new_unread a.old.now a.new.now a.tokens.now a.kept.now a.number c.if-number-gt-MAX_WORD_EVENTS.false c.if-kept-number.false
    _ (one at.In_ok-one) _ head in
    let ends = call-refused a.tokens.now tt c.in_err-two.field-0.0 unread in
    record { value = rw (q.1, q.2) ends.0; tokens_after = ends.1 }

pub returns-then-one-two : goal.returns-then-one-two
returns-then-one-two c =
    let at = goal.at.returns-then-one-two c in
    let a = c.args in
    let other = other_events a.old.now a.new.now a.tokens.now a.kept.now a.number c.if-number-gt-MAX_WORD_EVENTS.false c.if-kept-number.false
    _ (one at.In_ok-one) _ (two at.In_ok-two) c.if-one-two.true in
    let ends = call-refused a.tokens.now tt _ other in
    record { value = rw c.at-then-one-two.ensures ends.0; tokens_after = ends.1 }

pub returns-in_err-test_room : goal.returns-in_err-test_room
returns-in_err-test_room c =
    let at = goal.at.returns-in_err-test_room c in
    let a = c.args in
    let q = err_from_is_err_and c.from_residual-in_err-test_room.result c.from_residual-in_err-test_room.ensures.1 in
    let short = replace_short a.old.now a.new.now a.tokens.now a.kept.now a.number c.if-number-gt-MAX_WORD_EVENTS.false c.if-kept-number.false
    _ (one at.In_ok-one) _ (two at.In_ok-two) c.if-one-two.false c.in_err-test_room.ensures in
    let ends = call-refused a.tokens.now tt c.in_err-test_room.field-0.0 short in
    record { value = rw (q.1, q.2) ends.0; tokens_after = ends.1 }

pub replay-requires : goal.replay-requires
replay-requires c =
    let at = goal.at.replay-requires c in
    let is = two at.In_ok-two in
    record {
      found = subst (λ (b : List ℕ). NetOf b c.in_ok-two.two) (sym is.same) is;
      room = leb-true _ _ (test-passed _ _ _ c.in_ok-test_room.ensures);
      few = omega (arith, c.if-number-gt-MAX_WORD_EVENTS.false, length-take-le c.args.number c.args.kept.now c.if-kept-number.false);
    }

pub returns : goal.returns
returns c =
    let at = goal.at.returns c in
    let a = c.args in
    let room = replace_room a.old.now a.new.now a.tokens.now a.kept.now a.number c.if-number-gt-MAX_WORD_EVENTS.false c.if-kept-number.false
    _ (one at.In_ok-one) _ (two at.In_ok-two) c.if-one-two.false c.in_ok-test_room.ensures in
    record { value = rw room c.replay.ensures.value; tokens_after = rw room c.replay.ensures.tokens_after }
