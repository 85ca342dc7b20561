-- `engine::start` meets its contract: its tests are those of `starting`, in the same order.
use Rattle.std.proofs.Common.{sym, ◌∙◌, leb-true}
use Rattle.std.proofs.lemmas.Result.{err_from_is_err_and}
use Rattle.bundles.specs.HeadReading.{kept-refused}
use Rattle.bundles.specs.NetReading.{NetOf, net-of}
use Rattle.refusals.specs.Tests.{test-passed}
use Rattle.engine.specs.EngineLaws.{start_unread, start_short, start_room, call-refused, call-ends}
use Rattle.engine.proofs.start.Goals as goal
use Rattle.engine.proofs.start.Goals.{In_ok-net}

net : (c : In_ok-net) → NetOf c.args.bundle.now c.in_ok-net.net
net c = net-of c.args.bundle c.in_ok-net.net c.in_ok-net.ensures

pub returns-in_err-net : goal.returns-in_err-net
returns-in_err-net c =
    let q = err_from_is_err_and c.from_residual.result c.from_residual.ensures.1 in
    let unread = start_unread c.args.bundle.now c.args.tokens.now _ (kept-refused _ _ (sym c.in_err-net.ensures)) in
    let ends = call-refused c.args.tokens.now 0 c.in_err-net.field-0.0 unread in
    record { value = rw (q.1, q.2) ends.0; tokens_after = ends.1 }

pub returns-in_err-test_room : goal.returns-in_err-test_room
returns-in_err-test_room c =
    let at = goal.at.returns-in_err-test_room c in
    let q = err_from_is_err_and c.from_residual-in_err-test_room.result c.from_residual-in_err-test_room.ensures.1 in
    let short = start_short c.args.bundle.now c.args.tokens.now _ (net at.In_ok-net) c.in_err-test_room.ensures in
    let ends = call-refused c.args.tokens.now 0 c.in_err-test_room.field-0.0 short in
    record { value = rw (q.1, q.2) ends.0; tokens_after = ends.1 }

pub write_initial-requires : goal.write_initial-requires
write_initial-requires c = leb-true _ _ (test-passed _ _ _ c.in_ok-test_room.ensures)

pub returns : goal.returns
returns c =
    let at = goal.at.returns c in
    let ends = call-ends c.args.tokens.now 0 _ (start_room c.args.bundle.now c.args.tokens.now _ (net at.In_ok-net) c.in_ok-test_room.ensures) in
    record { value = ends.0; tokens_after = c.write_initial.ensures.written ∙ ends.1 }
