-- `search::reach_into` meets its contract: its tests are those of `reaching`, in the same order.
use Rattle.std.proofs.Common.{◌≡◌, sym, ap, ◌∙◌, arith, ◌≤◌, ◌<◌}
use Rattle.std.proofs.lemmas.Result.{err_from_is_err_and}
use Rattle.std.specs.Prelude.{Option}
use Rattle.refusals.specs.Table.{word_event_number}
use Rattle.refusals.specs.Results.{Result, value, refused}
use Rattle.nets.specs.Nets.{Word}
use Rattle.bundles.specs.HeadReading.{kept-refused}
use Rattle.bundles.specs.NetReading.{NetOf, net-of}
use Rattle.engine.specs.Playing.{places_of}
use Rattle.search.specs.Searching.{first_leading, reaching, sized, word_written}
use Rattle.search.specs.SearchLaws.{reach_unread, reach_no_event, reach_searched}
use Rattle.search.proofs.reach_into.Goals as goal
use Rattle.search.proofs.reach_into.Goals.{In_ok-net}

net : (c : In_ok-net) → NetOf c.args.bundle.now c.in_ok-net.net
net c = net-of c.args.bundle c.in_ok-net.net c.in_ok-net.ensures

pub returns-in_err-net-clause-value : goal.returns-in_err-net-clause-value
unfolding sized
returns-in_err-net-clause-value c =
    let q = err_from_is_err_and c.from_residual.result c.from_residual.ensures.1 in
    let unread = reach_unread c.args.bundle.now c.args.wanted _ (kept-refused _ _ (sym c.in_err-net.ensures)) in
    rw (q.1, q.2) (ap sized (sym unread))

pub returns-in_err-net-clause-word_after : goal.returns-in_err-net-clause-word_after
unfolding word_written
returns-in_err-net-clause-word_after c =
    let unread = reach_unread c.args.bundle.now c.args.wanted _ (kept-refused _ _ (sym c.in_err-net.ensures)) in
    ap (λ (m : Result (Option Word)). word_written m c.args.word.now) (sym unread)

-- behind the head: an event that is not there, and the search
no_event : (c : In_ok-net) → c.in_ok-net.net.n ≤ c.args.wanted → reaching c.args.bundle.now c.args.wanted ≡ refused word_event_number 0
no_event c h = reach_no_event c.args.bundle.now c.args.wanted c.in_ok-net.net (net c) h

searched : (c : In_ok-net) → c.args.wanted < c.in_ok-net.net.n
    → reaching c.args.bundle.now c.args.wanted ≡ value (first_leading c.in_ok-net.net.n (places_of c.in_ok-net.net) c.args.wanted)
searched c h = reach_searched c.args.bundle.now c.args.wanted c.in_ok-net.net (net c) h

pub returns-then-from-wanted-clause-value : goal.returns-then-from-wanted-clause-value
unfolding sized
returns-then-from-wanted-clause-value c =
    let at = (goal.at.returns-then-from-wanted-clause-value c).In_ok-net in
    rw c.at.ensures (ap sized (sym (no_event at (omega (arith, c.if-from-wanted.true, c.from.ensures)))))

pub returns-then-from-wanted-clause-word_after : goal.returns-then-from-wanted-clause-word_after
unfolding word_written
returns-then-from-wanted-clause-word_after c =
    let at = (goal.at.returns-then-from-wanted-clause-word_after c).In_ok-net in
    let bad = no_event at (omega (arith, c.if-from-wanted.true, c.from.ensures)) in
    ap (λ (m : Result (Option Word)). word_written m c.args.word.now) (sym bad)

pub returns-clause-value : goal.returns-clause-value
unfolding sized
returns-clause-value c =
    let at = (goal.at.returns-clause-value c).In_ok-net in
    rw c.search.ensures.value (ap sized (sym (searched at (omega (arith, c.if-from-wanted.false, c.from.ensures)))))

pub returns-clause-word_after : goal.returns-clause-word_after
unfolding word_written
returns-clause-word_after c =
    let at = (goal.at.returns-clause-word_after c).In_ok-net in
    let found = searched at (omega (arith, c.if-from-wanted.false, c.from.ensures)) in
    c.search.ensures.word_after ∙ ap (λ (m : Result (Option Word)). word_written m c.args.word.now) (sym found)
