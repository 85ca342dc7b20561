-- `screening::screen` meets its contract: its tests are those of `screened`, in the same order.
use Rattle.std.specs.Prelude.{Err}
use Rattle.std.proofs.Common.{refl, ap, sym, ◌∙◌, arith}
use Rattle.std.proofs.lemmas.Result.{err_from_is_err_and}
use Rattle.bundles.specs.HeadReading.{kept-refused}
use Rattle.stops.specs.Positions.{stop_or_end}
use Rattle.bundles.specs.NetReading.{net-of}
use Rattle.screening.specs.ScreenLaws.{length-failed, length-passed, events-failed, events-passed, word-long, head_wrong, word_wrong, word-right, found_means, search_in, search-first}
use Rattle.screening.proofs.screen.Goals as goal

pub returns-in_err-test_length : goal.returns-in_err-test_length
returns-in_err-test_length c =
    let q = err_from_is_err_and c.from_residual.result c.from_residual.ensures.1 in
    let fails = length-failed _ c.in_err-test_length.ensures in
    rw (q.1, q.2) (ap Err fails.1 ∙ sym (word-long _ _ fails.0))

pub returns-in_err-net : goal.returns-in_err-net
returns-in_err-net c =
    let q = err_from_is_err_and c.from_residual-in_err-net.result c.from_residual-in_err-net.ensures.1 in
    rw (q.1, q.2) (sym (head_wrong _ _ (length-passed _ c.in_ok-test_length.ensures) _ (kept-refused _ _ (sym c.in_err-net.ensures))))

pub returns-in_err-test_events : goal.returns-in_err-test_events
returns-in_err-test_events c =
    let q = err_from_is_err_and c.from_residual-in_err-test_events.result c.from_residual-in_err-test_events.ensures.1 in
    let net = net-of c.args.bundle c.in_ok-net.net c.in_ok-net.ensures in
    let fails = events-failed _ _ c.in_err-test_events.ensures in
    rw (q.1, q.2) (ap Err fails.1 ∙ sym (word_wrong _ _ (length-passed _ c.in_ok-test_length.ensures) net.events net.read fails.0))

pub invariant_of-places : goal.invariant_of-places
invariant_of-places c =
    let net = net-of c.args.bundle c.in_ok-net.net c.in_ok-net.ensures in
    let s = search_in net c.args.word (length-passed _ c.in_ok-test_length.ensures) (events-passed _ _ c.in_ok-test_events.ensures) 0 (omega arith) in
    record { found = s.found; over = s.over; few = s.few }

pub search_places-requires : goal.search_places-requires
unfolding stop_or_end
search_places-requires c = (omega arith, omega arith)

pub returns : goal.returns
returns c =
    let net = net-of c.args.bundle c.in_ok-net.net c.in_ok-net.ensures in
    let short = length-passed _ c.in_ok-test_length.ensures in
    let s = search_in net c.args.word short (events-passed _ _ c.in_ok-test_events.ensures) 0 (omega arith) in
    found_means _ _ _ _ (search-first s net refl refl c.search_places.ensures)
    ∙ sym (word-right _ _ (length-passed _ c.in_ok-test_length.ensures) net.events net.read (events-passed _ _ c.in_ok-test_events.ensures))
