-- `screening::screen_joined` meets its contract: its tests are those of `screened_joined`, in the same order.
use Rattle.std.specs.Prelude.{Err}
use Rattle.std.proofs.Common.{refl, ap, sym, ◌∙◌, arith}
use Rattle.std.proofs.lemmas.Result.{err_from_is_err_and}
use Rattle.bundles.specs.Readers.{events_in, net_in}
use Rattle.bundles.specs.HeadReading.{HeadAt, kept-refused, net-size}
use Rattle.bundles.specs.Keeping.{kept}
use Rattle.stops.specs.Positions.{Finds, stop_or_end}
use Rattle.stops.specs.Searching.{WordOver}
use Rattle.stops.specs.declared.Search.{Search}
use Rattle.bundles.specs.NetReading.{net-of}
use Rattle.screening.specs.ScreenLaws.{length-failed, length-passed, events-failed, events-passed, joined-long, first_wrong, second_wrong, counts-differ, joined_wrong, joined-right, found_means, search_in, search-first, search-on}
use Rattle.screening.proofs.screen_joined.Goals as goal
use Rattle.screening.proofs.screen_joined.Goals.{In_ok-test_events, After-search_places-from}

pub returns-in_err-test_length : goal.returns-in_err-test_length
returns-in_err-test_length c =
    let q = err_from_is_err_and c.from_residual.result c.from_residual.ensures.1 in
    let fails = length-failed _ c.in_err-test_length.ensures in
    rw (q.1, q.2) (ap Err fails.1 ∙ sym (joined-long _ _ _ fails.0))

pub returns-in_err-one : goal.returns-in_err-one
returns-in_err-one c =
    let q = err_from_is_err_and c.from_residual-in_err-one.result c.from_residual-in_err-one.ensures.1 in
    rw (q.1, q.2) (sym (first_wrong _ _ _ (length-passed _ c.in_ok-test_length.ensures) _ (kept-refused _ _ (sym c.in_err-one.ensures))))

pub returns-in_err-two : goal.returns-in_err-two
returns-in_err-two c =
    let q = err_from_is_err_and c.from_residual-in_err-two.result c.from_residual-in_err-two.ensures.1 in
    let one = net-of c.args.first c.in_ok-one.one c.in_ok-one.ensures in
    rw (q.1, q.2) (sym (second_wrong _ _ _ (length-passed _ c.in_ok-test_length.ensures) one.read _ (kept-refused _ _ (sym c.in_err-two.ensures))))

pub returns-then-one-two : goal.returns-then-one-two
returns-then-one-two c =
    let one = net-of c.args.first c.in_ok-one.one c.in_ok-one.ensures in
    let two = net-of c.args.second c.in_ok-two.two c.in_ok-two.ensures in
    ap Err c.at.ensures ∙ sym (counts-differ _ _ _ (length-passed _ c.in_ok-test_length.ensures) one.read two.read (λ e. c.if-one-two.true (sym one.events ∙ e ∙ two.events)))

pub returns-in_err-test_events : goal.returns-in_err-test_events
returns-in_err-test_events c =
    let q = err_from_is_err_and c.from_residual-in_err-test_events.result c.from_residual-in_err-test_events.ensures.1 in
    let one = net-of c.args.first c.in_ok-one.one c.in_ok-one.ensures in
    let two = net-of c.args.second c.in_ok-two.two c.in_ok-two.ensures in
    let fails = events-failed _ _ c.in_err-test_events.ensures in
    rw (q.1, q.2) (ap Err fails.1 ∙ sym (joined_wrong _ _ _ (length-passed _ c.in_ok-test_length.ensures) one.read two.read one.events (two.events ∙ sym c.if-one-two.false) fails.0))

-- the search in the places of the first bundle, then on in those of the second
abbrev places : (c : In_ok-test_events) → Search
places c =
    let one = net-of c.args.first c.in_ok-one.one c.in_ok-one.ensures in
    search_in one c.args.word (length-passed _ c.in_ok-test_length.ensures) (events-passed _ _ c.in_ok-test_events.ensures) 0 (omega arith)

abbrev more : (c : In_ok-test_events) → Search
more c =
    let one = net-of c.args.first c.in_ok-one.one c.in_ok-one.ensures in
    let two = net-of c.args.second c.in_ok-two.two c.in_ok-two.ensures in
    let below = rw c.if-one-two.false at (events-passed _ _ c.in_ok-test_events.ensures) in
    search_in two c.args.word (length-passed _ c.in_ok-test_length.ensures) below c.in_ok-one.one.count one.found.few

pub invariant_of-places : goal.invariant_of-places
invariant_of-places c = let s = places (goal.at.invariant_of-places c).In_ok-test_events in record { found = s.found; over = s.over; few = s.few }

pub invariant_of-more : goal.invariant_of-more
invariant_of-more c =
    let one = places (goal.at.invariant_of-more c).In_ok-test_events in
    let two = more (goal.at.invariant_of-more c).In_ok-test_events in
    -- what is known of the first net serves only a search in its places
    let found : HeadAt (kept one.net) = one.found in
    let over : WordOver one.net.n c.args.word.now = one.over in
    let found-two : HeadAt (kept two.net) = two.found in
    let over-two : WordOver two.net.n c.args.word.now = two.over in
    record { found = search (found, found-two); over = search (over, over-two); few = omega (arith, two.few) }

pub search_places-from-requires : goal.search_places-from-requires
unfolding stop_or_end
search_places-from-requires c = (omega arith, omega arith)

-- what is found with the places of the first bundle, then with all
from : (c : After-search_places-from) → Finds (events_in c.args.first.now) (net_in c.args.first.now) c.args.word.now c.search_places-from.result
from c =
    let one = net-of c.args.first c.in_ok-one.one c.in_ok-one.ensures in
    search-first (places (goal.at.After-search_places-from c).In_ok-test_events) one refl refl c.search_places-from.ensures

pub search_places-requires : goal.search_places-requires
unfolding stop_or_end
search_places-requires c = (omega arith, omega (arith, (from (goal.at.search_places-requires c).After-search_places-from).best.within))

pub returns : goal.returns
returns c =
    let one = net-of c.args.first c.in_ok-one.one c.in_ok-one.ensures in
    let two = net-of c.args.second c.in_ok-two.two c.in_ok-two.ensures in
    let same = two.events ∙ sym c.if-one-two.false in
    let next = more (goal.at.returns c).In_ok-test_events in
    let size = rw one.same at (net-size one.found) in
    found_means _ _ _ _ (search-on next _ _ two refl size (one.events ∙ sym same) (from (goal.at.returns c).After-search_places-from) c.search_places.ensures)
    ∙ sym (joined-right _ _ _ (length-passed _ c.in_ok-test_length.ensures) one.read two.read one.events same (events-passed _ _ c.in_ok-test_events.ensures))
