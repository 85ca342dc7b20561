-- `engine::replaying::replay` meets its contract: 15, 23, or the marking behind the events.
use Rattle.std.proofs.Common.{◌≡◌, refl, sym, ap, ◌∙◌, subst, arith, ℕ, ◌≤◌, List, length, take}
use Rattle.std.proofs.lemmas.Result.{err_from_is_err_and}
use Rattle.laws.specs.Parts.{front}
use Rattle.nets.specs.Nets.{counts, screen, permitted}
use Rattle.nets.specs.Events.{first_bad, none_bad, each_below}
use Rattle.stops.specs.Positions.{Finds, stop_or_end, best-stopped, best-permitted}
use Rattle.stops.specs.Searching.{net-is}
use Rattle.screening.specs.ScreenLaws.{events-failed, events-passed, search_in, search-first}
use Rattle.engine.specs.Playing.{places_of}
use Rattle.engine.specs.Replaying.{tokens_by, NoneNegative, marking_of-bad, marking_of-stopped, marking_of-permitted, none-negative}
use Rattle.engine.specs.EngineLaws.{call-refused, call-ends}
use Rattle.engine.proofs.replaying.replay.Goals as goal
use Rattle.engine.proofs.replaying.replay.Goals.{In_ok-test_events, After-search_places, In_default, After-count_events-counts}

-- every event is there
below : (c : In_ok-test_events) → length c.args.word.now ≤ first_bad c.args.net.now.n c.args.word.now
below c = events-passed _ _ c.in_ok-test_events.ensures

pub returns-in_err-test_events : goal.returns-in_err-test_events
returns-in_err-test_events c =
    let q = err_from_is_err_and c.from_residual.result c.from_residual.ensures.1 in
    let (bad, is) = events-failed c.args.word.now c.args.net.now.n c.in_err-test_events.ensures in
    let ends = call-refused c.args.tokens.now tt _ (marking_of-bad c.args.net.now c.args.word.now bad) in
    record { value = rw (q.1, q.2, is) ends.0; tokens_after = ends.1 }

pub invariant_of-search : goal.invariant_of-search
invariant_of-search c =
    let at = (goal.at.invariant_of-search c).In_ok-test_events in
    let s = search_in c.requires.found c.args.word c.requires.few (below at) 0 (omega arith) in
    record { found = s.found; over = s.over; few = s.few }

pub search_places-requires : goal.search_places-requires
unfolding stop_or_end
search_places-requires c = (omega arith, omega arith)

-- what the search has found
found : (c : After-search_places) → Finds c.args.net.now.n (places_of c.args.net.now) c.args.word.now c.search_places.result
found c =
    let at = (goal.at.After-search_places c).In_ok-test_events in
    let is = c.requires.found in
    let s = search_in is c.args.word c.requires.few (below at) 0 (omega arith) in
    let finds = search-first s is refl refl c.search_places.ensures in
    rw is.events at (rw (net-is is.found) at finds)

pub returns-in-Some : goal.returns-in-Some
unfolding stop_or_end
returns-in-Some c =
    let at = goal.at.returns-in-Some c in
    let finds = rw c.in-Some.is at (found at.After-search_places) in
    let stops = best-stopped c.args.net.now.n finds.best (finds.inside c.in-Some.stop refl) in
    let ends = call-refused c.args.tokens.now tt _ (marking_of-stopped c.args.net.now c.args.word.now (below at.In_ok-test_events) _ _ _ stops) in
    record { value = rw c.at.ensures ends.0; tokens_after = ends.1 }

-- no place refuses an event
permits : (c : In_default) → screen c.args.net.now.n (places_of c.args.net.now) c.args.word.now ≡ permitted
unfolding stop_or_end
permits c =
    let at = goal.at.In_default c in
    let finds = rw c.in_default.is at (found at.After-search_places) in
    best-permitted c.args.net.now.n finds.best (omega arith)

pub count_events-counts-requires-clause-below : goal.count_events-counts-requires-clause-below
count_events-counts-requires-clause-below c =
    let at = (goal.at.count_events-counts-requires-clause-below c).In_ok-test_events in
    each_below c.args.net.now.n c.args.word.now (none_bad c.args.net.now.n c.args.word.now (below at))

pub write_marking-requires-clause-none : goal.write_marking-requires-clause-none
write_marking-requires-clause-none c =
    let at = goal.at.write_marking-requires-clause-none c in
    let net = c.args.net.now in
    let none = none-negative net c.args.word.now (below at.In_ok-test_events) (permits at.In_default) in
    let counted : take c.from.result c.count_events-counts.result ≡ counts net.n c.args.word.now
    = ap (λ (k : ℕ). take k c.count_events-counts.result) c.from.ensures ∙ c.count_events-counts.ensures in
    subst (NoneNegative net) (sym counted) none

pub returns : goal.returns
returns c =
    let at = goal.at.returns c in
    let net = c.args.net.now in
    let ends = call-ends c.args.tokens.now tt _ (marking_of-permitted net c.args.word.now (below at.In_ok-test_events) (permits at.In_default)) in
    let counted : take c.from.result c.count_events-counts.result ≡ counts net.n c.args.word.now
    = ap (λ (k : ℕ). take k c.count_events-counts.result) c.from.ensures ∙ c.count_events-counts.ensures in
    record {
      value = ends.0;
      tokens_after = c.write_marking.ensures ∙ ap (λ (v : List ℕ). front (tokens_by net v) c.args.tokens.now) counted ∙ ends.1;
    }
