use Rattle.std.proofs.Common.{arith, ◌≡◌, Option, ℕ, ◌+◌, ◌*◌, sym, ap, ◌∙◌, take}
use Rattle.stops.specs.Positions.{stop_in}
use Rattle.stops.specs.Replay.{stop_of}
use Rattle.stops.specs.Searching.{place_is, first_of}
use Rattle.stops.specs.Onward.{end_of, onward-none, onward_then, pair-onward-stays, pair-onward-earlier, pair-late}
use Rattle.stops.specs.Onward.{place_of as place_in}
use Rattle.stops.specs.declared.Search.{Search}
use Rattle.stops.specs.declared.Stop.{Stop}
use Rattle.stops.proofs.Search.search_pairs.Goals as goal
use Rattle.stops.proofs.Search.search_pairs.Goals.{in-Some, in_default}
use Rattle.stops.proofs.Search.search_pairs.Goals.{After-stop_of_two}

pub loop-pair-init : goal.loop-pair-init
loop-pair-init c = (c.requires, onward-none c.args.self.now 0 c.args.from)

-- what two places find in the first steps of the word
abbrev found_in : Search → ℕ → ℕ → Option Stop
found_in s j end = let front = take end s.word.now in stop_in front (first_of (stop_of (place_in s j) front) (stop_of (place_in s (j + 1)) front))

-- what a turn finds, in the steps before the best stop so far; how many these are is reckoned, since a must-fail edit takes one more
found : (c : After-stop_of_two) → let s = c.args.self.now in c.stop_of_two.result ≡ found_in s (2 * c.loop-pair.pair) (end_of s c.loop-pair.best)
found c =
    let s = c.args.self.now in
    rw (place_is _ _ _ _ c.place-one.ensures, place_is _ _ _ _ c.place-two.ensures) at c.stop_of_two.ensures
    ∙ ap (found_in s (2 * c.loop-pair.pair)) (omega (arith, c.end.ensures, c.loop-pair.invariant.0.1))

pub overflow_add-best-in-Some : goal.overflow_add-best-in-Some
overflow_add-best-in-Some c =
    let late = pair-late c.args.self.now c.args.self.now.over.events (2 * c.loop-pair.pair) c.loop-pair.best c.loop-pair.invariant.0 (sym c.in-Some.is ∙ found (goal.at.overflow_add-best-in-Some c).After-stop_of_two) in
    omega (arith, late.0, c.args.self.now.few, c.args.self.now.net.few)

pub loop-pair-preserved : goal.loop-pair-preserved
loop-pair-preserved c =
    let s = c.args.self.now in
    let below = c.args.self.now.over.events in
    let best = c.loop-pair.best in
    let j = 2 * c.loop-pair.pair in
    let late = c.loop-pair.invariant.0 in
    let here = found (goal.at.loop-pair-preserved c).After-stop_of_two in
    let two : j + 2 ≡ 2 * (c.loop-pair.pair + 1) = omega arith in
    elim c.match-stop_of_two.branch [
      | in-Some w ↦ rw w.best-is (
        (pair-late s below j best late (sym w.in-Some.is ∙ here)).1,
        onward_then s 0 j 2 _ _ _ (omega arith) two c.loop-pair.invariant.1 (pair-onward-earlier s below j best late (sym w.in-Some.is ∙ here)),
      )
      | in_default w ↦ rw w.best-is (late, onward_then s 0 j 2 _ _ _ (omega arith) two c.loop-pair.invariant.1 (pair-onward-stays s below j best late (sym w.in_default.is ∙ here)))
    ]
