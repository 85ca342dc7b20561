-- `stops::Search::search_from` meets its contract. The loop's invariant: `best` is that of the places in front of those that are left.
use Rattle.std.proofs.Common.{◌≡◌, None, ℕ, ◌-◌, ◌≤◌, ◌<◌}
use Rattle.stops.specs.Onward.{Late, Onward, PermitsAll}
use Rattle.stops.proofs.Search.search_from.Given as goal

abbrev pub invariant-loop-j : goal.invariant-loop-j
invariant-loop-j g l =
    let j = l.j-iterator.start in
    (l.fn.places.start ≤ j) × (j ≤ l.fn.places.end) × (l.j-iterator.end ≡ l.fn.places.end)
    × Late l.self l.done l.best
    × Onward l.self l.fn.places.start (j - l.fn.places.start) l.fn.from l.best
    × (l.best ≡ None → (k : ℕ) → l.fn.places.start ≤ k → k < j → PermitsAll l.self k)
