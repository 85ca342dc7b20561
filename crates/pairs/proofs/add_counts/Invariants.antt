-- `pairs::add_counts` meets its contract. The loop's invariant: the sums of the events below i are added, the others untouched.
use Rattle.std.proofs.Common.{◌≡◌, ℕ, ◌≤◌, ◌<◌, pos, ◌+ℤ◌, ◌*ℤ◌, get_or, length}
use Rattle.limits.specs.Limits.{max_events}
use Rattle.nets.specs.Nets.{at}
use Rattle.bundles.specs.Layout.{signed}
use Rattle.pairs.proofs.add_counts.Given as goal

abbrev pub invariant-loop-i : goal.invariant-loop-i
invariant-loop-i l =
    ((j : ℕ) → j < l.i → get_or l.sums j (pos 0) ≡ get_or l.initial.sums j (pos 0) +ℤ signed l.weight *ℤ pos (at l.counts j))
    × ((j : ℕ) → l.i ≤ j → get_or l.sums j (pos 0) ≡ get_or l.initial.sums j (pos 0))
    × (length l.sums ≡ max_events)
