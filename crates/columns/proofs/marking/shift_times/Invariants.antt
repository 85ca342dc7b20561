-- `columns::marking::shift_times` meets its contract. The invariant: the tokens of the columns below j are shifted, the others untouched.
use Rattle.std.proofs.Common.{◌≡◌, ℕ, ◌≤◌, ◌<◌, pos, get_or}
use Rattle.columns.specs.Matrix.{shifted}
use Rattle.columns.proofs.marking.shift_times.Given as goal

abbrev pub invariant-loop-j : goal.invariant-loop-j
invariant-loop-j l =
    ((i : ℕ) → i < l.j → get_or l.tokens i (pos 0) ≡ shifted l.plus l.minus l.times i (get_or l.initial.tokens i (pos 0)))
    × ((i : ℕ) → l.j ≤ i → get_or l.tokens i (pos 0) ≡ get_or l.initial.tokens i (pos 0))
