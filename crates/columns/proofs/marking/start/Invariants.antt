-- `columns::marking::start` meets its contract. The invariant: the tokens below j are written.
use Rattle.std.proofs.Common.{◌≡◌, ℕ, ◌<◌, pos, get_or}
use Rattle.columns.proofs.marking.start.Given as goal

abbrev pub invariant-loop-j : goal.invariant-loop-j
invariant-loop-j l = (i : ℕ) → i < l.j → get_or l.tokens-items i (pos 0) ≡ pos (get_or l.initial' i 0)
