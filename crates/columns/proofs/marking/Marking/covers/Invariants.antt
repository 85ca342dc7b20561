-- `columns::marking::Marking::covers` meets its contract. The invariant: where `all` is 0 or more, the surplus of each column below j is 0 or more.
use Rattle.std.proofs.Common.{ℕ, ◌<◌, T, pos, ◌-ℤ◌, get_or}
use Rattle.std.specs.Int.Signed.{non_neg}
use Rattle.columns.proofs.marking.Marking.covers.Given as goal

abbrev pub invariant-loop-j : goal.invariant-loop-j
invariant-loop-j l = T (non_neg l.all) → (i : ℕ) → i < l.j → T (non_neg (get_or l.self.tokens i (pos 0) -ℤ pos (get_or l.consumed i 0)))
