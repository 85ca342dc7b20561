-- `replays::step` meets its contract. The invariant: the columns below j are stepped, the others untouched.
use Rattle.std.proofs.Common.{◌≡◌, T, pos, get_or}
use Rattle.std.specs.Int.Signed.{non_neg}
use Rattle.replays.specs.Columns.{stepped}
use Rattle.replays.specs.ReplayLaws.{Written}
use Rattle.replays.proofs.step.Given as goal

abbrev pub invariant-loop-j : goal.invariant-loop-j
invariant-loop-j l =
    Written (λ i z. z ≡ stepped l.changes l.initial.surplus i) l.initial.surplus l.surplus l.j
    × Written (λ i z. T (non_neg z) → T (non_neg (get_or l.initial.all i (pos 0))) × T (non_neg (stepped l.changes l.initial.surplus i))) l.initial.all l.all l.j
