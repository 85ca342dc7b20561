-- `incidence::Incidence::first_short` meets its contract. The loop's invariant: the places below j have enough.
use Rattle.std.proofs.Common.{ℕ, ◌≤◌, ◌<◌, get_or}
use Rattle.nets.specs.Carrying.{taken_from}
use Rattle.incidence.specs.Incidence.{places_in}
use Rattle.incidence.proofs.Incidence.first_short.Given as goal

abbrev pub invariant-loop-j : goal.invariant-loop-j
invariant-loop-j l = (i : ℕ) → i < l.j → taken_from (places_in l.self) l.tokens l.event i ≤ get_or l.tokens i 0
