-- `search::starts` meets its contract. The loop's invariant: the places below j have enough initial tokens.
use Rattle.std.proofs.Common.{ℕ, ◌≤◌, ◌<◌, get_or}
use Rattle.nets.specs.Carrying.{initials, taken_from}
use Rattle.engine.specs.Playing.{places_of}
use Rattle.search.proofs.starts.Given as goal

abbrev pub invariant-loop-j : goal.invariant-loop-j
invariant-loop-j l = (i : ℕ) → i < l.j
    → taken_from (places_of l.net) (initials (places_of l.net)) l.wanted i ≤ get_or (initials (places_of l.net)) i 0
