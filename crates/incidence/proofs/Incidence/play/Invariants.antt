-- `incidence::Incidence::play` meets its contract. The loop's invariant: `all` is 0 or more exactly where the places below j have
-- enough, and the tokens behind the event are written for those that have.
use Rattle.std.proofs.Common.{◌≡◌, ℕ, ◌+◌, ◌-◌, ◌≤◌, ◌<◌, T, get_or}
use Rattle.std.specs.Prelude.{◌↔◌}
use Rattle.std.specs.Int.Signed.{non_neg}
use Rattle.nets.specs.Carrying.{taken_from, put_into}
use Rattle.incidence.specs.Incidence.{places_in}
use Rattle.incidence.proofs.Incidence.play.Given as goal

abbrev pub invariant-loop-j : goal.invariant-loop-j
invariant-loop-j l = (T (non_neg l.all) ↔ ((i : ℕ) → i < l.j → taken_from (places_in l.self) l.tokens l.event i ≤ get_or l.tokens i 0))
    × ((i : ℕ) → i < l.j → taken_from (places_in l.self) l.tokens l.event i ≤ get_or l.tokens i 0
    → (get_or l.next-items i 0
    ≡ get_or l.tokens i 0 - taken_from (places_in l.self) l.tokens l.event i + put_into (places_in l.self) l.tokens l.event i)
    × (get_or l.next-items i 0 ≤ get_or l.tokens i 0 + 65535))
