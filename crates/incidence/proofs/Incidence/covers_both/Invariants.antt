-- `incidence::Incidence::covers_both` meets its contract. The loop's invariant: the places below j have enough for both events.
use Rattle.std.proofs.Common.{◌≡◌, ℕ, ◌<◌, true}
use Rattle.incidence.specs.Incidence.{places_in, enough_both}
use Rattle.incidence.proofs.Incidence.covers_both.Given as goal

abbrev pub invariant-loop-j : goal.invariant-loop-j
invariant-loop-j l = (i : ℕ) → i < l.j → enough_both (places_in l.self) l.tokens l.event l.wanted i ≡ true
