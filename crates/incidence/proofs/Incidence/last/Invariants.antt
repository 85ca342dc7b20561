-- `incidence::Incidence::last` meets its contract. The loop's invariant: no event below leads to the wanted one.
use Rattle.std.proofs.Common.{◌≡◌, ℕ, ◌<◌}
use Rattle.std.specs.Prelude.{None}
use Rattle.laws.specs.Firsts.{first_of}
use Rattle.incidence.specs.Incidence.{places_in}
use Rattle.incidence.specs.IncidenceLaws.{beginning}
use Rattle.incidence.proofs.Incidence.last.Given as goal

abbrev pub invariant-loop-event : goal.invariant-loop-event
invariant-loop-event l = (i : ℕ) → i < l.event → first_of (beginning l.self.n (places_in l.self) l.tokens l.wanted 0 i) ≡ None
