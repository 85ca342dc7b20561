-- What acceptance asks, by name.
use Rattle.std.specs.Prelude.{◌↔◌, T}
use Rattle.std.specs.Float.Ieee.Fits.{and_i, and_l, and_r}
use Rattle.nets.specs.Nets.{wrong_continuations}
use Rattle.nets.specs.Bundle.{Bundle, log_of, completed_of, solves_all, accepted}
use Rattle.nets.specs.Words.{PermitsLog, Obeys}

-- the net permits the log and obeys its completed words, and each wrong continuation has a certificate that solves it
pub record Accepting (b : Bundle) : Type 0 where
  pub permitted : PermitsLog b.events b.net (log_of b)
  pub obeyed : Obeys b.events b.net (completed_of b)
  pub solved : T (solves_all b.events b.entries b.net (wrong_continuations b.events (log_of b)) b.certificates)

pub accepted-parts : (b : Bundle) → T (accepted b) ↔ Accepting b
unfolding accepted
accepted-parts b = (
  (λ t. record { permitted = search (and_l, and_r); obeyed = search (and_l, and_r); solved = search (and_l, and_r) }),
  λ a. let first = a.permitted in let second = a.obeyed in let third = a.solved in search and_i,
)
