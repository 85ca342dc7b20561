-- Bundles whose calls permit the same words, joined with any other bundle.
use Rattle.std.specs.Prelude.{◌≡◌, ◌↔◌, ℕ, None, Ok}
use Rattle.std.proofs.Math.Path.{sym}
use Rattle.std.proofs.Common.{◌∙◌}
use mathlib.Core.List.{List}
use Rattle.nets.specs.Nets.{Word}
use Rattle.bundles.specs.Readers.{events_in}
use Rattle.screening.specs.Screening.{screened, screened_joined}
use Rattle.screening.proofs.JoinLaws.{joined-permitted}

-- joined with any other bundle
pub joined-alike : (b b' other : List ℕ) → events_in b ≡ events_in b' → (w : Word) → (screened b w ≡ Ok None) ↔ (screened b' w ≡ Ok None)
    → (screened_joined b other w ≡ Ok None) ↔ (screened_joined b' other w ≡ Ok None)
joined-alike b b' other same w law = (
  (λ e. let (one, two, events) = (joined-permitted b other w).0 e in (joined-permitted b' other w).1 (law.0 one, two, sym same ∙ events)),
  (λ e. let (one, two, events) = (joined-permitted b' other w).0 e in (joined-permitted b other w).1 (law.1 one, two, same ∙ events)),
)
