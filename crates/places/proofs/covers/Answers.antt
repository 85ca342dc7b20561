-- `places::covers` meets its contract, by what `surplus` and `shortfall` ensure.
use mathlib.Core.Path.{sym, ap, ◌∙◌, subst}
use Prim.Native.Nat.{ℕ}
use lib.Dec.{eqb}
use lib.IntN.{ℤ, pos, ◌-ℤ◌}
use lib.Signed.{non_neg}
use mir.Syntax.{w64}
use mir.Facts.{to_z-of_z}
use Rattle.laws.specs.Differences.{negative-tested}
use Rattle.places.specs.Machine.{Held}
use Rattle.places.proofs.covers.Goals as goal

pub surplus-requires : goal.surplus-requires
surplus-requires c = subst Held (sym (to_z-of_z c.ranges.tokens)) c.requires

pub returns : goal.returns
returns c =
    let surplus = c.surplus in
    ap (λ (k : ℕ). eqb k 0) c.shortfall.ensures
    ∙ negative-tested _
    ∙ ap non_neg {y = surplus.result} (to_z-of_z {w = w64} (record { sfits = surplus.type_inv }))
    ∙ ap non_neg surplus.ensures
    ∙ ap (λ (t : ℤ). non_neg (t -ℤ pos c.args.consumed)) (to_z-of_z c.ranges.tokens)
