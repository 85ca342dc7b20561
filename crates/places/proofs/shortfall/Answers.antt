-- `places::shortfall` meets its contract.
use Rattle.std.proofs.Common.{◌≡◌, refl, sym, ◌∙◌, true, false}
use Rattle.std.specs.Int.Signed.{non_neg}
use Rattle.std.specs.Prelude.{ℤ, pos, negsuc, unsigned_abs}
use mir.Facts.{to_z-of_z}
use Rattle.laws.specs.Booleans.{impossible}
use Rattle.laws.specs.Differences.{negative_part, zero_le_z}
use Rattle.places.proofs.shortfall.Goals as goal

none : (z : ℤ) → non_neg z ≡ true → 0 ≡ negative_part z
unfolding negative_part
none (pos n) e = refl
none (negsuc n) e = impossible cc

some : (z : ℤ) → non_neg z ≡ false → unsigned_abs z ≡ negative_part z
unfolding negative_part
some (pos n) e = impossible cc
some (negsuc n) e = refl

pub returns-then-surplus-ge0 : goal.returns-then-surplus-ge0
returns-then-surplus-ge0 c = none c.args.surplus (sym (zero_le_z _) ∙ rw (to_z-of_z c.ranges.surplus) at c.if-surplus-ge0.true)

pub returns : goal.returns
returns c =
    let e = rw (to_z-of_z c.ranges.surplus) at c.if-surplus-ge0.false in
    c.unsigned_abs.ensures.value ∙ rw (to_z-of_z c.ranges.surplus) (some c.args.surplus (sym (zero_le_z _) ∙ e))
