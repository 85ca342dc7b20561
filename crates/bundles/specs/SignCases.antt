-- Samples of signed weights: 15 bits above 0, and the other half below it.
use Rattle.std.specs.Prelude.{◌≡◌, refl, pos, neg_ℤ}
use Rattle.bundles.specs.Layout.{signed}

-- what computing gives
pub record Computed : Type 0 where
  pub none : signed 0 ≡ pos 0
  pub one : signed 1 ≡ pos 1
  pub most : signed 32767 ≡ pos 32767
  pub least : signed 32768 ≡ neg_ℤ (pos 32768)
  pub minus_one : signed 65535 ≡ neg_ℤ (pos 1)

pub computed : Computed
unfolding signed
computed = record { none = refl; one = refl; most = refl; least = refl; minus_one = refl }
