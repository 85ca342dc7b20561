-- Signed 64-bit arithmetic on differences of natural numbers, and the signs of bits.
use mathlib.Core.Path.{◌≡◌, refl, sym, ap₂, ◌∙◌, subst}
use Rattle.std.specs.Prelude.{◌↔◌}
use mathlib.Core.Bool.{Bool, true, false}
use Prim.Native.Nat.{ℕ, suc, ◌-◌, ◌^◌, ◌≤◌, ◌<◌}
use native.Mathlib.Omega.{arith}
use borrow.Author.Tests.{ltb-true}
use lib.Bits.{bit_or, or_add_and, or_lt, and_le_l, and_le_r}
use lib.Dec.{T, ltb}
use lib.IntN.{ℤ, pos, negsuc, sub_ℕ, ◌-ℤ◌}
use lib.Signed.{non_neg}
use mir.Syntax.{w64}
use mir.Val.{SFits, sel, to_z, of_z}
use mir.Facts.{to_z_pos, to_z-of_z}
use Rattle.laws.specs.Booleans.{yes_true}
use Rattle.laws.specs.Differences.{difference, mag_difference}
use Rattle.places.specs.Machine.{Held}

-- a difference of two numbers below 2 ^ 63 is an `i64`
pub difference-fits : (a b : ℕ) → a < 2 ^ 63 → b < 2 ^ 63 → SFits w64 (sub_ℕ a b)
difference-fits a b ha hb = record { sfits = mag_difference a b (2 ^ 63) ha hb }

-- the machine's difference of two numbers below 2 ^ 63
pub minus : (a b : ℕ) → a < 2 ^ 63 → b < 2 ^ 63 → to_z w64 a -ℤ to_z w64 b ≡ sub_ℕ a b
minus a b ha hb = ap₂ (λ (x y : ℤ). x -ℤ y) (to_z_pos w64 ha) (to_z_pos w64 hb) ∙ difference a b

pub held_fits : {t : ℤ} → Held t → SFits w64 t
held_fits h = rw h.is (difference-fits h.plus h.minus (omega (arith, h.far.0)) (omega (arith, h.far.1)))

-- ---- The sign of several numbers, in the OR of their bits

-- bits that are 0 or more as a signed number have a clear sign
pub sign_clear : (n : ℕ) → non_neg (to_z w64 n) ≡ true → n < 2 ^ 63
sign_clear n e = go (ltb n (2 ^ 63)) refl e
  where
    go : (b : Bool) → ltb n (2 ^ 63) ≡ b → non_neg (sel b (pos n) (negsuc (2 ^ 64 - suc n))) ≡ true → n < 2 ^ 63
    go true q h = ltb-true n (2 ^ 63) q
    go false q h = absurd (subst T (sym h) tt)

-- and the other way round
pub clear_sign : (z : ℤ) → SFits w64 z → of_z w64 z < 2 ^ 63 → T (non_neg z)
clear_sign (pos n) f h = tt
clear_sign (negsuc n) f h = absurd (omega (arith, f.sfits))

-- no bit is lost
pub or_left : (a b : ℕ) → a ≤ bit_or a b
or_left a b = omega (arith, or_add_and a b, and_le_r a b)

pub or_right : (a b : ℕ) → b ≤ bit_or a b
or_right a b = omega (arith, or_add_and a b, and_le_l a b)

-- the OR of two numbers is 0 or more exactly where both are
pub or-sign : (a : ℕ) (z : ℤ) → SFits w64 z → T (non_neg (to_z w64 (bit_or a (of_z w64 z)))) ↔ (T (non_neg (to_z w64 a)) × T (non_neg z))
or-sign a z f = (
  (λ t. let clear = sign_clear (bit_or a (of_z w64 z)) (yes_true _ t) in
      (clear_is a (omega (arith, clear, or_left a (of_z w64 z))), clear_sign z f (omega (arith, clear, or_right a (of_z w64 z))))),
  λ (s, t). clear_is (bit_or a (of_z w64 z)) (or_lt 63 a (of_z w64 z) (sign_clear a (yes_true _ s)) (low z f t)),
)
  where
    clear_is : (n : ℕ) → n < 2 ^ 63 → T (non_neg (to_z w64 n))
    clear_is n h = rw (to_z_pos w64 h) tt

    low : (z : ℤ) → SFits w64 z → T (non_neg z) → of_z w64 z < 2 ^ 63
    low (pos n) f t = f.sfits
    low (negsuc n) f t = absurd t

-- where the OR of two numbers is 0 or more, both are
pub or-both : {x y : ℤ} → SFits w64 x → SFits w64 y → T (non_neg (to_z w64 (bit_or (of_z w64 x) (of_z w64 y)))) → T (non_neg x) × T (non_neg y)
or-both {x} {y} fx fy t = let (a, b) = (or-sign (of_z w64 x) y fy).0 t in (subst (λ (z : ℤ). T (non_neg z)) (to_z-of_z fx) a, b)
