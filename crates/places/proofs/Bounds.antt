-- The tokens of a place whose numbers are `u16` are far from the bounds of an `i64`.
use mathlib.Core.Path.{◌≡◌, ap, ap₂, ◌∙◌}
use Prim.Native.Nat.{ℕ, ◌+◌, ◌*◌, ◌^◌, ◌≤◌, ◌<◌}
use native.Mathlib.Nat.{mul-le-mul}
use native.Mathlib.Omega.{arith}
use lib.IntN.{ℤ, pos, ◌+ℤ◌, ◌-ℤ◌, ◌*ℤ◌}
use mir.Syntax.{w64}
use mir.Val.{SFits, to_z, of_z}
use mir.Facts.{to_z-of_z}
use Rattle.laws.specs.Sums.{sum_bound}
use Rattle.limits.specs.Limits.{max_events}
use Rattle.nets.specs.Nets.{Place, Counts, at, tokens}
use Rattle.nets.specs.Surplus.{given, taken, tokens-is, tokens-next}
use Rattle.places.specs.Machine.{Held}
use Rattle.places.proofs.Signed.{held_fits}

-- every number of the place and of the counts is a `u16`
pub record Small (p : Place) (v : Counts) : Type 0 where
  pub initial : p.initial < 65536
  pub produced : (i : ℕ) → p.produced i < 65536
  pub consumed : (i : ℕ) → p.consumed i < 65536
  pub counts : (i : ℕ) → at v i < 65536

product_bound : (x y : ℕ) → x < 65536 → y < 65536 → x * y ≤ 65535 * 65535
product_bound x y hx hy = mul-le-mul {n₁ = x} {m₁ = y} {n₂ = 65535} {m₂ = 65535} (omega arith) (omega arith)

module _ (p : Place) (v : Counts) (small : Small p v) (n : ℕ) (h : n ≤ max_events) where
  pub given_bound : given n p v < 2 ^ 40
  unfolding given
  given_bound =
      omega (arith, small.initial, sum_bound n (65535 * 65535) (λ i. at v i * p.produced i) (λ i _. product_bound _ _ (small.counts i) (small.produced i)))

  pub taken_bound : taken n p v < 2 ^ 40
  unfolding taken
  taken_bound =
      omega (arith, sum_bound n (65535 * 65535) (λ i. at v i * p.consumed i) (λ i _. product_bound _ _ (small.counts i) (small.consumed i)))

  pub tokens-held : Held (tokens n p v)
  tokens-held = record {
    plus = given n p v;
    minus = taken n p v;
    is = tokens-is n p v;
    far = (omega (arith, given_bound), omega (arith, taken_bound));
  }

  pub tokens-fits : SFits w64 (tokens n p v)
  tokens-fits = held_fits tokens-held

  -- the tokens, read back from their bits
  pub tokens-back : {bits : ℕ} → bits ≡ of_z w64 (tokens n p v) → to_z w64 bits ≡ tokens n p v
  tokens-back e = ap (to_z w64) e ∙ to_z-of_z tokens-fits

  -- with the gain of one event more
  pub tokens_gain : {bits : ℕ} {gain : ℤ} → bits ≡ of_z w64 (tokens n p v) → SFits w64 gain
      → gain ≡ pos (at v n) *ℤ (pos (p.produced n) -ℤ pos (p.consumed n))
      → to_z w64 bits +ℤ to_z w64 (of_z w64 gain) ≡ tokens (n + 1) p v
  tokens_gain e fits is = ap₂ ◌+ℤ◌ (tokens-back e) (to_z-of_z fits ∙ is) ∙ tokens-next n p v
