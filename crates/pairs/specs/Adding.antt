-- How large a sum of products h × u(i) gets: it is an `i64`.
use Rattle.std.specs.Prelude.{◌≡◌, ℕ, ◌+◌, ◌*◌, ◌^◌, ◌≤◌, ◌<◌, ℤ, pos, ◌+ℤ◌, ◌*ℤ◌, ltb, cond}
use Rattle.std.proofs.Common.{refl, sym, ap₂, ◌∙◌, le_of_lt, mul-le-mul, arith}
use Rattle.std.proofs.Math.Bool.{Bool, true, false}
use Rattle.std.proofs.Math.IntN.{sub_ℕ, *ℤ_comm}
use mir.Syntax.{w64}
use mir.Val.{SFits}
use Rattle.places.proofs.Signed.{difference-fits}
use Rattle.laws.specs.Differences.{difference, difference-add, difference-mul, less_none}
use Rattle.bundles.specs.Layout.{signed}

-- a difference of two numbers of at most `most`
pub record Within (most : ℕ) (z : ℤ) : Type 0 where
  pub plus : ℕ
  pub minus : ℕ
  pub is : z ≡ sub_ℕ plus minus
  pub small : (plus ≤ most) × (minus ≤ most)

pub within-none : Within 0 (pos 0)
within-none = record { plus = 0; minus = 0; is = refl; small = (omega arith, omega arith) }

pub within-natural : {most : ℕ} (n : ℕ) → n ≤ most → Within most (pos n)
within-natural n h = record { plus = n; minus = 0; is = sym (less_none (pos n) refl) ∙ difference n 0; small = (h, omega arith) }

pub within-add : {m n : ℕ} {y z : ℤ} → Within m y → Within n z → Within (m + n) (y +ℤ z)
within-add p q = record {
  plus = p.plus + q.plus;
  minus = p.minus + q.minus;
  is = ap₂ ◌+ℤ◌ p.is q.is ∙ difference-add p.plus p.minus q.plus q.minus;
  small = (omega (arith, p.small, q.small), omega (arith, p.small, q.small));
}

pub within-wider : {m n : ℕ} {z : ℤ} → m ≤ n → Within m z → Within n z
within-wider h p = record { plus = p.plus; minus = p.minus; is = p.is; small = (omega (arith, p.small, h), omega (arith, p.small, h)) }

-- and so an `i64`
pub within-fits : {most : ℕ} {z : ℤ} → Within most z → most < 2 ^ 63 → SFits w64 z
within-fits p h = rw p.is (difference-fits p.plus p.minus (omega (arith, p.small, h)) (omega (arith, p.small, h)))

-- h × u is small where h is two bytes in two's complement and u a two-byte number
abbrev pub most_weighed : ℕ
most_weighed = 65536 * 65535

pub within-weighed : (w u : ℕ) → w < 65536 → u ≤ 65535 → Within most_weighed (signed w *ℤ pos u)
unfolding signed
within-weighed w u hw hu = go (ltb w 32768)
  where
    go : (t : Bool) → Within most_weighed (sub_ℕ w (cond t 0 65536) *ℤ pos u)
    go t =
        let less : ℕ = cond t 0 65536 in
        let few : less ≤ 65536 = most_less t in
        record {
          plus = u * w;
          minus = u * less;
          is = *ℤ_comm (sub_ℕ w less) (pos u) ∙ difference-mul u w less;
          small = (omega (arith, mul-le-mul hu (le_of_lt hw)), omega (arith, mul-le-mul hu few));
        }
      where
        most_less : (t : Bool) → cond t 0 65536 ≤ 65536
        most_less true = omega arith
        most_less false = omega arith
