-- Tokens of two-byte numbers: along permitted events they stay a natural number, which 64 bits hold.
use Rattle.std.specs.Prelude.{◌≡◌, refl, true, ℕ, ◌+◌, ◌-◌, ◌*◌, ◌≤◌, ℤ, pos, ◌-ℤ◌}
use Rattle.std.proofs.Common.{sym, ap, ◌∙◌, arith, of_z, to_z}
use Rattle.std.specs.Int.{w64}
use Rattle.std.proofs.Math.Facts.{to_z_pos}
use Rattle.laws.specs.Differences.{difference, pos_of_difference}
use Rattle.nets.specs.Nets.{Place}
use Rattle.nets.specs.Markings.{covered, moved, covered-enough, moved-amount}
use Rattle.places.specs.Machine.{Held, held}

-- t tokens behind i permitted events: a natural number, which 64 bits hold
pub record TokensAfter (t : ℤ) (i : ℕ) : Type 0 where
  pub amount : ℕ
  pub is : t ≡ pos amount
  pub most : amount ≤ 65535 + 65535 * i

pub tokens-start : (p : Place) → p.initial ≤ 65535 → TokensAfter (pos p.initial) 0
tokens-start p h = record { amount = p.initial; is = refl; most = omega arith }

module _ {t : ℤ} {i : ℕ} (a : TokensAfter t i) where
  -- a permitted event more
  pub tokens-moved : (p : Place) (e : ℕ) → covered p t e ≡ true → p.produced e ≤ 65535 → TokensAfter (moved p t e) (i + 1)
  tokens-moved p e h few =
      let enough : p.consumed e ≤ a.amount = covered-enough p a.amount e (ap (λ (z : ℤ). covered p z e) (sym a.is) ∙ h) in
      record {
        amount = a.amount - p.consumed e + p.produced e;
        is = ap (λ (z : ℤ). moved p z e) a.is ∙ moved-amount p a.amount e enough;
        most = omega (arith, a.most);
      }

  module _ (few : i ≤ 65535) where
    -- the tokens, and what an event leaves of them
    pub after-held : Held t
    after-held = held a.amount 0 (omega (arith, a.most)) (omega arith) (a.is ∙ rw (pos_of_difference a.amount 0 (omega arith)) (ap pos (omega arith)))

    pub left-held : (taken : ℕ) → taken ≤ 65535 → Held (t -ℤ pos taken)
    left-held taken little =
        held a.amount taken (omega (arith, a.most)) (omega arith)
        (ap (λ (z : ℤ). z -ℤ pos taken) a.is ∙ difference a.amount taken)

    -- the bits of an `i64` say as much
    pub tokens-bits : to_z w64 (of_z w64 t) ≡ t
    tokens-bits = rw a.is (to_z_pos w64 {n = a.amount} (omega (arith, a.most)))
