-- Faults as the code tells them: what it answers for a number that is 0 where there is none.
use Rattle.std.specs.Prelude.{◌≡◌, refl, cond, ℕ, ◌≤◌, Option, None, Some, Ok, Err}
use Rattle.std.proofs.Common.{arith, eqb-true, eq-eqb, ne_eqb}
use Rattle.std.proofs.lemmas.Bool.{eqb-false}
use Rattle.std.proofs.Math.Bool.{Bool, true, false}
use Rattle.laws.specs.Booleans.{impossible}
use Rattle.refusals.specs.Table.{number}
use Rattle.refusals.specs.Answers.{Answer}
use Rattle.refusals.specs.declared.Cause.{Cause}
use Rattle.refusals.specs.declared.Refusal.{Refusal}
use Rattle.block.specs.Block.{is_zero}

-- the number of a fault, 0 for none
abbrev pub fault_number : Option Cause → ℕ
fault_number None = 0
fault_number (Some cause) = number cause

-- no cause has number 0
pub cause-number : (cause : Cause) → 1 ≤ number cause
cause-number cause = grind arith

-- a refusal, or nothing where its number is 0
unfoldable pub as_result : Refusal → Answer (Unit {0})
as_result r = cond (is_zero r.number) (Ok tt) (Err r)

module _ (r : Refusal) where
  pub as_result-none : r.number ≡ 0 → as_result r ≡ Ok tt
  unfolding as_result
  as_result-none e = rw (eq-eqb _ _ e)

  pub as_result-some : (r.number ≡ 0 → ⊥) → as_result r ≡ Err r
  unfolding as_result
  as_result-some e = rw (ne_eqb _ _ e)

  -- and back
  pub none-as_result : (u : Unit {0}) → as_result r ≡ Ok u → r.number ≡ 0
  unfolding as_result
  none-as_result u e = go (is_zero r.number) refl e
    where
      go : (b : Bool) → is_zero r.number ≡ b → ◌≡◌ {A = Answer (Unit {0})} (cond b (Ok tt) (Err r)) (Ok u) → r.number ≡ 0
      go true p e = eqb-true _ _ p
      go false p e = impossible cc

  pub some-as_result : (given : Refusal) → as_result r ≡ Err given → (r.number ≡ 0 → ⊥) × (r ≡ given)
  unfolding as_result
  some-as_result given e = go (is_zero r.number) refl e
    where
      go : (b : Bool) → is_zero r.number ≡ b → ◌≡◌ {A = Answer (Unit {0})} (cond b (Ok tt) (Err r)) (Err given) → (r.number ≡ 0 → ⊥) × (r ≡ given)
      go true p e = impossible cc
      go false p e = (eqb-false _ _ p, cc)
