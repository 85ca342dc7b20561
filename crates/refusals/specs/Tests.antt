-- A test that a chain makes, as the code answers it.
use Rattle.std.specs.Prelude.{◌≡◌, Bool, true, false, ℕ, Err, Ok}
use Rattle.std.proofs.Common.{refl}
use Rattle.laws.specs.Booleans.{impossible}
use Rattle.refusals.specs.Results.{require}
use Rattle.refusals.specs.Answers.{refusal, answered}
use Rattle.refusals.specs.declared.Refusal.{Refusal}

module _ (number spot : ℕ) where
  pub test-passes : {ok : Bool} → ok ≡ true → Ok (tt {0}) ≡ answered (require ok number spot)
  unfolding answered require
  test-passes e = rw e

  pub test-fails : {ok : Bool} → ok ≡ false → Err (refusal number spot) ≡ answered (require ok number spot)
  unfolding answered require
  test-fails e = rw e

  pub test-passed : (ok : Bool) {u : Unit {0}} → Ok u ≡ answered (require ok number spot) → ok ≡ true
  unfolding answered require
  test-passed true e = refl
  test-passed false e = impossible cc

  pub test-failed : (ok : Bool) {r : Refusal} → Err r ≡ answered (require ok number spot) → (ok ≡ false) × (r ≡ refusal number spot)
  unfolding answered require
  test-failed true e = impossible cc
  test-failed false e = (refl, (cc))
