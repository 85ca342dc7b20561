-- How opening ends by what the code is told of the lowest fault, for the check of `open`.
use Rattle.std.specs.Prelude.{◌≡◌, true, List, ℕ, ◌≤◌, length, Ok, Err}
use Rattle.std.proofs.Common.{sym, ap, ⊎_elim, arith}
use Rattle.std.proofs.lemmas.List.{take_all}
use Rattle.laws.specs.Booleans.{lt_or_le}
use Rattle.refusals.specs.Results.{value}
use Rattle.refusals.specs.Answers.{answer, written}
use Rattle.refusals.specs.Laws.{Ends}
use Rattle.refusals.specs.declared.Refusal.{Refusal}
use Rattle.refusals.proofs.Laws.{ends-refused}
use Rattle.block.specs.Faults.{as_result, none-as_result, some-as_result}
use Rattle.block.specs.File.{first_fault, right_length, bundle_of, opened, Sound}
use Rattle.block.specs.OpenLaws.{opened-fault, opened-bundle, opened-sound}

module _ (file : List ℕ) where
  -- a fault has a number
  pub fault-numbered : (r : Refusal) → as_result (first_fault file) ≡ Err r → 1 ≤ r.number
  fault-numbered r e =
      let fault = some-as_result (first_fault file) r e in
      ⊎_elim (λ none. absurd (fault.0 (omega (arith, ap (λ (x : Refusal). x.number) fault.1)))) (λ h. h) (lt_or_le r.number 1)

  module _ (right : right_length (length file) ≡ true) where
    -- it is the answer
    module _ (output : List ℕ) (r : Refusal) (told : as_result (first_fault file) ≡ Err r) where
      ends : Ends (opened file) output (Err r) output
      ends = let fault = some-as_result (first_fault file) r told in ends-refused (opened file) output r.number r.spot (rw (← fault.1) (opened-fault file right fault.0))

      pub fault-answer : answer (opened file) (length output) ≡ Err r
      fault-answer = sym ends.0

      pub fault-output : written (opened file) output ≡ output
      fault-output = sym ends.1

    -- with none the file is sound, and opening gives its bundle
    module _ (u : Unit {0}) (told : as_result (first_fault file) ≡ Ok u) where
      pub none-sound : Sound file
      none-sound = opened-sound file right (none-as_result (first_fault file) u told)

      pub none-bundle : opened file ≡ value (bundle_of file)
      none-bundle = opened-bundle file right (none-as_result (first_fault file) u told)

-- `take_all`, so that code that tests a front of the file is judged by what the front leaves out
pub ruleset fault_told = (fault-numbered, fault-answer, fault-output, none-sound, none-bundle, take_all)
