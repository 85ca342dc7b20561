-- What a call that writes bytes leaves in its output, of so many bytes.
use Rattle.std.specs.Prelude.{◌≡◌, List, ℕ, length, Err, Ok}
use Rattle.std.proofs.Common.{ap, ◌∙◌}
use Rattle.laws.specs.Parts.{front}
use Rattle.refusals.specs.Results.{Result, value}
use Rattle.refusals.specs.Answers.{answer, written}
use Rattle.refusals.proofs.Laws.{answer-length, refused-writes-nothing}
use Rattle.refusals.specs.declared.Refusal.{Refusal}

pub record LeavesOutput (result : Result (List ℕ)) (room : ℕ) : Type 0 where
  -- the result stands in front of the output, and the rest is left
  pub in_front : (output : List ℕ) → length output ≡ room → (n : ℕ) → answer result room ≡ Ok n
      → (b' : List ℕ) × (result ≡ value b') × (n ≡ length b') × (written result output ≡ front b' output)
  -- a refusal leaves it as it was
  pub unchanged : (output : List ℕ) → length output ≡ room → (r : Refusal) → answer result room ≡ Err r → written result output ≡ output

pub leaves-output : (result : Result (List ℕ)) (room : ℕ) → LeavesOutput result room
leaves-output result room = record {
  in_front = λ output long n e.
      let (new, is, (n-is, after)) = answer-length result output n (ap (answer result) long ∙ e) in (new, is, n-is, after);
  unchanged = λ output long r e. refused-writes-nothing result output r (ap (answer result) long ∙ e);
}
