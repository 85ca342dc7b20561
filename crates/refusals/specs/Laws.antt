-- The answer and the output afterwards, together. The laws of answers are in proofs/Laws.antt.
use Rattle.std.specs.Prelude.{◌≡◌, List, ℕ, length}
use Rattle.refusals.specs.Results.{Result}
use Rattle.refusals.specs.Answers.{answer, written, Written}

-- the answer and the output afterwards, together
abbrev pub Ends : Result (List ℕ) → List ℕ → Written → List ℕ → Type 0
Ends result output a after = (a ≡ answer result (length output)) × (after ≡ written result output)
