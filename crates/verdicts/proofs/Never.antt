-- The judge refuses with the numbers of its line alone.
use Rattle.std.specs.Prelude.{◌≡◌, false, List, ◌∷◌, ℕ, Err}
use Rattle.std.proofs.Common.{sym, ap, ◌∙◌}
use Rattle.std.proofs.lemmas.Bool.{false≢true}
use Rattle.laws.specs.Lists.{among}
use Rattle.refusals.specs.Answers.{refusal}
use Rattle.verdicts.specs.Judging.{Verdict, verdict, verdict_number}
use Rattle.verdicts.specs.RefusalNumbers.{judge_numbers, judge_numbers_lem}

pub judge-never : (table_length : ℕ) (b : List ℕ) (number spot : ℕ) → among number (0 ∷ judge_numbers) ≡ false
    → verdict table_length b ≡ Err (refusal number spot) → ⊥
unfolding verdict_number
judge-never table_length b number spot other e =
    let listed = ap (λ (v : Verdict). among (verdict_number v) (0 ∷ judge_numbers)) e in
    false≢true (sym other ∙ sym listed ∙ judge_numbers_lem table_length b)
