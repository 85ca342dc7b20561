-- What the calls of demand 3 answer for a file: opening, judging and screening, one behind the other.
use Rattle.std.specs.Prelude.{◌≡◌, refl, List, [], ◌∷◌, ◌++◌, ℕ, ◌<◌, length, take, Err, Ok}
use Rattle.std.proofs.Common.{sym, ap, ◌∙◌, subst, length-take-le}
use Rattle.laws.specs.Booleans.{impossible}
use Rattle.laws.specs.Numbers.{Bytes}
use Rattle.refusals.specs.Results.{Result, value, refused}
use Rattle.refusals.specs.Answers.{refusal, fitted, answer, written, Answer}
use Rattle.refusals.proofs.Laws.{answer-refused, answer-fitted, answer-within, fitted-written}
use Rattle.refusals.specs.declared.Refusal.{Refusal}
use Rattle.block.specs.File.{opened}
use Rattle.nets.specs.Nets.{Word}
use Rattle.nets.specs.Words.{Prefix}
use Rattle.bundles.specs.Readers.{events_in, log_in, net_in}
use Rattle.verdicts.specs.Judging.{verdict, table_after}
use Rattle.verdicts.specs.declared.Tally.{Tally}
use Rattle.screening.specs.Screening.{Screened, screened}
use Rattle.demands.specs.Demands.{ScreenedAtEnd, LogContained, Compared}
use Rattle.demands.specs.Proved.{demand_3}
use Rattle.files.specs.declared.Answers.{Answers}
use Rattle.files.specs.declared.Both.{Both}

-- the answers for a bundle, with a table of so many numbers and a word
abbrev pub answers_of : List ℕ → ℕ → Word → Answers
answers_of b table_length w = record { size = length b; verdict = verdict table_length b; screened = screened b w }

-- what the calls answer for a file
abbrev pub Ran : Type 0
Ran = Answer Answers

-- the answers for a bundle that opening gave, or opening's refusal
unfoldable pub ran : Result (List ℕ) → ℕ → Word → Ran
ran (value b) table_length w = Ok (answers_of b table_length w)
ran (refused number spot) table_length w = Err (refusal number spot)

-- the table afterwards: as judging leaves it; where the file does not open, as it was
unfoldable pub table_ran : Result (List ℕ) → List ℕ → List ℕ
table_ran (value b) table = table_after b table
table_ran (refused number spot) table = table

-- ---- demand 3, about the answers

-- two files were opened and accepted, with the bundles in front of the outputs; then the bundles compare as demand 3 says, and where the
-- word is a prefix of the first log with one event more, so do the answers of screening it
abbrev pub AnswersCompared : Both → List ℕ → List ℕ → Word → Type 0
AnswersCompared r output₁ output₂ word =
    (a₁ a₂ : Answers) (c₁ c₂ : Tally) → r.first ≡ Ok a₁ → r.second ≡ Ok a₂ → a₁.verdict ≡ Ok c₁ → a₂.verdict ≡ Ok c₂
    → (b₁ b₂ : List ℕ) → b₁ ≡ take a₁.size output₁ → b₂ ≡ take a₂.size output₂
    → LogContained b₁ b₂
    → Compared b₁ b₂ c₁ c₂
    × ((w : Word) (e : ℕ) → word ≡ w ++ e ∷ [] → Prefix (log_in b₁) w → e < events_in b₁
    → ScreenedAtEnd a₁.screened (events_in b₁) (net_in b₁) w e × ScreenedAtEnd a₂.screened (events_in b₂) (net_in b₂) w e)

-- ---- the laws that the code's proofs cite

module _ (result : Result (List ℕ)) (output : List ℕ) (table_length : ℕ) (w : Word) where
  pub ran-refused : (r : Refusal) → answer result (length output) ≡ Err r → (table : List ℕ)
      → (ran (fitted result (length output)) table_length w ≡ Err r) × (table_ran (fitted result (length output)) table ≡ table)
  unfolding ran table_ran
  ran-refused r e table = rw (answer-refused result (length output) r e) (refl, refl)

  -- behind a result of n bytes, the bundle is in front of the output
  pub ran-opened : (n : ℕ) → answer result (length output) ≡ Ok n → (table : List ℕ)
      → (ran (fitted result (length output)) table_length w ≡ Ok (answers_of (take n (written result output)) table_length w))
      × (table_ran (fitted result (length output)) table ≡ table_after (take n (written result output)) table)
  unfolding ran table_ran
  ran-opened n e table = rw (answer-fitted result output n e) (refl, refl)

-- the same clause by clause, for the check of `run`
module _ (result : Result (List ℕ)) (output : List ℕ) where
  module _ (r : Refusal) (told : answer result (length output) ≡ Err r) where
    pub refused-answers : (table_length : ℕ) (w : Word) → ran (fitted result (length output)) table_length w ≡ Err r
    refused-answers table_length w = (ran-refused result output table_length w r told []).0

    pub refused-table : (table : List ℕ) → table_ran (fitted result (length output)) table ≡ table
    refused-table table = (ran-refused result output 0 [] r told table).1

  module _ (n : ℕ) (told : answer result (length output) ≡ Ok n) where
    pub opened-answers : (table_length : ℕ) (w : Word) → ran (fitted result (length output)) table_length w ≡ Ok (answers_of (take n (written result output)) table_length w)
    opened-answers table_length w = (ran-opened result output table_length w n told []).0

    pub opened-table : (table : List ℕ) → table_ran (fitted result (length output)) table ≡ table_after (take n (written result output)) table
    opened-table table = (ran-opened result output 0 [] n told table).1

pub ruleset opening_told = (refused-answers, refused-table, opened-answers, opened-table, answer-within, length-take-le)

-- ---- the answers for a file that opened

-- a are the answers for the bundle in front of the output
pub record AnswersFor (result : Result (List ℕ)) (output : List ℕ) (table_length : ℕ) (w : Word) (a : Answers) : Type 0 where
  pub opens : answer result (length output) ≡ Ok a.size
  pub judged : a.verdict ≡ verdict table_length (take a.size (written result output))
  pub screens : a.screened ≡ screened (take a.size (written result output)) w

pub answers_for : (result : Result (List ℕ)) (output : List ℕ) (table_length : ℕ) (w : Word) (a : Answers) → ran (fitted result (length output)) table_length w ≡ Ok a → AnswersFor result output table_length w a
unfolding ran
answers_for result output table_length w a e = go (fitted result (length output)) refl e
  where
    go : (m : Result (List ℕ)) → fitted result (length output) ≡ m → ran m table_length w ≡ Ok a → AnswersFor result output table_length w a
    go (value b) is e =
        let same : answers_of b table_length w ≡ a = cc in
        let front = fitted-written result output b is in
        subst (AnswersFor result output table_length w) same (record {
          opens = front.0;
          judged = ap (verdict table_length) (sym front.1);
          screens = ap (λ (x : List ℕ). screened x w) (sym front.1);
        })
    go (refused number spot) is e = impossible cc

-- ---- and for two files

module _ (file₁ file₂ output₁ output₂ table : List ℕ) (w : Word) (r : Both) (small₁ : Bytes file₁) (small₂ : Bytes file₂) where
  pub both-compared : r.first ≡ ran (fitted (opened file₁) (length output₁)) (length table) w → r.second ≡ ran (fitted (opened file₂) (length output₂)) (length table) w
      → AnswersCompared r (written (opened file₁) output₁) (written (opened file₂) output₂) w
  both-compared first second a₁ a₂ c₁ c₂ opened₁ opened₂ accepted₁ accepted₂ b₁ b₂ front₁ front₂ contained =
      let for₁ = answers_for (opened file₁) output₁ (length table) w a₁ (sym first ∙ opened₁) in
      let for₂ = answers_for (opened file₂) output₂ (length table) w a₂ (sym second ∙ opened₂) in
      let compares = demand_3 file₁ file₂ output₁ output₂ table table b₁ b₂ c₁ c₂ small₁ small₂
      (record { size = a₁.size; opens = for₁.opens; bundle = sym front₁; accepted = ap (verdict (length table)) front₁ ∙ sym for₁.judged ∙ accepted₁ })
      (record { size = a₂.size; opens = for₂.opens; bundle = sym front₂; accepted = ap (verdict (length table)) front₂ ∙ sym for₂.judged ∙ accepted₂ })
      contained in (
        compares,
        λ u e is m h.
            let longer = compares.longer u m e h in
            let s₁ : screened b₁ (u ++ e ∷ []) ≡ a₁.screened = ap (screened b₁) (sym is) ∙ ap (λ (x : List ℕ). screened x w) front₁ ∙ sym for₁.screens in
            let s₂ : screened b₂ (u ++ e ∷ []) ≡ a₂.screened = ap (screened b₂) (sym is) ∙ ap (λ (x : List ℕ). screened x w) front₂ ∙ sym for₂.screens in
            (subst (λ (s : Screened). ScreenedAtEnd s (events_in b₁) (net_in b₁) u e) s₁ longer.screened₁, subst (λ (s : Screened). ScreenedAtEnd s (events_in b₂) (net_in b₂) u e) s₂ longer.screened₂),
      )
