-- The refusal numbers of the two calls are those of their lines in the order of refusals: the judge's, then 3 to the new edition, where 4 may come
-- once more before it, and 21, then 3, to the old one.
use Rattle.std.specs.Prelude.{◌≡◌, refl, true, List, ◌∷◌, ◌++◌, [], ℕ}
use Rattle.std.proofs.Common.{inr}
use Rattle.laws.specs.Lists.{all, any, among}
use Rattle.refusals.specs.Table.{output_short_number, word_completed_number}
use Rattle.refusals.specs.Results.{Refuses, refuses-value, refuses-require, refuses-then, refuses-wider}
use Rattle.refusals.specs.Answers.{answer, number_of}
use Rattle.refusals.proofs.Laws.{written-numbers}
use Rattle.verdicts.specs.RefusalNumbers.{judge_numbers, judged-refuses}
use Rattle.editions.specs.Converting.{in_new, in_old, converting_to_new, converting_to_old}

abbrev pub to_new_numbers : List ℕ
to_new_numbers = judge_numbers ++ output_short_number ∷ []

abbrev pub to_old_numbers : List ℕ
to_old_numbers = judge_numbers ++ word_completed_number ∷ output_short_number ∷ []

pub to_new-refuses : (table_length : ℕ) (b : List ℕ) → Refuses to_new_numbers (converting_to_new table_length b)
unfolding converting_to_new in_new all any
to_new-refuses table_length b = refuses-then (refuses-wider tt ((judged-refuses table_length).only b 0))
    (λ i. refuses-then (refuses-require _ _ _ (inr refl)) (λ u. refuses-value _))

pub to_old-refuses : (table_length : ℕ) (b : List ℕ) → Refuses to_old_numbers (converting_to_old table_length b)
unfolding converting_to_old in_old all any
to_old-refuses table_length b = refuses-then (refuses-wider tt ((judged-refuses table_length).only b 0))
    (λ i. refuses-then (refuses-require _ _ _ (inr refl)) (λ u. refuses-value _))

module _ (table_length : ℕ) (b : List ℕ) (room : ℕ) where
  pub to_new-numbers : among (number_of (answer (converting_to_new table_length b) room)) (0 ∷ to_new_numbers) ≡ true
  unfolding any
  to_new-numbers = written-numbers (to_new-refuses table_length b) refl room

  pub to_old-numbers : among (number_of (answer (converting_to_old table_length b) room)) (0 ∷ to_old_numbers) ≡ true
  unfolding any
  to_old-numbers = written-numbers (to_old-refuses table_length b) refl room
