-- The refusal numbers of pruning are those of its line in the order of refusals: the judge's, then 3.
use Rattle.std.specs.Prelude.{◌≡◌, refl, true, List, ◌∷◌, ◌++◌, [], ℕ}
use Rattle.laws.specs.Lists.{all, any, among}
use Rattle.refusals.specs.Table.{output_short_number}
use Rattle.refusals.specs.Results.{Refuses, refuses-value, refuses-then, refuses-wider}
use Rattle.refusals.specs.Answers.{answer, number_of}
use Rattle.refusals.proofs.Laws.{written-numbers}
use Rattle.verdicts.specs.RefusalNumbers.{judge_numbers, judged-refuses}
use Rattle.pruning.specs.Pruning.{pruning}

abbrev pub prune_numbers : List ℕ
prune_numbers = judge_numbers ++ output_short_number ∷ []

pub pruning-refuses : (table_length : ℕ) (b : List ℕ) → Refuses prune_numbers (pruning table_length b)
unfolding pruning all any
pruning-refuses table_length b = refuses-then (refuses-wider tt ((judged-refuses table_length).only b 0)) (λ i. refuses-value _)

pub prune-numbers : (table_length : ℕ) (b : List ℕ) (room : ℕ) → among (number_of (answer (pruning table_length b) room)) (0 ∷ prune_numbers) ≡ true
unfolding any
prune-numbers table_length b room = written-numbers (pruning-refuses table_length b) refl room
