-- The refusal numbers of each call are those of its line in the order of refusals: fresh 5, 16; take 5, 16, 8, 7, 9.
use Rattle.std.specs.Prelude.{◌≡◌, true, List, [], ◌∷◌, ℕ}
use Rattle.laws.specs.Lists.{among}
use Rattle.refusals.specs.Table.{numbers_short_number, value_number, events_number, rows_number, state_range_number}
use Rattle.refusals.specs.Results.{Result, value, refused, number_in, Refuses, refuses-end, refuses-test, numbers-listed}
use Rattle.nets.specs.Nets.{Word}
use Rattle.logs.specs.Answers.{taken_of, log_started, fresh_answer, word_taken, taken_answer, taken_number}
use Rattle.logs.specs.declared.Summary.{Summary}

-- the answer's number is that of the chain
answered : (numbers : List ℕ) (m : Result Summary) → Refuses numbers m → among (taken_number (taken_of m)) (0 ∷ numbers) ≡ true
unfolding taken_number taken_of number_in
answered numbers (value s) r = numbers-listed r
answered numbers (refused number spot) r = numbers-listed r

abbrev pub fresh_numbers : List ℕ
fresh_numbers = numbers_short_number ∷ state_range_number ∷ []

pub fresh-refuses : (n : ℕ) (t : List ℕ) → Refuses fresh_numbers (log_started n t)
unfolding log_started
fresh-refuses n t = refuses-test _ _ _ (refuses-test _ _ _ (refuses-end _))

pub fresh-numbers : (n : ℕ) (t : List ℕ) → among (taken_number (fresh_answer n t)) (0 ∷ fresh_numbers) ≡ true
unfolding fresh_answer
fresh-numbers n t = answered fresh_numbers (log_started n t) (fresh-refuses n t)

abbrev pub take_numbers : List ℕ
take_numbers = numbers_short_number ∷ state_range_number ∷ events_number ∷ value_number ∷ rows_number ∷ []

pub take-refuses : (s : Summary) (t : List ℕ) (w : Word) → Refuses take_numbers (word_taken s t w)
unfolding word_taken
take-refuses s t w = refuses-test _ _ _ (refuses-test _ _ _ (refuses-test _ _ _ (refuses-test _ _ _ (refuses-test _ _ _ (refuses-end _)))))

pub take-numbers : (s : Summary) (t : List ℕ) (w : Word) → among (taken_number (taken_answer s t w)) (0 ∷ take_numbers) ≡ true
unfolding taken_answer
take-numbers s t w = answered take_numbers (word_taken s t w) (take-refuses s t w)
