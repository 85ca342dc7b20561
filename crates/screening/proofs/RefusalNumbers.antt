-- The refusal numbers of the two calls, and their answers.
use Rattle.std.specs.Prelude.{◌≡◌, refl, true, List, ◌∷◌, ℕ}
use Rattle.laws.specs.Lists.{any, among, among-more}
use Rattle.refusals.specs.Table.{word_length_number}
use Rattle.refusals.specs.Results.{Result, value, refused, Refuses}
use Rattle.nets.specs.Nets as nets
use Rattle.nets.specs.Nets.{Word, permitted, stopped}
use Rattle.screening.specs.Screening.{stopped_number, screening, joining, replayed, screened_of, screened, screened_joined, screened_number}
use Rattle.screening.specs.RefusalNumbers.{behind_numbers, screening-refuses, join_numbers, joining-refuses}

answer-numbers : {numbers : List ℕ} (m : Result nets.Answer) → Refuses numbers m → among (screened_number (screened_of m)) (0 ∷ stopped_number ∷ numbers) ≡ true
unfolding screened_of replayed screened_number any
answer-numbers (value permitted) r = refl
answer-numbers (value (stopped i j k)) r = refl
answer-numbers {numbers} (refused number spot) r = among-more 0 (stopped_number ∷ numbers) number (among-more stopped_number numbers number (r.only number spot refl))

-- screen: permitted, stopped, or 14, 4, 6, 7, 8 or 15
pub screen-numbers : (b : List ℕ) (w : Word) → among (screened_number (screened b w)) (0 ∷ stopped_number ∷ word_length_number ∷ behind_numbers) ≡ true
unfolding screened
screen-numbers b w = answer-numbers (screening b w) (screening-refuses b w)

-- screen_joined: permitted, stopped, or 14, 4, 6, 7, 8, 19 or 15
pub join-numbers : (first second : List ℕ) (w : Word) → among (screened_number (screened_joined first second w)) (0 ∷ stopped_number ∷ word_length_number ∷ join_numbers) ≡ true
unfolding screened_joined
join-numbers first second w = answer-numbers (joining first second w) (joining-refuses first second w)
