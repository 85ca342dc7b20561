-- Small bundles as samples for the definitions: what the verdict on each is.
use Rattle.std.specs.Prelude.{◌≡◌, ℕ, Err, Ok}
use mathlib.Core.List.{List, [], ◌∷◌, ◌++◌}
use Rattle.refusals.specs.Table.{bundle_end_number, value_number, place_misfit_number, place_disobeys_number, weights_number, bytes_follow_number}
use Rattle.refusals.specs.Answers.{refusal}
use Rattle.logs.specs.Answers.{table_size}
use Rattle.verdicts.specs.Judging.{verdict}

-- ---- Bundles of the new edition

-- one event; a word 0 0 that was broken off, a completed word 0, no place; 0 behind 0 0 by k = 3 and 3 times 0 at the start, with pairs
abbrev thrice : List ℕ → List ℕ
thrice pairs = 129 ∷ 2 ∷ 2 ∷ 0 ∷ 0 ∷ 0 ∷ 1 ∷ 1 ∷ 0 ∷ 0 ∷ 1 ∷ 3 ∷ 0 ∷ 1 ∷ 0 ∷ 0 ∷ 0 ∷ 3 ∷ 0 ∷ pairs

-- two events; a word 0 1 that was broken off, a completed word 0, a place that 1 empties; 1 at the start by k, k times 1 behind 0 and the pair of
-- the completed word with h, both as they are written; 0 behind 0 by k = 5, 5 times 0 at the start and the pair with h = 5
abbrev earlier : List ℕ → List ℕ → List ℕ
earlier k h =
    (130 ∷ 2 ∷ 2 ∷ 0 ∷ 0 ∷ 1 ∷ 1 ∷ 1 ∷ 0 ∷ 1 ∷ 3 ∷ 0 ∷ 2 ∷ 0 ∷ 0 ∷ 0 ∷ 2 ∷ 0 ∷ 3 ∷ 0 ∷ 1 ∷ [])
    ++ (k ++ 1 ∷ 1 ∷ 0 ∷ 1 ∷ (k ++ 1 ∷ 1 ∷ (h ++ 1 ∷ 5 ∷ 0 ∷ 1 ∷ 0 ∷ 0 ∷ 0 ∷ 5 ∷ 0 ∷ 1 ∷ 1 ∷ 5 ∷ 0 ∷ 0 ∷ 0 ∷ 0 ∷ 0 ∷ [])))

-- one event; a word 0 with a mark, and two places
abbrev marked : ℕ → List ℕ → List ℕ
marked m numbers = 129 ∷ 1 ∷ 1 ∷ m ∷ 0 ∷ 2 ∷ numbers

-- a place that 0 leaves as it was and one that it empties
abbrev emptied : List ℕ
emptied = 1 ∷ 0 ∷ 1 ∷ 0 ∷ 1 ∷ 0 ∷ 1 ∷ 0 ∷ 0 ∷ 0 ∷ 1 ∷ 0 ∷ []

-- a place that 0 puts 2 tokens into, and one that lacks the token which it takes and gives back
abbrev both : List ℕ
both = 0 ∷ 0 ∷ 2 ∷ 0 ∷ 0 ∷ 0 ∷ 0 ∷ 0 ∷ 1 ∷ 0 ∷ 1 ∷ 0 ∷ []

-- a place that 0 and 1 put so many tokens into
abbrev puts : ℕ → ℕ → List ℕ
puts i j = 0 ∷ 0 ∷ i ∷ 0 ∷ j ∷ 0 ∷ 0 ∷ 0 ∷ 0 ∷ 0 ∷ []

-- what computing gives
pub record Computed : Type 0 where
  -- E: one row, no allowed step, one certificate of kind 0
  pub accepted_e : verdict table_size (1 ∷ 0 ∷ 1 ∷ 0 ∷ 0 ∷ 0 ∷ 0 ∷ 1 ∷ 0 ∷ 0 ∷ 0 ∷ [])
      ≡ Ok (record { rows = 1; allowed = 0; by_place = 1; by_weights = 0 })
  -- the log of the word 0 over 2 events: four different counts. One place refuses each wrong continuation: 2 rows, 1 allowed step, 3 of kind 0
  pub accepted_four : verdict table_size (2 ∷ 1 ∷ 1 ∷ 0 ∷ 1 ∷ 1 ∷ 0 ∷ 0 ∷ 0 ∷ 0 ∷ 0 ∷ 1 ∷ 0 ∷ 2 ∷ 0 ∷ 0 ∷ 0 ∷ 0 ∷ 0 ∷ 0 ∷ 0 ∷ [])
      ≡ Ok (record { rows = 2; allowed = 1; by_place = 3; by_weights = 0 })
  -- E, and a byte behind it
  pub refused13 : verdict table_size (1 ∷ 0 ∷ 1 ∷ 0 ∷ 0 ∷ 0 ∷ 0 ∷ 1 ∷ 0 ∷ 0 ∷ 0 ∷ 0 ∷ []) ≡ Err (refusal bytes_follow_number 11)
  -- a place that does not fit
  pub refused10 : verdict table_size (1 ∷ 1 ∷ 1 ∷ 0 ∷ 1 ∷ 0 ∷ 0 ∷ 0 ∷ 0 ∷ 1 ∷ 0 ∷ []) ≡ Err (refusal place_misfit_number 0)
  -- G: weights that do not hold
  pub refused_g : verdict table_size (1 ∷ 0 ∷ 0 ∷ 1 ∷ 1 ∷ 0 ∷ 0 ∷ []) ≡ Err (refusal weights_number 0)
  -- ---- the new edition
  -- accepted by a pair with h = 6, or by one that repeats, with h = −1 and 7; not without it
  pub above : verdict table_size (thrice (1 ∷ 1 ∷ 6 ∷ 0 ∷ [])) ≡ Ok (record { rows = 3; allowed = 2; by_place = 0; by_weights = 1 })
  pub repeated : verdict table_size (thrice (2 ∷ 1 ∷ 255 ∷ 255 ∷ 1 ∷ 7 ∷ 0 ∷ []))
      ≡ Ok (record { rows = 3; allowed = 2; by_place = 0; by_weights = 1 })
  pub above_needed : verdict table_size (thrice (0 ∷ [])) ≡ Err (refusal weights_number 0)
  -- a pair that names a partial word, though its counts would do; one that names no word; too many pairs, and none counted
  pub of_partial : verdict table_size (thrice (1 ∷ 0 ∷ 3 ∷ 0 ∷ [])) ≡ Err (refusal weights_number 0)
  pub of_none : verdict table_size (thrice (1 ∷ 2 ∷ 6 ∷ 0 ∷ [])) ≡ Err (refusal value_number 20)
  pub too_many : verdict table_size (thrice (65 ∷ 1 ∷ 6 ∷ 0 ∷ [])) ≡ Err (refusal value_number 19)
  pub uncounted : verdict table_size (thrice []) ≡ Err (refusal bundle_end_number 19)
  -- accepted by a pair with h = −2, and with the least h, −32,768, which is written as a k of 32,768 is; not with 0
  pub below : verdict table_size (earlier (2 ∷ 0 ∷ []) (254 ∷ 255 ∷ [])) ≡ Ok (record { rows = 3; allowed = 2; by_place = 2; by_weights = 2 })
  pub least : verdict table_size (earlier (0 ∷ 128 ∷ []) (0 ∷ 128 ∷ [])) ≡ Ok (record { rows = 3; allowed = 2; by_place = 2; by_weights = 2 })
  pub below_needed : verdict table_size (earlier (2 ∷ 0 ∷ []) (0 ∷ 0 ∷ [])) ≡ Err (refusal weights_number 0)
  -- the second place does not obey, which is met before the certificate that is missing; where the word is partial, it solves
  pub refused20 : verdict table_size (marked 1 emptied) ≡ Err (refusal place_disobeys_number 1)
  pub not_completed : verdict table_size (marked 0 (emptied ++ 0 ∷ 1 ∷ [])) ≡ Ok (record { rows = 2; allowed = 1; by_place = 1; by_weights = 0 })
  -- the first place does not obey the second word and the second not the first: the lowest place, whatever the word
  pub lowest_place : verdict table_size (130 ∷ 2 ∷ 1 ∷ 1 ∷ 0 ∷ 1 ∷ 1 ∷ 1 ∷ 2 ∷ (puts 0 1 ++ puts 1 0)) ≡ Err (refusal place_disobeys_number 0)
  -- the first place does not obey and the second does not fit: 10
  pub refused_both : verdict table_size (marked 1 both) ≡ Err (refusal place_misfit_number 1)
  -- a mark of 2; an empty word without a mark, and with one; 0 and 13 events
  pub mark2 : verdict table_size (marked 2 emptied) ≡ Err (refusal value_number 3)
  pub unmarked : verdict table_size (129 ∷ 1 ∷ 0 ∷ []) ≡ Err (refusal bundle_end_number 3)
  pub empty_marked : verdict table_size (129 ∷ 1 ∷ 0 ∷ 1 ∷ []) ≡ Err (refusal bundle_end_number 4)
  pub no_event : verdict table_size (128 ∷ 0 ∷ 0 ∷ []) ≡ Err (refusal value_number 0)
  pub many_events : verdict table_size (141 ∷ 0 ∷ 0 ∷ []) ≡ Err (refusal value_number 0)
