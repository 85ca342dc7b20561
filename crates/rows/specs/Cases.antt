-- What the words of small logs leave in rows, as samples for the definitions: what is computed, with what is expected.
use Rattle.std.specs.Prelude.{◌≡◌, refl, List, [], ◌∷◌, map, ℕ}
use Rattle.laws.specs.Lists.{equal}
use Rattle.laws.specs.Scans.{first_failing}
use Rattle.laws.specs.Bits.{with_bit}
use Rattle.rows.specs.Rows.{Row, find_row, new_row, present, visit, update_at, follow, add_event, take_word, none}

-- the words taken one after the other
pub take_all : List Row → List (List ℕ) → List Row
take_all rs [] = rs
take_all rs (w ∷ ws) = take_all (take_word rs none w) ws

-- mask and traffic of each row
pub marks : List Row → List (ℕ × ℕ)
marks rs = map (λ (r : Row). (r.mask, r.traffic)) rs

-- the row of a fresh table, and two rows with the same counts
abbrev fresh : List Row
fresh = new_row none ∷ []

abbrev twins : List Row
twins = record { counts = none; mask = 4; traffic = 65535 } ∷ record { counts = none; mask = 8; traffic = 7 } ∷ []

-- what computing gives
pub record Computed : Type 0 where
  -- the log of I, 0 1 2 and 1 0 3: both words pass the rows of the empty word and of 0 1
  pub log_i : marks (take_all fresh ((0 ∷ 1 ∷ 2 ∷ []) ∷ (1 ∷ 0 ∷ 3 ∷ []) ∷ [])) ≡ (3, 2) ∷ (2, 1) ∷ (12, 2) ∷ (0, 1) ∷ (1, 1) ∷ (0, 1) ∷ []
  -- empty words, and a word with each of its prefixes
  pub empty : marks (take_all fresh ([] ∷ (0 ∷ 0 ∷ []) ∷ [] ∷ [])) ≡ (1, 3) ∷ (1, 1) ∷ (0, 1) ∷ []
  pub prefixes : marks (take_all fresh ((0 ∷ 0 ∷ []) ∷ (0 ∷ []) ∷ [])) ≡ (1, 2) ∷ (1, 2) ∷ (0, 1) ∷ []
  -- the lowest of two rows is used, and 65,535 stays
  pub lowest : marks (take_all twins ((0 ∷ []) ∷ [] ∷ [])) ≡ (5, 65535) ∷ (8, 7) ∷ (0, 1) ∷ []

pub computed : Computed
unfolding take_all marks equal first_failing with_bit find_row present visit update_at follow add_event take_word
computed = record { log_i = refl; empty = refl; prefixes = refl; lowest = refl }
