-- The refusal numbers of each call are those of its line in the order of refusals: open 1, then 17, 18 or 2, then 3; seal 4, 3.
use Rattle.std.specs.Prelude.{◌≡◌, refl, Bool, true, false, cond, ◌⊎◌, List, [], ◌∷◌, ℕ, eqb}
use Rattle.std.proofs.Common.{inl, inr}
use Rattle.laws.specs.Lists.{all, any, among}
use Rattle.refusals.specs.Table.{file_length_number, block_sums_number, output_short_number, bundle_length_number, block_number_number, block_use_number}
use Rattle.refusals.specs.Results.{value, ◌>>◌, require, Refuses, refuses-value, refuses-require, refuses-then, refuses-wider}
use Rattle.refusals.specs.Answers.{refusal, answer, number_of}
use Rattle.refusals.proofs.Laws.{written-numbers}
use Rattle.block.specs.Block.{is_zero, right_number, right_use, right_sums, unless, fault}
use Rattle.block.specs.File.{block_count, fault_at, first_faulty, first_fault, bundle_of, opened, sealed_file, sealed}

-- the numbers of a block that breaks a rule
abbrev pub fault_numbers : List ℕ
fault_numbers = block_number_number ∷ block_use_number ∷ block_sums_number ∷ []

abbrev pub open_numbers : List ℕ
open_numbers = file_length_number ∷ block_number_number ∷ block_use_number ∷ block_sums_number ∷ output_short_number ∷ []

-- a fault's number is 0 or one of them
pub fault-numbers : (last : Bool) (number : ℕ) (b : List ℕ) → (is_zero (fault last number b) ≡ true) ⊎ (among (fault last number b) fault_numbers ≡ true)
unfolding fault any
fault-numbers last number b = go (right_number number b) (right_use last b) (right_sums b)
  where
    go : (p q s : Bool) → let number = unless p block_number_number (unless q block_use_number (unless s block_sums_number 0)) in
        (is_zero number ≡ true) ⊎ (among number fault_numbers ≡ true)
    go false q s = inr refl
    go true false s = inr refl
    go true true false = inr refl
    go true true true = inl refl

first_fault-numbers : (file : List ℕ) → (is_zero (first_fault file).number ≡ true) ⊎ (among (first_fault file).number fault_numbers ≡ true)
unfolding first_fault fault_at
first_fault-numbers file = go (eqb (first_faulty file) (block_count file))
  where
    go : (b : Bool) → let r = cond b (refusal 0 (block_count file)) (refusal (fault_at file (first_faulty file)) (first_faulty file)) in (is_zero r.number ≡ true) ⊎ (among r.number fault_numbers ≡ true)
    go true = inl refl
    go false = fault-numbers _ _ _

-- behind the test of the length
pub faults_refuse : (file : List ℕ) → Refuses fault_numbers (require (is_zero (first_fault file).number) (first_fault file).number (first_fault file).spot >> value (bundle_of file))
faults_refuse file = refuses-then (refuses-require _ _ _ (first_fault-numbers file)) (λ u. refuses-value (bundle_of file))

pub open_refuses : (file : List ℕ) → Refuses open_numbers (opened file)
unfolding opened all any
open_refuses file = refuses-then (refuses-require _ file_length_number 0 (inr refl)) (λ u. refuses-wider tt (faults_refuse file))

-- open: a result, or 1, 17, 18, 2 or 3
pub open_numbers_lem : (file : List ℕ) (room : ℕ) → among (number_of (answer (opened file) room)) (0 ∷ open_numbers) ≡ true
unfolding any
open_numbers_lem file = written-numbers (open_refuses file) refl

abbrev pub seal_numbers : List ℕ
seal_numbers = bundle_length_number ∷ output_short_number ∷ []

pub seal_refuses : (bundle : List ℕ) → Refuses seal_numbers (sealed bundle)
unfolding sealed any
seal_refuses bundle = refuses-then (refuses-require _ bundle_length_number 0 (inr refl)) (λ u. refuses-value (sealed_file bundle))

-- seal: a result, or 4 or 3
pub seal_numbers_lem : (bundle : List ℕ) (room : ℕ) → among (number_of (answer (sealed bundle) room)) (0 ∷ seal_numbers) ≡ true
unfolding any
seal_numbers_lem bundle = written-numbers (seal_refuses bundle) refl
