-- Exactly when opening and sealing refuse, and what they give else: one law for each test, in its order.
use Rattle.std.specs.Prelude.{◌≡◌, cond, ◌&&◌, ◌↔◌, ◌⊎◌, List, ◌∷◌, [], eqb, leb, length}
use Rattle.std.proofs.Math.Path.{refl}
use Rattle.std.proofs.Common.{sym, ap, ◌∙◌, inl, inr, ⊎_elim, eq-or-lt_of_le, arith, eqb-true, eq-eqb, ne_eqb, leb-false, le-leb}
use Rattle.std.proofs.Math.Bool.{Bool, true, false}
use Prim.Native.Nat.{ℕ, ◌+◌, ◌%◌, ◌<◌}
use Rattle.std.proofs.lemmas.Bool.{eqb-false, lt-leb}
use Rattle.laws.specs.Booleans.{impossible, true_or_false, lt_or_le}
use Rattle.laws.specs.Lists.{any}
use Rattle.laws.specs.Numbers.{number_at}
use Rattle.laws.specs.Scans.{first_false-below, first_false-most}
use Rattle.limits.specs.Limits.{max_file_size, right_size}
use Rattle.refusals.specs.Table.{file_length_number, block_sums_number, bundle_length_number, block_number_number, block_use_number}
use Rattle.refusals.specs.Results.{value, refused, bind, require, Refuses, refuses-end, refuses-test}
use Rattle.refusals.specs.Answers.{refusal}
use Rattle.refusals.specs.Exactly.{Exactly, Gives, exactly-here, exactly-later, gives_later, gives_same, gives_value}
use Rattle.refusals.specs.declared.Refusal.{Refusal}
use Rattle.block.specs.Block.{is_zero, right_use, right_sums}
use Rattle.block.specs.File.{block_count, block_at, fault_at, first_faulty, first_fault, bundle_of, right_length, opened, sealed_file, sealed}
use Rattle.block.specs.BlockLaws.{fault-number-exactly, fault_use_exactly, fault-sums-exactly, fault-none-exactly}
use Rattle.block.specs.OpenLaws.{first_fault-at, first_fault-none, first_fault-zero}
use Rattle.block.specs.RefusalNumbers.{fault_numbers, faults_refuse}

-- the lowest block with a fault is block k, and the fault has this number
abbrev pub LowestFault : List ℕ → ℕ → ℕ → Type 0
LowestFault file number k = (k < block_count file) × (fault_at file k ≡ number) × ((j : ℕ) → j < k → fault_at file j ≡ 0)

-- block k keeps all rules
pub fault_at-none : (file : List ℕ) (k : ℕ) → (fault_at file k ≡ 0)
    ↔ ((number_at (block_at file k) 0 ≡ k) × (right_use (eqb (k + 1) (block_count file)) (block_at file k) ≡ true)
    × (right_sums (block_at file k) ≡ true))
unfolding fault_at
fault_at-none file k = fault-none-exactly _ _ _

-- its number is not k
pub fault_at-number : (file : List ℕ) (k : ℕ) → (fault_at file k ≡ block_number_number) ↔ (number_at (block_at file k) 0 ≡ k → ⊥)
unfolding fault_at
fault_at-number file k = fault-number-exactly _ _ _

-- its number is k, and its used count or its padding is wrong
pub fault_at_use : (file : List ℕ) (k : ℕ) → (fault_at file k ≡ block_use_number)
    ↔ ((number_at (block_at file k) 0 ≡ k) × (right_use (eqb (k + 1) (block_count file)) (block_at file k) ≡ false))
unfolding fault_at
fault_at_use file k = fault_use_exactly _ _ _

-- its number, its used count and its padding are right, and its sums are not
pub fault_at-sums : (file : List ℕ) (k : ℕ) → (fault_at file k ≡ block_sums_number)
    ↔ ((number_at (block_at file k) 0 ≡ k) × (right_use (eqb (k + 1) (block_count file)) (block_at file k) ≡ true)
    × (right_sums (block_at file k) ≡ false))
unfolding fault_at
fault_at-sums file k = fault-sums-exactly _ _ _

-- a length that no file has
pub right_length_wrong : (n : ℕ) → (right_length n ≡ false) ↔ ((n ≡ 0) ⊎ ((n % 512 ≡ 0 → ⊥) ⊎ (max_file_size < n)))
unfolding right_length
right_length_wrong n = (to, ⊎_elim (λ e. rw (lt-leb 1 n (omega arith))) (⊎_elim part over))
  where
    to : right_length n ≡ false → (n ≡ 0) ⊎ ((n % 512 ≡ 0 → ⊥) ⊎ (max_file_size < n))
    to e = ⊎_elim
        (λ none. inl (omega arith))
        (λ some. inr (⊎_elim
        (λ w. let rest : (eqb (n % 512) 0 && leb n max_file_size) ≡ false = rw (le-leb 1 n some) at e in inr
        (leb-false n max_file_size (rw w at rest)))
        (λ w. inl (eqb-false (n % 512) 0 w))
        (true_or_false (eqb (n % 512) 0))))
        (lt_or_le n 1)

    part : (n % 512 ≡ 0 → ⊥) → right_length n ≡ false
    part h = ⊎_elim (λ none. rw (lt-leb 1 n none)) (λ some. rw (le-leb 1 n some, ne_eqb (n % 512) 0 h)) (lt_or_le n 1)

    over : max_file_size < n → right_length n ≡ false
    over h = ⊎_elim (λ w. rw (le-leb 1 n (omega arith), w, lt-leb n max_file_size h)) (λ w. rw (le-leb 1 n (omega arith), w))
        (true_or_false (eqb (n % 512) 0))

module _ (file : List ℕ) (number : ℕ) (fault : number ≡ 0 → ⊥) where
  first_fault→ : (k : ℕ) → first_fault file ≡ refusal number k → LowestFault file number k
  unfolding first_fault first_faulty
  first_fault→ k e = go (eqb (first_faulty file) (block_count file)) refl e
    where
      test : ℕ → Bool
      test j = is_zero (fault_at file j)

      go : (b : Bool) → eqb (first_faulty file) (block_count file) ≡ b
          → cond b (refusal 0 (block_count file)) (refusal (fault_at file (first_faulty file)) (first_faulty file)) ≡ refusal number k
          → LowestFault file number k
      go true p e = absurd (fault (sym (ap (λ (r : Refusal). r.number) e)))
      go false p e =
          let below : first_faulty file < block_count file = ⊎_elim (λ q. absurd (eqb-false _ _ p q)) (λ l. l)
          (eq-or-lt_of_le (first_false-most test (block_count file))) in
          let at : first_faulty file ≡ k = ap (λ (r : Refusal). r.spot) e in
          rw (← at) (below, ap (λ (r : Refusal). r.number) e, λ j l. eqb-true _ _ (first_false-below test (block_count file) j l))

  →first_fault : (k : ℕ) → LowestFault file number k → first_fault file ≡ refusal number k
  →first_fault k (within, here, below) =
      first_fault-at file k within below (λ none. fault (sym here ∙ none)) ∙ ap (λ (n : ℕ). refusal n k) here

  -- the test of the blocks
  exactly-fault : (bundle : List ℕ) → Exactly (bind (require (is_zero (first_fault file).number) (first_fault file).number (first_fault file).spot)
      (λ u. value bundle)) number (LowestFault file number)
  unfolding bind require
  exactly-fault bundle = record {
    line = λ at. (
      (λ e. first_fault→ at (to at (first_fault file) (is_zero (first_fault file).number) e)),
      (λ c. from at (→first_fault at c)),
    );
  }
    where
      to : (at : ℕ) (r : Refusal) (b : Bool) → bind (cond b (value (tt {0})) (refused r.number r.spot)) (λ u. value bundle) ≡ refused number at
          → r ≡ refusal number at
      to at r true e = impossible cc
      to at r false e = let n : r.number ≡ number = cc in let s : r.spot ≡ at = cc in λ i. record { number = n i; spot = s i }

      from : (at : ℕ) → first_fault file ≡ refusal number at
          → bind (cond (is_zero (first_fault file).number) (value (tt {0})) (refused (first_fault file).number (first_fault file).spot))
          (λ u. value bundle) ≡ refused number at
      from at e = rw (e, ne_eqb number 0 fault)

module _ (file : List ℕ) where
  pub opened-length-exactly : Exactly (opened file) file_length_number (λ spot. (spot ≡ 0) × (right_length (length file) ≡ false))
  unfolding opened any
  opened-length-exactly = exactly-here _ file_length_number 0 _ (faults_refuse file) refl

  pub opened-refuses : Refuses (file_length_number ∷ fault_numbers) (opened file)
  unfolding opened
  opened-refuses = refuses-test _ _ _ (faults_refuse file)

  pub opened-fault-exactly : (number : ℕ) → (number ≡ 0 → ⊥) → (file_length_number ≡ number → ⊥)
      → Exactly (opened file) number (λ spot. (right_length (length file) ≡ true) × LowestFault file number spot)
  unfolding opened
  opened-fault-exactly number fault other = exactly-later _ file_length_number 0 _ other (exactly-fault file number fault (bundle_of file))

  pub opened_gives : Gives (opened file) (λ bundle. (right_length (length file) ≡ true) × ((k : ℕ) → k < block_count file → fault_at file k ≡ 0)
      × (bundle ≡ bundle_of file))
  unfolding opened
  opened_gives = gives_same (gives_later _ file_length_number 0 _ (gives_later _ _ _ _ (gives_value (bundle_of file))))
      (λ bundle. (
        (λ (right, (none, is)). (right, first_fault-zero file (eqb-true _ _ none), is)),
        (λ (right, each, is). (right, (eq-eqb _ _ (ap (λ (r : Refusal). r.number) (first_fault-none file each)), is))),
      ))

module _ (bundle : List ℕ) where
  pub sealed-length-exactly : Exactly (sealed bundle) bundle_length_number (λ spot. (spot ≡ 0) × (right_size (length bundle) ≡ false))
  unfolding sealed any
  sealed-length-exactly = exactly-here _ bundle_length_number 0 _ (refuses-end (sealed_file bundle)) refl

  pub sealed-refuses : Refuses (bundle_length_number ∷ []) (sealed bundle)
  unfolding sealed
  sealed-refuses = refuses-test _ _ _ (refuses-end (sealed_file bundle))

  pub sealed_gives : Gives (sealed bundle) (λ file. (right_size (length bundle) ≡ true) × (file ≡ sealed_file bundle))
  unfolding sealed
  sealed_gives = gives_later _ bundle_length_number 0 _ (gives_value (sealed_file bundle))
