-- Laws of a block: what its rules say, how the code builds it, and that a built block keeps the rules.
use Rattle.std.specs.Prelude.{◌≡◌, Bool, true, false, ◌↔◌, drop, eqb, leb}
use Rattle.std.proofs.Math.Path.{refl, sym, ap, ap₂}
use Rattle.std.proofs.Common.{◌∙◌, length-append, length-take, length-drop}
use mathlib.Core.Logic.Iff
use mathlib.Core.List.{List, [], ◌∷◌, ◌++◌, append_assoc}
use Prim.Native.Nat.{ℕ, zero, suc, ◌+◌, ◌-◌, ◌≤◌, ◌<◌}
use native.Mathlib.Omega.{arith}
use Rattle.std.proofs.Math.ListN.{length, take, replicate}
use Rattle.std.proofs.lemmas.List.{length-replicate}
use Rattle.std.proofs.Math.Seq.{take_all, take_at, drop_at}
use borrow.Author.Tests.{leb-true, eqb-true, eqb-false, eq-eqb, ne_eqb, le-leb}
use Rattle.laws.specs.Booleans.{impossible, and_left, and_right}
use Rattle.laws.specs.Lists.{all}
use Rattle.laws.specs.Parts.{spliced, spliced-next, adjacent}
use Rattle.laws.specs.Numbers.{Bytes, le16, number_at, number_at-after, le16-number_at}
use Rattle.refusals.specs.Table.{block_sums_number, block_number_number, block_use_number}
use Rattle.sums.specs.Checksums.{plain_sum, position_sum}
use Rattle.block.specs.Block.{padded, summed_bytes, with_sums, block, used_count, used_contents, is_zero, right_number, right_count, right_padding, right_use, right_sums, unless, fault}

-- ---- What the rules say

-- the number is that of the first rule that is broken
number-first : (p q s : Bool) → (unless p block_number_number (unless q block_use_number (unless s block_sums_number 0)) ≡ block_number_number) ↔ (p ≡ false)
number-first false q s = ((λ e. refl), (λ e. refl))
number-first true false s = ((λ e. absurd (omega arith)), (λ e. impossible cc))
number-first true true false = ((λ e. absurd (omega arith)), (λ e. impossible cc))
number-first true true true = ((λ e. absurd (omega arith)), (λ e. impossible cc))

use_first : (p q s : Bool) → (unless p block_number_number (unless q block_use_number (unless s block_sums_number 0)) ≡ block_use_number)
    ↔ ((p ≡ true) × (q ≡ false))
use_first false q s = ((λ e. absurd (omega arith)), (λ (e, f). impossible cc))
use_first true false s = ((λ e. (refl, refl)), (λ e. refl))
use_first true true false = ((λ e. absurd (omega arith)), (λ (e, f). impossible cc))
use_first true true true = ((λ e. absurd (omega arith)), (λ (e, f). impossible cc))

sums_first : (p q s : Bool) → (unless p block_number_number (unless q block_use_number (unless s block_sums_number 0)) ≡ block_sums_number)
    ↔ ((p ≡ true) × (q ≡ true) × (s ≡ false))
sums_first false q s = ((λ e. absurd (omega arith)), (λ (e, f, g). impossible cc))
sums_first true false s = ((λ e. absurd (omega arith)), (λ (e, f, g). impossible cc))
sums_first true true false = ((λ e. (refl, refl, refl)), (λ e. refl))
sums_first true true true = ((λ e. absurd (omega arith)), (λ (e, f, g). impossible cc))

none_broken : (p q s : Bool) → (unless p block_number_number (unless q block_use_number (unless s block_sums_number 0)) ≡ 0)
    ↔ ((p ≡ true) × (q ≡ true) × (s ≡ true))
none_broken false q s = ((λ e. absurd (omega arith)), (λ (e, f, g). impossible cc))
none_broken true false s = ((λ e. absurd (omega arith)), (λ (e, f, g). impossible cc))
none_broken true true false = ((λ e. absurd (omega arith)), (λ (e, f, g). impossible cc))
none_broken true true true = ((λ e. (refl, refl, refl)), (λ e. refl))

-- each number says which rules are kept, and which is the first that is broken
module _ (last : Bool) (number : ℕ) (b : List ℕ) where
  pub fault-number-exactly : (fault last number b ≡ block_number_number) ↔ (number_at b 0 ≡ number → ⊥)
  unfolding fault right_number
  fault-number-exactly = Iff.trans (number-first (right_number number b) (right_use last b) (right_sums b))
      (eqb-false (number_at b 0) number, ne_eqb (number_at b 0) number)

  pub fault_use_exactly : (fault last number b ≡ block_use_number) ↔ ((number_at b 0 ≡ number) × (right_use last b ≡ false))
  unfolding fault right_number
  fault_use_exactly = Iff.trans (use_first (right_number number b) (right_use last b) (right_sums b))
      ((λ (e, f). (eqb-true _ _ e, f)), (λ (e, f). (eq-eqb _ _ e, f)))

  pub fault-sums-exactly : (fault last number b ≡ block_sums_number) ↔ ((number_at b 0 ≡ number) × (right_use last b ≡ true) × (right_sums b ≡ false))
  unfolding fault right_number
  fault-sums-exactly = Iff.trans (sums_first (right_number number b) (right_use last b) (right_sums b))
      ((λ (e, f, g). (eqb-true _ _ e, f, g)), (λ (e, f, g). (eq-eqb _ _ e, f, g)))

  pub fault-none-exactly : (fault last number b ≡ 0) ↔ ((number_at b 0 ≡ number) × (right_use last b ≡ true) × (right_sums b ≡ true))
  unfolding fault right_number
  fault-none-exactly = Iff.trans (none_broken (right_number number b) (right_use last b) (right_sums b))
      ((λ (e, f, g). (eqb-true _ _ e, f, g)), (λ (e, f, g). (eq-eqb _ _ e, f, g)))

-- the rules of a block, one by one
pub record Rules (last : Bool) (number : ℕ) (b : List ℕ) : Type 0 where
  pub numbered : number_at b 0 ≡ number
  pub counted : right_count last (used_count b) ≡ true
  pub padding : all is_zero (take (504 - used_count b) (drop (4 + used_count b) b)) ≡ true
  pub plain : number_at b 508 ≡ plain_sum (take 508 b)
  pub position : number_at b 510 ≡ position_sum (take 508 b)

pub rules : (last : Bool) (number : ℕ) (b : List ℕ) → fault last number b ≡ 0 → Rules last number b
unfolding right_use right_padding right_sums
rules last number b e =
    let (numbered, contents, sums) = (fault-none-exactly last number b).0 e in
    record {
      numbered = numbered;
      counted = and_left _ _ contents;
      padding = and_right (right_count last (used_count b)) _ contents;
      plain = eqb-true _ _ (and_left _ _ sums);
      position = eqb-true _ _ (and_right (eqb (number_at b 508) (plain_sum (take 508 b))) _ sums);
    }

pub right_count-most : (last : Bool) (used : ℕ) → right_count last used ≡ true → used ≤ 504
unfolding right_count
right_count-most true used e = leb-true used 504 (and_right (leb 1 used) (leb used 504) e)
right_count-most false used e = omega (arith, eqb-true used 504 e)

pub right_count-some : (last : Bool) (used : ℕ) → right_count last used ≡ true → 1 ≤ used
unfolding right_count
right_count-some true used e = leb-true 1 used (and_left (leb 1 used) (leb used 504) e)
right_count-some false used e = omega (arith, eqb-true used 504 e)

pub right_count_intro : (last : Bool) (used : ℕ) → 1 ≤ used → used ≤ 504 → (last ≡ false → used ≡ 504) → right_count last used ≡ true
unfolding right_count
right_count_intro true used some most full = rw (le-leb 1 used some, le-leb used 504 most)
right_count_intro false used some most full = eq-eqb used 504 (full refl)

-- ---- Zeros

zeros_are_zero : (n : ℕ) → all is_zero (replicate n 0) ≡ true
unfolding all
zeros_are_zero zero = refl
zeros_are_zero (suc n) = zeros_are_zero n

all-zero-zeros : (l : List ℕ) → all is_zero l ≡ true → replicate (length l) 0 ≡ l
unfolding all
all-zero-zeros [] e = refl
all-zero-zeros (x ∷ l) e =
    rw (eqb-true x 0 (and_left (eqb x 0) (all is_zero l) e)) (ap (λ (t : List ℕ). 0 ∷ t) (all-zero-zeros l (and_right (eqb x 0) (all is_zero l) e)))

-- ---- Building a block

pub length-summed_bytes : (number : ℕ) (contents : List ℕ) → length contents ≤ 504 → length (summed_bytes number contents) ≡ 508
unfolding summed_bytes padded
length-summed_bytes number contents h = simp (length-append, length-replicate) (omega arith)

-- its pieces, written one after the other from `at` on
pub written-summed : (at number : ℕ) (contents l : List ℕ) → length contents ≤ 504 → at + 508 ≤ length l
    → spliced (at + 4 + length contents) (replicate (504 - length contents) 0)
    (spliced (at + 4) contents (spliced (at + 2) (le16 (length contents)) (spliced at (le16 number) l)))
    ≡ spliced at (summed_bytes number contents) l
unfolding summed_bytes padded
written-summed at number contents l most room =
    let head : List ℕ = le16 number ++ le16 (length contents) in
    let zeros : List ℕ = replicate (504 - length contents) 0 in
    let behind : at + 4 + length contents ≡ at + length (head ++ contents) = omega arith in
    rw (spliced-next at (le16 number) (le16 (length contents)) l (omega arith), spliced-next at head contents l (omega arith), behind)
    (spliced-next at (head ++ contents) zeros l (omega arith))

-- and the two sums after the bytes that they are of
pub written-sums : (at p q : ℕ) (body l : List ℕ) → length body ≡ 508 → at ≤ length l
    → spliced (at + 510) (le16 q) (spliced (at + 508) (le16 p) (spliced at body l)) ≡ spliced at (body ++ (le16 p ++ le16 q)) l
written-sums at p q body l size room =
    let first : spliced (at + 508) (le16 p) (spliced at body l) ≡ spliced at (body ++ le16 p) l = rw (← size) (spliced-next at body (le16 p) l room) in
    let behind : at + 510 ≡ at + length (body ++ le16 p) = omega (arith, length-append body (le16 p)) in
    rw (first, behind) (spliced-next at (body ++ le16 p) (le16 q) l room ∙ rw append_assoc)

-- ---- A built block keeps the rules

module _ (number : ℕ) (contents : List ℕ) (small : number < 65536) (most : length contents ≤ 504) where
  block-number : number_at (block number contents) 0 ≡ number
  unfolding number_at block with_sums summed_bytes
  block-number = omega arith

  block-count : used_count (block number contents) ≡ length contents
  unfolding used_count number_at block with_sums summed_bytes
  block-count = omega arith

  pub block-contents : used_contents (block number contents) ≡ contents
  unfolding used_contents block with_sums summed_bytes padded
  block-contents = rw (block-count, append_assoc) (take_at contents _ (length contents) refl)

  block-padding : all is_zero (take (504 - length contents) (drop (4 + length contents) (block number contents))) ≡ true
  unfolding block with_sums summed_bytes padded
  block-padding =
      let sums : List ℕ = le16 (plain_sum (summed_bytes number contents)) ++ le16 (position_sum (summed_bytes number contents)) in
      let zeros : List ℕ = replicate (504 - length contents) 0 in
      let before : List ℕ = le16 number ++ (le16 (length contents) ++ contents) in
      let shape : block number contents ≡ before ++ (zeros ++ sums) = ap (λ (l : List ℕ). le16 number ++ (le16 (length contents) ++ l)) (append_assoc contents zeros sums) in
      rw (shape, drop_at before (zeros ++ sums) (4 + length contents) (omega arith), take_at zeros sums (504 - length contents) (length-replicate _ _)) (zeros_are_zero (504 - length contents))

  block-summed : take 508 (block number contents) ≡ summed_bytes number contents
  unfolding block with_sums
  block-summed = take_at (summed_bytes number contents) _ 508 (length-summed_bytes number contents most)

  block-plain : number_at (block number contents) 508 ≡ plain_sum (summed_bytes number contents)
  unfolding number_at block with_sums plain_sum
  block-plain = number_at-after (summed_bytes number contents) _ 508 0 (length-summed_bytes number contents most) ∙ omega arith

  block-position : number_at (block number contents) 510 ≡ position_sum (summed_bytes number contents)
  unfolding number_at block with_sums position_sum
  block-position = number_at-after (summed_bytes number contents) _ 508 2 (length-summed_bytes number contents most) ∙ omega arith

  pub block-sound : (last : Bool) → right_count last (length contents) ≡ true → fault last number (block number contents) ≡ 0
  unfolding fault right_number right_use right_padding right_sums
  block-sound last counted =
      rw (block-number, eq-eqb number number refl, block-count, counted, block-padding, block-summed, block-plain, block-position, eq-eqb (plain_sum (summed_bytes number contents)) _ refl, eq-eqb (position_sum (summed_bytes number contents)) _ refl)

-- ---- The rules determine every byte of a block

module _ (last : Bool) (number : ℕ) (b : List ℕ) (size : length b ≡ 512) (small : Bytes b) (kept : Rules last number b) where
  used-small : used_count b ≤ 504
  used-small = right_count-most last (used_count b) kept.counted

  length-used : length (used_contents b) ≡ used_count b
  unfolding used_contents
  length-used = simp (length-take, length-drop) (omega (arith, used-small))

  padded-part : padded (used_contents b) ≡ take 504 (drop 4 b)
  unfolding padded used_contents
  padded-part =
      let unused : List ℕ = take (504 - used_count b) (drop (4 + used_count b) b) in
      let count : length unused ≡ 504 - used_count b = simp (length-take, length-drop) (omega (arith, used-small)) in
      let zeros : replicate (504 - length (used_contents b)) 0 ≡ unused = ap (λ (n : ℕ). replicate n 0) (ap (λ (n : ℕ). 504 - n) length-used ∙ sym count) ∙ all-zero-zeros unused kept.padding in
      let whole : used_count b + (504 - used_count b) ≡ 504 = omega (arith, used-small) in
      rw zeros (rw whole at (adjacent (used_count b) (504 - used_count b) 4 b))

  summed-part : summed_bytes number (used_contents b) ≡ take 508 b
  unfolding summed_bytes used_count
  summed-part =
      let first : le16 number ≡ take 2 b = ap le16 (sym kept.numbered) ∙ le16-number_at b 0 small (omega arith) in
      let second : le16 (length (used_contents b)) ≡ take 2 (drop 2 b) = ap le16 length-used ∙ le16-number_at b 2 small (omega arith) in
      ap₂ ◌++◌ first (ap₂ ◌++◌ second padded-part ∙ adjacent 2 504 2 b) ∙ adjacent 2 506 0 b

  -- the sums of the block of its number and its used contents are those that it holds
  sums_part : le16 (plain_sum (take 508 b)) ++ le16 (position_sum (take 508 b)) ≡ take 4 (drop 508 b)
  sums_part =
      ap₂ ◌++◌ (ap le16 (sym kept.plain) ∙ le16-number_at b 508 small (omega arith)) (ap le16 (sym kept.position) ∙ le16-number_at b 510 small (omega arith))
      ∙ adjacent 2 2 508 b

  -- the block of its number and its used contents is the block itself
  pub block_unique : block number (used_contents b) ≡ b
  unfolding block with_sums
  block_unique =
      ap (λ (l : List ℕ). l ++ (le16 (plain_sum l) ++ le16 (position_sum l))) summed-part
      ∙ ap (λ (l : List ℕ). take 508 b ++ l) sums_part
      ∙ adjacent 508 4 0 b
      ∙ take_all 512 b (omega arith)
