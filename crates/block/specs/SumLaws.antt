-- What the sums of a block detect: two blocks whose sums are right, and that are not the same, differ in three bytes or more.
use Rattle.std.specs.Prelude.{◌≡◌, refl, ◌↔◌, ℕ, zero, suc, ◌+◌, ◌≤◌, ◌<◌, eqb, length, take, drop}
use Rattle.std.proofs.Math.Path.{sym}
use Rattle.std.proofs.Common.{ap, ap₂, ◌∙◌, arith, length-take, length-drop, drop-drop, take_all}
use Rattle.std.proofs.Math.Bool.{true}
use mathlib.Core.List.{List}
use borrow.Author.Tests.{eqb-true}
use Rattle.laws.specs.Booleans.{and_left, and_right}
use Rattle.laws.specs.Numbers.{Bytes, bytes_take, le16, number_at, number_at-part, le16-number_at}
use Rattle.laws.specs.Distance.{distance, distance_self, distance_none, distance-parts}
use Rattle.sums.specs.Checksums.{plain_sum, position_sum}
use Rattle.sums.proofs.Detection.{one-summed, two-summed}
use Rattle.block.specs.Block.{right_sums}

-- a field of two bytes is the same exactly where its bytes are
field-same : (b c : List ℕ) (at : ℕ) → Bytes b → Bytes c → at + 1 < length b → at + 1 < length c
    → (number_at c at ≡ number_at b at) ↔ (distance (take 2 (drop at b)) (take 2 (drop at c)) ≡ 0)
field-same b c at old new inb inc = (to, from)
  where
    part : List ℕ → List ℕ
    part l = take 2 (drop at l)

    two : (l : List ℕ) → at + 1 < length l → length (part l) ≡ 2
    two l h = simp (length-take, length-drop) (omega arith)

    to : number_at c at ≡ number_at b at → distance (part b) (part c) ≡ 0
    to e = ap (distance (part b)) (sym (le16-number_at c at new inc) ∙ ap le16 e ∙ le16-number_at b at old inb) ∙ distance_self (part b)

    from : distance (part b) (part c) ≡ 0 → number_at c at ≡ number_at b at
    from e =
        let same : part b ≡ part c = distance_none (part b) (part c) (two b inb ∙ sym (two c inc)) e in
        sym (number_at-part c at) ∙ ap (λ (l : List ℕ). number_at l 0) (sym same) ∙ number_at-part b at

module _ (b c : List ℕ) (sizeb : length b ≡ 512) (sizec : length c ≡ 512) (old : Bytes b) (new : Bytes c)
    (rightb : right_sums b ≡ true) (rightc : right_sums c ≡ true) where
  -- how many of bytes 0 to 507 differ, of S and of W
  abbrev summed : ℕ
  summed = distance (take 508 b) (take 508 c)

  abbrev plain : ℕ
  plain = distance (take 2 (drop 508 b)) (take 2 (drop 508 c))

  abbrev position : ℕ
  position = distance (take 2 (drop 510 b)) (take 2 (drop 510 c))

  all_three : distance b c ≡ summed + plain + position
  all_three = omega (arith, distance-parts 508 b c, distance-parts 2 (drop 508 b) (drop 508 c), ap₂ distance (end b sizeb) (end c sizec))
    where
      end : (l : List ℕ) → length l ≡ 512 → drop 2 (drop 508 l) ≡ take 2 (drop 510 l)
      end l size = drop-drop 2 508 l ∙ sym (take_all 2 (drop 510 l) (omega (arith, length-drop 510 l)))

  plain-same : (plain_sum (take 508 c) ≡ plain_sum (take 508 b)) ↔ (plain ≡ 0)
  unfolding right_sums
  plain-same =
      let s : (l : List ℕ) → right_sums l ≡ true → number_at l 508 ≡ plain_sum (take 508 l) = λ l right. eqb-true _ _ (and_left _ _ right) in
      let (to, from) = field-same b c 508 old new (omega arith) (omega arith) in
      ((λ e. to (s c rightc ∙ e ∙ sym (s b rightb))), (λ e. sym (s c rightc) ∙ from e ∙ s b rightb))

  position-same : (position_sum (take 508 c) ≡ position_sum (take 508 b)) ↔ (position ≡ 0)
  unfolding right_sums
  position-same =
      let s : (l : List ℕ) → right_sums l ≡ true → number_at l 510 ≡ position_sum (take 508 l)
      = λ l right. eqb-true _ _ (and_right (eqb (number_at l 508) (plain_sum (take 508 l))) _ right) in
      let (to, from) = field-same b c 510 old new (omega arith) (omega arith) in
      ((λ e. to (s c rightc ∙ e ∙ sym (s b rightb))), (λ e. sym (s c rightc) ∙ from e ∙ s b rightb))

  -- that differ in two bytes at most: they are the same
  pub same_block : distance b c ≤ 2 → c ≡ b
  same_block near = go summed refl
    where
      f : List ℕ
      f = take 508 b

      g : List ℕ
      g = take 508 c

      sizef : length f ≡ 508
      sizef = simp length-take (omega arith)

      size : length f ≡ length g
      size = simp length-take (omega arith)

      go : (n : ℕ) → summed ≡ n → c ≡ b
      go zero e =
          let fronts : f ≡ g = distance_none f g size e in
          let s : plain ≡ 0 = plain-same.0 (ap plain_sum (sym fronts)) in
          let w : position ≡ 0 = position-same.0 (ap position_sum (sym fronts)) in
          sym (distance_none b c (sizeb ∙ sym sizec) (omega (arith, all_three, s, w)))
      go (suc zero) e =
          let (s, w) = one-summed f g size (omega (arith, sizef)) (bytes_take 508 b old) (bytes_take 508 c new) e in
          let s-differs : plain ≡ 0 → ⊥ = λ z. s (plain-same.1 z) in
          let w-differs : position ≡ 0 → ⊥ = λ z. w (position-same.1 z) in
          absurd (omega (arith, all_three, s-differs, w-differs))
      go (suc (suc zero)) e =
          absurd (two-summed f g size (omega (arith, sizef)) (bytes_take 508 b old) (bytes_take 508 c new) e
          (plain-same.1 (omega (arith, all_three))) (position-same.1 (omega (arith, all_three))))
      go (suc (suc (suc n))) e = absurd (omega (arith, all_three))
