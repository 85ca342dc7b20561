-- What the sums of bytes detect: in bytes that differ in one position both sums differ, in bytes that differ in two one of them does.
use Rattle.std.specs.Prelude.{◌≡◌, refl, List, length}
use Rattle.std.proofs.Math.Path.{sym}
use Rattle.std.proofs.Common.{ap, ◌∙◌, arith, length-set, get_or-set_same, get_or-set_other}
use Rattle.std.proofs.Math.Logic.{⊎_elim}
use Prim.Native.Nat.{ℕ, ◌+◌, ◌<◌}
use Rattle.std.proofs.Math.ListN.{get_or, set}
use Rattle.std.proofs.lemmas.List.{set_comm}
use Rattle.laws.specs.Booleans.{lt_or_le}
use Rattle.laws.specs.Lists.{all, tabulate}
use Rattle.laws.specs.Numbers.{Bytes}
use Rattle.laws.specs.Distance.{distance, DiffersAt, distance_none, distance_some}
use Rattle.laws.specs.Sums.{weighted-set}
use Rattle.laws.specs.Primes.{Prime, undivided, prime-tested, weighted-one, weighted-two}
use Rattle.sums.specs.Checksums.{plain_sum, position_sum}
use Rattle.sums.specs.Detection.{modulus, weight}

-- no number from 2 to 255 divides it, and it is below 256 × 256
prime : Prime modulus
unfolding undivided all tabulate
prime = prime-tested 254 modulus (omega arith) (omega arith) refl

module _ (f g : List ℕ) (size : length f ≡ length g) (short : length f < modulus) (smallf : Bytes f) (smallg : Bytes g) where
  old : (k : ℕ) → get_or f k 0 < modulus
  old k = omega (arith, smallf k)

  new : (k : ℕ) → get_or g k 0 < modulus
  new k = omega (arith, smallg k)

  -- in one: both sums differ
  pub one-summed : distance f g ≡ 1 → (plain_sum g ≡ plain_sum f → ⊥) × (position_sum g ≡ position_sum f → ⊥)
  unfolding plain_sum position_sum
  one-summed e =
      let (i, d) = distance_some f g size (omega arith) in
      let is : set f i (get_or g i 0) ≡ g = distance_none _ g (length-set f i (get_or g i 0) ∙ size) (omega (arith, d.fewer)) in (
        (λ agree. d.here (weighted-one modulus prime (λ k. 1) f g old new i d.within is (omega arith) (omega arith) agree)),
        (λ agree. d.here (weighted-one modulus prime weight f g old new i d.within is (omega arith) (omega (arith, d.within)) agree)),
      )

  -- in two: one of the sums differs
  pub two-summed : distance f g ≡ 2 → plain_sum g ≡ plain_sum f → position_sum g ≡ position_sum f → ⊥
  unfolding plain_sum position_sum
  two-summed e plain position =
      let (i, first) = distance_some f g size (omega arith) in
      let (j, second) = distance_some (set f i (get_or g i 0)) g (length-set f i (get_or g i 0) ∙ size) (omega (arith, first.fewer)) in
      differs i j first second
    where
      differs : (i j : ℕ) → DiffersAt f g i → DiffersAt (set f i (get_or g i 0)) g j → ⊥
      differs i j first second = ⊎_elim
          (λ less. second.here (weighted-two modulus prime weight f g old new i j here there is
          (omega arith) (omega (arith, there)) sums position ∙ sym other))
          (λ high.
          let less : j < i = omega (arith, high, apart) in
          first.here (weighted-two modulus prime weight f g old new j i there here (set_comm f j i y x apart ∙ is)
          (omega arith) (omega (arith, here)) (omega (arith, sums)) position))
          (lt_or_le i j)
        where
          x : ℕ
          x = get_or g i 0

          y : ℕ
          y = get_or g j 0

          here : i < length f
          here = first.within

          there : j < length f
          there = omega (arith, second.within, length-set f i x)

          is : set (set f i x) j y ≡ g
          is = distance_none _ g (length-set (set f i x) j y ∙ length-set f i x ∙ size) (omega (arith, first.fewer, second.fewer))

          apart : j ≡ i → ⊥
          apart q = second.here
              (ap (λ (k : ℕ). get_or g k 0) q ∙ sym (get_or-set_same f i x 0 here) ∙ ap (λ (k : ℕ). get_or (set f i x) k 0) (sym q))

          other : get_or (set f i x) j 0 ≡ get_or f j 0
          other = get_or-set_other f i j x 0 apart

          -- S asks for opposite changes
          sums : x + y ≡ get_or f i 0 + get_or f j 0
          sums =
              let first-sum = weighted-set (λ (k : ℕ). 1) f i x here in
              let second-sum = weighted-set (λ (k : ℕ). 1) (set f i x) j y second.within in
              omega (arith, first-sum, rw is at second-sum, plain, other, smallf i, smallf j, smallg i, smallg j)
