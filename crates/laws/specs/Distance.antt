-- The Hamming distance of two lists of one length: how many positions differ.
use Rattle.std.specs.Prelude.{◌≡◌, refl, Bool, true, false, cond, List, [], ◌∷◌, ℕ, zero, suc, ◌+◌, ◌≤◌, ◌<◌, eqb, length, take, drop, get_or, set}
use Rattle.std.proofs.Common.{ap, ap₂, ⊎_elim, suc-le-suc, not-suc-le-zero, zero-lt-suc, arith, eqb-true, eq-eqb}
use Rattle.std.proofs.Math.Nat.{suc_inj}
use Rattle.laws.specs.Booleans.{lt_or_le}

-- 0 for two elements that are equal, else 1
unfoldable pub differing : ℕ → ℕ → ℕ
differing x y = cond (eqb x y) 0 1

unfoldable pub distance : List ℕ → List ℕ → ℕ
distance [] ys = 0
distance (x ∷ xs) [] = 0
distance (x ∷ xs) (y ∷ ys) = differing x y + distance xs ys

differing-same : (x : ℕ) → differing x x ≡ 0
unfolding differing
differing-same x = rw (eq-eqb x x refl)

differing-most : (x y : ℕ) → differing x y ≤ 1
unfolding differing
differing-most x y = go (eqb x y)
  where
    go : (b : Bool) → cond {A = ℕ} b 0 1 ≤ 1
    go true = omega arith
    go false = omega arith

differing-none : (x y : ℕ) → differing x y ≡ 0 → x ≡ y
unfolding differing
differing-none x y = go (eqb x y) refl
  where
    go : (b : Bool) → eqb x y ≡ b → cond {A = ℕ} b 0 1 ≡ 0 → x ≡ y
    go true e none = eqb-true x y e
    go false e none = absurd (omega (arith, none))

-- ---- No position differs

pub distance_self : (xs : List ℕ) → distance xs xs ≡ 0
unfolding distance
distance_self [] = refl
distance_self (x ∷ xs) = omega (arith, differing-same x, distance_self xs)

pub distance_none : (xs ys : List ℕ) → length xs ≡ length ys → distance xs ys ≡ 0 → xs ≡ ys
unfolding distance
distance_none [] [] size none = refl
distance_none [] (y ∷ ys) size none = absurd (omega (arith, size))
distance_none (x ∷ xs) [] size none = absurd (omega (arith, size))
distance_none (x ∷ xs) (y ∷ ys) size none =
    ap₂ ◌∷◌ (differing-none x y (omega (arith, none))) (distance_none xs ys (suc_inj size) (omega (arith, none)))

-- ---- Parts

-- the positions that differ are those of the front and those behind it
pub distance-parts : (n : ℕ) (xs ys : List ℕ) → distance xs ys ≡ distance (take n xs) (take n ys) + distance (drop n xs) (drop n ys)
unfolding distance
distance-parts zero xs ys = omega arith
distance-parts (suc n) [] ys = refl
distance-parts (suc n) (x ∷ xs) [] = omega (arith, none (drop n xs))
  where
    none : (l : List ℕ) → distance l [] ≡ 0
    none [] = refl
    none (z ∷ l) = refl
distance-parts (suc n) (x ∷ xs) (y ∷ ys) = omega (arith, distance-parts n xs ys)

-- a part differs in no more positions than the whole
pub distance-part : (n at : ℕ) (xs ys : List ℕ) → distance (take n (drop at xs)) (take n (drop at ys)) ≤ distance xs ys
distance-part n at xs ys = omega (arith, distance-parts at xs ys, distance-parts n (drop at xs) (drop at ys))

-- ---- One position more

-- an element put anywhere makes at most one position more differ
pub distance-set : (xs ys : List ℕ) (i y : ℕ) → distance xs (set ys i y) ≤ distance xs ys + 1
unfolding distance
distance-set [] ys i y = omega arith
distance-set (x ∷ xs) [] i y = omega arith
distance-set (x ∷ xs) (z ∷ ys) zero y = omega (arith, differing-most x y)
distance-set (x ∷ xs) (z ∷ ys) (suc i) y = omega (arith, distance-set xs ys i y)

-- position i differs, and where it is put right one position less does
pub record DiffersAt (xs ys : List ℕ) (i : ℕ) : Type 0 where
  pub within : i < length xs
  pub here : get_or ys i 0 ≡ get_or xs i 0 → ⊥
  pub fewer : distance xs ys ≡ suc (distance (set xs i (get_or ys i 0)) ys)

-- where the distance is not 0 there is such a position
pub distance_some : (xs ys : List ℕ) → length xs ≡ length ys → 1 ≤ distance xs ys → (i : ℕ) × DiffersAt xs ys i
unfolding distance
distance_some [] ys size some = absurd (not-suc-le-zero some)
distance_some (x ∷ xs) [] size some = absurd (not-suc-le-zero some)
distance_some (x ∷ xs) (y ∷ ys) size some = ⊎_elim
    (λ low. let (i, d) = distance_some xs ys (suc_inj size) (omega arith) in (suc i, behind i d))
    (λ high. (0, first high))
    (lt_or_le (differing x y) 1)
  where
    behind : (i : ℕ) → DiffersAt xs ys i → DiffersAt (x ∷ xs) (y ∷ ys) (suc i)
    behind i d = record { within = suc-le-suc d.within; here = d.here; fewer = omega (arith, d.fewer) }

    first : 1 ≤ differing x y → DiffersAt (x ∷ xs) (y ∷ ys) 0
    first high = record {
      within = zero-lt-suc (length xs);
      here = λ same. omega (arith, high, ap (differing x) same, differing-same x);
      fewer = omega (arith, differing-most x y, differing-same y);
    }
