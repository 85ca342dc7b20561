-- Elements of a list kept by their index, in their order, and the index that each has then.
use Rattle.std.specs.Prelude.{◌≡◌, Bool}
use Rattle.std.proofs.Math.Path.{refl, ap}
use Rattle.std.proofs.Common.{◌∙◌, ⊎_elim, not-suc-le-zero, le_of_suc-le-suc}
use Rattle.std.proofs.Math.Bool.{true, false, cond}
use mathlib.Core.List.{List, [], ◌∷◌, ◌++◌, map, Memᴰ}
use Prim.Native.Nat.{ℕ, zero, suc, ◌+◌, ◌≤◌, ◌<◌}
use native.Mathlib.Omega.{arith}
use Rattle.std.proofs.Math.ListN.{length, get_or}
use Rattle.laws.specs.Booleans.{lt_or_le}

-- whether the elements behind the first are kept
abbrev behind : (ℕ → Bool) → ℕ → Bool
behind f i = f (suc i)

module _ {A : Type 0} where
  -- the elements whose index passes, in their order
  unfoldable pub keep_at : (ℕ → Bool) → List A → List A
  keep_at f [] = []
  keep_at f (x ∷ xs) = cond (f 0) (x ∷ keep_at (behind f) xs) (keep_at (behind f) xs)

-- how many indices below j pass: the index of element j among those that are kept
unfoldable pub rank : (ℕ → Bool) → ℕ → ℕ
rank f zero = 0
rank f (suc j) = cond (f 0) 1 0 + rank (behind f) j

module _ {A : Type 0} where
  pub keep_at-length : (f : ℕ → Bool) (xs : List A) → length (keep_at f xs) ≡ rank f (length xs)
  unfolding keep_at rank
  keep_at-length f [] = refl
  keep_at-length f (x ∷ xs) = go (f 0) (keep_at-length (behind f) xs)
    where
      go : (b : Bool) → length (keep_at (behind f) xs) ≡ rank (behind f) (length xs)
          → length (cond b (x ∷ keep_at (behind f) xs) (keep_at (behind f) xs)) ≡ cond b 1 0 + rank (behind f) (length xs)
      go true e = omega (arith, e)
      go false e = omega (arith, e)

  pub keep_at-most : (f : ℕ → Bool) (xs : List A) → length (keep_at f xs) ≤ length xs
  unfolding keep_at
  keep_at-most f [] = omega arith
  keep_at-most f (x ∷ xs) = go (f 0) (keep_at-most (behind f) xs)
    where
      go : (b : Bool) → length (keep_at (behind f) xs) ≤ length xs → length (cond b (x ∷ keep_at (behind f) xs) (keep_at (behind f) xs)) ≤ suc (length xs)
      go true e = omega (arith, e)
      go false e = omega (arith, e)

  -- an element that is kept, at its new index
  pub keep_at-at : (f : ℕ → Bool) (xs : List A) (j : ℕ) (d : A) → f j ≡ true → j < length xs → (rank f j < length (keep_at f xs)) × (get_or (keep_at f xs) (rank f j) d ≡ get_or xs j d)
  unfolding keep_at rank
  keep_at-at f [] j d e h = absurd (not-suc-le-zero h)
  keep_at-at f (x ∷ xs) zero d e h = rw e (omega arith, refl)
  keep_at-at f (x ∷ xs) (suc j) d e h = go (f 0) (keep_at-at (behind f) xs j d e (le_of_suc-le-suc h))
    where
      go : (b : Bool) → (rank (behind f) j < length (keep_at (behind f) xs)) × (get_or (keep_at (behind f) xs) (rank (behind f) j) d ≡ get_or xs j d)
          → (cond b 1 0 + rank (behind f) j < length (cond b (x ∷ keep_at (behind f) xs) (keep_at (behind f) xs)))
          × (get_or (cond b (x ∷ keep_at (behind f) xs) (keep_at (behind f) xs)) (cond b 1 0 + rank (behind f) j) d ≡ get_or xs j d)
      go true (there, is) =
          let one : 1 + rank (behind f) j ≡ suc (rank (behind f) j) = omega arith in
          (omega (arith, there), ap (λ (k : ℕ). get_or (x ∷ keep_at (behind f) xs) k d) one ∙ is)
      go false (there, is) =
          let none : 0 + rank (behind f) j ≡ rank (behind f) j = omega arith in
          (omega (arith, there), ap (λ (k : ℕ). get_or (keep_at (behind f) xs) k d) none ∙ is)

  -- each of them is the kept element of some index
  pub keep_at-from : (f : ℕ → Bool) (xs : List A) (i : ℕ) → i < length (keep_at f xs) → (j : ℕ) × (j < length xs) × (f j ≡ true) × (rank f j ≡ i)
  unfolding keep_at rank
  keep_at-from f [] i h = absurd (not-suc-le-zero h)
  keep_at-from f (x ∷ xs) i h = go (f 0) refl i h (keep_at-from (behind f) xs)
    where
      go : (b : Bool) → f 0 ≡ b → (i : ℕ) → i < length (cond b (x ∷ keep_at (behind f) xs) (keep_at (behind f) xs))
          → ((i : ℕ) → i < length (keep_at (behind f) xs) → (j : ℕ) × (j < length xs) × (f (suc j) ≡ true) × (rank (behind f) j ≡ i))
          → (j : ℕ) × (j < suc (length xs)) × (f j ≡ true) × (rank f j ≡ i)
      go true e zero h rest = (0, omega arith, e, refl)
      go true e (suc i) h rest = let (j, there, passes, is) = rest i (le_of_suc-le-suc h) in (suc j, omega (arith, there), passes, rw e (omega (arith, is)))
      go false e i h rest = let (j, there, passes, is) = rest i h in (suc j, omega (arith, there), passes, rw e (omega (arith, is)))

  pub keep_at-member : (f : ℕ → Bool) (xs : List A) {x : A} → Memᴰ x (keep_at f xs) → Memᴰ x xs
  unfolding keep_at
  keep_at-member f [] m = m
  keep_at-member f (y ∷ xs) {x} m = go (f 0) m (λ m. keep_at-member (behind f) xs m)
    where
      go : (b : Bool) → Memᴰ x (cond b (y ∷ keep_at (behind f) xs) (keep_at (behind f) xs)) → (Memᴰ x (keep_at (behind f) xs) → Memᴰ x xs) → Memᴰ x (y ∷ xs)
      go true (Memᴰ.head e) rest = Memᴰ.head e
      go true (Memᴰ.tail m) rest = Memᴰ.tail (rest m)
      go false m rest = Memᴰ.tail (rest m)

  -- where all pass, all are kept, at their own index
  pub keep_at-all : (f : ℕ → Bool) (xs : List A) → ((j : ℕ) → j < length xs → f j ≡ true) → keep_at f xs ≡ xs
  unfolding keep_at
  keep_at-all f [] h = refl
  keep_at-all f (x ∷ xs) h = rw (h 0 (omega arith)) (ap (λ (l : List A). x ∷ l) (keep_at-all (behind f) xs (λ j b. h (suc j) (omega arith))))

pub rank-all : (f : ℕ → Bool) (j : ℕ) → ((i : ℕ) → i < j → f i ≡ true) → rank f j ≡ j
unfolding rank
rank-all f zero h = refl
rank-all f (suc j) h = rw (h 0 (omega arith)) (omega (arith, rank-all (behind f) j (λ i b. h (suc i) (omega arith))))

pub rank_most : (f : ℕ → Bool) (j : ℕ) → rank f j ≤ j
unfolding rank
rank_most f zero = omega arith
rank_most f (suc j) = go (f 0) (rank_most (behind f) j)
  where
    go : (b : Bool) → rank (behind f) j ≤ j → cond b 1 0 + rank (behind f) j ≤ suc j
    go true h = omega arith
    go false h = omega arith

-- one index more
pub rank-next : (f : ℕ → Bool) (j : ℕ) → rank f (suc j) ≡ rank f j + cond (f j) 1 0
unfolding rank
rank-next f zero = omega arith
rank-next f (suc j) = omega (arith, rank-next (behind f) j)

-- more indices, more that pass
pub rank-more : (f : ℕ → Bool) (i j : ℕ) → i ≤ j → rank f i ≤ rank f j
rank-more f i zero h = let none : i ≡ 0 = omega arith in rw none (omega arith)
rank-more f i (suc j) h = ⊎_elim
    (λ less. omega (arith, rank-more f i j (omega arith), rank-next f j))
    (λ (all : suc j ≤ i). let same : i ≡ suc j = omega (arith, all, h) in rw same (omega arith))
    (lt_or_le i (suc j))

-- under a function
pub keep_at-map : {A B : Type 0} (g : A → B) (f : ℕ → Bool) (xs : List A) → keep_at f (map g xs) ≡ map g (keep_at f xs)
unfolding keep_at
keep_at-map g f [] = refl
keep_at-map {A} {B} g f (x ∷ xs) = go (f 0) (keep_at-map g (behind f) xs)
  where
    go : (b : Bool) → keep_at (behind f) (map g xs) ≡ map g (keep_at (behind f) xs)
        → cond b (g x ∷ keep_at (behind f) (map g xs)) (keep_at (behind f) (map g xs)) ≡ map g (cond b (x ∷ keep_at (behind f) xs) (keep_at (behind f) xs))
    go true e = ap (λ (l : List B). g x ∷ l) e
    go false e = e

-- tests that agree below an index
pub rank_same : (f g : ℕ → Bool) (j : ℕ) → ((i : ℕ) → i < j → f i ≡ g i) → rank f j ≡ rank g j
unfolding rank
rank_same f g zero same = refl
rank_same f g (suc j) same = rw (same 0 (omega arith)) (ap (λ (k : ℕ). cond (g 0) 1 0 + k) (rank_same (behind f) (behind g) j (λ i h. same (suc i) (omega arith))))

pub keep_at-same : {A : Type 0} (f g : ℕ → Bool) (xs : List A) → ((i : ℕ) → i < length xs → f i ≡ g i) → keep_at f xs ≡ keep_at g xs
unfolding keep_at
keep_at-same f g [] same = refl
keep_at-same {A} f g (x ∷ xs) same = rw (same 0 (omega arith), keep_at-same (behind f) (behind g) xs (λ i h. same (suc i) (omega arith)))

-- one element more
pub keep_at_snoc : {A : Type 0} (f : ℕ → Bool) (xs : List A) (y : A) → keep_at f (xs ++ y ∷ []) ≡ keep_at f xs ++ cond (f (length xs)) (y ∷ []) []
unfolding keep_at
keep_at_snoc f [] y = refl
keep_at_snoc {A} f (x ∷ xs) y = go (f 0) (keep_at_snoc (behind f) xs y)
  where
    last : List A
    last = cond (f (suc (length xs))) (y ∷ []) []

    go : (b : Bool) → keep_at (behind f) (xs ++ y ∷ []) ≡ keep_at (behind f) xs ++ last
        → cond b (x ∷ keep_at (behind f) (xs ++ y ∷ [])) (keep_at (behind f) (xs ++ y ∷ [])) ≡ cond b (x ∷ keep_at (behind f) xs) (keep_at (behind f) xs) ++ last
    go true e = ap (λ (l : List A). x ∷ l) e
    go false e = e
