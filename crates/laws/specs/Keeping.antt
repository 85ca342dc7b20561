-- The members of a list that pass a test, as a loop goes through them.
use Rattle.std.specs.Prelude.{◌≡◌, refl, Bool, true, false, cond, ℕ, suc, ◌+◌, ◌<◌, ◌≤◌, length, get_or, drop}
use Rattle.std.proofs.Common.{sym, ap, ap₂, zero-le, suc-le-suc, zero-add, add-one, arith, drop-cons}
use mathlib.Core.List.{List, [], ◌∷◌, ◌++◌, Memᴰ}
use Rattle.laws.specs.Lists.{keep}

-- the members from k on

module _ {A : Type 0} (f : A → Bool) (xs : List A) (k : ℕ) (d : A) (h : k < length xs) where
  pub keep-passed : f (get_or xs k d) ≡ true → keep f (drop k xs) ≡ get_or xs k d ∷ keep f (drop (k + 1) xs)
  unfolding keep
  keep-passed t = rw (drop-cons xs k d h, t, add-one)

  pub keep-failed : f (get_or xs k d) ≡ false → keep f (drop k xs) ≡ keep f (drop (k + 1) xs)
  unfolding keep
  keep-failed t = rw (drop-cons xs k d h, t, add-one)

-- how many pass: the first, and the others; no more than there are, and all of them where each passes
pub keep-first : {A : Type 0} (f : A → Bool) (x : A) (xs : List A) → length (keep f (x ∷ xs)) ≡ cond (f x) 1 0 + length (keep f xs)
unfolding keep
keep-first f x xs = go (f x)
  where
    go : (p : Bool) → length (cond p (x ∷ keep f xs) (keep f xs)) ≡ cond p 1 0 + length (keep f xs)
    go true = omega arith
    go false = omega arith

pub keep-most : {A : Type 0} (f : A → Bool) (xs : List A) → length (keep f xs) ≤ length xs
unfolding keep
keep-most f [] = zero-le
keep-most f (x ∷ xs) = go (f x) (keep-most f xs)
  where
    go : (p : Bool) → length (keep f xs) ≤ length xs → length (cond p (x ∷ keep f xs) (keep f xs)) ≤ suc (length xs)
    go true h = suc-le-suc h
    go false h = omega arith

pub keep_all : {A : Type 0} (f : A → Bool) (xs : List A) → ((x : A) → f x ≡ true) → keep f xs ≡ xs
unfolding keep
keep_all f [] h = refl
keep_all {A} f (x ∷ xs) h = rw (h x) (ap (λ (l : List A). x ∷ l) (keep_all f xs h))

-- and with one member more
pub keep-last : {A : Type 0} (f : A → Bool) (xs : List A) (x : A) → length (keep f (xs ++ x ∷ [])) ≡ length (keep f xs) + length (keep f (x ∷ []))
unfolding keep
keep-last f [] x = sym (zero-add _)
keep-last f (y ∷ xs) x = go (f y) (keep-last f xs x)
  where
    go : (p : Bool) → length (keep f (xs ++ x ∷ [])) ≡ length (keep f xs) + length (keep f (x ∷ []))
        → length (cond p (y ∷ keep f (xs ++ x ∷ [])) (keep f (xs ++ x ∷ []))) ≡ length (cond p (y ∷ keep f xs) (keep f xs)) + length (keep f (x ∷ []))
    go true e = omega arith
    go false e = e

-- two lists, one behind the other
pub keep_append : {A : Type 0} (f : A → Bool) (xs ys : List A) → keep f (xs ++ ys) ≡ keep f xs ++ keep f ys
unfolding keep
keep_append f [] ys = refl
keep_append {A} f (x ∷ xs) ys = go (f x) (keep_append f xs ys)
  where
    go : (p : Bool) → keep f (xs ++ ys) ≡ keep f xs ++ keep f ys → cond p (x ∷ keep f (xs ++ ys)) (keep f (xs ++ ys)) ≡ cond p (x ∷ keep f xs) (keep f xs) ++ keep f ys
    go true e = ap (λ (l : List A). x ∷ l) e
    go false e = e

-- tests that agree on the members
pub keep_same : {A : Type 0} (f g : A → Bool) (xs : List A) → ((x : A) → Memᴰ x xs → f x ≡ g x) → keep f xs ≡ keep g xs
unfolding keep
keep_same f g [] h = refl
keep_same {A} f g (x ∷ xs) h = ap₂ (λ (p : Bool) (l : List A). cond p (x ∷ l) l) (h x (Memᴰ.head refl)) (keep_same f g xs (λ y m. h y (Memᴰ.tail m)))
