-- Lists in an order: each element is so with every later one.
use Rattle.std.specs.Prelude.{refl, Bool, cond}
use Rattle.std.proofs.Common.{sym, ⊎_elim}
use Rattle.std.proofs.Math.Path.{subst}
use Rattle.std.proofs.Math.Bool.{true, false}
use mathlib.Core.List.Memᴰ
use mathlib.Core.List.{List, [], ◌∷◌, ◌++◌, map, flat_map, Memᴰ}
use Prim.Native.Nat.{ℕ, zero, suc, ◌<◌, zero-le, suc-le-suc}
use Rattle.laws.specs.Lists.{keep, keep-member, tabulate, tabulate_inverse, flat_map-member}

module _ {A : Type 0} (R : A → A → Type 0) where
  abbrev pub Sorted : List A → Type 0
  Sorted [] = Unit {0}
  Sorted (x ∷ xs) = ((y : A) → Memᴰ y xs → R x y) × Sorted xs

  pub sorted_append : (xs ys : List A) → Sorted xs → Sorted ys → ((x y : A) → Memᴰ x xs → Memᴰ y ys → R x y) → Sorted (xs ++ ys)
  sorted_append [] ys s t h = t
  sorted_append (x ∷ xs) ys s t h = (
    (λ y m. ⊎_elim (λ k. s.0 y k) (λ k. h x y (Memᴰ.head refl) k) (Memᴰ.append_cases xs m)),
    sorted_append xs ys s.1 t (λ z y m k. h z y (Memᴰ.tail m) k),
  )

  pub sorted_keep : (f : A → Bool) (xs : List A) → Sorted xs → Sorted (keep f xs)
  unfolding keep
  sorted_keep f [] s = tt
  sorted_keep f (x ∷ xs) s = go (f x) (sorted_keep f xs s.1)
    where
      go : (b : Bool) → Sorted (keep f xs) → Sorted (cond b (x ∷ keep f xs) (keep f xs))
      go true k = ((λ y m. s.0 y (keep-member f xs m).0), k)
      go false k = k

  pub sorted_tabulate : (n : ℕ) (f : ℕ → A) → ((i j : ℕ) → i < j → R (f i) (f j)) → Sorted (tabulate n f)
  unfolding tabulate
  sorted_tabulate zero f h = tt
  sorted_tabulate (suc n) f h = (
    (λ y m. let r = tabulate_inverse n (λ i. f (suc i)) m in subst (R (f zero)) (sym r.2) (h zero (suc r.0) (suc-le-suc zero-le))),
    sorted_tabulate n (λ i. f (suc i)) (λ i j l. h (suc i) (suc j) (suc-le-suc l)),
  )

-- ---- lists joined, and lists of images

module _ {A B : Type 0} (S : A → A → Type 0) (R : B → B → Type 0) (f : A → List B) where
  -- the lists of sorted elements, one behind the other
  pub sorted_flat_map : (xs : List A) → Sorted S xs → ((x : A) → Sorted R (f x))
      → ((x y : A) → S x y → (a b : B) → Memᴰ a (f x) → Memᴰ b (f y) → R a b) → Sorted R (flat_map f xs)
  unfolding flat_map
  sorted_flat_map [] s each across = tt
  sorted_flat_map (x ∷ xs) s each across = sorted_append R (f x) (flat_map f xs) (each x) (sorted_flat_map xs s.1 each across)
      (λ a b m k. let (y, there, in_y) = flat_map-member f xs k in across x y (s.0 y there) a b m in_y)

module _ {A B : Type 0} (S : A → A → Type 0) (R : B → B → Type 0) (f : A → B) where
  pub sorted_map : (xs : List A) → Sorted S xs → ((x y : A) → S x y → R (f x) (f y)) → Sorted R (map f xs)
  sorted_map [] s keeps = tt
  sorted_map (x ∷ xs) s keeps = (
    (λ b m. let (y, there, is) = Memᴰ.of_map f xs m in subst (R (f x)) is (keeps x y (s.0 y there))),
    sorted_map xs s.1 keeps,
  )
