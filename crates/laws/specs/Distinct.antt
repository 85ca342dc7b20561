-- Lists without duplicates, their lengths, and how many elements a set has.
use Rattle.std.specs.Prelude.{◌≡◌, Bool, cond, ◌↔◌, ◌⊎◌, length}
use Rattle.std.proofs.Math.Path.{refl, sym, ap}
use Rattle.std.proofs.Common.{◌∙◌, inl, inr, le_antisymm, le_trans, le_of_eq}
use Rattle.std.proofs.Math.Bool.{true, false}
use mathlib.Core.Logic.Iff
use Rattle.std.proofs.Math.Logic.{⊎_elim}
use mathlib.Core.List.Memᴰ
use mathlib.Core.List.{List, [], ◌∷◌, ◌++◌, flat_map, Memᴰ}
use Prim.Native.Nat.{ℕ, zero, suc, ◌≤◌, zero-le, suc-le-suc}
use Rattle.std.proofs.Math.Nat.{suc_inj, suc-ne-zero}
use Rattle.laws.specs.Lists.{keep, keep-member, tabulate, tabulate_inverse, flat_map-member}

module _ {A : Type 0} where
  -- no member stands at two places
  abbrev pub Distinct : List A → Type 0
  Distinct [] = Unit {0}
  Distinct (x ∷ xs) = (Memᴰ x xs → ⊥) × Distinct xs

  without : {x : A} (ys : List A) → Memᴰ x ys → List A
  without [] x'' = elim x'' [ ]
  without (y ∷ ys) (Memᴰ.head e) = ys
  without (y ∷ ys) (Memᴰ.tail m) = y ∷ without ys m

  length_without : {x : A} (ys : List A) (m : Memᴰ x ys) → length ys ≡ suc (length (without ys m))
  unfolding without
  length_without [] m = elim m [ ]
  length_without (y ∷ ys) (Memᴰ.head e) = refl
  length_without (y ∷ ys) (Memᴰ.tail m) = ap suc (length_without ys m)

  other-member : {x z : A} (ys : List A) (m : Memᴰ x ys) → (z ≡ x → ⊥) → Memᴰ z ys → Memᴰ z (without ys m)
  unfolding without
  other-member {x = x} {z = z} [] m ne k = elim m [ ]
  other-member (y ∷ ys) (Memᴰ.head e) ne k = ⊎_elim (λ q. absurd (ne (q ∙ sym e))) (λ r. r) (Memᴰ.cases_cons k)
  other-member {x} {z} (y ∷ ys) (Memᴰ.tail m) ne k = go (other-member ys m ne) (Memᴰ.cases_cons k)
    where
      go : (Memᴰ z ys → Memᴰ z (without ys m)) → (z ≡ y) ⊎ Memᴰ z ys → Memᴰ z (y ∷ without ys m)
      go below (inl q) = Memᴰ.head q
      go below (inr r) = Memᴰ.tail (below r)

  -- a list without duplicates is no longer than one that has all its members
  pub distinct-length_le : (xs ys : List A) → Distinct xs → ((x : A) → Memᴰ x xs → Memᴰ x ys) → length xs ≤ length ys
  distinct-length_le [] ys d h = zero-le
  distinct-length_le (x ∷ xs) ys d h =
      let m = h x (Memᴰ.head refl) in
      le_trans (suc-le-suc (distinct-length_le xs (without ys m) d.1 (others m))) (le_of_eq (sym (length_without ys m)))
    where
      others : (m : Memᴰ x ys) (z : A) → Memᴰ z xs → Memᴰ z (without ys m)
      others m z k = other-member ys m (λ q. d.0 (Memᴰ.cast (sym q) k)) (h z (Memᴰ.tail k))

  pub distinct-same-length : (xs ys : List A) → Distinct xs → Distinct ys → ((x : A) → Memᴰ x xs → Memᴰ x ys) → ((x : A) → Memᴰ x ys → Memᴰ x xs) → length xs ≡ length ys
  distinct-same-length xs ys d e f g = le_antisymm (distinct-length_le xs ys d f) (distinct-length_le ys xs e g)

  pub distinct_append : (xs ys : List A) → Distinct xs → Distinct ys → ((x : A) → Memᴰ x xs → Memᴰ x ys → ⊥) → Distinct (xs ++ ys)
  distinct_append [] ys d e apart = e
  distinct_append (x ∷ xs) ys d e apart = (fresh, distinct_append xs ys d.1 e (λ z m. apart z (Memᴰ.tail m)))
    where
      fresh : Memᴰ x (xs ++ ys) → ⊥
      fresh m = ⊎_elim d.0 (apart x (Memᴰ.head refl)) (Memᴰ.append_cases xs m)

  pub distinct-keep : (f : A → Bool) (xs : List A) → Distinct xs → Distinct (keep f xs)
  unfolding keep
  distinct-keep f [] d = tt
  distinct-keep f (x ∷ xs) d = go (f x) (distinct-keep f xs d.1)
    where
      go : (b : Bool) → Distinct (keep f xs) → Distinct (cond b (x ∷ keep f xs) (keep f xs))
      go true k = ((λ m. d.0 (keep-member f xs m).0), k)
      go false k = k

  pub distinct-tabulate : (n : ℕ) (f : ℕ → A) → ((i j : ℕ) → f i ≡ f j → i ≡ j) → Distinct (tabulate n f)
  unfolding tabulate
  distinct-tabulate zero f inj = tt
  distinct-tabulate (suc n) f inj = (fresh, distinct-tabulate n (λ i. f (suc i)) (λ i j e. suc_inj (inj (suc i) (suc j) e)))
    where
      fresh : Memᴰ (f zero) (tabulate n (λ i. f (suc i))) → ⊥
      fresh m = let r = tabulate_inverse n (λ i. f (suc i)) m in suc-ne-zero r.0 (sym (inj zero (suc r.0) r.2))

module _ {A B : Type 0} (f : A → List B) where
  pub distinct-flat_map : (l : List A) → Distinct l → ((x : A) → Distinct (f x)) → ((x z : A) (y : B) → Memᴰ y (f x) → Memᴰ y (f z) → x ≡ z) → Distinct (flat_map f l)
  unfolding flat_map
  distinct-flat_map [] d e apart = tt
  distinct-flat_map (x ∷ l) d e apart = distinct_append (f x) (flat_map f l) (e x) (distinct-flat_map l d.1 e apart) clash
    where
      clash : (y : B) → Memᴰ y (f x) → Memᴰ y (flat_map f l) → ⊥
      clash y m k = let r = flat_map-member f l k in d.0 (Memᴰ.cast (apart x r.0 y m r.2) r.1)

-- k is the cardinality of the set of all x with P: the length of a list that has them, nothing else, and each once
pub record Cardinality {A : Type 0} (P : A → Type 0) (k : ℕ) : Type 0 where
  pub listed : List A
  pub once : Distinct listed
  pub members : (x : A) → Memᴰ x listed ↔ P x
  pub size : length listed ≡ k

module _ {A : Type 0} {P : A → Type 0} where
  -- there is one such number
  pub cardinality_unique : (j k : ℕ) → Cardinality P j → Cardinality P k → j ≡ k
  cardinality_unique j k a b =
      sym a.size
      ∙ distinct-same-length a.listed b.listed a.once b.once
      (λ x m. (b.members x).1 ((a.members x).0 m)) (λ x m. (a.members x).1 ((b.members x).0 m))
      ∙ b.size

  -- and it is that of the same set, said otherwise
  pub cardinality_same : {Q : A → Type 0} {k : ℕ} → ((x : A) → P x ↔ Q x) → Cardinality P k → Cardinality Q k
  cardinality_same same a = record { listed = a.listed; once = a.once; members = λ x. Iff.trans (a.members x) (same x); size = a.size }
