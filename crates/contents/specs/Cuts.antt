-- Bytes cut into pieces from their front, where the bytes that are left say how many the next piece has.
use Rattle.std.specs.Prelude.{◌≡◌, refl, Bool, true, ℕ, zero, suc, ◌-◌, ◌≤◌, ◌<◌, eqb, length, drop}
use Rattle.std.proofs.Common.{sym, ap, ap₂, ◌∙◌, arith, eqb-true, drop_at, length-append}
use mathlib.Core.List.{List, [], ◌∷◌, ◌++◌, map, flat_map}

-- the pieces of some bytes, behind so many that are passed over
unfoldable pub cut_behind : {A : Type 0} → (List ℕ → ℕ) → (List ℕ → A) → ℕ → List ℕ → List A
cut_behind size first skip [] = []
cut_behind size first zero (x ∷ b) = first (x ∷ b) ∷ cut_behind size first (size (x ∷ b) - 1) b
cut_behind size first (suc k) (x ∷ b) = cut_behind size first k b

abbrev pub cut : {A : Type 0} → (List ℕ → ℕ) → (List ℕ → A) → List ℕ → List A
cut size first b = cut_behind size first 0 b

-- whether the last of them ends where the bytes do
unfoldable pub whole_behind : (List ℕ → ℕ) → ℕ → List ℕ → Bool
whole_behind size skip [] = eqb skip 0
whole_behind size zero (x ∷ b) = whole_behind size (size (x ∷ b) - 1) b
whole_behind size (suc k) (x ∷ b) = whole_behind size k b

abbrev pub cut_whole : (List ℕ → ℕ) → List ℕ → Bool
cut_whole size b = whole_behind size 0 b

-- pieces of one byte or more
module _ (size : List ℕ → ℕ) (long : (b : List ℕ) → 1 ≤ size b) where
  -- what is left behind the first byte, behind the first piece
  behind-first : (x : ℕ) (b : List ℕ) → drop (size (x ∷ b) - 1) b ≡ drop (size (x ∷ b)) (x ∷ b)
  behind-first x b = let next : suc (size (x ∷ b) - 1) ≡ size (x ∷ b) = omega (arith, long (x ∷ b)) in ap (λ (n : ℕ). drop n (x ∷ b)) next

  whole-skip : (k : ℕ) (b : List ℕ) → k ≤ length b → whole_behind size k b ≡ cut_whole size (drop k b)
  unfolding whole_behind
  whole-skip zero b h = refl
  whole-skip (suc k) [] h = absurd (omega arith)
  whole-skip (suc k) (x ∷ b) h = whole-skip k b (omega arith)

  whole-fits : (k : ℕ) (b : List ℕ) → whole_behind size k b ≡ true → k ≤ length b
  unfolding whole_behind
  whole-fits k [] e = omega (arith, eqb-true k 0 e)
  whole-fits zero (x ∷ b) e = omega arith
  whole-fits (suc k) (x ∷ b) e = omega (arith, whole-fits k b e)

  -- one piece cut off
  pub whole-next : (b : List ℕ) → 0 < length b → cut_whole size b ≡ true → (size b ≤ length b) × (cut_whole size (drop (size b) b) ≡ true)
  unfolding whole_behind
  whole-next [] h e = absurd (omega arith)
  whole-next (x ∷ b) h e =
      let fits : size (x ∷ b) - 1 ≤ length b = whole-fits (size (x ∷ b) - 1) b e in
      (omega arith, sym (ap (cut_whole size) (behind-first x b)) ∙ sym (whole-skip (size (x ∷ b) - 1) b fits) ∙ e)

  -- and back
  whole-joined : (b : List ℕ) → size b ≤ length b → cut_whole size (drop (size b) b) ≡ true → cut_whole size b ≡ true
  unfolding whole_behind
  whole-joined [] h e = refl
  whole-joined (x ∷ b) h e =
      let fits : size (x ∷ b) - 1 ≤ length b = omega (arith, long (x ∷ b)) in
      whole-skip (size (x ∷ b) - 1) b fits ∙ ap (cut_whole size) (behind-first x b) ∙ e

  module _ {A : Type 0} (first : List ℕ → A) where
    cut-skip : (k : ℕ) (b : List ℕ) → cut_behind size first k b ≡ cut size first (drop k b)
    unfolding cut_behind
    cut-skip zero b = refl
    cut-skip (suc k) [] = refl
    cut-skip (suc k) (x ∷ b) = cut-skip k b

    pub cut-next : (b : List ℕ) → 0 < length b → cut size first b ≡ first b ∷ cut size first (drop (size b) b)
    unfolding cut_behind
    cut-next [] h = absurd (omega arith)
    cut-next (x ∷ b) h =
        ap (λ (l : List A). first (x ∷ b) ∷ l) (cut-skip (size (x ∷ b) - 1) b ∙ ap (cut size first) (behind-first x b))

  -- ---- the bytes of each element of a list, one behind the other

  module _ {A : Type 0} (bytes_of : A → List ℕ) (sizes : (x : A) (rest : List ℕ) → size (bytes_of x ++ rest) ≡ length (bytes_of x)) where
    fits : (x : A) (rest : List ℕ) → size (bytes_of x ++ rest) ≤ length (bytes_of x ++ rest)
    fits x rest = omega (arith, sizes x rest, length-append (bytes_of x) rest)

    behind-is : (x : A) (rest : List ℕ) → drop (size (bytes_of x ++ rest)) (bytes_of x ++ rest) ≡ rest
    behind-is x rest = drop_at (bytes_of x) rest (size (bytes_of x ++ rest)) (sym (sizes x rest))

    pub joined-whole : (xs : List A) → cut_whole size (flat_map bytes_of xs) ≡ true
    unfolding whole_behind flat_map
    joined-whole [] = refl
    joined-whole (x ∷ xs) =
        let rest = flat_map bytes_of xs in
        whole-joined (bytes_of x ++ rest) (fits x rest) (ap (cut_whole size) (behind-is x rest) ∙ joined-whole xs)

    -- are cut into what their bytes give
    module _ {B : Type 0} (first : List ℕ → B) (f : A → B) (is : (x : A) (rest : List ℕ) → first (bytes_of x ++ rest) ≡ f x) where
      pub joined-cut : (xs : List A) → cut size first (flat_map bytes_of xs) ≡ map f xs
      unfolding cut_behind flat_map
      joined-cut [] = refl
      joined-cut (x ∷ xs) =
          let rest = flat_map bytes_of xs in
          cut-next first (bytes_of x ++ rest) (omega (arith, fits x rest, long (bytes_of x ++ rest)))
          ∙ ap₂ ◌∷◌ (is x rest) (ap (cut size first) (behind-is x rest) ∙ joined-cut xs)

pub cut-none : {A : Type 0} (size : List ℕ → ℕ) (first : List ℕ → A) → cut size first [] ≡ []
unfolding cut_behind
cut-none size first = refl
