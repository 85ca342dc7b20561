-- The first member of a list, and of lists joined.
use Rattle.std.specs.Prelude.{◌≡◌, refl, Option, Some, None}
use Rattle.std.proofs.Common.{ap, ◌∙◌, arith}
use mathlib.Core.List.{List, [], ◌∷◌, ◌++◌, map, flat_map}
use Prim.Native.Nat.{ℕ, zero, suc, ◌<◌}
use Rattle.laws.specs.Booleans.{impossible}
use Rattle.laws.specs.Lists.{tabulate}

unfoldable pub first_of : {A : Type 0} → List A → Option A
first_of [] = None
first_of (x ∷ l) = Some x

module _ {A : Type 0} where
  first-append : (a b : List A) (x : A) → first_of a ≡ Some x → first_of (a ++ b) ≡ Some x
  unfolding first_of
  first-append [] b x e = impossible cc
  first-append (y ∷ a) b x e = e

  none-append : (a b : List A) → first_of a ≡ None → first_of (a ++ b) ≡ first_of b
  unfolding first_of
  none-append [] b e = refl
  none-append (y ∷ a) b e = impossible cc

module _ {A B : Type 0} (f : A → B) where
  pub first-map : (l : List A) (x : A) → first_of l ≡ Some x → first_of (map f l) ≡ Some (f x)
  unfolding first_of
  first-map [] x e = impossible cc
  first-map (y ∷ l) x e = let same : y ≡ x = cc in ap (λ (z : A). Some (f z)) same

  pub none-map : (l : List A) → first_of l ≡ None → first_of (map f l) ≡ None
  unfolding first_of
  none-map [] e = refl
  none-map (y ∷ l) e = impossible cc

-- of lists by number, joined: those before number i are empty
module _ {A : Type 0} (f : ℕ → List A) where
  pub first-numbered : (k : ℕ) (g : ℕ → ℕ) (i : ℕ) → i < k → ((j : ℕ) → j < i → first_of (f (g j)) ≡ None)
      → (x : A) → first_of (f (g i)) ≡ Some x → first_of (flat_map f (tabulate k g)) ≡ Some x
  unfolding flat_map tabulate
  first-numbered zero g i h before x e = absurd (omega arith)
  first-numbered (suc k) g zero h before x e = first-append (f (g 0)) (flat_map f (tabulate k (λ i. g (suc i)))) x e
  first-numbered (suc k) g (suc i) h before x e =
      none-append (f (g 0)) (flat_map f (tabulate k (λ i. g (suc i)))) (before 0 (omega arith))
      ∙ first-numbered k (λ i. g (suc i)) i (omega arith) (λ j b. before (suc j) (omega arith)) x e

  pub none-numbered : (k : ℕ) (g : ℕ → ℕ) → ((j : ℕ) → j < k → first_of (f (g j)) ≡ None) → first_of (flat_map f (tabulate k g)) ≡ None
  unfolding flat_map tabulate first_of
  none-numbered zero g none = refl
  none-numbered (suc k) g none =
      none-append (f (g 0)) (flat_map f (tabulate k (λ i. g (suc i)))) (none 0 (omega arith))
      ∙ none-numbered k (λ i. g (suc i)) (λ j b. none (suc j) (omega arith))
