-- The regions of Badouel and Schlachter, section 2.2: the definitions. The theorems are in proofs/Regions.antt. Their section 2.1 is in
-- TokenGame.antt, 2.3 in SeparationProblems.antt, 3.1.1 in ParikhClosure.antt, 3.1.2 in Completed.antt.
use Rattle.std.specs.Prelude.{◌≡◌, [], ◌∷◌, ◌++◌, ℕ, ℤ, neg_ℤ, ◌+ℤ◌, ◌-ℤ◌, ◌*ℤ◌, ◌≤ℤ◌}
use Rattle.std.proofs.Math.IntN.{pos}
use Rattle.laws.specs.Differences.{sumℤ}
use Rattle.nets.specs.Nets.{Word, Place, Step, at, same, counts}
use Rattle.nets.specs.Fits.{Below}
use Rattle.nets.specs.TokenGame.{Places, Language}

module _ {A : Type 0} where
  infix 4 ◌⊆◌
  abbrev pub ◌⊆◌ : (A → Type 0) → (A → Type 0) → Type 0
  P ⊆ Q = (x : A) → P x → Q x

-- ---- 2.2: prefix-closed languages

-- a prefix-closed language over E; the empty word is in it, since Ψ(ε) is a state of it (3.1.1)
pub record PrefixClosed (n : ℕ) (L : Language) : Type 0 where
  pub events : (w : Word) → L w → Below n w
  pub empty : L []
  pub shorter : (u s : Word) → L (u ++ s) → L u

-- ---- 2.2: the product ⟨v, e⟩ · p

-- of ⟨v, e⟩ = (1; v; −v − e) and the place (M₀(p); •p; p•)
unfoldable pub product : ℕ → Place → Step → ℤ
product n p s =
    pos p.initial
    +ℤ sumℤ n (λ i. pos (at s.row i) *ℤ pos (p.produced i))
    +ℤ sumℤ n (λ i. (neg_ℤ (pos (at s.row i)) -ℤ pos (same s.event i)) *ℤ pos (p.consumed i))

-- ---- 2.2: constraints and regions

module _ (n : ℕ) (L : Language) where
  -- L^C: the pairs (v, e) for which there is w in L with Ψ(w) = v and w·e in L
  abbrev pub Constraint : Step → Type 0
  Constraint s = (w : Word) × L w × (counts n w ≡ s.row) × L (w ++ s.event ∷ [])

  -- N(L), the regions of L: the places p with L^C p ≥ 0. With `Constraint`, this is equation (7)
  abbrev pub Region : Places
  Region p = (s : Step) → Constraint s → pos 0 ≤ℤ product n p s
