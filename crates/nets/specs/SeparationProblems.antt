-- The separation problems of Badouel and Schlachter, section 2.3. The theorems are in proofs/SeparationProblems.antt.
use Rattle.std.specs.Prelude.{◌≡◌, ◌↔◌, ℕ, ◌<◌, pos, ◌<ℤ◌}
use mathlib.Core.List.{[], ◌∷◌, ◌++◌}
use Rattle.nets.specs.Nets.{Word, Place, Step, counts}
use Rattle.nets.specs.TokenGame.{Places, Language, language_of}
use Rattle.nets.specs.Regions.{◌⊆◌, product}

-- a place witnesses the separation problem ⟨v, e⟩, or solves it; if v = Ψ(w) for a word w that it permits, it inhibits e after reading w
abbrev pub Witnesses : ℕ → Place → Step → Type 0
Witnesses n p s = product n p s <ℤ pos 0

-- some place of R does
abbrev pub SolvedIn : ℕ → Places → Step → Type 0
SolvedIn n R s = (p : Place) × R p × Witnesses n p s

module _ (n : ℕ) (L : Language) where
  -- L^SP: the pairs (v, e) for which there is w in L with Ψ(w) = v and w·e not in L
  abbrev pub SeparationProblem : Step → Type 0
  SeparationProblem s = (w : Word) × L w × (counts n w ≡ s.row) × (s.event < n) × (L (w ++ s.event ∷ []) → ⊥)

  -- ---- of a set N of regions of L: N(L), or the sound regions (3.1.2)

  module _ (N : Places) where
    -- a set R of them is complete when it witnesses all separation problems that N solves
    pub record Complete (R : Places) : Type 0 where
      pub regions : R ⊆ N
      pub witnesses : (s : Step) → SeparationProblem s → SolvedIn n N s → SolvedIn n R s

    -- a suboptimal solution: L(R) ∩ L-as-E = L(N) ∩ L-as-E
    abbrev pub Suboptimal : Places → Type 0
    Suboptimal R = (w : Word) → L w → (e : ℕ) → e < n → language_of n R (w ++ e ∷ []) ↔ language_of n N (w ++ e ∷ [])
