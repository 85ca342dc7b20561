-- The Parikh closure of Badouel and Schlachter, section 3.1.1: the definitions. The theorems are in proofs/ParikhClosure.antt.
use Rattle.std.specs.Prelude.{◌≡◌, ◌↔◌, ℕ, ◌+◌, ◌<◌, set}
use mathlib.Core.List.{[], ◌∷◌, ◌++◌}
use Rattle.nets.specs.Nets.{Word, Counts, at, counts}
use Rattle.nets.specs.Fits.{Below}
use Rattle.nets.specs.TokenGame.{Language}
use Rattle.nets.specs.Regions.{PrefixClosed, Constraint}

-- ---- Parikh-closed languages

-- prefix-closed, and words with the same Parikh vector are followed by the same events
pub record ParikhClosed (n : ℕ) (L : Language) : Type 0 where
  pub closed : PrefixClosed n L
  pub same : (w w' : Word) → L w → L w' → counts n w ≡ counts n w' → (e : ℕ) → e < n → L (w ++ e ∷ []) ↔ L (w' ++ e ∷ [])

-- ---- The Parikh closure

-- v + e
abbrev pub plus : Counts → ℕ → Counts
plus v e = set v e (at v e + 1)

module _ (n : ℕ) (L : Language) where
  -- a path of TS^Ψ(L) from the state v: its transitions are (v, e, v + e) for ⟨v, e⟩ in L^C
  abbrev pub PathFrom : Counts → Word → Type 0
  PathFrom v [] = Unit {0}
  PathFrom v (e ∷ w) = Constraint n L (record { row = v; event = e }) × PathFrom (plus v e) w

  -- L^Ψ: the words over E of which there is a path from the initial state Ψ(ε)
  abbrev pub parikh_closure : Language
  parikh_closure w = Below n w × PathFrom (counts n []) w
