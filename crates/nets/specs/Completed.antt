-- Completed executions, section 3.1.2 of Badouel and Schlachter: T-invariants, words one behind the other, and the regions that completed words leave
-- as they were.
use Rattle.std.specs.Prelude.{◌≡◌, ℕ, ℤ, neg_ℤ, ◌+ℤ◌, ◌*ℤ◌}
use mathlib.Core.List.{List, [], ◌∷◌, ◌++◌}
use Rattle.std.proofs.Math.IntN.{pos}
use Rattle.laws.specs.Differences.{sumℤ}
use Rattle.nets.specs.Nets.{Word, Entry, Counts, Place, at, words, counts}
use Rattle.nets.specs.Words.{Prefix}
use Rattle.nets.specs.Entries.{Completed}
use Rattle.nets.specs.TokenGame.{Places, Language}
use Rattle.nets.specs.Regions.{Region}

-- the product of ⟨v⟩ = (0; v; −v) and the place (M₀(p); •p; p•), without 0 × M₀(p)
unfoldable pub invariant_product : ℕ → Place → Counts → ℤ
invariant_product n p v =
    sumℤ n (λ i. pos (at v i) *ℤ pos (p.produced i)) +ℤ sumℤ n (λ i. neg_ℤ (pos (at v i)) *ℤ pos (p.consumed i))

-- v is a T-invariant of a net: ⟨v⟩ · p = 0 for each place p of it
abbrev pub Invariant : ℕ → Places → Counts → Type 0
Invariant n N v = (p : Place) → N p → invariant_product n p v ≡ pos 0

-- words, one behind the other
unfoldable pub concatenated : List Word → Word
concatenated [] = []
concatenated (w ∷ ws) = w ++ concatenated ws

-- the regions of L that the words of C leave as they were: p in N(L) with ⟨Ψ(w)⟩ · p = 0 for each w in C
abbrev pub SoundRegion : ℕ → Language → Language → Places
SoundRegion n L C p = Region n L p × ((w : Word) → C w → invariant_product n p (counts n w) ≡ pos 0)

module _ (n : ℕ) (entries : List Entry) where
  -- of a log: L has its prefixes, C its completed words
  abbrev pub sound_regions : Places
  sound_regions = SoundRegion n (Prefix (words entries)) (Completed entries)
