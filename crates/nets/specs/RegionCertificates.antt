-- What acceptance asks in the terms of Badouel and Schlachter alone. The theorems are in proofs/RegionCertificates.antt.
use Rattle.std.specs.Prelude.{◌≡◌, true, List, length, get_or}
use mathlib.Core.List.{Memᴰ}
use Prim.Native.Nat.{ℕ, ◌<◌}
use Rattle.laws.specs.Every.{Pointwise}
use Rattle.nets.specs.Nets.{Entry, no_entry, Net, Step, no_place, words, wrong_continuations}
use Rattle.nets.specs.Bundle.{Term, Pair, Weights, Certificate, by_place, by_weights, Bundle, log_of}
use Rattle.nets.specs.Words.{Prefix}
use Rattle.nets.specs.Weights.{Weighs}
use Rattle.nets.specs.TokenGame.{places_of}
use Rattle.nets.specs.Regions.{◌⊆◌, Constraint}
use Rattle.nets.specs.Completed.{sound_regions}
use Rattle.nets.specs.SeparationProblems.{Witnesses}

module _ (n : ℕ) (entries : List Entry) where
  -- the pair names a word of the log that is completed
  abbrev pub NamesWord : Pair → Type 0
  NamesWord q = (q.number < length entries) × ((get_or entries q.number no_entry).completed ≡ true)

  -- weights for the problem ⟨v, e⟩: on constraints of the log and on its completed words, with k at least 1, and they meet the three groups of
  -- inequalities
  pub record WeightsMeet (s : Step) (w : Weights) : Type 0 where
    pub constraints : (t : Term) → Memᴰ t w.terms → Constraint n (Prefix (words entries)) t.step
    pub completed : (q : Pair) → Memᴰ q w.pairs → NamesWord q
    pub inequalities : Weighs n entries s w

  -- the certificate of the problem: the listed place is there and witnesses it, or the weights are so
  abbrev pub Certifies : Net → Step → Certificate → Type 0
  Certifies net s (by_place j) = (j < length net) × Witnesses n (get_or net j no_place) s
  Certifies net s (by_weights w) = WeightsMeet s w

-- what acceptance asks, by the region definitions
pub record ByRegions (b : Bundle) : Type 0 where
  -- every place of the net is a sound region of the log
  pub regions : places_of b.net ⊆ sound_regions b.events b.entries
  -- one certificate for each separation problem that is no constraint, in their order (`wrong_problem`, SeparationProblems.antt)
  pub certified : Pointwise (Certifies b.events b.entries b.net) (wrong_continuations b.events (log_of b)) b.certificates
