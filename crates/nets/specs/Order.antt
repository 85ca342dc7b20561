-- The orders of rows and of steps. The theorems are in proofs/Order.antt.
use Rattle.std.specs.Prelude.{◌≡◌, ◌⊎◌, ℕ, ◌<◌}
use mathlib.Core.List.{List, ◌++◌, Memᴰ}
use Rattle.nets.specs.Nets.{Word, Log, Counts, Step, prefixes, counts}

module _ (n : ℕ) (log : Log) where
  -- the counts v occur earlier than w: among the first prefixes, word by word and shortest first, is one with counts v before any has counts w
  pub record Earlier (v w : Counts) : Type 0 where
    pub front : List Word
    pub rest : List Word
    pub listed : prefixes log ≡ front ++ rest
    pub there : (u : Word) × Memᴰ u front × (counts n u ≡ v)
    pub absent : (u : Word) → Memᴰ u front → counts n u ≡ w → ⊥

  -- by row, then event
  abbrev pub Before : Step → Step → Type 0
  Before s t = Earlier s.row t.row ⊎ ((s.row ≡ t.row) × (s.event < t.event))
