-- What the four counts of an accepted bundle count. The theorems are in proofs/Tallies.antt.
use Rattle.std.specs.Prelude.{◌≡◌, ℕ, ◌<◌}
use Rattle.nets.specs.Nets.{Word, Log, Counts, Step, counts}
use Rattle.nets.specs.Words.{Prefix, Follows}

module _ (n : ℕ) (log : Log) where
  -- the counts of some prefix
  abbrev pub PrefixCounts : Counts → Type 0
  PrefixCounts v = (u : Word) × Prefix log u × (counts n u ≡ v)

  -- a wrong continuation: the counts of some prefix, and an event that follows no prefix with these counts
  abbrev pub WrongContinuation : Step → Type 0
  WrongContinuation s = PrefixCounts s.row × (s.event < n) × (Follows n log s → ⊥)
