-- A net with the places that no certificate names left out: the definition. The theorems are in proofs/Pruning.antt.
use Rattle.std.specs.Prelude.{Bool, false, ℕ, eqb}
use mathlib.Core.List.{List, map}
use Rattle.laws.specs.Lists.{any}
use Rattle.laws.specs.Ranks.{keep_at, rank}
use Rattle.nets.specs.Bundle.{Certificate, by_place, by_weights, Bundle}

-- ---- the definition

-- a certificate names place j: it is of kind 0, with that number
unfoldable pub names : ℕ → Certificate → Bool
names j (by_place k) = eqb j k
names j (by_weights w) = false

-- some certificate names place j
unfoldable pub named : List Certificate → ℕ → Bool
named cs j = any (names j) cs

-- a certificate, with its place's number among those that are kept
unfoldable pub renumbered : (ℕ → Bool) → Certificate → Certificate
renumbered f (by_place j) = by_place (rank f j)
renumbered f (by_weights w) = by_weights w

-- a bundle without the places that no certificate names, the rest in their old order, with certificates renumbered
unfoldable pub prune : Bundle → Bundle
prune b = record {
  events = b.events;
  entries = b.entries;
  net = keep_at (named b.certificates) b.net;
  certificates = map (renumbered (named b.certificates)) b.certificates;
}
