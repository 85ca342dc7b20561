-- Pruning on bytes: a bundle without the places that no certificate names, and which answer a bundle gets.
use Rattle.std.specs.Prelude.{Bool, false, List, map, ℕ, eqb}
use Rattle.laws.specs.Lists.{any}
use Rattle.laws.specs.Ranks.{keep_at, rank}
use Rattle.refusals.specs.Results.{Result, value, ◌>>=◌}
use Rattle.bundles.specs.Reading.{item_in}
use Rattle.bundles.specs.Layout.{CertificateFields, kind0, kind1, Contents, head_with, bytes_of}
use Rattle.verdicts.specs.Judging.{judged}

-- a certificate of kind 0 names its place
unfoldable pub names : ℕ → CertificateFields → Bool
names j (kind0 k) = eqb j k
names j (kind1 w) = false

-- some certificate names place j
unfoldable pub named : List CertificateFields → ℕ → Bool
named cs j = any (names j) cs

-- a certificate, with its place's number among the places that are kept
unfoldable pub renumbered : (ℕ → Bool) → CertificateFields → CertificateFields
renumbered kept (kind0 j) = kind0 (rank kept j)
renumbered kept (kind1 w) = kind1 w

-- without the places that no certificate names, the rest in their old order, with certificates renumbered
unfoldable pub pruned : Contents → Contents
pruned c = record {
  head = head_with c.head (keep_at (named c.certificates) c.head.places);
  certificates = map (renumbered (named c.certificates)) c.certificates;
}

-- with a table of so many numbers: the judge's refusals, else the bytes of the pruned bundle
unfoldable pub pruning : ℕ → List ℕ → Result (List ℕ)
pruning table_length b = do
  i ← judged table_length b 0
  value (bytes_of (pruned (item_in i)))
