-- A bundle of the old edition: it has no mark, no completed word and no pair. The theorems are in proofs/OldEdition.antt.
use Rattle.std.specs.Prelude.{◌≡◌, ◌↔◌, [], ◌∷◌, ◌++◌, T, length}
use mathlib.Core.List.{flat_map}
use Rattle.laws.specs.Every.{Every}
use Rattle.laws.specs.Numbers.{le16}
use Rattle.nets.specs.Nets.{Entry}
use Rattle.nets.specs.Bundle.{accepted}
use Rattle.nets.specs.Entries.{NoneCompleted}
use Rattle.bundles.specs.Layout.{WeightFields, CertificateFields, kind0, kind1, Contents, to_bundle, completed_in, wrong_in, solves_all_in}
use Rattle.bundles.specs.Layout.{first_in, first_of, entry_bytes, term_bytes, weight_bytes}
use Rattle.verdicts.specs.Acceptance.{PermitsIn, ObeysIn}

-- a certificate without pairs
abbrev pub NoPairs : CertificateFields → Type 0
NoPairs (kind0 j) = Unit {0}
NoPairs (kind1 w) = w.pairs ≡ []

-- contents of the old edition
pub record Old (c : Contents) : Type 0 where
  -- its bytes: n, words without marks, weights without a pair count
  pub first : first_of (first_in c.head) ≡ c.head.events
  pub entry : (x : Entry) → entry_bytes c.head.is_new x ≡ length x.word ∷ x.word
  pub weights : (w : WeightFields) → weight_bytes c.head.is_new w ≡ le16 w.k ++ (length w.terms ∷ flat_map term_bytes w.terms)
  -- what it has none of
  pub partial : NoneCompleted c.head.entries
  pub completed : completed_in c.head ≡ []
  pub pairs : Every NoPairs c.certificates
  -- so its net obeys
  pub obeys : ObeysIn c.head
  -- what acceptance asks of them
  pub accepted : T (accepted (to_bundle c)) ↔ (PermitsIn c.head × T (solves_all_in c.head (wrong_in c.head) c.certificates))
