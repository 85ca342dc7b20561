-- Demand 2 for judging: what an accepted bundle is. The theorems are in proofs/Acceptance.antt.
use Rattle.std.specs.Prelude.{◌≡◌, Bool, ℕ, ◌≤◌, T}
use mathlib.Core.List.{List}
use Rattle.std.proofs.Math.ListN.{length}
use Rattle.laws.specs.Every.{Every}
use Rattle.laws.specs.Lists.{all}
use Rattle.limits.specs.Limits.{max_rows}
use Rattle.nets.specs.Nets.{Step}
use Rattle.nets.specs.Bundle.{accepted, tally}
use Rattle.nets.specs.Words.{PermitsLog, Obeys}
use Rattle.bundles.specs.Layout.{CertificateFields, Head, Contents, HeadInLimits, CertificateInLimits, InLimits}
use Rattle.bundles.specs.Layout.{words_in, completed_in, rows_in, fits_in, obeys_in, solves_in, to_net, to_bundle, bytes_of}
use Rattle.verdicts.specs.Judging.{tally_of}
use Rattle.verdicts.specs.declared.Tally.{Tally}

-- ---- the net permits every word exactly when its places fit, and obeys the completed ones when they do

-- every place fits, every place obeys
abbrev pub all_fit : Head → Bool
all_fit h = all (fits_in h) (to_net h)

abbrev pub all_obey : Head → Bool
all_obey h = all (obeys_in h) (to_net h)

-- the net permits the log, it obeys the completed words
abbrev pub PermitsIn : Head → Type 0
PermitsIn h = PermitsLog h.events (to_net h) (words_in h)

abbrev pub ObeysIn : Head → Type 0
ObeysIn h = Obeys h.events (to_net h) (completed_in h)

-- ---- certificates

module _ (h : Head) where
  -- a certificate in its limits that solves its step
  abbrev pub Solving : Step → List CertificateFields → CertificateFields → Type 0
  Solving s before c = CertificateInLimits h c × T (solves_in h s c)

-- ---- the fields of a bundle

-- what judging asks of a bundle's fields, but for the bundle's size
pub record Acceptable (c : Contents) : Type 0 where
  pub head : HeadInLimits c.head
  pub row_count : length (rows_in c.head) ≤ max_rows
  pub certificates : Every (CertificateInLimits c.head) c.certificates
  pub accepted : T (accepted (to_bundle c))

-- the bundle b has the fields d, within every limit; its net permits every log word and obeys the completed ones, each wrong continuation has a
-- certificate that solves it, and the counts c are the definitions'
pub record AcceptedAs (b : List ℕ) (c : Tally) (d : Contents) : Type 0 where
  pub layout : b ≡ bytes_of d
  pub limits : InLimits d
  pub accepted : T (accepted (to_bundle d))
  pub counts : c ≡ tally_of (tally (to_bundle d))
