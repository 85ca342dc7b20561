-- What a bundle holds up to a point. The theorems are in proofs/Reached.antt.
use Rattle.std.specs.Prelude.{◌≡◌, false, ℕ, ◌≤◌, ◌<◌, T, get_or}
use mathlib.Core.List.{List, ◌∷◌, ◌++◌}
use Rattle.std.proofs.Math.ListN.{length}
use Rattle.laws.specs.Every.{Every}
use Rattle.limits.specs.Limits.{max_rows}
use Rattle.refusals.specs.Results.{refused}
use Rattle.nets.specs.Nets.{Step, no_place}
use Rattle.nets.specs.Entries.{Returns}
use Rattle.bundles.specs.Layout.{CertificateFields, Head, Contents, HeadInLimits, CertificateInLimits, HeadInFront}
use Rattle.bundles.specs.Layout.{completed_in, rows_in, wrong_in, solves_in, solves_all_in, to_net, certificate_bytes, bytes_of}
use Rattle.bundles.specs.Readers.{certificate}
use Rattle.verdicts.specs.Judging.{unsolved}
use Rattle.verdicts.specs.Acceptance.{PermitsIn, ObeysIn}

-- ---- What a bundle holds up to a point

-- the bundle begins with the head h, in its limits and with at most 256 rows, and `rest` follows
pub record HeadThere (b : List ℕ) (h : Head) (rest : List ℕ) : Type 0 where
  pub front : HeadInFront b h rest
  pub row_count : length (rows_in h) ≤ max_rows

-- place j of the head does not obey, and each lower one does: some completed word does not leave its tokens as they were
pub record LowestDisobeying (h : Head) (j : ℕ) : Type 0 where
  pub within : j < length (to_net h)
  pub disobeys : Returns h.events (completed_in h) (get_or (to_net h) j no_place) → ⊥
  pub lower : (i : ℕ) → i < j → Returns h.events (completed_in h) (get_or (to_net h) i no_place)

-- the bundle begins with the contents d, in their limits; its net permits the log and obeys the completed words, and its certificates solve the
-- steps `done`; `rest` follows
pub record JudgedTo (b : List ℕ) (d : Contents) (done : List Step) (rest : List ℕ) : Type 0 where
  pub layout : b ≡ bytes_of d ++ rest
  pub limits : HeadInLimits d.head
  pub row_count : length (rows_in d.head) ≤ max_rows
  pub certificates : Every (CertificateInLimits d.head) d.certificates
  pub permits : PermitsIn d.head
  pub obeys : ObeysIn d.head
  pub solves : T (solves_all_in d.head done d.certificates)

-- behind them the certificate of the next wrong continuation, s, is due
pub record CertificateDue (b : List ℕ) (d : Contents) (s : Step) (rest : List ℕ) : Type 0 where
  pub done : List Step
  pub more : List Step
  pub steps : wrong_in d.head ≡ done ++ s ∷ more
  pub judged : JudgedTo b d done rest

-- that certificate is there, in its limits, and does not solve its step
pub record UnsolvedNext (b : List ℕ) (d : Contents) (s : Step) (c : CertificateFields) : Type 0 where
  pub rest : List ℕ
  pub due : CertificateDue b d s (certificate_bytes d.head.is_new c ++ rest)
  pub limits : CertificateInLimits d.head c
  pub unsolved : solves_in d.head s c ≡ false

-- judging is refused in the certificate that is due; or that one is read, and does not solve its step
abbrev pub Misread : List ℕ → ℕ → ℕ → Type 0
Misread b number spot = (d : Contents) × (s : Step) × (rest : List ℕ) × CertificateDue b d s rest
    × (certificate d.head b (length (bytes_of d)) ≡ refused number spot)

abbrev pub NotSolved : List ℕ → ℕ → ℕ → Type 0
NotSolved b number spot = (d : Contents) × (s : Step) × (c : CertificateFields) × UnsolvedNext b d s c × (number ≡ unsolved c)
    × (spot ≡ length d.certificates)
