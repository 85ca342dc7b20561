-- What reading the certificates of a bundle gives.
use Rattle.std.specs.Prelude.{Bool, not, List, [], ℕ, zero, suc, get_or, Ok, Err}
use Rattle.refusals.specs.Table.{place_permits_number, weights_number}
use Rattle.refusals.specs.Answers.{Answer, refusal}
use Rattle.refusals.specs.Results.{value, refused}
use Rattle.nets.specs.Nets.{Step, place_permits}
use Rattle.nets.specs.Bundle.{tally}
use Rattle.bundles.specs.Reading.{Read, Reader, item, ◌>>=◌, ◌>>◌, give, require, byte}
use Rattle.bundles.specs.Layout.{CertificateFields, kind0, kind1, Head, rows_in, to_bundle}
use Rattle.bundles.specs.Readers.{head_of, weights}
use Rattle.bundles.specs.FieldReading.{up_to, below}
use Rattle.bundles.specs.NextPlace.{place_in}
use Rattle.bundles.specs.declared.terms.Kind.{Kind}
use Rattle.bundles.specs.declared.terms.Kind.TheVariants.{Place, Weights}
use Rattle.verdicts.specs.Judging.{tally_of}
use Rattle.verdicts.specs.declared.Tally.{Tally}
use Rattle.weights.specs.Terms.{weighed_by}
use Rattle.weights.specs.Steps.{counts_before, holds_for}
use Rattle.weights.specs.declared.Step as certified

-- the certificates of the head h as a verdict's counts, and the offset behind the last
unfoldable pub certified_of : Head → Read (List CertificateFields) → Answer (Tally × ℕ)
certified_of h (value (item cs next)) = Ok (tally_of (tally (to_bundle (record { head = h; certificates = cs }))), next)
certified_of h (refused number spot) = Err (refusal number spot)

-- ---- one certificate

-- the event e after row i
abbrev pub step_of : Head → ℕ → ℕ → Step
step_of h i e = record { row = get_or (rows_in h) i []; event = e }

-- the kind of a certificate
unfoldable pub kind_in : CertificateFields → Kind
kind_in (kind0 j) = Place
kind_in (kind1 w) = Weights

-- place j of the net permits the step
abbrev pub permits_for : certified.Step → ℕ → Bool
permits_for s j = place_permits s.head.now.net.n (place_in s.head.now.net.bundle.now j) (record { row = counts_before s; event = s.event })

-- a place's number, whose place refuses the step; the certificate has so many before it
abbrev pub place_checked : certified.Step → ℕ → Reader (Unit {0})
place_checked s number = byte (below s.head.now.net.count) >>= λ j. require (not (permits_for s j)) place_permits_number number

-- weights, which hold for the step
abbrev pub weights_checked : certified.Step → ℕ → Reader (Unit {0})
weights_checked s number = weighed_by (holds_for s) (weights (head_of s.head.now.net.bundle.now)) >>= λ holds. require holds weights_number number

-- what follows the kind
unfoldable pub of_kind_checked : certified.Step → ℕ → ℕ → Reader Kind
of_kind_checked s number zero = place_checked s number >> give Place
of_kind_checked s number (suc _) = weights_checked s number >> give Weights

-- a certificate, which solves the step
abbrev pub certificate_checked : certified.Step → ℕ → Reader Kind
certificate_checked s number = byte (up_to 1) >>= of_kind_checked s number
