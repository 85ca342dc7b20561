-- The five ways in which judging stops behind the tests of the sizes, and which numbers each has. That there are no others,
-- `judging-refused`, is in proofs/Stopping.antt.
use Rattle.std.specs.Prelude.{◌≡◌, Bool, ◌↔◌, ◌⊎◌, ℕ, ◌<◌}
use Rattle.std.proofs.Math.Path.{refl, sym}
use Rattle.std.proofs.Math.Bool.{true, false}
use Rattle.std.proofs.Math.Logic.{inl, inr, ⊎_elim}
use mathlib.Core.List.{List, [], ◌∷◌}
use Rattle.std.proofs.Math.ListN.{length}
use Rattle.laws.specs.Booleans.{impossible}
use Rattle.laws.specs.Lists.{any}
use Rattle.laws.specs.Scans.{first_failing}
use Rattle.refusals.specs.Table.{bundle_end_number, value_number, events_number, rows_number}
use Rattle.refusals.specs.Table.{place_misfit_number, place_disobeys_number, bytes_follow_number}
use Rattle.refusals.specs.Results.{refused, bind}
use Rattle.nets.specs.Nets.{Step}
use Rattle.bundles.specs.Reading.{got, Reader, ◌>>◌, give, require, each, onward}
use Rattle.bundles.specs.Layout.{CertificateFields, Head, Contents, wrong_in, fits_in, obeys_in, solves_in, to_net}
use Rattle.bundles.specs.Readers.{head, certificate, rows_in_limit}
use Rattle.bundles.specs.Refusing.{ReaderRefuses, reader_head, reader_certificate}
use Rattle.bundles.specs.Causes.{and_then-refused}
use Rattle.verdicts.specs.Judging.{unsolved, solved, contents}
use Rattle.verdicts.specs.Acceptance.{all_fit, all_obey}

-- a test is failed, or passed, and what follows it refuses
pub tested-refused : {A : Type 0} (ok : Bool) (n s : ℕ) (r : Reader A) (b : List ℕ) (at number spot : ℕ)
    → ((require ok n s >> r) b at ≡ refused number spot)
    ↔ (((number ≡ n) × (spot ≡ s) × (ok ≡ false)) ⊎ ((ok ≡ true) × (r b at ≡ refused number spot)))
unfolding require bind onward
tested-refused true n s r b at number spot = ((λ e. inr (refl, e)), ⊎_elim (λ (_, _, never). impossible cc) (λ (_, e). e))
tested-refused false n s r b at number spot = (
  (λ e. let p : n ≡ number = cc in let q : s ≡ spot = cc in inl (sym p, sym q, refl)),
  ⊎_elim (λ (p, q, _). rw (p, q)) (λ (never, _). impossible cc),
)

-- ---- The five ways in which judging stops behind the tests of the sizes

module _ (b : List ℕ) (number spot : ℕ) where
  -- in the head
  abbrev pub InHead : Type 0
  InHead = head rows_in_limit b 0 ≡ refused number spot

  -- at a place that does not fit
  abbrev pub AtMisfit : Type 0
  AtMisfit = (h : Head) × (mid : ℕ) × (head rows_in_limit b 0 ≡ got h mid) × (number ≡ place_misfit_number)
      × (spot ≡ first_failing (fits_in h) (to_net h)) × (all_fit h ≡ false)

  -- at a place that does not obey, where all fit
  abbrev pub AtDisobeying : Type 0
  AtDisobeying = (h : Head) × (mid : ℕ) × (head rows_in_limit b 0 ≡ got h mid) × (all_fit h ≡ true) × (number ≡ place_disobeys_number)
      × (spot ≡ first_failing (obeys_in h) (to_net h)) × (all_obey h ≡ false)

  -- in a certificate
  abbrev pub InCertificate : Type 0
  InCertificate = (h : Head) × (mid : ℕ) × (head rows_in_limit b 0 ≡ got h mid) × (all_fit h ≡ true) × (all_obey h ≡ true)
      × (each (solved h) (wrong_in h) [] b mid ≡ refused number spot)

  -- at the end
  abbrev pub AtEnd : Type 0
  AtEnd = (d : Contents) × (mid : ℕ) × (contents b 0 ≡ got d mid) × (number ≡ bytes_follow_number) × (spot ≡ mid) × (mid < length b)

  -- in one of these ways
  abbrev pub Stops : Type 0
  Stops = InHead ⊎ (AtMisfit ⊎ (AtDisobeying ⊎ (InCertificate ⊎ AtEnd)))

-- ---- Which numbers each of them has

abbrev pub head_numbers : List ℕ
head_numbers = bundle_end_number ∷ value_number ∷ events_number ∷ rows_number ∷ []

pub head-refuses : ReaderRefuses head_numbers (head rows_in_limit)
unfolding any
head-refuses = reader_head refl refl refl rows_in_limit (λ n log. inr refl)

pub certificate-refuses : (h : Head) → ReaderRefuses (bundle_end_number ∷ value_number ∷ []) (certificate h)
unfolding any
certificate-refuses h = reader_certificate refl refl h

-- a certificate that is due: it is refused itself, or is read and does not solve its step
pub solved-refused : (h : Head) (s : Step) (before : List CertificateFields) (b : List ℕ) (at number spot : ℕ)
    → (solved h s before b at ≡ refused number spot)
    ↔ ((certificate h b at ≡ refused number spot) ⊎ ((c : CertificateFields) × (next : ℕ) × (certificate h b at ≡ got c next) × (number ≡ unsolved c)
    × (spot ≡ length before) × (solves_in h s c ≡ false)))
unfolding solved
solved-refused h s before b at number spot = (to, from)
  where
    due : CertificateFields → Reader CertificateFields
    due c = require (solves_in h s c) (unsolved c) (length before) >> give c

    whole : (solved h s before b at ≡ refused number spot)
        ↔ ((certificate h b at ≡ refused number spot)
        ⊎ ((c : CertificateFields) × (next : ℕ) × (certificate h b at ≡ got c next) × (due c b next ≡ refused number spot)))
    whole = and_then-refused b (certificate h b at) due number spot

    tested : (c : CertificateFields) (next : ℕ) → (due c b next ≡ refused number spot)
        ↔ ((number ≡ unsolved c) × (spot ≡ length before) × (solves_in h s c ≡ false))
    tested c next =
        let law = tested-refused (solves_in h s c) (unsolved c) (length before) (give c) b next number spot in
        ((λ e. ⊎_elim (λ q. q) (λ (_, never). impossible cc) (law.0 e)), λ q. law.1 (inl q))

    to : solved h s before b at ≡ refused number spot
        → (certificate h b at ≡ refused number spot) ⊎ ((c : CertificateFields) × (next : ℕ) × (certificate h b at ≡ got c next)
        × (number ≡ unsolved c) × (spot ≡ length before) × (solves_in h s c ≡ false))
    to e = ⊎_elim (λ q. inl q) (λ (c, next, is, q). let f = (tested c next).0 q in inr (c, next, is, f.0, f.1, f.2)) (whole.0 e)

    from : (certificate h b at ≡ refused number spot) ⊎ ((c : CertificateFields) × (next : ℕ) × (certificate h b at ≡ got c next)
        × (number ≡ unsolved c) × (spot ≡ length before) × (solves_in h s c ≡ false))
        → solved h s before b at ≡ refused number spot
    from = ⊎_elim (λ e. whole.1 (inl e)) (λ (c, next, is, n, p, q). whole.1 (inr (c, next, is, (tested c next).1 (n, p, q))))
