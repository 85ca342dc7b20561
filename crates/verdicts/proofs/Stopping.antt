-- Exactly when judging refuses behind the tests of the sizes: in the head, at a place that does not fit or does not obey, in a certificate, at
-- the end.
use Rattle.std.specs.Prelude.{◌≡◌, ◌↔◌, ◌⊎◌, ℕ, ◌<◌}
use Rattle.std.proofs.Math.Bool.{true, false}
use Rattle.std.proofs.Math.Logic.{inl, inr, ⊎_elim}
use mathlib.Core.List.{List, []}
use borrow.Author.Tests.{leb-false, lt-leb}
use Rattle.std.proofs.Math.Dec.{leb}
use Rattle.std.proofs.Math.ListN.{length}
use Rattle.laws.specs.Booleans.{impossible}
use Rattle.laws.specs.Scans.{first_failing}
use Rattle.refusals.specs.Table.{place_misfit_number, place_disobeys_number, bytes_follow_number}
use Rattle.refusals.specs.Results.{refused}
use Rattle.bundles.specs.Reading.{got, Reader, ◌>>=◌, ◌>>◌, give, require, each}
use Rattle.bundles.specs.Layout.{CertificateFields, Head, Contents, wrong_in, fits_in, obeys_in, to_net}
use Rattle.bundles.specs.Readers.{head, rows_in_limit}
use Rattle.bundles.specs.Causes.{and_then-refused}
use Rattle.verdicts.specs.Judging.{solved, at_end, after_head, contents, judging}
use Rattle.verdicts.specs.Acceptance.{all_fit, all_obey}
use Rattle.verdicts.specs.Stopping.{tested-refused, InHead, AtMisfit, AtDisobeying, InCertificate, Stops}

module _ (b : List ℕ) (number spot : ℕ) where
  -- behind a head, before the end
  abbrev BehindHead : Type 0
  BehindHead = (h : Head) × (mid : ℕ) × (head rows_in_limit b 0 ≡ got h mid) × (after_head h b mid ≡ refused number spot)

  -- behind a head
  module _ (h : Head) (mid : ℕ) where
    abbrev certified : Reader Contents
    certified = each (solved h) (wrong_in h) [] >>= (λ cs. give (record { head = h; certificates = cs }))

    abbrev obeying : Reader Contents
    obeying = require (all_obey h) place_disobeys_number (first_failing (obeys_in h) (to_net h)) >> certified

    certified-refused : (certified b mid ≡ refused number spot) ↔ (each (solved h) (wrong_in h) [] b mid ≡ refused number spot)
    certified-refused =
        let made : List CertificateFields → Reader Contents = λ cs. give (record { head = h; certificates = cs }) in
        let law = and_then-refused b (each (solved h) (wrong_in h) [] b mid) made number spot in
        ((λ e. ⊎_elim (λ r. r) (λ (cs, end, _, never). impossible cc) (law.0 e)), λ e. law.1 (inl e))

    fit-tested : (after_head h b mid ≡ refused number spot)
        ↔ (((number ≡ place_misfit_number) × (spot ≡ first_failing (fits_in h) (to_net h)) × (all_fit h ≡ false))
        ⊎ ((all_fit h ≡ true) × (obeying b mid ≡ refused number spot)))
    unfolding after_head
    fit-tested = tested-refused (all_fit h) place_misfit_number (first_failing (fits_in h) (to_net h)) obeying b mid number spot

    obey-tested : (obeying b mid ≡ refused number spot)
        ↔ (((number ≡ place_disobeys_number) × (spot ≡ first_failing (obeys_in h) (to_net h)) × (all_obey h ≡ false))
        ⊎ ((all_obey h ≡ true) × (certified b mid ≡ refused number spot)))
    obey-tested = tested-refused (all_obey h) place_disobeys_number (first_failing (obeys_in h) (to_net h)) certified b mid number spot

  behind-refused : BehindHead ↔ (AtMisfit b number spot ⊎ (AtDisobeying b number spot ⊎ InCertificate b number spot))
  behind-refused = (to, ⊎_elim misfit (⊎_elim disobeying in_certificate))
    where
      to : BehindHead → AtMisfit b number spot ⊎ (AtDisobeying b number spot ⊎ InCertificate b number spot)
      to (h, mid, is, e) = ⊎_elim
          (λ (n, at, q). inl (h, mid, is, n, at, q))
          (λ (fit, r). inr (⊎_elim
          (λ (n, at, q). inl (h, mid, is, fit, n, at, q))
          (λ (obey, s). inr (h, mid, is, fit, obey, (certified-refused h mid).0 s))
          ((obey-tested h mid).0 r)))
          ((fit-tested h mid).0 e)

      misfit : AtMisfit b number spot → BehindHead
      misfit (h, mid, is, n, at, q) = (h, mid, is, (fit-tested h mid).1 (inl (n, at, q)))

      disobeying : AtDisobeying b number spot → BehindHead
      disobeying (h, mid, is, fit, n, at, q) = (h, mid, is, (fit-tested h mid).1 (inr (fit, (obey-tested h mid).1 (inl (n, at, q)))))

      in_certificate : InCertificate b number spot → BehindHead
      in_certificate (h, mid, is, fit, obey, e) =
          (h, mid, is, (fit-tested h mid).1 (inr (fit, (obey-tested h mid).1 (inr (obey, (certified-refused h mid).1 e)))))

  at_end-refused : (d : Contents) (mid : ℕ) → ((at_end >> give d) b mid ≡ refused number spot)
      ↔ ((number ≡ bytes_follow_number) × (spot ≡ mid) × (mid < length b))
  unfolding at_end
  at_end-refused d mid =
      let law = tested-refused (leb (length b) mid) bytes_follow_number mid (give d) b mid number spot in (
        (λ e. ⊎_elim (λ (n, at, q). (n, at, leb-false (length b) mid q)) (λ (_, never). impossible cc) (law.0 e)),
        λ (n, at, less). law.1 (inl (n, at, lt-leb (length b) mid less)),
      )

  pub judging-refused : (judging b 0 ≡ refused number spot) ↔ Stops b number spot
  unfolding judging contents
  judging-refused = (to, from)
    where
      Refused : Type 0
      Refused = contents b 0 ≡ refused number spot

      whole : (judging b 0 ≡ refused number spot)
          ↔ (Refused ⊎ ((d : Contents) × (mid : ℕ) × (contents b 0 ≡ got d mid) × ((at_end >> give d) b mid ≡ refused number spot)))
      whole = and_then-refused b (contents b 0) (λ c. at_end >> give c) number spot

      fields : Refused ↔ (InHead b number spot ⊎ BehindHead)
      fields = and_then-refused b (head rows_in_limit b 0) after_head number spot

      to : judging b 0 ≡ refused number spot → Stops b number spot
      to e = ⊎_elim
          (λ q. ⊎_elim (λ r. inl r) (λ r. inr (⊎_elim (λ m. inl m) (λ s. inr (⊎_elim (λ d. inl d) (λ c. inr (inl c)) s)) (behind-refused.0 r)))
          (fields.0 q))
          (λ (d, mid, is, r). let end = (at_end-refused d mid).0 r in inr (inr (inr (inr (d, mid, is, end.0, end.1, end.2)))))
          (whole.0 e)

      behind : AtMisfit b number spot ⊎ (AtDisobeying b number spot ⊎ InCertificate b number spot) → judging b 0 ≡ refused number spot
      behind s = whole.1 (inl (fields.1 (inr (behind-refused.1 s))))

      from : Stops b number spot → judging b 0 ≡ refused number spot
      from = ⊎_elim (λ e. whole.1 (inl (fields.1 (inl e)))) (⊎_elim
          (λ m. behind (inl m))
          (⊎_elim
          (λ d. behind (inr (inl d)))
          (⊎_elim
          (λ c. behind (inr (inr c)))
          (λ (d, mid, is, n, at, less). whole.1 (inr (d, mid, is, (at_end-refused d mid).1 (n, at, less)))))))
