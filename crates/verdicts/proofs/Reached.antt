-- What a bundle holds up to the point where judging stops, and that judging stops in a certificate exactly when it holds what comes before.
use Rattle.std.specs.Prelude.{◌≡◌, false, ◌↔◌, ◌⊎◌, ℕ}
use Rattle.std.proofs.Math.Path.{sym, ap}
use Rattle.std.proofs.Common.{◌∙◌, inl, inr, ⊎_elim, leb→le, le→leb}
use Rattle.std.proofs.Math.Bool.{false≢true}
use mathlib.Core.List.{List, [], ◌∷◌, ◌++◌, flat_map, append_assoc}
use Rattle.std.proofs.Math.Nat.{zero-add}
use Rattle.std.proofs.Math.ListN.{length, drop}
use Rattle.laws.specs.Booleans.{yes_true}
use Rattle.laws.specs.Lists.{all, any, among}
use Rattle.laws.specs.Numbers.{Bytes}
use Rattle.limits.specs.Limits.{max_rows}
use Rattle.refusals.specs.Table.{place_permits_number, weights_number}
use Rattle.refusals.specs.Results.{refused, refuses-wider}
use Rattle.nets.specs.Nets.{Step}
use Rattle.nets.specs.Bundle.{accepted}
use Rattle.nets.specs.Acceptance.{accepted-parts}
use Rattle.bundles.specs.Reading.{got, each}
use Rattle.bundles.specs.Layout.{CertificateFields, kind0, kind1, Head, Contents, CertificateInLimits, wrong_in}
use Rattle.bundles.specs.Layout.{certificate_bytes, head_bytes, bytes_of, to_bundle}
use Rattle.bundles.specs.Readers.{head, certificate, rows_in_limit}
use Rattle.bundles.specs.ReadingLaws.{Law, Part, part-front, part-append, part_right, EachValid, law-tested, law-each}
use Rattle.bundles.specs.LayoutLaws.{law-certificate}
use Rattle.bundles.specs.Limits.{log-below, got→front, front→got}
use Rattle.bundles.specs.Causes.{each-refused}
use Rattle.verdicts.specs.Judging.{unsolved, solved}
use Rattle.verdicts.specs.Acceptance.{all_fit, all_obey, Solving, Acceptable}
use Rattle.verdicts.proofs.Acceptance.{few-rows, one-row, places-fit, places-obey, each→all, all→each}
use Rattle.verdicts.specs.Stopping.{InHead, InCertificate, head_numbers, head-refuses, certificate-refuses, solved-refused}
use Rattle.verdicts.specs.Reached.{HeadThere, JudgedTo, CertificateDue, UnsolvedNext, Misread, NotSolved}

-- ---- What a bundle holds up to a point

-- a bundle that was judged to somewhere begins with a head
judged-head : {b : List ℕ} {d : Contents} {done : List Step} {rest : List ℕ} → JudgedTo b d done rest
    → HeadThere b d.head (flat_map (certificate_bytes d.head.is_new) d.certificates ++ rest)
unfolding bytes_of
judged-head {b} {d} {done} {rest} j =
    let layout = j.layout ∙ append_assoc (head_bytes d.head) (flat_map (certificate_bytes d.head.is_new) d.certificates) rest in
    record { front = record { layout = layout; limits = j.limits }; row_count = j.row_count }

-- contents that solve all their wrong continuations are acceptable, and the other way
pub acceptable-judged : {b rest : List ℕ} (d : Contents) → Acceptable d → b ≡ bytes_of d ++ rest → JudgedTo b d (wrong_in d.head) rest
unfolding accepted to_bundle
acceptable-judged d a layout = record {
  layout = layout;
  limits = a.head;
  row_count = a.row_count;
  certificates = a.certificates;
  permits = ((accepted-parts (to_bundle d)).0 a.accepted).permitted;
  obeys = ((accepted-parts (to_bundle d)).0 a.accepted).obeyed;
  solves = ((accepted-parts (to_bundle d)).0 a.accepted).solved;
}

pub judged-acceptable : {b rest : List ℕ} (d : Contents) → JudgedTo b d (wrong_in d.head) rest → Acceptable d
unfolding accepted to_bundle
judged-acceptable d j = record {
  head = j.limits;
  row_count = j.row_count;
  certificates = j.certificates;
  accepted = (accepted-parts (to_bundle d)).1 (record { permitted = j.permits; obeyed = j.obeys; solved = j.solves });
}

-- a certificate that does not solve its step is refused with 11 or 12
pub not-unsolved : (number : ℕ) (c : CertificateFields) → among number (place_permits_number ∷ weights_number ∷ []) ≡ false → number ≡ unsolved c → ⊥
unfolding unsolved any
not-unsolved number (kind0 j) other n = false≢true (sym other ∙ ap (λ (k : ℕ). among k (place_permits_number ∷ weights_number ∷ [])) n)
not-unsolved number (kind1 w) other n = false≢true (sym other ∙ ap (λ (k : ℕ). among k (place_permits_number ∷ weights_number ∷ [])) n)

-- ---- What was read

module _ (b : List ℕ) (bytes : Bytes b) where
  pub head-there : (h : Head) (next : ℕ) → head rows_in_limit b 0 ≡ got h next → HeadThere b h (drop next b) × Part b 0 (head_bytes h) next
  head-there h next e =
      let f = got→front rows_in_limit one-row few-rows b bytes h next e in
      (record { front = f.0; row_count = leb→le _ max_rows f.1 }, f.2)

  pub there-head : (h : Head) (rest : List ℕ) → HeadThere b h rest → head rows_in_limit b 0 ≡ got h (length (head_bytes h))
  there-head h rest t = front→got rows_in_limit one-row few-rows b bytes h rest t.front (le→leb _ max_rows t.row_count)

  module _ (h : Head) (rest : List ℕ) (t : HeadThere b h rest) where
    law-this : Law b (certificate h) (certificate_bytes h.is_new) (CertificateInLimits h)
    law-this = law-certificate b bytes h t.front.limits.events.1 t.row_count t.front.limits.places_size t.front.limits.log_size

    law-all : (ss : List Step) → Law b (each (solved h) ss []) (flat_map (certificate_bytes h.is_new)) (EachValid (Solving h) ss [])
    unfolding solved
    law-all ss = law-each b (λ s before. law-tested b law-this _ _ _) ss

  -- judging stops in a certificate exactly when the bundle holds what comes before it, and it is refused there
  certificate-due : (number spot : ℕ) → InCertificate b number spot
      ↔ ((d : Contents) × (s : Step) × (rest : List ℕ) × CertificateDue b d s rest
      × (solved d.head s d.certificates b (length (bytes_of d)) ≡ refused number spot))
  unfolding bytes_of
  certificate-due number spot = (to, from)
    where
      to : InCertificate b number spot → (d : Contents) × (s : Step) × (rest : List ℕ) × CertificateDue b d s rest
          × (solved d.head s d.certificates b (length (bytes_of d)) ≡ refused number spot)
      to (h, mid, is, fit, obey, e) =
          let t = head-there h mid is in
          let w = (each-refused (solved h) b number spot (wrong_in h) [] mid).0 e in
          let l = (law-all h (drop mid b) t.0 w.first).sound mid w.items w.mid w.read in
          let v = each→all h w.first [] w.items l.0 in
          let whole = part-append b 0 mid w.mid (head_bytes h) (flat_map (certificate_bytes h.is_new) w.items) t.1 l.1 in (
            record { head = h; certificates = w.items },
            w.this,
            drop w.mid b,
            record {
              done = w.first;
              more = w.more;
              steps = w.split;
              judged = record {
                layout = whole.bytes;
                limits = t.0.front.limits;
                row_count = t.0.row_count;
                certificates = v.0;
                permits = (places-fit h (log-below h t.0.front.limits)).0 (rw fit tt);
                obeys = (places-obey h).0 (rw obey tt);
                solves = v.1;
              };
            },
            ap (λ (at : ℕ). solved h w.this w.items b at) (sym (whole.end ∙ zero-add _)) ∙ w.stops,
          )

      from : (d : Contents) × (s : Step) × (rest : List ℕ) × CertificateDue b d s rest
          × (solved d.head s d.certificates b (length (bytes_of d)) ≡ refused number spot) → InCertificate b number spot
      from (d, s, rest, due, e) =
          let h : Head = d.head in
          let j = due.judged in
          let t = judged-head j in
          let whole = part-front b (bytes_of d) rest j.layout in
          let read = (law-all h _ t due.done).complete (length (head_bytes h)) d.certificates (length (bytes_of d))
          (all→each h due.done [] d.certificates j.certificates j.solves)
          (rw zero-add at (part_right b 0 (length (bytes_of d)) (head_bytes h) (flat_map (certificate_bytes h.is_new) d.certificates) whole)) in (
            h,
            length (head_bytes h),
            there-head h _ t,
            yes_true (all_fit h) ((places-fit h (log-below h j.limits)).1 j.permits),
            yes_true (all_obey h) ((places-obey h).1 j.obeys),
            (each-refused (solved h) b number spot (wrong_in h) [] (length (head_bytes h))).1
                (record {
                  first = due.done;
                  this = s;
                  more = due.more;
                  split = due.steps;
                  items = d.certificates;
                  mid = length
                      (bytes_of d);
                  read = read;
                  stops = e;
                }),
          )

  -- the certificate that is due stands there
  due-there : (d : Contents) (s : Step) (rest : List ℕ) → CertificateDue b d s rest → (c : CertificateFields) (next : ℕ)
      → certificate d.head b (length (bytes_of d)) ≡ got c next
      → CertificateInLimits d.head c × CertificateDue b d s (certificate_bytes d.head.is_new c ++ drop next b)
  unfolding bytes_of
  due-there d s rest due c next e =
      let j = due.judged in
      let t = judged-head j in
      let l = (law-this d.head _ t).sound (length (bytes_of d)) c next e in
      let these = certificate_bytes d.head.is_new c in
      let whole = part-append b 0 (length (bytes_of d)) next (bytes_of d) these (part-front b (bytes_of d) rest j.layout) l.1 in (
        l.0,
        record {
          done = due.done;
          more = due.more;
          steps = due.steps;
          judged = record {
            layout = whole.bytes ∙ append_assoc (bytes_of d) these (drop next b);
            limits = j.limits;
            row_count = j.row_count;
            certificates = j.certificates;
            permits = j.permits;
            obeys = j.obeys;
            solves = j.solves;
          };
        },
      )

  there-due : (d : Contents) (s : Step) (c : CertificateFields) → UnsolvedNext b d s c → (next : ℕ)
      × (certificate d.head b (length (bytes_of d)) ≡ got c next)
  unfolding bytes_of
  there-due d s c u =
      let j = u.due.judged in
      let t = judged-head j in
      let these = certificate_bytes d.head.is_new c in
      let whole = part-front b (bytes_of d ++ these) u.rest
      (j.layout ∙ sym (append_assoc (bytes_of d) these u.rest)) in (
        length (bytes_of d ++ these),
        (law-this d.head _ t).complete (length (bytes_of d)) c (length (bytes_of d ++ these)) u.limits
            (rw zero-add at (part_right b 0 (length (bytes_of d ++ these)) (bytes_of d) these whole)),
      )

  -- judging stops in a certificate: it is refused itself, or it does not solve its step
  module _ (number spot : ℕ) where
    pub in_certificate : InCertificate b number spot ↔ (Misread b number spot ⊎ NotSolved b number spot)
    in_certificate = (to, ⊎_elim misread not-solved)
      where
        to : InCertificate b number spot → Misread b number spot ⊎ NotSolved b number spot
        to e =
            let (d, s, rest, due, q) = (certificate-due number spot).0 e in
            ⊎_elim
            (λ r. inl (d, s, rest, due, r))
            (λ (c, next, is, n, at, fails). let t = due-there d s rest due c next is in inr
            (d, s, c, record { rest = drop next b; due = t.1; limits = t.0; unsolved = fails }, n, at))
            ((solved-refused d.head s d.certificates b (length (bytes_of d)) number spot).0 q)

        misread : Misread b number spot → InCertificate b number spot
        misread (d, s, rest, due, r) = (certificate-due number spot).1
            (d, s, rest, due, (solved-refused d.head s d.certificates b (length (bytes_of d)) number spot).1 (inl r))

        not-solved : NotSolved b number spot → InCertificate b number spot
        not-solved (d, s, c, u, n, at) =
            let t = there-due d s c u in
            (certificate-due number spot).1 (
              d,
              s,
              certificate_bytes d.head.is_new c ++ u.rest,
              u.due,
              (solved-refused d.head s d.certificates b
                  (length (bytes_of d)) number spot).1 (inr (c, t.0, t.1, n, at, u.unsolved)),
            )

    -- a number that no field of a bundle is refused with
    module _ (other : among number head_numbers ≡ false) where
      pub not-head : InHead b number spot → ⊥
      not-head e = false≢true (sym other ∙ (head-refuses.only b 0).only number spot e)

      pub not-misread : Misread b number spot → ⊥
      unfolding all any
      not-misread (d, s, rest, due, e) = false≢true (sym other
          ∙ (refuses-wider {wider = head_numbers} tt ((certificate-refuses d.head).only b (length (bytes_of d)))).only number spot e)
