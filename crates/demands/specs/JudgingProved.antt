-- Judging, proved: the lines of Judging.antt from the laws of the readers.
use Rattle.std.specs.Prelude.{◌≡◌, Bool, true, false, not, ◌↔◌, ◌⊎◌, List, [], ◌∷◌, ◌++◌, ℕ, ◌+◌, ◌≤◌, T, leb, get_or, Err}
use Rattle.std.proofs.Math.Path.{refl}
use Rattle.std.proofs.Common.{sym, ap, ◌∙◌, subst, arith, leb→le, le→leb, T_not}
use Rattle.std.proofs.Math.Bool.{false≢true}
use mathlib.Core.Logic.Iff
use Rattle.std.proofs.Math.Logic.{inl, inr, ⊎_elim}
use Rattle.std.proofs.Math.Dec.{not_T}
use Rattle.std.proofs.Math.ListN.{length}
use Rattle.laws.specs.Booleans.{at_least, less, yes_true, no_false}
use Rattle.laws.specs.Lists.{all, any, among, not-among}
use Rattle.laws.specs.Numbers.{Bytes}
use Rattle.laws.specs.Scans.{first_failing, failing-exactly}
use Rattle.limits.specs.Limits.{max_rows, right_size, right_size-bounds, right_size_intro, right_size_wrong}
use Rattle.refusals.specs.Table.{place_misfit_number, place_disobeys_number, place_permits_number, weights_number, bytes_follow_number}
use Rattle.refusals.specs.Results.{refused}
use Rattle.refusals.specs.Answers.{refusal}
use Rattle.nets.specs.Nets.{Log, Step, Place, no_place, fits}
use Rattle.nets.specs.Fits.{Fits, LogBelow}
use Rattle.nets.proofs.Regions.{region_permits, region_fits}
use Rattle.logs.specs.Answers.{table_size}
use Rattle.bundles.specs.Reading.{byte, number}
use Rattle.bundles.specs.Layout.{CertificateFields, WeightFields, kind0, kind1, Head, Contents, HeadInLimits, fits_in, to_net, words_in, rows_in}
use Rattle.bundles.specs.Layout.{bytes_of, LogBelowIn}
use Rattle.bundles.specs.Readers.{head, certificate, rows_in_limit, any_rows}
use Rattle.bundles.specs.Limits.{log-below}
use Rattle.bundles.specs.Refusing.{reader_certificate}
use Rattle.bundles.specs.Causes.{field-refused, entry-8, entry-9}
use Rattle.beginnings.specs.Beginnings.{HeadEnds, HeadDeparts, CertificateEnds, CertificateDeparts}
use Rattle.beginnings.specs.Heads.{refused_unlimited, head-ends, head-departs}
use Rattle.beginnings.specs.Words.{head_8, head_9}
use Rattle.beginnings.specs.Certificates.{from_first, certificate-ends, certificate-departs}
use Rattle.verdicts.specs.Judging.{unsolved, judging, verdict}
use Rattle.verdicts.proofs.Acceptance.{few-rows, one-row}
use Rattle.verdicts.specs.Reached.{UnsolvedNext, NotSolved, Misread}
use Rattle.verdicts.proofs.Causes.{judging_10, judging-20, judging-unsolved, judging-field, judging_13, judge_4, judge_5, judge_later}
use Rattle.demands.specs.Judging.{Sized, LowestMisfit, DueStops, JudgeExactly, FieldsExactly}
use Rattle.demands.specs.Fields.{mark-refused, pair-word}

-- ---- The tests before bundle order

sized : (table_length : ℕ) (b : List ℕ) {X Y : Type 0} → X ↔ Y → ((right_size (length b) ≡ true) × ((leb table_size table_length ≡ true) × X))
    ↔ (Sized table_length b × Y)
sized table_length b same = (
  (λ (right, (long, x)). let s = right_size-bounds (length b) right in
      (record { some = s.0; most = s.1; table = (at_least table_size table_length).0 long }, same.0 x)),
  (λ (s, y). (right_size_intro (length b) s.some s.most, ((at_least table_size table_length).1 s.table, same.1 y))),
)

-- a refusal in bundle order
module _ (table_length : ℕ) (b : List ℕ) (number : ℕ) (not-4 : 4 ≡ number → ⊥) (not-5 : 5 ≡ number → ⊥) where
  in_bundle : (spot : ℕ) {Y : Type 0} → (judging b 0 ≡ refused number spot) ↔ Y → (verdict table_length b ≡ Err (refusal number spot))
      ↔ (Sized table_length b × Y)
  in_bundle spot same = Iff.trans (judge_later table_length b number not-4 not-5 spot) (sized table_length b same)

-- ---- A place that does not fit

fits-exactly : (n : ℕ) (log : Log) → LogBelow n log → (p : Place) → T (fits n log p) ↔ Fits n log p
fits-exactly n log below p = Iff.trans (Iff.symm (region_fits n log below p)) (region_permits n log below p)

misfit-exactly : (h : Head) → LogBelowIn h → (j : ℕ) → ((j ≡ first_failing (fits_in h) (to_net h)) × (all (fits_in h) (to_net h) ≡ false))
    ↔ LowestMisfit h j
misfit-exactly h below j =
    let law = failing-exactly (fits_in h) no_place (to_net h) j in
    let fit = fits-exactly h.events (words_in h) below in (
      (λ c. let r = law.0 c in record {
        within = r.0;
        misfit = λ f. T_not (fits_in h (get_or (to_net h) j no_place)) (subst (λ (x : Bool). T (not x)) (sym r.1) tt)
            ((fit (get_or (to_net h) j no_place)).1 f);
        lower = λ i less. (fit (get_or (to_net h) i no_place)).0 (subst T (sym (r.2 i less)) tt);
      }),
      (λ m. law.1 (
        m.within,
        no_false (fits_in h (get_or (to_net h) j no_place))
            (not_T (fits_in h (get_or (to_net h) j no_place)) (λ t. m.misfit ((fit (get_or (to_net h) j no_place)).0 t))),
        λ i less. yes_true
            (fits_in h (get_or (to_net h) i no_place)) ((fit (get_or (to_net h) i no_place)).1 (m.lower i less)),
      )),
    )

-- ---- Each number

module _ (b : List ℕ) (spot : ℕ) where
  -- the kind of a certificate that does not solve its step, by the number
  place-kind : NotSolved b place_permits_number spot ↔ ((d : Contents) × (s : Step) × (j : ℕ) × UnsolvedNext b d s (kind0 j)
      × (spot ≡ length d.certificates))
  unfolding unsolved
  place-kind = ((λ (d, s, c, u, n, at). go d s c u n at), (λ (d, s, j, u, at). (d, s, kind0 j, u, refl, at)))
    where
      go : (d : Contents) (s : Step) (c : CertificateFields) → UnsolvedNext b d s c → place_permits_number ≡ unsolved c → spot ≡ length d.certificates
          → (d : Contents) × (s : Step) × (j : ℕ) × UnsolvedNext b d s (kind0 j) × (spot ≡ length d.certificates)
      go d s (kind0 j) u n at = (d, s, j, u, at)
      go d s (kind1 w) u n at = absurd (omega (arith, n))

  weights-kind : NotSolved b weights_number spot ↔ ((d : Contents) × (s : Step) × (w : WeightFields) × UnsolvedNext b d s (kind1 w)
      × (spot ≡ length d.certificates))
  unfolding unsolved
  weights-kind = ((λ (d, s, c, u, n, at). go d s c u n at), (λ (d, s, w, u, at). (d, s, kind1 w, u, refl, at)))
    where
      go : (d : Contents) (s : Step) (c : CertificateFields) → UnsolvedNext b d s c → weights_number ≡ unsolved c → spot ≡ length d.certificates
          → (d : Contents) × (s : Step) × (w : WeightFields) × UnsolvedNext b d s (kind1 w) × (spot ≡ length d.certificates)
      go d s (kind0 j) u n at = absurd (omega (arith, n))
      go d s (kind1 w) u n at = (d, s, w, u, at)

-- ---- 6, 7 and 8 without the readers

module _ (table_length : ℕ) (b : List ℕ) (bytes : Bytes b) where
  -- 6 to 9 are refusals of the head, or of the certificate that is due
  in_fields : (k : ℕ) → among k (6 ∷ 7 ∷ 8 ∷ 9 ∷ []) ≡ true → (spot : ℕ) → (verdict table_length b ≡ Err (refusal k spot))
      ↔ (Sized table_length b × ((head rows_in_limit b 0 ≡ refused k spot) ⊎ Misread b k spot))
  unfolding any
  in_fields k listed spot = in_bundle table_length b k (not-among (6 ∷ 7 ∷ 8 ∷ 9 ∷ []) 4 k refl listed)
      (not-among (6 ∷ 7 ∷ 8 ∷ 9 ∷ []) 5 k refl listed) spot (judging-field b bytes k spot listed)

  -- a refusal of the certificate that is due, counted from its first byte
  due-stops : {Stops : Head → List ℕ → ℕ → Type 0} (k spot : ℕ)
      → ((h : Head) → HeadInLimits h → length (rows_in h) ≤ max_rows → (done rest : List ℕ) (p : ℕ) → Bytes (done ++ rest)
      → certificate h (done ++ rest) (length done) ≡ refused k (length done + p) → Stops h rest p)
      → Misread b k spot → DueStops Stops b spot
  due-stops k spot law (d, s, rest, due, q) =
      let j = due.judged in
      let q' : certificate d.head (bytes_of d ++ rest) (length (bytes_of d)) ≡ refused k spot =
      subst (λ (l : List ℕ). certificate d.head l (length (bytes_of d)) ≡ refused k spot) j.layout q in
      let at = from_first d.head (bytes_of d) rest k spot q' in
      record {
        contents = d;
        step = s;
        rest = rest;
        due = due;
        behind = at.0;
        offset = at.1;
        stops = law d.head j.limits j.row_count (bytes_of d) rest at.0 (subst Bytes j.layout bytes) (q' ∙ ap (refused k) at.1);
      }

  in_head : (k spot : ℕ) → (k ≡ 9 → ⊥) → head rows_in_limit b 0 ≡ refused k spot → head any_rows b 0 ≡ refused k spot
  in_head = refused_unlimited rows_in_limit b

  ends : (spot : ℕ) → verdict table_length b ≡ Err (refusal 6 spot) → HeadEnds b spot ⊎ DueStops CertificateEnds b spot
  unfolding any
  ends spot e = ⊎_elim
      (λ q. inl (head-ends b bytes spot (in_head 6 spot (λ e. omega (arith, e)) q)))
      (λ m. inr (due-stops 6 spot certificate-ends m))
      ((in_fields 6 refl spot).0 e).1

  departs : (spot : ℕ) → verdict table_length b ≡ Err (refusal 7 spot) → HeadDeparts b spot ⊎ DueStops CertificateDeparts b spot
  unfolding any
  departs spot e = ⊎_elim
      (λ q. inl (head-departs b bytes spot 7 (λ e. omega (arith, e)) (in_head 7 spot (λ e. omega (arith, e)) q)))
      (λ m. inr (due-stops 7 spot (λ h limits row_count done l p. certificate-departs h limits row_count done l p 7 (λ e. omega (arith, e))) m))
      ((in_fields 7 refl spot).0 e).1

  -- 8 and 9 are refusals of the head alone
  in_word : (k : ℕ) → among k (6 ∷ 7 ∷ 8 ∷ 9 ∷ []) ≡ true → among k (6 ∷ 7 ∷ []) ≡ false → (spot : ℕ) {Y : Type 0}
      → (head rows_in_limit b 0 ≡ refused k spot) ↔ Y → (verdict table_length b ≡ Err (refusal k spot)) ↔ (Sized table_length b × Y)
  unfolding any
  in_word k listed other spot same = Iff.trans (in_fields k listed spot) (
    (λ (s, e). (s, same.0 (⊎_elim (λ q. q) (λ (d, _, rest, due, q). absurd (never d q)) e))),
    (λ (s, y). (s, inl (same.1 y))),
  )
    where
      never : (d : Contents) → certificate d.head b (length (bytes_of d)) ≡ refused k spot → ⊥
      never d q = false≢true (sym other ∙ ((reader_certificate {numbers = 6 ∷ 7 ∷ []} refl refl d.head).only b (length (bytes_of d))).only k spot q)

pub judge_exactly : (table_length : ℕ) (b : List ℕ) → Bytes b → JudgeExactly table_length b
unfolding any
judge_exactly table_length b bytes = record {
  bundle-length = λ spot. Iff.trans (judge_4 table_length b spot)
      ((λ (at, e). (at, (right_size_wrong (length b)).0 e)), (λ (at, c). (at, (right_size_wrong (length b)).1 c)));
  table-short = λ spot. Iff.trans (judge_5 table_length b spot) (
    (λ (right, (at, short)). let s = right_size-bounds (length b) right in (at, s.0, s.1, (less table_size table_length).0 short)),
    (λ (at, some, most, short). (right_size_intro (length b) some most, (at, (less table_size table_length).1 short))),
  );
  fields = in_fields table_length b bytes;
  ends = ends table_length b bytes;
  departs = departs table_length b bytes;
  events_pass = λ spot. in_word table_length b bytes 8 refl refl spot (Iff.trans (head_8 b bytes spot rows_in_limit one-row few-rows) (
    (λ (f, before, few, e). (f, before, leb→le _ max_rows few, e)),
    (λ (f, before, few, e). (f, before, le→leb _ max_rows few, e)),
  ));
  rows_pass = λ spot. in_word table_length b bytes 9 refl refl spot (Iff.trans (head_9 b bytes spot one-row few-rows) (
    (λ (f, before, few, e). (f, before, leb→le _ max_rows few, e)),
    (λ (f, before, few, e). (f, before, le→leb _ max_rows few, e)),
  ));
  place = λ spot. in_bundle table_length b place_misfit_number (λ e. omega (arith, e)) (λ e. omega (arith, e)) spot (Iff.trans (judging_10 b bytes spot) (
    (λ (h, rest, t, at, fails). (h, rest, t, (misfit-exactly h (log-below h t.front.limits) spot).0 (at, fails))),
    (λ (h, rest, t, m). let c = (misfit-exactly h (log-below h t.front.limits) spot).1 m in (h, rest, t, c.0, c.1)),
  ));
  rule = λ spot. in_bundle table_length b place_disobeys_number (λ e. omega (arith, e)) (λ e. omega (arith, e)) spot (judging-20 b bytes spot);
  listed-place = λ spot. in_bundle table_length b place_permits_number (λ e. omega (arith, e)) (λ e. omega (arith, e)) spot
      (Iff.trans (judging-unsolved b bytes place_permits_number spot refl (λ e. omega (arith, e)) (λ e. omega (arith, e)) (λ e. omega (arith, e)))
      (place-kind b spot));
  weights = λ spot. in_bundle table_length b weights_number (λ e. omega (arith, e)) (λ e. omega (arith, e)) spot
      (Iff.trans (judging-unsolved b bytes weights_number spot refl (λ e. omega (arith, e)) (λ e. omega (arith, e)) (λ e. omega (arith, e)))
      (weights-kind b spot));
  bytes-follow = λ spot. in_bundle table_length b bytes_follow_number (λ e. omega (arith, e)) (λ e. omega (arith, e)) spot (judging_13 b bytes spot);
}

-- ---- Field by field

pub fields-exactly : (b : List ℕ) (at : ℕ) → FieldsExactly b at
unfolding byte number
fields-exactly b at = record {
  one_byte = λ in_range k spot. Iff.trans (field-refused 1 (get_or b at 0) in_range b at k spot)
      ((λ (here, cause). record { here = here; cause = cause }), (λ f. (f.here, f.cause)));
  two_bytes = λ in_range k spot. Iff.trans (field-refused 2 _ in_range b at k spot)
      ((λ (here, cause). record { here = here; cause = cause }), (λ f. (f.here, f.cause)));
  events = λ rows_fit f before spot. entry-8 f b at rows_fit before spot;
  rows = λ rows_fit f before spot. entry-9 f b at rows_fit before spot;
  mark = λ rows_fit f before is_new k. Iff.trans (mark-refused f is_new b at rows_fit before k) (
    (λ (there, few, (here, cause)). (there, few, record { here = here; cause = cause })),
    (λ (there, few, r). (there, few, (r.here, r.cause))),
  );
  pair-word = pair-word b at;
}
