-- Exactly when judging refuses with each number, and at which spot, by what the bundle holds up to there.
use Rattle.std.proofs.Math.Path.{◌≡◌, refl, ap}
use Rattle.std.proofs.Common.{sym, ◌∙◌, arith, length-append, drop-cons}
use Rattle.std.specs.Prelude.{true, ◌↔◌, ◌⊎◌, ℕ, suc, ◌<◌, leb, Err}
use Rattle.std.proofs.Math.Bool.{false, false≢true}
use mathlib.Core.Logic.Iff
use Rattle.std.proofs.Math.Logic.{inl, inr, ⊎_elim}
use mathlib.Core.List.{List, ◌∷◌, ◌++◌}
use Rattle.std.proofs.Math.Nat.{zero-add}
use Rattle.std.proofs.Math.Dec.{T, not_T}
use Rattle.std.proofs.Math.ListN.{length, get_or, drop}
use Rattle.laws.specs.Booleans.{impossible, yes_true, no_false}
use Rattle.laws.specs.Lists.{all, any, among}
use Rattle.laws.specs.Numbers.{Bytes}
use Rattle.laws.specs.Scans.{first_failing, failing-exactly}
use Rattle.limits.specs.Limits.{right_size}
use Rattle.refusals.specs.Table.{bundle_length_number, numbers_short_number, place_misfit_number, place_disobeys_number, bytes_follow_number}
use Rattle.refusals.specs.Results.{value, refused, bind, refuses-test}
use Rattle.refusals.specs.Results as results
use Rattle.refusals.specs.Answers.{refusal}
use Rattle.refusals.specs.Exactly.{Exactly, exactly-here, exactly-later}
use Rattle.refusals.specs.declared.Refusal.{Refusal}
use Rattle.nets.specs.Nets.{no_place}
use Rattle.nets.specs.Entries.{Returns}
use Rattle.nets.proofs.Entries.{place-returns}
use Rattle.logs.specs.Answers.{table_size}
use Rattle.bundles.specs.Reading.{Read, got, item, ◌>>◌, require}
use Rattle.bundles.specs.Layout.{CertificateFields, kind0, kind1, Head, Contents, wrong_in}
use Rattle.bundles.specs.Layout.{fits_in, obeys_in, to_net, completed_in, head_bytes, bytes_of}
use Rattle.bundles.specs.Readers.{bundle_size}
use Rattle.bundles.specs.ReadingLaws.{part-front}
use Rattle.bundles.specs.Limits.{log-below}
use Rattle.bundles.specs.Causes.{require-chain}
use Rattle.verdicts.specs.Judging.{unsolved, contents, judging, judged, verdict_of, verdict, Verdict}
use Rattle.verdicts.specs.Acceptance.{all_fit, all_obey, PermitsIn}
use Rattle.verdicts.proofs.Acceptance.{places-fit, law-contents}
use Rattle.verdicts.specs.RefusalNumbers.{judging-refuses}
use Rattle.verdicts.specs.Reached.{HeadThere, LowestDisobeying, JudgedTo, Misread, NotSolved}
use Rattle.verdicts.proofs.Reached.{acceptable-judged, judged-acceptable, not-unsolved}
use Rattle.verdicts.proofs.Reached.{head-there, there-head, in_certificate, not-head, not-misread}
use Rattle.verdicts.specs.Stopping.{InHead, AtMisfit, AtDisobeying, AtEnd, head_numbers}
use Rattle.verdicts.proofs.Stopping.{judging-refused}

-- ---- Each number, in bundle order

-- place j is the lowest that does not obey
disobeying-exactly : (h : Head) (j : ℕ) → ((j ≡ first_failing (obeys_in h) (to_net h)) × (all_obey h ≡ false)) ↔ LowestDisobeying h j
disobeying-exactly h j =
    let law = failing-exactly (obeys_in h) no_place (to_net h) j in
    let obey : (i : ℕ) → T (obeys_in h (get_or (to_net h) i no_place)) ↔ Returns h.events (completed_in h) (get_or (to_net h) i no_place) =
    λ i. place-returns h.events (completed_in h) (get_or (to_net h) i no_place) in (
      (λ c. let r = law.0 c in record {
        within = r.0;
        disobeys = λ back. false≢true (sym r.1 ∙ yes_true (obeys_in h (get_or (to_net h) j no_place)) ((obey j).1 back));
        lower = λ i less. (obey i).0 (rw (r.2 i less) tt);
      }),
      (λ m. law.1 (
        m.within,
        no_false (obeys_in h (get_or (to_net h) j no_place)) (not_T (obeys_in h (get_or (to_net h) j no_place)) (λ t. m.disobeys ((obey j).0 t))),
        λ i less. yes_true (obeys_in h (get_or (to_net h) i no_place)) ((obey i).1 (m.lower i less)),
      )),
    )

module _ (b : List ℕ) (bytes : Bytes b) where
  -- the six ways in which judging stops, as cases
  stopped : {X : Type 0} (number spot : ℕ) → (InHead b number spot → X) → (AtMisfit b number spot → X) → (AtDisobeying b number spot → X)
      → (Misread b number spot → X) → (NotSolved b number spot → X) → (AtEnd b number spot → X) → judging b 0 ≡ refused number spot → X
  stopped number spot in_head misfit disobeying misread not-solved at-end e =
      ⊎_elim in_head (⊎_elim misfit (⊎_elim disobeying (⊎_elim
      (λ q. ⊎_elim misread not-solved ((in_certificate b bytes number spot).0 q))
      at-end)))
      ((judging-refused b number spot).0 e)

  -- 10: at the lowest place that does not fit
  pub judging_10 : (spot : ℕ) → (judging b 0 ≡ refused place_misfit_number spot)
      ↔ ((h : Head) × (rest : List ℕ) × HeadThere b h rest × (spot ≡ first_failing (fits_in h) (to_net h)) × (all (fits_in h) (to_net h) ≡ false))
  unfolding any
  judging_10 spot = (
    stopped place_misfit_number spot
        (λ q. absurd (not-head b bytes place_misfit_number spot refl q))
        (λ (h, mid, is, n, at, fails). (h, drop mid b, (head-there b bytes h mid is).0, at, fails))
        (λ (h, mid, is, fit, n, at, fails). absurd (omega (arith, n)))
        (λ r. absurd (not-misread b bytes place_misfit_number spot refl r))
        (λ (d, s, c, u, n, at). absurd (not-unsolved place_misfit_number c refl n))
        (λ (d, mid, is, n, at, less). absurd (omega (arith, n))),
    (λ (h, rest, t, at, fails). (judging-refused b place_misfit_number spot).1
        (inr (inl (h, length (head_bytes h), there-head b bytes h rest t, refl, at, fails)))),
  )

  -- 20: all places fit, and at the lowest that does not obey
  pub judging-20 : (spot : ℕ) → (judging b 0 ≡ refused place_disobeys_number spot)
      ↔ ((h : Head) × (rest : List ℕ) × HeadThere b h rest × PermitsIn h × LowestDisobeying h spot)
  unfolding any
  judging-20 spot = (
    stopped place_disobeys_number spot
        (λ q. absurd (not-head b bytes place_disobeys_number spot refl q))
        (λ (h, mid, is, n, at, fails). absurd (omega (arith, n)))
        (λ (h, mid, is, fit, n, at, fails). let t = (head-there b bytes h mid is).0 in
        (h, drop mid b, t, (fit-exactly h _ t).0 (rw fit tt), (disobeying-exactly h spot).0 (at, fails)))
        (λ r. absurd (not-misread b bytes place_disobeys_number spot refl r))
        (λ (d, s, c, u, n, at). absurd (not-unsolved place_disobeys_number c refl n))
        (λ (d, mid, is, n, at, less). absurd (omega (arith, n))),
    (λ (h, rest, t, permits, low).
        let fit = yes_true (all_fit h) ((fit-exactly h rest t).1 permits) in
        let q = (disobeying-exactly h spot).1 low in
        (judging-refused b place_disobeys_number spot).1
        (inr (inr (inl (h, length (head_bytes h), there-head b bytes h rest t, fit, refl, q.0, q.1))))),
  )
    where
      fit-exactly : (h : Head) (rest : List ℕ) → HeadThere b h rest → T (all_fit h) ↔ PermitsIn h
      fit-exactly h rest t = places-fit h (log-below h t.front.limits)

  -- 11 and 12: at the first certificate that does not solve its step
  pub judging-unsolved : (number spot : ℕ) → among number head_numbers ≡ false
      → (number ≡ place_misfit_number → ⊥) → (number ≡ place_disobeys_number → ⊥) → (number ≡ bytes_follow_number → ⊥)
      → (judging b 0 ≡ refused number spot) ↔ NotSolved b number spot
  judging-unsolved number spot other not-10 not-20 not-13 = (
    stopped number spot
        (λ q. absurd (not-head b bytes number spot other q))
        (λ (h, mid, is, n, at, fails). absurd (not-10 n))
        (λ (h, mid, is, fit, n, at, fails). absurd (not-20 n))
        (λ r. absurd (not-misread b bytes number spot other r))
        (λ u. u)
        (λ (d, mid, is, n, at, less). absurd (not-13 n)),
    (λ u. (judging-refused b number spot).1 (inr (inr (inr (inl ((in_certificate b bytes number spot).1 (inr u))))))),
  )

  -- 6 to 9: in the head, or in the certificate that is due
  pub judging-field : (number spot : ℕ) → among number head_numbers ≡ true → (judging b 0 ≡ refused number spot)
      ↔ (InHead b number spot ⊎ Misread b number spot)
  unfolding all any unsolved
  judging-field number spot listed = (
    stopped number spot
        (λ q. inl q)
        (λ (h, mid, is, n, at, fails). absurd (excluded place_misfit_number refl n))
        (λ (h, mid, is, fit, n, at, fails). absurd (excluded place_disobeys_number refl n))
        (λ r. inr r)
        (λ (d, s, c, u, n, at). absurd (excluded (unsolved c) (unsolved-other c) n))
        (λ (d, mid, is, n, at, less). absurd (excluded bytes_follow_number refl n)),
    ⊎_elim (λ q. (judging-refused b number spot).1 (inl q)) (λ r. (judging-refused b number spot).1
        (inr (inr (inr (inl ((in_certificate b bytes number spot).1 (inl r))))))),
  )
    where
      excluded : (other : ℕ) → among other head_numbers ≡ false → number ≡ other → ⊥
      excluded other none n = false≢true (sym none ∙ ap (λ (k : ℕ). among k head_numbers) (sym n) ∙ listed)

      unsolved-other : (c : CertificateFields) → among (unsolved c) head_numbers ≡ false
      unsolved-other (kind0 j) = refl
      unsolved-other (kind1 w) = refl

  -- 13: at the first byte behind the contents
  pub judging_13 : (spot : ℕ) → (judging b 0 ≡ refused bytes_follow_number spot)
      ↔ ((d : Contents) × (x : ℕ) × (rest : List ℕ) × JudgedTo b d (wrong_in d.head) (x ∷ rest) × (spot ≡ length (bytes_of d)))
  unfolding any
  judging_13 spot = (
    stopped bytes_follow_number spot
        (λ q. absurd (not-head b bytes bytes_follow_number spot refl q))
        (λ (h, mid, is, n, at, fails). absurd (omega (arith, n)))
        (λ (h, mid, is, fit, n, at, fails). absurd (omega (arith, n)))
        (λ r. absurd (not-misread b bytes bytes_follow_number spot refl r))
        (λ (d, s, c, u, n, at). absurd (not-unsolved bytes_follow_number c refl n))
        (λ (d, mid, is, n, at, less). followed d mid is at less),
    (λ (d, x, rest, j, at). (judging-refused b bytes_follow_number spot).1
        (inr (inr (inr (inr (d, length (bytes_of d), whole d x rest j, refl, at, longer d x rest j)))))),
  )
    where
      followed : (d : Contents) (mid : ℕ) → contents b 0 ≡ got d mid → spot ≡ mid → mid < length b
          → (d : Contents) × (x : ℕ) × (rest : List ℕ) × JudgedTo b d (wrong_in d.head) (x ∷ rest) × (spot ≡ length (bytes_of d))
      followed d mid is at less =
          let s = (law-contents b bytes).sound 0 d mid is in (
            d,
            get_or b mid 0,
            drop (suc mid) b,
            acceptable-judged d s.0
                (s.1.bytes ∙ ap (λ (l : List ℕ). bytes_of d ++ l) (drop-cons b mid 0 less)),
            at ∙ s.1.end ∙ zero-add _,
          )

      whole : (d : Contents) (x : ℕ) (rest : List ℕ) → JudgedTo b d (wrong_in d.head) (x ∷ rest) → contents b 0 ≡ got d (length (bytes_of d))
      whole d x rest j = (law-contents b bytes).complete 0 d (length (bytes_of d)) (judged-acceptable d j)
          (part-front b (bytes_of d) (x ∷ rest) j.layout)

      longer : (d : Contents) (x : ℕ) (rest : List ℕ) → JudgedTo b d (wrong_in d.head) (x ∷ rest) → length (bytes_of d) < length b
      longer d x rest j = omega (arith, ap length j.layout, length-append (bytes_of d) (x ∷ rest))

-- ---- The verdict: 4, 5, then bundle order

module _ (table_length : ℕ) (b : List ℕ) where
  -- the answer is the chain's
  verdict-refused : (number spot : ℕ) → (verdict table_length b ≡ Err (refusal number spot)) ↔ (judged table_length b 0 ≡ refused number spot)
  unfolding verdict verdict_of
  verdict-refused number spot = go (judged table_length b 0)
    where
      same : (n s : ℕ) → ◌≡◌ {A = Verdict} (Err (refusal n s)) (Err (refusal number spot))
          → ◌≡◌ {A = Read Contents} (refused n s) (refused number spot)
      same n s e = let r : refusal n s ≡ refusal number spot = cc in ap (λ (r : Refusal). refused r.number r.spot) r

      go : (m : Read Contents) → (verdict_of m ≡ Err (refusal number spot)) ↔ (m ≡ refused number spot)
      go (value (item d next)) = ((λ e. impossible cc), (λ e. impossible cc))
      go (refused n s) = (same n s, (λ e. ap verdict_of e))

  judged-chain : judged table_length b 0 ≡ bind (results.require (right_size (length b)) bundle_length_number 0)
      (λ u. bind (results.require (leb table_size table_length) numbers_short_number table_size) (λ u. judging b 0))
  unfolding judged bundle_size
  judged-chain =
      require-chain (right_size (length b)) bundle_length_number 0
      (require (leb table_size table_length) numbers_short_number table_size >> judging) b 0
      ∙ ap (λ (m : Read Contents). bind (results.require (right_size (length b)) bundle_length_number 0) (λ u. m))
      (require-chain (leb table_size table_length) numbers_short_number table_size judging b 0)

  -- a line of the chain, for the verdict
  lined : {number : ℕ} {C : ℕ → Type 0}
      → Exactly (bind (results.require (right_size (length b)) bundle_length_number 0)
      (λ u. bind (results.require (leb table_size table_length) numbers_short_number table_size) (λ u. judging b 0))) number C
      → (spot : ℕ) → (verdict table_length b ≡ Err (refusal number spot)) ↔ C spot
  lined {number} e spot = (
    (λ h. (e.line spot).0 (sym judged-chain ∙ (verdict-refused number spot).0 h)),
    (λ c. (verdict-refused number spot).1 (judged-chain ∙ (e.line spot).1 c)),
  )

  pub judge_4 : (spot : ℕ) → (verdict table_length b ≡ Err (refusal bundle_length_number spot)) ↔ ((spot ≡ 0) × (right_size (length b) ≡ false))
  unfolding any
  judge_4 = lined (exactly-here _ _ _ _ (refuses-test _ _ _ (judging-refuses.only b 0)) refl)

  pub judge_5 : (spot : ℕ) → (verdict table_length b ≡ Err (refusal numbers_short_number spot))
      ↔ ((right_size (length b) ≡ true) × ((spot ≡ table_size) × (leb table_size table_length ≡ false)))
  unfolding any
  judge_5 = lined (exactly-later _ _ _ _ (λ e. omega (arith, e)) (exactly-here _ _ _ _ (judging-refuses.only b 0) refl))

  pub judge_later : (number : ℕ) → (bundle_length_number ≡ number → ⊥) → (numbers_short_number ≡ number → ⊥)
      → (spot : ℕ) → (verdict table_length b ≡ Err (refusal number spot))
      ↔ ((right_size (length b) ≡ true) × ((leb table_size table_length ≡ true) × (judging b 0 ≡ refused number spot)))
  judge_later number not-4 not-5 = lined (exactly-later _ _ _ _ not-4 (exactly-later _ _ _ _ not-5 (record { line = λ spot. Iff.rfl })))
