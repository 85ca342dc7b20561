-- Reading the certificates in two loops, over the rows and over the events of a row.
use Rattle.std.specs.Prelude.{◌≡◌, refl, Bool, true, false, ℕ, Ok, Err, ◌+◌, ◌*◌, ◌≤◌, ◌<◌, get_or}
use Rattle.std.proofs.Math.Path.{sym, ap}
use Rattle.std.proofs.Common.{ap₂, ◌∙◌, subst, zero-add, add_assoc, add-mul, one-mul, arith}
use Rattle.std.proofs.Math.Bool.{not}
use mathlib.Core.List.{List, [], ◌∷◌, ◌++◌, map}
use Rattle.std.proofs.Math.Nat.{add-zero, suc-mul, mul-le-mul_right}
use Rattle.std.proofs.Math.ListN.{length, drop, length-append, drop_of_length-le}
use Rattle.laws.specs.Booleans.{impossible}
use Rattle.laws.specs.Lists.{keep, map-append}
use Rattle.laws.specs.Keeping.{keep-passed, keep-failed, keep-last}
use Rattle.limits.specs.Limits.{max_events}
use Rattle.refusals.specs.Answers.{Answer}
use Rattle.refusals.specs.Results.{refused, bind}
use Rattle.refusals.specs.declared.Refusal.{Refusal}
use Rattle.nets.specs.Nets.{Step, continuations, allowed_steps, wrong_continuations}
use Rattle.nets.specs.Bundle.{Certificate, is_by_place, tally}
use Rattle.bundles.specs.Reading as reading
use Rattle.bundles.specs.Reading.{Read, got, item, each, onward}
use Rattle.bundles.specs.Chains.{map_read, map_read-got, map_read-failed}
use Rattle.bundles.specs.Layout.{WeightFields, CertificateFields, kind0, kind1, Head, rows_in, allowed_in, wrong_in, to_certificate, to_bundle, continuations_in, allowed_steps_in}
use Rattle.bundles.specs.Readers.{head_of}
use Rattle.verdicts.specs.Judging.{solved}
use Rattle.certificates.specs.Continuations.{steps-length, steps-at}
use Rattle.bundles.specs.declared.Reader.{Reader}
use Rattle.bundles.specs.declared.terms.Kind.{Kind}
use Rattle.bundles.specs.declared.terms.Kind.TheVariants.{Place, Weights}
use Rattle.certificates.specs.Certifying.{certified_of, step_of, kind_in}
use Rattle.certificates.specs.declared.Progress.{Progress}

-- ---- reading an item for each member of a list

-- reading an item for each member of `all` from `at` is reading one for each member of ss from `next`, behind the items `before`
pub record Left {S A : Type 0} (r : S → List A → reading.Reader A) (b : List ℕ)
    (all : List S) (at : ℕ) (ss : List S) (before : List A) (next : ℕ) : Type 0 where
  pub same : each r all [] b at ≡ each r ss before b next

module _ {S A : Type 0} {r : S → List A → reading.Reader A} {b : List ℕ} {all : List S} {at : ℕ} {before : List A} {pos : ℕ} where
  left-next : {s : S} {ss : List S} {x : A} {next : ℕ} → Left r b all at (s ∷ ss) before pos
      → r s before b pos ≡ got x next → Left r b all at ss (before ++ x ∷ []) next
  unfolding each bind onward
  left-next l e = record { same = l.same ∙ rw e }

  left-failed : {s : S} {ss : List S} {cause spot : ℕ} → Left r b all at (s ∷ ss) before pos
      → r s before b pos ≡ refused cause spot → each r all [] b at ≡ refused cause spot
  unfolding each bind onward
  left-failed l e = l.same ∙ rw e

  left-done : Left r b all at [] before pos → each r all [] b at ≡ got before pos
  unfolding each
  left-done l = l.same

-- ---- what the kind that was read says

kind_place : {m : Read CertificateFields} {next : ℕ} → map_read kind_in m ≡ got Place next → (j : ℕ) × (m ≡ got (kind0 j) next)
unfolding kind_in
kind_place {m} {next} e = go (map_read-got kind_in m Place next e)
  where
    go : (c : CertificateFields) × (m ≡ got c next) × (kind_in c ≡ Place) → (j : ℕ) × (m ≡ got (kind0 j) next)
    go (kind0 j, is, kind) = (j, is)
    go (kind1 w, is, kind) = impossible cc

kind_weights : {m : Read CertificateFields} {next : ℕ} → map_read kind_in m ≡ got Weights next → (w : WeightFields) × (m ≡ got (kind1 w) next)
unfolding kind_in
kind_weights {m} {next} e = go (map_read-got kind_in m Weights next e)
  where
    go : (c : CertificateFields) × (m ≡ got c next) × (kind_in c ≡ Weights) → (w : WeightFields) × (m ≡ got (kind1 w) next)
    go (kind0 j, is, kind) = impossible cc
    go (kind1 w, is, kind) = (w, is)

-- ---- reading the certificates

-- the wrong continuations from the event e after row i on
abbrev pub wrong_from : Head → ℕ → ℕ → List Step
wrong_from h i e = keep (λ s. not (allowed_in h s)) (drop (i * h.events + e) (continuations_in h))

-- the allowed steps from the event e after row i on
abbrev pub allowed_from : Head → ℕ → ℕ → List Step
allowed_from h i e = keep (allowed_in h) (drop (i * h.events + e) (continuations_in h))

-- how many of the certificates are of kind 0, and of kind 1
abbrev pub places_of : Head → List CertificateFields → ℕ
places_of h cs = length (keep is_by_place (map (to_certificate h) cs))

abbrev pub weights_of : Head → List CertificateFields → ℕ
weights_of h cs = length (keep (λ c. not (is_by_place c)) (map (to_certificate h) cs))

-- the steps that were passed
abbrev pub counted : Progress → ℕ
counted s = s.tally.allowed + s.tally.by_place + s.tally.by_weights

-- no step is passed yet, of a log with so many rows
abbrev pub none_passed : Reader → ℕ → Progress
none_passed reader count = record { reader = reader; tally = record { rows = count; allowed = 0; by_place = 0; by_weights = 0 } }

-- the steps before the event e after row i are passed: the certificates `before` were read, and the next one starts at `next`
pub record PassedTo (h : Head) (b : List ℕ) (at i e : ℕ) (s : Progress) : Type 0 where
  pub before : List CertificateFields
  pub left : Left (solved h) b (wrong_in h) at (wrong_from h i e) before s.reader.at
  pub row_count : s.tally.rows ≡ length (rows_in h)
  pub allowed_count : s.tally.allowed + length (allowed_from h i e) ≡ length (allowed_steps_in h)
  pub place_count : s.tally.by_place ≡ places_of h before
  pub weights_count : s.tally.by_weights ≡ weights_of h before
  pub size : length before ≡ s.tally.by_place + s.tally.by_weights

pub passed_start : (h : Head) (b : List ℕ) (reader : Reader) (count : ℕ)
    → count ≡ length (rows_in h) → PassedTo h b reader.at 0 0 (none_passed reader count)
unfolding wrong_continuations allowed_steps keep
passed_start h b reader count rows =
    let first : 0 * h.events + 0 ≡ 0 = omega arith in
    record {
      before = [];
      left = record { same = rw first };
      row_count = rows;
      allowed_count = rw first (zero-add _);
      place_count = refl;
      weights_count = refl;
      size = refl;
    }

module _ {h : Head} {b : List ℕ} {at i e : ℕ} {s : Progress} (l : PassedTo h b at i e s) where
  -- the next row
  pub passed-row : h.events ≡ e → PassedTo h b at (i + 1) 0 s
  passed-row end =
      let same : i * h.events + e ≡ (i + 1) * h.events + 0 = omega (arith, add-mul i 1 h.events, one-mul h.events) in
      record {
        before = l.before;
        left = subst (λ (k : ℕ). Left (solved h) b (wrong_in h) at
            (keep (λ s. not (allowed_in h s)) (drop k (continuations_in h))) l.before s.reader.at) same l.left;
        row_count = l.row_count;
        allowed_count = ap (λ (k : ℕ). s.tally.allowed + length (keep (allowed_in h) (drop k (continuations_in h)))) (sym same) ∙ l.allowed_count;
        place_count = l.place_count;
        weights_count = l.weights_count;
        size = l.size;
      }

  -- no row is left
  pub passed-done : length (rows_in h) ≤ i → Ok (s.tally, s.reader.at) ≡ certified_of h (each (solved h) (wrong_in h) [] b at)
  unfolding continuations keep certified_of tally to_bundle
  passed-done past =
      let none : drop (i * h.events + e) (continuations_in h) ≡ [] =
      drop_of_length-le (continuations_in h) {i = i * h.events + e}
      (omega (arith, steps-length h.events (rows_in h), mul-le-mul_right h.events past)) in
      let whole : each (solved h) (wrong_in h) [] b at ≡ got l.before s.reader.at =
      left-done
      (subst (λ (xs : List Step). Left (solved h) b (wrong_in h) at (keep (λ s. not (allowed_in h s)) xs) l.before s.reader.at) none l.left) in
      let all : s.tally.allowed ≡ length (allowed_steps_in h) =
      sym (add-zero s.tally.allowed) ∙ ap (λ (xs : List Step). s.tally.allowed + length (keep (allowed_in h) xs)) (sym none) ∙ l.allowed_count in
      rw (whole, ← l.row_count, ← all, ← l.place_count, ← l.weights_count)

  module _ (inside : i < length (rows_in h)) (below : e < h.events) where
    listed : i * h.events + e < length (continuations_in h)
    unfolding continuations
    listed = omega (arith, steps-length h.events (rows_in h), mul-le-mul_right h.events inside, suc-mul i h.events)

    step_is : get_or (continuations_in h) (i * h.events + e) (step_of h i e) ≡ step_of h i e
    unfolding continuations
    step_is = steps-at h.events (rows_in h) i e (step_of h i e) inside below

    -- the steps behind this one that pass a test
    passing : (f : Step → Bool) → f (step_of h i e) ≡ true
        → keep f (drop (i * h.events + e) (continuations_in h)) ≡ step_of h i e ∷ keep f (drop (i * h.events + (e + 1)) (continuations_in h))
    passing f t =
        keep-passed f (continuations_in h) (i * h.events + e) (step_of h i e) listed (ap f step_is ∙ t)
        ∙ ap₂ ◌∷◌ step_is (ap (λ (k : ℕ). keep f (drop k (continuations_in h))) (add_assoc (i * h.events) e 1))

    failing : (f : Step → Bool) → f (step_of h i e) ≡ false
        → keep f (drop (i * h.events + e) (continuations_in h)) ≡ keep f (drop (i * h.events + (e + 1)) (continuations_in h))
    failing f t =
        keep-failed f (continuations_in h) (i * h.events + e) (step_of h i e) listed (ap f step_is ∙ t)
        ∙ ap (λ (k : ℕ). keep f (drop k (continuations_in h))) (add_assoc (i * h.events) e 1)

    -- an allowed step has no certificate
    pub passed-allowed : allowed_in h (step_of h i e) ≡ true
        → PassedTo h b at i (e + 1) (record s { tally = record s.tally { allowed = s.tally.allowed + 1 } })
    passed-allowed t = record {
      before = l.before;
      left = subst (λ (ss : List Step). Left (solved h) b (wrong_in h) at ss l.before s.reader.at)
          (failing (λ s. not (allowed_in h s)) (ap not t)) l.left;
      row_count = l.row_count;
      allowed_count = omega (arith, l.allowed_count, ap (λ (ss : List Step). length ss) (passing (allowed_in h) t));
      place_count = l.place_count;
      weights_count = l.weights_count;
      size = l.size;
    }

    module _ (t : allowed_in h (step_of h i e) ≡ false) where
      one_more : Left (solved h) b (wrong_in h) at (step_of h i e ∷ wrong_from h i (e + 1)) l.before s.reader.at
      one_more = subst (λ (ss : List Step). Left (solved h) b (wrong_in h) at ss l.before s.reader.at)
          (passing (λ s. not (allowed_in h s)) (ap not t)) l.left

      same-allowed : s.tally.allowed + length (allowed_from h i (e + 1)) ≡ length (allowed_steps_in h)
      same-allowed = ap (λ (ss : List Step). s.tally.allowed + length ss) (sym (failing (allowed_in h) t)) ∙ l.allowed_count

      -- the certificates with one more, counted by a test
      more : (f : Certificate → Bool) (c : CertificateFields) → length (keep f (map (to_certificate h) (l.before ++ c ∷ [])))
          ≡ length (keep f (map (to_certificate h) l.before)) + length (keep f (to_certificate h c ∷ []))
      more f c = ap (λ (cs : List Certificate). length (keep f cs)) (map-append (to_certificate h) l.before (c ∷ []))
          ∙ keep-last f (map (to_certificate h) l.before) (to_certificate h c)

      -- a wrong continuation has the next certificate
      passed-place : {reader : Reader} → map_read kind_in (solved h (step_of h i e) l.before b s.reader.at) ≡ got Place reader.at
          → PassedTo h b at i (e + 1) (record s { reader = reader; tally = record s.tally { by_place = s.tally.by_place + 1 } })
      unfolding keep to_certificate is_by_place
      passed-place q =
          let c = kind_place q in
          record {
            before = l.before ++ kind0 c.0 ∷ [];
            left = left-next one_more c.1;
            row_count = l.row_count;
            allowed_count = same-allowed;
            place_count = ap (λ (k : ℕ). k + 1) l.place_count ∙ sym (more is_by_place (kind0 c.0));
            weights_count = l.weights_count ∙ sym (more (λ c. not (is_by_place c)) (kind0 c.0) ∙ add-zero _);
            size = omega (arith, l.size, length-append l.before (kind0 c.0 ∷ []));
          }

      passed-weights : {reader : Reader} → map_read kind_in (solved h (step_of h i e) l.before b s.reader.at) ≡ got Weights reader.at
          → PassedTo h b at i (e + 1) (record s { reader = reader; tally = record s.tally { by_weights = s.tally.by_weights + 1 } })
      unfolding keep to_certificate is_by_place
      passed-weights q =
          let c = kind_weights q in
          record {
            before = l.before ++ kind1 c.0 ∷ [];
            left = left-next one_more c.1;
            row_count = l.row_count;
            allowed_count = same-allowed;
            place_count = l.place_count ∙ sym (more is_by_place (kind1 c.0) ∙ add-zero _);
            weights_count = ap (λ (k : ℕ). k + 1) l.weights_count ∙ sym (more (λ c. not (is_by_place c)) (kind1 c.0));
            size = omega (arith, l.size, length-append l.before (kind1 c.0 ∷ []));
          }

      passed-refused : {cause spot : ℕ} → map_read kind_in (solved h (step_of h i e) l.before b s.reader.at) ≡ refused cause spot
          → each (solved h) (wrong_in h) [] b at ≡ refused cause spot
      passed-refused {cause} {spot} q = left-failed one_more (map_read-failed kind_in _ cause spot q)

-- ---- the answer of a step, and of a row

-- passing the steps from event e after row i to event e' after row i', where the certificates start at any offset
unfoldable pub Passes : List ℕ → ℕ → ℕ → ℕ → ℕ → Progress → Progress → Answer (Unit {0}) → Type 0
Passes b i e i' e' s s' (Ok done) =
    (s'.reader.bytes ≡ s.reader.bytes)
    × (counted s' ≤ max_events * i' + e')
    × ((at : ℕ) → PassedTo (head_of b) b at i e s → PassedTo (head_of b) b at i' e' s')
Passes b i e i' e' s s' (Err r) = (at : ℕ) → PassedTo (head_of b) b at i e s
    → each (solved (head_of b)) (wrong_in (head_of b)) [] b at ≡ refused r.number r.spot

-- the same, as a record
pub record Outcome (b : List ℕ) (i e i' e' : ℕ) (s s' : Progress) (r : Answer (Unit {0})) : Type 0 where
  pub told : Passes b i e i' e' s s' r

-- what reading the next certificate gives, for a wrong continuation: its kind, with the offset behind it, or a refusal
abbrev pub Gives : List ℕ → ℕ → ℕ → Progress → Read Kind → Type 0
Gives b i e s m = (before : List CertificateFields) → length before ≡ s.tally.by_place + s.tally.by_weights
    → map_read kind_in (solved (head_of b) (step_of (head_of b) i e) before b s.reader.at) ≡ m

module _ {b : List ℕ} where
  pub outcome-start : {i e : ℕ} {s : Progress} → counted s ≤ max_events * i + e → Outcome b i e i e s s (Ok tt)
  unfolding Passes
  outcome-start few = record { told = (refl, few, λ at l. l) }

  -- the step of a row, which is allowed or has a certificate
  module _ {i e : ℕ} {s : Progress} (few : counted s ≤ max_events * i + e)
      (inside : i < length (rows_in (head_of b))) (below : e < (head_of b).events) where
    pub outcome-allowed : allowed_in (head_of b) (step_of (head_of b) i e) ≡ true
        → Outcome b i e i (e + 1) s (record s { tally = record s.tally { allowed = s.tally.allowed + 1 } }) (Ok tt)
    unfolding Passes
    outcome-allowed allowed = record { told = (refl, omega (arith, few), λ at l. passed-allowed l inside below allowed) }

    module _ (wrong : allowed_in (head_of b) (step_of (head_of b) i e) ≡ false) where
      pub outcome-place : {reader : Reader} → reader.bytes ≡ s.reader.bytes → Gives b i e s (got Place reader.at)
          → Outcome b i e i (e + 1) s (record s { reader = reader; tally = record s.tally { by_place = s.tally.by_place + 1 } }) (Ok tt)
      unfolding Passes
      outcome-place same is = record { told = (same, omega (arith, few), λ at l. passed-place l inside below wrong (is l.before l.size)) }

      pub outcome-weights : {reader : Reader} → reader.bytes ≡ s.reader.bytes → Gives b i e s (got Weights reader.at)
          → Outcome b i e i (e + 1) s (record s { reader = reader; tally = record s.tally { by_weights = s.tally.by_weights + 1 } }) (Ok tt)
      unfolding Passes
      outcome-weights same is = record { told = (same, omega (arith, few), λ at l. passed-weights l inside below wrong (is l.before l.size)) }

      pub outcome-unsolved : {s' : Progress} {r : Refusal} → Gives b i e s (refused r.number r.spot) → Outcome b i e i (e + 1) s s' (Err r)
      unfolding Passes
      outcome-unsolved is = record { told = λ at l. passed-refused l inside below wrong (is l.before l.size) }

  -- one answer after another
  module _ {i e i₁ e₁ i₂ e₂ : ℕ} {s s₁ s₂ : Progress} (first : Outcome b i e i₁ e₁ s s₁ (Ok tt)) where
    pub outcome-then : Outcome b i₁ e₁ i₂ e₂ s₁ s₂ (Ok tt) → Outcome b i e i₂ e₂ s s₂ (Ok tt)
    unfolding Passes
    outcome-then second = record { told = (second.told.0 ∙ first.told.0, second.told.1, λ at l. second.told.2 at (first.told.2 at l)) }

    -- a refusal, whatever steps are left
    pub outcome-refused : {i' e' : ℕ} {s' : Progress} {r : Refusal} → Outcome b i₁ e₁ i₂ e₂ s₁ s₂ (Err r) → Outcome b i e i' e' s s' (Err r)
    unfolding Passes
    outcome-refused second = record { told = λ at l. second.told at (first.told.2 at l) }

  -- the steps of a whole row
  pub outcome-row : {i e : ℕ} {s s' : Progress} → e ≤ max_events → (head_of b).events ≡ e
      → Outcome b i 0 i e s s' (Ok tt) → Outcome b i 0 (i + 1) 0 s s' (Ok tt)
  unfolding Passes
  outcome-row small end first = record { told = (first.told.0, omega (arith, first.told.1), λ at l. passed-row (first.told.2 at l) end) }

  -- the certificates from the first step on
  module _ (reader : Reader) {i : ℕ} {s : Progress} (count : ℕ) (rows : count ≡ length (rows_in (head_of b))) where
    pub outcome-done : Outcome b 0 0 i 0 (none_passed reader count) s (Ok tt) → count ≤ i
        → Ok (s.tally, s.reader.at) ≡ certified_of (head_of b) (each (solved (head_of b)) (wrong_in (head_of b)) [] b reader.at)
    unfolding Passes
    outcome-done all past = passed-done (all.told.2 reader.at (passed_start (head_of b) b reader count rows)) (omega (arith, rows, past))

    pub outcome-stopped : {r : Refusal} → Outcome b 0 0 i 0 (none_passed reader count) s (Err r)
        → Err r ≡ certified_of (head_of b) (each (solved (head_of b)) (wrong_in (head_of b)) [] b reader.at)
    unfolding Passes certified_of
    outcome-stopped stopped = rw (stopped.told reader.at (passed_start (head_of b) b reader count rows))
