-- What taking a word does to the traffic of any rows: one more in each row that it uses, an appended row starting from 0.
use Rattle.std.specs.Prelude.{◌≡◌, Bool, true, false, not, ◌⊎◌, ℕ, zero, suc, ◌<◌, ◌≤◌, get_or}
use Rattle.std.proofs.Math.Path.{refl, subst}
use Rattle.std.proofs.Common.{sym, ap, ◌∙◌, true≢false, inl, inr, not-suc-le-zero, le_of_suc-le-suc, arith, lt-ltb}
use Rattle.std.proofs.Math.Logic.{⊎_elim}
use mathlib.Core.List.Memᴰ
use mathlib.Core.List.{List, [], ◌∷◌, ◌++◌, append-nil, cons≢nil}
use Rattle.std.proofs.Math.ListN.{length, get_or-eq_default}
use Rattle.std.proofs.Math.Seq.{append_snoc}
use Rattle.laws.specs.Booleans.{true_or_false, lt_or_le}
use Rattle.laws.specs.Lists.{equal, equal_true}
use Rattle.laws.specs.Scans.{first_failing, failing-exactly, failing-some}
use Rattle.limits.specs.Limits.{max_events}
use Rattle.nets.specs.Nets.{Word, Counts, counts}
use Rattle.nets.specs.Words.{Begins}
use Rattle.nets.specs.Fits.{Below}
use Rattle.nets.specs.CountLaws.{counts_snoc, counts-longer}
use Rattle.rows.specs.Rows.{Row, find_row, new_row, present, one_more, passed_once, visit, marked, update_at, follow, add_event, take_word, absent}
use Rattle.rows.specs.Visiting.{length-same, counts-visit, length-visit, find_visit, visit_finds, length-follow}
use Rattle.rows.specs.Growth.{new_le, visit_le}
use Rattle.tables.specs.Leaving.{on_row, present-on, update_on, found_after}

-- the traffic of row r, 0 where there is none
abbrev pub traffic_on : List Row → ℕ → ℕ
traffic_on = on_row (λ x. x.traffic)

none-beyond : (rs : List Row) (r : ℕ) → length rs ≤ r → traffic_on rs r ≡ 0
unfolding on_row
none-beyond rs r h = ap (λ (x : Row). x.traffic) (get_or-eq_default rs (new_row []) h)

-- ---- A prefix

counted-here : (rs : List Row) (k : ℕ) → k < length rs → traffic_on (update_at k passed_once rs) k ≡ one_more (traffic_on rs k)
unfolding update_at on_row
counted-here [] k h = absurd (not-suc-le-zero h)
counted-here (x ∷ rs) zero h = refl
counted-here (x ∷ rs) (suc k) h = counted-here rs k (le_of_suc-le-suc h)

counted-other : (rs : List Row) (k r : ℕ) → (k ≡ r → ⊥) → traffic_on (update_at k passed_once rs) r ≡ traffic_on rs r
unfolding update_at on_row
counted-other [] k r apart = refl
counted-other (x ∷ rs) zero zero apart = absurd (apart refl)
counted-other (x ∷ rs) zero (suc r) apart = refl
counted-other (x ∷ rs) (suc k) zero apart = refl
counted-other (x ∷ rs) (suc k) (suc r) apart = counted-other rs k r (λ q. apart (ap suc q))

module _ (v : Counts) (rs : List Row) where
  abbrev row : ℕ
  row = find_row v (visit v rs)

  -- its row has one more
  visit-here : traffic_on (visit v rs) row ≡ one_more (traffic_on rs row)
  unfolding visit
  visit-here = subst (λ (k : ℕ). traffic_on (visit v rs) k ≡ one_more (traffic_on rs k)) (sym (find_visit v rs)) counted
    where
      there : find_row v rs < length (present v rs)
      there = omega (arith, find_visit v rs, visit_finds v rs, length-same (visit v rs) (present v rs) (counts-visit v rs))

      counted : traffic_on (visit v rs) (find_row v rs) ≡ one_more (traffic_on rs (find_row v rs))
      counted = counted-here (present v rs) (find_row v rs) there ∙ ap one_more (present-on (λ x. x.traffic) v refl rs (find_row v rs))

  visit-other : (r : ℕ) → (row ≡ r → ⊥) → traffic_on (visit v rs) r ≡ traffic_on rs r
  unfolding visit
  visit-other r apart =
      counted-other (present v rs) (find_row v rs) r (λ q. apart (find_visit v rs ∙ q))
      ∙ present-on (λ x. x.traffic) v refl rs r

  -- a row that was not there is its row
  visit-new : (r : ℕ) → length rs ≤ r → r < length (visit v rs) → row ≡ r
  unfolding absent
  visit-new r from h = ⊎_elim
      (λ b. let none : absent v rs ≡ 0 = rw (lt-ltb (find_row v rs) (length rs) b) in absurd (omega (arith, none, length-visit v rs)))
      (λ b. omega (arith, find_visit v rs, visit_finds v rs, length-visit v rs, new_le (absent v rs) v rs refl))
      (lt_or_le (find_row v rs) (length rs))

-- what follows it adds nothing
follow-traffic : (v : Counts) (e : ℕ) (rs : List Row) (r : ℕ) → traffic_on (follow v e rs) r ≡ traffic_on rs r
unfolding follow
follow-traffic v e rs r = update_on (λ x. x.traffic) (marked e) (λ x. refl) rs (find_row v rs) r

-- counts that are found are those of the row
find_counts : (v : Counts) (rs : List Row) → find_row v rs < length rs → (get_or rs (find_row v rs) (new_row [])).counts ≡ v
unfolding find_row
find_counts v rs h =
    let test : Row → Bool = λ x. not (equal x.counts v) in
    let f = (failing-exactly test (new_row []) rs (first_failing test rs)).0 (refl, failing-some test rs h) in
    equal_true (get_or rs (first_failing test rs) (new_row [])).counts v (not-not f.1)
  where
    not-not : {b : Bool} → not b ≡ false → b ≡ true
    not-not {b} e = ⊎_elim (λ y. y) (λ n. absurd (true≢false (ap not (sym n) ∙ e))) (true_or_false b)

-- ---- A word

-- a prefix of x, behind u, uses row r: its counts are found there
abbrev pub Uses : Word → Word → List Row → ℕ → Type 0
Uses u x rs r = (b : Word) × Begins b x × (find_row (counts max_events (u ++ b)) rs ≡ r)

module _ (u : Word) (e : ℕ) (x : Word) (rs : List Row) (h : e < max_events) (below : Below max_events x) where
  abbrev v : Counts
  v = counts max_events u

  abbrev u' : Word
  u' = u ++ e ∷ []

  abbrev rs₁ : List Row
  rs₁ = follow v e (visit v rs)

  abbrev rs' : List Row
  rs' = take_word rs₁ (counts max_events u') x

  -- the prefix u, and those behind it
  uses_first : Uses u (e ∷ x) rs' (find_row v (visit v rs))
  uses_first = ([], (e ∷ x, refl), ap (λ (y : Word). find_row (counts max_events y) rs') (append-nil u) ∙ found_after u e x rs below)

  uses_later : (r : ℕ) → Uses u' x rs' r → Uses u (e ∷ x) rs' r
  uses_later r (b, (s, q), at) =
      (e ∷ b, (s, ap (λ (y : Word). e ∷ y) q), ap (λ (y : Word). find_row (counts max_events y) rs') (sym (append_snoc u e b)) ∙ at)

  uses_cases : (r : ℕ) → Uses u (e ∷ x) rs' r → (find_row v (visit v rs) ≡ r) ⊎ Uses u' x rs' r
  uses_cases r ([], s, at) = inl (sym (found_after u e x rs below) ∙ ap (λ (y : Word). find_row (counts max_events y) rs') (sym (append-nil u)) ∙ at)
  uses_cases r (a ∷ b, (s, q), at) =
      let same : a ≡ e = cc in
      let rest : b ++ s ≡ x = cc in
      inr (b, (s, rest), ap (λ (y : Word). find_row (counts max_events y) rs') (append_snoc u e b ∙ ap (λ (c : ℕ). u ++ c ∷ b) (sym same)) ∙ at)

  -- the prefixes of a word have different counts, and so different rows
  uses_once : (r : ℕ) → find_row v (visit v rs) ≡ r → Uses u' x rs' r → ⊥
  uses_once r here (b, _, at) =
      let w : Counts = counts max_events (u' ++ b) in
      let found = found_after u e x rs below in
      let size = visit_le rs₁ (counts max_events u') x in
      let more = length-visit (counts max_events u') rs₁ in
      let there : find_row v rs' < length rs' = omega (arith, found, visit_finds v rs, size, more, length-follow v e (visit v rs)) in
      let same : find_row w rs' ≡ find_row v rs' = at ∙ sym here ∙ sym found in
      counts-longer max_events u e b h
      (ap (counts max_events) (sym (append_snoc u e b)) ∙ sym (find_counts w rs' (omega arith))
      ∙ ap (λ (k : ℕ). (get_or rs' k (new_row [])).counts) same ∙ find_counts v rs' there)

  rows-first : (r : ℕ) → traffic_on rs₁ r ≡ traffic_on (visit v rs) r
  rows-first r = follow-traffic v e (visit v rs) r

-- the rows that a word uses have one more, and no other has
pub record Passed (u x : Word) (rs rs' : List Row) : Type 0 where
  pub used : (r : ℕ) → Uses u x rs' r → traffic_on rs' r ≡ one_more (traffic_on rs r)
  pub unused : (r : ℕ) → (Uses u x rs' r → ⊥) → traffic_on rs' r ≡ traffic_on rs r
  -- a row that was not there has 1
  pub new : (r : ℕ) → length rs ≤ r → r < length rs' → traffic_on rs' r ≡ 1

passed-last : (u : Word) (rs : List Row) → Passed u [] rs (visit (counts max_events u) rs)
passed-last u rs = record {
  used = λ r (b, begins, at). used r (whole b begins at);
  unused = λ r none.
      visit-other v rs r (λ q. none ([], ([], refl), ap (λ (y : Word). find_row (counts max_events y) (visit v rs)) (append-nil u) ∙ q));
  new = λ r from h. used r (visit-new v rs r from h) ∙ ap one_more (none-beyond rs r from);
}
  where
    v : Counts
    v = counts max_events u

    whole : (b : Word) → Begins b [] → {r : ℕ} → find_row (counts max_events (u ++ b)) (visit v rs) ≡ r → find_row v (visit v rs) ≡ r
    whole [] begins at = ap (λ (y : Word). find_row (counts max_events y) (visit v rs)) (sym (append-nil u)) ∙ at
    whole (a ∷ b) begins at = absurd (cons≢nil begins.1)

    used : (r : ℕ) → find_row v (visit v rs) ≡ r → traffic_on (visit v rs) r ≡ one_more (traffic_on rs r)
    used r q = subst (λ (k : ℕ). traffic_on (visit v rs) k ≡ one_more (traffic_on rs k)) q (visit-here v rs)

passed-more : (u : Word) (e : ℕ) (x : Word) (rs : List Row) (h : e < max_events) (below : Below max_events x)
    → Passed (u ++ e ∷ []) x (rs₁ u e x rs h below) (rs' u e x rs h below) → Passed u (e ∷ x) rs (rs' u e x rs h below)
passed-more u e x rs h below p = record {
  used = λ r uses. ⊎_elim (first r) (later r) (uses_cases u e x rs h below r uses);
  unused = λ r none.
      p.unused r (λ k. none (uses_later u e x rs h below r k)) ∙ rows-first u e x rs h below r
      ∙ visit-other (counts max_events u) rs r (λ q. none (subst (Uses u (e ∷ x) (rs' u e x rs h below)) q (uses_first u e x rs h below)));
  new = λ r from k. ⊎_elim
      (λ b.
      let size = length-follow (counts max_events u) e (visit (counts max_events u) rs) in
      first r (visit-new (counts max_events u) rs r from (omega (arith, b, size)))
      ∙ ap one_more (none-beyond rs r from))
      (λ b. p.new r b k)
      (lt_or_le r (length (rs₁ u e x rs h below)));
}
  where
    first : (r : ℕ) → find_row (counts max_events u) (visit (counts max_events u) rs) ≡ r
        → traffic_on (rs' u e x rs h below) r ≡ one_more (traffic_on rs r)
    first r q =
        p.unused r (uses_once u e x rs h below r q) ∙ rows-first u e x rs h below r
        ∙ subst (λ (k : ℕ). traffic_on (visit (counts max_events u) rs) k ≡ one_more (traffic_on rs k)) q (visit-here (counts max_events u) rs)

    later : (r : ℕ) → Uses (u ++ e ∷ []) x (rs' u e x rs h below) r → traffic_on (rs' u e x rs h below) r ≡ one_more (traffic_on rs r)
    later r uses =
        p.used r uses
        ∙ ap one_more (rows-first u e x rs h below r ∙ visit-other (counts max_events u) rs r (λ q. uses_once u e x rs h below r q uses))

pub take-passed : (x u : Word) (rs : List Row) → Below max_events x → Passed u x rs (take_word rs (counts max_events u) x)
unfolding take_word add_event
take-passed [] u rs below = passed-last u rs
take-passed (e ∷ x) u rs below =
    let h : e < max_events = below e (Memᴰ.head refl) in
    let later : Below max_events x = λ a k. below a (Memᴰ.tail k) in
    let v : Counts = counts max_events u in
    subst (λ (c : Counts). Passed u (e ∷ x) rs (take_word (follow v e (visit v rs)) c x)) (counts_snoc max_events u e h)
    (passed-more u e x rs h later (take-passed x (u ++ e ∷ []) (follow v e (visit v rs)) later))
