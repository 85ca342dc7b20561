-- The row of each prefix of a word is known before anything is written: none of them finds a row that the same word appends.
use Rattle.std.specs.Prelude.{◌≡◌, refl, ◌⊎◌, false, not, List, [], ◌∷◌, ◌++◌, ℕ, ◌+◌, ◌<◌, ◌≤◌, get_or, drop}
use Rattle.std.proofs.Common.{sym, ap, ap₂, ◌∙◌, subst, inl, inr, append-nil, append_assoc, zero-le, suc-le-suc, le_refl, add-one, arith, length-append, drop-drop, drop-cons}
use Rattle.std.proofs.Math.Logic.{⊎_elim}
use Rattle.std.proofs.Math.ListN.{length}
use borrow.Author.Tests.{lt-ltb, le-ltb}
use Rattle.laws.specs.Booleans.{lt_or_le}
use Rattle.laws.specs.Lists.{equal}
use Rattle.laws.specs.Scans.{failing-most, failing-found, failing-past}
use Rattle.limits.specs.Limits.{max_events}
use Rattle.nets.specs.Events.{EventsBelow}
use Rattle.nets.specs.Nets.{Counts, Word, counts}
use Rattle.rows.specs.Rows.{Row, find_row, new_row, visit, follow, add_event, take_word, none, absent, row_or, numbered}
use Rattle.rows.specs.Visiting.{counts_of, length-same, find_same, visit_cases, length-visit, find_visit, counts-follow, length-follow}
use Rattle.rows.specs.Growth.{counts-none, counts-more, total, total-add_event, differ, below-tail, length-add_event}

-- the rows that taking a word uses, from the prefix with counts v on
unfoldable pub used : List Row → Counts → Word → List ℕ
used rs v [] = find_row v rs ∷ []
used rs v (e ∷ w) = find_row v rs ∷ used (follow v e (visit v rs)) (add_event v e) w

pub used-first : (rs : List Row) (v : Counts) (w : Word) → get_or (used rs v w) 0 0 ≡ find_row v rs
unfolding used
used-first rs v [] = refl
used-first rs v (e ∷ w) = refl

-- the last of them is the row of the whole word
used-last : (rs : List Row) (u w : Word) → EventsBelow max_events w
    → get_or (used rs (counts max_events u) w) (length w) 0 ≡ find_row (counts max_events (u ++ w)) (take_word rs (counts max_events u) w)
unfolding used take_word
used-last rs u [] below = rw append-nil (sym (find_visit (counts max_events u) rs))
used-last rs u (e ∷ w) below =
    let v = counts max_events u in
    let next = follow v e (visit v rs) in
    subst (λ (c : Counts). get_or (used next c w) (length w) 0 ≡ find_row (counts max_events (u ++ e ∷ w)) (take_word next c w))
    (counts-more u e (below 0 (suc-le-suc zero-le)))
    (used-last next (u ++ e ∷ []) w (below-tail max_events e w below)
    ∙ ap (λ (x : Word). find_row (counts max_events x) (take_word next (counts max_events (u ++ e ∷ [])) w)) (append_assoc u (e ∷ []) w))

-- the row of a whole word, once it is taken
unfoldable pub whole_row : List Row → Word → ℕ
whole_row rs w = find_row (counts max_events w) (take_word rs none w)

pub used-whole : (rs : List Row) (w : Word) → EventsBelow max_events w → get_or (used rs none w) (length w) 0 ≡ whole_row rs w
unfolding whole_row
used-whole rs w below =
    subst (λ (c : Counts). get_or (used rs c w) (length w) 0 ≡ find_row (counts max_events w) (take_word rs c w)) (sym counts-none) (used-last rs [] w below)

-- a loop over the prefixes of w, at the prefix of i events, whose counts are v and rows rs; v' and rs' are the next prefix's
pub use_again : (rs : List Row) (v v' w : List ℕ) (i : ℕ) (ns : List ℕ) (rs' : List Row) → drop i ns ≡ used rs v (drop i w) → i < length w
    → rs' ≡ follow v (get_or w i 0) (visit v rs) → v' ≡ add_event v (get_or w i 0) → drop (i + 1) ns ≡ used rs' v' (drop (i + 1) w)
unfolding used
use_again rs v v' w i ns rs' inv h here next =
    sym (drop-drop 1 i ns) ∙ rw (inv, drop-cons w i 0 h, here, next, add-one)

-- ---- Counts looked for in rows that have changed

find_most : (u : Counts) (rs : List Row) → find_row u rs ≤ length rs
unfolding find_row
find_most u rs = failing-most (λ r. not (equal r.counts u)) rs

-- counts u are in the same row of rs₀ and of rs, or in none of both
abbrev Agree : List Row → List Row → Counts → Type 0
Agree rs₀ rs u = ((find_row u rs₀ < length rs₀) × (find_row u rs ≡ find_row u rs₀)) ⊎ ((length rs₀ ≤ find_row u rs₀) × (length rs ≤ find_row u rs))

-- so it stays where the counts of the rows do
agree_same : (rs₀ rs qs : List Row) → counts_of qs ≡ counts_of rs → (u : Counts) → Agree rs₀ rs u → Agree rs₀ qs u
agree_same rs₀ rs qs same u a = rw (find_same qs rs same u, length-same qs rs same) a

-- and where a row with other counts is appended
agree-append : (rs₀ rs : List Row) (v u : Counts) → length rs₀ ≤ length rs → equal v u ≡ false → Agree rs₀ rs u → Agree rs₀ (rs ++ (new_row v ∷ [])) u
unfolding find_row
agree-append rs₀ rs v u more other (inl (h, e)) =
    inl (h, failing-found (λ r. not (equal r.counts u)) rs (new_row v ∷ []) (omega arith) ∙ e)
agree-append rs₀ rs v u more other (inr (h, g)) =
    let past = failing-past (λ r. not (equal r.counts u)) rs (new_row v) g (ap not other) in
    inr (h, rw length-append (omega (arith, past)))

-- rs are the rows rs₀ and some more, with the counts of prefixes before that with counts v
record Grown (rs₀ rs : List Row) (v : Counts) : Type 0 where
  more : length rs₀ ≤ length rs
  agree : (u : Counts) → total v ≤ total u → Agree rs₀ rs u

grown_none : (rs : List Row) (v : Counts) → Grown rs rs v
grown_none rs v = record { more = le_refl _; agree = λ u h. ⊎_elim (λ b. inl (b, refl)) (λ b. inr (b, b)) (lt_or_le (find_row u rs) (length rs)) }

module _ (rs₀ rs : List Row) (v : Counts) (g : Grown rs₀ rs v) where
  -- the number of this prefix's row, and how many rows there are then
  number-here : row_or rs₀ (length rs) v ≡ find_row v rs
  unfolding row_or
  number-here = ⊎_elim
      (λ k. rw (lt-ltb (find_row v rs₀) (length rs₀) k.0) (sym k.1))
      (λ k. let last : length rs ≡ find_row v rs = omega (arith, k.1, find_most v rs) in rw (le-ltb (find_row v rs₀) (length rs₀) k.0) last)
      (g.agree v (le_refl _))

  absent-here : absent v rs₀ ≡ absent v rs
  unfolding absent
  absent-here = ⊎_elim
      (λ k. let here : find_row v rs < length rs = omega (arith, k.0, k.1, g.more) in rw (lt-ltb (find_row v rs₀) (length rs₀) k.0, lt-ltb (find_row v rs) (length rs) here))
      (λ k. rw (le-ltb (find_row v rs₀) (length rs₀) k.0, le-ltb (find_row v rs) (length rs) k.1))
      (g.agree v (le_refl _))

  -- the next prefix
  grown_next : (e : ℕ) → e < length v → Grown rs₀ (follow v e (visit v rs)) (add_event v e)
  grown_next e h = record {
    more = omega (arith, g.more, length-follow v e (visit v rs), length-visit v rs);
    agree = λ u k. agree_same rs₀ (visit v rs) (follow v e (visit v rs)) (counts-follow v e (visit v rs)) u (later u (omega (arith, k, total-add_event v e h)));
  }
    where
      later : (u : Counts) → total v < total u → Agree rs₀ (visit v rs) u
      later u k = ⊎_elim
          (λ p. agree_same rs₀ rs (visit v rs) p.0 u (g.agree u (omega arith)))
          (λ p. agree_same rs₀ (rs ++ (new_row v ∷ [])) (visit v rs) p.0 u (agree-append rs₀ rs v u g.more (differ v u k) (g.agree u (omega arith))))
          (visit_cases v rs)

numbered-from : (rs₀ rs : List Row) (v : Counts) (w : Word) → Grown rs₀ rs v → length v ≡ max_events → EventsBelow max_events w → numbered rs₀ (length rs) v w ≡ used rs v w
unfolding numbered used
numbered-from rs₀ rs v [] g twelve below = ap (λ (r : ℕ). r ∷ []) (number-here rs₀ rs v g)
numbered-from rs₀ rs v (e ∷ w) g twelve below =
    let h : e < length v = rw twelve (below 0 (suc-le-suc zero-le)) in
    let size : length rs + absent v rs₀ ≡ length (follow v e (visit v rs)) =
    ap (λ (k : ℕ). length rs + k) (absent-here rs₀ rs v g) ∙ sym (length-follow v e (visit v rs) ∙ length-visit v rs) in
    ap₂ ◌∷◌ (number-here rs₀ rs v g)
    (ap (λ (k : ℕ). numbered rs₀ k (add_event v e) w) size
    ∙ numbered-from rs₀ (follow v e (visit v rs)) (add_event v e) w (grown_next rs₀ rs v g e h) (length-add_event v e ∙ twelve) (below-tail max_events e w below))

-- the rows numbered before anything is written are those that are used
pub numbered-used : (rs : List Row) (v : Counts) (w : Word) → length v ≡ max_events → EventsBelow max_events w → numbered rs (length rs) v w ≡ used rs v w
numbered-used rs v w twelve below = numbered-from rs rs v w (grown_none rs v) twelve below
