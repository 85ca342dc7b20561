-- Laws of the replay of a word on places side by side.
use Rattle.std.specs.Prelude.{◌≡◌, refl, true, List, [], ◌∷◌, ◌++◌, ℕ, suc, ◌+◌, ◌*◌, ◌^◌, ◌≤◌, ◌<◌, T, ℤ, neg_ℤ, ◌+ℤ◌, ◌-ℤ◌, length, replicate, set, take}
use Rattle.std.proofs.Common.{sym, ap₂, ◌∙◌, append-nil, append_assoc, zero-le, suc-le-suc, arith, add-one, length-set, take-suc, take_all, get_or-set_other, SFits}
use Rattle.std.proofs.Math.Path.{ap, subst}
use Rattle.std.proofs.Math.IntN.{pos, sub_ℕ, +ℤ_idr, +ℤ_assoc}
use Rattle.std.proofs.Math.ListN.{get_or}
use Rattle.std.proofs.lemmas.List.{get_or-replicate}
use Rattle.std.specs.Int.Signed.{non_neg}
use Rattle.std.specs.Int.{w64}
use Rattle.laws.specs.Booleans.{yes_true}
use Rattle.laws.specs.Differences.{difference, difference-add, less_none, mag_difference}
use Rattle.laws.specs.Lists.{each_next, each_set}
use Rattle.limits.specs.Limits.{max_events}
use Rattle.nets.specs.Nets.{Word, Place, no_place, counts, tokens}
use Rattle.nets.specs.Events.{EventsBelow}
use Rattle.nets.specs.Markings.{left, covered, moved, tokens_snoc}
use Rattle.places.specs.Machine.{Held}
use Rattle.replays.specs.declared.Changes.{Changes}
use Rattle.replays.specs.Columns.{column_width, event_slots, changes_of, change, no_changes, Column, Beside, stepped, Steppable, Stepped, Noted, behind, Replayable, Advanced, CoveredAll}

-- ---- The columns of a table

-- in the table of zeros each column is that of the place that takes no token and puts none there
pub column-none : {j : ℕ} → j < column_width → Column no_place (replicate event_slots no_changes) j
column-none {j} few = record {
  changes = λ a b ha hb.
      ap (λ (r : Changes). change r b j) (get_or-replicate event_slots a no_changes (record { to = [] }) (omega arith))
      ∙ ap (λ (l : List ℤ). get_or l j (pos 0)) (get_or-replicate event_slots b (replicate column_width (pos 0)) [] (omega arith))
      ∙ get_or-replicate column_width j (pos 0) (pos 0) few;
  still = (refl, refl);
  produced = λ e. omega arith;
  consumed = λ e. omega arith;
}

-- a column stays what it is where another one is written
pub column-beside : {p : Place} {m m' : List Changes} {j k : ℕ} → Beside m m' j → (k ≡ j → ⊥) → Column p m k → Column p m' k
column-beside {k = k} beside other c = record {
  changes = λ a b ha hb. beside a b k other ∙ c.changes a b ha hb;
  still = c.still;
  produced = c.produced;
  consumed = c.consumed;
}

-- ---- The tokens behind a word

-- a word, then another
behind-append : (p : Place) (t : ℤ) (u w : Word) → behind p t (u ++ w) ≡ behind p (behind p t u) w
unfolding behind
behind-append p t [] w = refl
behind-append p t (e ∷ u) w = behind-append p (moved p t e) u w

-- a place that takes no token and puts none there keeps none
pub behind-none : (w : Word) → behind no_place (pos 0) w ≡ pos 0
unfolding behind
behind-none [] = refl
behind-none (e ∷ w) = behind-none w

-- from the tokens after the events of u, a word leads to those after the events of both
pub behind-tokens : (n : ℕ) (p : Place) (u w : Word) → EventsBelow n w → behind p (tokens n p (counts n u)) w ≡ tokens n p (counts n (u ++ w))
unfolding behind
behind-tokens n p u [] below = ap (λ (v : Word). tokens n p (counts n v)) (sym (append-nil u))
behind-tokens n p u (e ∷ w) below =
    ap (λ (t : ℤ). behind p t w) (sym (tokens_snoc n p u e (below 0 (suc-le-suc zero-le))))
    ∙ behind-tokens n p (u ++ e ∷ []) w (λ k h. below (suc k) (suc-le-suc h))
    ∙ ap (λ (v : Word). tokens n p (counts n v)) (append_assoc u (e ∷ []) w)

-- one event more
behind-next : (p : Place) (t : ℤ) (w : Word) (i : ℕ) → i < length w → behind p t (take (i + 1) w) ≡ moved p (behind p t (take i w)) (get_or w i 0)
unfolding behind
behind-next p t w i h = ap (behind p t) (ap (λ (k : ℕ). take k w) (add-one i) ∙ take-suc w i 0 h) ∙ behind-append p t (take i w) (get_or w i 0 ∷ [])

-- ---- Lists written one number after another

-- l is l₀ but for the numbers below k, of which P holds
pub record Written (P : ℕ → ℤ → Type 0) (l₀ l : List ℤ) (k : ℕ) : Type 0 where
  pub size : length l ≡ length l₀
  pub below : (i : ℕ) → i < k → P i (get_or l i (pos 0))
  pub others : (i : ℕ) → k ≤ i → get_or l i (pos 0) ≡ get_or l₀ i (pos 0)

module _ {P : ℕ → ℤ → Type 0} {l₀ : List ℤ} where
  pub written_start : Written P l₀ l₀ 0
  written_start = record { size = refl; below = λ i b. absurd (omega arith); others = λ i b. refl }

  pub written_next : {l : List ℤ} {k : ℕ} (x : ℤ) → k < length l₀ → Written P l₀ l k → P k x → Written P l₀ (set l k x) (k + 1)
  written_next {l} {k} x here w holds = record {
    size = length-set l k x ∙ w.size;
    below = each_set (pos 0) P l k x (omega (arith, w.size)) w.below holds;
    others = λ i b. get_or-set_other l k i x (pos 0) (λ e. omega arith) ∙ w.others i (omega arith);
  }

-- ---- The replay

-- a surplus after i steps: a difference of two numbers, of which each grows by less than 65536 with a step
pub record Far (z : ℤ) (i : ℕ) : Type 0 where
  pub plus : ℕ
  pub minus : ℕ
  pub is : z ≡ sub_ℕ plus minus
  pub most : (plus < 2 ^ 62 + 65536 * i) × (minus < 2 ^ 62 + 65536 * i)

far-start : {z : ℤ} → Held z → Far z 0
far-start h = record { plus = h.plus; minus = h.minus; is = h.is; most = (omega (arith, h.far.0), omega (arith, h.far.1)) }

far-next : {z : ℤ} {i : ℕ} → Far z i → (x y : ℕ) → x < 65536 → y < 65536 → Far (z +ℤ (pos x -ℤ pos y)) (i + 1)
far-next f x y hx hy = record {
  plus = f.plus + x;
  minus = f.minus + y;
  is = ap₂ (λ (a b : ℤ). a +ℤ b) f.is (difference x y) ∙ difference-add f.plus f.minus x y;
  most = (omega (arith, f.most.0), omega (arith, f.most.1));
}

far-fits : {z : ℤ} {i : ℕ} → i ≤ 65536 → Far z i → SFits w64 z
far-fits few f = record { sfits = rw f.is (mag_difference f.plus f.minus (2 ^ 63) (omega (arith, f.most.0)) (omega (arith, f.most.1))) }

-- behind the first i events of a word, the last of which is `last`: s has the surplus of each place, which misses what the last event puts there
-- to be its tokens; where a number of x is 0 or more, each step so far was covered in its column
pub record Replaying (m : List Changes) (t : List ℤ) (w : Word) (s x : List ℤ) (last i : ℕ) : Type 0 where
  pub seen : i ≤ length w
  pub event : last ≤ max_events
  pub surplus : (j : ℕ) (p : Place) → j < column_width → Column p m j → get_or s j (pos 0) +ℤ pos (p.produced last) ≡ behind p (get_or t j (pos 0)) (take i w)
  pub far : (j : ℕ) → j < column_width → Far (get_or s j (pos 0)) i
  pub covers : (j : ℕ) (p : Place) → j < column_width → Column p m j → T (non_neg (get_or x j (pos 0)))
      → (k : ℕ) → k < i → covered p (behind p (get_or t j (pos 0)) (take k w)) (get_or w k 0) ≡ true

module _ {m : List Changes} {t : List ℤ} {w : Word} (r : Replayable t m w) where
  pub replaying_start : {s x : List ℤ} → ((j : ℕ) → j < column_width → get_or s j (pos 0) ≡ get_or t j (pos 0)) → Replaying m t w s x max_events 0
  unfolding behind
  replaying_start {s} loaded = record {
    seen = omega arith;
    event = omega arith;
    surplus = λ j p b c. ap (λ (n : ℕ). get_or s j (pos 0) +ℤ pos n) c.still.0 ∙ +ℤ_idr (get_or s j (pos 0)) ∙ loaded j b;
    far = λ j b. subst (λ (z : ℤ). Far z 0) (sym (loaded j b)) (far-start (r.held j b));
    covers = λ j p b c clear k h. absurd (omega arith);
  }

  module _ {s x : List ℤ} {last i : ℕ} (now : Replaying m t w s x last i) where
    -- with the change to an event: what it leaves of the tokens
    left_is : (e : ℕ) → e ≤ max_events → (j : ℕ) (p : Place) → j < column_width → Column p m j → stepped (changes_of m last e) s j ≡ left p (behind p (get_or t j (pos 0)) (take i w)) e
    left_is e h j p b c =
        ap (λ (z : ℤ). get_or s j (pos 0) +ℤ z) (c.changes last e now.event h)
        ∙ sym (+ℤ_assoc (get_or s j (pos 0)) (pos (p.produced last)) (neg_ℤ (pos (p.consumed e))))
        ∙ ap (λ (z : ℤ). z -ℤ pos (p.consumed e)) (now.surplus j p b c)

    stepped-far : (a e : ℕ) → a ≤ max_events → e ≤ max_events → (j : ℕ) → j < column_width → Far (stepped (changes_of m a e) s j) (i + 1)
    stepped-far a e l h j b =
        let p = (r.columns j b).0 in
        let c = (r.columns j b).1 in
        subst (λ (z : ℤ). Far (get_or s j (pos 0) +ℤ z) (i + 1)) (sym (c.changes a e l h))
        (far-next (now.far j b) (p.produced a) (p.consumed e) (c.produced a) (c.consumed e))

    -- a step from any event to any event stays in the range of an `i64`
    pub replaying_fits : (a e : ℕ) → a ≤ max_events → e ≤ max_events → Steppable (changes_of m a e) s
    replaying_fits a e l h j b = far-fits (omega (arith, now.seen, r.size)) (stepped-far a e l h j b)

    -- the next event
    pub replaying_next : {s' x' : List ℤ} → i < length w → let e = get_or w i 0 in Stepped (changes_of m last e) s s' → Noted (changes_of m last e) s x x' → Replaying m t w s' x' e (i + 1)
    replaying_next {s'} {x'} h sum noted =
        let e = get_or w i 0 in
        let few : e ≤ max_events = omega (arith, r.events i h) in
        record {
          seen = omega arith;
          event = few;
          surplus = λ j p b c. ap (λ (z : ℤ). z +ℤ pos (p.produced e)) (sum j b ∙ left_is e few j p b c) ∙ sym (behind-next p (get_or t j (pos 0)) w i h);
          far = λ j b. subst (λ (z : ℤ). Far z (i + 1)) (sym (sum j b)) (stepped-far last e now.event few j b);
          covers = λ j p b c clear.
              let both = noted j b clear in
              each_next (λ (k : ℕ). covered p (behind p (get_or t j (pos 0)) (take k w)) (get_or w k 0) ≡ true) i
              (now.covers j p b c both.0)
              (yes_true _ (subst (λ (z : ℤ). T (non_neg z)) (left_is e few j p b c) both.1));
        }

    module _ (end : length w ≤ i) where
      -- behind the last event
      pub replaying_end : (t' : List ℤ) → Stepped (changes_of m last max_events) s t' → Advanced m t t' w
      replaying_end t' sum j p b c =
          sum j b
          ∙ left_is max_events (omega arith) j p b c
          ∙ less_none (behind p (get_or t j (pos 0)) (take i w)) c.still.1
          ∙ ap (behind p (get_or t j (pos 0))) (take_all i w end)

      pub replaying_covered : ((j : ℕ) → j < column_width → T (non_neg (get_or x j (pos 0)))) → CoveredAll m t w
      replaying_covered clear j p b c k h = now.covers j p b c (clear j b) k (omega arith)
