-- Taking a word: the loops over its events.
use Rattle.std.specs.Prelude.{◌≡◌, refl, false, cond, List, [], ◌∷◌, ℕ, zero, suc, ◌+◌, ◌<◌, ◌≤◌, length, get_or, drop, ltb}
use Rattle.std.proofs.Common.{sym, ◌∙◌, zero-le, le_refl, add-zero, arith, length-set}
use Rattle.std.proofs.Math.Bool.{true}
use Rattle.std.proofs.Math.Logic.{⊎_elim}
use Rattle.std.proofs.Math.Nat.{add_assoc}
use Rattle.std.proofs.Math.Numerals.{add-one}
use Rattle.std.proofs.Math.ListN.{set, drop_of_length-le}
use Rattle.std.proofs.Math.Dec.{eqb}
use Rattle.std.proofs.Math.Seq.{drop-cons, get_or-set_other}
use Rattle.std.proofs.lemmas.List.{set-get_or}
use borrow.Author.Tests.{eqb-true, eqb-false, lt-ltb, le-ltb}
use Rattle.laws.specs.Booleans.{true_or_false, lt_or_le}
use Rattle.laws.specs.Lists.{get_d_copies}
use Rattle.limits.specs.Limits.{max_events}
use Rattle.rows.specs.Rows.{Row, visit, follow, add_event, absent, new_rows, take_word, none}

-- v counts at most i events
pub record Counted (v : List ℕ) (i : ℕ) : Type 0 where
  pub twelve : length v ≡ max_events
  pub few : (j : ℕ) → get_or v j 0 ≤ i

pub counted_none : Counted none 0
counted_none = record { twelve = refl; few = λ j. rw (get_d_copies {A = ℕ} max_events j 0) (le_refl 0) }

set_le : (v : List ℕ) (e j x m : ℕ) → get_or v j 0 ≤ m → x ≤ m → get_or (set v e x) j 0 ≤ m
set_le [] e j x m h hx = h
set_le (y ∷ v) zero zero x m h hx = hx
set_le (y ∷ v) zero (suc j) x m h hx = h
set_le (y ∷ v) (suc e) zero x m h hx = h
set_le (y ∷ v) (suc e) (suc j) x m h hx = set_le v e j x m h hx

pub counted-add_event : (v : List ℕ) (i e : ℕ) → e < max_events → Counted v i → Counted (add_event v e) (i + 1)
unfolding add_event
counted-add_event v i e h c =
    record { twelve = length-set v e _ ∙ c.twelve; few = λ j. set_le v e j _ (i + 1) (omega (arith, c.few j)) (omega (arith, c.few e)) }

apart : (i e : ℕ) → i ≤ e → (i ≡ e → ⊥) → i + 1 ≤ e
apart i e h n = ⊎_elim (λ l. omega arith) (λ l. absurd (n (omega arith))) (lt_or_le i e)

-- a loop over the counts v that adds event e, once it has passed i of them
unfoldable pub adding : List ℕ → ℕ → ℕ → List ℕ
adding v e i = cond (ltb e i) (add_event v e) v

module _ (v : List ℕ) (e : ℕ) where
  before : (i : ℕ) → i ≤ e → adding v e i ≡ v
  unfolding adding
  before i h = rw (le-ltb e i h)

  after : (i : ℕ) → e < i → adding v e i ≡ add_event v e
  unfolding adding
  after i h = rw (lt-ltb e i h)

  pub adding-none : v ≡ adding v e 0
  adding-none = sym (before 0 zero-le)

  pub adding-end : e < max_events → (i : ℕ) → max_events ≤ i → adding v e i ≡ add_event v e
  adding-end h i end = after i (omega arith)

  -- count i is as it was
  pub adding-at : (i : ℕ) → get_or (adding v e i) i 0 ≡ get_or v i 0
  unfolding add_event
  adding-at i = ⊎_elim
      (λ l. rw (after i l) (get_or-set_other v e i _ 0 (λ p. omega arith)))
      (λ l. rw (before i l))
      (lt_or_le e i)

  -- x is what count i grows by
  module _ (i x : ℕ) (is : x ≡ cond (eqb i e) 1 0) where
    pub adding-more : set (adding v e i) i (get_or (adding v e i) i 0 + x) ≡ adding v e (i + 1)
    unfolding add_event
    adding-more = ⊎_elim here other (true_or_false (eqb i e))
      where
        here : eqb i e ≡ true → set (adding v e i) i (get_or (adding v e i) i 0 + x) ≡ adding v e (i + 1)
        here h =
            let one : x ≡ 1 = is ∙ rw h in
            let same : i ≡ e = eqb-true i e h in
            rw (before i (omega arith), after (i + 1) (omega arith), one, same)

        other : eqb i e ≡ false → set (adding v e i) i (get_or (adding v e i) i 0 + x) ≡ adding v e (i + 1)
        other h =
            let none : x ≡ 0 = is ∙ rw h in
            rw (none, add-zero, set-get_or) (⊎_elim (λ l. rw (after i l, after (i + 1) (omega arith))) (λ l. rw (before i l, before (i + 1) (apart i e l (eqb-false i e h)))) (lt_or_le e i))

    pub adding-fits : (m : ℕ) → get_or v e 0 < m → get_or (adding v e i) i 0 ≤ m → get_or (adding v e i) i 0 + x ≤ m
    adding-fits m few fits = ⊎_elim here other (true_or_false (eqb i e))
      where
        here : eqb i e ≡ true → get_or (adding v e i) i 0 + x ≤ m
        here h =
            let one : x ≡ 1 = is ∙ rw h in
            let same : i ≡ e = eqb-true i e h in
            rw (before i (omega arith), one, same) (omega arith)

        other : eqb i e ≡ false → get_or (adding v e i) i 0 + x ≤ m
        other h = let none : x ≡ 0 = is ∙ rw h in rw (none, add-zero) fits

-- a loop over the prefixes of w, at the prefix of i events, whose counts are v; v' are the next prefix's
module _ (rs : List Row) (v v' w : List ℕ) (i : ℕ) where
  -- that counts the prefixes with no row: n in all, k of them so far, and a at this prefix
  module _ (n k a : ℕ) (inv : k + new_rows rs v (drop i w) ≡ n) (here : a ≡ absent v rs) where
    pub count-again : i < length w → v' ≡ add_event v (get_or w i 0) → k + a + new_rows rs v' (drop (i + 1) w) ≡ n
    unfolding new_rows
    count-again h next = rw (← inv, drop-cons w i 0 h, add-one, add_assoc, here, next)

    pub count-end : length w ≤ i → k + a ≡ n
    unfolding new_rows
    count-end h = rw (← inv, drop_of_length-le w h, here)

  -- that takes the word: all the rows that it leads to are all, and rs' those after this prefix
  module _ (all rs' : List Row) (inv : take_word rs v (drop i w) ≡ all) where
    pub take_again : i < length w → rs' ≡ follow v (get_or w i 0) (visit v rs) → v' ≡ add_event v (get_or w i 0) → take_word rs' v' (drop (i + 1) w) ≡ all
    unfolding take_word
    take_again h here next = rw (here, next, ← inv, drop-cons w i 0 h, add-one)

    pub take-end : length w ≤ i → visit v rs ≡ all
    unfolding take_word
    take-end h = rw (← inv, drop_of_length-le w h)
