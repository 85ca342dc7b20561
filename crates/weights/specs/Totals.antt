-- The sums of a certificate's terms, as the code adds them up term by term, and their laws.
use Rattle.std.specs.Prelude.{◌≡◌, Bool, ◌&&◌, eqb, ℤ, pos, ◌+ℤ◌, length, get_or, set, replicate, drop}
use Rattle.std.specs.Int.Signed.{le_z}
use Rattle.std.proofs.Common.{nat_eq}
use mir.Val.{bool_byte}
use Rattle.std.proofs.Math.Path.{refl, sym, ap, ap₂}
use Rattle.std.proofs.Common.{◌∙◌, subst, ⊎_elim, le_refl, zero-add, mul-zero, arith, add-one, length-set, drop_of_length-le, take_all, ext_get_or, get_or-drop, get_or-set_same, get_or-set_other}
use Rattle.std.proofs.Math.Bool.{true, false, cond, and-true}
use mathlib.Core.List.{List, [], ◌∷◌, ◌++◌, append-nil}
use Prim.Native.Nat.{ℕ, ◌+◌, ◌*◌, ◌≤◌, ◌<◌}
use Rattle.std.proofs.Math.Nat.{zero-mul, mul-one, mul-le-mul}
use Rattle.std.proofs.Math.Decide.{ℕ_discrete}
use borrow.Author.Tests.{le-leb, leb-true}
use Rattle.std.proofs.Math.Dec.{leb}
use Rattle.std.proofs.Math.ListN.{get_or-eq_default}
use Rattle.std.proofs.Math.Seq.{paste, paste-zero, paste-suc}
use Rattle.std.proofs.lemmas.List.Edits.{drop-paste}
use Rattle.laws.specs.Booleans.{lt_or_le}
use Rattle.laws.specs.Lists.{all, all_append, all_below, tabulate, tabulate-same, length-tabulate, get_d_tabulate, get_d_copies}
use Rattle.laws.specs.Bits.{bit}
use Rattle.limits.specs.Limits.{max_events}
use Rattle.nets.specs.Nets.{Counts, at, same, weighed}
use Rattle.nets.specs.Weights.{same_refl, same_ne, weighed-most, weighed-last}
use Rattle.rows.specs.Rows.{Row}
use Rattle.bundles.specs.Layout.{TermFields}
use Rattle.pairs.specs.Pairs.{row_of}
use Rattle.pairs.specs.PairSums.{SmallRows}
use Rattle.weights.specs.Terms.{weight_in, step_in, weighed_rows}

-- the largest two-byte number
abbrev pub max_number : ℕ
max_number = 65535

-- sums with g × h(i) added at each event
unfoldable pub added : ℕ → (ℕ → ℕ) → List ℕ → List ℕ
added g h s = tabulate max_events (λ i. at s i + g * h i)

-- a weight as it is added to the sums, where all weights sum up to `total`
unfoldable pub added_weight : ℕ → ℕ → ℕ
added_weight total g = cond (leb total max_number) g 0

-- whether the inequalities at each event hold for the event e after the counts v
unfoldable pub sums_hold : List ℕ → List ℕ → Counts → ℕ → ℕ → Bool
sums_hold before of_event v e k =
    all_below max_events (λ i. leb (at before i) (k * at v i) && leb (k * (at v i + same e i)) (at before i + at of_event i))

-- the same with the sums of pairs, which are added to those of the terms
abbrev pub paired_holds_at : List ℕ → List ℕ → List ℤ → Counts → ℕ → ℕ → ℕ → Bool
paired_holds_at before of_event paired v e k i =
    let sum = pos (at before i) +ℤ get_or paired i (pos 0) in
    le_z sum (pos (k * at v i)) && le_z (pos (k * (at v i + same e i))) (sum +ℤ pos (at of_event i))

unfoldable pub paired_hold : List ℕ → List ℕ → List ℤ → Counts → ℕ → ℕ → Bool
paired_hold before of_event paired v e k = all_below max_events (paired_holds_at before of_event paired v e k)

-- [a = b] as the code has it: 1 where it is true, else 0
pub one_if : (a b : ℕ) → ◌≡◌ {A = ℕ} (bool_byte (nat_eq a b)) (same a b)
unfolding same
one_if a b = go (nat_eq a b)
  where
    go : (t : Bool) → ◌≡◌ {A = ℕ} (bool_byte t) (cond t 1 0)
    go true = refl
    go false = refl

-- ---- sums with a term more, as the code adds it

length-added : (g : ℕ) (h : ℕ → ℕ) (s : List ℕ) → length (added g h s) ≡ max_events
unfolding added
length-added g h s = length-tabulate max_events (λ i. at s i + g * h i)

at_added : (g : ℕ) (h : ℕ → ℕ) (s : List ℕ) (i : ℕ) → i < max_events → at (added g h s) i ≡ at s i + g * h i
unfolding added
at_added g h s i b = get_d_tabulate max_events (λ j. at s j + g * h j) i 0 b

added-most : (most g : ℕ) (h : ℕ → ℕ) (s : List ℕ) → ((i : ℕ) → at s i + g * h i ≤ most) → (i : ℕ) → at (added g h s) i ≤ most
added-most most g h s room i = ⊎_elim
    (λ b. omega (arith, at_added g h s i b, room i))
    (λ b. omega (arith, get_or-eq_default (added g h s) 0 {n = i} (omega (arith, length-added g h s))))
    (lt_or_le i max_events)

-- while all weights sum up to two bytes, a weight is added whole
added-whole : (total g : ℕ) → total ≤ max_number → added_weight total g ≡ g
unfolding added_weight
added-whole total g h = rw (le-leb total max_number h)

-- as a loop adds them: the sums of the events below i are added
abbrev pub added_to : ℕ → (ℕ → ℕ) → List ℕ → ℕ → List ℕ
added_to g h s i = paste s 0 (added g h s) i

module _ (g : ℕ) (h : ℕ → ℕ) (s : List ℕ) where
  pub added-start : s ≡ added_to g h s 0
  added-start = paste-zero s 0 (added g h s)

  -- the sum at i is not added yet
  pub added-here : (i : ℕ) → i < max_events → at (added_to g h s i) i ≡ at s i
  added-here i b =
      let behind : drop i (added_to g h s i) ≡ drop i s = ap (λ (j : ℕ). drop j (added_to g h s i)) (sym (zero-add i))
      ∙ drop-paste s 0 (added g h s) i (omega arith) (omega (arith, length-added g h s))
      ∙ ap (λ (j : ℕ). drop j s) (zero-add i) in
      let here : i ≡ i + 0 = omega arith in
      ap (at (added_to g h s i)) here
      ∙ sym (get_or-drop i (added_to g h s i) 0 0)
      ∙ ap (λ (l : List ℕ). at l 0) behind
      ∙ get_or-drop i s 0 0
      ∙ ap (at s) (sym here)

  pub added_next : (i : ℕ) → length s ≡ max_events → i < max_events
      → set (added_to g h s i) i (at (added_to g h s i) i + g * h i) ≡ added_to g h s (i + 1)
  added_next i twelve b =
      ap₂ (λ (j x : ℕ). set (added_to g h s i) j x) (sym (zero-add i)) (ap (λ (x : ℕ). x + g * h i) (added-here i b) ∙ sym (at_added g h s i b))
      ∙ paste-suc s 0 (added g h s) i 0 (omega arith) (omega (arith, length-added g h s))
      ∙ ap (added_to g h s) (sym (add-one i))

  pub added-done : length s ≡ max_events → added_to g h s max_events ≡ added g h s
  added-done twelve =
      ap₂ (λ (x y : List ℕ). x ++ y) (take_all max_events (added g h s) (omega (arith, length-added g h s)))
      (drop_of_length-le s {i = max_events} (omega arith))
      ∙ append-nil (added g h s)

-- the weight added at the event f alone
added-event : (g f : ℕ) (s : List ℕ) → length s ≡ max_events → f < max_events → set s f (at s f + g) ≡ added g (same f) s
added-event g f s twelve b = ext_get_or 0 (set s f (at s f + g)) (added g (same f) s)
    (length-set s f _ ∙ twelve ∙ sym (length-added g (same f) s))
    (λ i c. each i (subst (λ (l : ℕ). i < l) (length-set s f _ ∙ twelve) c) (ℕ_discrete i f))
  where
    each : (i : ℕ) → i < max_events → Dec (i ≡ f) → at (set s f (at s f + g)) i ≡ at (added g (same f) s) i
    each i c (yes q) = rw q (
        get_or-set_same s f (at s f + g) 0 (omega arith)
        ∙ omega (arith, at_added g (same f) s f b, ap (λ (x : ℕ). g * x) (same_refl f), mul-one g))
    each i c (no ne) =
        get_or-set_other s f i (at s f + g) 0 ne
        ∙ omega (arith, at_added g (same f) s i c, ap (λ (x : ℕ). g * x) (same_ne f i (λ e. ne (sym e))), mul-zero g)

-- ---- the sums of a list of terms

-- two tests of all members
pub all_both : {A : Type 0} (f g : A → Bool) (xs : List A) → all (λ x. f x && g x) xs ≡ (all f xs && all g xs)
unfolding all
all_both f g [] = refl
all_both f g (x ∷ xs) = ap (λ (b : Bool). f x && g x && b) (all_both f g xs) ∙ swap (f x) (g x) (all f xs) (all g xs)
  where
    swap : (a b c d : Bool) → (a && b && (c && d)) ≡ (a && c && (b && d))
    swap false b c d = refl
    swap true true c d = refl
    swap true false true d = refl
    swap true false false d = refl

same_le : (a b : ℕ) → same a b ≤ 1
unfolding same
same_le a b = go (eqb a b)
  where
    go : (t : Bool) → cond t 1 0 ≤ 1
    go true = omega arith
    go false = omega arith

module _ (rs : List Row) where
  -- for each event i, the sum of g × h(i, u, f)
  abbrev pub sums_of : (ℕ → Counts → ℕ → ℕ) → List TermFields → List ℕ
  sums_of h ts = tabulate max_events (λ i. weighed_rows rs (h i) ts)

  added-last : (h : ℕ → Counts → ℕ → ℕ) (ts : List TermFields) (t : TermFields)
      → added t.weight (λ i. h i (row_of rs t.row).counts t.event) (sums_of h ts) ≡ sums_of h (ts ++ t ∷ [])
  unfolding added
  added-last h ts t = tabulate-same max_events _ _ (λ i b.
      ap (λ (x : ℕ). x + t.weight * h i (row_of rs t.row).counts t.event) (get_d_tabulate max_events (λ j. weighed_rows rs (h j) ts) i 0 b)
      ∙ sym (weighed-last weight_in (step_in rs (h i)) ts t))

  at_most : (most : ℕ) (h : ℕ → Counts → ℕ → ℕ) → ((i r f : ℕ) → h i (row_of rs r).counts f ≤ most)
      → (ts : List TermFields) (i : ℕ) → at (sums_of h ts) i ≤ weighed_rows rs (λ u f. 1) ts * most
  at_most most h bound ts i = ⊎_elim
      (λ b. omega (
        arith,
        get_d_tabulate max_events (λ j. weighed_rows rs (h j) ts) i 0 b,
        weighed-most weight_in most (step_in rs (h i)) (λ t. bound i t.row t.event) ts,
      ))
      (λ b. omega (arith, get_or-eq_default (sums_of h ts) 0 {n = i} (omega (arith, length-tabulate max_events (λ j. weighed_rows rs (h j) ts)))))
      (lt_or_le i max_events)

  -- the sums of the terms ts, as the code has them: of the weights; for each event i, of g × u(i) and of g × [f = i]; and whether each
  -- step (u, f) is allowed. Where the weights sum up to more than two bytes, the sums for the events are only small.
  pub record Summed (ts : List TermFields) (total : ℕ) (before of_event : List ℕ) (allowed : Bool) : Type 0 where
    pub weights : total ≡ weighed_rows rs (λ u f. 1) ts
    pub steps : allowed ≡ all (λ t. bit (row_of rs t.row).mask t.event) ts
    pub before_small : (i : ℕ) → at before i ≤ max_number * max_number
    pub event_small : (i : ℕ) → at of_event i ≤ max_number
    pub before_size : length before ≡ max_events
    pub event_size : length of_event ≡ max_events
    pub exact : total ≤ max_number → (before ≡ sums_of (λ i u f. at u i) ts) × (of_event ≡ sums_of (λ i u f. same f i) ts)

  pub summed-none : Summed [] 0 (replicate max_events 0) (replicate max_events 0) true
  unfolding tabulate weighed all
  summed-none = record {
    weights = refl;
    steps = refl;
    before_small = λ i. omega (arith, get_d_copies {A = ℕ} max_events i 0);
    event_small = λ i. omega (arith, get_d_copies {A = ℕ} max_events i 0);
    before_size = refl;
    event_size = refl;
    exact = λ h. (refl, refl);
  }

  module _ (small : SmallRows rs) {ts : List TermFields} {total : ℕ} {before of_event : List ℕ} {allowed : Bool}
      (s : Summed ts total before of_event allowed) where
    module _ (t : TermFields) where
      -- the sums have room for the term
      pub room-before : (i : ℕ) → at before i + added_weight (total + t.weight) t.weight * at (row_of rs t.row).counts i ≤ max_number * max_number
      unfolding added_weight
      room-before i = go (leb (total + t.weight) max_number) refl
        where
          go : (b : Bool) → leb (total + t.weight) max_number ≡ b
              → at before i + cond b t.weight 0 * at (row_of rs t.row).counts i ≤ max_number * max_number
          go true e =
              let most : total + t.weight ≤ max_number = leb-true _ _ e in
              omega (
                arith,
                at_most max_number (λ i u f. at u i) (λ i r f. small r i) ts i,
                ap (λ (l : List ℕ). at l i) (s.exact (omega arith)).0,
                s.weights,
                mul-le-mul (le_refl t.weight) (small t.row i),
              )
          go false e = omega (arith, s.before_small i, zero-mul (at (row_of rs t.row).counts i))

      pub room-event : (i : ℕ) → at of_event i + added_weight (total + t.weight) t.weight ≤ max_number
      unfolding added_weight
      room-event i = go (leb (total + t.weight) max_number) refl
        where
          go : (b : Bool) → leb (total + t.weight) max_number ≡ b → at of_event i + cond b t.weight 0 ≤ max_number
          go true e =
              let most : total + t.weight ≤ max_number = leb-true _ _ e in
              omega (
                arith,
                at_most 1 (λ i u f. same f i) (λ i r f. same_le f i) ts i,
                ap (λ (l : List ℕ). at l i) (s.exact (omega arith)).1,
                s.weights,
              )
          go false e = omega (arith, s.event_small i)

      -- the sums with the term
      pub summed-next : t.event < max_events
          → Summed (ts ++ t ∷ []) (total + t.weight) (added (added_weight (total + t.weight) t.weight) (at (row_of rs t.row).counts) before)
          (set of_event t.event (at of_event t.event + added_weight (total + t.weight) t.weight)) (allowed && bit (row_of rs t.row).mask t.event)
      unfolding all
      summed-next event = rw (added-event (added_weight (total + t.weight) t.weight) t.event of_event s.event_size event) (record {
        weights = omega (arith, s.weights, weighed-last weight_in (step_in rs (λ u f. 1)) ts t);
        steps = ap (λ (b : Bool). b && bit (row_of rs t.row).mask t.event) s.steps
            ∙ sym (all_append _ ts (t ∷ []) ∙ ap (λ (b : Bool). all (λ t. bit (row_of rs t.row).mask t.event) ts && b) (and-true _));
        before_small = added-most (max_number * max_number) _ _ before room-before;
        event_small = added-most max_number _ (same t.event) of_event (λ i. omega (
          arith,
          room-event i,
          mul-le-mul (le_refl (added_weight (total + t.weight) t.weight)) (same_le t.event i),
          mul-one (added_weight (total + t.weight) t.weight),
        ));
        before_size = length-added _ _ before;
        event_size = length-added _ _ of_event;
        exact = λ most.
            let is : (before ≡ sums_of (λ i u f. at u i) ts) × (of_event ≡ sums_of (λ i u f. same f i) ts) = s.exact (omega arith) in
            rw (added-whole (total + t.weight) t.weight most, is.0, is.1) (added-last (λ i u f. at u i) ts t, added-last (λ i u f. same f i) ts t);
      })
