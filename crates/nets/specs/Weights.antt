-- Weights on steps and on completed words: if a kind 1 certificate holds for a step, then each place that permits its terms' steps, and on which its
-- pairs' words have the effect 0, permits that step.
use Rattle.std.specs.Prelude.{◌≡◌, ◌↔◌, ◌⊎◌, T, ltb, ℤ, ◌≤ℤ◌}
use Rattle.std.proofs.Math.Path.{refl, sym, ap, ap₂}
use Rattle.std.proofs.Common.{◌∙◌, inl, inr, ⊎_elim, le_trans, le_of_eq, eq-or-lt_of_le, le_of_suc-le-suc, ne_of_gt, one-mul, mul-one, add-mul, mul_assoc, mul-le-mul_left, ltb→lt, nltb→le, eq-eqb, ne_eqb}
use mathlib.Core.List.{List, [], ◌∷◌, ◌++◌, Memᴰ}
use Prim.Native.Nat.{ℕ, zero, suc, ◌+◌, ◌*◌, ◌≤◌, ◌<◌}
use Rattle.std.proofs.Math.Nat.{le_refl, zero-mul, mul-add, add-le-add, mul-le-mul_right, le_of_mul-le-mul_left}
use native.Mathlib.Omega.{arith}
use Rattle.std.proofs.Math.IntN.{pos, sub_ℕ, ◌+ℤ◌}
use Rattle.laws.specs.Booleans.{decide}
use Rattle.laws.specs.Differences.{difference-add, pos_difference, difference-at-most, difference-at-least, negative_part, positive_part, part-mul}
use Rattle.laws.specs.Sums.{sum, sum-add, sum-mul, sum_le, sum_same}
use Rattle.nets.specs.Nets.{Entry, Place, Step, at, same, weighed, effect, place_permits}
use Rattle.nets.specs.Bundle.{Term, Pair, Weights, weight_of, pair_counts, paired}
use Rattle.nets.specs.Surplus.{given, taken, put, effect-none, permits→le, le→permits}

-- ---- [a = b], and a sum that it picks one number from

pub same_refl : (a : ℕ) → same a a ≡ 1
unfolding same
same_refl a = rw (eq-eqb a a refl)

pub same_ne : (a b : ℕ) → (a ≡ b → ⊥) → same a b ≡ 0
unfolding same
same_ne a b h = rw (ne_eqb a b h)

pick-none : (n f : ℕ) (c : ℕ → ℕ) → n ≤ f → sum n (λ i. same f i * c i) ≡ 0
unfolding sum
pick-none zero f c h = refl
pick-none (suc n) f c h = ap₂ ◌+◌ (pick-none n f c (omega arith)) (ap (λ (x : ℕ). x * c n) (same_ne f n (ne_of_gt h)) ∙ zero-mul (c n))

pub pick : (n f : ℕ) (c : ℕ → ℕ) → f < n → sum n (λ i. same f i * c i) ≡ c f
unfolding sum
pick zero f c h = absurd (omega arith)
pick (suc n) f c h = go (eq-or-lt_of_le (le_of_suc-le-suc h)) (pick n f c)
  where
    go : (f ≡ n) ⊎ (f < n) → (f < n → sum n (λ i. same f i * c i) ≡ c f) → sum n (λ i. same f i * c i) + same f n * c n ≡ c f
    go (inl e) below = rw (← e) (ap₂ ◌+◌ (pick-none f f c (le_refl f)) (ap (λ (x : ℕ). x * c f) (same_refl f) ∙ one-mul (c f)) ∙ omega arith)
    go (inr l) below = ap₂ ◌+◌ (below l) (ap (λ (x : ℕ). x * c n) (same_ne f n (λ e. omega arith)) ∙ zero-mul (c n)) ∙ omega arith

pick_le : (n f : ℕ) (c : ℕ → ℕ) → sum n (λ i. same f i * c i) ≤ c f
pick_le n f c = ⊎_elim (λ t. le_of_eq (pick n f c (ltb→lt f n t))) (λ t. omega (arith, pick-none n f c (nltb→le f n t))) (decide (ltb f n))

-- ---- weighed sums, of any elements

module _ {A : Type 0} (g : A → ℕ) where
  pub weighed_le : (h h' : A → ℕ) (xs : List A) → ((x : A) → Memᴰ x xs → h x ≤ h' x) → weighed g h xs ≤ weighed g h' xs
  unfolding weighed
  weighed_le h h' [] f = le_refl 0
  weighed_le h h' (x ∷ xs) f = add-le-add (mul-le-mul_left (g x) (f x (Memᴰ.head refl))) (weighed_le h h' xs (λ y m. f y (Memᴰ.tail m)))

  pub weighed-same : (h h' : A → ℕ) (xs : List A) → ((x : A) → Memᴰ x xs → h x ≡ h' x) → weighed g h xs ≡ weighed g h' xs
  unfolding weighed
  weighed-same h h' [] f = refl
  weighed-same h h' (x ∷ xs) f =
      ap₂ ◌+◌ (ap (λ (k : ℕ). g x * k) (f x (Memᴰ.head refl))) (weighed-same h h' xs (λ y m. f y (Memᴰ.tail m)))

  pub weighed-add : (h h' : A → ℕ) (xs : List A) → weighed g (λ x. h x + h' x) xs ≡ weighed g h xs + weighed g h' xs
  unfolding weighed
  weighed-add h h' [] = refl
  weighed-add h h' (x ∷ xs) = omega (arith, weighed-add h h' xs, mul-add (g x) (h x) (h' x))

  pub weighed_const : (c : ℕ) (xs : List A) → weighed g (λ x. c) xs ≡ weighed g (λ x. 1) xs * c
  unfolding weighed
  weighed_const c [] = sym (zero-mul c)
  weighed_const c (x ∷ xs) = ap₂ ◌+◌ (ap (λ (y : ℕ). y * c) (sym (mul-one (g x)))) (weighed_const c xs) ∙ sym (add-mul (g x * 1) (weighed g (λ x. 1) xs) c)

  -- at most the sum of g, times what h is at most
  pub weighed-most : (most : ℕ) (h : A → ℕ) → ((x : A) → h x ≤ most) → (xs : List A) → weighed g h xs ≤ weighed g (λ x. 1) xs * most
  weighed-most most h bound xs = le_trans (weighed_le h (λ x. most) xs (λ x m. bound x)) (le_of_eq (weighed_const most xs))

  -- a member more
  pub weighed-last : (h : A → ℕ) (xs : List A) (x : A) → weighed g h (xs ++ x ∷ []) ≡ weighed g h xs + g x * h x
  unfolding weighed
  weighed-last h [] x = omega arith
  weighed-last h (y ∷ xs) x = omega (arith, weighed-last h xs x)

  -- the sums over the members and over the events change places
  pub weighed-sum : (n : ℕ) (a : ℕ → A → ℕ) (c : ℕ → ℕ) (xs : List A) → weighed g (λ x. sum n (λ i. a i x * c i)) xs ≡ sum n (λ i. weighed g (a i) xs * c i)
  unfolding weighed
  weighed-sum n a c [] = sym (sum-mul n 0 c ∙ zero-mul (sum n c))
  weighed-sum n a c (x ∷ xs) =
      ap₂ ◌+◌ (sym (sum-mul n (g x) (λ i. a i x * c i))) (weighed-sum n a c xs)
      ∙ sym (sum-add n (λ i. g x * (a i x * c i)) (λ i. weighed g (a i) xs * c i))
      ∙ sum_same n _ _ (λ i b. sym (add-mul (g x * a i x) (weighed g (a i) xs) (c i) ∙ ap (λ (y : ℕ). y + weighed g (a i) xs * c i) (mul_assoc (g x) (a i x) (c i))))

scale : (n k : ℕ) (a c : ℕ → ℕ) → k * sum n (λ i. a i * c i) ≡ sum n (λ i. k * a i * c i)
scale n k a c = sym (sum-mul n k (λ i. a i * c i)) ∙ sum_same n _ _ (λ i b. sym (mul_assoc k (a i) (c i)))

-- an inequality at each event, multiplied by c(i) and summed
sums-le : (n : ℕ) (a b x y c : ℕ → ℕ) → ((i : ℕ) → i < n → a i + b i ≤ x i + y i)
    → sum n (λ i. a i * c i) + sum n (λ i. b i * c i) ≤ sum n (λ i. x i * c i) + sum n (λ i. y i * c i)
sums-le n a b x y c h =
    le_trans (le_of_eq (together a b)) (le_trans (sum_le n _ _ (λ i l. mul-le-mul_right (c i) (h i l))) (le_of_eq (sym (together x y))))
  where
    together : (f g : ℕ → ℕ) → sum n (λ i. f i * c i) + sum n (λ i. g i * c i) ≡ sum n (λ i. (f i + g i) * c i)
    together f g = sym (sum_same n _ _ (λ i l. add-mul (f i) (g i) (c i)) ∙ sum-add n (λ i. f i * c i) (λ i. g i * c i))

-- ---- the three groups of inequalities, for k × s

pub record Weighs (n : ℕ) (entries : List Entry) (s : Step) (w : Weights) : Type 0 where
  pub positive : 1 ≤ w.k
  pub total : weighed weight_of (λ t. 1) w.terms ≤ w.k
  pub before : (i : ℕ) → i < n
      → (pos (weighed weight_of (λ t. at t.step.row i) w.terms) +ℤ paired n entries w.pairs i) ≤ℤ pos (w.k * at s.row i)
  pub after : (i : ℕ) → i < n → pos (w.k * (at s.row i + same s.event i))
      ≤ℤ (pos (weighed weight_of (λ t. at t.step.row i + same t.step.event i) w.terms) +ℤ paired n entries w.pairs i)

-- ---- in natural numbers: each h is the difference of its two parts

abbrev pub plus : Pair → ℕ
plus q = positive_part q.weight

abbrev pub minus : Pair → ℕ
minus q = negative_part q.weight

module _ (n : ℕ) (entries : List Entry) where
  -- u(i) of the word that a pair names
  abbrev pub of_word : ℕ → Pair → ℕ
  of_word i q = at (pair_counts n entries q) i

  paired_is : (qs : List Pair) (i : ℕ) → paired n entries qs i ≡ sub_ℕ (weighed plus (of_word i) qs) (weighed minus (of_word i) qs)
  unfolding paired weighed
  paired_is [] i = refl
  paired_is (q ∷ qs) i =
      ap₂ ◌+ℤ◌ (part-mul q.weight (of_word i q)) (paired_is qs i)
      ∙ difference-add (plus q * of_word i q) (minus q * of_word i q) (weighed plus (of_word i) qs) (weighed minus (of_word i) qs)

  module _ (a b : ℕ) (qs : List Pair) (i : ℕ) where
    with-pairs : pos a +ℤ paired n entries qs i ≡ sub_ℕ (a + weighed plus (of_word i) qs) (weighed minus (of_word i) qs)
    with-pairs =
        ap (λ (z : ℤ). pos a +ℤ z) (paired_is qs i) ∙ pos_difference a (weighed plus (of_word i) qs) (weighed minus (of_word i) qs)

    -- the second and the third inequality without a minus sign
    pub pairs-at-most : ((pos a +ℤ paired n entries qs i) ≤ℤ pos b) ↔ (a + weighed plus (of_word i) qs ≤ b + weighed minus (of_word i) qs)
    pairs-at-most = rw with-pairs (difference-at-most (a + weighed plus (of_word i) qs) (weighed minus (of_word i) qs) b)

    pub pairs-at-least : (pos b ≤ℤ (pos a +ℤ paired n entries qs i)) ↔ (b + weighed minus (of_word i) qs ≤ a + weighed plus (of_word i) qs)
    pairs-at-least = rw with-pairs (difference-at-least (a + weighed plus (of_word i) qs) (weighed minus (of_word i) qs) b)

-- ---- what a step needs

-- the tokens that are taken before a step and by it
unfoldable pub needed : ℕ → Place → Step → ℕ
needed n p s = taken n p s.row + p.consumed s.event

-- the same as one sum over the events below n
unfoldable pub needed-sum : ℕ → Place → Step → ℕ
needed-sum n p s = sum n (λ i. (at s.row i + same s.event i) * p.consumed i)

needed-sum-is : (n : ℕ) (p : Place) (s : Step) → needed-sum n p s ≡ taken n p s.row + sum n (λ i. same s.event i * p.consumed i)
unfolding needed-sum taken
needed-sum-is n p s =
    sum_same n _ _ (λ i b. add-mul (at s.row i) (same s.event i) (p.consumed i))
    ∙ sum-add n (λ i. at s.row i * p.consumed i) (λ i. same s.event i * p.consumed i)

pub needed-is : (n : ℕ) (p : Place) (s : Step) → s.event < n → needed n p s ≡ needed-sum n p s
unfolding needed
needed-is n p s h = sym (needed-sum-is n p s ∙ ap (λ (x : ℕ). taken n p s.row + x) (pick n s.event p.consumed h))

-- it leaves out the tokens of an event from n on
needed-sum_le : (n : ℕ) (p : Place) (s : Step) → needed-sum n p s ≤ needed n p s
unfolding needed
needed-sum_le n p s = le_trans (le_of_eq (needed-sum-is n p s)) (add-le-add (le_refl _) (pick_le n s.event p.consumed))

-- ---- the main law

module _ (n : ℕ) (entries : List Entry) (p : Place) {s : Step} (w : Weights) (h : Weighs n entries s w) where
  -- the tokens that the word of a pair takes, and those that it puts there
  abbrev takes : Pair → ℕ
  takes q = taken n p (pair_counts n entries q)

  abbrev puts : Pair → ℕ
  puts q = put n p (pair_counts n entries q)

  -- k times what the step needs is at most what the terms' steps need, with what the pairs' words take
  needed_bound : s.event < n
      → w.k * needed n p s + weighed minus takes w.pairs ≤ weighed weight_of (λ t. needed n p t.step) w.terms + weighed plus takes w.pairs
  unfolding needed-sum taken
  needed_bound b =
      let left : w.k * needed n p s ≡ sum n (λ i. w.k * (at s.row i + same s.event i) * p.consumed i) =
      ap (λ (x : ℕ). w.k * x) (needed-is n p s b) ∙ scale n w.k (λ i. at s.row i + same s.event i) p.consumed in
      let terms = weighed-sum weight_of n (λ i t. at t.step.row i + same t.step.event i) p.consumed w.terms in
      let all-needed =
      weighed_le weight_of (λ t. needed-sum n p t.step) (λ t. needed n p t.step) w.terms (λ t m. needed-sum_le n p t.step) in
      let words : (g : Pair → ℕ) → weighed g takes w.pairs ≡ sum n (λ i. weighed g (of_word n entries i) w.pairs * p.consumed i) =
      λ g. weighed-sum g n (of_word n entries) p.consumed w.pairs in
      let summed = sums-le n _ _ _ _ p.consumed (λ i l. (pairs-at-least n entries _ _ w.pairs i).0 (h.after i l)) in
      omega (arith, left, terms, all-needed, words plus, words minus, summed)

  -- what was given before the terms' steps, with what the pairs' words put there, is at most k times what was given before the step
  given_bound : weighed weight_of (λ t. given n p t.step.row) w.terms + weighed plus puts w.pairs
      ≤ w.k * given n p s.row + weighed minus puts w.pairs
  unfolding given
  given_bound =
      let apart = weighed-add weight_of (λ t. p.initial) (λ t. put n p t.step.row) w.terms in
      let initial = weighed_const weight_of p.initial w.terms in
      let enough = mul-le-mul_right p.initial h.total in
      let terms = weighed-sum weight_of n (λ i t. at t.step.row i) p.produced w.terms in
      let right = mul-add w.k p.initial (put n p s.row) in
      let scaled = scale n w.k (at s.row) p.produced in
      let words : (g : Pair → ℕ) → weighed g puts w.pairs ≡ sum n (λ i. weighed g (of_word n entries i) w.pairs * p.produced i) =
      λ g. weighed-sum g n (of_word n entries) p.produced w.pairs in
      let summed = sums-le n _ _ _ _ p.produced (λ i l. (pairs-at-most n entries _ _ w.pairs i).0 (h.before i l)) in
      omega (arith, apart, initial, enough, terms, right, scaled, words plus, words minus, summed)

  -- words with the effect 0 put there what they take, so with any h they cancel
  pub weighed-permits : s.event < n → ((t : Term) → Memᴰ t w.terms → T (place_permits n p t.step))
      → ((q : Pair) → Memᴰ q w.pairs → effect n p (pair_counts n entries q) ≡ pos 0) → T (place_permits n p s)
  unfolding needed
  weighed-permits b ps zero-effect =
      let cancel : (g : Pair → ℕ) → weighed g puts w.pairs ≡ weighed g takes w.pairs =
      λ g. weighed-same g puts takes w.pairs (λ q m. (effect-none n p (pair_counts n entries q)).0 (zero-effect q m)) in
      let permitted : weighed weight_of (λ t. needed n p t.step) w.terms ≤ weighed weight_of (λ t. given n p t.step.row) w.terms =
      weighed_le weight_of _ _ w.terms (λ t m. permits→le n p t.step (ps t m)) in
      let enough : w.k * needed n p s ≤ w.k * given n p s.row =
      omega (arith, needed_bound b, permitted, given_bound, cancel plus, cancel minus) in
      le→permits n p s (le_of_mul-le-mul_left enough h.positive)
