-- The lowest index at which a test fails: of the numbers below n, and of the elements of a list.
use Rattle.std.specs.Prelude.{◌≡◌, Bool, ◌&&◌, ◌↔◌, ◌⊎◌, take, drop, get_or}
use Rattle.std.proofs.Math.Path.{refl, ap}
use Rattle.std.proofs.Common.{sym, ap₂, ◌∙◌, true≢false, inl, inr, ⊎_elim, not-suc-le-zero, le_of_suc-le-suc, le_antisymm, le_of_eq, zero-lt-suc, add-one, drop_of_length-le, drop-cons, take_at, drop_at}
use Rattle.std.proofs.Math.Bool.{true, false, cond}
use Rattle.std.proofs.lemmas.Bool.{false≢true}
use mathlib.Core.List.{List, [], ◌∷◌, ◌++◌, map}
use Prim.Native.Nat.{ℕ, zero, suc, ◌+◌, ◌≤◌, ◌<◌, zero-le, suc-le-suc}
use Rattle.std.proofs.Math.Nat.{suc_inj}
use native.Mathlib.Omega.{arith}
use Rattle.std.proofs.Math.ListN.{length}
use Rattle.laws.specs.Booleans.{lt_or_le}
use Rattle.laws.specs.Lists.{all, all_below, tabulate, get_d_tabulate, length-tabulate}

-- ---- Of numbers

-- the lowest k below n at which the test is false, or n where there is none
unfoldable pub first_false : (ℕ → Bool) → ℕ → ℕ
first_false test zero = zero
first_false test (suc n) = cond (test 0) (suc (first_false (λ k. test (suc k)) n)) 0

pub first_false-all : (test : ℕ → Bool) (n : ℕ) → ((k : ℕ) → k < n → test k ≡ true) → first_false test n ≡ n
unfolding first_false
first_false-all test zero all = refl
first_false-all test (suc n) all =
    rw (all 0 (zero-lt-suc n)) (ap suc (first_false-all (λ (k : ℕ). test (suc k)) n (λ k l. all (suc k) (suc-le-suc l))))

pub first_false-at : (test : ℕ → Bool) (n k : ℕ) → k < n → ((j : ℕ) → j < k → test j ≡ true) → test k ≡ false → first_false test n ≡ k
unfolding first_false
first_false-at test zero k h below here = absurd (not-suc-le-zero h)
first_false-at test (suc n) zero h below here = rw here
first_false-at test (suc n) (suc k) h below here =
    rw (below 0 (zero-lt-suc k))
    (ap suc (first_false-at (λ (j : ℕ). test (suc j)) n k (le_of_suc-le-suc h) (λ j l. below (suc j) (suc-le-suc l)) here))

-- where there is none, the test is true throughout
pub first_false-none : (test : ℕ → Bool) (n : ℕ) → first_false test n ≡ n → (k : ℕ) → k < n → test k ≡ true
unfolding first_false
first_false-none test zero e k h = absurd (not-suc-le-zero h)
first_false-none test (suc n) e k h = go (test 0) refl (λ q. first_false-none (λ (j : ℕ). test (suc j)) n q) k h
  where
    go : (b : Bool) → test 0 ≡ b → (first_false (λ (j : ℕ). test (suc j)) n ≡ n → (j : ℕ) → j < n → test (suc j) ≡ true)
        → (k : ℕ) → k < suc n → test k ≡ true
    go false p rest k h = absurd (omega (arith, rw p at e))
    go true p rest zero h = p
    go true p rest (suc k) h = rest (suc_inj (rw p at e)) k (le_of_suc-le-suc h)

-- where there is one, the test is false there
pub first_false-fails : (test : ℕ → Bool) (n : ℕ) → first_false test n < n → test (first_false test n) ≡ false
unfolding first_false
first_false-fails test zero h = absurd (not-suc-le-zero h)
first_false-fails test (suc n) h = go (test 0) refl (first_false-fails (λ (j : ℕ). test (suc j)) n) h
  where
    go : (b : Bool) → test 0 ≡ b → (first_false (λ (j : ℕ). test (suc j)) n < n → test (suc (first_false (λ (j : ℕ). test (suc j)) n)) ≡ false)
        → cond b (suc (first_false (λ (j : ℕ). test (suc j)) n)) 0 < suc n → test (cond b (suc (first_false (λ (j : ℕ). test (suc j)) n)) 0) ≡ false
    go false p rest h = p
    go true p rest h = rest (le_of_suc-le-suc h)

pub first_false-most : (test : ℕ → Bool) (n : ℕ) → first_false test n ≤ n
unfolding first_false
first_false-most test zero = zero-le
first_false-most test (suc n) = go (test 0) (first_false-most (λ (j : ℕ). test (suc j)) n)
  where
    go : (b : Bool) → first_false (λ (j : ℕ). test (suc j)) n ≤ n → cond b (suc (first_false (λ (j : ℕ). test (suc j)) n)) 0 ≤ suc n
    go true h = suc-le-suc h
    go false h = zero-le

-- below it, the test is true
pub first_false-below : (test : ℕ → Bool) (n k : ℕ) → k < first_false test n → test k ≡ true
unfolding first_false
first_false-below test zero k h = absurd (not-suc-le-zero h)
first_false-below test (suc n) k h = go (test 0) refl (first_false-below (λ (j : ℕ). test (suc j)) n) k h
  where
    go : (b : Bool) → test 0 ≡ b → ((j : ℕ) → j < first_false (λ (j : ℕ). test (suc j)) n → test (suc j) ≡ true)
        → (k : ℕ) → k < cond b (suc (first_false (λ (j : ℕ). test (suc j)) n)) 0 → test k ≡ true
    go true p rest zero h = p
    go true p rest (suc k) h = rest k (le_of_suc-le-suc h)
    go false p rest k h = absurd (not-suc-le-zero h)

-- the test is false somewhere, and there is a lowest such number; or it is true throughout
pub first_false_cases : (test : ℕ → Bool) (n : ℕ)
    → ((k : ℕ) × (k < n) × (test k ≡ false) × ((j : ℕ) → j < k → test j ≡ true)) ⊎ ((k : ℕ) → k < n → test k ≡ true)
first_false_cases test n = ⊎_elim
    (λ less. inl (first_false test n, less, first_false-fails test n less, λ j below. first_false-below test n j below))
    (λ none. inr (first_false-none test n (le_antisymm (first_false-most test n) none)))
    (lt_or_le (first_false test n) n)

-- ---- Of elements

module _ {A : Type 0} where
  -- the position of the first element that fails the test, or the length where none does
  unfoldable pub first_failing : (A → Bool) → List A → ℕ
  first_failing test [] = 0
  first_failing test (x ∷ xs) = cond (test x) (suc (first_failing test xs)) 0

  pub failing-most : (test : A → Bool) (l : List A) → first_failing test l ≤ length l
  unfolding first_failing
  failing-most test [] = zero-le
  failing-most test (x ∷ l) = go (test x) (failing-most test l)
    where
      go : (b : Bool) → first_failing test l ≤ length l → cond b (suc (first_failing test l)) 0 ≤ suc (length l)
      go true h = suc-le-suc h
      go false h = zero-le

  -- what stands behind an element that fails does not matter, nor does that element
  pub failing-append : (test : A → Bool) (xs : List A) (y : A) (ys : List A) → test y ≡ false → first_failing test (xs ++ y ∷ ys) ≡ first_failing test xs
  unfolding first_failing
  failing-append test [] y ys e = rw e
  failing-append test (x ∷ xs) y ys e = ap (λ (n : ℕ). cond (test x) (suc n) 0) (failing-append test xs y ys e)

  -- an element behind one that fails does not matter
  pub failing-found : (test : A → Bool) (xs ys : List A) → first_failing test xs < length xs → first_failing test (xs ++ ys) ≡ first_failing test xs
  unfolding first_failing
  failing-found test [] ys h = absurd (not-suc-le-zero h)
  failing-found test (x ∷ xs) ys h = go (test x) (failing-found test xs ys) h
    where
      go : (b : Bool) → (first_failing test xs < length xs → first_failing test (xs ++ ys) ≡ first_failing test xs)
          → cond b (suc (first_failing test xs)) 0 < suc (length xs) → cond b (suc (first_failing test (xs ++ ys))) 0 ≡ cond b (suc (first_failing test xs)) 0
      go true rest h = ap suc (rest (le_of_suc-le-suc h))
      go false rest h = refl

  -- behind elements that all pass, one that passes
  pub failing-past : (test : A → Bool) (xs : List A) (y : A) → length xs ≤ first_failing test xs → test y ≡ true → length xs < first_failing test (xs ++ y ∷ [])
  unfolding first_failing
  failing-past test [] y h e = rw e (zero-lt-suc 0)
  failing-past test (x ∷ xs) y h e = go (test x) (λ g. failing-past test xs y g e) h
    where
      go : (b : Bool) → (length xs ≤ first_failing test xs → length xs < first_failing test (xs ++ y ∷ []))
          → suc (length xs) ≤ cond b (suc (first_failing test xs)) 0 → suc (length xs) < cond b (suc (first_failing test (xs ++ y ∷ []))) 0
      go true rest h = suc-le-suc (rest (le_of_suc-le-suc h))
      go false rest h = absurd (not-suc-le-zero h)

  -- where none fails, each passes
  pub failing-none : (test : A → Bool) (d : A) (l : List A) → length l ≤ first_failing test l → (k : ℕ) → k < length l → test (get_or l k d) ≡ true
  unfolding first_failing
  failing-none test d [] h k b = absurd (not-suc-le-zero b)
  failing-none test d (x ∷ l) h k b = go (test x) refl (failing-none test d l) h k b
    where
      go : (t : Bool) → test x ≡ t → (length l ≤ first_failing test l → (k : ℕ) → k < length l → test (get_or l k d) ≡ true)
          → suc (length l) ≤ cond t (suc (first_failing test l)) 0 → (k : ℕ) → k < suc (length l) → test (get_or (x ∷ l) k d) ≡ true
      go false e below h k b = absurd (not-suc-le-zero h)
      go true e below h zero b = e
      go true e below h (suc k) b = below (le_of_suc-le-suc h) k (le_of_suc-le-suc b)

  -- where each passes, none fails
  pub failing-never : (test : A → Bool) (d : A) (l : List A) → ((k : ℕ) → k < length l → test (get_or l k d) ≡ true) → first_failing test l ≡ length l
  unfolding first_failing
  failing-never test d [] h = refl
  failing-never test d (x ∷ l) h = rw (h 0 (zero-lt-suc (length l))) (ap suc (failing-never test d l (λ k b. h (suc k) (suc-le-suc b))))

  -- a loop over the elements that has passed i of them
  module _ (test : A → Bool) (d : A) (l : List A) (i : ℕ) (h : i < length l) (inv : first_failing test l ≡ i + first_failing test (drop i l)) where
    failing-step : first_failing test (drop i l) ≡ cond (test (get_or l i d)) (suc (first_failing test (drop (i + 1) l))) 0
    unfolding first_failing
    failing-step = rw (drop-cons l i d h, add-one)

    pub failing-here : test (get_or l i d) ≡ false → first_failing test l ≡ i
    failing-here e = inv ∙ rw (failing-step, e) (omega arith)

    pub failing-again : test (get_or l i d) ≡ true → first_failing test l ≡ i + 1 + first_failing test (drop (i + 1) l)
    failing-again e = inv ∙ rw (failing-step, e) (omega arith)

  pub failing-end : (test : A → Bool) (l : List A) (i : ℕ) → first_failing test l ≡ i + first_failing test (drop i l) → length l ≤ i → first_failing test l ≡ i
  unfolding first_failing
  failing-end test l i inv h = inv ∙ rw (drop_of_length-le l h) (omega arith)

  -- behind elements that pass, one fails as it does in the rest
  pub failing-behind : (test : A → Bool) (xs ys : List A) → all test xs ≡ true → first_failing test (xs ++ ys) ≡ length xs + first_failing test ys
  unfolding first_failing all
  failing-behind test [] ys e = omega arith
  failing-behind test (x ∷ xs) ys e = go (test x) (failing-behind test xs ys) e
    where
      go : (b : Bool) → (all test xs ≡ true → first_failing test (xs ++ ys) ≡ length xs + first_failing test ys) → b && all test xs ≡ true
          → cond b (suc (first_failing test (xs ++ ys))) 0 ≡ suc (length xs) + first_failing test ys
      go true rest e = omega (arith, rest e)
      go false rest e = absurd (false≢true e)

  -- all pass exactly when none fails
  pub failing-all : (test : A → Bool) (l : List A) → length l ≤ first_failing test l → all test l ≡ true
  unfolding first_failing all
  failing-all test [] h = refl
  failing-all test (x ∷ l) h = go (test x) (failing-all test l) h
    where
      go : (b : Bool) → (length l ≤ first_failing test l → all test l ≡ true) → suc (length l) ≤ cond b (suc (first_failing test l)) 0 → (b && all test l) ≡ true
      go true rest h = rest (le_of_suc-le-suc h)
      go false rest h = absurd (not-suc-le-zero h)

  pub failing-some : (test : A → Bool) (l : List A) → first_failing test l < length l → all test l ≡ false
  unfolding first_failing all
  failing-some test [] h = absurd (not-suc-le-zero h)
  failing-some test (x ∷ l) h = go (test x) (failing-some test l) h
    where
      go : (b : Bool) → (first_failing test l < length l → all test l ≡ false) → cond b (suc (first_failing test l)) 0 < suc (length l) → (b && all test l) ≡ false
      go true rest h = rest (le_of_suc-le-suc h)
      go false rest h = refl

  -- and the other way
  pub all-failing : (test : A → Bool) (l : List A) → all test l ≡ true → first_failing test l ≡ length l
  all-failing test l e = ⊎_elim
      (λ some. absurd (true≢false (sym e ∙ failing-some test l some)))
      (λ none. le_antisymm (failing-most test l) none)
      (lt_or_le (first_failing test l) (length l))

  pub some-failing : (test : A → Bool) (l : List A) → all test l ≡ false → first_failing test l < length l
  some-failing test l e = ⊎_elim (λ some. some) (λ none. absurd (true≢false (sym (failing-all test l none) ∙ e))) (lt_or_le (first_failing test l) (length l))

  -- two equal lists agree up to the first element that fails, and behind it
  pub failing-cut : (test : A → Bool) (a b : List A) (x y : A) (r s : List A) → all test a ≡ true → all test b ≡ true → test x ≡ false → test y ≡ false
      → a ++ x ∷ r ≡ b ++ y ∷ s → (a ≡ b) × (x ∷ r ≡ y ∷ s)
  failing-cut test a b x y r s ha hb hx hy e =
      let at : (l m : List A) (z : A) → all test l ≡ true → test z ≡ false → first_failing test (l ++ z ∷ m) ≡ length l
      = λ l m z h f. failing-append test l z m f ∙ all-failing test l h in
      let size : length b ≡ length a = sym (at b s y hb hy) ∙ sym (ap (first_failing test) e) ∙ at a r x ha hx in (
        sym (take_at a (x ∷ r) (length a) refl) ∙ ap (take (length a)) e ∙ take_at b (y ∷ s) (length a) size,
        sym (drop_at a (x ∷ r) (length a) refl) ∙ ap (drop (length a)) e ∙ drop_at b (y ∷ s) (length a) size,
      )

-- all pass exactly when each does
pub all-exactly : {A : Type 0} (test : A → Bool) (d : A) (l : List A) → (all test l ≡ true) ↔ ((k : ℕ) → k < length l → test (get_or l k d) ≡ true)
all-exactly test d l = (
  (λ e. failing-none test d l (le_of_eq (sym (all-failing test l e)))),
  (λ each. failing-all test l (le_of_eq (sym (failing-never test d l each)))),
)

-- each number below n passes
pub all_below-each : (n : ℕ) (f : ℕ → Bool) → all_below n f ≡ true → (i : ℕ) → i < n → f i ≡ true
all_below-each n f e i h =
    ap f (sym (get_d_tabulate n (λ j. j) i 0 h)) ∙ (all-exactly f 0 (tabulate n (λ j. j))).0 e i (omega (arith, length-tabulate n (λ (j : ℕ). j)))

-- the first element that fails, exactly: it fails, and those before it pass
module _ {A : Type 0} (test : A → Bool) (d : A) where
  failing-at : (l : List A) → first_failing test l < length l → test (get_or l (first_failing test l) d) ≡ false
  unfolding first_failing
  failing-at [] h = absurd (not-suc-le-zero h)
  failing-at (x ∷ l) h = go (test x) refl (failing-at l) h
    where
      go : (b : Bool) → test x ≡ b → (first_failing test l < length l → test (get_or l (first_failing test l) d) ≡ false)
          → cond b (suc (first_failing test l)) 0 < suc (length l) → test (get_or (x ∷ l) (cond b (suc (first_failing test l)) 0) d) ≡ false
      go true p rest h = rest (le_of_suc-le-suc h)
      go false p rest h = p

  failing-below : (l : List A) (k : ℕ) → k < first_failing test l → test (get_or l k d) ≡ true
  unfolding first_failing
  failing-below [] k h = absurd (not-suc-le-zero h)
  failing-below (x ∷ l) k h = go (test x) refl (failing-below l) k h
    where
      go : (b : Bool) → test x ≡ b → ((k : ℕ) → k < first_failing test l → test (get_or l k d) ≡ true)
          → (k : ℕ) → k < cond b (suc (first_failing test l)) 0 → test (get_or (x ∷ l) k d) ≡ true
      go true p rest zero h = p
      go true p rest (suc k) h = rest k (le_of_suc-le-suc h)
      go false p rest k h = absurd (not-suc-le-zero h)

  failing-is : (l : List A) (k : ℕ) → k < length l → test (get_or l k d) ≡ false → ((j : ℕ) → j < k → test (get_or l j d) ≡ true) → first_failing test l ≡ k
  unfolding first_failing
  failing-is [] k h here below = absurd (not-suc-le-zero h)
  failing-is (x ∷ l) zero h here below = rw here
  failing-is (x ∷ l) (suc k) h here below = rw (below 0 (zero-lt-suc k)) (ap suc (failing-is l k (le_of_suc-le-suc h) here (λ j b. below (suc j) (suc-le-suc b))))

  pub failing-exactly : (l : List A) (k : ℕ) → ((k ≡ first_failing test l) × (all test l ≡ false))
      ↔ ((k < length l) × (test (get_or l k d) ≡ false) × ((j : ℕ) → j < k → test (get_or l j d) ≡ true))
  failing-exactly l k = (to, from)
    where
      to : (k ≡ first_failing test l) × (all test l ≡ false) → (k < length l) × (test (get_or l k d) ≡ false) × ((j : ℕ) → j < k → test (get_or l j d) ≡ true)
      to (e, some) = let h = some-failing test l some in rw e (h, failing-at l h, failing-below l)

      from : (k < length l) × (test (get_or l k d) ≡ false) × ((j : ℕ) → j < k → test (get_or l j d) ≡ true) → (k ≡ first_failing test l) × (all test l ≡ false)
      from (h, here, below) = let is = failing-is l k h here below in (sym is, failing-some test l (rw is h))

-- tests that agree on the numbers below n fail first at the same one
pub first_false-same : (f g : ℕ → Bool) (n : ℕ) → ((k : ℕ) → k < n → f k ≡ g k) → first_false f n ≡ first_false g n
unfolding first_false
first_false-same f g zero same = refl
first_false-same f g (suc n) same =
    ap₂ (λ (b : Bool) (m : ℕ). cond b (suc m) 0) (same 0 (zero-lt-suc n))
    (first_false-same (λ k. f (suc k)) (λ k. g (suc k)) n (λ k h. same (suc k) (suc-le-suc h)))

-- a test of each element, by its number
pub failing-numbered : {A : Type 0} (test : A → Bool) (d : A) (l : List A) → first_failing test l ≡ first_false (λ k. test (get_or l k d)) (length l)
unfolding first_failing first_false
failing-numbered test d [] = refl
failing-numbered test d (x ∷ l) = ap (λ (k : ℕ). cond (test x) (suc k) 0) (failing-numbered test d l)

-- of the images of a list, where the tests agree
pub failing-map : {A B : Type 0} (p : B → Bool) (q : A → Bool) (f : A → B) → ((x : A) → q x ≡ p (f x)) → (l : List A) → first_failing q l ≡ first_failing p (map f l)
unfolding first_failing
failing-map p q f agree [] = refl
failing-map p q f agree (x ∷ l) = ap₂ (λ (b : Bool) (k : ℕ). cond b (suc k) 0) (agree x) (failing-map p q f agree l)
