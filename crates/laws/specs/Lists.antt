-- Tests over lists, with the law of each: `all`, `any`, `keep` (the members that pass a test, in order), `tabulate`, equality and
-- membership of lists of numbers, a list for each member, joined, and lists written one element after another.
use Rattle.std.specs.Prelude.{◌≡◌, Bool, cond, ◌||◌, ◌⊎◌, eqb, length, take, drop, get_or, set, replicate}
use Rattle.std.proofs.Math.Path.{refl, sym, ap, ap₂, subst}
use Rattle.std.proofs.Common.{◌∙◌, true≢false, inl, inr, ⊎_elim, not-suc-le-zero, le_of_suc-le-suc, add-zero, add-suc, le-add_right, eq-or-lt_of_le, add-one, eqb→eq, arith, length-append, take_at, drop_at, get_or-set_same, get_or-set_other, take-suc}
use Rattle.std.proofs.Math.Bool.{true, false, ◌&&◌, and-true, and_assoc}
use Rattle.std.proofs.lemmas.Bool.{false≢true}
use mathlib.Core.List.Memᴰ
use mathlib.Core.List.{List, [], ◌∷◌, ◌++◌, map, flat_map, append_assoc, Memᴰ}
use Prim.Native.Nat.{ℕ, zero, suc, ◌+◌, ◌≤◌, ◌<◌, zero-le, suc-le-suc}
use Rattle.std.proofs.Math.Dec.{T, eqb_refl}
use Rattle.std.proofs.Math.Seq.{drop-cons}
use Rattle.std.specs.Float.Ieee.Fits.{and_i, and_l, and_r}
use Rattle.laws.specs.Booleans.{same_test, or_yes, yes_or_left, yes_or_right, yes_true, true_or_false}

-- ---- every member, some member, the members that pass
module _ {A : Type 0} where
  unfoldable pub all : (A → Bool) → List A → Bool
  all f [] = true
  all f (x ∷ xs) = f x && all f xs

  unfoldable pub any : (A → Bool) → List A → Bool
  any f [] = false
  any f (x ∷ xs) = f x || any f xs

  unfoldable pub keep : (A → Bool) → List A → List A
  keep f [] = []
  keep f (x ∷ xs) = cond (f x) (x ∷ keep f xs) (keep f xs)

  module _ (f : A → Bool) where
    pub all-member : {x : A} (xs : List A) → T (all f xs) → Memᴰ x xs → T (f x)
    unfolding all
    all-member [] t x3 = elim x3 [ ]
    all-member (y ∷ xs) t (Memᴰ.head e) = subst (λ (a : A). T (f a)) (sym e) (and_l (f y) (all f xs) t)
    all-member (y ∷ xs) t (Memᴰ.tail m) = all-member xs (and_r (f y) (all f xs) t) m

    pub all_intro : (xs : List A) → ((x : A) → Memᴰ x xs → T (f x)) → T (all f xs)
    unfolding all
    all_intro [] h = tt
    all_intro (y ∷ xs) h = and_i (f y) (all f xs) (h y (Memᴰ.head refl)) (all_intro xs (λ x m. h x (Memᴰ.tail m)))

    pub any_witness : (xs : List A) → T (any f xs) → (x : A) × Memᴰ x xs × T (f x)
    unfolding any
    any_witness [] t = absurd t
    any_witness (y ∷ xs) t = go (any_witness xs) (or_yes (f y) (any f xs) t)
      where
        go : (T (any f xs) → (x : A) × Memᴰ x xs × T (f x)) → T (f y) ⊎ T (any f xs) → (x : A) × Memᴰ x (y ∷ xs) × T (f x)
        go below (inl h) = (y, Memᴰ.head refl, h)
        go below (inr h) = let r = below h in (r.0, Memᴰ.tail r.1, r.2)

    pub any_intro : {x : A} (xs : List A) → Memᴰ x xs → T (f x) → T (any f xs)
    unfolding any
    any_intro [] x3 t = elim x3 [ ]
    any_intro (y ∷ xs) (Memᴰ.head e) t = yes_or_left (f y) (any f xs) (subst (λ (a : A). T (f a)) e t)
    any_intro (y ∷ xs) (Memᴰ.tail m) t = yes_or_right (f y) (any f xs) (any_intro xs m t)

    pub keep-member : {x : A} (xs : List A) → Memᴰ x (keep f xs) → Memᴰ x xs × T (f x)
    unfolding keep
    keep-member [] m = absurd (Memᴰ.not-nil m)
    keep-member {x} (y ∷ xs) m = go (f y) refl (keep-member xs) m
      where
        deeper : Memᴰ x xs × T (f x) → Memᴰ x (y ∷ xs) × T (f x)
        deeper r = (Memᴰ.tail r.0, r.1)

        go : (b : Bool) → f y ≡ b → (Memᴰ x (keep f xs) → Memᴰ x xs × T (f x)) → Memᴰ x (cond b (y ∷ keep f xs) (keep f xs)) → Memᴰ x (y ∷ xs) × T (f x)
        go true e below m' = ⊎_elim (λ h. (Memᴰ.head h, subst T (sym (ap f h ∙ e)) tt)) (λ k. deeper (below k)) (Memᴰ.cases_cons m')
        go false e below m' = deeper (below m')

    pub keep_intro : {x : A} (xs : List A) → Memᴰ x xs → T (f x) → Memᴰ x (keep f xs)
    unfolding keep
    keep_intro {x = x} [] x3 t = elim x3 [ ]
    keep_intro {x} (y ∷ xs) (Memᴰ.head e) t = go (f y) (subst (λ (a : A). T (f a)) e t)
      where
        go : (b : Bool) → T b → Memᴰ x (cond b (y ∷ keep f xs) (keep f xs))
        go true u = Memᴰ.head e
        go false u = absurd u
    keep_intro {x} (y ∷ xs) (Memᴰ.tail m) t = go (f y) (keep_intro xs m t)
      where
        go : (b : Bool) → Memᴰ x (keep f xs) → Memᴰ x (cond b (y ∷ keep f xs) (keep f xs))
        go true k = Memᴰ.tail k
        go false k = k

  -- the elements from i on pass when element i does, and those after it do
  pub all-next : (f : A → Bool) (l : List A) (i : ℕ) (d : A) → i < length l → all f (drop i l) ≡ (f (get_or l i d) && all f (drop (i + 1) l))
  unfolding all
  all-next f l i d h = rw (add-one, drop-cons l i d h)

  -- two lists, one behind the other
  pub all_append : (f : A → Bool) (xs ys : List A) → all f (xs ++ ys) ≡ (all f xs && all f ys)
  unfolding all
  all_append f [] ys = refl
  all_append f (x ∷ xs) ys = ap (λ (b : Bool). f x && b) (all_append f xs ys) ∙ sym (and_assoc (f x) (all f xs) (all f ys))

  -- the elements before i + 1 pass when those before i do, and element i does
  pub all-taken : (f : A → Bool) (l : List A) (i : ℕ) (d : A) → i < length l → all f (take (i + 1) l) ≡ (all f (take i l) && f (get_or l i d))
  unfolding all
  all-taken f l i d h =
      ap (λ (k : ℕ). all f (take k l)) (add-one i)
      ∙ ap (all f) (take-suc l i d h)
      ∙ all_append f (take i l) (get_or l i d ∷ [])
      ∙ ap (λ (b : Bool). all f (take i l) && b) (and-true (f (get_or l i d)))

  -- tests that agree on the members
  pub all_same : (f g : A → Bool) (xs : List A) → ((x : A) → Memᴰ x xs → f x ≡ g x) → all f xs ≡ all g xs
  unfolding all
  all_same f g [] h = refl
  all_same f g (x ∷ xs) h = ap₂ ◌&&◌ (h x (Memᴰ.head refl)) (all_same f g xs (λ y m. h y (Memᴰ.tail m)))

  -- more members, and a test that agrees on the old ones
  pub keep_in : (f g : A → Bool) (xs ys : List A) → ((x : A) → Memᴰ x xs → Memᴰ x ys) → ((x : A) → Memᴰ x xs → f x ≡ g x) → (x : A) → Memᴰ x (keep f xs) → Memᴰ x (keep g ys)
  keep_in f g xs ys more same x m = let r = keep-member f xs m in keep_intro g ys (more x r.0) (subst T (same x r.0) r.1)

-- an element of a list of copies, or the default where that is the same
pub get_d_copies : {A : Type 0} (n i : ℕ) (a : A) → get_or (replicate n a) i a ≡ a
get_d_copies zero i a = refl
get_d_copies (suc n) zero a = refl
get_d_copies (suc n) (suc i) a = get_d_copies n i a

-- an element of a list is a member of it
pub get_d_member : {A : Type 0} (l : List A) (i : ℕ) (d : A) → i < length l → Memᴰ (get_or l i d) l
get_d_member [] i d h = absurd (not-suc-le-zero h)
get_d_member (x ∷ l) zero d h = Memᴰ.head refl
get_d_member (x ∷ l) (suc i) d h = Memᴰ.tail (get_d_member l i d (le_of_suc-le-suc h))

-- element i of a list, under f, whatever the defaults
pub get_d_map : {A B : Type 0} (f : A → B) (l : List A) (i : ℕ) (d : A) (e : B) → i < length l → get_or (map f l) i e ≡ f (get_or l i d)
get_d_map f [] i d e h = absurd (not-suc-le-zero h)
get_d_map f (x ∷ l) zero d e h = refl
get_d_map f (x ∷ l) (suc i) d e h = get_d_map f l i d e (le_of_suc-le-suc h)

-- ---- f 0, .., f (n - 1)
module _ {A : Type 0} where
  unfoldable pub tabulate : ℕ → (ℕ → A) → List A
  tabulate zero f = []
  tabulate (suc n) f = f zero ∷ tabulate n (λ i. f (suc i))

  pub length-tabulate : (n : ℕ) (f : ℕ → A) → length (tabulate n f) ≡ n
  unfolding tabulate
  length-tabulate zero f = refl
  length-tabulate (suc n) f = ap suc (length-tabulate n (λ i. f (suc i)))

  pub get_d_tabulate : (n : ℕ) (f : ℕ → A) (i : ℕ) (d : A) → i < n → get_or (tabulate n f) i d ≡ f i
  unfolding tabulate
  get_d_tabulate zero f i d h = absurd (not-suc-le-zero h)
  get_d_tabulate (suc n) f zero d h = refl
  get_d_tabulate (suc n) f (suc i) d h = get_d_tabulate n (λ j. f (suc j)) i d (le_of_suc-le-suc h)

  pub tabulate-member : (n : ℕ) (f : ℕ → A) (i : ℕ) → i < n → Memᴰ (f i) (tabulate n f)
  unfolding tabulate
  tabulate-member zero f i h = absurd (not-suc-le-zero h)
  tabulate-member (suc n) f zero h = Memᴰ.head refl
  tabulate-member (suc n) f (suc i) h = Memᴰ.tail (tabulate-member n (λ j. f (suc j)) i (le_of_suc-le-suc h))

  pub tabulate_inverse : (n : ℕ) (f : ℕ → A) {x : A} → Memᴰ x (tabulate n f) → (i : ℕ) × (i < n) × (x ≡ f i)
  unfolding tabulate
  tabulate_inverse zero f m = absurd (Memᴰ.not-nil m)
  tabulate_inverse (suc n) f {x} m = go (tabulate_inverse n (λ j. f (suc j))) (Memᴰ.cases_cons m)
    where
      go : (Memᴰ x (tabulate n (λ j. f (suc j))) → (i : ℕ) × (i < n) × (x ≡ f (suc i))) → (x ≡ f zero) ⊎ Memᴰ x (tabulate n (λ j. f (suc j))) → (i : ℕ) × (i < suc n) × (x ≡ f i)
      go below (inl e) = (zero, suc-le-suc zero-le, e)
      go below (inr k) = let r = below k in (suc r.0, suc-le-suc r.1, r.2)

  pub tabulate-same : (n : ℕ) (f g : ℕ → A) → ((i : ℕ) → i < n → f i ≡ g i) → tabulate n f ≡ tabulate n g
  unfolding tabulate
  tabulate-same zero f g h = refl
  tabulate-same (suc n) f g h = ap₂ ◌∷◌ (h zero (suc-le-suc zero-le)) (tabulate-same n (λ i. f (suc i)) (λ i. g (suc i)) (λ i b. h (suc i) (suc-le-suc b)))

  pub tabulate-last : (n : ℕ) (f : ℕ → A) → tabulate (suc n) f ≡ tabulate n f ++ f n ∷ []
  unfolding tabulate
  tabulate-last zero f = refl
  tabulate-last (suc n) f = ap (λ (l : List A). f zero ∷ l) (tabulate-last n (λ i. f (suc i)))

-- ---- a test of each number below n

-- f 0 && .. && f (n - 1)
abbrev pub all_below : ℕ → (ℕ → Bool) → Bool
all_below n f = all f (tabulate n (λ i. i))

pub all_below-none : (f : ℕ → Bool) → all_below 0 f ≡ true
unfolding all tabulate
all_below-none f = refl

all_below-suc : (n : ℕ) (f : ℕ → Bool) → all_below (suc n) f ≡ (all_below n f && f n)
unfolding all
all_below-suc n f =
    ap (all f) (tabulate-last n (λ i. i))
    ∙ all_append f (tabulate n (λ i. i)) (n ∷ [])
    ∙ ap (λ (b : Bool). all_below n f && b) (and-true (f n))

-- a loop that tests them: one number more
pub all_below-next : (n : ℕ) (f : ℕ → Bool) → all_below (n + 1) f ≡ (all_below n f && f n)
all_below-next n f = ap (λ (k : ℕ). all_below k f) (add-one n) ∙ all_below-suc n f

-- tests that agree below n
pub all_below-same : (n : ℕ) (f g : ℕ → Bool) → ((i : ℕ) → i < n → f i ≡ g i) → all_below n f ≡ all_below n g
all_below-same n f g h = all_same f g (tabulate n (λ i. i))
    (λ x m. let r = tabulate_inverse n (λ i. i) m in ap f r.2 ∙ h r.0 r.1 ∙ ap g (sym r.2))

-- numbers that pass by themselves add nothing
pub all_below-wide : (n k : ℕ) (f : ℕ → Bool) → ((i : ℕ) → n ≤ i → f i ≡ true) → all_below (n + k) f ≡ all_below n f
all_below-wide n zero f h = ap (λ (m : ℕ). all_below m f) (add-zero n)
all_below-wide n (suc k) f h =
    ap (λ (m : ℕ). all_below m f) (add-suc n k)
    ∙ all_below-suc (n + k) f
    ∙ ap (λ (b : Bool). all_below (n + k) f && b) (h (n + k) (le-add_right n k))
    ∙ and-true (all_below (n + k) f)
    ∙ all_below-wide n k f h

-- ---- lists of numbers: equality and membership

-- the number is among the elements
abbrev pub among : ℕ → List ℕ → Bool
among x = any (eqb x)

-- in a longer list too
pub among-more : (x : ℕ) (l : List ℕ) (n : ℕ) → among n l ≡ true → among n (x ∷ l) ≡ true
unfolding any
among-more x l n e = ap (λ (b : Bool). eqb n x || b) e ∙ or_true (eqb n x)
  where
    or_true : (b : Bool) → (b || true) ≡ true
    or_true true = refl
    or_true false = refl

-- a number of the list is none that is not in it
pub not-among : (l : List ℕ) (k number : ℕ) → among k l ≡ false → among number l ≡ true → k ≡ number → ⊥
not-among l k number none listed e = true≢false (sym listed ∙ ap (λ (m : ℕ). among m l) (sym e) ∙ none)

-- what holds of each element
pub among-all : (f : ℕ → Bool) (l : List ℕ) → T (all f l) → (n : ℕ) → T (among n l) → T (f n)
among-all f l t n m = let w = any_witness (eqb n) l m in subst (λ (k : ℕ). T (f k)) (sym (eqb→eq n w.0 w.2)) (all-member f l t w.1)

unfoldable pub equal : List ℕ → List ℕ → Bool
equal [] [] = true
equal [] (b ∷ v) = false
equal (a ∷ u) [] = false
equal (a ∷ u) (b ∷ v) = eqb a b && equal u v

pub equal→eq : (u v : List ℕ) → T (equal u v) → u ≡ v
unfolding equal
equal→eq [] [] t = refl
equal→eq [] (b ∷ v) t = absurd t
equal→eq (a ∷ u) [] t = absurd t
equal→eq (a ∷ u) (b ∷ v) t = ap₂ ◌∷◌ (eqb→eq a b (and_l (eqb a b) (equal u v) t)) (equal→eq u v (and_r (eqb a b) (equal u v) t))

equal_refl : (u : List ℕ) → T (equal u u)
unfolding equal
equal_refl [] = tt
equal_refl (a ∷ u) = and_i (eqb a a) (equal u u) (eqb_refl a) (equal_refl u)

pub eq→equal : (u v : List ℕ) → u ≡ v → T (equal u v)
eq→equal u v e = subst (λ (x : List ℕ). T (equal u x)) e (equal_refl u)

equal-suc : (a b : List ℕ) (i : ℕ) → i < length a → i < length b → equal (take (suc i) a) (take (suc i) b) ≡ (equal (take i a) (take i b) && eqb (get_or a i 0) (get_or b i 0))
unfolding equal
equal-suc [] b i ha hb = absurd (not-suc-le-zero ha)
equal-suc (x ∷ a) [] i ha hb = absurd (not-suc-le-zero hb)
equal-suc (x ∷ a) (y ∷ b) zero ha hb = and-true (eqb x y)
equal-suc (x ∷ a) (y ∷ b) (suc i) ha hb =
    ap (λ (t : Bool). eqb x y && t) (equal-suc a b i (le_of_suc-le-suc ha) (le_of_suc-le-suc hb))
    ∙ sym (and_assoc (eqb x y) (equal (take i a) (take i b)) (eqb (get_or a i 0) (get_or b i 0)))

-- a loop that compares a and b: one element more
pub equal_next : (a b : List ℕ) (i : ℕ) → i < length a → i < length b → equal (take (i + 1) a) (take (i + 1) b) ≡ (equal (take i a) (take i b) && eqb (get_or a i 0) (get_or b i 0))
equal_next a b i ha hb = ap (λ (n : ℕ). equal (take n a) (take n b)) (add-one i) ∙ equal-suc a b i ha hb

pub equal_sym : (a b : List ℕ) → equal a b ≡ equal b a
equal_sym a b = same_test (equal a b) (equal b a) (λ t. eq→equal b a (sym (equal→eq a b t))) (λ t. eq→equal a b (sym (equal→eq b a t)))

-- equal lists, the test as an equation
pub equal_true : (a b : List ℕ) → equal a b ≡ true → a ≡ b
equal_true a b e = equal→eq a b (subst T (sym e) tt)

-- lists that differ in their first elements differ
pub equal-part : (a b : List ℕ) (k : ℕ) → equal (take k a) (take k b) ≡ false → equal a b ≡ false
equal-part a b k e =
    ⊎_elim (λ h. absurd (false≢true (sym e ∙ yes_true (equal (take k a) (take k b)) (eq→equal (take k a) (take k b) (ap (take k) (equal_true a b h)))))) (λ h. h) (true_or_false (equal a b))

abbrev pub member : List ℕ → List (List ℕ) → Bool
member u = any (equal u)

pub member→ : (u : List ℕ) (l : List (List ℕ)) → T (member u l) → Memᴰ u l
member→ u l t = let r = any_witness (equal u) l t in Memᴰ.cast (equal→eq u r.0 r.2) r.1

pub →member : (u : List ℕ) (l : List (List ℕ)) → Memᴰ u l → T (member u l)
→member u l m = any_intro (equal u) l m (equal_refl u)

-- ---- a list for each member, joined
module _ {A B : Type 0} (f : A → List B) where
  pub flat_map-member : (l : List A) {y : B} → Memᴰ y (flat_map f l) → (x : A) × Memᴰ x l × Memᴰ y (f x)
  unfolding flat_map
  flat_map-member [] m = absurd (Memᴰ.not-nil m)
  flat_map-member (x ∷ l) {y} m = go (flat_map-member l) (Memᴰ.append_cases (f x) m)
    where
      go : (Memᴰ y (flat_map f l) → (z : A) × Memᴰ z l × Memᴰ y (f z)) → Memᴰ y (f x) ⊎ Memᴰ y (flat_map f l) → (z : A) × Memᴰ z (x ∷ l) × Memᴰ y (f z)
      go below (inl k) = (x, Memᴰ.head refl, k)
      go below (inr k) = let r = below k in (r.0, Memᴰ.tail r.1, r.2)

  pub flat_map_intro : {x : A} (l : List A) {y : B} → Memᴰ x l → Memᴰ y (f x) → Memᴰ y (flat_map f l)
  unfolding flat_map
  flat_map_intro [] {y = y} x3 k = elim x3 [ ]
  flat_map_intro (z ∷ l) {y} (Memᴰ.head e) k = Memᴰ.append_left (flat_map f l) (subst (λ (a : A). Memᴰ y (f a)) e k)
  flat_map_intro (z ∷ l) (Memᴰ.tail m) k = Memᴰ.append_right (f z) (flat_map_intro l m k)

module _ {A B : Type 0} where
  pub flat_map-append : (f : A → List B) (l m : List A) → flat_map f (l ++ m) ≡ flat_map f l ++ flat_map f m
  unfolding flat_map
  flat_map-append f [] m = refl
  flat_map-append f (x ∷ l) m = ap (λ (r : List B). f x ++ r) (flat_map-append f l m) ∙ sym (append_assoc (f x) (flat_map f l) (flat_map f m))

  pub map-append : (f : A → B) (l m : List A) → map f (l ++ m) ≡ map f l ++ map f m
  map-append f [] m = refl
  map-append f (x ∷ l) m = ap (λ (r : List B). f x ∷ r) (map-append f l m)

  pub all_map : (p : B → Bool) (f : A → B) (l : List A) → all p (map f l) ≡ all (λ x. p (f x)) l
  unfolding all
  all_map p f [] = refl
  all_map p f (x ∷ l) = ap (λ (b : Bool). p (f x) && b) (all_map p f l)

  pub flat_map_same : (f g : A → List B) (l : List A) → ((x : A) → Memᴰ x l → f x ≡ g x) → flat_map f l ≡ flat_map g l
  unfolding flat_map
  flat_map_same f g [] h = refl
  flat_map_same f g (x ∷ l) h = ap₂ ◌++◌ (h x (Memᴰ.head refl)) (flat_map_same f g l (λ y m. h y (Memᴰ.tail m)))

  pub map_same : (f g : A → B) (l : List A) → ((x : A) → Memᴰ x l → f x ≡ g x) → map f l ≡ map g l
  map_same f g [] h = refl
  map_same f g (x ∷ l) h = ap₂ ◌∷◌ (h x (Memᴰ.head refl)) (map_same f g l (λ y m. h y (Memᴰ.tail m)))

module _ {A : Type 0} where
  -- two lists with an element behind each
  pub append-last : (a b : List A) (x y : A) → a ++ x ∷ [] ≡ b ++ y ∷ [] → (a ≡ b) × (x ≡ y)
  append-last a b x y e =
      let size : length b ≡ length a = omega (arith, length-append a (x ∷ []), length-append b (y ∷ []), ap length e) in
      let last : x ∷ [] ≡ y ∷ [] = sym (drop_at a (x ∷ []) (length a) refl) ∙ ap (drop (length a)) e ∙ drop_at b (y ∷ []) (length a) size in
      (sym (take_at a (x ∷ []) (length a) refl) ∙ ap (take (length a)) e ∙ take_at b (y ∷ []) (length a) size, cc)

-- ---- lists written one element after another

-- what is so below k and at k is so below k + 1
pub each_next : (P : ℕ → Type 0) (k : ℕ) → ((i : ℕ) → i < k → P i) → P k → (i : ℕ) → i < k + 1 → P i
each_next P k below here i b = ⊎_elim (λ e. subst P (sym e) here) (below i) (eq-or-lt_of_le {n = i} {m = k} (omega arith))

-- the same of a list's elements, once element k is written
pub each_set : {A : Type 0} (d : A) (P : ℕ → A → Type 0) (l : List A) (k : ℕ) (x : A) → k < length l → ((i : ℕ) → i < k → P i (get_or l i d)) → P k x
    → (i : ℕ) → i < k + 1 → P i (get_or (set l k x) i d)
each_set d P l k x h below here =
    each_next (λ (i : ℕ). P i (get_or (set l k x) i d)) k
    (λ i b. subst (P i) (sym (get_or-set_other l k i x d (λ e. omega arith))) (below i b))
    (subst (P k) (sym (get_or-set_same l k x d h)) here)
