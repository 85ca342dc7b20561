-- Signed numbers as differences of two natural numbers, `sub_ℕ a b`: each law takes a statement on signed numbers to one on natural
-- numbers, which `omega` reads.
use Rattle.std.specs.Prelude.{◌≡◌, refl, Bool, true, false, not, cond, ◌↔◌, ℕ, zero, suc, ◌+◌, ◌-◌, ◌*◌, ◌≤◌, ◌<◌, T, eqb, leb, ltb, ℤ, pos, negsuc, neg_ℤ, ◌+ℤ◌, ◌-ℤ◌, ◌*ℤ◌, ◌≤ℤ◌}
use Rattle.std.proofs.Common.{sym, ap, ap₂, ◌∙◌, subst, zero-le, add-zero, zero-mul, suc-mul, mul_comm, arith, eqb→eq, le→leb, leb→le, ltb-true, ltb-false, le-ltb, le-leb, ne_eqb}
use Rattle.std.proofs.Math.IntN.{pos-ne-negsuc, sub_ℕ, +ℤ_assoc, +ℤ_comm, +ℤ_idl, +ℤ_idr, neg_ℤ-+ℤ, *ℤ_comm, zero-*ℤ, suc_ℤ-*ℤ}
use lib.IntN.{nat_abs}
use Rattle.std.specs.Int.Signed.{mag, non_neg, le_z, le_z_yes, ≤ℤ_refl, yes_non_neg}
use Rattle.laws.specs.Booleans.{same_test}
use Rattle.laws.specs.Sums.{sum}

pub difference : (a b : ℕ) → pos a -ℤ pos b ≡ sub_ℕ a b
difference a zero = ap pos (add-zero a) ∙ from_zero
  where
    from_zero : pos a ≡ sub_ℕ a zero
    from_zero = rw (le-ltb a zero zero-le) (ap pos (omega arith))
difference a (suc b) = refl

exchange : (x y z w : ℤ) → (x +ℤ y) +ℤ (z +ℤ w) ≡ (x +ℤ z) +ℤ (y +ℤ w)
exchange x y z w =
    +ℤ_assoc x y (z +ℤ w)
    ∙ ap (λ (t : ℤ). x +ℤ t) (sym (+ℤ_assoc y z w) ∙ ap (λ (t : ℤ). t +ℤ w) (+ℤ_comm y z) ∙ +ℤ_assoc z y w)
    ∙ sym (+ℤ_assoc x z (y +ℤ w))

pub difference-add : (a b c d : ℕ) → sub_ℕ a b +ℤ sub_ℕ c d ≡ sub_ℕ (a + c) (b + d)
difference-add a b c d =
    ap₂ ◌+ℤ◌ (sym (difference a b)) (sym (difference c d))
    ∙ exchange (pos a) (neg_ℤ (pos b)) (pos c) (neg_ℤ (pos d))
    ∙ ap (λ (t : ℤ). pos (a + c) +ℤ t) (sym (neg_ℤ-+ℤ (pos b) (pos d)))
    ∙ difference (a + c) (b + d)

pub difference-mul : (k a b : ℕ) → pos k *ℤ sub_ℕ a b ≡ sub_ℕ (k * a) (k * b)
difference-mul zero a b = zero-*ℤ (sub_ℕ a b) ∙ ap₂ sub_ℕ (sym (zero-mul a)) (sym (zero-mul b))
difference-mul (suc k) a b =
    suc_ℤ-*ℤ (pos k) (sub_ℕ a b)
    ∙ ap (λ (t : ℤ). t +ℤ sub_ℕ a b) (difference-mul k a b)
    ∙ difference-add (k * a) (k * b) a b
    ∙ ap₂ sub_ℕ (sym (suc-mul k a)) (sym (suc-mul k b))

-- a − b, with m more
pub pos_difference : (m a b : ℕ) → pos m +ℤ sub_ℕ a b ≡ sub_ℕ (m + a) b
pos_difference m a b =
    ap (λ (t : ℤ). pos m +ℤ t) (sym (difference a b))
    ∙ sym (+ℤ_assoc (pos m) (pos a) (neg_ℤ (pos b)))
    ∙ difference (m + a) b

-- and with o less
pub difference-minus : (a b o : ℕ) → sub_ℕ a b -ℤ pos o ≡ sub_ℕ a (b + o)
difference-minus a b o =
    ap (λ (t : ℤ). t -ℤ pos o) (sym (difference a b))
    ∙ +ℤ_assoc (pos a) (neg_ℤ (pos b)) (neg_ℤ (pos o))
    ∙ ap (λ (t : ℤ). pos a +ℤ t) (sym (neg_ℤ-+ℤ (pos b) (pos o)))
    ∙ difference a (b + o)

-- a number once, and less none
pub once : (z : ℤ) → pos 1 *ℤ z ≡ z
once z = suc_ℤ-*ℤ (pos 0) z ∙ ap (λ (t : ℤ). t +ℤ z) (zero-*ℤ z) ∙ +ℤ_idl z

pub less_none : (z : ℤ) {k : ℕ} → k ≡ 0 → z -ℤ pos k ≡ z
less_none z none = ap (λ (n : ℕ). z -ℤ pos n) none ∙ +ℤ_idr z

pub non_neg_difference : (a b : ℕ) → T (non_neg (sub_ℕ a b)) ↔ (b ≤ a)
non_neg_difference a b = (to (ltb a b) refl, from (ltb a b) refl)
  where
    to : (t : Bool) → ltb a b ≡ t → T (non_neg (cond t (negsuc (b - suc a)) (pos (a - b)))) → b ≤ a
    to true e h = absurd h
    to false e h = ltb-false a b e

    from : (t : Bool) → ltb a b ≡ t → b ≤ a → T (non_neg (cond t (negsuc (b - suc a)) (pos (a - b))))
    from true e h = omega (arith, ltb-true a b e)
    from false e h = tt

pub pos_of_difference : (a b : ℕ) → b ≤ a → sub_ℕ a b ≡ pos (a - b)
pos_of_difference a b h = rw (le-ltb a b h)

-- the same difference
pub difference-same : (a b c d : ℕ) → a + d ≡ c + b → sub_ℕ a b ≡ sub_ℕ c d
difference-same a b c d e = go (ltb a b) refl (ltb c d) refl
  where
    go : (s : Bool) → ltb a b ≡ s → (t : Bool) → ltb c d ≡ t → cond s (negsuc (b - suc a)) (pos (a - b)) ≡ cond t (negsuc (d - suc c)) (pos (c - d))
    go true p true q = ap negsuc (omega (arith, ltb-true a b p, ltb-true c d q))
    go true p false q = absurd (omega (arith, ltb-true a b p, ltb-false c d q))
    go false p true q = absurd (omega (arith, ltb-false a b p, ltb-true c d q))
    go false p false q = ap pos (omega (arith, ltb-false a b p, ltb-false c d q))

-- as code tests it
pub zero_le_z : (z : ℤ) → le_z (pos 0) z ≡ non_neg z
zero_le_z (pos n) = le-leb 0 n zero-le
zero_le_z (negsuc n) = refl

-- an order of signed numbers, as a difference that is not negative
pub non_neg_le : (z : ℤ) → (pos 0 ≤ℤ z) ↔ T (non_neg z)
non_neg_le z = (yes_non_neg, λ t. le_z_yes (subst T (sym (zero_le_z z)) t))

pub le_difference : (a : ℕ) (z : ℤ) → (pos a ≤ℤ z) ↔ T (non_neg (z -ℤ pos a))
le_difference a (pos b) = (
  (λ h. subst (λ (z : ℤ). T (non_neg z)) (sym (difference b a)) ((non_neg_difference b a).1 (leb→le a b h.le))),
  λ t. le_z_yes (le→leb a b ((non_neg_difference b a).0 (subst (λ (z : ℤ). T (non_neg z)) (difference b a) t))),
)
le_difference zero (negsuc b) = ((λ h. absurd h.le), λ t. absurd (let none : suc b ≤ 0 = (non_neg_difference 0 (suc b)).0 t in omega arith))
le_difference (suc a) (negsuc b) = ((λ h. absurd h.le), λ t. absurd t)

-- of two differences
pub le-differences : (a b c d : ℕ) → (sub_ℕ a b ≤ℤ sub_ℕ c d) ↔ (a + d ≤ c + b)
le-differences a b c d = ((λ h. to (ltb a b) refl (ltb c d) refl h.le), λ h. le_z_yes (from (ltb a b) refl (ltb c d) refl h))
  where
    diff : Bool → ℕ → ℕ → ℤ
    diff s x y = cond s (negsuc (y - suc x)) (pos (x - y))

    to : (s : Bool) → ltb a b ≡ s → (t : Bool) → ltb c d ≡ t → T (le_z (diff s a b) (diff t c d)) → a + d ≤ c + b
    to true p true q h = omega (arith, ltb-true a b p, ltb-true c d q, leb→le (d - suc c) (b - suc a) h)
    to true p false q h = omega (arith, ltb-true a b p, ltb-false c d q)
    to false p true q h = absurd h
    to false p false q h = omega (arith, ltb-false a b p, ltb-false c d q, leb→le (a - b) (c - d) h)

    from : (s : Bool) → ltb a b ≡ s → (t : Bool) → ltb c d ≡ t → a + d ≤ c + b → T (le_z (diff s a b) (diff t c d))
    from true p true q h = le→leb (d - suc c) (b - suc a) (omega (arith, ltb-true a b p, ltb-true c d q, h))
    from true p false q h = tt
    from false p true q h = absurd (omega (arith, ltb-false a b p, ltb-true c d q, h))
    from false p false q h = le→leb (a - b) (c - d) (omega (arith, ltb-false a b p, ltb-false c d q, h))

-- of a difference and a natural number
natural : (a : ℕ) → pos a ≡ sub_ℕ a 0
natural a = sym (pos_of_difference a 0 zero-le ∙ ap pos (omega arith))

pub difference-at-most : (a b c : ℕ) → (sub_ℕ a b ≤ℤ pos c) ↔ (a ≤ c + b)
difference-at-most a b c = rw (natural c) (subst (λ (x : ℕ). (sub_ℕ a b ≤ℤ sub_ℕ c 0) ↔ (x ≤ c + b)) (add-zero a) (le-differences a b c 0))

pub difference-at-least : (a b c : ℕ) → (pos c ≤ℤ sub_ℕ a b) ↔ (c + b ≤ a)
difference-at-least a b c = rw (natural c) (subst (λ (x : ℕ). (sub_ℕ c 0 ≤ℤ sub_ℕ a b) ↔ (c + b ≤ x)) (add-zero a) (le-differences c 0 a b))

-- a difference of two numbers below a bound is within the signed range of that bound
pub mag_difference : (a b h : ℕ) → a < h → b < h → mag (sub_ℕ a b) < h
mag_difference a b h p q = go (ltb a b)
  where
    go : (t : Bool) → mag (cond t (negsuc (b - suc a)) (pos (a - b))) < h
    go true = omega arith
    go false = omega arith

-- ---- Zero

-- whether a signed number is 0
unfoldable pub is_zero_ℤ : ℤ → Bool
is_zero_ℤ (pos n) = eqb n 0
is_zero_ℤ (negsuc n) = false

pub zero-exactly : (z : ℤ) → T (is_zero_ℤ z) ↔ (z ≡ pos 0)
unfolding is_zero_ℤ
zero-exactly (pos n) = ((λ t. ap pos (eqb→eq n 0 t)), λ e. subst (λ (z : ℤ). T (is_zero_ℤ z)) (sym e) tt)
zero-exactly (negsuc n) = ((λ t. absurd t), λ e. absurd (pos-ne-negsuc 0 n (sym e)))

pub difference-zero : (a b : ℕ) → (sub_ℕ a b ≡ pos 0) ↔ (a ≡ b)
difference-zero a b = (
  (λ e.
      let less : sub_ℕ a b ≤ℤ pos 0 = subst (λ (z : ℤ). z ≤ℤ pos 0) (sym e) (≤ℤ_refl (pos 0)) in
      let more : pos 0 ≤ℤ sub_ℕ a b = subst (λ (z : ℤ). pos 0 ≤ℤ z) (sym e) (≤ℤ_refl (pos 0)) in
      omega (arith, (difference-at-most a b 0).0 less, (difference-at-least a b 0).0 more)),
  λ e. difference-same a b 0 0 (omega (arith, e)),
)

-- ---- How far below 0

-- the negative part of a signed number: 0 where it is 0 or more, else its opposite
unfoldable pub negative_part : ℤ → ℕ
negative_part (pos n) = 0
negative_part (negsuc n) = suc n

pub negative-none : (z : ℤ) → (negative_part z ≡ 0) ↔ T (non_neg z)
unfolding negative_part
negative-none (pos n) = ((λ e. tt), λ t. refl)
negative-none (negsuc n) = ((λ e. absurd (let z : suc n ≡ 0 = e in omega arith)), λ t. absurd t)

-- as code tests it
pub negative-tested : (z : ℤ) → eqb (negative_part z) 0 ≡ non_neg z
unfolding negative_part
negative-tested (pos n) = refl
negative-tested (negsuc n) = ne_eqb (suc n) 0 (λ e. omega arith)

pub negative_opposite : (z : ℤ) → T (not (non_neg z)) → pos (negative_part z) ≡ neg_ℤ z
unfolding negative_part
negative_opposite (pos n) t = absurd t
negative_opposite (negsuc n) t = refl

pub negative-difference : (a b : ℕ) → negative_part (sub_ℕ a b) ≡ b - a
unfolding negative_part
negative-difference a b = go (ltb a b) refl
  where
    go : (t : Bool) → ltb a b ≡ t → negative_part (cond t (negsuc (b - suc a)) (pos (a - b))) ≡ b - a
    go true e = omega (arith, ltb-true a b e)
    go false e = omega (arith, ltb-false a b e)

-- a natural number covers another exactly when it is as large, and what is missing is the difference
pub covers-exactly : (t c : ℕ) → leb c t ≡ non_neg (pos t -ℤ pos c)
covers-exactly t c = same_test (leb c t) (non_neg (pos t -ℤ pos c))
    (λ h. subst (λ (z : ℤ). T (non_neg z)) (sym (difference t c)) ((non_neg_difference t c).1 (leb→le c t h)))
    (λ h. le→leb c t ((non_neg_difference t c).0 (subst (λ (z : ℤ). T (non_neg z)) (difference t c) h)))

pub missing-is : (t c : ℕ) → c - t ≡ negative_part (pos t -ℤ pos c)
missing-is t c = sym (negative-difference t c) ∙ ap negative_part (sym (difference t c))

-- ---- The two parts of a signed number

-- the positive part: 0 where it is 0 or less, else itself
unfoldable pub positive_part : ℤ → ℕ
positive_part (pos n) = n
positive_part (negsuc n) = 0

-- it is the difference of the two
pub part-difference : (z : ℤ) → z ≡ sub_ℕ (positive_part z) (negative_part z)
unfolding positive_part negative_part
part-difference (pos n) = natural n
part-difference (negsuc n) = sym (+ℤ_idl (negsuc n))

-- and so is a multiple of it
pub part-mul : (z : ℤ) (k : ℕ) → z *ℤ pos k ≡ sub_ℕ (positive_part z * k) (negative_part z * k)
part-mul z k =
    *ℤ_comm z (pos k)
    ∙ ap (λ (t : ℤ). pos k *ℤ t) (part-difference z)
    ∙ difference-mul k (positive_part z) (negative_part z)
    ∙ ap₂ sub_ℕ (mul_comm k (positive_part z)) (mul_comm k (negative_part z))

-- ---- Sums

-- f 0 + .. + f (n - 1), of signed numbers
unfoldable pub sumℤ : ℕ → (ℕ → ℤ) → ℤ
sumℤ zero f = pos 0
sumℤ (suc n) f = sumℤ n f +ℤ f n

pub sumℤ-same : (n : ℕ) (f g : ℕ → ℤ) → ((i : ℕ) → i < n → f i ≡ g i) → sumℤ n f ≡ sumℤ n g
unfolding sumℤ
sumℤ-same zero f g h = refl
sumℤ-same (suc n) f g h = ap₂ ◌+ℤ◌ (sumℤ-same n f g (λ i b. h i (omega arith))) (h n (omega arith))

-- a sum of products with differences is a difference of sums
pub difference-sum : (n : ℕ) (a b c : ℕ → ℕ) → sumℤ n (λ i. pos (a i) *ℤ (pos (b i) -ℤ pos (c i))) ≡ sub_ℕ (sum n (λ i. a i * b i)) (sum n (λ i. a i * c i))
unfolding sumℤ sum
difference-sum zero a b c = refl
difference-sum (suc n) a b c =
    ap₂ ◌+ℤ◌ (difference-sum n a b c) (ap (λ (t : ℤ). pos (a n) *ℤ t) (difference (b n) (c n)) ∙ difference-mul (a n) (b n) (c n))
    ∙ difference-add (sum n (λ i. a i * b i)) (sum n (λ i. a i * c i)) (a n * b n) (a n * c n)

-- sums of natural numbers, and of their negatives
pub sumℤ_pos : (n : ℕ) (f : ℕ → ℕ) → sumℤ n (λ i. pos (f i)) ≡ pos (sum n f)
unfolding sumℤ sum
sumℤ_pos zero f = refl
sumℤ_pos (suc n) f = ap (λ (z : ℤ). z +ℤ pos (f n)) (sumℤ_pos n f)

pub sumℤ_neg : (n : ℕ) (f : ℕ → ℕ) → sumℤ n (λ i. neg_ℤ (pos (f i))) ≡ neg_ℤ (pos (sum n f))
unfolding sumℤ sum
sumℤ_neg zero f = refl
sumℤ_neg (suc n) f = ap (λ (z : ℤ). z +ℤ neg_ℤ (pos (f n))) (sumℤ_neg n f) ∙ sym (neg_ℤ-+ℤ (pos (sum n f)) (pos (f n)))

pub neg_mul : (a b : ℕ) → neg_ℤ (pos a) *ℤ pos b ≡ neg_ℤ (pos (a * b))
neg_mul zero b = ap pos (zero-mul b) ∙ ap (λ (k : ℕ). neg_ℤ (pos k)) (sym (zero-mul b))
neg_mul (suc a) b = refl

-- a number that is not negative is its positive part
pub natural-part : (z : ℤ) → T (non_neg z) → nat_abs z ≡ positive_part z
unfolding positive_part
natural-part (pos k) t = refl
natural-part (negsuc k) t = elim t [ ]
