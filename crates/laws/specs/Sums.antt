-- Weighted sums of a list of numbers, for any weights and any length, and sums over an index.
use Rattle.std.specs.Prelude.{◌≡◌, refl, List, [], ◌∷◌, ℕ, zero, suc, ◌+◌, ◌*◌, ◌≤◌, ◌<◌, length, take, get_or, set, replicate}
use Rattle.std.proofs.Common.{sym, ap, ap₂, ◌∙◌, not-suc-le-zero, le_of_suc-le-suc, le_refl, add-zero, mul-add, mul-zero, add-le-add, lt-suc_self, suc-mul, arith, add-one}

-- ---- Over a list

-- the sum of w(i) × (element i) over the elements of a list
unfoldable pub weighted : (ℕ → ℕ) → List ℕ → ℕ
weighted w [] = 0
weighted w (x ∷ xs) = w 0 * x + weighted (λ i. w (suc i)) xs

-- the elements before index i + 1 add element i's term to the sum of those before i
pub weighted-next : (w : ℕ → ℕ) (xs : List ℕ) (i : ℕ) → i < length xs → weighted w (take (i + 1) xs) ≡ weighted w (take i xs) + w i * get_or xs i 0
unfolding weighted
weighted-next w xs i h = ap (λ (k : ℕ). weighted w (take k xs)) (add-one i) ∙ go w xs i h
  where
    go : (w : ℕ → ℕ) (xs : List ℕ) (i : ℕ) → i < length xs → weighted w (take (suc i) xs) ≡ weighted w (take i xs) + w i * get_or xs i 0
    go w [] i h = absurd (not-suc-le-zero h)
    go w (x ∷ xs) zero h = omega arith
    go w (x ∷ xs) (suc i) h = omega (arith, go (λ (k : ℕ). w (suc k)) xs i (le_of_suc-le-suc h))

-- another number at index i: the sums differ by its term
pub weighted-set : (w : ℕ → ℕ) (xs : List ℕ) (i x : ℕ) → i < length xs → weighted w (set xs i x) + w i * get_or xs i 0 ≡ weighted w xs + w i * x
unfolding weighted
weighted-set w [] i x h = absurd (not-suc-le-zero h)
weighted-set w (y ∷ xs) zero x h = omega arith
weighted-set w (y ∷ xs) (suc i) x h = omega (arith, weighted-set (λ (k : ℕ). w (suc k)) xs i x (le_of_suc-le-suc h))

-- x more there adds w(i) × x
pub weighted-more : (w : ℕ → ℕ) (xs : List ℕ) (i x : ℕ) → i < length xs → weighted w (set xs i (get_or xs i 0 + x)) ≡ weighted w xs + w i * x
weighted-more w xs i x h = omega (arith, weighted-set w xs i (get_or xs i 0 + x) h, mul-add (w i) (get_or xs i 0) x)

-- zeros have the sum 0
pub weighted-zeros : (w : ℕ → ℕ) (n : ℕ) → weighted w (replicate n 0) ≡ 0
unfolding weighted
weighted-zeros w zero = refl
weighted-zeros w (suc n) = omega (arith, weighted-zeros (λ (k : ℕ). w (suc k)) n)

-- ---- Over an index

-- f 0 + .. + f (n - 1)
unfoldable pub sum : ℕ → (ℕ → ℕ) → ℕ
sum zero f = zero
sum (suc n) f = sum n f + f n

pub sum-zero : (n : ℕ) → sum n (λ i. 0) ≡ 0
unfolding sum
sum-zero zero = refl
sum-zero (suc n) = omega (arith, sum-zero n)

pub sum-add : (n : ℕ) (f g : ℕ → ℕ) → sum n (λ i. f i + g i) ≡ sum n f + sum n g
unfolding sum
sum-add zero f g = refl
sum-add (suc n) f g = omega (arith, sum-add n f g)

pub sum-mul : (n a : ℕ) (f : ℕ → ℕ) → sum n (λ i. a * f i) ≡ a * sum n f
unfolding sum
sum-mul zero a f = sym (mul-zero a)
sum-mul (suc n) a f = omega (arith, sum-mul n a f, mul-add a (sum n f) (f n))

pub sum_le : (n : ℕ) (f g : ℕ → ℕ) → ((i : ℕ) → i < n → f i ≤ g i) → sum n f ≤ sum n g
unfolding sum
sum_le zero f g h = le_refl zero
sum_le (suc n) f g h = add-le-add (sum_le n f g (λ i b. h i (omega arith))) (h n (lt-suc_self n))

pub sum_same : (n : ℕ) (f g : ℕ → ℕ) → ((i : ℕ) → i < n → f i ≡ g i) → sum n f ≡ sum n g
unfolding sum
sum_same zero f g h = refl
sum_same (suc n) f g h = ap₂ ◌+◌ (sum_same n f g (λ i b. h i (omega arith))) (h n (lt-suc_self n))

-- where no term is above b
pub sum_bound : (n b : ℕ) (f : ℕ → ℕ) → ((i : ℕ) → i < n → f i ≤ b) → sum n f ≤ n * b
unfolding sum
sum_bound zero b f h = omega arith
sum_bound (suc n) b f h = omega (arith, sum_bound n b f (λ i k. h i (omega arith)), h n (omega arith), suc-mul n b)

-- terms that are zero add nothing
pub sum-wide : (n k : ℕ) (f : ℕ → ℕ) → ((i : ℕ) → n ≤ i → f i ≡ 0) → sum (n + k) f ≡ sum n f
unfolding sum
sum-wide n zero f h = ap (λ (m : ℕ). sum m f) (add-zero n)
sum-wide n (suc k) f h =
    let more : n + suc k ≡ suc (n + k) = omega arith in
    rw more (omega (arith, sum-wide n k f h, h (n + k) (omega arith)))

-- the first term apart
pub sum_first : (n : ℕ) (f : ℕ → ℕ) → sum (suc n) f ≡ f 0 + sum n (λ i. f (suc i))
unfolding sum
sum_first zero f = omega arith
sum_first (suc n) f = omega (arith, sum_first n f)

-- a sum over a list is one over its index
pub weighted-sum : (w : ℕ → ℕ) (xs : List ℕ) → weighted w xs ≡ sum (length xs) (λ i. w i * get_or xs i 0)
unfolding weighted sum
weighted-sum w [] = refl
weighted-sum w (x ∷ xs) = ap (λ (n : ℕ). w 0 * x + n) (weighted-sum (λ (i : ℕ). w (suc i)) xs) ∙ sym (sum_first (length xs) (λ i. w i * get_or (x ∷ xs) i 0))
