-- Bytes, and numbers of two bytes with the low byte first.
use Rattle.std.specs.Prelude.{◌≡◌, true, List, [], ◌∷◌, ◌++◌, ℕ, zero, suc, ◌+◌, ◌*◌, ◌/◌, ◌%◌, ◌<◌, ltb, length, take, drop, get_or, set, replicate}
use Rattle.std.proofs.Common.{ap, ap₂, ◌∙◌, add-zero, add_assoc, mod-eq_of_lt, add-one, arith, drop-cons, get_or-append-add, get_or-take, get_or-drop, ltb-true}
use Rattle.std.proofs.Math.Nat.{add-mul-mod_self_left}
use Rattle.laws.specs.Booleans.{and_left, and_right}
use Rattle.laws.specs.Lists.{all}
use Rattle.laws.specs.Pieces.{joined}

-- every element is below 256
abbrev pub Bytes : List ℕ → Type 0
Bytes l = (i : ℕ) → get_or l i 0 < 256

pub bytes_take : (n : ℕ) (l : List ℕ) → Bytes l → Bytes (take n l)
bytes_take zero l h i = omega arith
bytes_take (suc n) [] h i = omega arith
bytes_take (suc n) (x ∷ l) h zero = h 0
bytes_take (suc n) (x ∷ l) h (suc i) = bytes_take n l (λ j. h (suc j)) i

pub bytes_drop : (n : ℕ) (l : List ℕ) → Bytes l → Bytes (drop n l)
bytes_drop n l h i = rw get_or-drop (h (n + i))

pub bytes-set : (l : List ℕ) (i x : ℕ) → Bytes l → x < 256 → Bytes (set l i x)
bytes-set [] i x h small j = omega arith
bytes-set (y ∷ l) zero x h small zero = small
bytes-set (y ∷ l) zero x h small (suc j) = h (suc j)
bytes-set (y ∷ l) (suc i) x h small zero = h 0
bytes-set (y ∷ l) (suc i) x h small (suc j) = bytes-set l i x (λ k. h (suc k)) small j

pub bytes-append : (x y : List ℕ) → Bytes x → Bytes y → Bytes (x ++ y)
bytes-append [] y hx hy i = hy i
bytes-append (a ∷ x) y hx hy zero = hx 0
bytes-append (a ∷ x) y hx hy (suc i) = bytes-append x y (λ j. hx (suc j)) hy i

pub bytes-joined : (f : ℕ → List ℕ) (n : ℕ) → ((k : ℕ) → Bytes (f k)) → Bytes (joined f n)
unfolding joined
bytes-joined f zero h i = omega arith
bytes-joined f (suc n) h i = bytes-append (joined f n) (f n) (bytes-joined f n h) (h n) i

pub bytes-zeros : (n : ℕ) → Bytes (replicate n 0)
bytes-zeros zero i = omega arith
bytes-zeros (suc n) zero = omega arith
bytes-zeros (suc n) (suc i) = bytes-zeros n i

-- by a test
pub all-bytes : (b : List ℕ) → all (λ x. ltb x 256) b ≡ true → Bytes b
unfolding all
all-bytes [] e i = omega arith
all-bytes (x ∷ b) e zero = ltb-true x 256 (and_left (ltb x 256) (all (λ y. ltb y 256) b) e)
all-bytes (x ∷ b) e (suc i) = all-bytes b (and_right (ltb x 256) (all (λ y. ltb y 256) b) e) i

-- the two bytes of a number
abbrev pub le16 : ℕ → List ℕ
le16 n = n % 256 ∷ n / 256 % 256 ∷ []

pub bytes-le16 : (n : ℕ) → Bytes (le16 n)
bytes-le16 n zero = omega arith
bytes-le16 n (suc zero) = omega arith
bytes-le16 n (suc (suc i)) = omega arith

-- the number in the two bytes at `at`
unfoldable pub number_at : List ℕ → ℕ → ℕ
number_at l at = get_or l at 0 + 256 * get_or l (at + 1) 0

pub number_at-after : (before rest : List ℕ) (n i : ℕ) → length before ≡ n → number_at (before ++ rest) (n + i) ≡ number_at rest i
unfolding number_at
number_at-after before rest n i e = rw (← e, add_assoc, get_or-append-add, get_or-append-add)

-- it is the number of these two bytes
pub number_at-part : (l : List ℕ) (at : ℕ) → number_at (take 2 (drop at l)) 0 ≡ number_at l at
unfolding number_at
number_at-part l at = ap₂ (λ (x y : ℕ). x + 256 * y)
    (get_or-take 2 (drop at l) 0 0 (omega arith) ∙ get_or-drop at l 0 0 ∙ ap (λ (k : ℕ). get_or l k 0) (add-zero at))
    (get_or-take 2 (drop at l) 1 0 (omega arith) ∙ get_or-drop at l 1 0)

-- the bytes of the number at `at` are those at `at`
pub le16-number_at : (l : List ℕ) (at : ℕ) → Bytes l → at + 1 < length l → le16 (number_at l at) ≡ take 2 (drop at l)
unfolding number_at
le16-number_at l at h inside =
    let x : ℕ = get_or l at 0 in
    let y : ℕ = get_or l (at + 1) 0 in
    let low : (x + 256 * y) % 256 ≡ x = add-mul-mod_self_left x 256 y ∙ mod-eq_of_lt (h at) in
    let quotient : (x + 256 * y) / 256 ≡ y = omega (arith, h at) in
    let high : (x + 256 * y) / 256 % 256 ≡ y = ap (λ (n : ℕ). n % 256) quotient ∙ mod-eq_of_lt (h (at + 1)) in
    rw (drop-cons l at 0 (omega arith), drop-cons l (suc at) 0 (omega arith), ← add-one at, low, high)
