-- Numbers in decimal, in ASCII: their digits, and the number that digits write.
use Rattle.std.specs.Prelude.{◌≡◌, refl, Bool, true, false, cond, ◌&&◌, List, [], ◌∷◌, ◌++◌, ℕ, zero, suc, ◌+◌, ◌*◌, ◌-◌, ◌/◌, ◌%◌, ◌^◌, ◌≤◌, ◌<◌, leb, ltb, get_or}
use Rattle.std.proofs.Common.{sym, ap, ◌∙◌, ⊎_elim, pow-suc, arith, ltb-true, ltb-false, leb-true, lt-ltb, le-ltb, le-leb}
use Rattle.std.proofs.Math.Nat.{one-le-pow, pow-le-pow_right}
use Rattle.laws.specs.Booleans.{and_left, and_right, lt_or_le}
use Rattle.laws.specs.Lists.{all, all_append}
use Rattle.io.specs.Digits.{hex_digit_ascii, last_digits as digits, IsDigitCount}

-- a decimal digit
unfoldable pub is_digit : ℕ → Bool
is_digit byte = leb 48 byte && leb byte 57

-- a number with one more digit behind it
unfoldable pub with_digit : ℕ → ℕ → ℕ
with_digit value digit = 10 * value + (digit - 48)

-- the number that digits write behind those of `value`
unfoldable pub number_from : ℕ → List ℕ → ℕ
number_from value [] = value
number_from value (digit ∷ digits) = number_from (with_digit value digit) digits

-- the last digit of a number
unfoldable pub last_digit : ℕ → ℕ
last_digit n = 48 + n % 10

-- the last digits of a number, at most so many, the most significant first
unfoldable pub digits_in : ℕ → ℕ → List ℕ
digits_in zero n = []
digits_in (suc most) n = cond (ltb n 10) [] (digits_in most (n / 10)) ++ last_digit n ∷ []

-- a number in decimal, with no zero in front but for 0 itself; n has at most n + 1 digits
unfoldable pub decimal : ℕ → List ℕ
decimal n = digits_in (suc n) n

-- ---- Digits

pub digit_bounds : (byte : ℕ) → is_digit byte ≡ true → (48 ≤ byte) × (byte ≤ 57)
unfolding is_digit
digit_bounds byte e = (leb-true 48 byte (and_left (leb 48 byte) (leb byte 57) e), leb-true byte 57 (and_right (leb 48 byte) (leb byte 57) e))

last-is_digit : (n : ℕ) → is_digit (last_digit n) ≡ true
unfolding is_digit last_digit
last-is_digit n = rw (le-leb 48 (48 + n % 10) (omega arith), le-leb (48 + n % 10) 57 (omega arith))

digits_in_digits : (most n : ℕ) → all is_digit (digits_in most n) ≡ true
unfolding digits_in all
digits_in_digits zero n = refl
digits_in_digits (suc most) n =
    all_append is_digit (front (ltb n 10)) (last_digit n ∷ []) ∙ rw (above (ltb n 10) (digits_in_digits most (n / 10)), last-is_digit n)
  where
    front : Bool → List ℕ
    front b = cond b [] (digits_in most (n / 10))

    above : (b : Bool) → all is_digit (digits_in most (n / 10)) ≡ true → all is_digit (front b) ≡ true
    above true h = refl
    above false h = h

-- a number's digits are digits
pub decimal_digits : (n : ℕ) → all is_digit (decimal n) ≡ true
unfolding decimal
decimal_digits n = digits_in_digits (suc n) n

-- ---- A number is one digit, or its tenth and one digit more

digits_enough : (k m n : ℕ) → n < k → n < m → digits_in k n ≡ digits_in m n
unfolding digits_in
digits_enough zero m n hk hm = absurd (omega arith)
digits_enough (suc k) zero n hk hm = absurd (omega arith)
digits_enough (suc k) (suc m) n hk hm = go (ltb n 10) refl (digits_enough k m (n / 10))
  where
    go : (b : Bool) → ltb n 10 ≡ b → (n / 10 < k → n / 10 < m → digits_in k (n / 10) ≡ digits_in m (n / 10))
        → cond b [] (digits_in k (n / 10)) ++ last_digit n ∷ [] ≡ cond b [] (digits_in m (n / 10)) ++ last_digit n ∷ []
    go true is below = refl
    go false is below = let more = ltb-false n 10 is in ap (λ (l : List ℕ). l ++ last_digit n ∷ []) (below (omega arith) (omega arith))

pub decimal-one : (n : ℕ) → n < 10 → decimal n ≡ last_digit n ∷ []
unfolding decimal digits_in
decimal-one n one = rw (lt-ltb n 10 one)

pub decimal-more : (n : ℕ) → 10 ≤ n → decimal n ≡ decimal (n / 10) ++ last_digit n ∷ []
unfolding decimal digits_in
decimal-more n more =
    rw (le-ltb n 10 more) (ap (λ (l : List ℕ). l ++ last_digit n ∷ []) (digits_enough n (suc (n / 10)) (n / 10) (omega arith) (omega arith)))

-- no zero in front
pub decimal-first : (n : ℕ) → 0 < n → 48 < get_or (decimal n) 0 0
unfolding last_digit
decimal-first n some = go (suc n) n (omega arith) some
  where
    longer : (a b : List ℕ) → 48 < get_or a 0 0 → 48 < get_or (a ++ b) 0 0
    longer [] b h = absurd (omega arith)
    longer (x ∷ a) b h = h

    go : (k m : ℕ) → m < k → 0 < m → 48 < get_or (decimal m) 0 0
    go zero m h p = absurd (omega arith)
    go (suc k) m h p = ⊎_elim
        (λ one. rw (decimal-one m one) (omega arith))
        (λ more. rw (decimal-more m more) (longer (decimal (m / 10)) (last_digit m ∷ []) (go k (m / 10) (omega arith) (omega arith))))
        (lt_or_le m 10)

-- ---- Reading

number-last : (value : ℕ) (a : List ℕ) (digit : ℕ) → number_from value (a ++ digit ∷ []) ≡ with_digit (number_from value a) digit
unfolding number_from
number-last value [] digit = refl
number-last value (d ∷ a) digit = number-last (with_digit value d) a digit

number_in : (k n : ℕ) → n < k → number_from 0 (decimal n) ≡ n
unfolding number_from with_digit last_digit
number_in zero n h = absurd (omega arith)
number_in (suc k) n h = go (ltb n 10) refl (number_in k (n / 10))
  where
    go : (b : Bool) → ltb n 10 ≡ b → (n / 10 < k → number_from 0 (decimal (n / 10)) ≡ n / 10) → number_from 0 (decimal n) ≡ n
    go true is below = let one = ltb-true n 10 is in rw (decimal-one n one) (omega arith)
    go false is below =
        let more = ltb-false n 10 is in
        rw (decimal-more n more, number-last, below (omega arith)) (omega arith)

-- the digits of a number write it
pub number-decimal : (n : ℕ) → number_from 0 (decimal n) ≡ n
number-decimal n = number_in (suc n) n (omega arith)

-- so they determine it
pub decimal_unique : (n m : ℕ) → decimal n ≡ decimal m → n ≡ m
decimal_unique n m e = sym (number-decimal n) ∙ ap (number_from 0) e ∙ number-decimal m

-- ---- The digits that `io::decimal` writes, in its own terms

glyph_last : (n : ℕ) → hex_digit_ascii (n % 10) ≡ last_digit n
unfolding last_digit
glyph_last n = rw (lt-ltb (n % 10) 10 (omega arith))

pub fewest_decimal : (k n : ℕ) → IsDigitCount 10 1 n k → digits 10 k n ≡ decimal n
fewest_decimal zero n f = absurd (let some = f.0 in omega arith)
fewest_decimal (suc zero) n f = rw (glyph_last n) (sym (decimal-one n (let below = f.1 in omega arith)))
fewest_decimal (suc (suc k)) n f =
    let above : 10 ^ suc k ≤ n = rw (back (suc k)) at (f.2 (omega arith)) in
    let below : n < 10 ^ suc (suc k) = f.1 in
    let some : 1 ≤ 10 ^ k = one-le-pow k 10 (omega arith) in
    let ten : 10 ^ suc k ≡ 10 ^ k * 10 = pow-suc 10 k in
    let hundred : 10 ^ suc (suc k) ≡ 10 ^ suc k * 10 = pow-suc 10 (suc k) in
    rw (glyph_last n, fewest_decimal (suc k) (n / 10) (omega arith, omega arith, λ h. rw (back k) (omega arith))) (sym (decimal-more n (omega arith)))
  where
    back : (m : ℕ) → suc m - 1 ≡ m
    back m = omega arith

-- a number of 64 bits has at most 20
pub fewest_within : (k n : ℕ) → IsDigitCount 10 1 n k → n < 18446744073709551616 → k ≤ 20
fewest_within k n f small = ⊎_elim (λ more. absurd (large more)) (λ few. few) (lt_or_le 20 k)
  where
    large : 20 < k → ⊥
    large more = let above : 10 ^ 20 ≤ 10 ^ (k - 1) = pow-le-pow_right (omega arith) {i = 20} (omega arith) in omega (arith, f.2 (omega arith))
