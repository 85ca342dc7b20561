-- Bits of numbers: a number as the set of those e whose bit is set.
use Rattle.std.specs.Prelude.{◌≡◌, refl, Bool, true, false, not, ◌||◌, ℕ, zero, suc, ◌+◌, ◌-◌, ◌*◌, ◌/◌, ◌%◌, ◌^◌, ◌≤◌, ◌<◌, max, eqb}
use Rattle.std.proofs.Common.{sym, ap, ◌∙◌, pow-suc, div-one, mul-div_cancel, mod-eq_of_lt, lt_of_lt_of_le, arith, eq-eqb, ne_eqb, pow_mono}
use Rattle.std.proofs.Math.Nat.{pow-succ', div-div-eq-div-mul, mul-mod_left, mul-add-mod_self_right, max-zero, zero-div, div-eq_of_lt}
use Rattle.std.proofs.Math.Decide.{ℕ_discrete}
use Rattle.std.specs.Int.Bits.{bit_and, bit_or, or_step, or_zero_r}
use Rattle.std.proofs.lemmas.Nat.{and_mask, or_shr, or_lt}
use Rattle.std.proofs.Math.Pow.{pow-lt}
use mir.Val.{bool_byte}

-- bit e of a number
unfoldable pub bit : ℕ → ℕ → Bool
bit m e = eqb (m / 2 ^ e % 2) 1

-- the number with bit e set
unfoldable pub with_bit : ℕ → ℕ → ℕ
with_bit m e = bit_or m (2 ^ e)

-- ---- bits, lowest first

pub bit-zero : (m : ℕ) → bit m 0 ≡ eqb (m % 2) 1
unfolding bit
bit-zero m = ap (λ (n : ℕ). eqb (n % 2) 1) (div-one m)

pub bit-suc : (m e : ℕ) → bit m (suc e) ≡ bit (m / 2) e
unfolding bit
bit-suc m e = ap (λ (n : ℕ). eqb (n % 2) 1) (ap (λ (n : ℕ). m / n) (pow-succ' 2 e) ∙ sym (div-div-eq-div-mul m 2 (2 ^ e)))

-- no bit of 0 is set
pub bit-of-zero : (e : ℕ) → bit 0 e ≡ false
unfolding bit
bit-of-zero e = ap (λ (n : ℕ). eqb (n % 2) 1) (zero-div (2 ^ e))

-- nor one from k on, of a number of k bits
pub bit-above : (k m e : ℕ) → m < 2 ^ k → k ≤ e → bit m e ≡ false
unfolding bit
bit-above k m e h above = ap (λ (n : ℕ). eqb (n % 2) 1) (div-eq_of_lt (lt_of_lt_of_le h (pow_mono above)))

or-half : (a b : ℕ) → bit_or a b / 2 ≡ bit_or (a / 2) (b / 2)
or-half a b = or_shr a b 1

or_odd : (a b : ℕ) → bit_or a b % 2 ≡ max (a % 2) (b % 2)
or_odd a b =
    ap (λ (n : ℕ). n % 2) (or_step a b)
    ∙ mul-add-mod_self_right (bit_or (a / 2) (b / 2)) 2 (max (a % 2) (b % 2))
    ∙ mod-eq_of_lt (omega arith)

pow-half : (e : ℕ) → 2 ^ suc e / 2 ≡ 2 ^ e
pow-half e = ap (λ (n : ℕ). n / 2) (pow-suc 2 e) ∙ mul-div_cancel (2 ^ e) (omega arith)

pow_even : (e : ℕ) → 2 ^ suc e % 2 ≡ 0
pow_even e = ap (λ (n : ℕ). n % 2) (pow-suc 2 e) ∙ mul-mod_left (2 ^ e) 2

-- ---- a bit that is set

pub with_bit-same : (m e : ℕ) → bit (with_bit m e) e ≡ true
unfolding with_bit
with_bit-same m zero = bit-zero (bit_or m 1) ∙ eq-eqb (bit_or m 1 % 2) 1 (or_odd m 1 ∙ omega arith)
with_bit-same m (suc e) =
    bit-suc (bit_or m (2 ^ suc e)) e
    ∙ ap (λ (n : ℕ). bit n e) (or-half m (2 ^ suc e) ∙ ap (bit_or (m / 2)) (pow-half e))
    ∙ with_bit-same (m / 2) e

pub with_bit-other : (m e k : ℕ) → (k ≡ e → ⊥) → bit (with_bit m e) k ≡ bit m k
unfolding with_bit
with_bit-other m zero zero h = absurd (h refl)
with_bit-other m zero (suc k) h =
    bit-suc (bit_or m 1) k ∙ ap (λ (n : ℕ). bit n k) (or-half m 1 ∙ or_zero_r (m / 2)) ∙ sym (bit-suc m k)
with_bit-other m (suc e) zero h =
    bit-zero (bit_or m (2 ^ suc e))
    ∙ ap (λ (n : ℕ). eqb n 1) (or_odd m (2 ^ suc e) ∙ ap (max (m % 2)) (pow_even e) ∙ max-zero (m % 2))
    ∙ sym (bit-zero m)
with_bit-other m (suc e) (suc k) h =
    bit-suc (bit_or m (2 ^ suc e)) k
    ∙ ap (λ (n : ℕ). bit n k) (or-half m (2 ^ suc e) ∙ ap (bit_or (m / 2)) (pow-half e))
    ∙ with_bit-other (m / 2) e k (λ q. h (ap suc q))
    ∙ sym (bit-suc m k)

-- both laws as one equation
pub with_bit-bit : (m e k : ℕ) → bit (with_bit m e) k ≡ eqb k e || bit m k
with_bit-bit m e k = go (ℕ_discrete k e)
  where
    go : Dec (k ≡ e) → bit (with_bit m e) k ≡ eqb k e || bit m k
    go (yes q) = ap (bit (with_bit m e)) q ∙ with_bit-same m e ∙ sym (ap (λ b. b || bit m k) (eq-eqb k e q))
    go (no q) = with_bit-other m e k q ∙ sym (ap (λ b. b || bit m k) (ne_eqb k e q))

pub with_bit_lt : (k m e : ℕ) → m < 2 ^ k → e < k → with_bit m e < 2 ^ k
unfolding with_bit
with_bit_lt k m e hm he = or_lt k m (2 ^ e) hm (pow-lt he)

-- ---- a mask is the set of its bits

-- a digit is 0 or 1, and is known by the test for 1
digit_value : (a : ℕ) → a < 2 → bool_byte (eqb a 1) ≡ a
digit_value zero h = refl
digit_value (suc zero) h = refl
digit_value (suc (suc a)) h = absurd (omega arith)

digit_eq : (a b : ℕ) → a < 2 → b < 2 → eqb a 1 ≡ eqb b 1 → a ≡ b
digit_eq a b ha hb e = sym (digit_value a ha) ∙ ap bool_byte e ∙ digit_value b hb

-- the test for a digit that is not 0, as code writes it
pub nonzero_digit : (a : ℕ) → a < 2 → not (eqb a 0) ≡ eqb a 1
nonzero_digit zero h = refl
nonzero_digit (suc zero) h = refl
nonzero_digit (suc (suc a)) h = absurd (omega arith)

-- two numbers of k bits with the same bits are equal
pub bits_ext : (k m n : ℕ) → m < 2 ^ k → n < 2 ^ k → ((e : ℕ) → e < k → bit m e ≡ bit n e) → m ≡ n
bits_ext zero m n hm hn h = omega arith
bits_ext (suc k) m n hm hn h =
    let halves : m / 2 ≡ n / 2 = bits_ext k (m / 2) (n / 2) (omega (arith, pow-suc 2 k)) (omega (arith, pow-suc 2 k))
    (λ e he. sym (bit-suc m e) ∙ h (suc e) (omega arith) ∙ bit-suc n e) in
    let digits : m % 2 ≡ n % 2 = digit_eq (m % 2) (n % 2) (omega arith) (omega arith) (sym (bit-zero m) ∙ h 0 (omega arith) ∙ bit-zero n) in
    omega arith

-- the number of a set below k: bit e is set exactly when P e is true
unfoldable pub mask_of : ℕ → (ℕ → Bool) → ℕ
mask_of zero P = 0
mask_of (suc k) P = mask_of k (λ e. P (suc e)) * 2 + bool_byte (P 0)

bool_byte_lt : (b : Bool) → bool_byte b < 2
bool_byte_lt false = omega arith
bool_byte_lt true = omega arith

bool_byte_test : (b : Bool) → eqb (bool_byte b) 1 ≡ b
bool_byte_test false = refl
bool_byte_test true = refl

pub mask_of_lt : (k : ℕ) (P : ℕ → Bool) → mask_of k P < 2 ^ k
unfolding mask_of
mask_of_lt zero P = omega arith
mask_of_lt (suc k) P = omega (arith, mask_of_lt k (λ e. P (suc e)), bool_byte_lt (P 0), pow-suc 2 k)

pub mask_of-bit : (k : ℕ) (P : ℕ → Bool) (e : ℕ) → e < k → bit (mask_of k P) e ≡ P e
unfolding mask_of
mask_of-bit zero P e h = absurd (omega arith)
mask_of-bit (suc k) P zero h = bit-zero (rest * 2 + low) ∙ ap (λ (n : ℕ). eqb n 1) lowest ∙ bool_byte_test (P 0)
  where
    rest : ℕ
    rest = mask_of k (λ e. P (suc e))

    low : ℕ
    low = bool_byte (P 0)

    lowest : (rest * 2 + low) % 2 ≡ low
    lowest = omega (arith, bool_byte_lt (P 0))
mask_of-bit (suc k) P (suc e) h =
    bit-suc (rest * 2 + low) e ∙ ap (λ (n : ℕ). bit n e) higher ∙ mask_of-bit k (λ e. P (suc e)) e (omega arith)
  where
    rest : ℕ
    rest = mask_of k (λ e. P (suc e))

    low : ℕ
    low = bool_byte (P 0)

    higher : (rest * 2 + low) / 2 ≡ rest
    higher = omega (arith, bool_byte_lt (P 0))

-- a number of k bits is the mask of the set that its bits name
pub mask_of_unique : (k m : ℕ) (P : ℕ → Bool) → m < 2 ^ k → ((e : ℕ) → e < k → bit m e ≡ P e) → m ≡ mask_of k P
mask_of_unique k m P hm h = bits_ext k m (mask_of k P) hm (mask_of_lt k P) (λ e he. h e he ∙ sym (mask_of-bit k P e he))

-- the number depends on the set only
pub mask_of-same : (k : ℕ) (P Q : ℕ → Bool) → ((e : ℕ) → e < k → P e ≡ Q e) → mask_of k P ≡ mask_of k Q
mask_of-same k P Q h = mask_of_unique k (mask_of k P) Q (mask_of_lt k P) (λ e he. mask_of-bit k P e he ∙ h e he)

-- one member more
pub mask_of_with : (k : ℕ) (P : ℕ → Bool) (e : ℕ) → e < k → with_bit (mask_of k P) e ≡ mask_of k (λ f. eqb f e || P f)
mask_of_with k P e h =
    mask_of_unique k (with_bit (mask_of k P) e) (λ f. eqb f e || P f) (with_bit_lt k (mask_of k P) e (mask_of_lt k P) h)
    (λ f hf. with_bit-bit (mask_of k P) e f ∙ ap (λ (b : Bool). eqb f e || b) (mask_of-bit k P f hf))

-- the empty set
pub mask_of-none : (k : ℕ) → mask_of k (λ e. false) ≡ 0
unfolding mask_of
mask_of-none zero = refl
mask_of-none (suc k) = ap (λ (n : ℕ). n * 2 + 0) (mask_of-none k)

-- ---- the low bits

-- a number of k bits, its k low bits cut out
pub low_bits : (k n : ℕ) → n < 2 ^ k → bit_and n (2 ^ k - 1) ≡ n
low_bits k n h = and_mask n k ∙ mod-eq_of_lt h

-- ---- how many bits are set
