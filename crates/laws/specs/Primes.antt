-- Prime numbers, found by trial division; weighted sums modulo a prime, for any weights and any length.
use Rattle.std.specs.Prelude.{◌≡◌, Bool, true, not, ◌⊎◌, List, ℕ, zero, suc, ◌+◌, ◌-◌, ◌*◌, ◌/◌, ◌%◌, ◌≤◌, ◌<◌, eqb, length, get_or, set}
use Rattle.std.proofs.Common.{sym, ap, ◌∙◌, subst, inl, inr, ⊎_elim, mul-le-mul, mod-lt, one-mul, eq-or-lt_of_le, arith, length-set, get_or-set_other}
use Rattle.std.specs.Int.{◌∣◌}
use Rattle.std.proofs.Math.Nat.{mul-mod_right, div-add-mod, dvd-mul_right, dvd-mul_right_of_dvd, dvd-add_iff_right, le_of_dvd}
use Rattle.std.proofs.lemmas.Bool.{eqb-false, not-true}
use Rattle.laws.specs.Booleans.{lt_or_le}
use Rattle.laws.specs.Lists.{all_below}
use Rattle.laws.specs.Scans.{all_below-each}
use Rattle.laws.specs.Sums.{weighted, weighted-set}

-- ---- Primes

-- above 1, and no product of two numbers above 1
pub record Prime (p : ℕ) : Type 0 where
  pub above : 1 < p
  pub factors : (a b : ℕ) → a * b ≡ p → (a ≡ 1) ⊎ (b ≡ 1)

-- none of the n numbers from 2 on divides p
unfoldable pub undivided : ℕ → ℕ → Bool
undivided n p = all_below n (λ d. not (eqb (p % (d + 2)) 0))

-- trial division: it is enough to test the numbers up to the root
pub prime-tested : (n p : ℕ) → 1 < p → p < (n + 2) * (n + 2) → undivided n p ≡ true → Prime p
unfolding undivided
prime-tested n p above root tested = record {
  above = above;
  factors = λ a b e. ⊎_elim
      (λ low. inl (small a b e low))
      (λ high. ⊎_elim
      (λ low. inr (small b a (omega (arith, e)) low))
      (λ both. absurd (omega (arith, e, mul-le-mul high both)))
      (lt_or_le b (n + 2)))
      (lt_or_le a (n + 2));
}
  where
    -- a factor that is tested is 1
    small : (a b : ℕ) → a * b ≡ p → a < n + 2 → a ≡ 1
    small zero b e low = absurd (omega (arith, e))
    small (suc zero) b e low = omega arith
    small (suc (suc d)) b e low =
        let two : d + 2 ≡ suc (suc d) = omega arith in
        let divides : p % (d + 2) ≡ 0 = rw (two, ← e) (mul-mod_right (suc (suc d)) b) in
        absurd (eqb-false _ _ (not-true _ (all_below-each n (λ k. not (eqb (p % (k + 2)) 0)) tested d (omega arith))) divides)

-- a prime that divides a product divides a factor: p % a for a, again and again, down to 1
pub prime_divides : (p : ℕ) → Prime p → (a b : ℕ) → 1 ≤ a → a < p → p ∣ a * b → p ∣ b
prime_divides p prime a b some less = go a a b (omega arith) some less
  where
    go : (n a b : ℕ) → a ≤ n → 1 ≤ a → a < p → p ∣ a * b → p ∣ b
    go zero a b most some less divides = absurd (omega arith)
    go (suc n) a b most some less divides = ⊎_elim
        (λ one. subst (λ (x : ℕ). p ∣ x) (ap (λ (k : ℕ). k * b) (sym one) ∙ one-mul b) divides)
        (λ more. go n r b (omega (arith, mod-lt p {m = a} (omega arith))) (remains more) (omega (arith, mod-lt p {m = a} (omega arith)))
        ((dvd-add_iff_right p (dvd-mul_right_of_dvd p divides q)).1 (subst (λ (x : ℕ). p ∣ x) whole (dvd-mul_right p b))))
        (eq-or-lt_of_le some)
      where
        q : ℕ
        q = p / a

        r : ℕ
        r = p % a

        whole : p * b ≡ a * b * q + r * b
        whole = ap (λ (k : ℕ). k * b) (sym (div-add-mod p a)) ∙ omega arith

        remains : 1 < a → 1 ≤ r
        remains more = ⊎_elim
            (λ none. ⊎_elim (λ e. absurd (omega (arith, e))) (λ e. absurd (omega (arith, e, ap (λ (k : ℕ). a * k) e, div-add-mod p a)))
            (prime.factors a q (omega (arith, none, div-add-mod p a))))
            (λ h. h)
            (lt_or_le r 1)

-- so it divides no product of numbers below it, unless one is 0
pub prime-product : (p : ℕ) → Prime p → (a b : ℕ) → 1 ≤ a → a < p → b < p → p ∣ a * b → b ≡ 0
prime-product p prime a b some less small divides =
    ⊎_elim (λ none. omega arith) (λ more. absurd (omega (arith, le_of_dvd more (prime_divides p prime a b some less divides)))) (lt_or_le b 1)

-- ---- Sums that agree modulo a number

-- what is added is a multiple of it
pub agree_modulo : (m a d : ℕ) → (a + d) % m ≡ a % m → m ∣ d
agree_modulo m a d e =
    (dvd-add_iff_right m (dvd-mul_right m (a / m))).1
    (subst (λ (x : ℕ). m ∣ x) (omega (arith, e, div-add-mod a m, div-add-mod (a + d) m)) (dvd-mul_right m ((a + d) / m)))

module _ (p : ℕ) (prime : Prime p) where
  -- two sums that differ by a number's weight times its change: modulo a prime they agree only where the number is the same
  same_number : (s t a x y : ℕ) → t + a * y ≡ s + a * x → t % p ≡ s % p → 1 ≤ a → a < p → x < p → y < p → x ≡ y
  same_number s t a x y balance agree some less smallx smally = ⊎_elim
      (λ low. sym (no_more t s y x (sym balance) (sym agree) (omega arith) smally))
      (λ high. no_more s t x y balance agree high smallx)
      (lt_or_le x y)
    where
      no_more : (s t x y : ℕ) → t + a * y ≡ s + a * x → t % p ≡ s % p → y ≤ x → x < p → x ≡ y
      no_more s t x y balance agree high small =
          let d : ℕ = x - y in
          let is : x ≡ y + d = omega arith in
          let sum : t ≡ s + a * d = omega (arith, balance, ap (λ (n : ℕ). a * n) is) in
          let divides : p ∣ a * d = agree_modulo p s (a * d) (ap (λ (n : ℕ). n % p) (sym sum) ∙ agree) in
          omega (arith, prime-product p prime a d some less (omega arith) divides)

  module _ (w : ℕ → ℕ) (xs ys : List ℕ) (old : (k : ℕ) → get_or xs k 0 < p) (new : (k : ℕ) → get_or ys k 0 < p) where
    -- so a sum modulo a prime changes with any one of its numbers
    pub weighted-one : (i : ℕ) → i < length xs → set xs i (get_or ys i 0) ≡ ys → 1 ≤ w i → w i < p
        → weighted w ys % p ≡ weighted w xs % p → get_or ys i 0 ≡ get_or xs i 0
    weighted-one i h is some less agree =
        let balance = weighted-set w xs i (get_or ys i 0) h in
        same_number _ _ (w i) (get_or ys i 0) (get_or xs i 0) (rw is at balance) agree some less (new i) (old i)

    -- and with any two whose weights differ, where their plain sum stays
    pub weighted-two : (i j : ℕ) → i < length xs → j < length xs → set (set xs i (get_or ys i 0)) j (get_or ys j 0) ≡ ys → w i < w j → w j < p
        → get_or ys i 0 + get_or ys j 0 ≡ get_or xs i 0 + get_or xs j 0 → weighted w ys % p ≡ weighted w xs % p → get_or ys j 0 ≡ get_or xs j 0
    weighted-two i j hi hj is more less plain agree =
        same_number _ _ g y (get_or xs j 0) balance agree (omega arith) (omega arith) (new j) (old j)
      where
        x : ℕ
        x = get_or ys i 0

        y : ℕ
        y = get_or ys j 0

        g : ℕ
        g = w j - w i

        other : get_or (set xs i x) j 0 ≡ get_or xs j 0
        other = get_or-set_other xs i j x 0 (λ e. omega (arith, ap w e))

        first : weighted w (set xs i x) + w i * get_or xs i 0 ≡ weighted w xs + w i * x
        first = weighted-set w xs i x hi

        second : weighted w ys + w j * get_or xs j 0 ≡ weighted w (set xs i x) + w j * y
        second = let e = weighted-set w (set xs i x) j y (omega (arith, length-set xs i x)) in rw (is, other) at e

        balance : weighted w ys + g * get_or xs j 0 ≡ weighted w xs + g * y
        balance =
            let apart : w j ≡ w i + g = omega arith in
            omega (arith, first, second, ap (λ (n : ℕ). w i * n) plain, ap (λ (n : ℕ). n * y) apart, ap (λ (n : ℕ). n * get_or xs j 0) apart)
