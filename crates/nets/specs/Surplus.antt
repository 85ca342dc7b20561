-- The surplus in natural numbers: a place permits a step exactly when the tokens that the step needs are at most those that were put there.
use Rattle.std.specs.Prelude.{◌≡◌, refl, ◌↔◌, ℕ, zero, suc, ◌+◌, ◌*◌, ◌≤◌, ◌<◌, ℤ, ◌+ℤ◌, ◌-ℤ◌, ◌*ℤ◌, take}
use Rattle.std.proofs.Common.{sym, ap₂, ◌∙◌, add-zero, add_assoc, zero-mul, add-one, arith, get_or-take}
use Rattle.std.proofs.Math.Path.{ap, subst}
use Rattle.std.proofs.Math.Dec.{T}
use Rattle.std.proofs.Math.IntN.{pos, sub_ℕ, +ℤ_assoc, zero-*ℤ}
use Rattle.std.specs.Int.Signed.{non_neg}
use Rattle.laws.specs.Sums.{sum, sum-wide}
use Rattle.laws.specs.Differences.{sumℤ, sumℤ-same, difference-sum, difference-zero, non_neg_difference, pos_difference, difference-minus}
use Rattle.nets.specs.Nets.{Place, Step, Counts, at, tokens, effect, surplus, place_permits}

module _ (n : ℕ) where
  -- the tokens that the events of v put there
  abbrev pub put : Place → Counts → ℕ
  put p v = sum n (λ i. at v i * p.produced i)

  -- these and the initial tokens
  unfoldable pub given : Place → Counts → ℕ
  given p v = p.initial + put p v

  -- the tokens that the events of v took away
  unfoldable pub taken : Place → Counts → ℕ
  taken p v = sum n (λ i. at v i * p.consumed i)

pub tokens-is : (n : ℕ) (p : Place) (v : Counts) → tokens n p v ≡ sub_ℕ (given n p v) (taken n p v)
unfolding tokens given taken
tokens-is n p v =
    ap (λ (t : ℤ). pos p.initial +ℤ t) (difference-sum n (at v) p.produced p.consumed)
    ∙ pos_difference p.initial (sum n (λ i. at v i * p.produced i)) (sum n (λ i. at v i * p.consumed i))

-- ---- The effect of counts

pub effect_is : (n : ℕ) (p : Place) (v : Counts) → effect n p v ≡ sub_ℕ (put n p v) (taken n p v)
unfolding taken
effect_is n p v = difference-sum n (at v) p.produced p.consumed

-- 0 exactly when they put as many tokens there as they take
pub effect-none : (n : ℕ) (p : Place) (v : Counts) → (effect n p v ≡ pos 0) ↔ (put n p v ≡ taken n p v)
effect-none n p v = rw (effect_is n p v) (difference-zero (put n p v) (taken n p v))

-- it is what they add to the initial tokens
pub tokens-effect : (n : ℕ) (p : Place) (v : Counts) → tokens n p v ≡ pos p.initial +ℤ effect n p v
unfolding tokens
tokens-effect n p v = refl

-- ---- The tokens

-- with one event more
pub given-next : (n : ℕ) (p : Place) (v : Counts) → given (n + 1) p v ≡ given n p v + at v n * p.produced n
unfolding given sum
given-next n p v = rw (add-one n) (sym (add_assoc p.initial (sum n (λ i. at v i * p.produced i)) (at v n * p.produced n)))

pub taken_next : (n : ℕ) (p : Place) (v : Counts) → taken (n + 1) p v ≡ taken n p v + at v n * p.consumed n
unfolding taken sum
taken_next n p v = rw (add-one n)

-- of no event, and of one event more
pub tokens-first : (p : Place) (v : Counts) → tokens 0 p v ≡ pos p.initial
unfolding tokens sumℤ
tokens-first p v = ap pos (add-zero p.initial)

pub tokens-next : (n : ℕ) (p : Place) (v : Counts) → tokens n p v +ℤ pos (at v n) *ℤ (pos (p.produced n) -ℤ pos (p.consumed n)) ≡ tokens (n + 1) p v
unfolding tokens sumℤ
tokens-next n p v = rw add-one (+ℤ_assoc (pos p.initial) (sumℤ n (λ i. pos (at v i) *ℤ (pos (p.produced i) -ℤ pos (p.consumed i)))) _)

-- of counts that are zero
pub tokens-zeros : (n : ℕ) (p : Place) (v : Counts) → ((i : ℕ) → i < n → at v i ≡ 0) → tokens n p v ≡ pos p.initial
tokens-zeros zero p v h = tokens-first p v
tokens-zeros (suc n) p v h =
    ap (λ (k : ℕ). tokens k p v) (sym (add-one n))
    ∙ sym (tokens-next n p v)
    ∙ ap₂ ◌+ℤ◌ (tokens-zeros n p v (λ i b. h i (omega arith))) (ap (λ (k : ℕ). pos k *ℤ (pos (p.produced n) -ℤ pos (p.consumed n))) (h n (omega arith)) ∙ zero-*ℤ (pos (p.produced n) -ℤ pos (p.consumed n)))
    ∙ ap pos (add-zero p.initial)

module _ (n : ℕ) (p : Place) (s : Step) where
  pub surplus-is : surplus n p s ≡ sub_ℕ (given n p s.row) (taken n p s.row + p.consumed s.event)
  unfolding surplus
  surplus-is =
      ap (λ (t : ℤ). t -ℤ pos (p.consumed s.event)) (tokens-is n p s.row)
      ∙ difference-minus (given n p s.row) (taken n p s.row) (p.consumed s.event)

  pub permits→le : T (place_permits n p s) → taken n p s.row + p.consumed s.event ≤ given n p s.row
  unfolding place_permits
  permits→le t = (non_neg_difference _ _).0 (subst (λ (z : ℤ). T (non_neg z)) surplus-is t)

  pub le→permits : taken n p s.row + p.consumed s.event ≤ given n p s.row → T (place_permits n p s)
  unfolding place_permits
  le→permits h = subst (λ (z : ℤ). T (non_neg z)) (sym surplus-is) ((non_neg_difference _ _).1 h)

-- only the counts below n matter
pub tokens-row : (n : ℕ) (p : Place) (u v : Counts) → ((i : ℕ) → i < n → at u i ≡ at v i) → tokens n p u ≡ tokens n p v
unfolding tokens
tokens-row n p u v h =
    ap (λ (z : ℤ). pos p.initial +ℤ z)
    (sumℤ-same n _ _ (λ i b. ap (λ (k : ℕ). pos k *ℤ (pos (p.produced i) -ℤ pos (p.consumed i))) (h i b)))

-- what stands behind them does not matter
pub tokens-front : (n : ℕ) (p : Place) (v : Counts) → tokens n p v ≡ tokens n p (take n v)
tokens-front n p v = tokens-row n p v (take n v) (λ i b. sym (get_or-take n v i 0 b))

pub permits-front : (n : ℕ) (p : Place) (v : Counts) (e : ℕ) → place_permits n p (record { row = v; event = e }) ≡ place_permits n p (record { row = take n v; event = e })
unfolding place_permits surplus
permits-front n p v e = ap (λ (z : ℤ). non_neg (z -ℤ pos (p.consumed e))) (tokens-front n p v)

-- counts that are zero from n on add nothing
pub tokens-wide : (n k : ℕ) (p : Place) (v : Counts) → ((i : ℕ) → n ≤ i → at v i ≡ 0) → tokens (n + k) p v ≡ tokens n p v
unfolding given taken
tokens-wide n k p v h =
    tokens-is (n + k) p v
    ∙ ap₂ sub_ℕ
    (ap (λ (x : ℕ). p.initial + x) (sum-wide n k (λ i. at v i * p.produced i) (λ i b. ap (λ (x : ℕ). x * p.produced i) (h i b) ∙ zero-mul (p.produced i))))
    (sum-wide n k (λ i. at v i * p.consumed i) (λ i b. ap (λ (x : ℕ). x * p.consumed i) (h i b) ∙ zero-mul (p.consumed i)))
    ∙ sym (tokens-is n p v)
