-- The marking of a place along a word: its tokens at first, and behind one event more.
use Rattle.std.specs.Prelude.{◌≡◌, refl, Bool, true, ℕ, ◌+◌, ◌-◌, ◌*◌, ◌≤◌, ◌<◌, T, ℤ, pos, ◌-ℤ◌}
use Rattle.std.proofs.Math.Path.{sym, ap, ap₂}
use Rattle.std.proofs.Common.{◌∙◌, subst, add_assoc, add-mul, arith}
use mathlib.Core.List.{[], ◌∷◌, ◌++◌}
use Rattle.std.proofs.Math.Nat.{add-zero}
use Rattle.std.proofs.Math.IntN.{sub_ℕ, ◌+ℤ◌, +ℤ_comm}
use Rattle.std.specs.Int.Signed.{non_neg}
use Rattle.laws.specs.Sums.{sum, sum-add, sum_same}
use Rattle.laws.specs.Differences.{difference, difference-add, difference-minus, pos_difference, non_neg_difference, pos_of_difference, negative_part}
use Rattle.nets.specs.Nets.{Word, Place, at, same, occurrences, counts, step_after, tokens, effect, surplus, place_permits, shortfall}
use Rattle.nets.specs.CountLaws.{at-counts, occurrences-append}
use Rattle.nets.specs.Surplus.{given, taken, effect_is, tokens-is, tokens-zeros}
use Rattle.nets.specs.Weights.{pick}

-- ---- One step on one place: tokens before, tokens behind

-- what an event leaves of the tokens of a place: negative where they are too few
abbrev pub left : Place → ℤ → ℕ → ℤ
left p t e = t -ℤ pos (p.consumed e)

-- the tokens cover what an event takes
abbrev pub covered : Place → ℤ → ℕ → Bool
covered p t e = non_neg (left p t e)

-- how many tokens are missing for it
abbrev pub missing : Place → ℤ → ℕ → ℕ
missing p t e = negative_part (left p t e)

-- the tokens behind an event
abbrev pub moved : Place → ℤ → ℕ → ℤ
moved p t e = left p t e +ℤ pos (p.produced e)

-- these are the definitions at a step, where the tokens are those after the events of u
pub permits-is : (n : ℕ) (p : Place) (u : Word) (e : ℕ) → place_permits n p (step_after n u e) ≡ covered p (tokens n p (counts n u)) e
unfolding place_permits surplus
permits-is n p u e = refl

pub shortfall-is : (n : ℕ) (p : Place) (u : Word) (e : ℕ) → shortfall n p (step_after n u e) ≡ missing p (tokens n p (counts n u)) e
unfolding shortfall surplus
shortfall-is n p u e = refl

-- where the tokens cover what an event takes, the tokens behind it are a natural number
pub covered-enough : (p : Place) (t e : ℕ) → covered p (pos t) e ≡ true → p.consumed e ≤ t
covered-enough p t e h = (non_neg_difference t (p.consumed e)).0 (subst (λ (z : ℤ). T (non_neg z)) (difference t (p.consumed e)) (rw h tt))

pub moved-amount : (p : Place) (t e : ℕ) → p.consumed e ≤ t → moved p (pos t) e ≡ pos (t - p.consumed e + p.produced e)
moved-amount p t e h = ap (λ (z : ℤ). z +ℤ pos (p.produced e)) (difference t (p.consumed e) ∙ pos_of_difference t (p.consumed e) h)

moved-difference : (p : Place) (e a b : ℕ) → moved p (sub_ℕ a b) e ≡ sub_ℕ (a + p.produced e) (b + p.consumed e)
moved-difference p e a b =
    ap (λ (z : ℤ). z +ℤ pos (p.produced e)) (difference-minus a b (p.consumed e))
    ∙ +ℤ_comm (sub_ℕ a (b + p.consumed e)) (pos (p.produced e))
    ∙ pos_difference (p.produced e) a (b + p.consumed e)
    ∙ ap (λ (k : ℕ). sub_ℕ k (b + p.consumed e)) (omega arith)

-- ---- Along a word

module _ (n : ℕ) where
  -- the sum of f over the events of u
  abbrev over : (ℕ → ℕ) → Word → ℕ
  over f u = sum n (λ i. at (counts n u) i * f i)

  over-append : (f : ℕ → ℕ) (u x : Word) → over f (u ++ x) ≡ over f u + over f x
  over-append f u x =
      sum_same n _ _ (λ i b. ap (λ (k : ℕ). k * f i) (both i b) ∙ add-mul (at (counts n u) i) (at (counts n x) i) (f i))
      ∙ sum-add n (λ i. at (counts n u) i * f i) (λ i. at (counts n x) i * f i)
    where
      both : (i : ℕ) → i < n → at (counts n (u ++ x)) i ≡ at (counts n u) i + at (counts n x) i
      both i b = at-counts n (u ++ x) i b ∙ occurrences-append i u x ∙ sym (ap₂ ◌+◌ (at-counts n u i b) (at-counts n x i b))

  over_snoc : (f : ℕ → ℕ) (u : Word) (e : ℕ) → e < n → over f (u ++ e ∷ []) ≡ over f u + f e
  unfolding occurrences
  over_snoc f u e h = over-append f u (e ∷ []) ∙ ap (λ (k : ℕ). over f u + k) (
      sum_same n _ _ (λ i b. ap (λ (k : ℕ). k * f i) (at-counts n (e ∷ []) i b ∙ add-zero (same e i)))
      ∙ pick n e f h)

  -- the effects of two words, one behind the other, add up
  pub effect-append : (p : Place) (w x : Word) → effect n p (counts n (w ++ x)) ≡ effect n p (counts n w) +ℤ effect n p (counts n x)
  unfolding taken
  effect-append p w x =
      effect_is n p (counts n (w ++ x))
      ∙ ap₂ sub_ℕ (over-append p.produced w x) (over-append p.consumed w x)
      ∙ sym (difference-add (over p.produced w) (over p.consumed w) (over p.produced x) (over p.consumed x))
      ∙ sym (ap₂ ◌+ℤ◌ (effect_is n p (counts n w)) (effect_is n p (counts n x)))

  -- at first the initial tokens
  pub tokens_none : (p : Place) → tokens n p (counts n []) ≡ pos p.initial
  unfolding occurrences
  tokens_none p = tokens-zeros n p (counts n []) (λ i b. at-counts n [] i b)

  -- an event takes out(e) and puts in(e) there
  pub tokens_snoc : (p : Place) (u : Word) (e : ℕ) → e < n → tokens n p (counts n (u ++ e ∷ [])) ≡ moved p (tokens n p (counts n u)) e
  unfolding given taken
  tokens_snoc p u e h =
      tokens-is n p (counts n (u ++ e ∷ []))
      ∙ ap₂ sub_ℕ
      (ap (λ (k : ℕ). p.initial + k) (over_snoc p.produced u e h) ∙ sym (add_assoc p.initial (over p.produced u) (p.produced e)))
      (over_snoc p.consumed u e h)
      ∙ sym (moved-difference p e (p.initial + over p.produced u) (over p.consumed u))
      ∙ ap (λ (z : ℤ). moved p z e) (sym (tokens-is n p (counts n u)))
