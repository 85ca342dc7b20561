-- Booleans: tests passed or failed, taken apart and put together.
use Rattle.std.specs.Prelude.{◌≡◌, refl, Bool, true, false, not, ◌&&◌, ◌||◌, ◌↔◌, ◌⊎◌, ℕ, ◌≤◌, ◌<◌, T, leb, ltb}
use Rattle.std.proofs.Common.{sym, inl, inr, ⊎_elim, arith, ltb-true, ltb-false, leb-true, leb-false, le-leb}
use Rattle.std.proofs.lemmas.Bool.{false≢true, lt-leb}
use Rattle.std.proofs.Math.Bool.{and-false}

-- what follows from two things that differ: `impossible cc`
pub impossible : {A : Type 0} → ◌≡◌ {A = ℕ} 0 1 → A
impossible e = absurd (omega arith)

pub and_left : (a b : Bool) → (a && b) ≡ true → a ≡ true
and_left true b e = refl
and_left false b e = e

pub and_right : (a b : Bool) → (a && b) ≡ true → b ≡ true
and_right true b e = e
and_right false b e = absurd (false≢true e)

pub and-exchange : (a b c d : Bool) → (a && b) && (c && d) ≡ (a && c) && (b && d)
and-exchange true true c d = refl
and-exchange true false c d = sym (and-false c)
and-exchange false b c d = refl

pub true_or_false : (b : Bool) → (b ≡ true) ⊎ (b ≡ false)
true_or_false true = inl refl
true_or_false false = inr refl

pub lt_or_le : (a b : ℕ) → (a < b) ⊎ (b ≤ a)
lt_or_le a b = ⊎_elim (λ e. inl (ltb-true a b e)) (λ e. inr (ltb-false a b e)) (true_or_false (ltb a b))

-- a comparison, as code tests it
pub at_least : (a b : ℕ) → (leb a b ≡ true) ↔ (a ≤ b)
at_least a b = (leb-true a b, le-leb a b)

pub less : (a b : ℕ) → (leb a b ≡ false) ↔ (b < a)
less a b = (leb-false a b, lt-leb a b)

-- a test passed or failed
pub decide : (b : Bool) → T b ⊎ T (not b)
decide true = inl tt
decide false = inr tt

pub yes_true : (b : Bool) → T b → b ≡ true
yes_true true t = refl
yes_true false t = absurd t

pub no_false : (b : Bool) → T (not b) → b ≡ false
no_false true t = absurd t
no_false false t = refl

-- a test that passes exactly when A holds fails exactly when it does not
pub fails-exactly : {A : Type 0} (b : Bool) → (b ≡ true) ↔ A → (b ≡ false) ↔ (A → ⊥)
fails-exactly true e = ((λ p. absurd (false≢true (sym p))), (λ no. absurd (no (e.0 refl))))
fails-exactly false e = ((λ p a. false≢true (e.1 a)), (λ no. refl))

-- two tests that pass together are equal
pub same_test : (a b : Bool) → (T a → T b) → (T b → T a) → a ≡ b
same_test true true f g = refl
same_test true false f g = absurd (f tt)
same_test false true f g = absurd (g tt)
same_test false false f g = refl

pub or_yes : (a b : Bool) → T (a || b) → T a ⊎ T b
or_yes true b t = inl tt
or_yes false b t = inr t

pub yes_or_left : (a b : Bool) → T a → T (a || b)
yes_or_left true b t = tt
yes_or_left false b t = absurd t

pub yes_or_right : (a b : Bool) → T b → T (a || b)
yes_or_right true b t = tt
yes_or_right false b t = t

-- if a, then b
pub implied : (a b : Bool) → T (not a || b) → T a → T b
implied true b t h = t
implied false b t h = absurd h

pub implies : (a b : Bool) → (T a → T b) → T (not a || b)
implies true b f = f tt
implies false b f = tt
