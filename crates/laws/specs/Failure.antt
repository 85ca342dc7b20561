-- The first element of a list at which a test fails, where there is one.
use Rattle.std.specs.Prelude.{◌≡◌, Bool, true, false, cond, List, ℕ, ◌≤◌, ◌<◌, Option, Some, None, MatchOption, ltb, length, get_or}
use Rattle.std.proofs.Common.{sym, ◌∙◌, ⊎_elim, zero-le, arith, ltb-true, lt-ltb, le-ltb}
use Rattle.std.proofs.lemmas.Option.{none-some, cond_some}
use Rattle.laws.specs.Booleans.{lt_or_le}
use Rattle.laws.specs.Lists.{all}
use Rattle.laws.specs.Scans.{first_failing, failing-all, failing-some, failing-never, failing-exactly}

unfoldable pub failure : {A : Type 0} → (A → Bool) → List A → Option ℕ
failure test l = cond (ltb (first_failing test l) (length l)) (Some (first_failing test l)) None

module _ {A : Type 0} (test : A → Bool) where
  -- a search that gives it
  pub failure_found : (d : A) (l : List A) (n : ℕ) → length l ≡ n → (r : Option ℕ)
      → MatchOption r ((k : ℕ) → 0 ≤ k → k < n → test (get_or l k d) ≡ true)
      (λ i. (0 ≤ i) × (i < n) × (test (get_or l i d) ≡ false) × ((k : ℕ) → 0 ≤ k → k < i → test (get_or l k d) ≡ true))
      → r ≡ failure test l
  unfolding failure
  failure_found d l n size None all =
      let none : first_failing test l ≡ length l = failing-never test d l (λ k h. all k zero-le (omega (arith, size))) in
      rw (le-ltb (first_failing test l) (length l) (omega arith))
  failure_found d l n size (Some i) (_, below, here, before) =
      let first = ((failing-exactly test d l i).1 (omega (arith, size), here, λ k h. before k zero-le h)).0 in
      rw (lt-ltb (first_failing test l) (length l) (omega (arith, size)), ← first)

  pub failure-some : (l : List A) {j : ℕ} → failure test l ≡ Some j → (all test l ≡ false) × (first_failing test l ≡ j)
  unfolding failure
  failure-some l {j} e =
      let found = cond_some (ltb (first_failing test l) (length l)) (first_failing test l) j e in
      (failing-some test l (ltb-true (first_failing test l) (length l) found.0), found.1)

  pub failure-none : (l : List A) → failure test l ≡ None → all test l ≡ true
  unfolding failure
  failure-none l e = ⊎_elim
      (λ less. absurd (none-some (first_failing test l) (sym e ∙ rw (lt-ltb (first_failing test l) (length l) less))))
      (λ all_pass. failing-all test l all_pass)
      (lt_or_le (first_failing test l) (length l))

  pub no-failure : (l : List A) → first_failing test l ≡ length l → None ≡ failure test l
  unfolding failure
  no-failure l e = rw (le-ltb (first_failing test l) (length l) (omega (arith, e)))
