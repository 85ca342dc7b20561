-- Pieces joined: f 0, f 1, .. one after the other.
use Rattle.std.specs.Prelude.{◌≡◌, ◌⊎◌, take, drop}
use Rattle.std.proofs.Math.Path.{refl}
use Rattle.std.proofs.Common.{ap, inl, inr, not-suc-le-zero, le_of_suc-le-suc, eq-or-lt_of_le, take_at, drop_at}
use Rattle.std.proofs.Math.Logic.{⊎_elim}
use mathlib.Core.List.{List, [], ◌++◌, append_assoc, append-nil}
use Prim.Native.Nat.{ℕ, zero, suc, ◌+◌, ◌*◌, ◌≤◌, ◌<◌}
use Rattle.std.proofs.Math.Nat.{le_of_eq, mul-zero, mul-suc}
use Rattle.std.proofs.Math.Numerals.{add-one}
use native.Mathlib.Omega.{arith}
use Rattle.std.proofs.Math.Arith.{le-zero}
use Rattle.std.proofs.Math.ListN.{length, length-append}
use Rattle.std.proofs.Math.Seq.{take-add}
use Rattle.laws.specs.Parts.{front, spliced, front-next}

module _ {A : Type 0} where
  -- f 0, f 1, .. f (n − 1), joined
  unfoldable pub joined : (ℕ → List A) → ℕ → List A
  joined f zero = []
  joined f (suc n) = joined f n ++ f n

  pub joined-next : (f : ℕ → List A) (n : ℕ) → joined f (n + 1) ≡ joined f n ++ f n
  unfolding joined
  joined-next f n = rw add-one

  -- pieces of one size
  pub length-joined : (f : ℕ → List A) (size n : ℕ) → ((k : ℕ) → k < n → length (f k) ≡ size) → length (joined f n) ≡ size * n
  unfolding joined
  length-joined f size zero each = omega arith
  length-joined f size (suc n) each =
      omega (arith, length-append (joined f n) (f n), length-joined f size n (λ k l. each k (omega arith)), each n (omega arith), mul-suc size n)

  pub length-joined_le : (f : ℕ → List A) (k n : ℕ) → k ≤ n → length (joined f k) ≤ length (joined f n)
  unfolding joined
  length-joined_le f k zero h = le_of_eq (ap (λ (i : ℕ). length (joined f i)) (le-zero h))
  length-joined_le f k (suc n) h =
      ⊎_elim (λ e. le_of_eq (ap (λ (i : ℕ). length (joined f i)) e)) (λ l. more (length-joined_le f k n (le_of_suc-le-suc l))) (eq-or-lt_of_le h)
    where
      more : length (joined f k) ≤ length (joined f n) → length (joined f k) ≤ length (joined f n ++ f n)
      more l = omega (arith, length-append (joined f n) (f n))

  -- the next of the pieces, written after those before it
  pub front-joined : (f : ℕ → List A) (k at : ℕ) (l : List A) → length (joined f k) ≡ at
      → spliced at (f k) (front (joined f k) l) ≡ front (joined f (k + 1)) l
  front-joined f k at l e = rw (← e, joined-next) (front-next (joined f k) (f k) l)

  -- pieces that agree
  pub joined_same : (f g : ℕ → List A) (n : ℕ) → ((k : ℕ) → k < n → f k ≡ g k) → joined f n ≡ joined g n
  unfolding joined
  joined_same f g zero e = refl
  joined_same f g (suc n) e = rw (e n (omega arith), joined_same f g n (λ k l. e k (omega arith)))

  -- consecutive parts of a list
  pub joined-parts : (l : List A) (size n : ℕ) → joined (λ k. take size (drop (size * k) l)) n ≡ take (size * n) l
  unfolding joined
  joined-parts l size zero = rw mul-zero
  joined-parts l size (suc n) = rw (mul-suc, take-add, joined-parts l size n)

  -- piece k of those joined, and what is after it
  joined_at : (f : ℕ → List A) (n k : ℕ) → k < n → (rest : List A) × (joined f n ≡ joined f k ++ (f k ++ rest))
  unfolding joined
  joined_at f zero k h = absurd (not-suc-le-zero h)
  joined_at f (suc n) k h = go (joined_at f n k) (eq-or-lt_of_le (le_of_suc-le-suc h))
    where
      go : (k < n → (rest : List A) × (joined f n ≡ joined f k ++ (f k ++ rest))) → (k ≡ n) ⊎ (k < n)
          → (rest : List A) × (joined f n ++ f n ≡ joined f k ++ (f k ++ rest))
      go before (inl e) = ([], rw (e, append-nil))
      go before (inr l) = ((before l).0 ++ f n, rw ((before l).1, append_assoc, append_assoc))

  -- where the pieces before k have `at` elements in all, piece k starts at `at`
  pub part-joined : (f : ℕ → List A) (n k at : ℕ) → k < n → length (joined f k) ≡ at → take (length (f k)) (drop at (joined f n)) ≡ f k
  part-joined f n k at h e =
      let r = joined_at f n k h in
      rw (r.1, drop_at (joined f k) (f k ++ r.0) at e, take_at (f k) r.0 (length (f k)) refl)
