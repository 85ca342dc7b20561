-- What `all` over the numbers below n says of them.
use Rattle.std.proofs.Common.{◌≡◌, refl, subst, arith, Bool, true, false, List, ℕ, ◌<◌, length, get_or, Option}
use denote.Param.Members.{Mut}
use Rattle.std.specs.declared.ops.Range.{Range}
use Rattle.std.specs.Iterator.{YieldsThen}
use Rattle.std.proofs.iter.Yields.{nat_range_steps}
use Rattle.std.specs.List.{FoldsTo, range_with_len, AllWithin, HoldsAt}
use Rattle.std.specs.Fn.{Called}
use Rattle.std.specs.Option.{MatchOption}
use Rattle.std.specs.Bool.{MatchBool}
use Rattle.std.proofs.lemmas.Iterator.{YieldsList-from_range, cases_from_all}
use Rattle.std.proofs.lemmas.List.FromFn.{length-range_with_len, get_or-range_with_len}

pub all_from_Range : {F : Type 0} {g : Mut F (ℕ × Unit {0}) Bool} (n : ℕ) (u : Range ℕ) (f : F) (r : Bool) (Yes No : ℕ → Type 0)
    → (xs : List ℕ) × (o : Option ℕ) × (j : F) × YieldsThen nat_range_steps (record { start = 0; end = n }) xs o u
    × FoldsTo (λ p x q. Called g p (x, tt) true q) f xs j × MatchOption o (r ≡ true) (λ x. (r ≡ false) × ((h : F) × Called g j (x, tt) false h))
    → ((x : ℕ) (q : F) → Called g f (x, tt) true q → (q ≡ f) × Yes x) → ((x : ℕ) (q : F) → Called g f (x, tt) false q → No x)
    → MatchBool r ((k : ℕ) → k < n → Yes k) ((k : ℕ) × (k < n) × No k)
all_from_Range n u f r Yes No d passes fails = by r (cases_from_all u f r Yes No d (YieldsList-from_range 0 n n refl (omega arith)) passes fails)
  where
    numbers : List ℕ
    numbers = range_with_len 0 n

    long : length numbers ≡ n
    long = length-range_with_len 0 n

    at : (k : ℕ) → k < n → get_or numbers k 0 ≡ k
    at k h = omega (arith, get_or-range_with_len 0 n k 0 h)

    by : (b : Bool) → MatchBool b (AllWithin Yes numbers 0 (length numbers)) ((k : ℕ) × (k < length numbers) × HoldsAt No numbers k)
        → MatchBool b ((k : ℕ) → k < n → Yes k) ((k : ℕ) × (k < n) × No k)
    by true h = λ k b. subst Yes (at k b) (h k 0 (omega arith) (omega (arith, long)))
    by false h = let few : h.0 < n = omega (arith, long, h.1) in (h.0, few, subst No (at h.0 few) (h.2 0))
