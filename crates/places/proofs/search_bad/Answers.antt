-- `places::search_bad` meets its contract: the library finds the position that the definition names.
use Rattle.std.proofs.Common.{◌≡◌, refl, ◌∙◌, Bool, true, false, cond, Some, None, length, ⊎_elim, ℕ, suc, ◌+◌, leb, ltb, lt-ltb, le-ltb, le-leb, arith, rules, tests}
use Rattle.std.proofs.lemmas.Bool.{lt-leb}
use Rattle.std.proofs.lemmas.Iterator.{YieldsList-from_slice}
use Rattle.std.proofs.lemmas.Iterator.Search.{position_from_yields_List}
use Rattle.std.proofs.lemmas.List.Recursion.{is_position_or_len}
use Rattle.std.specs.List.{position_or_len}
use Rattle.laws.specs.Booleans.{lt_or_le}
use Rattle.laws.specs.Lists.{all}
use Rattle.laws.specs.Scans.{first_failing, all-failing, some-failing}
use Rattle.nets.specs.Nets.{Word}
use Rattle.nets.specs.Events.{first_bad}
use Rattle.places.specs.Words.{bad_event}
use Rattle.places.proofs.search_bad.Goals as goal

pub returns-then-all_below : goal.returns-then-all_below
unfolding bad_event
returns-then-all_below c = rw (← c.all_below.ensures, c.if-all_below.true)

step : (n x k : ℕ) → cond (ltb x n) (suc k) 0 ≡ cond (leb n x) 0 (1 + k)
step n x k = ⊎_elim
    (λ h. rw (lt-ltb x n h, lt-leb n x h) (omega arith))
    (λ h. rw (le-ltb x n h, le-leb n x h) refl)
    (lt_or_le x n)

found : (n : ℕ) (w : Word) → first_bad n w ≡ position_or_len (λ e. leb n e) w
unfolding first_bad first_failing
found n w = is_position_or_len (first_bad n) (λ e. leb n e) refl (λ x xs. step n x (first_bad n xs)) w

-- the position that the library finds is the definition's
is_bad : (n : ℕ) (w : Word) → cond (ltb (first_bad n w) (length w)) (Some (first_bad n w)) None ≡ bad_event n w
unfolding bad_event first_bad
is_bad n w = go (all (λ e. ltb e n) w) refl
  where
    go : (b : Bool) → all (λ e. ltb e n) w ≡ b → cond (ltb (first_failing (λ e. ltb e n) w) (length w)) (Some (first_failing (λ e. ltb e n) w)) None
        ≡ cond b None (Some (first_failing (λ e. ltb e n) w))
    go true e = rw (all-failing _ w e, le-ltb (length w) (length w) (omega arith)) refl
    go false e = rw (lt-ltb _ _ (some-failing _ w e)) refl

pub returns : goal.returns
returns c =
    let n = c.args.n in
    let w = c.args.word.now in
    let road = YieldsList-from_slice w cc in
    position_from_yields_List (λ e. leb n e) _ _ c.position.result c.position.ensures.ran road (λ x b q k. search (rules, tests))
    ∙ rw (← found n w) (is_bad n w)
