-- The first event of a word that may not stand there, as code hands it out.
use Rattle.std.specs.Prelude.{◌≡◌, refl, Bool, true, false, cond, Option, Some, None, ℕ, ◌≤◌, ◌<◌, ltb, length}
use Rattle.std.proofs.Common.{sym, le_of_eq}
use Rattle.laws.specs.Booleans.{impossible}
use Rattle.laws.specs.Lists.{all}
use Rattle.laws.specs.Scans.{all-failing, some-failing}
use Rattle.nets.specs.Nets.{Word}
use Rattle.nets.specs.Events.{first_bad}

-- the position of the first event that is not below n, where there is one
unfoldable pub bad_event : ℕ → Word → Option ℕ
bad_event n w = cond (all (λ e. ltb e n) w) None (Some (first_bad n w))

module _ (n : ℕ) (w : Word) where
  test : ℕ → Bool
  test e = ltb e n

  pub bad_event-none : None ≡ bad_event n w → (all (λ e. ltb e n) w ≡ true) × (length w ≤ first_bad n w)
  unfolding bad_event first_bad test
  bad_event-none e = go (all test w) refl e
    where
      go : (b : Bool) → all test w ≡ b → None ≡ cond b None (Some (first_bad n w)) → (all test w ≡ true) × (length w ≤ first_bad n w)
      go true q e = (q, le_of_eq (sym (all-failing test w q)))
      go false q e = impossible cc

  pub bad_event-some : {i : ℕ} → Some i ≡ bad_event n w → (i ≡ first_bad n w) × (i < length w) × (all (λ e. ltb e n) w ≡ false)
  unfolding bad_event first_bad test
  bad_event-some {i} e = go (all test w) refl e
    where
      go : (b : Bool) → all test w ≡ b → Some i ≡ cond b None (Some (first_bad n w))
          → (i ≡ first_bad n w) × (i < length w) × (all test w ≡ false)
      go true q e = impossible cc
      go false q e = let is : i ≡ first_bad n w = cc in (is, rw is (some-failing test w q), q)
