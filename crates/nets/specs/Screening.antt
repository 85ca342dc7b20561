-- Screening: it answers permitted exactly when the net permits the word, and otherwise stops at the first refused step.
use Rattle.std.specs.Prelude.{◌≡◌, Bool, not, ◌&&◌, ◌↔◌}
use Rattle.std.proofs.Math.Path.{refl}
use Rattle.std.proofs.Common.{◌∙◌, le_of_suc-le-suc, not-suc-le-zero}
use Rattle.std.proofs.Math.Bool.{true, false, cond}
use mathlib.Core.List.{[], ◌∷◌, ◌++◌, append-nil}
use Prim.Native.Nat.{ℕ, zero, suc, ◌<◌}
use Rattle.std.proofs.Math.Dec.{T, T_not, not_T}
use Rattle.std.specs.Float.Ieee.Fits.{and_i, and_l, and_r}
use Rattle.std.proofs.Math.ListN.{length, take}
use Rattle.std.proofs.Math.Seq.{append_snoc}
use Rattle.laws.specs.Lists.{all}
use Rattle.laws.specs.Booleans.{impossible, yes_true, no_false}
use Rattle.laws.specs.Scans.{first_failing}
use Rattle.nets.specs.Nets.{Word, Net, Step, place_permits, refused_by, permitted, step_after, step_at, net_permits, permits_after, permits, first_refusing, shortfall_of, stopped_at, screen_after, screen}
use Rattle.nets.specs.Words.{permits_snoc}

module _ (n : ℕ) (net : Net) where
  screen_after-permits : (w u : Word) → screen_after n net u w ≡ permitted → T (permits_after n net u w)
  unfolding permits_after screen_after stopped_at
  screen_after-permits [] u q = tt
  screen_after-permits (e ∷ w) u q = go (net_permits n net (step_after n u e)) q (screen_after-permits w (u ++ e ∷ []))
    where
      go : (b : Bool) → cond b (screen_after n net (u ++ e ∷ []) w) (stopped_at n net (length u) (step_after n u e)) ≡ permitted → (screen_after n net (u ++ e ∷ []) w ≡ permitted → T (permits_after n net (u ++ e ∷ []) w)) → T (b && permits_after n net (u ++ e ∷ []) w)
      go true r below = below r
      go false r below = impossible cc

  -- a beginning that is permitted is passed over
  pub screen_after-append : (w u x : Word) → T (permits_after n net u w) → screen_after n net u (w ++ x) ≡ screen_after n net (u ++ w) x
  unfolding permits_after screen_after
  screen_after-append [] u x t = rw append-nil
  screen_after-append (e ∷ w) u x t =
      let first = and_l (net_permits n net (step_after n u e)) (permits_after n net (u ++ e ∷ []) w) t in
      let rest = and_r (net_permits n net (step_after n u e)) (permits_after n net (u ++ e ∷ []) w) t in
      rw (yes_true (net_permits n net (step_after n u e)) first) (screen_after-append w (u ++ e ∷ []) x rest ∙ rw append_snoc)

  pub screen-permitted : (w : Word) → (screen n net w ≡ permitted) ↔ T (permits n net w)
  unfolding screen permits screen_after
  screen-permitted w = (screen_after-permits w [], λ t. rw append-nil at (screen_after-append w [] [] t))

  -- where a permitted word's next event is refused, screening stops there
  pub screen-stopped : (w : Word) (e : ℕ) → T (permits n net w) → T (not (permits n net (w ++ e ∷ [])))
      → screen n net (w ++ e ∷ []) ≡ stopped_at n net (length w) (step_after n w e)
  unfolding screen permits screen_after
  screen-stopped w e t r = screen_after-append w [] (e ∷ []) t ∙ rw (no_false (net_permits n net (step_after n w e)) last)
    where
      last : T (not (net_permits n net (step_after n w e)))
      last = not_T (net_permits n net (step_after n w e)) (λ k. T_not (permits n net (w ++ e ∷ [])) r (rw permits_snoc (and_i (permits n net w) (net_permits n net (step_after n w e)) t k)))

  -- a permitted word with one event more: permitted, or stopped at the added event
  pub screen_snoc : (w : Word) (e : ℕ) → T (permits n net w)
      → screen n net (w ++ e ∷ []) ≡ cond (permits n net (w ++ e ∷ [])) permitted (stopped_at n net (length w) (step_after n w e))
  screen_snoc w e t = go (permits n net (w ++ e ∷ [])) refl
    where
      go : (b : Bool) → permits n net (w ++ e ∷ []) ≡ b → screen n net (w ++ e ∷ []) ≡ cond b permitted (stopped_at n net (length w) (step_after n w e))
      go true q = (screen-permitted (w ++ e ∷ [])).1 (rw q tt)
      go false q = screen-stopped w e t (rw q tt)

-- the place that screening names refuses the step, and no lower one does
module _ (n : ℕ) (s : Step) where
  pub first-refuses : (net : Net) → T (not (net_permits n net s)) → T (refused_by n net (first_refusing n net s) s)
  unfolding net_permits all first_refusing first_failing refused_by
  first-refuses [] t = absurd t
  first-refuses (p ∷ net) t = go (place_permits n p s) refl (first-refuses net) t
    where
      go : (b : Bool) → place_permits n p s ≡ b → (T (not (all (λ q. place_permits n q s) net)) → T (refused_by n net (first_refusing n net s) s)) → T (not (b && all (λ q. place_permits n q s) net)) → T (refused_by n (p ∷ net) (cond b (suc (first_refusing n net s)) 0) s)
      go true q below k = below k
      go false q below k = rw q tt

  pub first-lowest : (net : Net) (j : ℕ) → j < first_refusing n net s → T (not (refused_by n net j s))
  unfolding first_refusing first_failing refused_by
  first-lowest [] j h = tt
  first-lowest (p ∷ net) j h = go (place_permits n p s) refl j h (first-lowest net)
    where
      go : (b : Bool) → place_permits n p s ≡ b → (j : ℕ) → j < cond b (suc (first_refusing n net s)) 0 → ((i : ℕ) → i < first_refusing n net s → T (not (refused_by n net i s))) → T (not (refused_by n (p ∷ net) j s))
      go true q zero h below = rw q tt
      go true q (suc i) h below = below i (le_of_suc-le-suc h)
      go false q zero h below = absurd (not-suc-le-zero h)
      go false q (suc i) h below = absurd (not-suc-le-zero h)

-- ---- the first refused step

-- the first refused step of w has position i, and j is the lowest place that refuses it
pub record FirstRefused (n : ℕ) (net : Net) (w : Word) (i j : ℕ) : Type 0 where
  pub within : i < length w
  pub before : T (permits n net (take i w))
  pub refuses : T (refused_by n net j (step_at n w i))
  pub lowest : (k : ℕ) → k < j → T (not (refused_by n net k (step_at n w i)))

-- the shortfall of place j at position i of w
abbrev pub shortfall_at : ℕ → Net → Word → ℕ → ℕ → ℕ
shortfall_at n net w i j = shortfall_of n net j (step_at n w i)
