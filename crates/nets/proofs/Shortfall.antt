-- The shortfall: how many tokens a place lacks for a step, at least 1 where it refuses it.
use Rattle.std.specs.Prelude.{◌≡◌, not, ◌↔◌, T, ℤ, pos, neg_ℤ, ◌-ℤ◌, length, get_or}
use Rattle.std.proofs.Common.{sym, ◌∙◌, T_not}
use Rattle.std.proofs.Math.Path.{ap}
use mathlib.Core.List.{[], ◌∷◌, Memᴰ}
use Prim.Native.Nat.{ℕ, zero, suc, ◌+◌, ◌-◌, ◌≤◌, ◌<◌}
use native.Mathlib.Omega.{arith}
use Rattle.std.proofs.Math.Dec.{not_T}
use Rattle.std.proofs.Math.IntN.{neg_ℤ-+ℤ, neg_ℤ-neg_ℤ, +ℤ_comm}
use Rattle.laws.specs.Differences.{difference, negative_part, negative-none, negative_opposite, negative-difference}
use Rattle.nets.specs.Nets.{Word, Log, Net, Place, Step, no_place, counts, step_after, tokens, surplus, place_permits, shortfall, shortfall_of, refused_by, permits, allowed}
use Rattle.nets.specs.Surplus.{given, taken, surplus-is, permits→le, le→permits}
use Rattle.nets.specs.Fits.{Below, Fits}
use Rattle.nets.specs.Markings.{missing, shortfall-is}
use Rattle.nets.specs.TokenGame.{places_of}
use Rattle.nets.proofs.TokenGame.{language_permits, run_language, run_reaches}
use Rattle.nets.specs.Shortfall.{with_tokens}

module _ (n : ℕ) (p : Place) (s : Step) where
  -- 0 exactly when the place permits the step
  pub shortfall-none : (shortfall n p s ≡ 0) ↔ T (place_permits n p s)
  unfolding shortfall place_permits
  shortfall-none = negative-none (surplus n p s)

  -- at least 1 exactly when it refuses it
  pub shortfall-some : (1 ≤ shortfall n p s) ↔ T (not (place_permits n p s))
  shortfall-some = (
    (λ some. not_T (place_permits n p s) (λ t. absurd (omega (arith, some, shortfall-none.1 t)))),
    λ refuses. go (shortfall n p s) (λ none. T_not (place_permits n p s) refuses (shortfall-none.0 none)),
  )
    where
      go : (k : ℕ) → (k ≡ 0 → ⊥) → 1 ≤ k
      go zero other = absurd (other (omega arith))
      go (suc k) other = omega arith

  -- and then it is minus the surplus, which is out(e) minus the tokens present
  pub shortfall_opposite : T (not (place_permits n p s)) → pos (shortfall n p s) ≡ neg_ℤ (surplus n p s)
  unfolding shortfall place_permits
  shortfall_opposite refuses = negative_opposite (surplus n p s) refuses

  pub shortfall-lacking : T (not (place_permits n p s)) → pos (shortfall n p s) ≡ pos (p.consumed s.event) -ℤ tokens n p s.row
  unfolding surplus
  shortfall-lacking refuses =
      shortfall_opposite refuses
      ∙ neg_ℤ-+ℤ (tokens n p s.row) (neg_ℤ (pos (p.consumed s.event)))
      ∙ +ℤ_comm (neg_ℤ (tokens n p s.row)) (neg_ℤ (neg_ℤ (pos (p.consumed s.event))))
      ∙ ap (λ (z : ℤ). z -ℤ tokens n p s.row) (neg_ℤ-neg_ℤ (pos (p.consumed s.event)))

  -- in natural numbers: what the step needs, less what was put there
  pub shortfall-parts : shortfall n p s ≡ taken n p s.row + p.consumed s.event - given n p s.row
  unfolding shortfall
  shortfall-parts = ap negative_part (surplus-is n p s) ∙ negative-difference (given n p s.row) (taken n p s.row + p.consumed s.event)

  -- so it is the least number of tokens that, added to m, makes the place permit the step
  pub shortfall-least : (t : ℕ) → T (place_permits n (with_tokens p t) s) ↔ (shortfall n p s ≤ t)
  unfolding given taken
  shortfall-least t = (
    (λ permits. omega (arith, shortfall-parts, permits→le n (with_tokens p t) s permits)),
    λ enough. le→permits n (with_tokens p t) s (omega (arith, shortfall-parts, enough)),
  )

  -- at most out(e), where the tokens are not negative
  pub shortfall-most : taken n p s.row ≤ given n p s.row → shortfall n p s ≤ p.consumed s.event
  shortfall-most h = omega (arith, shortfall-parts)

module _ (n : ℕ) where
  -- a place fits a log exactly when it lacks no token at an allowed step
  pub fits-none : (log : Log) (p : Place) → Fits n log p ↔ ((s : Step) → T (allowed n log s) → shortfall n p s ≡ 0)
  fits-none log p = ((λ fits s a. (shortfall-none n p s).1 (fits s a)), λ none s a. (shortfall-none n p s).0 (none s a))

  -- a net that permits the earlier steps: a place of it lacks at most out(e)
  pub shortfall-earlier : (net : Net) (u : Word) → Below n u → T (permits n net u) → (p : Place) → Memᴰ p net
      → (e : ℕ) → shortfall n p (step_after n u e) ≤ p.consumed e
  shortfall-earlier net u below t p m e =
      let run = (run_language n (places_of net) u below).1 ((language_permits n net u below).1 t) in
      let present : pos (run.0 p) ≡ tokens n p (counts n u) = run_reaches n (places_of net) u below run.0 run.1 p m in
      let lacks : shortfall n p (step_after n u e) ≡ p.consumed e - run.0 p =
      shortfall-is n p u e
      ∙ ap (λ (z : ℤ). missing p z e) (sym present)
      ∙ ap negative_part (difference (run.0 p) (p.consumed e))
      ∙ negative-difference (run.0 p) (p.consumed e) in
      omega (arith, lacks)

  -- ---- by its number

  none-beyond : (s : Step) → shortfall n no_place s ≡ 0
  unfolding given taken
  none-beyond s = let same = shortfall-parts n no_place s in omega (arith, same)

  -- a place that is there refuses a step exactly when it lacks a token; beyond them none does
  pub refused-short : (net : Net) (j : ℕ) (s : Step) → T (refused_by n net j s) ↔ (1 ≤ shortfall_of n net j s)
  unfolding refused_by shortfall_of
  refused-short [] j s = ((λ r. absurd r), λ some. absurd (omega (arith, none-beyond s)))
  refused-short (p ∷ net) zero s = ((shortfall-some n p s).1, (shortfall-some n p s).0)
  refused-short (p ∷ net) (suc j) s = refused-short net j s

  pub refused-there : (net : Net) (j : ℕ) (s : Step) → T (refused_by n net j s) → j < length net
  unfolding refused_by
  refused-there [] j s r = absurd r
  refused-there (p ∷ net) zero s r = omega arith
  refused-there (p ∷ net) (suc j) s r = omega (arith, refused-there net j s r)

  pub refused-place : (net : Net) (j : ℕ) (s : Step) → T (refused_by n net j s) → T (not (place_permits n (get_or net j no_place) s))
  unfolding refused_by
  refused-place [] j s r = absurd r
  refused-place (p ∷ net) zero s r = r
  refused-place (p ∷ net) (suc j) s r = refused-place net j s r
