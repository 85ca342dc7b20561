-- A place with its numbers multiplied by a whole number of 1 or more permits and refuses the same steps, and lacks as many times the tokens.
use Rattle.std.specs.Prelude.{◌≡◌, Bool, ℕ, ◌+◌, ◌-◌, ◌*◌, ◌≤◌, length}
use Rattle.std.proofs.Math.Path.{refl, sym, ap, ap₂}
use Rattle.std.proofs.Common.{◌∙◌, mul-le-mul_left, arith}
use Rattle.std.proofs.Math.Bool.{true, false, cond, ◌&&◌}
use mathlib.Core.List.{[], ◌∷◌, ◌++◌, map}
use Rattle.std.proofs.Math.Nat.{mul-add, mul-sub, mul_left_comm, le_of_mul-le-mul_left}
use Rattle.laws.specs.Booleans.{same_test}
use Rattle.laws.specs.Lists.{all, all_append, get_d_map}
use Rattle.laws.specs.Scans.{first_failing, failing-map, some-failing}
use Rattle.laws.specs.Sums.{sum, sum-mul, sum_same}
use Rattle.nets.specs.Nets.{Word, Net, Place, Step, Counts, at, no_place, scaled, step_after, place_permits, shortfall, net_permits, permits, stopped, first_refusing, shortfall_of, stopped_at, screen_after, screen}
use Rattle.nets.specs.Surplus.{given, taken, permits→le, le→permits}
use Rattle.nets.proofs.Shortfall.{shortfall-parts}
use Rattle.nets.proofs.Joining.{permits-same}
use Rattle.nets.specs.Scaling.{lacking}

module _ (n k : ℕ) (p : Place) (v : Counts) where
  pub given-scaled : given n (scaled k p) v ≡ k * given n p v
  unfolding given
  given-scaled =
      let sums = sum_same n (λ i. at v i * (k * p.produced i)) (λ i. k * (at v i * p.produced i)) (λ i h. mul_left_comm (at v i) k (p.produced i)) in
      omega (arith, sums, sum-mul n k (λ i. at v i * p.produced i), mul-add k p.initial (sum n (λ i. at v i * p.produced i)))

  pub taken-scaled : taken n (scaled k p) v ≡ k * taken n p v
  unfolding taken
  taken-scaled =
      sum_same n (λ i. at v i * (k * p.consumed i)) (λ i. k * (at v i * p.consumed i)) (λ i h. mul_left_comm (at v i) k (p.consumed i))
      ∙ sum-mul n k (λ i. at v i * p.consumed i)

module _ (n k : ℕ) (p : Place) (s : Step) where
  -- what a step needs
  need_scaled : taken n (scaled k p) s.row + k * p.consumed s.event ≡ k * (taken n p s.row + p.consumed s.event)
  need_scaled = ap (λ (t : ℕ). t + k * p.consumed s.event) (taken-scaled n k p s.row) ∙ sym (mul-add k (taken n p s.row) (p.consumed s.event))

  pub place-scaled : 1 ≤ k → place_permits n (scaled k p) s ≡ place_permits n p s
  place-scaled some = same_test (place_permits n (scaled k p) s) (place_permits n p s)
      (λ t. le→permits n p s (le_of_mul-le-mul_left (rw (need_scaled, given-scaled n k p s.row) at (permits→le n (scaled k p) s t)) some))
      (λ t. le→permits n (scaled k p) s (rw (need_scaled, given-scaled n k p s.row) (mul-le-mul_left k (permits→le n p s t))))

  pub shortfall-scaled : shortfall n (scaled k p) s ≡ k * shortfall n p s
  shortfall-scaled =
      shortfall-parts n (scaled k p) s
      ∙ ap₂ ◌-◌ need_scaled (given-scaled n k p s.row)
      ∙ sym (mul-sub k (taken n p s.row + p.consumed s.event) (given n p s.row))
      ∙ ap (λ (t : ℕ). k * t) (sym (shortfall-parts n p s))

module _ (n k : ℕ) (some : 1 ≤ k) where
  -- one place of a net multiplied
  pub permits-scaled-place : (before : Net) (p : Place) (behind : Net) (w : Word) → permits n (before ++ scaled k p ∷ behind) w ≡ permits n (before ++ p ∷ behind) w
  unfolding net_permits all
  permits-scaled-place before p behind w = permits-same n (before ++ scaled k p ∷ behind) (before ++ p ∷ behind) step w
    where
      step : (s : Step) → net_permits n (before ++ scaled k p ∷ behind) s ≡ net_permits n (before ++ p ∷ behind) s
      step s =
          all_append (λ q. place_permits n q s) before (scaled k p ∷ behind)
          ∙ ap (λ (b : Bool). all (λ q. place_permits n q s) before && (b && all (λ q. place_permits n q s) behind)) (place-scaled n k p s some)
          ∙ sym (all_append (λ q. place_permits n q s) before (p ∷ behind))

  -- all of them
  net-scaled : (net : Net) (s : Step) → net_permits n (map (scaled k) net) s ≡ net_permits n net s
  unfolding net_permits all
  net-scaled [] s = refl
  net-scaled (p ∷ net) s = ap₂ ◌&&◌ (place-scaled n k p s some) (net-scaled net s)

  pub permits-scaled : (net : Net) (w : Word) → permits n (map (scaled k) net) w ≡ permits n net w
  permits-scaled net w = permits-same n (map (scaled k) net) net (net-scaled net) w

module _ (n k : ℕ) (some : 1 ≤ k) (net : Net) where
  stop-scaled : (i : ℕ) (s : Step) → net_permits n net s ≡ false → stopped_at n (map (scaled k) net) i s ≡ lacking k (stopped_at n net i s)
  unfolding stopped_at net_permits first_refusing shortfall_of lacking
  stop-scaled i s refuses =
      let lowest = first_failing (λ p. place_permits n p s) net in
      let there = some-failing (λ p. place_permits n p s) net refuses in
      let same = failing-map (λ p. place_permits n p s) (λ p. place_permits n p s) (scaled k) (λ p. sym (place-scaled n k p s some)) net in
      rw (sym same)
      (ap (stopped i lowest)
      (ap (λ (p : Place). shortfall n p s) (get_d_map (scaled k) net lowest no_place no_place there) ∙ shortfall-scaled n k _ s))

  screen_after-scaled : (w u : Word) → screen_after n (map (scaled k) net) u w ≡ lacking k (screen_after n net u w)
  unfolding screen_after lacking
  screen_after-scaled [] u = refl
  screen_after-scaled (e ∷ w) u =
      rw (net-scaled n k some net (step_after n u e)) (go (net_permits n net (step_after n u e)) refl (screen_after-scaled w (u ++ e ∷ [])))
    where
      go : (b : Bool) → net_permits n net (step_after n u e) ≡ b → screen_after n (map (scaled k) net) (u ++ e ∷ []) w ≡ lacking k (screen_after n net (u ++ e ∷ []) w)
          → cond b (screen_after n (map (scaled k) net) (u ++ e ∷ []) w) (stopped_at n (map (scaled k) net) (length u) (step_after n u e))
          ≡ lacking k (cond b (screen_after n net (u ++ e ∷ []) w) (stopped_at n net (length u) (step_after n u e)))
      go true is next = next
      go false is next = stop-scaled (length u) (step_after n u e) is

  -- with all places multiplied a word stops at the same step and place, for k times the tokens
  pub screen-scaled : (w : Word) → screen n (map (scaled k) net) w ≡ lacking k (screen n net w)
  unfolding screen
  screen-scaled w = screen_after-scaled w []
