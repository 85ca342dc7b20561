-- A net played event by event gives the answers of screening, and its list has the marking (001, equation 1).
use Rattle.std.specs.Prelude.{◌≡◌, refl, true, false, List, [], ◌∷◌, ◌++◌, ℕ, suc, ◌+◌, ◌-◌, ◌≤◌, ◌<◌, length, get_or, pos, ℤ, T}
use Rattle.std.proofs.Common.{sym, ap, ap₂, ◌∙◌, arith, lt-ltb, le-ltb, le_of_eq, ⊎_elim, length-append}
use Rattle.std.proofs.Math.Seq.{append_snoc}
use Rattle.std.specs.Float.Ieee.Fits.{and_l, and_r}
use mathlib.Core.List.{Memᴰ, append-nil}
use Rattle.laws.specs.Booleans.{lt_or_le, yes_true}
use Rattle.laws.specs.Differences.{covers-exactly, missing-is, positive_part}
use Rattle.laws.specs.Lists.{get_d_map, get_d_tabulate}
use Rattle.laws.specs.Scans.{first_false-same, failing-numbered, failing-all, failing-some, all-failing}
use Rattle.nets.specs.Nets.{Word, Net, Place, no_place, stopped, step_after, place_permits, net_permits}
use Rattle.nets.specs.Nets.{counts, tokens, first_refusing, shortfall_of, stopped_at, permits_after, permits, screen_after, screen}
use Rattle.nets.specs.Fits.{Below}
use Rattle.nets.specs.Markings.{covered, missing, moved as moved_on, permits-is, shortfall-is, moved-amount, tokens_none, tokens_snoc}
use Rattle.nets.proofs.Plays.{none-enough}
use Rattle.nets.specs.Carrying.{initials, taken_from, put_into, has_enough, first_short, tokens_behind, play, go_on, carry, Carried, marking_after}

-- at first the list has the initial marking
pub carried-start : (n : ℕ) (net : Net) → Carried n net [] (initials net)
carried-start n net j h =
    ap pos (get_d_map (λ (p : Place). p.initial) net j no_place 0 h) ∙ sym (tokens_none n (get_or net j no_place))

-- the list has the marking after u, and then an event comes
module _ (n : ℕ) (net : Net) (u : Word) (ts : List ℕ) (is : Carried n net u ts) (e : ℕ) where
  -- a place has enough exactly when it permits the step
  enough-permits : (j : ℕ) → j < length net → has_enough net ts e j ≡ place_permits n (get_or net j no_place) (step_after n u e)
  enough-permits j h =
      let p = get_or net j no_place in
      covers-exactly (get_or ts j 0) (p.consumed e) ∙ ap (λ (t : ℤ). covered p t e) (is j h) ∙ sym (permits-is n p u e)

  short-refuses : first_short net ts e ≡ first_refusing n net (step_after n u e)
  unfolding first_short first_refusing
  short-refuses =
      first_false-same (has_enough net ts e) _ (length net) enough-permits
      ∙ sym (failing-numbered (λ p. place_permits n p (step_after n u e)) no_place net)

  -- what it lacks is its shortfall
  lacks : (j : ℕ) → j < length net → taken_from net ts e j - get_or ts j 0 ≡ shortfall_of n net j (step_after n u e)
  unfolding shortfall_of
  lacks j h =
      let p = get_or net j no_place in
      missing-is (get_or ts j 0) (p.consumed e) ∙ ap (λ (t : ℤ). missing p t e) (is j h) ∙ sym (shortfall-is n p u e)

  abbrev lowest : ℕ
  lowest = first_short net ts e

  -- so a step that the net permits finds enough in every place
  pub permits-enough : net_permits n net (step_after n u e) ≡ true → length net ≤ lowest
  unfolding net_permits first_refusing
  permits-enough permits = rw short-refuses (le_of_eq (sym (all-failing _ net permits)))

  -- where a place has too few, it is stopped as screening stops there
  stopped-so : lowest < length net
      → stopped (length u) lowest (taken_from net ts e lowest - get_or ts lowest 0) ≡ stopped_at n net (length u) (step_after n u e)
  unfolding stopped_at
  stopped-so h =
      ap₂ (λ (j k : ℕ). stopped (length u) j k) short-refuses
      (lacks lowest h ∙ ap (λ (j : ℕ). shortfall_of n net j (step_after n u e)) short-refuses)

  short-net : lowest < length net → net_permits n net (step_after n u e) ≡ false
  unfolding net_permits first_refusing
  short-net h = failing-some _ net (rw (← short-refuses) h)

  -- where every place has enough, the list has the marking behind the event
  module _ (below : e < n) (all_enough : length net ≤ lowest) where
    pub enough-net : net_permits n net (step_after n u e) ≡ true
    unfolding net_permits first_refusing
    enough-net = failing-all _ net (rw (← short-refuses) all_enough)

    pub carried-moved : Carried n net (u ++ e ∷ []) (tokens_behind net ts e)
    unfolding tokens_behind first_short
    carried-moved j h =
        let p = get_or net j no_place in
        let t = get_or ts j 0 in
        let covers = none-enough net ts e all_enough j h in
        ap pos (get_d_tabulate (length net) (λ i. get_or ts i 0 - taken_from net ts e i + put_into net ts e i) j 0 h)
        ∙ sym (moved-amount p t e covers) ∙ ap (λ (z : ℤ). moved_on p z e) (is j h) ∙ sym (tokens_snoc n p u e below)

-- what is answered to a word is what screening answers, from the marking that the list has
module _ (n : ℕ) (net : Net) where
  pub carry-screens : (w u : Word) (ts : List ℕ) → Carried n net u ts → Below n w → carry net (length u) ts w ≡ screen_after n net u w
  unfolding carry screen_after play go_on
  carry-screens [] u ts is below = refl
  carry-screens (e ∷ w) u ts is below = ⊎_elim
      (λ short. rw (lt-ltb _ _ short, short-net n net u ts is e short) (stopped-so n net u ts is e short))
      (λ enough.
      let next = carried-moved n net u ts is e (below e (Memᴰ.head refl)) enough in
      let rest = carry-screens w (u ++ e ∷ []) (tokens_behind net ts e) next (λ x m. below x (Memᴰ.tail m)) in
      let one_more : length (u ++ e ∷ []) ≡ suc (length u) = omega (arith, length-append u (e ∷ [])) in
      rw (le-ltb _ _ enough, enough-net n net u ts is e (below e (Memᴰ.head refl)) enough) (rw one_more at rest))
      (lt_or_le (first_short net ts e) (length net))

  -- of a whole word: the answer of screening
  pub carry-screen : (w : Word) → Below n w → carry net 0 (initials net) w ≡ screen n net w
  unfolding screen
  carry-screen w below = carry-screens w [] (initials net) (carried-start n net) below

-- ---- the marking after a word, from its counts

module _ (n : ℕ) (net : Net) where
  -- behind a permitted word some list has the marking: the one that is carried
  carried-after : (w u : Word) (ts : List ℕ) → Carried n net u ts → Below n w → T (permits_after n net u w) → (us : List ℕ) × Carried n net (u ++ w) us
  unfolding permits_after
  carried-after [] u ts is below t = (ts, rw (append-nil u) is)
  carried-after (e ∷ w) u ts is below t =
      let first = and_l (net_permits n net (step_after n u e)) (permits_after n net (u ++ e ∷ []) w) t in
      let enough = permits-enough n net u ts is e (yes_true _ first) in
      let next = carried-moved n net u ts is e (below e (Memᴰ.head refl)) enough in
      let (us, after) =
      carried-after w (u ++ e ∷ []) (tokens_behind net ts e) next (λ x m. below x (Memᴰ.tail m))
      (and_r (net_permits n net (step_after n u e)) (permits_after n net (u ++ e ∷ []) w) t) in
      (us, rw (← append_snoc u e w) after)

  -- so have the positive parts of the tokens
  pub carried-counted : (w : Word) → Below n w → T (permits n net w) → Carried n net w (marking_after n net w)
  unfolding permits marking_after positive_part
  carried-counted w below t j h =
      let (us, after) = carried-after w [] (initials net) (carried-start n net) below t in
      let p = get_or net j no_place in
      let z : pos (get_or us j 0) ≡ tokens n p (counts n w) = after j h in
      ap pos (get_d_map (λ (q : Place). positive_part (tokens n q (counts n w))) net j no_place 0 h)
      ∙ ap (λ (y : ℤ). pos (positive_part y)) (sym z) ∙ z
