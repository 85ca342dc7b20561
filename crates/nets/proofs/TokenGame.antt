-- The token game permits exactly the words that `permits` does, and a word of the net's language leads from M₀ to a marking.
use Rattle.std.specs.Prelude.{◌≡◌, refl, ◌↔◌, ℕ, ◌+◌, ◌-◌, ◌≤◌, ◌<◌, T, ℤ, ◌≤ℤ◌}
use Rattle.std.proofs.Math.Path.{sym, ap}
use Rattle.std.proofs.Common.{◌∙◌, subst, leb→le, le→leb}
use Rattle.std.proofs.Math.Bool.{Bool}
use mathlib.Core.Logic.Iff
use mathlib.Core.List.{[], ◌∷◌, ◌++◌, append-nil, Memᴰ}
use Rattle.std.proofs.Math.IntN.{pos}
use Rattle.std.specs.Int.Signed.{le_z_yes}
use Rattle.std.proofs.Math.Seq.{append_snoc}
use Rattle.std.specs.Float.Ieee.Fits.{and_i, and_l, and_r}
use Rattle.laws.specs.Differences.{le_difference}
use Rattle.laws.specs.Every.{EachAfter, Each, each_map}
use Rattle.laws.specs.Lists.{all, all-member, all_intro}
use Rattle.nets.specs.Nets.{Word, Place, Net, counts, step_after, tokens, surplus, place_permits, net_permits, permits_after, permits}
use Rattle.nets.specs.Fits.{Below, below-shorter, below_snoc}
use Rattle.nets.specs.Markings.{moved, moved-amount, tokens_none, tokens_snoc}
use Rattle.nets.specs.TokenGame.{Places, places_of, initially, after_word, Enabled, language_of, fires_snoc, equation_1, PlacesPermit, Marking, initial_tokens, Transition, Run, Reached}

-- ---- Equation (1)

module _ (n : ℕ) where
  enough : (p : Place) (u : Word) (e : ℕ) → (pos (p.consumed e) ≤ℤ tokens n p (counts n u)) ↔ T (place_permits n p (step_after n u e))
  unfolding place_permits surplus
  enough p u e = le_difference (p.consumed e) (tokens n p (counts n u))

  pub enabled-permits : (N : Places) (u : Word) → Below n u → (e : ℕ) → Enabled N (after_word initially u) e ↔ PlacesPermit n N (step_after n u e)
  enabled-permits N u below e = (
    (λ h p m. (enough p u e).0 (subst (λ (z : ℤ). pos (p.consumed e) ≤ℤ z) (equation_1 n u below p) (h p m))),
    λ h p m. subst (λ (z : ℤ). pos (p.consumed e) ≤ℤ z) (sym (equation_1 n u below p)) ((enough p u e).1 (h p m)),
  )

  -- ---- The words of L(N)

  -- one event more: w·e is in L(N) exactly when w is, and every place permits e after the counts of w
  pub language_snoc : (N : Places) (w : Word) (e : ℕ)
      → language_of n N (w ++ e ∷ []) ↔ (language_of n N w × (e < n) × PlacesPermit n N (step_after n w e))
  language_snoc N w e = (to, from)
    where
      to : language_of n N (w ++ e ∷ []) → language_of n N w × (e < n) × PlacesPermit n N (step_after n w e)
      to h =
          let below = (below_snoc n w e).0 h.0 in
          let fires = (fires_snoc N initially w e).0 h.1 in
          ((below.0, fires.0), below.1, (enabled-permits N w below.0 e).0 fires.1)

      from : language_of n N w × (e < n) × PlacesPermit n N (step_after n w e) → language_of n N (w ++ e ∷ [])
      from h = ((below_snoc n w e).1 (h.0.0, h.1), (fires_snoc N initially w e).1 (h.0.1, (enabled-permits N w h.0.0 e).1 h.2))

  -- so a word is in L(N) exactly when every place permits each of its steps
  pub language_each : (N : Places) (w : Word) → language_of n N w ↔ (Below n w × Each (λ u e. PlacesPermit n N (step_after n u e)) w)
  language_each N w = (
    (λ h. (h.0, each_map _ _ (Below n) (below-shorter n) (λ u e below. (enabled-permits N u ((below_snoc n u e).0 below).0 e).0) w h.0 h.1)),
    λ h. (h.0, each_map _ _ (Below n) (below-shorter n) (λ u e below. (enabled-permits N u ((below_snoc n u e).0 below).0 e).1) w h.0 h.1),
  )

  permits-each : (net : Net) (w u : Word) → EachAfter (λ v e. PlacesPermit n (places_of net) (step_after n v e)) u w ↔ T (permits_after n net u w)
  unfolding permits_after net_permits
  permits-each net [] u = Iff.rfl
  permits-each net (e ∷ w) u =
      let test : Place → Bool = λ p. place_permits n p (step_after n u e) in
      let rest = permits_after n net (u ++ e ∷ []) w in
      let r = permits-each net w (u ++ e ∷ []) in (
        (λ h. and_i (all test net) rest (all_intro test net h.0) (r.0 h.1)),
        λ t. ((λ p m. all-member test net (and_l (all test net) rest t) m), r.1 (and_r (all test net) rest t)),
      )

  -- the token game permits exactly the words that `permits` does: words over E, since `counts n` passes over other events
  pub language_permits : (net : Net) (w : Word) → Below n w → language_of n (places_of net) w ↔ T (permits n net w)
  unfolding permits
  language_permits net w below =
      let steps = language_each (places_of net) w in
      let r = permits-each net w [] in
      ((λ h. r.0 (steps.0 h).1), λ t. steps.1 (below, r.1 t))

-- ---- The transition relation, between markings with natural numbers

module _ (n : ℕ) (N : Places) where
  -- every place permits e after the events of u
  abbrev PermitAfter : Word → ℕ → Type 0
  PermitAfter u e = PlacesPermit n N (step_after n u e)

  holds-permits : (p : Place) (t : ℕ) (u : Word) (e : ℕ) → pos t ≡ tokens n p (counts n u)
      → (p.consumed e ≤ t) ↔ T (place_permits n p (step_after n u e))
  holds-permits p t u e is = (
    (λ h. (enough n p u e).0 (subst (λ (z : ℤ). pos (p.consumed e) ≤ℤ z) is (le_z_yes (le→leb (p.consumed e) t h)))),
    λ h. leb→le (p.consumed e) t (subst (λ (z : ℤ). pos (p.consumed e) ≤ℤ z) (sym is) ((enough n p u e).1 h)).le,
  )

  reached-next : (M M' : Marking) (u : Word) (e : ℕ) → Reached n N M u → e < n → Transition N M e M' → Reached n N M' (u ++ e ∷ [])
  reached-next M M' u e is below t p m =
      let holds : p.consumed e ≤ M p = t.enabled p m in
      ap pos (t.next p m) ∙ sym (moved-amount p (M p) e holds) ∙ ap (λ (z : ℤ). moved p z e) (is p m) ∙ sym (tokens_snoc n p u e below)

  run→ : (w u : Word) (M M' : Marking) → Reached n N M u → Below n w → Run N M w M' → EachAfter PermitAfter u w × Reached n N M' (u ++ w)
  run→ [] u M M' is below r = (tt, λ p m. ap pos (r p m) ∙ is p m ∙ ap (λ (x : Word). tokens n p (counts n x)) (sym (append-nil u)))
  run→ (e ∷ w) u M M' is below r =
      let next = reached-next M r.0 u e is (below e (Memᴰ.head refl)) r.1 in
      let later = run→ w (u ++ e ∷ []) r.0 M' next (λ x m. below x (Memᴰ.tail m)) r.2 in
      (((λ p m. (holds-permits p (M p) u e (is p m)).0 (r.1.enabled p m)), later.0), subst (Reached n N M') (append_snoc u e w) later.1)

  →run : (w u : Word) (M : Marking) → Reached n N M u → Below n w → EachAfter PermitAfter u w → (M' : Marking) × Run N M w M'
  →run [] u M is below h = (M, λ p m. refl)
  →run (e ∷ w) u M is below h =
      let M'' : Marking = λ p. M p - p.consumed e + p.produced e in
      let t : Transition N M e M'' = record { enabled = λ p m. (holds-permits p (M p) u e (is p m)).1 (h.0 p m); next = λ p m. refl } in
      let next = reached-next M M'' u e is (below e (Memᴰ.head refl)) t in
      let later = →run w (u ++ e ∷ []) M'' next (λ x m. below x (Memᴰ.tail m)) h.1 in
      (later.0, (M'', t, later.1))

  module _ (w : Word) (below : Below n w) where
    start : Reached n N initial_tokens []
    start p m = sym (tokens_none n p)

    -- a word of L(N) leads from the initial marking to a marking, and no other word does
    pub run_language : ((M : Marking) × Run N initial_tokens w M) ↔ language_of n N w
    run_language =
        let steps = language_each n N w in
        ((λ r. steps.1 (below, (run→ w [] initial_tokens r.0 start below r.1).0)), λ h. →run w [] initial_tokens start below (steps.0 h).1)

    -- which is M₀ • w, by equation (1): reachable markings have only non-negative entries
    pub run_reaches : (M : Marking) → Run N initial_tokens w M → Reached n N M w
    run_reaches M r = (run→ w [] initial_tokens M start below r).1
