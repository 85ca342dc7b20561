-- One event played: exactly when the tokens move, and exactly where it lacks tokens; and a word of one event alone, which takes none.
use Rattle.std.specs.Prelude.{◌≡◌, ◌↔◌, List, [], ◌∷◌, ◌++◌, ℕ, zero, suc, ◌+◌, ◌-◌, ◌*◌, ◌≤◌, ◌<◌, length, get_or, replicate, take, pos, ℤ, T, ◌⊎◌}
use Rattle.std.proofs.Common.{sym, ap, ◌∙◌, arith, leb-true, leb-false, le-leb, lt-ltb, le-ltb, le_of_eq, le_antisymm, subst, inl, inr, ⊎_elim}
use Rattle.std.proofs.lemmas.Bool.{lt-leb}
use Rattle.std.proofs.lemmas.List.{get_or-take, replicate-append-replicate}
use mathlib.Core.List.{Memᴰ}
use Rattle.std.specs.Int.Signed.{non_neg}
use Rattle.std.specs.Float.Ieee.Fits.{and_i}
use Rattle.laws.specs.Booleans.{impossible, lt_or_le}
use Rattle.laws.specs.Lists.{all_intro, tabulate-same}
use Rattle.laws.specs.Differences.{difference, non_neg_difference}
use Rattle.laws.specs.Scans.{first_false-all, first_false-at, first_false-none, first_false-most, first_false-fails, first_false-below}
use Rattle.nets.specs.Nets.{Word, Net, Place, counts, tokens, step_after, place_permits, net_permits, permits_after, permits}
use Rattle.nets.specs.Words.{permits_snoc}
use Rattle.nets.specs.Markings.{covered, moved as moved_on, moved-amount, permits-is, tokens_none, tokens_snoc}
use Rattle.nets.specs.Carrying.{taken_from, put_into, has_enough, first_short, tokens_behind, AllEnough, LowestShort, moved, lacking, play}

module _ (net : Net) (ts : List ℕ) (e : ℕ) where
  abbrev out : ℕ → ℕ
  out j = taken_from net ts e j

  abbrev lowest : ℕ
  lowest = first_short net ts e

  pub enough-all : AllEnough net ts e → first_short net ts e ≡ length net
  unfolding first_short
  enough-all enough = first_false-all (has_enough net ts e) (length net) (λ j h. le-leb (out j) (get_or ts j 0) (enough j h))

  pub enough-none : AllEnough net ts e → length net ≤ lowest
  enough-none enough = le_of_eq (sym (enough-all enough))

  pub none-enough : length net ≤ lowest → AllEnough net ts e
  unfolding first_short
  none-enough none j h =
      let most = first_false-most (has_enough net ts e) (length net) in
      leb-true (out j) (get_or ts j 0) (first_false-none (has_enough net ts e) (length net) (le_antisymm most none) j h)

  short-lowest : lowest < length net → LowestShort net ts e lowest
  unfolding first_short
  short-lowest h = (
    h,
    leb-false (out lowest) (get_or ts lowest 0) (first_false-fails (has_enough net ts e) (length net) h),
    λ i b. leb-true (out i) (get_or ts i 0) (first_false-below (has_enough net ts e) (length net) i b),
  )

  pub lowest-is : (j : ℕ) → LowestShort net ts e j → first_short net ts e ≡ j
  unfolding first_short
  lowest-is j (there, short, below) = first_false-at (has_enough net ts e) (length net) j there
      (λ i b. le-leb (out i) (get_or ts i 0) (below i b)) (lt-leb (out j) (get_or ts j 0) short)

  pub play-enough : AllEnough net ts e → play net ts e ≡ moved (tokens_behind net ts e)
  unfolding play
  play-enough enough = rw (le-ltb lowest (length net) (enough-none enough))

  pub play-short : (j : ℕ) → LowestShort net ts e j → play net ts e ≡ lacking j (taken_from net ts e j - get_or ts j 0)
  unfolding play
  play-short j short = rw (lowest-is j short, lt-ltb j (length net) short.0)

  -- one of the two
  pub play_cases : AllEnough net ts e ⊎ ((j : ℕ) × LowestShort net ts e j)
  play_cases = ⊎_elim (λ h. inr (lowest, short-lowest h)) (λ none. inl (none-enough none)) (lt_or_le lowest (length net))

  pub play-moved : (us : List ℕ) → (play net ts e ≡ moved us) ↔ (AllEnough net ts e × (us ≡ tokens_behind net ts e))
  play-moved us = ((λ is. to is play_cases), λ (enough, is). play-enough enough ∙ ap moved (sym is))
    where
      to : play net ts e ≡ moved us → AllEnough net ts e ⊎ ((j : ℕ) × LowestShort net ts e j) → AllEnough net ts e × (us ≡ tokens_behind net ts e)
      to is (inl enough) = let same : moved (tokens_behind net ts e) ≡ moved us = sym (play-enough enough) ∙ is in (enough, cc same)
      to is (inr (j, short)) =
          let same : lacking j (taken_from net ts e j - get_or ts j 0) ≡ moved us = sym (play-short j short) ∙ is in
          impossible (cc same)

  pub play-lacking : (j k : ℕ) → (play net ts e ≡ lacking j k) ↔ (LowestShort net ts e j × (k ≡ taken_from net ts e j - get_or ts j 0))
  play-lacking j k = ((λ is. to is play_cases), λ (short, is). play-short j short ∙ ap (lacking j) (sym is))
    where
      to : play net ts e ≡ lacking j k → AllEnough net ts e ⊎ ((i : ℕ) × LowestShort net ts e i)
          → LowestShort net ts e j × (k ≡ taken_from net ts e j - get_or ts j 0)
      to is (inl enough) = let same : moved (tokens_behind net ts e) ≡ lacking j k = sym (play-enough enough) ∙ is in impossible (cc same)
      to is (inr (i, short)) =
          let same : lacking i (taken_from net ts e i - get_or ts i 0) ≡ lacking j k = sym (play-short i short) ∙ is in
          let at : i ≡ j = cc same in
          let lacks : taken_from net ts e i - get_or ts i 0 ≡ k = cc same in
          (subst (LowestShort net ts e) at short, subst (λ (x : ℕ). k ≡ taken_from net ts e x - get_or ts x 0) at (sym lacks))

-- only the first numbers of a list, as many as places, are looked at
pub play-front : (net : Net) (ts us : List ℕ) (e : ℕ) → take (length net) ts ≡ take (length net) us → play net ts e ≡ play net us e
unfolding tokens_behind
play-front net ts us e same = ⊎_elim
    (λ enough. play-enough net ts e enough
    ∙ ap moved behind
    ∙ sym (play-enough net us e (λ j h. subst (λ (t : ℕ). taken_from net ts e j ≤ t) (each j h) (enough j h))))
    (λ (j, (there, short, below)). play-short net ts e j (there, short, below)
    ∙ ap (λ (t : ℕ). lacking j (taken_from net ts e j - t)) (each j there)
    ∙ sym (play-short net us e j (
      there,
      subst (λ (t : ℕ). t < taken_from net ts e j) (each j there) short,
      λ i b. subst (λ (t : ℕ). taken_from net ts e i ≤ t) (each i (omega (arith, there, b))) (below i b),
    )))
    (play_cases net ts e)
  where
    each : (j : ℕ) → j < length net → get_or ts j 0 ≡ get_or us j 0
    each j h = sym (get_or-take (length net) ts j 0 h) ∙ ap (λ (l : List ℕ). get_or l j 0) same ∙ get_or-take (length net) us j 0 h

    behind : tokens_behind net ts e ≡ tokens_behind net us e
    behind = tabulate-same (length net) _ _ (λ j h. ap (λ (t : ℕ). t - taken_from net ts e j + put_into net ts e j) (each j h))

-- ---- a word of one event alone

module _ (n e : ℕ) (below : e < n) where
  copies-snoc : (k : ℕ) → replicate (suc k) e ≡ replicate k e ++ e ∷ []
  copies-snoc k = let one_more : suc k ≡ k + 1 = omega arith in ap (λ (m : ℕ). replicate m e) one_more ∙ sym (replicate-append-replicate k 1 e)

  -- where it takes none from a place, each time it puts in(e) there
  pub tokens-copies : (p : Place) → p.consumed e ≡ 0 → (k : ℕ) → tokens n p (counts n (replicate k e)) ≡ pos (p.initial + k * p.produced e)
  tokens-copies p none zero = let zero_more : p.initial ≡ p.initial + 0 * p.produced e = omega arith in tokens_none n p ∙ ap pos zero_more
  tokens-copies p none (suc k) =
      ap (λ (w : Word). tokens n p (counts n w)) (copies-snoc k)
      ∙ tokens_snoc n p (replicate k e) e below
      ∙ ap (λ (z : ℤ). moved_on p z e) (tokens-copies p none k)
      ∙ moved-amount p (p.initial + k * p.produced e) e (omega (arith, none))
      ∙ ap pos (rw none (omega arith))

  -- and no place refuses it
  pub permits-copies : (net : Net) → ((p : Place) → Memᴰ p net → p.consumed e ≡ 0) → (k : ℕ) → T (permits n net (replicate k e))
  unfolding permits permits_after net_permits
  permits-copies net none zero = tt
  permits-copies net none (suc k) =
      subst (λ (w : Word). T (permits n net w)) (sym (copies-snoc k))
      (subst T (sym (permits_snoc n net (replicate k e) e)) (and_i _ _ (permits-copies net none k) every))
    where
      covers : (p : Place) → p.consumed e ≡ 0 → (t : ℕ) → T (covered p (pos t) e)
      covers p is t =
          subst (λ (z : ℤ). T (non_neg z)) (sym (difference t (p.consumed e)))
          ((non_neg_difference t (p.consumed e)).1 (omega (arith, is)))

      every : T (net_permits n net (step_after n (replicate k e) e))
      every = all_intro (λ p. place_permits n p (step_after n (replicate k e) e)) net (λ p m.
          subst T (sym (permits-is n p (replicate k e) e ∙ ap (λ (z : ℤ). covered p z e) (tokens-copies p (none p m) k))) (covers p (none p m) _))
