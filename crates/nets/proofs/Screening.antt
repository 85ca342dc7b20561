-- Screening stops at the first refused step: its position, the lowest place that refuses it, and that place's shortfall.
use Rattle.std.specs.Prelude.{◌≡◌, Bool, not, ◌↔◌}
use Rattle.std.proofs.Math.Path.{refl, sym, ap}
use Rattle.std.proofs.Common.{ap₂, ◌∙◌, subst, ⊎_elim, le_antisymm, arith, take_at, length-take-le}
use Rattle.std.proofs.Math.Bool.{true, false, cond}
use mathlib.Core.List.{[], ◌∷◌, ◌++◌, append-nil}
use Prim.Native.Nat.{ℕ, suc, ◌<◌}
use Rattle.std.proofs.Math.Dec.{T, T_not, not_T}
use Rattle.std.specs.Float.Ieee.Fits.{and_i}
use Rattle.std.proofs.Math.ListN.{length, get_or, take, drop, length-append}
use Rattle.std.proofs.Math.Seq.{append_snoc, split_at}
use Rattle.std.proofs.lemmas.List.{get_or_at}
use Rattle.laws.specs.Booleans.{impossible, no_false, lt_or_le}
use Rattle.nets.specs.Nets.{Word, Net, Step, refused_by, Answer, stopped, step_after, step_at, net_permits, permits_after, permits, first_refusing, shortfall_of, stopped_at, screen_after, screen}
use Rattle.nets.proofs.Certificates.{refused→}
use Rattle.nets.specs.Screening.{screen_after-append, first-refuses, first-lowest, FirstRefused, shortfall_at}

-- ---- the first refused step

module _ (n : ℕ) (net : Net) where
  -- a word that stops, at its first refused step, with that answer
  record Stop (u w : Word) (x : Answer) : Type 0 where
    done : Word
    event : ℕ
    rest : Word
    whole : w ≡ done ++ event ∷ rest
    permitted : T (permits_after n net u done)
    refused : T (not (net_permits n net (step_after n (u ++ done) event)))
    answer : x ≡ stopped_at n net (length (u ++ done)) (step_after n (u ++ done) event)

  stop→ : (w u : Word) (i j k : ℕ) → screen_after n net u w ≡ stopped i j k → Stop u w (stopped i j k)
  unfolding screen_after permits_after
  stop→ [] u i j k e = impossible cc
  stop→ (a ∷ w) u i j k e = go (net_permits n net (step_after n u a)) refl e (stop→ w (u ++ a ∷ []) i j k)
    where
      go : (t : Bool) → net_permits n net (step_after n u a) ≡ t → cond t (screen_after n net (u ++ a ∷ []) w) (stopped_at n net (length u) (step_after n u a)) ≡ stopped i j k
          → (screen_after n net (u ++ a ∷ []) w ≡ stopped i j k → Stop (u ++ a ∷ []) w (stopped i j k)) → Stop u (a ∷ w) (stopped i j k)
      go true t e below =
          let s = below e in
          let same = append_snoc u a s.done in
          record {
            done = a ∷ s.done;
            event = s.event;
            rest = s.rest;
            whole = ap (λ (l : Word). a ∷ l) s.whole;
            permitted = and_i (net_permits n net (step_after n u a)) (permits_after n net (u ++ a ∷ []) s.done) (rw t tt) s.permitted;
            refused = rw same at s.refused;
            answer = s.answer ∙ ap (λ (l : Word). stopped_at n net (length l) (step_after n l s.event)) same;
          }
      go false t e below = record {
        done = [];
        event = a;
        rest = w;
        whole = refl;
        permitted = tt;
        refused = rw (append-nil, t) tt;
        answer = sym e ∙ ap (λ (l : Word). stopped_at n net (length l) (step_after n l a)) (sym (append-nil u));
      }

  -- the lowest place that refuses a step is the one that screening names
  lowest-first : (s : Step) (j : ℕ) → T (refused_by n net j s) → ((k : ℕ) → k < j → T (not (refused_by n net k s))) → j ≡ first_refusing n net s
  lowest-first s j r low = le_antisymm
      (⊎_elim (λ h. absurd (T_not (refused_by n net (first_refusing n net s) s) (low (first_refusing n net s) h) first)) (λ h. h) (lt_or_le (first_refusing n net s) j))
      (⊎_elim (λ h. absurd (T_not (refused_by n net j s) (first-lowest n s net j h) r)) (λ h. h) (lt_or_le j (first_refusing n net s)))
    where
      first : T (refused_by n net (first_refusing n net s) s)
      first = first-refuses n s net (not_T (net_permits n net s) (λ t. refused→ n net j s r t))

  stop-first : (w : Word) (i j k : ℕ) → Stop [] w (stopped i j k) → FirstRefused n net w i j × (k ≡ shortfall_at n net w i j)
  unfolding permits stopped_at
  stop-first w i j k s =
      let step = step_after n s.done s.event in
      let position : i ≡ length s.done = cc s.answer in
      let place : j ≡ first_refusing n net step = cc s.answer in
      let amount : k ≡ shortfall_of n net (first_refusing n net step) step = cc s.answer in
      let taken : take i w ≡ s.done = rw s.whole (take_at s.done (s.event ∷ s.rest) i (sym position)) in
      let next : get_or w i 0 ≡ s.event = rw s.whole (get_or_at s.done s.event s.rest 0 i (sym position)) in (
        record {
          within = omega (arith, position, ap length s.whole, length-append s.done (s.event ∷ s.rest));
          before = rw taken s.permitted;
          refuses = rw (taken, next, place) (first-refuses n step net s.refused);
          lowest = λ l h. rw (taken, next) (first-lowest n step net l (subst (λ (x : ℕ). l < x) place h));
        },
        rw (taken, next, place) amount,
      )

  first_stops : (w : Word) (i j : ℕ) → FirstRefused n net w i j → screen n net w ≡ stopped i j (shortfall_at n net w i j)
  unfolding screen screen_after permits stopped_at
  first_stops w i j f =
      let step = step_at n w i in
      let refused : net_permits n net step ≡ false = no_false (net_permits n net step) (not_T (net_permits n net step) (λ t. refused→ n net j step f.refuses t)) in
      ap (screen_after n net []) (split_at w i 0 f.within)
      ∙ screen_after-append n net (take i w) [] (get_or w i 0 ∷ drop (suc i) w) f.before
      ∙ rw refused
      (ap₂ (λ (x y : ℕ). stopped x y (shortfall_of n net y step))
      (length-take-le i w (omega (arith, f.within)))
      (sym (lowest-first step j f.refuses f.lowest)))

  -- screening stops with a position, a place and an amount exactly when position and place are those of the first refused step, and the
  -- amount is that place's shortfall there
  pub screen-stopped-exactly : (w : Word) (i j k : ℕ) → (screen n net w ≡ stopped i j k) ↔ (FirstRefused n net w i j × (k ≡ shortfall_at n net w i j))
  unfolding screen
  screen-stopped-exactly w i j k = ((λ e. stop-first w i j k (stop→ w [] i j k e)), λ (f, is). first_stops w i j f ∙ ap (stopped i j) (sym is))
