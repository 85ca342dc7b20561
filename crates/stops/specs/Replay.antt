-- The replay of a word on one place, with its tokens from step to step.
use Rattle.std.specs.Prelude.{◌≡◌, Bool, true, false, cond, Result, Ok, Err, ℕ, zero, suc, ◌+◌, ◌≤◌, ◌<◌, pos, ◌+ℤ◌, length, drop, get_or}
use Rattle.std.proofs.Math.Path.{refl, ap}
use Rattle.std.proofs.Common.{sym, ◌∙◌, subst, not-suc-le-zero, one-add, arith, drop_of_length-le, drop-cons, of_z, to_z}
use mathlib.Core.List.{[], ◌∷◌, ◌++◌}
use Rattle.std.proofs.Math.Numerals.{add-one}
use Rattle.std.proofs.Math.IntN.{ℤ}
use mir.Syntax.{w64}
use Rattle.std.proofs.Math.Facts.{to_z_pos}
use Rattle.laws.specs.Booleans.{impossible}
use Rattle.limits.specs.Limits.{max_events, max_word_events}
use Rattle.nets.specs.Nets.{Word, Place, Step, counts, step_after, tokens, place_permits, shortfall}
use Rattle.nets.specs.Events.{EventsBelow}
use Rattle.nets.specs.Markings.{tokens_snoc, left, covered, missing, permits-is, shortfall-is, moved}
use Rattle.places.specs.Machine.{Held}
use Rattle.places.specs.Amounts.{TokensAfter, tokens-start, tokens-moved, after-held, left-held, tokens-bits}
use Rattle.stops.specs.Positions.{step_behind, step-first, step-shift}
use Rattle.stops.specs.declared.Stop.{Stop}

-- stopped at a position by the place that is replayed, with that shortfall
abbrev pub stop : ℕ → ℕ → Stop
stop i k = record { position = i; place = 0; shortfall = k }

-- the same, i steps later
abbrev pub later : ℕ → Stop → Stop
later i s = record { position = i + s.position; place = s.place; shortfall = s.shortfall }

-- the first step of a word that a place refuses, with t tokens at first, and its shortfall there; the word's length and 0 where there is none
unfoldable pub replay : Place → ℤ → Word → Stop
replay p t [] = stop 0 0
replay p t (e ∷ w) = cond (covered p t e) (later 1 (replay p (moved p t e) w)) (stop 0 (missing p t e))

-- the first step of a word that a place refuses
unfoldable pub stop_of : Place → Word → Stop
stop_of p w = replay p (pos p.initial) w

-- one step of it: the tokens behind an event, or how many are missing for it
abbrev pub stepped : Place → ℤ → ℕ → Result ℤ ℕ
stepped p t e = cond (covered p t e) (Ok (moved p t e)) (Err (missing p t e))

module _ (p : Place) (t : ℤ) (e : ℕ) where
  pub stepped-on : {z : ℤ} → Ok z ≡ stepped p t e → (covered p t e ≡ true) × (z ≡ moved p t e)
  stepped-on {z} is = go (covered p t e) refl is
    where
      go : (b : Bool) → covered p t e ≡ b → Ok z ≡ cond b (Ok (moved p t e)) (Err (missing p t e)) → (b ≡ true) × (z ≡ moved p t e)
      go true q is = (refl, (cc))
      go false q is = impossible cc

  pub stepped-refused : {k : ℕ} → Err k ≡ stepped p t e → (covered p t e ≡ false) × (k ≡ missing p t e)
  stepped-refused {k} is = go (covered p t e) refl is
    where
      go : (b : Bool) → covered p t e ≡ b → Err k ≡ cond b (Ok (moved p t e)) (Err (missing p t e)) → (b ≡ false) × (k ≡ missing p t e)
      go true q is = impossible cc
      go false q is = (refl, (cc))

-- a word over the twelve events that is replayed from t tokens on: so many as a place may have behind `earlier` events
pub record Start (t : ℤ) (w : Word) : Type 0 where
  pub earlier : ℕ
  pub tokens : TokensAfter t earlier
  pub size : earlier + length w ≤ max_word_events
  pub events : EventsBelow max_events w

-- the initial tokens are such a start
module _ (p : Place) (few : p.initial ≤ 65535) (w : Word) where
  pub start-initial : length w ≤ max_word_events → EventsBelow max_events w → Start (to_z w64 p.initial) w
  start-initial short below = rw (to_z_pos w64 {n = p.initial} (omega arith)) (record { earlier = 0; tokens = tokens-start p few; size = omega arith; events = below })

  pub replay-initial : replay p (to_z w64 p.initial) w ≡ stop_of p w
  unfolding stop_of
  replay-initial = rw (to_z_pos w64 {n = p.initial} (omega arith))

-- a loop has replayed i steps of w on the place p, with t tokens behind them; s is what the whole replay finds
pub record Going (p : Place) (w : Word) (s : Stop) (t : ℤ) (i : ℕ) : Type 0 where
  pub earlier : ℕ
  pub tokens : TokensAfter t (earlier + i)
  pub size : earlier + length w ≤ max_word_events
  pub rest : s ≡ later i (replay p t (drop i w))

-- no step later
none-later : (s : Stop) → s ≡ later 0 s
none-later s = ap (λ (k : ℕ). record { position = k; place = s.place; shortfall = s.shortfall }) (omega arith)

-- the tokens of a start, read back from their bits
pub start-bits : {t : ℤ} {w : Word} → Start t w → to_z w64 (of_z w64 t) ≡ t
start-bits start = tokens-bits start.tokens (omega (arith, start.size))

-- at first
pub going_from : (p : Place) {w : Word} {t : ℤ} → Start t w → Going p w (replay p (to_z w64 (of_z w64 t)) w) (to_z w64 (of_z w64 t)) 0
going_from p {w} {t} start =
    rw (start-bits start)
    (record {
      earlier = start.earlier;
      tokens = subst (TokensAfter t) (omega arith) start.tokens;
      size = start.size;
      rest = none-later (replay p t w);
    })

pub going_start : (p : Place) (w : Word) → p.initial ≤ 65535 → length w ≤ max_word_events → Going p w (stop_of p w) (to_z w64 p.initial) 0
unfolding stop_of
going_start p w h short = rw (to_z_pos w64 {n = p.initial} (omega arith)) (record {
  earlier = 0;
  tokens = tokens-start p h;
  size = omega arith;
  rest = none-later (replay p (pos p.initial) w);
})

module _ {p : Place} {w : Word} {s : Stop} {t : ℤ} {i : ℕ} (g : Going p w s t i) where
  pub going_least : i ≤ s.position
  going_least = omega (arith, ap (λ (k : Stop). k.position) g.rest)

  pub going_end : length w ≤ i → s ≡ stop i 0
  unfolding replay
  going_end h = g.rest ∙ rw (drop_of_length-le w h) (ap (λ (k : ℕ). stop k 0) (omega arith))

  pub going_held : i ≤ length w → Held t
  going_held h = after-held g.tokens (omega (arith, g.size))

  -- what the event leaves
  pub going_left : i ≤ length w → p.consumed (get_or w i 0) ≤ 65535 → {z : ℤ} → z ≡ left p t (get_or w i 0) → Held z
  going_left short few is = rw is (left-held g.tokens (omega (arith, g.size)) (p.consumed (get_or w i 0)) few)

  module _ (h : i < length w) where
    step : replay p t (drop i w) ≡ cond (covered p t (get_or w i 0)) (later 1 (replay p (moved p t (get_or w i 0)) (drop (i + 1) w))) (stop 0 (missing p t (get_or w i 0)))
    unfolding replay
    step = rw (drop-cons w i 0 h, add-one i)

    pub going_stop : covered p t (get_or w i 0) ≡ false → s ≡ stop i (missing p t (get_or w i 0))
    going_stop e = g.rest ∙ rw (step, e) (ap (λ (k : ℕ). stop k (missing p t (get_or w i 0))) (omega arith))

    module _ (e : covered p t (get_or w i 0) ≡ true) where
      passed : s ≡ later (i + 1) (replay p (moved p t (get_or w i 0)) (drop (i + 1) w))
      passed = g.rest ∙ rw (step, e) (shift (replay p (moved p t (get_or w i 0)) (drop (i + 1) w)))
        where
          shift : (s : Stop) → later i (later 1 s) ≡ later (i + 1) s
          shift s = ap (λ (k : ℕ). record { position = k; place = s.place; shortfall = s.shortfall }) (omega arith)

      pub going_past : i < s.position
      going_past = omega (arith, ap (λ (k : Stop). k.position) passed)

      pub going_next : p.produced (get_or w i 0) ≤ 65535 → {y z : ℤ} → y ≡ left p t (get_or w i 0) → z ≡ y +ℤ pos (p.produced (get_or w i 0))
          → Going p w s (to_z w64 (of_z w64 z)) (i + 1)
      going_next few {y} {z} leaves is =
          let next = tokens-moved g.tokens p (get_or w i 0) e few in
          let more : g.earlier + i + 1 ≡ g.earlier + (i + 1) = omega arith in
          rw (is, leaves, tokens-bits next (omega (arith, g.size)))
          (record { earlier = g.earlier; tokens = subst (TokensAfter (moved p t (get_or w i 0))) more next; size = g.size; rest = passed })

-- a turn of the loop: what one step says of the replay
module _ {p : Place} {w : Word} {s : Stop} {t : ℤ} {i : ℕ} (g : Going p w s t i) where
  pub going_refused : i < length w → {k : ℕ} → Err k ≡ stepped p t (get_or w i 0) → s ≡ stop i k
  going_refused h is = let refused = stepped-refused p t (get_or w i 0) is in going_stop g h refused.0 ∙ ap (stop i) (sym refused.1)

  pub going_passed : i < length w → {z : ℤ} → Ok z ≡ stepped p t (get_or w i 0) → i < s.position
  going_passed h is = going_past g h (stepped-on p t (get_or w i 0) is).0

  pub going-on : i < length w → {z : ℤ} → Ok z ≡ stepped p t (get_or w i 0) → p.produced (get_or w i 0) ≤ 65535 → Going p w s (to_z w64 (of_z w64 z)) (i + 1)
  going-on h is few = let moves = stepped-on p t (get_or w i 0) is in going_next g h moves.0 few refl moves.1

module _ (n : ℕ) (p : Place) where
  -- s is the first step of w behind u that the place refuses, with its shortfall there; its position is the word's length where there is none
  pub record First (u w : Word) (s : Stop) : Type 0 where
    pub within : s.position ≤ length w
    pub permits : (i : ℕ) → i < s.position → place_permits n p (step_behind n u w i) ≡ true
    pub refuses : s.position < length w → place_permits n p (step_behind n u w s.position) ≡ false
    pub short : s.position < length w → shortfall n p (step_behind n u w s.position) ≡ s.shortfall

  -- with the marking after u, the replay finds it
  pub replay-first : (w u : Word) (t : ℤ) → EventsBelow n w → t ≡ tokens n p (counts n u) → First u w (replay p t w)
  unfolding replay
  replay-first [] u t below h = record {
    within = omega arith;
    permits = λ i l. absurd (not-suc-le-zero l);
    refuses = λ l. absurd (not-suc-le-zero l);
    short = λ l. absurd (not-suc-le-zero l);
  }
  replay-first (e ∷ w) u t below h = go (covered p t e) refl (replay-first w)
    where
      here : {A : Type 0} (f : Step → A) (g : ℤ → A) → f (step_after n u e) ≡ g (tokens n p (counts n u)) → f (step_behind n u (e ∷ w) 0) ≡ g t
      here f g is = ap f (step-first n u e w) ∙ is ∙ ap g (sym h)

      first : place_permits n p (step_behind n u (e ∷ w) 0) ≡ covered p t e
      first = here (place_permits n p) (λ z. covered p z e) (permits-is n p u e)

      lacks : shortfall n p (step_behind n u (e ∷ w) 0) ≡ missing p t e
      lacks = here (shortfall n p) (λ z. missing p z e) (shortfall-is n p u e)

      next : moved p t e ≡ tokens n p (counts n (u ++ e ∷ []))
      next = ap (λ (z : ℤ). moved p z e) h ∙ sym (tokens_snoc n p u e (below 0 (omega arith)))

      go : (b : Bool) → covered p t e ≡ b
          → ((u' : Word) (t' : ℤ) → ((k : ℕ) → k < length w → get_or w k 0 < n) → t' ≡ tokens n p (counts n u') → First u' w (replay p t' w))
          → First u (e ∷ w) (cond b (later 1 (replay p (moved p t e) w)) (stop 0 (missing p t e)))
      go true q rest =
          let f = rest (u ++ e ∷ []) (moved p t e) (λ i l. below (suc i) (omega arith)) next in
          let k = (replay p (moved p t e) w).position in
          record {
            within = omega (arith, f.within);
            permits = λ i l. earlier i f.permits (omega arith);
            refuses = λ l. ap (place_permits n p) (behind k) ∙ f.refuses (omega arith);
            short = λ l. ap (shortfall n p) (behind k) ∙ f.short (omega arith);
          }
        where
          behind : (k : ℕ) → step_behind n u (e ∷ w) (1 + k) ≡ step_behind n (u ++ e ∷ []) w k
          behind k = ap (step_behind n u (e ∷ w)) (one-add k) ∙ sym (step-shift n u e w k)

          earlier : (i : ℕ) → ((j : ℕ) → j < (replay p (moved p t e) w).position → place_permits n p (step_behind n (u ++ e ∷ []) w j) ≡ true)
              → i < 1 + (replay p (moved p t e) w).position → place_permits n p (step_behind n u (e ∷ w) i) ≡ true
          earlier zero passed l = first ∙ q
          earlier (suc i) passed l = ap (place_permits n p) (sym (step-shift n u e w i)) ∙ passed i (omega arith)
      go false q rest = record {
        within = omega arith;
        permits = λ i l. absurd (not-suc-le-zero l);
        refuses = λ l. first ∙ q;
        short = λ l. lacks;
      }
