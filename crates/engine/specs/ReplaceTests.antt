-- The tests of replacing behind both bundles' heads, on the new net: exactly when each refuses, and what passes them all.
use Rattle.std.specs.Prelude.{◌≡◌, refl, true, List, [], ◌∷◌, ℕ, ◌<◌, eqb, leb, ltb, length}
use Rattle.std.proofs.Common.{arith, eq-eqb, ne_eqb, eqb-true}
use Rattle.std.proofs.lemmas.Bool.{eqb-false}
use Rattle.laws.specs.Booleans.{at_least, impossible}
use Rattle.laws.specs.Lists.{all, any, among}
use Rattle.refusals.specs.Table.{word_event_number, numbers_short_number, replaced_events_number, run_stopped_number}
use Rattle.refusals.specs.Results.{Result, value, refused, bind, require, Refuses, refuses-test}
use Rattle.refusals.specs.Exactly.{Exactly, Gives, exactly-same, gives_same, exactly-here, exactly-later, gives_later}
use Rattle.nets.specs.Nets.{Word, Net, Answer, screen, permitted, stopped}
use Rattle.nets.specs.Carrying.{marking_after}
use Rattle.nets.specs.Events.{first_bad, FirstBad, EventsBelow, below-exactly, bad_exactly}
use Rattle.engine.specs.Engine.{unless_stopped, behind_events}
use Rattle.engine.specs.NetTests.{Room, room_first}

module _ (n : ℕ) (net : Net) (w : Word) where
  -- the net stops on the events so far behind i of them
  abbrev pub StopsAt : ℕ → Type 0
  StopsAt i = (j : ℕ) × (k : ℕ) × (screen n net w ≡ stopped i j k)

  -- 23
  behind_events-refuses : Refuses (run_stopped_number ∷ []) (behind_events n net w)
  unfolding behind_events unless_stopped any
  behind_events-refuses = record { only = go (screen n net w) }
    where
      go : (a : Answer) (k spot : ℕ) → unless_stopped (marking_after n net w) a ≡ refused k spot → among k (run_stopped_number ∷ []) ≡ true
      go permitted k spot e = impossible cc
      go (stopped i j m) k spot e = let same : run_stopped_number ≡ k = cc in rw (← same) refl

  behind_23 : Exactly (behind_events n net w) run_stopped_number StopsAt
  unfolding behind_events unless_stopped
  behind_23 = record { line = λ spot. (to spot (screen n net w), λ (j, k, e). rw e) }
    where
      to : (spot : ℕ) (a : Answer) → unless_stopped (marking_after n net w) a ≡ refused run_stopped_number spot → (j : ℕ) × (k : ℕ) × (a ≡ stopped spot j k)
      to spot permitted e = impossible cc
      to spot (stopped i j k) e = let at : i ≡ spot = cc in (j, k, rw at)

  behind-gives : Gives (behind_events n net w) (λ us. (screen n net w ≡ permitted) × (us ≡ marking_after n net w))
  unfolding behind_events unless_stopped
  behind-gives = record { line = λ us. (to us (screen n net w), λ (e, is). rw (e, is)) }
    where
      to : (us : List ℕ) (a : Answer) → unless_stopped (marking_after n net w) a ≡ value us → (a ≡ permitted) × (us ≡ marking_after n net w)
      to us permitted e = (refl, cc)
      to us (stopped i j k) e = impossible cc

  module _ (old : ℕ) (ts : List ℕ) where
    abbrev events_on : Result (List ℕ)
    events_on = bind (require (all (λ e. ltb e n) w) word_event_number (first_bad n w)) (λ u. behind_events n net w)

    abbrev room_on : Result (List ℕ)
    room_on = bind (require (leb (length net) (length ts)) numbers_short_number (length net)) (λ u. events_on)

    -- 22; 5; 15; 23; else the marking behind the events
    abbrev pub replace_on : Result (List ℕ)
    replace_on = bind (require (eqb old n) replaced_events_number 0) (λ u. room_on)

    events_on-refuses : Refuses (word_event_number ∷ run_stopped_number ∷ []) events_on
    events_on-refuses = refuses-test _ _ _ behind_events-refuses

    room_on-refuses : Refuses (numbers_short_number ∷ word_event_number ∷ run_stopped_number ∷ []) room_on
    room_on-refuses = refuses-test _ _ _ events_on-refuses

    pub replace_on-refuses : Refuses (replaced_events_number ∷ numbers_short_number ∷ word_event_number ∷ run_stopped_number ∷ []) replace_on
    replace_on-refuses = refuses-test _ _ _ room_on-refuses

    pub replace_on_22 : Exactly replace_on replaced_events_number (λ spot. (spot ≡ 0) × (old ≡ n → ⊥))
    unfolding any
    replace_on_22 = exactly-same (exactly-here (eqb old n) replaced_events_number 0 room_on room_on-refuses refl)
        (λ spot. ((λ (at, e). (at, eqb-false old n e)), λ (at, h). (at, ne_eqb old n h)))

    -- behind it the event counts are the same
    module _ {k : ℕ} {C : ℕ → Type 0} where
      same_count : (replaced_events_number ≡ k → ⊥) → Exactly room_on k C → Exactly replace_on k (λ spot. (old ≡ n) × C spot)
      same_count other line = exactly-same (exactly-later (eqb old n) replaced_events_number 0 room_on other line)
          (λ spot. ((λ (e, c). (eqb-true old n e, c)), λ (h, c). (eq-eqb old n h, c)))

      -- behind 5 there is room
      roomy : (numbers_short_number ≡ k → ⊥) → Exactly events_on k C → Exactly room_on k (λ spot. Room net ts × C spot)
      roomy other line = exactly-same (exactly-later (leb (length net) (length ts)) numbers_short_number (length net) events_on other line)
          (λ spot. ((λ (e, c). ((at_least (length net) (length ts)).0 e, c)), λ (h, c). ((at_least (length net) (length ts)).1 h, c)))

    pub replace_on_5 : Exactly replace_on numbers_short_number (λ spot. (old ≡ n) × ((spot ≡ length net) × (length ts < length net)))
    unfolding any
    replace_on_5 = same_count (λ e. omega (arith, e)) (room_first net ts events_on events_on-refuses refl)

    pub replace_on_15 : Exactly replace_on word_event_number (λ spot. (old ≡ n) × (Room net ts × FirstBad n w spot))
    unfolding any
    replace_on_15 = same_count (λ e. omega (arith, e)) (roomy (λ e. omega (arith, e)) (exactly-same
        (exactly-here (all (λ e. ltb e n) w) word_event_number (first_bad n w) (behind_events n net w) behind_events-refuses refl)
        (bad_exactly n w)))

    pub replace_on_23 : Exactly replace_on run_stopped_number (λ spot. (old ≡ n) × (Room net ts × (EventsBelow n w × StopsAt spot)))
    unfolding any
    replace_on_23 = same_count (λ e. omega (arith, e)) (roomy (λ e. omega (arith, e)) (exactly-same
        (exactly-later (all (λ e. ltb e n) w) word_event_number (first_bad n w) (behind_events n net w) (λ e. omega (arith, e)) behind_23)
        (λ spot. ((λ (e, c). ((below-exactly n w).0 e, c)), λ (h, c). ((below-exactly n w).1 h, c)))))

    pub replace_on-gives : Gives replace_on
        (λ us. (old ≡ n) × (Room net ts × (EventsBelow n w × ((screen n net w ≡ permitted) × (us ≡ marking_after n net w)))))
    replace_on-gives = gives_same (gives_later _ _ _ _ (gives_later _ _ _ _ (gives_later _ _ _ _ behind-gives)))
        (λ us. (
          (λ (same, (room, (below, rest))).
              (eqb-true old n same, ((at_least (length net) (length ts)).0 room, ((below-exactly n w).0 below, rest)))),
          λ (same, (room, (below, rest))).
              (eq-eqb old n same, ((at_least (length net) (length ts)).1 room, ((below-exactly n w).1 below, rest))),
        ))
