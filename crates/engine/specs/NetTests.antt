-- The tests of starting and of a step behind the bundle's head, on the places of a net: exactly when each refuses, and what passes them all.
use Rattle.std.specs.Prelude.{◌≡◌, refl, ◌↔◌, true, false, List, [], ◌∷◌, ℕ, ◌≤◌, ◌<◌, ◌+◌, leb, ltb, length, get_or, take}
use Rattle.std.proofs.Common.{sym, arith, lt-ltb, le-ltb, subst}
use Rattle.std.proofs.lemmas.Bool.{ltb-true, ltb-false}
use Rattle.std.proofs.lemmas.List.{length-take-le, get_or-take}
use Rattle.laws.specs.Booleans.{at_least, less}
use Rattle.laws.specs.Lists.{all, any, among}
use Rattle.laws.specs.Scans.{first_failing, all-exactly, failing-exactly}
use Rattle.limits.specs.Limits.{max_tokens}
use Rattle.refusals.specs.Table.{output_short_number, word_event_number}
use Rattle.refusals.specs.Table.{numbers_short_number, state_range_number}
use Rattle.refusals.specs.Results.{Result, value, bind, require, Refuses, refuses-end, refuses-test}
use Rattle.refusals.specs.Exactly.{Exactly, Gives, exactly-same, gives_same, exactly-here, exactly-later, gives_later, gives_value}
use Rattle.nets.specs.Nets.{Net}
use Rattle.nets.specs.Carrying.{initials, Played, play}
use Rattle.engine.specs.Engine.{reachable}

module _ (net : Net) (ts : List ℕ) where
  -- a number for each place
  abbrev pub Room : Type 0
  Room = length net ≤ length ts

  -- and none that no run reaches
  abbrev pub Reachable : Type 0
  Reachable = (j : ℕ) → j < length net → get_or ts j 0 ≤ max_tokens

  -- place j is the lowest with such a number
  abbrev pub LowestOver : ℕ → Type 0
  LowestOver j = (j < length net) × (max_tokens < get_or ts j 0) × ((i : ℕ) → i < j → get_or ts i 0 ≤ max_tokens)

  abbrev numbers : List ℕ
  numbers = take (length net) ts

  module _ (room : Room) where
    size : length numbers ≡ length net
    size = length-take-le (length net) ts room

    low : (j : ℕ) → j < length net → (reachable (get_or numbers j 0) ≡ true) ↔ (get_or ts j 0 ≤ max_tokens)
    low j h = subst (λ (t : ℕ). (reachable t ≡ true) ↔ (get_or ts j 0 ≤ max_tokens)) (sym (get_or-take (length net) ts j 0 h))
        (at_least (get_or ts j 0) max_tokens)

    high : (j : ℕ) → j < length net → (reachable (get_or numbers j 0) ≡ false) ↔ (max_tokens < get_or ts j 0)
    high j h = subst (λ (t : ℕ). (reachable t ≡ false) ↔ (max_tokens < get_or ts j 0)) (sym (get_or-take (length net) ts j 0 h))
        (less (get_or ts j 0) max_tokens)

    range-passed : (all reachable numbers ≡ true) ↔ Reachable
    range-passed =
        let law = all-exactly reachable 0 numbers in (
          (λ e j h. (low j h).0 (law.0 e j (omega (arith, size, h)))),
          (λ each. law.1 (λ j h. let there : j < length net = omega (arith, size, h) in (low j there).1 (each j there))),
        )

    range-failed : (j : ℕ) → ((j ≡ first_failing reachable numbers) × (all reachable numbers ≡ false)) ↔ LowestOver j
    range-failed j =
        let law = failing-exactly reachable 0 numbers j in (
          (λ e.
              let (within, here, below) = law.0 e in
              let there : j < length net = omega (arith, size, within) in
              (there, (high j there).0 here, λ i b. (low i (omega (arith, b, there))).0 (below i b))),
          (λ (there, over, below).
              law.1 (omega (arith, size, there), (high j there).1 over, λ i b. (low i (omega (arith, b, there))).1 (below i b))),
        )

  -- 5
  abbrev room_test : Result (Unit {0})
  room_test = require (leb (length net) (length ts)) numbers_short_number (length net)

  room-passed : (leb (length net) (length ts) ≡ true) ↔ Room
  room-passed = at_least (length net) (length ts)

  pub room_first : {A : Type 0} (m : Result A) {others : List ℕ} → Refuses others m → among numbers_short_number others ≡ false
      → Exactly (bind room_test (λ u. m)) numbers_short_number (λ spot. (spot ≡ length net) × (length ts < length net))
  room_first m only other = exactly-same (exactly-here (leb (length net) (length ts)) numbers_short_number (length net) m only other)
      (λ spot. ((λ (at, e). (at, (less (length net) (length ts)).0 e)), λ (at, h). (at, (less (length net) (length ts)).1 h)))

  -- starting: 5, then the initial tokens
  abbrev pub start_on : Result (List ℕ)
  start_on = bind room_test (λ u. value (initials net))

  pub start_on-refuses : Refuses (numbers_short_number ∷ []) start_on
  start_on-refuses = refuses-test _ _ _ (refuses-end (initials net))

  pub start_on_5 : Exactly start_on numbers_short_number (λ spot. (spot ≡ length net) × (length ts < length net))
  unfolding any
  start_on_5 = room_first (value (initials net)) (refuses-end (initials net)) refl

  pub start_on-gives : Gives start_on (λ us. Room × (us ≡ initials net))
  start_on-gives = gives_same (gives_later _ _ _ _ (gives_value (initials net)))
      (λ us. ((λ (e, is). (room-passed.0 e, is)), λ (h, is). (room-passed.1 h, is)))

  -- a step, where so many events have room: 5; 16; 15; 3; then the event is played
  module _ (n space number event : ℕ) where
    abbrev kept_on : Result Played
    kept_on = bind (require (ltb number space) output_short_number (number + 1)) (λ u. value (play net ts event))

    abbrev event_on : Result Played
    event_on = bind (require (ltb event n) word_event_number number) (λ u. kept_on)

    abbrev range_on : Result Played
    range_on = bind (require (all reachable numbers) state_range_number (first_failing reachable numbers)) (λ u. event_on)

    abbrev pub step_on : Result Played
    step_on = bind room_test (λ u. range_on)

    kept_on-refuses : Refuses (output_short_number ∷ []) kept_on
    kept_on-refuses = refuses-test _ _ _ (refuses-end (play net ts event))

    event_on-refuses : Refuses (word_event_number ∷ output_short_number ∷ []) event_on
    event_on-refuses = refuses-test _ _ _ kept_on-refuses

    range_on-refuses : Refuses (state_range_number ∷ word_event_number ∷ output_short_number ∷ []) range_on
    range_on-refuses = refuses-test _ _ _ event_on-refuses

    pub step_on-refuses : Refuses (numbers_short_number ∷ state_range_number ∷ word_event_number ∷ output_short_number ∷ []) step_on
    step_on-refuses = refuses-test _ _ _ range_on-refuses

    pub step_on_5 : Exactly step_on numbers_short_number (λ spot. (spot ≡ length net) × (length ts < length net))
    unfolding any
    step_on_5 = room_first range_on range_on-refuses refl

    pub step_on_16 : Exactly step_on state_range_number (λ spot. Room × LowestOver spot)
    unfolding any
    step_on_16 = exactly-same (exactly-later (leb (length net) (length ts)) numbers_short_number (length net) range_on (λ e. omega (arith, e))
        (exactly-here (all reachable numbers) state_range_number (first_failing reachable numbers) event_on event_on-refuses refl))
        (λ spot. (
          (λ (e, over). let room = room-passed.0 e in (room, (range-failed room spot).0 over)),
          λ (room, over). (room-passed.1 room, (range-failed room spot).1 over),
        ))

    pub step_on_15 : Exactly step_on word_event_number (λ spot. Room × Reachable × (spot ≡ number) × (n ≤ event))
    unfolding any
    step_on_15 = exactly-same (exactly-later (leb (length net) (length ts)) numbers_short_number (length net) range_on (λ e. omega (arith, e))
        (exactly-later (all reachable numbers) state_range_number (first_failing reachable numbers) event_on (λ e. omega (arith, e))
        (exactly-here (ltb event n) word_event_number number kept_on kept_on-refuses refl)))
        (λ spot. (
          (λ (e, (passed, (at, over))). let room = room-passed.0 e in (room, (range-passed room).0 passed, at, ltb-false event n over)),
          λ (room, each, at, over). (room-passed.1 room, ((range-passed room).1 each, (at, le-ltb event n over))),
        ))

    pub step_on_3 : Exactly step_on output_short_number (λ spot. Room × Reachable × (event < n) × (spot ≡ number + 1) × (space ≤ number))
    unfolding any
    step_on_3 = exactly-same (exactly-later (leb (length net) (length ts)) numbers_short_number (length net) range_on (λ e. omega (arith, e))
        (exactly-later (all reachable numbers) state_range_number (first_failing reachable numbers) event_on (λ e. omega (arith, e))
        (exactly-later (ltb event n) word_event_number number kept_on (λ e. omega (arith, e))
        (exactly-here (ltb number space) output_short_number (number + 1) (value (play net ts event)) (refuses-end (play net ts event)) refl))))
        (λ spot. (
          (λ (e, (passed, (below, (at, full)))).
              let room = room-passed.0 e in (room, (range-passed room).0 passed, ltb-true event n below, at, ltb-false number space full)),
          λ (room, each, below, at, full).
              (room-passed.1 room, ((range-passed room).1 each, (lt-ltb event n below, (at, le-ltb number space full)))),
        ))

    pub step_on-gives : Gives step_on (λ x. Room × Reachable × (event < n) × (number < space) × (x ≡ play net ts event))
    step_on-gives = gives_same (gives_later _ _ _ _ (gives_later _ _ _ _ (gives_later _ _ _ _ (gives_later _ _ _ _ (gives_value (play net ts event))))))
        (λ x. (
          (λ (e, (passed, (below, (there, is)))).
              let room = room-passed.0 e in (room, (range-passed room).0 passed, ltb-true event n below, ltb-true number space there, is)),
          λ (room, each, below, there, is).
              (room-passed.1 room, ((range-passed room).1 each, (lt-ltb event n below, (lt-ltb number space there, is)))),
        ))
