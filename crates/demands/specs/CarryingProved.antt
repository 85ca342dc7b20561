-- The calls of request 10, proved: the lines of Carrying.antt from the laws of the engine.
use Rattle.std.specs.Prelude.{◌≡◌, refl, ◌↔◌, List, ℕ, ◌+◌, ◌-◌, ◌≤◌, ◌<◌, length, get_or, set, take, drop, Ok}
use Rattle.std.proofs.Common.{sym, ap, ◌∙◌, arith, subst, length-set}
use Rattle.std.proofs.Math.ListN.{get_or-append}
use Rattle.std.proofs.Math.Seq.{drop-set-lt}
use Rattle.std.proofs.lemmas.List.{length-map, take_more_set}
use Rattle.laws.specs.Lists.{get_d_map, get_d_tabulate, length-tabulate}
use Rattle.laws.specs.Parts.{front, front_rest, take-front}
use Rattle.refusals.specs.Results.{Result, value, refused}
use Rattle.nets.specs.Nets.{Net, Place, no_place}
use Rattle.nets.specs.Carrying.{initials, tokens_behind, Played, moved, lacking, play}
use Rattle.nets.proofs.Plays.{play-moved, play-lacking}
use Rattle.bundles.specs.Readers.{net_in}
use Rattle.screening.specs.Joins.{read-exactly}
use Rattle.screening.proofs.JoinCauses.{empty-refused}
use Rattle.stops.specs.declared.Stop.{Stop}
use Rattle.refusals.specs.Answers.{output_of}
use Rattle.engine.specs.Engine.{starting, started, stepping, stepped, tokens_stepped, kept_stepped}
use Rattle.engine.specs.declared.Outcome.TheVariants.{Moved, Stopped}
use Rattle.engine.specs.Causes.{start-own, start_5, start-gives, step_14, step-own, step_5, step_16, step_15, step_3, step-gives, start_front, step_front}
use Rattle.engine.specs.Answers.{handed-refused, handed-value, tokens-left, tokens-kept, stepped-refused, stepped-moved, stepped-stopped}
use Rattle.engine.specs.Answers.{moved-left, kept-with, stopped-kept, refused-kept}
use Rattle.engine.specs.RefusalNumbers.{start_numbers_lem, step_numbers_lem}
use Rattle.demands.specs.Carrying.{start_leaves, step_answer, step_leaves, place_count, place_in, held, Leaves, SameFront, StartExactly, Tested}
use Rattle.demands.specs.Carrying.{Passed, LowestShort, Keeps, StepExactly, CallsOfEngine}

-- a number for each place, written in front of a slice
module _ (b : List ℕ) (us : List ℕ) (size : length us ≡ place_count b) where
  pub front-leaves : (ts : List ℕ) → place_count b ≤ length ts → (amount : ℕ → ℕ) → ((j : ℕ) → j < place_count b → held us j ≡ amount j)
      → Leaves b amount ts (front us ts)
  unfolding front
  front-leaves ts room amount is =
      let rest = front_rest us ts (front us ts) (place_count b) (sym size) refl (omega (arith, size, room)) in
      record {
        each = λ j h. get_or-append us (drop (length us) ts) 0 j (omega (arith, size, h)) ∙ is j h;
        rest = rest.1;
        size = rest.0;
      }

  same-front : (ts ts' : List ℕ) → SameFront b (front us ts) (front us ts')
  same-front ts ts' = subst (λ (n : ℕ). take n (front us ts) ≡ take n (front us ts')) size (take-front us ts ∙ sym (take-front us ts'))

module _ (b ts : List ℕ) where
  start-value : (us : List ℕ) → starting b ts ≡ value us → (place_count b ≤ length ts) × (us ≡ initials (net_in b)) × (length us ≡ place_count b)
  start-value us is =
      let (read, (room, same)) = ((start-gives b ts).line us).0 is in
      (room, same, ap length same ∙ length-map (net_in b) _)

  start-same : (ts' : List ℕ) → SameFront b ts ts' → SameFront b (start_leaves b ts) (start_leaves b ts')
  unfolding output_of
  start-same ts' same =
      subst (λ (m : Result (List ℕ)). SameFront b (start_leaves b ts) (output_of m ts')) (start_front b ts ts' same) (go (starting b ts) refl)
    where
      go : (m : Result (List ℕ)) → starting b ts ≡ m → SameFront b (output_of m ts) (output_of m ts')
      go (value us) is = same-front b us (start-value us is).2 ts ts'
      go (refused number spot) is = same

  pub start_exactly : StartExactly b ts
  start_exactly = record {
    own = λ k listed spot.
        let line = handed-refused 0 (start-own b ts k listed) spot in
        let own = empty-refused b k spot in
        ((λ e. own.1 (line.0 e)), λ e. line.1 (own.0 e));
    short = λ spot.
        let line = handed-refused 0 (start_5 b ts) spot in (
          (λ e. let (read, (at, less)) = line.0 e in (at, (read-exactly b).1 read, less)),
          λ (at, readable, less). line.1 ((read-exactly b).0 readable, (at, less)),
        );
    result = λ n. (
      (λ e.
          let (none, (us, is)) = (handed-value 0 n).0 e in
          let (read, (room, same)) = ((start-gives b ts).line us).0 is in
          (none, (read-exactly b).1 read, room)),
      λ (none, readable, room).
          let us = initials (net_in b) in
          (handed-value 0 n).1 (none, (us, ((start-gives b ts).line us).1 ((read-exactly b).0 readable, (room, refl)))),
    );
    tokens = λ n e.
        let (none, (us, is)) = (handed-value 0 n).0 e in
        let (room, same, size) = start-value us is in
        subst (Leaves b (λ j. (place_in b j).initial) ts) (sym (tokens-left is ts))
        (front-leaves b us size ts room (λ j. (place_in b j).initial) (λ j h.
        ap (λ (l : List ℕ). get_or l j 0) same ∙ get_d_map (λ (p : Place). p.initial) (net_in b) j no_place 0 h));
    refused = tokens-kept 0 (starting b ts) ts;
    front = λ ts' same. (ap started (start_front b ts ts' same), start-same ts' same);
  }

module _ (b ts kept : List ℕ) (number event : ℕ) where
  abbrev pub net : Net
  net = net_in b

  abbrev pub Given : Played → Type 0
  Given x = Passed b ts kept number event × (play net ts event ≡ x)

  -- what a step that is not refused has passed, and what it gives
  pub step-value : (x : Played) → (stepping b ts kept number event ≡ value x) ↔ Given x
  step-value x =
      let line = (step-gives b ts kept number event).line x in (
        (λ e.
            let (few, (read, (room, reachable, below, space, is))) = line.0 e in
            let tested : Tested b ts number = record { few = few; read = (read-exactly b).1 read; room = room; reachable = reachable } in
            (record { tested = tested; there = below; space = space }, sym is)),
        λ (passed, is).
            let t = passed.tested in
            line.1 (t.few, ((read-exactly b).0 t.read, (t.room, t.reachable, passed.there, passed.space, sym is))),
      )

  behind-size : length (tokens_behind net ts event) ≡ place_count b
  unfolding tokens_behind
  behind-size = length-tabulate (place_count b) _

  behind-each : (j : ℕ) → j < place_count b
      → held (tokens_behind net ts event) j ≡ held ts j - (place_in b j).consumed event + (place_in b j).produced event
  unfolding tokens_behind
  behind-each j h = get_d_tabulate (place_count b) _ j 0 h

  -- where it moves the tokens
  moved-given : (next : ℕ) → step_answer b ts kept number event ≡ Ok (Moved next)
      → (us : List ℕ) × (stepping b ts kept number event ≡ value (moved us)) × Given (moved us) × (us ≡ tokens_behind net ts event)
  moved-given next e =
      let (more, (us, is)) = (stepped-moved number next).0 e in
      let given = (step-value (moved us)).0 is in
      (us, is, given, ((play-moved net ts event us).0 given.1).1)

  -- where it stops
  stopped-given : (s : Stop) → (step_answer b ts kept number event ≡ Ok (Stopped s))
      ↔ (Passed b ts kept number event × (s.position ≡ number) × LowestShort b ts event s.place
      × (s.shortfall ≡ (place_in b s.place).consumed event - held ts s.place))
  stopped-given s = (
    (λ e.
        let (at, is) = (stepped-stopped number s).0 e in
        let (passed, lacks) = (step-value (lacking s.place s.shortfall)).0 is in
        let ((there, short, lower), amount) = (play-lacking net ts event s.place s.shortfall).0 lacks in
        (passed, at, record { there = there; short = short; below = lower }, amount)),
    λ (passed, at, low, amount).
        (stepped-stopped number s).1 (
          at,
          (step-value (lacking s.place s.shortfall)).1
              (passed, (play-lacking net ts event s.place s.shortfall).1 ((low.there, low.short, low.below), amount)),
        ),
  )

  step-same : (ts' : List ℕ) → SameFront b ts ts' → SameFront b (step_leaves b ts kept number event) (step_leaves b ts' kept number event)
  unfolding tokens_stepped
  step-same ts' same =
      subst (λ (m : Result Played). SameFront b (step_leaves b ts kept number event) (tokens_stepped m ts')) (step_front b ts ts' same kept number event)
      (go (stepping b ts kept number event) refl)
    where
      go : (m : Result Played) → stepping b ts kept number event ≡ m → SameFront b (tokens_stepped m ts) (tokens_stepped m ts')
      go (value (moved us)) is =
          let behind = ((play-moved net ts event us).0 ((step-value (moved us)).0 is).1).1 in
          same-front b us (ap length behind ∙ behind-size) ts ts'
      go (value (lacking j k)) is = same
      go (refused k spot) is = same

  set-keeps : number < length kept → Keeps kept number event (set kept number event)
  set-keeps space = record {
    events = take_more_set kept number event space;
    rest = drop-set-lt (number + 1) kept number event (omega arith);
    size = length-set kept number event;
  }

  pub step_exactly : StepExactly b ts kept number event
  step_exactly = record {
    many = stepped-refused number (step_14 b ts kept number event);
    own = λ k listed spot.
        let line = stepped-refused number (step-own b ts kept number event k listed) spot in
        let own = empty-refused b k spot in
        ((λ e. let (few, is) = line.0 e in (few, own.1 is)), λ (few, e). line.1 (few, own.0 e));
    short = λ spot.
        let line = stepped-refused number (step_5 b ts kept number event) spot in (
          (λ e. let (few, (read, (at, less))) = line.0 e in (at, few, (read-exactly b).1 read, less)),
          λ (at, few, readable, less). line.1 (few, ((read-exactly b).0 readable, (at, less))),
        );
    over = λ spot.
        let line = stepped-refused number (step_16 b ts kept number event) spot in (
          (λ e. let (few, (read, (room, (there, high, below)))) = line.0 e in (few, (read-exactly b).1 read, room, there, high, below)),
          λ (few, readable, room, there, high, below). line.1 (few, ((read-exactly b).0 readable, (room, (there, high, below)))),
        );
    no_event = λ spot.
        let line = stepped-refused number (step_15 b ts kept number event) spot in (
          (λ e.
              let (few, (read, (room, reachable, at, high))) = line.0 e in
              (at, record { few = few; read = (read-exactly b).1 read; room = room; reachable = reachable }, high)),
          λ (at, t, high). line.1 (t.few, ((read-exactly b).0 t.read, (t.room, t.reachable, at, high))),
        );
    full = λ spot.
        let line = stepped-refused number (step_3 b ts kept number event) spot in (
          (λ e.
              let (few, (read, (room, reachable, below, at, short))) = line.0 e in
              (at, record { few = few; read = (read-exactly b).1 read; room = room; reachable = reachable }, below, short)),
          λ (at, t, below, short). line.1 (t.few, ((read-exactly b).0 t.read, (t.room, t.reachable, below, at, short))),
        );
    stopped = stopped-given;
    lacks = λ s e. let (passed, at, low, amount) = (stopped-given s).0 e in omega (arith, low.short, amount);
    moved = λ next. (
      (λ e.
          let (more, (us, is)) = (stepped-moved number next).0 e in
          let (passed, plays) = (step-value (moved us)).0 is in
          (passed, omega (arith, more), ((play-moved net ts event us).0 plays).0)),
      λ (passed, more, enough).
          let behind = tokens_behind net ts event in
          (stepped-moved number next).1 (
            omega (arith, more),
            (behind, (step-value (moved behind)).1 (passed, (play-moved net ts event behind).1 (enough, refl))),
          ),
    );
    tokens = λ next e.
        let (us, is, (passed, plays), behind) = moved-given next e in
        subst (Leaves b _ ts) (sym (moved-left is ts))
        (front-leaves b us (ap length behind ∙ behind-size) ts passed.tested.room _
        (λ j h. ap (λ (l : List ℕ). get_or l j 0) behind ∙ behind-each j h));
    keeps = λ next e.
        let (us, is, (passed, plays), behind) = moved-given next e in
        subst (Keeps kept number event) (sym (kept-with is kept number event)) (set-keeps passed.space);
    stays = stopped-kept number (stepping b ts kept number event) ts kept event;
    refused = refused-kept number (stepping b ts kept number event) ts kept event;
    front = λ ts' same.
        let front = step_front b ts ts' same kept number event in
        (ap (stepped number) front, step-same ts' same, ap (λ (m : Result Played). kept_stepped m kept number event) front);
  }

pub calls-of-engine : CallsOfEngine
calls-of-engine = record {
  start_exactly = start_exactly;
  step_exactly = step_exactly;
  refusals_of_start = start_numbers_lem;
  refusals_of_step = step_numbers_lem;
}
