-- The run of request 10, proved: behind each permitted word the slice has the marking, and the next answer is that of screening.
use Rattle.std.specs.Prelude.{◌≡◌, refl, ℕ, ◌+◌, ◌*◌, ◌≤◌, ◌<◌, ℤ, pos, length, take, drop, Err, None, Ok}
use Rattle.std.proofs.Common.{sym, ap, ap₂, ◌∙◌, arith, subst, ⊎_elim, length-append}
use Rattle.std.proofs.Math.Seq.{append_snoc}
use mathlib.Core.List.Memᴰ
use mathlib.Core.List.{List, [], ◌∷◌, ◌++◌, foldl, append-nil}
use Rattle.laws.specs.Booleans.{impossible, lt_or_le}
use Rattle.laws.specs.Every.{every_member}
use Rattle.laws.specs.Lists.{get_d_member}
use Rattle.laws.specs.Numbers.{Bytes}
use Rattle.refusals.specs.Results.{Result, value}
use Rattle.refusals.specs.Answers.{refusal, Answer}
use Rattle.nets.specs.Nets.{Word, Place, no_place, counts, tokens, screen_after, screen, permitted}
use Rattle.nets.specs.Fits.{Below, below-shorter, below_snoc}
use Rattle.nets.specs.Markings.{moved as moved_on, moved-amount, tokens_none, tokens_snoc}
use Rattle.nets.specs.Carrying.{Played, moved, lacking, play, carry}
use Rattle.nets.specs.Carrying as theory
use Rattle.nets.proofs.Carrying.{carry-screens}
use Rattle.bundles.specs.Layout.{PlaceInLimits, HeadInLimits, to_place, to_net}
use Rattle.bundles.specs.Readers.{head_of, events_in, net_in}
use Rattle.bundles.specs.HeadReading.{HeadIsRead, read→front}
use Rattle.screening.specs.Screening.{screened, replayed}
use Rattle.screening.specs.Screens.{replayed-never}
use Rattle.screening.specs.ScreenLaws.{word-long}
use Rattle.screening.specs.Joins.{read-exactly}
use Rattle.engine.specs.Engine.{stepped}
use Rattle.engine.specs.declared.Outcome.{Outcome}
use Rattle.engine.specs.declared.Outcome.TheVariants.{Moved, Stopped}
use Rattle.demands.specs.Carrying.{start_answer, step_keeps, place_count, place_in, held, Tested, Passed, StepExactly}
use Rattle.demands.specs.Carried.{State, first_number, next_number, begun, answer_at, behind, go_on, steps}
use Rattle.demands.specs.CarryingProved.{start_exactly, step_exactly, step-value}
use Rattle.demands.specs.Permitting.{Permitted, permitted→, →permitted, permitted-shorter, answered-so, one_more, screen-behind, bad_answer, stopped-longer}
use Rattle.demands.specs.ShortfallsProved.{two_bytes}
use Rattle.laws.specs.Parts.{drop_more}

-- ---- What a step answers, in the words of screening

module _ (number : ℕ) where
  stepped-replayed : (x : Played) → go_on (stepped number (value x)) (Ok None) ≡ replayed (theory.go_on number x (λ us. permitted))
  unfolding go_on stepped replayed theory.go_on
  stepped-replayed (moved us) = refl
  stepped-replayed (lacking j k) = refl

-- ---- Where a run is

pub same_state : (s s' : State) → s.number ≡ s'.number → s.slice ≡ s'.slice → s.kept ≡ s'.kept → s ≡ s'
same_state s s' one two three =
    ap (λ (k : ℕ). record { number = k; slice = s.slice; kept = s.kept }) one
    ∙ ap₂ (λ (l ks : List ℕ). record { number = s'.number; slice = l; kept = ks }) two three

-- the invariant of a run: the marking, at most 65,535 tokens more for each event, and the events
pub record Held (b ts kept : List ℕ) (u : Word) (s : State) : Type 0 where
  pub number : s.number ≡ length u
  pub marking : (j : ℕ) → j < place_count b → pos (held s.slice j) ≡ tokens (events_in b) (place_in b j) (counts (events_in b) u)
  pub rest : drop (place_count b) s.slice ≡ drop (place_count b) ts
  pub size : length s.slice ≡ length ts
  pub most : (j : ℕ) → j < place_count b → held s.slice j ≤ 65535 + length u * 65535
  pub events : take (length u) s.kept ≡ u
  pub untouched : drop (length u) s.kept ≡ drop (length u) kept
  pub buffer : length s.kept ≡ length kept

module _ (b : List ℕ) (bytes : Bytes b) (read : HeadIsRead b) where
  limits : HeadInLimits (head_of b)
  limits = let (right, (rest, front)) = read→front b bytes (head_of b) read in front.limits

  pub in_place : (j : ℕ) → j < place_count b → ((place_in b j).initial ≤ 65535) × ((e : ℕ) → (place_in b j).produced e ≤ 65535)
  unfolding to_net to_place
  in_place j h =
      let m = Memᴰ.of_map to_place (head_of b).places (get_d_member (net_in b) j no_place h) in
      let p = every_member (PlaceInLimits (head_of b).events) (head_of b).places limits.places m.1 in
      let first : m.0.initial ≤ 65535 = omega (arith, p.initial) in
      subst (λ (q : Place). (q.initial ≤ 65535) × ((e : ℕ) → q.produced e ≤ 65535)) m.2 (first, two_bytes m.0.produced p.produced)

  module _ (ts kept : List ℕ) (room : place_count b ≤ length ts) where
    pub start-held : (start_answer b ts ≡ Ok 0) × Held b ts kept [] (begun b ts kept)
    unfolding begun first_number
    start-held =
        let calls = start_exactly b ts in
        let e : start_answer b ts ≡ Ok 0 = (calls.result 0).1 (refl, (read-exactly b).1 read, room) in
        let left = calls.tokens 0 e in (
          e,
          record {
            number = ap first_number e;
            marking = λ j h. ap pos (left.each j h) ∙ sym (tokens_none (events_in b) (place_in b j));
            rest = left.rest;
            size = left.size;
            most = λ j h. omega (arith, left.each j h, (in_place j h).0);
            events = refl;
            untouched = refl;
            buffer = refl;
          },
        )

    module _ (u : Word) (p : Permitted b u) (s : State) (at : Held b ts kept u s) where
      tested : length u < 65535 → Tested b s.slice s.number
      tested few = record {
        few = omega (arith, at.number, few);
        read = (read-exactly b).1 read;
        room = omega (arith, at.size, room);
        reachable = λ j h. omega (arith, at.most j h, few);
      }

      played : (e : ℕ) → e < events_in b
          → theory.go_on (length u) (play (net_in b) s.slice e) (λ us. permitted) ≡ screen_after (events_in b) (net_in b) u (e ∷ [])
      unfolding carry
      played e below = carry-screens (events_in b) (net_in b) (e ∷ []) u s.slice at.marking
          (λ x m. subst (λ (y : ℕ). y < events_in b) (sym (Memᴰ.eq_of_singleton m)) below)

      -- the answer to each event is that of screening, where there is room for it if it is kept
      pub held-next : (e : ℕ) → (length u < 65535 → e < events_in b → length u < length kept) → go_on (answer_at b s e) (Ok None) ≡ screened b (u ++ e ∷ [])
      unfolding go_on
      held-next e space = ⊎_elim
          (λ few. ⊎_elim (λ below. good few below) (λ over. bad few over) (lt_or_le e (events_in b)))
          many
          (lt_or_le (length u) 65535)
        where
          calls : StepExactly b s.slice s.kept s.number e
          calls = step_exactly b s.slice s.kept s.number e

          many : 65535 ≤ length u → go_on (answer_at b s e) (Ok None) ≡ screened b (u ++ e ∷ [])
          many h =
              ap (λ (a : Answer Outcome). go_on a (Ok None)) ((calls.many 65535).1 (refl, omega (arith, at.number, h)))
              ∙ sym (word-long b (u ++ e ∷ []) (omega (arith, one_more b u e, h)))

          bad : length u < 65535 → events_in b ≤ e → go_on (answer_at b s e) (Ok None) ≡ screened b (u ++ e ∷ [])
          bad few over =
              ap (λ (a : Answer Outcome). go_on a (Ok None)) ((calls.no_event (length u)).1 (sym at.number, tested few, over))
              ∙ sym (bad_answer b u p e over few)

          good : length u < 65535 → e < events_in b → go_on (answer_at b s e) (Ok None) ≡ screened b (u ++ e ∷ [])
          good few below =
              let passed : Passed b s.slice s.kept s.number e =
              record { tested = tested few; there = below; space = omega (arith, at.number, at.buffer, space few below) } in
              let gives = (step-value b s.slice s.kept s.number e (play (net_in b) s.slice e)).1 (passed, refl) in
              ap (λ (m : Result Played). go_on (stepped s.number m) (Ok None)) gives
              ∙ stepped-replayed s.number (play (net_in b) s.slice e)
              ∙ ap (λ (k : ℕ). replayed (theory.go_on k (play (net_in b) s.slice e) (λ us. permitted))) at.number
              ∙ ap replayed (played e below ∙ sym (screen-behind b u p (e ∷ [])))
              ∙ sym (answered-so b read (u ++ e ∷ []) (omega (arith, one_more b u e, few)) ((below_snoc (events_in b) u e).1 (p.below, below)))

      -- a full buffer
      pub held-full : (e : ℕ) → length u < 65535 → e < events_in b → length kept ≤ length u → answer_at b s e ≡ Err (refusal 3 (length u + 1))
      held-full e few below short = ((step_exactly b s.slice s.kept s.number e).full (length u + 1)).1 (
        omega (arith, at.number),
        tested few,
        below,
        omega (arith, at.number, at.buffer, short),
      )

      -- a permitted event moves the run on
      pub held-moved : (e : ℕ) → e < events_in b → length u < 65535 → (next : ℕ) → answer_at b s e ≡ Ok (Moved next)
          → Held b ts kept (u ++ e ∷ []) (behind b s e)
      unfolding behind next_number
      held-moved e below few next is =
          let calls = step_exactly b s.slice s.kept s.number e in
          let (passed, more, enough) = (calls.moved next).0 is in
          let left = calls.tokens next is in
          let keeps = calls.keeps next is in
          let one : length (u ++ e ∷ []) ≡ s.number + 1 = omega (arith, one_more b u e, at.number) in
          record {
            number = ap (next_number s.number) is ∙ omega (arith, more, at.number, one_more b u e);
            marking = λ j h.
                let q = place_in b j in
                let t = held s.slice j in
                ap pos (left.each j h) ∙ sym (moved-amount q t e (enough j h))
                ∙ ap (λ (z : ℤ). moved_on q z e) (at.marking j h) ∙ sym (tokens_snoc (events_in b) q u e below);
            rest = left.rest ∙ at.rest;
            size = left.size ∙ at.size;
            most = λ j h. omega (arith, left.each j h, at.most j h, (in_place j h).1 e, one_more b u e);
            events =
                ap (λ (k : ℕ). take k (step_keeps b s.slice s.kept s.number e)) one ∙ keeps.events
                ∙ ap (λ (k : ℕ). take k s.kept ++ e ∷ []) at.number ∙ ap (λ (w : Word). w ++ e ∷ []) at.events;
            untouched =
                ap (λ (k : ℕ). drop k (step_keeps b s.slice s.kept s.number e)) one ∙ keeps.rest
                ∙ drop_more (length u) (s.number + 1) s.kept kept (omega (arith, at.number)) at.untouched ∙ ap (λ (k : ℕ). drop k kept) (sym one);
            buffer = keeps.size ∙ at.buffer;
          }

    -- behind the events of w, where those and the ones before are permitted and have room
    pub held-after : (w u : Word) (s : State) → Permitted b (u ++ w) → length (u ++ w) ≤ length kept → Held b ts kept u s
        → Held b ts kept (u ++ w) (foldl (behind b) s w)
    unfolding go_on
    held-after [] u s p space at = subst (λ (x : Word). Held b ts kept x s) (sym (append-nil u)) at
    held-after (e ∷ w) u s p space at =
        let longer : Permitted b ((u ++ e ∷ []) ++ w) = subst (Permitted b) (sym (append_snoc u e w)) p in
        let one = permitted-shorter b (u ++ e ∷ []) w longer in
        let before = permitted-shorter b u (e ∷ []) one in
        let few : length u < 65535 = omega (arith, one.short, one_more b u e) in
        let below = ((below_snoc (events_in b) u e).0 one.below).1 in
        let room_for_it : length u < length kept = omega (arith, space, length-append u (e ∷ w)) in
        let next = moves (answer_at b s e) (held-next u before s at e (λ f l. room_for_it) ∙ →permitted b (u ++ e ∷ []) one) in
        subst (λ (x : Word). Held b ts kept x (foldl (behind b) (behind b s e) w)) (append_snoc u e w)
        (held-after w (u ++ e ∷ []) (behind b s e) longer (subst (λ (x : Word). length x ≤ length kept) (sym (append_snoc u e w)) space)
        (held-moved u before s at e below few next.0 next.1))
      where
        moves : (a : Answer Outcome) → go_on a (Ok None) ≡ Ok None → (next : ℕ) × (a ≡ Ok (Moved next))
        moves (Ok (Moved next)) q = (next, refl)
        moves (Ok (Stopped t)) q = impossible cc
        moves (Err r) q = impossible cc

    -- the steps for a word that follows a permitted one, with room for both
    pub steps-screened : (w u : Word) (s : State) → Permitted b u → Held b ts kept u s → length (u ++ w) ≤ 65535 → Below (events_in b) (u ++ w)
        → length (u ++ w) ≤ length kept → steps b s w ≡ screened b (u ++ w)
    unfolding steps go_on
    steps-screened [] u s p at short below space = sym (→permitted b u p) ∙ ap (screened b) (sym (append-nil u))
    steps-screened (e ∷ w) u s p at short below space = go (answer_at b s e) refl (held-next u p s at e (λ f l. room_for_it)) (λ next is permits.
        steps-screened w (u ++ e ∷ []) (behind b s e) (permitted→ b (u ++ e ∷ []) permits)
        (held-moved u p s at e ((below_snoc (events_in b) u e).0 one).1 few next is)
        (subst (λ (x : Word). length x ≤ 65535) (sym (append_snoc u e w)) short) (subst (Below (events_in b)) (sym (append_snoc u e w)) below)
        (subst (λ (x : Word). length x ≤ length kept) (sym (append_snoc u e w)) space)
        ∙ ap (screened b) (append_snoc u e w))
      where
        one : Below (events_in b) (u ++ e ∷ [])
        one = below-shorter (events_in b) (u ++ e ∷ []) w (subst (Below (events_in b)) (sym (append_snoc u e w)) below)

        few : length u < 65535
        few = omega (arith, short, length-append u (e ∷ w))

        room_for_it : length u < length kept
        room_for_it = omega (arith, space, length-append u (e ∷ w))

        go : (a : Answer Outcome) → answer_at b s e ≡ a → go_on a (Ok None) ≡ screened b (u ++ e ∷ [])
            → ((next : ℕ) → answer_at b s e ≡ Ok (Moved next) → screened b (u ++ e ∷ []) ≡ Ok None
            → steps b (behind b s e) w ≡ screened b (u ++ e ∷ w))
            → go_on a (steps b (behind b s e) w) ≡ screened b (u ++ e ∷ w)
        go (Ok (Moved next)) is q rest = rest next is (sym q)
        go (Ok (Stopped t)) is q rest = sym (stopped-longer b u p e w short below one t (sym q))
        go (Err r) is q rest = absurd (replayed-never (screen (events_in b) (net_in b) (u ++ e ∷ [])) r
            (sym (answered-so b read (u ++ e ∷ []) (omega (arith, few, one_more b u e)) one) ∙ sym q))
