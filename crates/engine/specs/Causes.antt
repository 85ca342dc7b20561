-- Exactly when starting and a step refuse with each number, at which spot, and what they give.
use Rattle.std.specs.Prelude.{T, min, ◌≡◌, refl, true, false, not, List, [], ◌∷◌, ℕ, ◌≤◌, ◌<◌, ◌+◌, leb, ltb, length, take}
use Rattle.std.proofs.Common.{sym, ap, ◌∙◌, arith, lt-ltb, le-ltb, le-leb, subst, ⊎_elim}
use Rattle.std.proofs.lemmas.Bool.{ltb-true, ltb-false, lt-leb}
use Rattle.std.proofs.lemmas.List.{length-map, length-take}
use mathlib.Core.Logic.Iff
use Rattle.laws.specs.Booleans.{no_false, lt_or_le}
use Rattle.laws.specs.Lists.{all, any, among, among-all, not-among}
use Rattle.laws.specs.Scans.{first_failing}
use Rattle.limits.specs.Limits.{max_word_events}
use Rattle.refusals.specs.Table.{bundle_length_number, bundle_end_number, value_number, events_number, word_length_number, word_event_number}
use Rattle.refusals.specs.Table.{output_short_number, numbers_short_number, state_range_number}
use Rattle.refusals.specs.Results.{Result, value, refused, bind, require, bind-value, Refuses, refuses-then, refuses-wider}
use Rattle.refusals.specs.Exactly.{Exactly, Gives, exactly-same, gives_same, exactly-here, exactly-later, gives_later, exactly-first}
use Rattle.refusals.specs.Exactly.{exactly-behind}
use Rattle.nets.specs.Carrying.{initials, Played, play}
use Rattle.nets.proofs.Plays.{play-front}
use Rattle.bundles.specs.Layout.{Head, to_net}
use Rattle.bundles.specs.Readers.{read_head, head_of, events_in, net_in}
use Rattle.bundles.specs.HeadReading.{HeadIsRead, head_refusal_numbers, head-refuses, read-head-of, read_is}
use Rattle.engine.specs.Engine.{room_for, starting, reachable, stepping}
use Rattle.engine.specs.NetTests.{Room, Reachable, LowestOver, start_on, start_on-refuses, start_on_5, start_on-gives, step_on, step_on-refuses}
use Rattle.engine.specs.NetTests.{step_on_5, step_on_16, step_on_15, step_on_3, step_on-gives}

-- a call that reads a head, then goes on with it: its own refusals, those behind it, and what it gives
module _ (b : List ℕ) {A : Type 0} {f : Head → Result A} where
  -- the head's
  pub own : {others : List ℕ} → ((h : Head) → Refuses others (f h)) → T (all (λ k. not (among k others)) head_refusal_numbers)
      → (number : ℕ) → among number head_refusal_numbers ≡ true → Exactly (bind (read_head b) f) number (λ spot. read_head b ≡ refused number spot)
  own {others} rest apart number listed = exactly-first (record { line = λ spot. Iff.rfl }) rest
      (no_false (among number others) (among-all (λ k. not (among k others)) head_refusal_numbers apart number (rw listed tt)))

  pub behind : {number : ℕ} {D : Head → ℕ → Type 0} → among number head_refusal_numbers ≡ false → ((h : Head) → Exactly (f h) number (D h))
      → Exactly (bind (read_head b) f) number (λ spot. HeadIsRead b × D (head_of b) spot)
  behind other line = exactly-same (exactly-behind (head-refuses b) other line) (λ spot. (
    (λ (h, is, d). (read_is b h is, rw (read-head-of b h is) d)),
    λ (is, d). (head_of b, is, d),
  ))

  pub gives : {When : Head → A → Type 0} → ((h : Head) → Gives (f h) (When h)) → Gives (bind (read_head b) f) (λ x. HeadIsRead b × When (head_of b) x)
  unfolding bind
  gives line = record {
    line = λ x. (
      (λ e. let (h, is, rest) = bind-value (read_head b) f x e in (read_is b h is, rw (read-head-of b h is) (((line h).line x).0 rest))),
      λ (is, w). rw is (((line (head_of b)).line x).1 w),
    );
  }

pub head-places : (h : Head) → length (to_net h) ≡ length h.places
unfolding to_net
head-places h = length-map h.places _

module _ (b ts : List ℕ) where
  start_chain : starting b ts ≡ bind (read_head b) (λ h. start_on (to_net h) ts)
  unfolding starting bind
  start_chain = go (read_head b)
    where
      go : (m : Result Head) → bind m (λ h. bind (room_for h ts) (λ u. value (initials (to_net h)))) ≡ bind m (λ h. start_on (to_net h) ts)
      go (value h) = rw (head-places h)
      go (refused number spot) = refl

  pub start-own : (number : ℕ) → among number head_refusal_numbers ≡ true → Exactly (starting b ts) number (λ spot. read_head b ≡ refused number spot)
  unfolding all any
  start-own number listed = rw start_chain (own b (λ h. start_on-refuses (to_net h) ts) tt number listed)

  pub start_5 : Exactly (starting b ts) numbers_short_number (λ spot. HeadIsRead b × ((spot ≡ length (net_in b)) × (length ts < length (net_in b))))
  unfolding any
  start_5 = rw start_chain (behind b refl (λ h. start_on_5 (to_net h) ts))

  pub start-gives : Gives (starting b ts) (λ us. HeadIsRead b × (Room (net_in b) ts × (us ≡ initials (net_in b))))
  start-gives = rw start_chain (gives b (λ h. start_on-gives (to_net h) ts))

  module _ (kept : List ℕ) (number event : ℕ) where
    abbrev behind_number : Result Played
    behind_number = bind (read_head b) (λ h. step_on (to_net h) ts h.events (length kept) number event)

    step_chain : stepping b ts kept number event ≡ bind (require (ltb number max_word_events) word_length_number max_word_events) (λ u. behind_number)
    unfolding stepping bind
    step_chain = go (read_head b)
      where
        on : Head → Result Played
        on h = bind (room_for h ts) (λ u.
            bind (require (all reachable (take (length h.places) ts)) state_range_number (first_failing reachable (take (length h.places) ts))) (λ u.
            bind (require (ltb event h.events) word_event_number number) (λ u.
            bind (require (ltb number (length kept)) output_short_number (number + 1)) (λ u. value (play (to_net h) ts event)))))

        go : (m : Result Head) → bind (require (ltb number max_word_events) word_length_number max_word_events) (λ u. bind m on)
            ≡ bind (require (ltb number max_word_events) word_length_number max_word_events)
            (λ u. bind m (λ h. step_on (to_net h) ts h.events (length kept) number event))
        go (value h) = rw (head-places h)
        go (refused k spot) = refl

    behind_number-refuses : Refuses (bundle_length_number ∷ bundle_end_number ∷ value_number ∷ events_number
        ∷ numbers_short_number ∷ state_range_number ∷ word_event_number ∷ output_short_number ∷ []) behind_number
    unfolding all any
    behind_number-refuses = refuses-then (refuses-wider tt (head-refuses b))
        (λ h. refuses-wider tt (step_on-refuses (to_net h) ts h.events (length kept) number event))

    later : {k : ℕ} {C : ℕ → Type 0} → (word_length_number ≡ k → ⊥) → Exactly behind_number k C
        → Exactly (stepping b ts kept number event) k (λ spot. (number < max_word_events) × C spot)
    later other line = rw step_chain (exactly-same
        (exactly-later (ltb number max_word_events) word_length_number max_word_events behind_number other line)
        (λ spot. ((λ (e, c). (ltb-true number max_word_events e, c)), λ (h, c). (lt-ltb number max_word_events h, c))))

    -- ---- 14, 4, then 6, 7, 8 in bundle order, 5, 16, 15, 3, then the event

    pub step_14 : Exactly (stepping b ts kept number event) word_length_number (λ spot. (spot ≡ max_word_events) × (max_word_events ≤ number))
    unfolding any
    step_14 = rw step_chain (exactly-same
        (exactly-here (ltb number max_word_events) word_length_number max_word_events behind_number behind_number-refuses refl)
        (λ spot. ((λ (at, e). (at, ltb-false number max_word_events e)), λ (at, h). (at, le-ltb number max_word_events h))))

    pub step-own : (k : ℕ) → among k head_refusal_numbers ≡ true
        → Exactly (stepping b ts kept number event) k (λ spot. (number < max_word_events) × (read_head b ≡ refused k spot))
    unfolding all any
    step-own k listed = later (not-among head_refusal_numbers word_length_number k refl listed)
        (own b (λ h. step_on-refuses (to_net h) ts h.events (length kept) number event) tt k listed)

    pub step_5 : Exactly (stepping b ts kept number event) numbers_short_number
        (λ spot. (number < max_word_events) × (HeadIsRead b × ((spot ≡ length (net_in b)) × (length ts < length (net_in b)))))
    unfolding any
    step_5 = later (λ e. omega (arith, e)) (behind b refl (λ h. step_on_5 (to_net h) ts h.events (length kept) number event))

    pub step_16 : Exactly (stepping b ts kept number event) state_range_number
        (λ spot. (number < max_word_events) × (HeadIsRead b × (Room (net_in b) ts × LowestOver (net_in b) ts spot)))
    unfolding any
    step_16 = later (λ e. omega (arith, e)) (behind b refl (λ h. step_on_16 (to_net h) ts h.events (length kept) number event))

    pub step_15 : Exactly (stepping b ts kept number event) word_event_number
        (λ spot. (number < max_word_events) × (HeadIsRead b
        × (Room (net_in b) ts × Reachable (net_in b) ts × (spot ≡ number) × (events_in b ≤ event))))
    unfolding any
    step_15 = later (λ e. omega (arith, e)) (behind b refl (λ h. step_on_15 (to_net h) ts h.events (length kept) number event))

    pub step_3 : Exactly (stepping b ts kept number event) output_short_number
        (λ spot. (number < max_word_events) × (HeadIsRead b
        × (Room (net_in b) ts × Reachable (net_in b) ts × (event < events_in b) × (spot ≡ number + 1) × (length kept ≤ number))))
    unfolding any
    step_3 = later (λ e. omega (arith, e)) (behind b refl (λ h. step_on_3 (to_net h) ts h.events (length kept) number event))

    pub step-gives : Gives (stepping b ts kept number event)
        (λ x. (number < max_word_events) × (HeadIsRead b
        × (Room (net_in b) ts × Reachable (net_in b) ts × (event < events_in b) × (number < length kept) × (x ≡ play (net_in b) ts event))))
    step-gives = rw step_chain (gives_same (gives_later _ _ _ _ (gives b (λ h. step_on-gives (to_net h) ts h.events (length kept) number event)))
        (λ x. ((λ (e, c). (ltb-true number max_word_events e, c)), λ (h, c). (lt-ltb number max_word_events h, c))))

-- ---- What stands behind the numbers of the places makes no difference

same-room : (k : ℕ) (ts us : List ℕ) → take k ts ≡ take k us → leb k (length ts) ≡ leb k (length us)
same-room k ts us same =
    let sizes : min k (length ts) ≡ min k (length us) = sym (length-take k ts) ∙ ap length same ∙ length-take k us in
    ⊎_elim
    (λ h. lt-leb k (length ts) h ∙ sym (lt-leb k (length us) (omega (arith, sizes, h))))
    (λ h. le-leb k (length ts) h ∙ sym (le-leb k (length us) (omega (arith, sizes, h))))
    (lt_or_le (length ts) k)

module _ (b ts us : List ℕ) (same : take (length (net_in b)) ts ≡ take (length (net_in b)) us) where
  of_head : (h : Head) → read_head b ≡ value h → take (length (to_net h)) ts ≡ take (length (to_net h)) us
  of_head h is = subst (λ (x : Head). take (length (to_net x)) ts ≡ take (length (to_net x)) us) (read-head-of b h is) same

  pub start_front : starting b ts ≡ starting b us
  unfolding bind
  start_front = start_chain b ts ∙ go (read_head b) refl ∙ sym (start_chain b us)
    where
      go : (m : Result Head) → read_head b ≡ m → bind m (λ h. start_on (to_net h) ts) ≡ bind m (λ h. start_on (to_net h) us)
      go (value h) is = rw (same-room (length (to_net h)) ts us (of_head h is))
      go (refused number spot) is = refl

  pub step_front : (kept : List ℕ) (number event : ℕ) → stepping b ts kept number event ≡ stepping b us kept number event
  unfolding bind
  step_front kept number event = step_chain b ts kept number event
      ∙ ap (λ (m : Result Played). bind (require (ltb number max_word_events) word_length_number max_word_events) (λ u. m)) (go (read_head b) refl)
      ∙ sym (step_chain b us kept number event)
    where
      go : (m : Result Head) → read_head b ≡ m
          → bind m (λ h. step_on (to_net h) ts h.events (length kept) number event)
          ≡ bind m (λ h. step_on (to_net h) us h.events (length kept) number event)
      go (value h) is = rw (same-room (length (to_net h)) ts us (of_head h is), of_head h is, play-front (to_net h) ts us event (of_head h is))
      go (refused number spot) is = refl
