-- The exits of starting, a step and replacing, each with what the definition gives there.
use Rattle.std.specs.Prelude.{◌≡◌, true, List, ℕ, ◌+◌, ◌≤◌, ◌<◌, leb, length, set, take, T, Err, Ok, Some, None}
use Rattle.std.proofs.Common.{refl, sym, ap, ◌∙◌, subst, arith, add-one, le-ltb, lt-ltb, le-leb, leb-true, eq-eqb, ne_eqb, length-take-le}
use Rattle.std.proofs.lemmas.Bool.{lt-leb}
use Rattle.std.proofs.Math.Seq.{get_or-take}
use Rattle.std.proofs.lemmas.Option.{none-some}
use Rattle.std.proofs.lemmas.List.{length-map}
use Rattle.laws.specs.Booleans.{yes_true}
use Rattle.laws.specs.Lists.{all, all-member, get_d_member}
use Rattle.laws.specs.Parts.{front}
use Rattle.laws.specs.Scans.{first_failing}
use Rattle.limits.specs.Limits.{max_word_events, max_tokens}
use Rattle.refusals.specs.Table.{output_short_number, word_length_number, word_event_number, numbers_short_number, state_range_number, replaced_events_number}
use Rattle.refusals.specs.Results.{Result, value, refused, bind, require}
use Rattle.refusals.specs.Answers.{Answer, answered, output_of}
use Rattle.refusals.specs.Tests.{test-passed, test-failed}
use Rattle.refusals.specs.declared.Refusal.{Refusal}
use Rattle.nets.specs.Carrying.{initials, Played, moved, lacking, play}
use Rattle.bundles.specs.Layout.{to_net, to_place}
use Rattle.bundles.specs.Readers.{read_head, head_of, net_in}
use Rattle.bundles.specs.NetReading.{NetOf}
use Rattle.bundles.specs.declared.net.Net as bundle
use Rattle.stops.specs.Searching.{net-is}
use Rattle.engine.specs.Engine.{starting, reachable, stepping, replacing, kept_stepped, handed_back, stepped, tokens_stepped}
use Rattle.engine.specs.Playing.{places_of, places-count, Ready, lack_in, left_by}
use Rattle.engine.specs.Replaying.{marking_of}
use Rattle.engine.specs.declared.Outcome.TheVariants.{Moved, Stopped}
use Rattle.engine.specs.declared.playing.Lack.{Lack}

-- ---- the tests, as the code answers them

module _ (count : ℕ) (ts : List ℕ) where
  -- 5
  abbrev pub room_answer : Answer (Unit {0})
  room_answer = answered (require (leb count (length ts)) numbers_short_number count)

  -- 16
  abbrev pub tokens_answer : Answer (Unit {0})
  tokens_answer = answered (require (all reachable (take count ts)) state_range_number (first_failing reachable (take count ts)))

-- ---- the chains

module _ (b ts : List ℕ) where
  pub start_unread : (r : Refusal) → read_head b ≡ refused r.number r.spot → starting b ts ≡ refused r.number r.spot
  unfolding starting bind
  start_unread r e = rw e

  -- the places of a net that was read are those of the bundle
  module _ (net : bundle.Net) (is : NetOf b net) where
    same_net : to_net (head_of b) ≡ places_of net
    same_net = ap net_in (sym is.same) ∙ net-is is.found

    count-is : length (head_of b).places ≡ net.count
    unfolding to_net
    count-is = sym (length-map (head_of b).places to_place) ∙ ap length same_net ∙ places-count net

    pub start_short : {r : Refusal} → Err r ≡ room_answer net.count ts → starting b ts ≡ refused r.number r.spot
    unfolding starting bind require
    start_short e = let (short, is_r) = test-failed numbers_short_number net.count _ e in rw (is.read, count-is, short, is_r)

    pub start_room : {u : Unit {0}} → Ok u ≡ room_answer net.count ts → starting b ts ≡ value (initials (places_of net))
    unfolding starting bind require
    start_room e = let fits = test-passed numbers_short_number net.count _ e in rw (is.read, count-is, fits, same_net)

module _ (b ts kept : List ℕ) (number event : ℕ) where
  pub number_large : max_word_events ≤ number → stepping b ts kept number event ≡ refused word_length_number max_word_events
  unfolding stepping bind require
  number_large h = rw (le-ltb number max_word_events h)

  module _ (few : number < max_word_events) where
    pub step_unread : (r : Refusal) → read_head b ≡ refused r.number r.spot → stepping b ts kept number event ≡ refused r.number r.spot
    unfolding stepping bind require
    step_unread r e = rw (lt-ltb number max_word_events few, e)

    module _ (net : bundle.Net) (is : NetOf b net) where
      pub step_short : {r : Refusal} → Err r ≡ room_answer net.count ts → stepping b ts kept number event ≡ refused r.number r.spot
      unfolding stepping bind require
      step_short e =
          let (short, is_r) = test-failed numbers_short_number net.count _ e in
          rw (lt-ltb number max_word_events few, is.read, count-is b ts net is, short, is_r)

      module _ {u : Unit {0}} (room : Ok u ≡ room_answer net.count ts) where
        fits : leb net.count (length ts) ≡ true
        fits = test-passed numbers_short_number net.count _ room

        pub step_unreachable : {r : Refusal} → Err r ≡ tokens_answer net.count ts → stepping b ts kept number event ≡ refused r.number r.spot
        unfolding stepping bind require
        step_unreachable e =
            let (over, is_r) = test-failed state_range_number _ _ e in
            rw (lt-ltb number max_word_events few, is.read, count-is b ts net is, fits, over, is_r)

        module _ {v : Unit {0}} (held : Ok v ≡ tokens_answer net.count ts) where
          all_reachable : all reachable (take net.count ts) ≡ true
          all_reachable = test-passed state_range_number _ _ held

          -- so an event that is there can be played
          pub ready : event < net.n → Ready net ts event
          ready h = record {
            room = leb-true net.count (length ts) fits;
            reachable = λ j b.
                let there : j < length (take net.count ts) = omega (arith, b, length-take-le net.count ts (leb-true net.count (length ts) fits)) in
                let passes = all-member reachable (take net.count ts) (rw all_reachable tt) (get_d_member (take net.count ts) j 0 there) in
                leb-true _ max_tokens (yes_true _ (subst (λ (t : ℕ). T (reachable t)) (get_or-take net.count ts j 0 b) passes));
            below = h;
          }

          pub event_bad : net.n ≤ event → stepping b ts kept number event ≡ refused word_event_number number
          unfolding stepping bind require
          event_bad h =
              rw (lt-ltb number max_word_events few, is.read, count-is b ts net is, fits, all_reachable, is.events, le-ltb event net.n h)

          module _ (there : event < net.n) where
            pub kept_full : length kept ≤ number → stepping b ts kept number event ≡ refused output_short_number (number + 1)
            unfolding stepping bind require
            kept_full h =
                rw (lt-ltb number max_word_events few, is.read, count-is b ts net is, fits, all_reachable, is.events, lt-ltb event net.n there, le-ltb number (length kept) h)

            pub step_played : number < length kept → stepping b ts kept number event ≡ value (play (places_of net) ts event)
            unfolding stepping bind require
            step_played h =
                rw (lt-ltb number max_word_events few, is.read, count-is b ts net is, fits, all_reachable, same_net b ts net is, is.events)
                (rw (lt-ltb event net.n there, lt-ltb number (length kept) h))

-- ---- replacing

module _ (old new ts kept : List ℕ) (number : ℕ) where
  pub replace_large : max_word_events < number → replacing old new ts kept number ≡ refused word_length_number max_word_events
  unfolding replacing bind require
  replace_large h = rw (lt-leb number max_word_events h)

  module _ (few : number ≤ max_word_events) where
    pub replace_unkept : length kept < number → replacing old new ts kept number ≡ refused output_short_number number
    unfolding replacing bind require
    replace_unkept h = rw (le-leb number max_word_events few, lt-leb number (length kept) h)

    module _ (kept_all : number ≤ length kept) where
      pub old_unread : (r : Refusal) → read_head old ≡ refused r.number r.spot → replacing old new ts kept number ≡ refused r.number r.spot
      unfolding replacing bind require
      old_unread r e = rw (le-leb number max_word_events few, le-leb number (length kept) kept_all, e)

      module _ (one : bundle.Net) (is_one : NetOf old one) where
        pub new_unread : (r : Refusal) → read_head new ≡ refused r.number r.spot → replacing old new ts kept number ≡ refused r.number r.spot
        unfolding replacing bind require
        new_unread r e = rw (le-leb number max_word_events few, le-leb number (length kept) kept_all, is_one.read, e)

        module _ (two : bundle.Net) (is_two : NetOf new two) where
          pub other_events : (one.n ≡ two.n → ⊥) → replacing old new ts kept number ≡ refused replaced_events_number 0
          unfolding replacing bind require
          other_events differ =
              rw (le-leb number max_word_events few, le-leb number (length kept) kept_all, is_one.read, is_two.read, is_one.events, is_two.events)
              (rw (ne_eqb one.n two.n differ))

          module _ (same : one.n ≡ two.n) where
            pub replace_short : {r : Refusal} → Err r ≡ room_answer two.count ts → replacing old new ts kept number ≡ refused r.number r.spot
            unfolding replacing bind require
            replace_short e =
                let (short, is_r) = test-failed numbers_short_number two.count _ e in
                rw (le-leb number max_word_events few, le-leb number (length kept) kept_all, is_one.read, is_two.read, is_one.events, is_two.events)
                (rw (eq-eqb one.n two.n same, count-is new ts two is_two, short, is_r))

            pub replace_room : {u : Unit {0}} → Ok u ≡ room_answer two.count ts → replacing old new ts kept number ≡ marking_of two (take number kept)
            unfolding replacing marking_of bind require
            replace_room e =
                let fits = test-passed numbers_short_number two.count _ e in
                rw (le-leb number max_word_events few, le-leb number (length kept) kept_all, is_one.read, is_two.read, same_net new ts two is_two)
                (rw (is_one.events, is_two.events, eq-eqb one.n two.n same, count-is new ts two is_two, fits))

-- ---- how a call ends

module _ (ts : List ℕ) where
  module _ {m : Result (List ℕ)} where
    -- the call hands back x
    module _ {A : Type 0} (x : A) where
      pub call-refused : (r : Refusal) → m ≡ refused r.number r.spot → (Err r ≡ handed_back x m) × (ts ≡ output_of m ts)
      unfolding handed_back output_of
      call-refused r e = rw e (refl, refl)

      pub call-ends : (us : List ℕ) → m ≡ value us → (Ok x ≡ handed_back x m) × (front us ts ≡ output_of m ts)
      unfolding handed_back output_of
      call-ends us e = rw e (refl, refl)

  module _ {m : Result Played} (number : ℕ) where
    pub step-refused : (kept : List ℕ) (event : ℕ) (r : Refusal) → m ≡ refused r.number r.spot
        → (Err r ≡ stepped number m) × (ts ≡ tokens_stepped m ts) × (kept ≡ kept_stepped m kept number event)
    unfolding stepped tokens_stepped kept_stepped
    step-refused kept event r e = rw e (refl, refl, refl)

    module _ (p : Played) (is : m ≡ value p) where
      pub step-left : left_by p ts ≡ tokens_stepped m ts
      unfolding left_by tokens_stepped
      step-left = rw is (go p)
        where
          go : (q : Played) → left_by q ts ≡ tokens_stepped (value q) ts
          go (moved us) = refl
          go (lacking j k) = refl

      pub step-moved : None ≡ lack_in p → Ok (Moved (number + 1)) ≡ stepped number m
      unfolding lack_in stepped
      step-moved none = rw is (go p none)
        where
          go : (q : Played) → None ≡ lack_in q → Ok (Moved (number + 1)) ≡ stepped number (value q)
          go (moved us) e = rw (add-one number) refl
          go (lacking j k) e = absurd (none-some _ e)

      pub step-stopped : (l : Lack) → Some l ≡ lack_in p
          → Ok (Stopped (record { position = number; place = l.place; shortfall = l.shortfall })) ≡ stepped number m
      unfolding lack_in stepped
      step-stopped l some = rw is (go p some)
        where
          go : (q : Played) → Some l ≡ lack_in q
              → Ok (Stopped (record { position = number; place = l.place; shortfall = l.shortfall })) ≡ stepped number (value q)
          go (moved us) e = absurd (none-some _ (sym e))
          go (lacking j k) e =
              let same : l ≡ record { place = j; shortfall = k } = cc in
              ap (λ (x : Lack). Ok (Stopped (record { position = number; place = x.place; shortfall = x.shortfall }))) same

      -- the buffer behind a permitted event, and behind one that is stopped
      module _ (kept : List ℕ) (event : ℕ) where
        pub kept-moved : None ≡ lack_in p → set kept number event ≡ kept_stepped m kept number event
        unfolding lack_in kept_stepped
        kept-moved none = rw is (go p none)
          where
            go : (q : Played) → None ≡ lack_in q → set kept number event ≡ kept_stepped (value q) kept number event
            go (moved us) e = refl
            go (lacking j k) e = absurd (none-some _ e)

        pub kept-stopped : (l : Lack) → Some l ≡ lack_in p → kept ≡ kept_stepped m kept number event
        unfolding lack_in kept_stepped
        kept-stopped l some = rw is (go p some)
          where
            go : (q : Played) → Some l ≡ lack_in q → kept ≡ kept_stepped (value q) kept number event
            go (moved us) e = absurd (none-some _ (sym e))
            go (lacking j k) e = refl
