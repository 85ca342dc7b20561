-- Demand 2 for screening: a readable word's first refused step is named, or the word is permitted where there is none.
use Rattle.std.specs.Prelude.{◌≡◌, true, ◌↔◌, List, ℕ, ◌≤◌, T, leb, length, Err, None, Ok, Some}
use Rattle.std.proofs.Math.Path.{refl}
use Rattle.std.proofs.Common.{sym, ap, ◌∙◌, subst, le-leb, leb-true, ltb→lt, lt→ltb}
use Rattle.std.proofs.Math.Dec.{ltb}
use Rattle.laws.specs.Booleans.{impossible, yes_true}
use Rattle.laws.specs.Lists.{all, all-member, all_intro}
use Rattle.laws.specs.Numbers.{Bytes}
use Rattle.limits.specs.Limits.{max_bundle_size, max_word_events, right_size-bounds}
use Rattle.refusals.specs.Table.{word_length_number, word_event_number}
use Rattle.refusals.specs.Results.{Result, value, refused, bind, require, bind-value, passed}
use Rattle.refusals.specs.Answers.{refusal}
use Rattle.refusals.specs.declared.Refusal.{Refusal}
use Rattle.nets.specs.Nets as nets
use Rattle.nets.specs.Nets.{Word, Net, permitted, stopped, permits, screen}
use Rattle.nets.specs.Events.{first_bad}
use Rattle.nets.specs.Fits.{Below}
use Rattle.nets.specs.Screening.{FirstRefused, shortfall_at, screen-permitted}
use Rattle.nets.proofs.Screening.{screen-stopped-exactly}
use Rattle.bundles.specs.Layout.{Head, to_net, HeadInFront}
use Rattle.bundles.specs.Readers.{read_head, head_of, events_in, net_in}
use Rattle.bundles.specs.Limits.{→size}
use Rattle.bundles.specs.HeadReading.{HeadIsRead, read→front, front→read, read-head-of, read_is}
use Rattle.screening.specs.Screening.{word_on, screening, replayed, screened_of, screened, Screened}
use Rattle.stops.specs.declared.Stop.{Stop}
use Rattle.screening.specs.Screening.{Screened}

-- a word is readable with a bundle when no refusal meets the call
abbrev pub Readable : List ℕ → Word → Type 0
Readable b w = (r : Refusal) → screened b w ≡ Err r → ⊥

-- the bundle begins with the head h, in its limits, and w is a word over its events
pub record Screenable (b : List ℕ) (w : Word) (h : Head) (rest : List ℕ) : Type 0 where
  pub size : length b ≤ max_bundle_size
  pub front : HeadInFront b h rest
  pub word_size : length w ≤ max_word_events
  pub events : Below h.events w

-- ---- what a readable word has passed

record Passed (b : List ℕ) (w : Word) (h : Head) : Type 0 where
  word_size : leb (length w) max_word_events ≡ true
  head : read_head b ≡ value h
  events : all (λ e. ltb e h.events) w ≡ true

module _ (b : List ℕ) (w : Word) where
  screening→ : (x : nets.Answer) → screening b w ≡ value x → (h : Head) × Passed b w h
  unfolding screening word_on
  screening→ x e =
      let p = passed (leb (length w) max_word_events) word_length_number max_word_events (bind (read_head b) (λ h. word_on w h.events (to_net h))) x e in
      let (h, read, rest) = bind-value (read_head b) (λ h. word_on w h.events (to_net h)) x p.1 in
      let q = passed (all (λ e. ltb e h.events) w) word_event_number (first_bad h.events w) (value (screen h.events (to_net h) w)) x rest in
      (h, record { word_size = p.0; head = read; events = q.0 })

  readable→ : Readable b w → (h : Head) × Passed b w h
  unfolding screened screened_of
  readable→ readable = go (screening b w) refl readable
    where
      go : (m : Result nets.Answer) → screening b w ≡ m → ((r : Refusal) → screened_of m ≡ Err r → ⊥) → (h : Head) × Passed b w h
      go (value x) is rest = screening→ x is
      go (refused number spot) is rest = absurd (rest (refusal number spot) refl)

  →screened : (h : Head) → Passed b w h → screened b w ≡ replayed (screen h.events (to_net h) w)
  unfolding screened screening word_on require bind screened_of
  →screened h p = rw (p.word_size, p.head, p.events)

  -- the bundle is read up to its last place
  pub readable-read : Readable b w → HeadIsRead b
  readable-read readable = let a = readable→ readable in read_is b a.0 a.1.head

  -- screening replays a readable word on the bundle's net
  pub screened-replayed : Readable b w → screened b w ≡ replayed (screen (events_in b) (net_in b) w)
  screened-replayed readable =
      let a = readable→ readable in
      →screened a.0 a.1 ∙ ap (λ (h : Head). replayed (screen h.events (to_net h) w)) (sym (read-head-of b a.0 a.1.head))

-- the replay refuses nothing
pub replayed-never : (x : nets.Answer) (r : Refusal) → replayed x ≡ Err r → ⊥
unfolding replayed
replayed-never permitted r e = impossible cc
replayed-never (stopped i j k) r e = impossible cc

pub replayed-permitted : (x : nets.Answer) → (replayed x ≡ Ok None) ↔ (x ≡ permitted)
unfolding replayed
replayed-permitted permitted = ((λ e. refl), (λ e. refl))
replayed-permitted (stopped i j k) = ((λ e. impossible cc), (λ e. impossible cc))

pub replayed-stopped : (x : nets.Answer) (s : Stop) → (replayed x ≡ Ok (Some s)) ↔ (x ≡ stopped s.position s.place s.shortfall)
unfolding replayed
replayed-stopped permitted s = ((λ e. impossible cc), (λ e. impossible cc))
replayed-stopped (stopped i j k) s = ((λ e. same e), (λ e. ap replayed e))
  where
    same : ◌≡◌ {A = Screened} (Ok (Some (record { position = i; place = j; shortfall = k }))) (Ok (Some s)) → stopped i j k ≡ stopped s.position s.place s.shortfall
    same e = let stop : ◌≡◌ {A = Stop} (record { position = i; place = j; shortfall = k }) s = cc in ap (λ (r : Stop). stopped r.position r.place r.shortfall) stop

-- an answer that is a net's replay
module _ (n : ℕ) (net : Net) (w : Word) {answer : Screened} (is : answer ≡ replayed (screen n net w)) where
  pub replay-permits : (answer ≡ Ok None) ↔ T (permits n net w)
  replay-permits =
      let law = screen-permitted n net w in
      let found = replayed-permitted (screen n net w) in
      ((λ e. law.0 (found.0 (sym is ∙ e))), (λ t. is ∙ found.1 (law.1 t)))

  pub replay-stops : (s : Stop) → (answer ≡ Ok (Some s))
      ↔ (FirstRefused n net w s.position s.place × (s.shortfall ≡ shortfall_at n net w s.position s.place))
  replay-stops s =
      let law = screen-stopped-exactly n net w s.position s.place s.shortfall in
      let found = replayed-stopped (screen n net w) s in
      ((λ e. law.0 (found.0 (sym is ∙ e))), (λ f. is ∙ found.1 (law.1 f)))

module _ (b : List ℕ) (w : Word) (readable : Readable b w) where
  -- DEMAND 2: it answers permitted exactly when the net permits the word
  pub permitted-exactly : (screened b w ≡ Ok None) ↔ T (permits (events_in b) (net_in b) w)
  permitted-exactly = replay-permits (events_in b) (net_in b) w (screened-replayed b w readable)

  -- and stopped exactly when position and place are those of the first refused step, and the shortfall is that place's there
  pub stopped-exactly : (s : Stop) → (screened b w ≡ Ok (Some s))
      ↔ (FirstRefused (events_in b) (net_in b) w s.position s.place × (s.shortfall ≡ shortfall_at (events_in b) (net_in b) w s.position s.place))
  stopped-exactly = replay-stops (events_in b) (net_in b) w (screened-replayed b w readable)

-- ---- which words are readable

module _ (n : ℕ) (w : Word) where
  all→below : T (all (λ e. ltb e n) w) → Below n w
  all→below t e m = ltb→lt e n (all-member (λ e. ltb e n) w t m)

  below→all : Below n w → T (all (λ e. ltb e n) w)
  below→all below = all_intro (λ e. ltb e n) w (λ e m. lt→ltb e n (below e m))

-- its events are those of the bundle
pub readable-below : (b : List ℕ) (w : Word) → Readable b w → Below (events_in b) w
readable-below b w readable =
    let a = readable→ b w readable in
    subst (λ (h : Head). Below h.events w) (sym (read-head-of b a.0 a.1.head)) (all→below a.0.events w (rw a.1.events tt))

module _ (b : List ℕ) (bytes : Bytes b) (w : Word) where
  passed→ : (h : Head) → Passed b w h → (rest : List ℕ) × Screenable b w h rest
  passed→ h p =
      let (right, (rest, front)) = read→front b bytes h p.head in (
        rest,
        record {
          size = (right_size-bounds (length b) right).1;
          front = front;
          word_size = leb-true (length w) max_word_events p.word_size;
          events = all→below h.events w (rw p.events tt);
        },
      )

  →passed : (h : Head) (rest : List ℕ) → Screenable b w h rest → Passed b w h
  →passed h rest s = record {
    word_size = le-leb (length w) max_word_events s.word_size;
    head = front→read b bytes h rest (→size b h rest s.front.layout s.size) s.front;
    events = yes_true (all (λ e. ltb e h.events) w) (below→all h.events w s.events);
  }

  -- a word is readable exactly when the bundle begins with a head in its limits, and the word's events are that head's
  pub readable-exactly : Readable b w ↔ ((h : Head) × (rest : List ℕ) × Screenable b w h rest)
  readable-exactly = (to, λ r. from r.0 (→passed r.0 r.1 r.2))
    where
      to : Readable b w → (h : Head) × (rest : List ℕ) × Screenable b w h rest
      to readable = let a = readable→ b w readable in let s = passed→ a.0 a.1 in (a.0, s.0, s.1)

      from : (h : Head) → Passed b w h → Readable b w
      from h p r e = replayed-never (screen h.events (to_net h) w) r (sym (→screened b w h p) ∙ e)

  -- and then the layout's head is the bundle's
  pub screenable-head : (h : Head) (rest : List ℕ) → Screenable b w h rest → head_of b ≡ h
  screenable-head h rest s = read-head-of b h (→passed h rest s).head
