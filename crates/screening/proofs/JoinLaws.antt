-- The laws of the joined call: yes or no, order, a bundle joined to itself, the grouping of three, a net of no places, and where it stops.
use Rattle.std.specs.Prelude.{◌≡◌, refl, ◌↔◌, List, ℕ, ◌+◌, ◌-◌, ◌≤◌, ◌<◌, T, length, Err, None, Ok, Some}
use Rattle.std.proofs.Common.{sym, ap, ap₂, ◌∙◌, subst, append-nil, arith, length-append}
use Rattle.std.specs.Float.Ieee.Fits.{and_i, and_l, and_r}
use Rattle.laws.specs.Booleans.{impossible}
use Rattle.refusals.specs.Results.{Result, value, refused, bind}
use Rattle.refusals.specs.declared.Refusal.{Refusal}
use Rattle.nets.specs.Nets.{Word, Net, join, step_at, permits, screen, stopped}
use Rattle.nets.proofs.Shortfall.{refused-there}
use Rattle.nets.proofs.Joining.{permits-join, join_grouped, screen-itself, stops_first, stops_second}
use Rattle.bundles.specs.Layout.{Head}
use Rattle.bundles.specs.Readers.{read_head, events_in, net_in}
use Rattle.bundles.specs.HeadReading.{HeadIsRead, read_is, read-few}
use Rattle.screening.specs.Screening.{screening, joining, replayed, screened, screened_joined}
use Rattle.screening.specs.Screens.{Readable, readable-read, screened-replayed, replay-stops, replayed-stopped}
use Rattle.screening.specs.Joins.{JoinReadable, answer_on, screened-on, joined-on, answer-replayed, permitted-on, answer-same, readable-on}
use Rattle.screening.proofs.Joins.{joined→}
use Rattle.stops.specs.declared.Stop.{Stop}
use Rattle.screening.specs.Screening.{Screened}
use Rattle.screening.specs.JoinLaws.{NoPlaces, JoinOf}

-- ---- a bundle that is refused

module _ (first second : List ℕ) (w : Word) {number spot : ℕ} where
  pub joined-first-refused : read_head first ≡ refused number spot → screened_joined first second w ≡ screened first w
  unfolding screened_joined joining screened screening bind
  joined-first-refused e = rw e

  pub joined-second-refused : HeadIsRead first → read_head second ≡ refused number spot → screened_joined first second w ≡ screened second w
  unfolding screened_joined joining screened screening bind
  joined-second-refused one e = rw (one, e)

-- ---- readable words

module _ (first second : List ℕ) (w : Word) where
  -- the joined call refuses nothing exactly when neither bundle's screening does, and the event counts are the same
  pub join-readable : JoinReadable first second w ↔ (Readable first w × Readable second w × (events_in first ≡ events_in second))
  join-readable = (to, from)
    where
      n : ℕ
      n = events_in first

      both : Net
      both = join (net_in first) (net_in second)

      to : JoinReadable first second w → Readable first w × Readable second w × (events_in first ≡ events_in second)
      to readable =
          let (one, two, same) = joined→ first second w readable in
          let passed = (readable-on w n both).0 (λ r e. readable r (joined-on first second one two same w ∙ e)) in (
            (λ r e. (readable-on w n (net_in first)).1 passed r (sym (screened-on first one w) ∙ e)),
            (λ r e. (readable-on w n (net_in second)).1 passed r (ap (λ (k : ℕ). answer_on w k (net_in second)) same ∙ sym (screened-on second two w) ∙ e)),
            same,
          )

      from : Readable first w × Readable second w × (events_in first ≡ events_in second) → JoinReadable first second w
      from (readable, readable', same) =
          let one = readable-read first w readable in
          let two = readable-read second w readable' in
          let passed = (readable-on w n (net_in first)).0 (λ r e. readable r (screened-on first one w ∙ e)) in
          λ r e. (readable-on w n both).1 passed r (sym (joined-on first second one two same w) ∙ e)

  -- it replays a readable word on the joined place lists
  pub joined-replayed : JoinReadable first second w → screened_joined first second w ≡ replayed (screen (events_in first) (join (net_in first) (net_in second)) w)
  joined-replayed readable =
      let (one, two, same) = joined→ first second w readable in
      let on = joined-on first second one two same w in
      on ∙ answer-replayed w (events_in first) (join (net_in first) (net_in second)) ((readable-on w (events_in first) (join (net_in first) (net_in second))).0 (λ r e. readable r (on ∙ e)))

-- ---- yes or no

module _ (first second : List ℕ) (w : Word) where
  -- permitted exactly when both nets permit the word
  pub joined-permitted : (screened_joined first second w ≡ Ok None)
      ↔ ((screened first w ≡ Ok None) × (screened second w ≡ Ok None) × (events_in first ≡ events_in second))
  joined-permitted = (to, from)
    where
      n : ℕ
      n = events_in first

      other : {x : Screened} → x ≡ Ok None → (r : Refusal) → x ≡ Err r → ⊥
      other e r e' = impossible (cc (sym e ∙ e'))

      to : screened_joined first second w ≡ Ok None → (screened first w ≡ Ok None) × (screened second w ≡ Ok None) × (events_in first ≡ events_in second)
      to e =
          let (one, two, same) = joined→ first second w (other e) in
          let (passes, t) = (permitted-on w n (join (net_in first) (net_in second))).0 (sym (joined-on first second one two same w) ∙ e) in
          let both = subst T (permits-join n (net_in first) (net_in second) w) t in (
            screened-on first one w ∙ (permitted-on w n (net_in first)).1 (passes, and_l (permits n (net_in first) w) (permits n (net_in second) w) both),
            screened-on second two w
                ∙ ap (λ (k : ℕ). answer_on w k (net_in second)) (sym same)
                ∙ (permitted-on w n (net_in second)).1 (passes, and_r (permits n (net_in first) w) (permits n (net_in second) w) both),
            same,
          )

      from : (screened first w ≡ Ok None) × (screened second w ≡ Ok None) × (events_in first ≡ events_in second) → screened_joined first second w ≡ Ok None
      from (e, e', same) =
          let one = readable-read first w (other e) in
          let two = readable-read second w (other e') in
          let (passes, t) = (permitted-on w n (net_in first)).0 (sym (screened-on first one w) ∙ e) in
          let (passes', t') = (permitted-on w n (net_in second)).0 (ap (λ (k : ℕ). answer_on w k (net_in second)) same ∙ sym (screened-on second two w) ∙ e') in
          joined-on first second one two same w
          ∙ (permitted-on w n (join (net_in first) (net_in second))).1
          (passes, subst T (sym (permits-join n (net_in first) (net_in second) w)) (and_i (permits n (net_in first) w) (permits n (net_in second) w) t t'))

-- the order of the two makes no difference to yes or no
pub joined-order : (first second : List ℕ) (w : Word) → (screened_joined first second w ≡ Ok None) ↔ (screened_joined second first w ≡ Ok None)
joined-order first second w = (swap first second, swap second first)
  where
    swap : (a b : List ℕ) → screened_joined a b w ≡ Ok None → screened_joined b a w ≡ Ok None
    swap a b e = let (one, two, same) = (joined-permitted a b w).0 e in (joined-permitted b a w).1 (two, one, sym same)

-- ---- the whole answer

-- a bundle's head is read, or refused
read-or-refused : (b : List ℕ) {A : Type 0} → (HeadIsRead b → A) → ((number spot : ℕ) → read_head b ≡ refused number spot → A) → A
read-or-refused b {A} one other = go (read_head b) refl
  where
    go : (m : Result Head) → read_head b ≡ m → A
    go (value h) is = one (read_is b h is)
    go (refused number spot) is = other number spot is

-- a bundle joined to itself answers as it does alone
pub joined-itself : (b : List ℕ) (w : Word) → screened_joined b b w ≡ screened b w
joined-itself b w = read-or-refused b
    (λ read. joined-on b b read read refl w ∙ answer-same w (events_in b) (join (net_in b) (net_in b)) (net_in b) (screen-itself (events_in b) (net_in b) w) ∙ sym (screened-on b read w))
    (λ number spot is. joined-first-refused b b w is)

-- screening with one bundle is the joined screening with a net of no places, on either side
module _ (b none : List ℕ) (no : NoPlaces b none) (w : Word) where
  pub joined-none : screened_joined b none w ≡ screened b w
  joined-none = read-or-refused b
      (λ read. joined-on b none read no.read (no.events read) w
      ∙ ap (answer_on w (events_in b)) (ap (λ (l : Net). join (net_in b) l) no.places ∙ append-nil (net_in b))
      ∙ sym (screened-on b read w))
      (λ number spot is. joined-first-refused b none w is)

  pub none-joined : screened_joined none b w ≡ screened b w
  none-joined = read-or-refused b
      (λ read. joined-on none b no.read read (sym (no.events read)) w
      ∙ ap₂ (λ (k : ℕ) (l : Net). answer_on w k (join l (net_in b))) (sym (no.events read)) no.places
      ∙ sym (screened-on b read w))
      (λ number spot is. joined-second-refused none b w no.read is)

-- joining says of two bundles what screening says of one that holds both place lists
pub joined-whole : (first second whole : List ℕ) → JoinOf first second whole → (w : Word) → screened_joined first second w ≡ screened whole w
joined-whole first second whole j w =
    joined-on first second j.first_read j.second-read (j.first-events ∙ sym j.second-events) w
    ∙ ap₂ (answer_on w) j.first-events (sym j.places)
    ∙ sym (screened-on whole j.whole-read w)

-- the grouping of three makes no difference, to no part of the answer
pub joined_grouped : (a b c ab bc : List ℕ) → JoinOf a b ab → JoinOf b c bc → (w : Word) → screened_joined ab c w ≡ screened_joined a bc w
joined_grouped a b c ab bc left right w =
    let same : events_in ab ≡ events_in bc = sym left.second-events ∙ right.first-events in
    joined-on ab c left.whole-read right.second-read (same ∙ sym right.second-events) w
    ∙ ap₂ (answer_on w) (sym left.first-events)
    (ap (λ (l : Net). join l (net_in c)) left.places
    ∙ join_grouped (net_in a) (net_in b) (net_in c)
    ∙ ap (λ (l : Net). join (net_in a) l) (sym right.places))
    ∙ sym (joined-on a bc left.first_read right.whole-read (left.first-events ∙ same) w)

-- ---- where it stops

module _ (first second : List ℕ) (w : Word) (s : Stop) (is : screened_joined first second w ≡ Ok (Some s)) where
  stop-readable : JoinReadable first second w
  stop-readable r e = impossible (cc (sym is ∙ e))

  stops : screen (events_in first) (join (net_in first) (net_in second)) w ≡ stopped s.position s.place s.shortfall
  stops = (replayed-stopped _ s).0 (sym (joined-replayed first second w stop-readable) ∙ is)

  -- below the first net's place count it is the first net's own stop
  pub joined-stop-first : s.place < length (net_in first) → screened first w ≡ Ok (Some s)
  joined-stop-first h =
      let readable = (join-readable first second w).0 stop-readable in
      screened-replayed first w readable.0
      ∙ (replayed-stopped _ s).1 (stops_first (events_in first) (net_in first) (net_in second) w s.position s.place s.shortfall stops h)

  -- from there on the second's, its places numbered behind the first's
  pub joined-stop-second : length (net_in first) ≤ s.place
      → screened second w ≡ Ok (Some (record { position = s.position; place = s.place - length (net_in first); shortfall = s.shortfall }))
  joined-stop-second h =
      let (readable, readable', same) = (join-readable first second w).0 stop-readable in
      screened-replayed second w readable'
      ∙ ap (λ (k : ℕ). replayed (screen k (net_in second) w)) (sym same)
      ∙ (replayed-stopped _ (record { position = s.position; place = s.place - length (net_in first); shortfall = s.shortfall })).1
      (stops_second (events_in first) (net_in first) (net_in second) w s.position s.place s.shortfall stops h)

  -- a place of one of them, numbered 127 at most
  pub joined-place : (s.place < length (net_in first) + length (net_in second)) × (s.place ≤ 127)
  joined-place =
      let (one, two, same) = joined→ first second w stop-readable in
      let found = (replay-stops (events_in first) (join (net_in first) (net_in second)) w (joined-replayed first second w stop-readable) s).0 is in
      let there : s.place < length (net_in first) + length (net_in second) =
      omega (arith, refused-there (events_in first) (join (net_in first) (net_in second)) s.place (step_at (events_in first) w s.position) found.0.refuses, length-append (net_in first) (net_in second)) in
      (there, omega (arith, there, (read-few first one).1, (read-few second two).1))
