-- A bundle up to its last place: its head as the code reads it, and the answer of a call that reads it and does not judge.
use Rattle.std.specs.Prelude.{◌≡◌, Bool, cond, List, [], ◌∷◌, ℕ, ◌+◌, ◌-◌, ◌*◌, ◌%◌, ◌≤◌, ◌<◌, length, drop, Ok, Err}
use Rattle.std.proofs.Math.Path.{refl, ap, ap₂}
use Rattle.std.proofs.Props.{props}
use Rattle.std.proofs.Common.{sym, ◌∙◌, subst, arith}
use Rattle.std.proofs.Math.Bool.{true, false}
use Rattle.std.proofs.Math.Logic.{inl}
use Rattle.std.proofs.Math.ListN.{length-map}
use Rattle.laws.specs.Booleans.{impossible}
use Rattle.laws.specs.Numbers.{Bytes}
use Rattle.laws.specs.Lists.{any}
use Rattle.limits.specs.Limits.{max_events, max_places, new_edition, right_size}
use Rattle.refusals.specs.Table.{bundle_length_number, bundle_end_number, value_number, events_number}
use Rattle.refusals.specs.Results.{value, refused, bind, Result, Refuses, refuses-value, refuses-test, refuses-then}
use Rattle.refusals.specs.Results as results
use Rattle.refusals.specs.Exactly.{Exactly, exactly-here, exactly-later}
use Rattle.refusals.specs.declared.Refusal.{Refusal}
use Rattle.nets.specs.Nets.{Log, Entry}
use Rattle.bundles.specs.Reading.{Read, got, item, ◌>>=◌, and_then, give, require, byte, following, onward, item_in}
use Rattle.bundles.specs.Layout.{head_bytes, HeadInFront, PlaceFields, First, Head, to_place, to_net}
use Rattle.bundles.specs.Readers.{first_byte, to_first, first, anything, entry, places, head_after, head, any_rows, bundle_size, bundle_head, head_in, head_of, net_in, read_head, events_in}
use Rattle.bundles.specs.FieldReading.{between, between_true, byte-got}
use Rattle.bundles.specs.ReadingLaws.{and_then-got, require-got}
use Rattle.bundles.specs.NumberReading.{items_at, items-length}
use Rattle.bundles.specs.WordReading.{events_of, entries-unlimited}
use Rattle.bundles.specs.PlaceReading.{Kept, place_size, spot_of, end_of, fields_at, kept_places, places_read, placed, place_inside, PlacesAt, places-got}
use Rattle.bundles.specs.Limits.{got→front, front→got}
use Rattle.bundles.specs.Refusing.{reader_head}
use Rattle.std.specs.Borrow.{Bor}
use Rattle.refusals.specs.Answers.{Answer}
use Rattle.bundles.specs.Reading as reading
use Rattle.bundles.specs.Chains.{answer_in, mapped, map_read}

-- a first byte that was read says 1 to 12 events
pub first-limits : (b : List ℕ) (at : ℕ) (f : First) (next : ℕ) → first b at ≡ got f next → (1 ≤ f.events) × (f.events ≤ max_events)
unfolding first to_first
first-limits b at f next e =
    let m = and_then-got b (first_byte b at) (λ x. give (to_first x)) f next e in
    let said : to_first m.0 ≡ f = cc m.3 in
    let in_range = between_true 1 max_events (m.0 % new_edition) (byte-got (λ x. between 1 max_events (x % new_edition)) b at m.0 m.1 m.2).0 in
    subst (λ (g : First). (1 ≤ g.events) × (g.events ≤ max_events)) said in_range

-- what the code keeps of a head: the event count, and where the places are
unfoldable pub net_read : Bor (List ℕ) → Read Head → Read Kept
net_read bundle (value (item h next)) = got (kept_places bundle h.events h.places next) next
net_read bundle (refused number spot) = refused number spot

-- a reader of a head, as the code keeps it
abbrev pub headed : Bor (List ℕ) → reading.Reader Head → reading.Reader Kept
headed bundle r b at = net_read bundle (r b at)

-- without the offset behind it
abbrev pub head_read : Bor (List ℕ) → Read Head → Answer Kept
head_read bundle m = answer_in (net_read bundle m)

-- ---- the laws

module _ (rows_fit : ℕ → Log → Bool) (b : List ℕ) where
  pub head-failed : (start : ℕ) {number spot : ℕ} → first b start ≡ refused number spot → head rows_fit b start ≡ refused number spot
  unfolding head bind onward
  head-failed start e = rw e

  pub head-got : (start : ℕ) {f : First} {at : ℕ} → first b start ≡ got f at → head rows_fit b start ≡ head_after rows_fit f b at
  unfolding head bind onward
  head-got start e = rw e

  module _ (f : First) (at : ℕ) where
    pub after-failed : {number spot : ℕ} → byte anything b at ≡ refused number spot → head_after rows_fit f b at ≡ refused number spot
    unfolding head_after bind onward
    after-failed e = rw e

    module _ {words start : ℕ} (counted : byte anything b at ≡ got words start) where
      pub words-failed : {number spot : ℕ} → following words (entry (rows_fit f.events) f) b start ≡ refused number spot
          → head_after rows_fit f b at ≡ refused number spot
      unfolding head_after bind onward
      words-failed e = rw (counted, e)

-- what the code keeps of a head, by the reads that it makes: behind the words, the word count and the first byte
module _ (bundle : Bor (List ℕ)) (rows_fit : ℕ → Log → Bool) (f : First) where
  abbrev pub behind_words : ℕ → reading.Reader Kept
  behind_words events = placed bundle f.events (places f.events)

  abbrev pub behind_count : ℕ → reading.Reader Kept
  behind_count count = mapped events_of (following count (entry (rows_fit f.events) f)) >>= behind_words

  abbrev pub behind_first : reading.Reader Kept
  behind_first = byte anything >>= behind_count

pub head_chain : (bundle : Bor (List ℕ)) (rows_fit : ℕ → Log → Bool) (b : List ℕ) (at : ℕ)
    → headed bundle (head rows_fit) b at ≡ (first >>= behind_first bundle rows_fit) b at
unfolding head head_after bind onward net_read places_read map_read
head_chain bundle rows_fit b at = by_first (first b at)
  where
    made : First → List Entry → List PlaceFields → Head
    made f xs ps = record { is_new = f.is_new; events = f.events; entries = xs; places = ps }

    by_places : (f : First) (xs : List Entry) (m : Read (List PlaceFields))
        → net_read bundle (and_then m (λ ps. give (made f xs ps)) b) ≡ places_read bundle f.events m
    by_places f xs (value (item ps next)) = refl
    by_places f xs (refused number spot) = refl

    by_words : (f : First) (m : Read (List Entry))
        → net_read bundle (and_then m (λ xs. places f.events >>= λ ps. give (made f xs ps)) b)
        ≡ and_then (map_read events_of m) (behind_words bundle rows_fit f) b
    by_words f (value (item xs next)) = by_places f xs (places f.events b next)
    by_words f (refused number spot) = refl

    by_count : (f : First) (m : Read ℕ)
        → net_read bundle
        (and_then m (λ count. following count (entry (rows_fit f.events) f) >>= λ xs. places f.events >>= λ ps. give (made f xs ps)) b)
        ≡ and_then m (behind_count bundle rows_fit f) b
    by_count f (value (item count next)) = by_words f (following count (entry (rows_fit f.events) f) b next)
    by_count f (refused number spot) = refl

    by_first : (m : Read First) → net_read bundle (and_then m (head_after rows_fit) b) ≡ and_then m (behind_first bundle rows_fit) b
    by_first (value (item f next)) = by_count f (byte anything b next)
    by_first (refused number spot) = refl

-- behind the bundle's length
module _ (b : List ℕ) where
  pub size_wrong : right_size (length b) ≡ false → bundle_head b 0 ≡ refused bundle_length_number 0
  unfolding bundle_head bundle_size require bind onward
  size_wrong e = rw e

  behind-size : (h : Head) (next : ℕ) → bundle_head b 0 ≡ got h next → head any_rows b 0 ≡ got h next
  unfolding bundle_head bundle_size
  behind-size h next e = (require-got (right_size (length b)) bundle_length_number 0 (head any_rows) b 0 h next e).1

  pub size-right : right_size (length b) ≡ true → bundle_head b 0 ≡ head any_rows b 0
  unfolding bundle_head bundle_size require bind onward
  size-right e = rw e

-- ---- a head that was read

-- the net is what the code keeps of the head of its bundle, which is read up to the last place
pub record HeadAt (net : Kept) : Type 0 where
  pub read : head any_rows net.bundle.now 0 ≡ got (head_of net.bundle.now) (end_of net)
  pub events : (head_of net.bundle.now).events ≡ net.n
  pub limits : (1 ≤ net.n) × (net.n ≤ max_events)
  pub few : net.count ≤ max_places
  pub places : (head_of net.bundle.now).places ≡ items_at (place_size net.n) (fields_at net.n) net.count net.bundle.now net.first
  pub inside : end_of net ≤ length net.bundle.now

-- it has one proof at most
pub HeadAt-prop : (net : Kept) → IsProp (HeadAt net)
HeadAt-prop net = hlevel props

module _ {net : Kept} (found : HeadAt net) where
  -- so many places are there
  pub place-count : length (head_of net.bundle.now).places ≡ net.count
  place-count = ap length found.places ∙ items-length (place_size net.n) (fields_at net.n) net.count net.bundle.now net.first

  pub net-size : length (net_in net.bundle.now) ≡ net.count
  unfolding to_net
  net-size = length-map (head_of net.bundle.now).places to_place ∙ place-count

  -- each lies in the bundle
  pub place_within : (j : ℕ) → j < net.count → spot_of net j + 2 * place_size net.n ≤ length net.bundle.now
  place_within j h = place_inside net.n net.first net.count j (length net.bundle.now) h found.inside

module _ (rows_fit : ℕ → Log → Bool) (b : List ℕ) (f : First) (h : Head) (next : ℕ) where
  -- what the last reader of a head says of its places
  last-got : (xs : List Entry) (at : ℕ) (m : Read (List PlaceFields)) → places f.events b at ≡ m
      → and_then m (λ ps. give (record { is_new = f.is_new; events = f.events; entries = xs; places = ps })) b ≡ got h next
      → (h.events ≡ f.events) × PlacesAt f.events b h.places next
  unfolding bind onward
  last-got xs at (value (item ps end)) is e =
      let same : record { is_new = f.is_new; events = f.events; entries = xs; places = ps } ≡ h = cc in
      let ends : end ≡ next = cc in
      (sym (ap (λ (x : Head). x.events) same), places-got f.events b at h.places next (is ∙ ap₂ got (ap (λ (x : Head). x.places) same) ends))
  last-got xs at (refused number spot) is e = impossible cc

  after-got : (at : ℕ) → head_after rows_fit f b at ≡ got h next → (h.events ≡ f.events) × PlacesAt f.events b h.places next
  unfolding head_after
  after-got at e =
      let words = and_then-got b (byte anything b at) _ h next e in
      let xs = and_then-got b (following words.0 (entry (rows_fit f.events) f) b words.1) _ h next words.3 in
      last-got xs.0 xs.1 (places f.events b xs.1) refl xs.3

-- the event count's limits, and the places
head-parts : (rows_fit : ℕ → Log → Bool) (b : List ℕ) (h : Head) (next : ℕ) → head rows_fit b 0 ≡ got h next
    → ((1 ≤ h.events) × (h.events ≤ max_events)) × PlacesAt h.events b h.places next
head-parts rows_fit b h next e = go (first b 0) refl
  where
    go : (m : Read First) → first b 0 ≡ m → ((1 ≤ h.events) × (h.events ≤ max_events)) × PlacesAt h.events b h.places next
    go (value (item f at)) is =
        let rest = after-got rows_fit b f h next at (sym (head-got rows_fit b 0 is) ∙ e) in
        let limits = first-limits b 0 f at is in
        ((omega (arith, limits, rest.0), omega (arith, limits, rest.0)), subst (λ (k : ℕ). PlacesAt k b h.places next) (sym rest.0) rest.1)
    go (refused number spot) is = let never : refused number spot ≡ got h next = sym (head-failed rows_fit b 0 is) ∙ e in impossible cc

-- ---- the bundle's head

-- a head that was read with a limit on the rows is read the same without one, and it is the bundle's
pub head_unlimited : (rows_fit : ℕ → Log → Bool) (b : List ℕ) (h : Head) (next : ℕ) → head rows_fit b 0 ≡ got h next → head any_rows b 0 ≡ got h next
unfolding head head_after bind onward
head_unlimited rows_fit b h next e =
    let f = and_then-got b (first b 0) (head_after rows_fit) h next e in
    let behind = λ (xs : List Entry). places f.0.events
    >>= (λ (ps : List PlaceFields). give (record { is_new = f.0.is_new; events = f.0.events; entries = xs; places = ps })) in
    let count = and_then-got b (byte anything b f.1) (λ (count : ℕ). following count (entry (rows_fit f.0.events) f.0) >>= behind) h next f.3 in
    let xs = and_then-got b (following count.0 (entry (rows_fit f.0.events) f.0) b count.1) behind h next count.3 in
    rw (f.2, count.2, entries-unlimited (rows_fit f.0.events) f.0 b count.0 [] count.1 xs.0 xs.1 xs.2) xs.3

pub head-of : (b : List ℕ) (h : Head) (next : ℕ) → head any_rows b 0 ≡ got h next → head_of b ≡ h
unfolding head_of head_in
head-of b h next e = rw e

-- what the code keeps of a head
kept_of : (bundle : Bor (List ℕ)) (h : Head) (next : ℕ) → head any_rows bundle.now 0 ≡ got h next → head_of bundle.now ≡ h
    → HeadAt (kept_places bundle h.events h.places next) × (end_of (kept_places bundle h.events h.places next) ≡ next)
kept_of bundle h next is same =
    let b = bundle.now in
    let parts = head-parts any_rows b h next is in
    let p = parts.1 in
    let n = h.events in
    let size : length h.places ≡ p.count = ap length p.items ∙ items-length (place_size n) (fields_at n) p.count b p.first in
    let product : length h.places * place_size n ≡ p.count * place_size n = ap (λ (k : ℕ). k * place_size n) size in
    let first_of = next - 2 * (length h.places * place_size n) in
    let first : first_of ≡ p.first = omega (arith, p.end, product) in
    let end : first_of + 2 * (length h.places * place_size n) ≡ next = omega (arith, p.end, product) in (
      record {
        read = is ∙ ap₂ got (sym same) (sym end);
        events = ap (λ (x : Head). x.events) same;
        limits = parts.0;
        few = omega (arith, size, p.few);
        places = ap (λ (x : Head). x.places) same
            ∙ p.items
            ∙ ap₂ (λ (k at : ℕ). items_at (place_size n) (fields_at n) k b at) (sym size) (sym first);
        inside = omega (arith, p.end, p.within, product);
      },
      end,
    )

pub head-taken : (rows_fit : ℕ → Log → Bool) (bundle : Bor (List ℕ)) (h : Head) (next : ℕ) → head rows_fit bundle.now 0 ≡ got h next
    → (head_of bundle.now ≡ h) × HeadAt (kept_places bundle h.events h.places next) × (end_of (kept_places bundle h.events h.places next) ≡ next)
head-taken rows_fit bundle h next e =
    let is = head_unlimited rows_fit bundle.now h next e in
    let same = head-of bundle.now h next is in
    let kept = kept_of bundle h next is same in
    (same, kept.0, kept.1)

-- a head that the code has read, behind the bundle's length
pub head-kept : (bundle : Bor (List ℕ)) (net : Kept) → head_read bundle (bundle_head bundle.now 0) ≡ Ok net
    → HeadAt net × (net.bundle.now ≡ bundle.now) × (bundle_head bundle.now 0 ≡ got (head_of bundle.now) (end_of net))
unfolding net_read answer_in
head-kept bundle net e = go (bundle_head bundle.now 0) refl e
  where
    go : (m : Read Head) → bundle_head bundle.now 0 ≡ m → head_read bundle m ≡ Ok net
        → HeadAt net × (net.bundle.now ≡ bundle.now) × (bundle_head bundle.now 0 ≡ got (head_of bundle.now) (end_of net))
    go (value (item h next)) is q =
        let same : kept_places bundle h.events h.places next ≡ net = cc in
        let read = behind-size bundle.now h next is in
        let of_b = head-of bundle.now h next read in
        let kept = kept_of bundle h next read of_b in
        subst (λ (k : Kept). HeadAt k × (k.bundle.now ≡ bundle.now) × (bundle_head bundle.now 0 ≡ got (head_of bundle.now) (end_of k))) same
        (kept.0, refl, is ∙ ap₂ got (sym of_b) (sym kept.1))
    go (refused number spot) is q = impossible cc

-- ---- a call that reads a bundle's head

-- the bundle is read up to its last place
abbrev pub HeadIsRead : List ℕ → Type 0
HeadIsRead b = read_head b ≡ value (head_of b)

-- the numbers of its refusals
abbrev pub head_refusal_numbers : List ℕ
head_refusal_numbers = bundle_length_number ∷ bundle_end_number ∷ value_number ∷ events_number ∷ []

module _ (b : List ℕ) where
  -- behind the bundle's length
  abbrev rest : Result Head
  rest = bind (head any_rows b 0) (λ i. value (item_in i))

  chain : read_head b ≡ bind (results.require (right_size (length b)) bundle_length_number 0) (λ u. rest)
  unfolding read_head bundle_head bundle_size require results.require bind onward
  chain = go (right_size (length b))
    where
      go : (ok : Bool)
          → bind (bind (cond ok (got (tt {0}) 0) (refused bundle_length_number 0)) (onward (λ u. head any_rows) b)) (λ i. value (item_in i))
          ≡ bind (cond ok (value (tt {0})) (refused bundle_length_number 0)) (λ u. rest)
      go true = refl
      go false = refl

  rest-refuses : Refuses (bundle_end_number ∷ value_number ∷ events_number ∷ []) rest
  unfolding any
  rest-refuses = refuses-then ((reader_head refl refl refl any_rows (λ n log. inl refl)).only b 0) (λ i. refuses-value (item_in i))

  pub head-refuses : Refuses head_refusal_numbers (read_head b)
  head-refuses = rw chain (refuses-test (right_size (length b)) bundle_length_number 0 rest-refuses)

  -- 4, and 6, 7, 8 of the fields
  pub head_4 : Exactly (read_head b) bundle_length_number (λ spot. (spot ≡ 0) × (right_size (length b) ≡ false))
  unfolding any
  head_4 = rw chain (exactly-here (right_size (length b)) bundle_length_number 0 rest rest-refuses refl)

  rest-field : (number : ℕ) → Exactly rest number (λ spot. head any_rows b 0 ≡ refused number spot)
  unfolding bind
  rest-field number = record { line = λ spot. (to (head any_rows b 0) spot, λ e. rw e) }
    where
      to : (m : Read Head) (spot : ℕ) → bind m (λ i. value (item_in i)) ≡ refused number spot → m ≡ refused number spot
      to (value i) spot e = impossible cc
      to (refused n s) spot e = let same : n ≡ number = cc in let at : s ≡ spot = cc in rw (same, at)

  pub head-field : (number : ℕ) → (bundle_length_number ≡ number → ⊥)
      → Exactly (read_head b) number (λ spot. (right_size (length b) ≡ true) × (head any_rows b 0 ≡ refused number spot))
  head-field number other = rw chain (exactly-later (right_size (length b)) bundle_length_number 0 rest other (rest-field number))

  -- a head that was read
  pub read→ : (h : Head) → read_head b ≡ value h → (right_size (length b) ≡ true) × ((next : ℕ) × (head any_rows b 0 ≡ got h next))
  unfolding bind item_in
  read→ h e =
      let p = results.passed (right_size (length b)) bundle_length_number 0 rest h (sym chain ∙ e) in
      let r = results.bind-value (head any_rows b 0) (λ i. value (item_in i)) h p.1 in
      (p.0, of r.0 r.1 r.2)
    where
      of : (i : _) → head any_rows b 0 ≡ value i → value (item_in i) ≡ value h → (next : ℕ) × (head any_rows b 0 ≡ got h next)
      of (item x next) is same = let x≡h : x ≡ h = cc in (next, is ∙ ap (λ (x : Head). got x next) x≡h)

  pub →read : (h : Head) (next : ℕ) → right_size (length b) ≡ true → head any_rows b 0 ≡ got h next → read_head b ≡ value h
  unfolding bind item_in
  →read h next size is = chain ∙ results.passes (right_size (length b)) bundle_length_number 0 rest size ∙ rw is

  -- a head that was read stands in front of the bundle, and the other way
  module _ (bytes : Bytes b) where
    pub read→front : (h : Head) → read_head b ≡ value h → (right_size (length b) ≡ true) × ((rest : List ℕ) × HeadInFront b h rest)
    read→front h e = let r = read→ h e in (r.0, (drop r.1.0 b, (got→front any_rows (λ n. tt) (λ n log more t. tt) b bytes h r.1.0 r.1.1).0))

    pub front→read : (h : Head) (rest : List ℕ) → right_size (length b) ≡ true → HeadInFront b h rest → read_head b ≡ value h
    front→read h rest size front = →read h (length (head_bytes h)) size (front→got any_rows (λ n. tt) (λ n log more t. tt) b bytes h rest front tt)

  -- is the bundle's
  pub read-head-of : (h : Head) → read_head b ≡ value h → head_of b ≡ h
  read-head-of h e = let r = read→ h e in head-of b h r.1.0 r.1.1

  pub read_is : (h : Head) → read_head b ≡ value h → HeadIsRead b
  read_is h e = e ∙ ap value (sym (read-head-of h e))

  -- has 12 events and 64 places at most
  pub read-few : HeadIsRead b → (events_in b ≤ max_events) × (length (net_in b) ≤ max_places)
  read-few e =
      let r = read→ (head_of b) e in
      let found = (head-taken any_rows (record { ref_ptr = (0, 0); now = b }) (head_of b) r.1.0 r.1.1).1 in
      (found.limits.1, omega (arith, found.few, net-size found))

-- what the code keeps of it
module _ (bundle : Bor (List ℕ)) where
  pub kept-refused : (r : Refusal) → head_read bundle (bundle_head bundle.now 0) ≡ Err r → read_head bundle.now ≡ refused r.number r.spot
  unfolding read_head net_read answer_in bind
  kept-refused r e = go (bundle_head bundle.now 0) e
    where
      go : (m : Read Head) → head_read bundle m ≡ Err r → bind m (λ i. value (item_in i)) ≡ refused r.number r.spot
      go (value (item h next)) q = impossible cc
      go (refused number spot) q = let same : record { number = number; spot = spot } ≡ r = cc in ap (λ (r : Refusal). refused r.number r.spot) same

  pub kept_read : (net : Kept) → head_read bundle (bundle_head bundle.now 0) ≡ Ok net
      → HeadAt net × (net.bundle.now ≡ bundle.now) × HeadIsRead bundle.now
  unfolding read_head bind item_in
  kept_read net e = let found = head-kept bundle net e in (found.0, found.1, rw found.2)
