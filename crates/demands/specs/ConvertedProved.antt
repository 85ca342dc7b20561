-- The page of request 9, proved.
use Rattle.std.specs.Prelude.{◌≡◌, refl, ◌↔◌, true, false, Bool, ℕ, ◌+◌, ◌≤◌, length, take, Ok}
use Rattle.std.proofs.Common.{sym, ap, ap₂, ◌∙◌, subst, arith}
use mathlib.Core.List.{List, [], ◌∷◌, ◌++◌, flat_map, Memᴰ, append_assoc}
use Rattle.laws.specs.Every.{every_member}
use Rattle.laws.specs.Lists.{flat_map_same}
use Rattle.laws.specs.Numbers.{Bytes}
use Rattle.refusals.specs.Results.{value, bind}
use Rattle.refusals.specs.Answers.{answer, written}
use Rattle.refusals.proofs.Laws.{ends-written, answer-taken}
use Rattle.nets.specs.Nets.{Word, Entry, words}
use Rattle.nets.specs.Entries.{NoneCompleted}
use Rattle.nets.specs.Fits.{below-empty}
use Rattle.logs.specs.Answers.{table_size}
use Rattle.bundles.specs.HeadReading.{HeadIsRead}
use Rattle.bundles.specs.Layout.{CertificateFields, kind0, kind1, Contents, to_net, first_of, mark_bytes, entry_bytes}
use Rattle.bundles.specs.Layout.{pairs_bytes, weight_bytes, certificate_bytes, places_bytes, front_bytes, head_bytes, bytes_of}
use Rattle.bundles.specs.Readers.{head_of, events_in, net_in}
use Rattle.verdicts.specs.Judging.{verdict}
use Rattle.verdicts.specs.Acceptance.{AcceptedAs}
use Rattle.verdicts.specs.OldEdition.{NoPairs}
use Rattle.verdicts.specs.declared.Tally.{Tally}
use Rattle.screening.specs.Screening.{joining, screened_joined}
use Rattle.screening.specs.Screens.{readable-read}
use Rattle.screening.specs.Joins.{answer_on, screened-on}
use Rattle.contents.specs.Contents.{contents_of}
use Rattle.contents.specs.Behind.{JudgedAs, judged_as, behind-judged, behind-value-exactly}
use Rattle.editions.specs.Converting.{in_edition, newer, older, in_new, in_old, converting_to_new, converting_to_old}
use Rattle.editions.specs.EditionLaws.{Convertible, partial-convertible}
use Rattle.editions.specs.Causes.{in_new-value, in_old-value}
use Rattle.editions.specs.Sizes.{old-convertible, own-bytes, older-size, newer-accepted, older-accepted}
use Rattle.demands.specs.Alike.{Alike, turned, first-contained, second-contained, first-compared, second-compared}
use Rattle.demands.specs.Comparing.{accepted-head, word-readable}
use Rattle.demands.specs.SameWords.{written-bytes, written-verdict, written-head, same-events, same_entries, same-table}
use Rattle.demands.specs.Converted.{PartialAlone, marked, unmarked, with_list, BothEditions, KeepsAll, Request9}
use Rattle.demands.specs.ConvertingProved.{edition-unique}

-- ---- what stands in it

plain : (d : Contents) → Convertible d → PartialAlone d
plain d v = record { marks = v.partial; lists = λ w m. every_member NoPairs d.certificates v.pairs m }

word-spelled : (x : Entry) → x.completed ≡ false → (entry_bytes true x ≡ marked x) × (entry_bytes false x ≡ unmarked x)
unfolding entry_bytes mark_bytes
word-spelled x partial = (rw partial, refl)

certificate-spelled : (c : CertificateFields) → NoPairs c
    → (certificate_bytes true c ≡ with_list (0 ∷ []) c) × (certificate_bytes false c ≡ with_list [] c)
unfolding certificate_bytes weight_bytes pairs_bytes with_list flat_map
certificate-spelled (kind0 j) none = (refl, refl)
certificate-spelled (kind1 w) none = (rw none, refl)

module _ (d : Contents) (p : PartialAlone d) where
  no-pairs : (c : CertificateFields) → Memᴰ c d.certificates → NoPairs c
  no-pairs (kind0 j) m = tt
  no-pairs (kind1 w) m = p.lists w m

  none_added : 0 + d.head.events ≡ d.head.events
  none_added = omega arith

  layouts : BothEditions d
  unfolding bytes_of head_bytes front_bytes first_of
  layouts = record {
    new = λ d' same. ap bytes_of (edition-unique true d d' same) ∙ ap (λ (l : List ℕ). (128 + d.head.events) ∷ length d.head.entries ∷ l) (
        append_assoc (flat_map (entry_bytes true) d.head.entries) (places_bytes d.head.places) (flat_map (certificate_bytes true) d.certificates)
        ∙ ap₂ (λ (ws cs : List ℕ). ws ++ (places_bytes d.head.places ++ cs))
        (flat_map_same (entry_bytes true) marked d.head.entries (λ x m. (word-spelled x (p.marks x m)).0))
        (flat_map_same (certificate_bytes true) (with_list (0 ∷ [])) d.certificates (λ c m. (certificate-spelled c (no-pairs c m)).0)));
    old = λ d' same. ap bytes_of (edition-unique false d d' same) ∙ ap₂ (λ (n : ℕ) (l : List ℕ). n ∷ length d.head.entries ∷ l) none_added (
        append_assoc (flat_map (entry_bytes false) d.head.entries) (places_bytes d.head.places) (flat_map (certificate_bytes false) d.certificates)
        ∙ ap₂ (λ (ws cs : List ℕ). ws ++ (places_bytes d.head.places ++ cs))
        (flat_map_same (entry_bytes false) unmarked d.head.entries (λ x m. (word-spelled x (p.marks x m)).1))
        (flat_map_same (certificate_bytes false) (with_list []) d.certificates (λ c m. (certificate-spelled c (no-pairs c m)).1)));
  }

-- ---- what it keeps

-- an accepted bundle is read up to its last place
is-read : (table_length : ℕ) (b : List ℕ) → Bytes b → (c : Tally) → verdict table_length b ≡ Ok c → HeadIsRead b
is-read table_length b bytes c accepted =
    readable-read b [] (word-readable b bytes table_length c accepted [] (omega arith) (below-empty (events_in b)))

module _ (table_length : ℕ) (b : List ℕ) (bytes : Bytes b) (c : Tally) (d : Contents) (j : JudgedAs table_length b c d)
    (e : Bool) (a : AcceptedAs (bytes_of (in_edition e d)) c (in_edition e d)) where
  abbrev b' : List ℕ
  b' = bytes_of (in_edition e d)

  head : head_of b ≡ d.head
  head = accepted-head b bytes c d j.contents

  read : HeadIsRead b
  read = is-read table_length b bytes c j.judged

  read' : HeadIsRead b'
  read' = is-read table_size b' (written-bytes a) c (written-verdict a table_size (omega arith))

  events : events_in b' ≡ events_in b
  events = same-events a bytes j.contents refl

  net : net_in b' ≡ net_in b
  unfolding to_net
  net = ap to_net (written-head a) ∙ sym (ap to_net head)

  alike : Alike b b'
  alike = record {
    events = events;
    entries = same_entries a bytes j.contents refl;
    net = net;
    screened = λ w. screened-on b' read' w ∙ ap₂ (answer_on w) events net ∙ sym (screened-on b read w);
  }

  joined-first : (x : List ℕ) (w : Word) → screened_joined b' x w ≡ screened_joined b x w
  unfolding screened_joined joining bind to_net
  joined-first x w = rw (read', read, written-head a, head)

  joined-second : (x : List ℕ) (w : Word) → screened_joined x b' w ≡ screened_joined x b w
  unfolding screened_joined joining bind to_net
  joined-second x w = rw (read', read, written-head a, head)

  keeps : KeepsAll b b' c
  keeps = record {
    bytes = written-bytes a;
    accepted = written-verdict a;
    table = same-table a bytes j.contents refl;
    events = alike.events;
    entries = alike.entries;
    log = ap words alike.entries;
    net = alike.net;
    screened = alike.screened;
    joined_first = joined-first;
    joined_second = joined-second;
    contained_first = λ x. (first-contained (turned alike) x, first-contained alike x);
    contained_second = λ x. (second-contained (turned alike) x, second-contained alike x);
    compared_first = λ x c'. (first-compared (turned alike) x c c', first-compared alike x c c');
    compared_second = λ x c'. (second-compared (turned alike) x c' c, second-compared alike x c' c);
  }

-- ---- what each call writes of an accepted bundle

module _ (table_length : ℕ) (b : List ℕ) (bytes : Bytes b) where
  to_new-writes : (c : Tally) (d : Contents) → JudgedAs table_length b c d → (b' : List ℕ) → (converting_to_new table_length b ≡ value b')
      ↔ ((length (bytes_of (newer d)) ≤ 64512) × (b' ≡ bytes_of (newer d)))
  unfolding converting_to_new
  to_new-writes c d j b' =
      let is = behind-judged table_length b bytes in_new c d j in
      let law = in_new-value d b' in
      ((λ e. law.0 (sym is ∙ e)), (λ w. is ∙ law.1 w))

  to_old-writes : (c : Tally) (d : Contents) → JudgedAs table_length b c d → (b' : List ℕ) → (converting_to_old table_length b ≡ value b')
      ↔ (NoneCompleted d.head.entries × (b' ≡ bytes_of (older d)))
  unfolding converting_to_old
  to_old-writes c d j b' =
      let is = behind-judged table_length b bytes in_old c d j in
      let law = in_old-value d b' in
      ((λ e. law.0 (sym is ∙ e)), (λ w. is ∙ law.1 w))

  -- one that writes was given an accepted bundle
  to_new-judged : (b' : List ℕ) → converting_to_new table_length b ≡ value b' → (c : Tally) × (d : Contents) × JudgedAs table_length b c d
  unfolding converting_to_new
  to_new-judged b' e = let (c, d, j, _) = (behind-value-exactly table_length b bytes in_new b').0 e in (c, d, j)

  to_old-judged : (b' : List ℕ) → converting_to_old table_length b ≡ value b' → (c : Tally) × (d : Contents) × JudgedAs table_length b c d
  unfolding converting_to_old
  to_old-judged b' e = let (c, d, j, _) = (behind-value-exactly table_length b bytes in_old b').0 e in (c, d, j)

-- ---- what it keeps, by each call

newer-keeps : (table_length : ℕ) (b : List ℕ) → Bytes b → (c : Tally) → verdict table_length b ≡ Ok c
    → (b' : List ℕ) → converting_to_new table_length b ≡ value b' → KeepsAll b b' c
newer-keeps table_length b bytes c accepted b' e =
    let d = contents_of b in
    let j = judged_as table_length b bytes c accepted in
    let (fits, is) = (to_new-writes table_length b bytes c d j b').0 e in
    subst (λ (l : List ℕ). KeepsAll b l c) (sym is) (keeps table_length b bytes c d j true (newer-accepted d j.contents fits))

older-keeps : (table_length : ℕ) (b : List ℕ) → Bytes b → (c : Tally) → verdict table_length b ≡ Ok c
    → (b' : List ℕ) → converting_to_old table_length b ≡ value b' → KeepsAll b b' c
older-keeps table_length b bytes c accepted b' e =
    let d = contents_of b in
    let j = judged_as table_length b bytes c accepted in
    let (none, is) = (to_old-writes table_length b bytes c d j b').0 e in
    subst (λ (l : List ℕ). KeepsAll b l c) (sym is) (keeps table_length b bytes c d j false (older-accepted d j.contents none))

-- ---- one call behind the other

-- what is written in an edition, converted again
module _ (c : Tally) (d : Contents) (e : Bool) (a : AcceptedAs (bytes_of (in_edition e d)) c (in_edition e d))
    (table_length' : ℕ) (long : table_size ≤ table_length') where
  abbrev once : List ℕ
  once = bytes_of (in_edition e d)

  judged_once : JudgedAs table_length' once c (in_edition e d)
  judged_once = record { judged = written-verdict a table_length' long; contents = a }

  then_new : length (bytes_of (newer d)) ≤ 64512 → converting_to_new table_length' once ≡ value (bytes_of (newer d))
  then_new fits = (to_new-writes table_length' once (written-bytes a) c (in_edition e d) judged_once (bytes_of (newer d))).1 (fits, refl)

  then_old : NoneCompleted d.head.entries → converting_to_old table_length' once ≡ value (bytes_of (older d))
  then_old none = (to_old-writes table_length' once (written-bytes a) c (in_edition e d) judged_once (bytes_of (older d))).1 (none, refl)

-- ---- there and back

module _ (table_length : ℕ) (b : List ℕ) (bytes : Bytes b) where
  module _ (c : Tally) (d : Contents) (j : JudgedAs table_length b c d) where
    there-and-back : d.head.is_new ≡ false → (b' : List ℕ) → converting_to_new table_length b ≡ value b'
        → (table_length' : ℕ) → table_size ≤ table_length' → converting_to_old table_length' b' ≡ value b
    there-and-back old b' e table_length' long =
        let (fits, is) = (to_new-writes table_length b bytes c d j b').0 e in
        ap (converting_to_old table_length') is
        ∙ then_old c d true (newer-accepted d j.contents fits) table_length' long (old-convertible d j.contents old).partial
        ∙ ap value (own-bytes d j.contents false old)

    -- the length in its own edition
    own-fits : d.head.is_new ≡ true → length (bytes_of (newer d)) ≤ 64512
    own-fits new = omega (arith, ap length (own-bytes d j.contents true new), ap length j.contents.layout, j.contents.limits.size)

    back-and-there : d.head.is_new ≡ true → NoneCompleted d.head.entries → (b' : List ℕ) × (converting_to_old table_length b ≡ value b')
        × ((table_length' : ℕ) → table_size ≤ table_length' → converting_to_new table_length' b' ≡ value b)
    back-and-there new none = (
      bytes_of (older d),
      (to_old-writes table_length b bytes c d j (bytes_of (older d))).1 (none, refl),
      λ table_length' long.
          then_new c d false (older-accepted d j.contents none) table_length' long (own-fits new)
          ∙ ap value (own-bytes d j.contents true new),
    )

  newer-twice : (b' : List ℕ) → converting_to_new table_length b ≡ value b'
      → (table_length' : ℕ) → table_size ≤ table_length' → converting_to_new table_length' b' ≡ value b'
  newer-twice b' e table_length' long =
      let (c, d, j) = to_new-judged table_length b bytes b' e in
      let (fits, is) = (to_new-writes table_length b bytes c d j b').0 e in
      ap (converting_to_new table_length') is
      ∙ then_new c d true (newer-accepted d j.contents fits) table_length' long fits
      ∙ ap value (sym is)

  older-twice : (b' : List ℕ) → converting_to_old table_length b ≡ value b'
      → (table_length' : ℕ) → table_size ≤ table_length' → converting_to_old table_length' b' ≡ value b'
  older-twice b' e table_length' long =
      let (c, d, j) = to_old-judged table_length b bytes b' e in
      let (none, is) = (to_old-writes table_length b bytes c d j b').0 e in
      ap (converting_to_old table_length') is
      ∙ then_old c d false (older-accepted d j.contents none) table_length' long none
      ∙ ap value (sym is)

-- ---- the page

pub request_9 : Request9
request_9 = record {
  old = λ table_length b bytes c d j old. plain d (old-convertible d j.contents old);
  partial = λ table_length b bytes c d j none. plain d (partial-convertible d j.contents none);
  layout = layouts;
  newer_keeps = newer-keeps;
  older_keeps = older-keeps;
  there_and_back = λ table_length b bytes c d j. there-and-back table_length b bytes c d j;
  back_and_there = λ table_length b bytes c d j. back-and-there table_length b bytes c d j;
  newer_twice = newer-twice;
  older_twice = older-twice;
  there_and_back_written = λ table_length b first second bytes c d j old n e table_length' long room.
      let taken = answer-taken (converting_to_new table_length b) first n e in
      ends-written _ second b (there-and-back table_length b bytes c d j old _ taken table_length' long) room;
  back_and_there_written = λ table_length b first second bytes c d j new none fits table_length' long room.
      let (b', is, back) = back-and-there table_length b bytes c d j new none in
      let size = ap length ((to_old-writes table_length b bytes c d j b').0 is).1 in
      let shorter : length b' ≤ length first = omega (arith, fits, size, older-size d j.contents new none) in
      let n : answer (converting_to_old table_length b) (length first) ≡ Ok (length b') = sym (ends-written _ first b' is shorter).0 in
      let taken = answer-taken (converting_to_old table_length b) first (length b') n in
      let same : take (length b') (written (converting_to_old table_length b) first) ≡ b' = let both = sym taken ∙ is in (cc) in
      (length b', n, ends-written _ second b (ap (converting_to_new table_length') same ∙ back table_length' long) room);
}
