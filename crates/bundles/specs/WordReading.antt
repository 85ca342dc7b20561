-- Reading lists of fields in a loop, and the entries of a log.
use Rattle.std.specs.Prelude.{◌≡◌, Bool, true, false, cond, List, [], ◌∷◌, ◌++◌, leb, get_or, take, drop, replicate, ◌&&◌, Some, None, min}
use Rattle.std.proofs.Math.Path.{refl, ap}
use Rattle.std.proofs.Common.{sym, ap₂, ◌∙◌, subst, append-nil, append_assoc, not-suc-le-zero, length-append, length-take, length-drop, drop-cons, leb-true, ⊎_elim, add-one, drop_of_length-le, take_all, true≢false}
use Prim.Native.Nat.{ℕ, zero, suc, ◌+◌, ◌-◌, ◌≤◌, ◌<◌}
use native.Mathlib.Omega.{arith}
use Rattle.std.proofs.Math.Dec.{eqb}
use Rattle.std.proofs.Math.ListN.{length}
use Rattle.std.proofs.lemmas.List.{length-replicate}
use Rattle.laws.specs.Booleans.{impossible, lt_or_le}
use Rattle.laws.specs.Lists.{all}
use Rattle.laws.specs.Scans.{first_failing}
use Rattle.nets.specs.Events.{first_bad}
use Rattle.places.specs.Words.{bad_event, bad_event-none, bad_event-some}
use Rattle.laws.specs.Every.{Every, every_last}
use Rattle.limits.specs.Limits.{max_log_events}
use Rattle.refusals.specs.Table.{events_number, rows_number, bundle_end_number, value_number}
use Rattle.refusals.specs.Results.{value, refused, bind}
use Rattle.nets.specs.Nets.{Word, Log, Entry, words, event_count}
use Rattle.nets.specs.LogLaws.{events-snoc}
use Rattle.bundles.specs.Reading.{Read, got, item, Reader, and_then, ◌>>=◌, ◌>>◌, give, require, byte, each, times, following, onward}
use Rattle.bundles.specs.Layout.{First}
use Rattle.bundles.specs.Readers.{anything, any_rows, mark, entry_after, entry}
use Rattle.bundles.specs.ReadingLaws.{ranged, and_then-got, require-got}
use Rattle.bundles.specs.FieldReading.{below, byte-got, byte-there, byte-missing}
use Rattle.bundles.specs.Chains.{map_read}

-- ---- lists of fields, as a loop reads them

module _ {A : Type 0} (r : List A → Reader A) (b : List ℕ) where
  -- the `left` items behind those before
  unfoldable pub rest : ℕ → List A → ℕ → Read (List A)
  rest left before at = each (λ s. r) (replicate left (tt {0})) before b at

  pub rest_all : (k at : ℕ) → following k r b at ≡ rest k [] at
  unfolding rest
  rest_all k at = refl

  pub rest-none : (before : List A) (at : ℕ) → rest 0 before at ≡ got before at
  unfolding rest each
  rest-none before at = refl

  pub rest_more : (left : ℕ) (before : List A) (at : ℕ) (x : A) (next : ℕ) → 0 < left
      → r before b at ≡ got x next → rest left before at ≡ rest (left - 1) (before ++ x ∷ []) next
  unfolding rest each bind onward
  rest_more zero before at x next h e = absurd (not-suc-le-zero h)
  rest_more (suc k) before at x next h e = let less : suc k - 1 ≡ k = omega arith in rw (e, less)

  pub rest-failed : (left : ℕ) (before : List A) (at number spot : ℕ) → 0 < left
      → r before b at ≡ refused number spot → rest left before at ≡ refused number spot
  unfolding rest each bind onward
  rest-failed zero before at number spot h e = absurd (not-suc-le-zero h)
  rest-failed (suc k) before at number spot h e = rw e

-- ---- words

-- the part of so many bytes that ends at an offset
unfoldable pub part_before : List ℕ → ℕ → ℕ → Word
part_before b next size = take size (drop (next - size) b)

-- reading a value and giving it again is reading it
give-again : {A : Type 0} (b : List ℕ) (m : Read A) → and_then m (λ x. give x) b ≡ m
unfolding bind onward
give-again b (value (item x next)) = refl
give-again b (refused number spot) = refl

-- an entry whose rows are not counted
pub entry-any : (f : First) (before : List Entry) (b : List ℕ) (at : ℕ)
    → entry (λ l. true) f before b at ≡ entry_after f (event_count (words before)) b at
unfolding entry bind onward require
entry-any f before b at = give-again b (entry_after f (event_count (words before)) b at)

-- what follows the length byte of an entry that stands at `start`, and its mark
abbrev pub made_entry : ℕ → Word → Reader Entry
made_entry m w = give (record { word = w; completed = eqb m 1 })

abbrev pub behind_mark : First → ℕ → ℕ → Reader Entry
behind_mark f size m = times size (byte (below f.events)) >>= made_entry m

abbrev pub behind_size : First → ℕ → ℕ → ℕ → Reader Entry
behind_size f count start size = require (leb (count + size) max_log_events) events_number start >> (mark f.is_new >>= behind_mark f size)

pub entry_chain : (f : First) (count : ℕ) (b : List ℕ) (at : ℕ) → entry_after f count b at ≡ (byte anything >>= behind_size f count at) b at
unfolding entry_after bind onward
entry_chain f count b at = refl

-- ---- sizes

pub each-length : {S A : Type 0} (r : S → List A → Reader A) (b : List ℕ) (ss : List S) (before : List A) (at : ℕ) (ys : List A) (next : ℕ)
    → each r ss before b at ≡ got ys next → length ys ≡ length before + length ss
unfolding each
each-length r b [] before at ys next e = let same : before ≡ ys = cc in omega (arith, ap length same)
each-length r b (s ∷ ss) before at ys next e =
    let m = and_then-got b (r s before b at) (λ x. each r ss (before ++ x ∷ [])) ys next e in
    omega (arith, each-length r b ss (before ++ m.0 ∷ []) m.1 ys next m.3, length-append before (m.0 ∷ []))

pub times-length : {A : Type 0} (r : Reader A) (k : ℕ) (b : List ℕ) (at : ℕ) (ys : List A) (next : ℕ) → times k r b at ≡ got ys next → length ys ≡ k
times-length r k b at ys next e = omega (arith, each-length (λ s before. r) b (replicate k (tt {0})) [] at ys next e, length-replicate k (tt {0}))

-- ---- the part of a bundle that a word occupies

record BytesAt (b : List ℕ) (at size : ℕ) (x : List ℕ) (next : ℕ) : Type 0 where
  part : x ≡ take size (drop at b)
  end : next ≡ at + size
  within : next ≤ length b

each-byte : (p : ℕ → Bool) (b : List ℕ) (size : ℕ) (before : List ℕ) (at : ℕ) (ys : List ℕ) (next : ℕ) → at ≤ length b
    → each (λ (s : Unit {0}) items. byte p) (replicate size (tt {0})) before b at ≡ got ys next
    → (x : List ℕ) × (ys ≡ before ++ x) × BytesAt b at size x next
unfolding each
each-byte p b zero before at ys next h e =
    let same : before ≡ ys = cc in
    let ends : at ≡ next = cc in
    ([], sym same ∙ sym (append-nil before), record { part = refl; end = omega arith; within = omega arith })
each-byte p b (suc size) before at ys next h e =
    let m = and_then-got b (byte p b at) (λ x. each (λ (s : Unit {0}) items. byte p) (replicate size (tt {0})) (before ++ x ∷ [])) ys next e in
    go m.0 m.1 (byte-got p b at m.0 m.1 m.2) (λ l. each-byte p b size (before ++ m.0 ∷ []) m.1 ys next l m.3)
  where
    go : (x mid : ℕ) → (p x ≡ true) × (x ≡ get_or b at 0) × (mid ≡ at + 1) × (mid ≤ length b)
        → (mid ≤ length b → (rest : List ℕ) × (ys ≡ (before ++ x ∷ []) ++ rest) × BytesAt b mid size rest next)
        → (x : List ℕ) × (ys ≡ before ++ x) × BytesAt b at (suc size) x next
    go x mid first others =
        let r = others first.3 in
        let inside : at < length b = omega (arith, first.2, first.3) in
        let after : mid ≡ suc at = omega (arith, first.2) in
        let tail : drop mid b ≡ drop (suc at) b = ap (λ (k : ℕ). drop k b) after in (
          x ∷ r.0,
          r.1 ∙ append_assoc before (x ∷ []) r.0,
          record {
            part = ap₂ ◌∷◌ first.1 (r.2.part ∙ ap (take size) tail) ∙ rw (drop-cons b at 0 inside);
            end = omega (arith, r.2.end, first.2);
            within = r.2.within;
          },
        )

-- so many bytes that are all in a range, or fewer at the end of the bundle, or one of them that is not
module _ (p : ℕ → Bool) (b : List ℕ) where
  abbrev bytes_on : ℕ → List ℕ → ℕ → Read (List ℕ)
  bytes_on size before at = each (λ (s : Unit {0}) items. byte p) (replicate size (tt {0})) before b at

  byte_good : (at : ℕ) → at < length b → p (get_or b at 0) ≡ true → byte p b at ≡ got (get_or b at 0) (at + 1)
  unfolding ranged
  byte_good at h good = byte-there p b at h ∙ rw good

  byte-bad : (at : ℕ) → at < length b → p (get_or b at 0) ≡ false → byte p b at ≡ refused value_number at
  unfolding ranged
  byte-bad at h bad = byte-there p b at h ∙ rw bad

  part_cons : (k at : ℕ) → at < length b → take (suc k) (drop at b) ≡ get_or b at 0 ∷ take k (drop (at + 1) b)
  part_cons k at h = ap (take (suc k)) (drop-cons b at 0 h) ∙ rw add-one

  test_cons : (k at : ℕ) → at < length b → all p (take (suc k) (drop at b)) ≡ (p (get_or b at 0) && all p (take k (drop (at + 1) b)))
  unfolding all
  test_cons k at h = ap (all p) (part_cons k at h)

  both : (x y : Bool) → (x && y) ≡ true → (x ≡ true) × (y ≡ true)
  both true true e = (refl, refl)
  both true false e = impossible cc
  both false y e = impossible cc

  all_good : (size : ℕ) (before : List ℕ) (at : ℕ) → at + size ≤ length b → all p (take size (drop at b)) ≡ true
      → bytes_on size before at ≡ got (before ++ take size (drop at b)) (at + size)
  unfolding each bind onward
  all_good zero before at h good = ap₂ got (sym (append-nil before)) (omega arith)
  all_good (suc k) before at h good =
      let inside : at < length b = omega arith in
      let here = both (p (get_or b at 0)) (all p (take k (drop (at + 1) b))) (sym (test_cons k at inside) ∙ good) in
      rw (byte_good at inside here.0)
      (all_good k (before ++ get_or b at 0 ∷ []) (at + 1) (omega arith) here.1
      ∙ ap₂ got
      (append_assoc before (get_or b at 0 ∷ []) (take k (drop (at + 1) b)) ∙ ap (λ (l : List ℕ). before ++ l) (sym (part_cons k at inside)))
      (omega arith))

  too-few : (size : ℕ) (before : List ℕ) (at : ℕ) → at ≤ length b → length b < at + size → all p (take size (drop at b)) ≡ true
      → bytes_on size before at ≡ refused bundle_end_number (length b)
  unfolding each bind onward
  too-few zero before at h short good = absurd (omega arith)
  too-few (suc k) before at h short good = ⊎_elim
      (λ inside.
      let test = both (p (get_or b at 0)) (all p (take k (drop (at + 1) b))) (sym (test_cons k at inside) ∙ good) in
      rw (byte_good at inside test.0) (too-few k (before ++ get_or b at 0 ∷ []) (at + 1) (omega arith) (omega arith) test.1))
      (λ past. let end : at ≡ length b = omega arith in rw (byte-missing p b at past) (ap (refused bundle_end_number) end))
      (lt_or_le at (length b))

  one-bad : (size : ℕ) (before : List ℕ) (at : ℕ) → all p (take size (drop at b)) ≡ false
      → bytes_on size before at ≡ refused value_number (at + first_failing p (take size (drop at b)))
  unfolding all each bind onward first_failing
  one-bad zero before at bad = impossible cc
  one-bad (suc k) before at bad = ⊎_elim
      (λ inside. rw (part_cons k at inside) (step inside (p (get_or b at 0)) refl (one-bad k (before ++ get_or b at 0 ∷ []) (at + 1))))
      (λ past. absurd (true≢false (rw (drop_of_length-le b past) at bad)))
      (lt_or_le at (length b))
    where
      step : at < length b → (good : Bool) → p (get_or b at 0) ≡ good
          → (all p (take k (drop (at + 1) b)) ≡ false
          → bytes_on k (before ++ get_or b at 0 ∷ []) (at + 1) ≡ refused value_number (at + 1 + first_failing p (take k (drop (at + 1) b))))
          → bytes_on (suc k) before at ≡ refused value_number (at + first_failing p (get_or b at 0 ∷ take k (drop (at + 1) b)))
      step inside true good others =
          let later : all p (take k (drop (at + 1) b)) ≡ false = rw good at (sym (test_cons k at inside) ∙ bad) in
          rw (byte_good at inside good, good) (others later ∙ ap (refused value_number) (omega arith))
      step inside false good others = rw (byte-bad at inside good, good) (ap (refused value_number) (omega arith))

-- so many events, of which the code tests what the bundle has of them: those before `end`
module _ (n size : ℕ) (b : List ℕ) (at end : ℕ) (inside : at ≤ length b) (ends : end ≡ min (length b) (at + size)) where
  abbrev present : Word
  present = take (end - at) (drop at b)

  present_all : present ≡ take size (drop at b)
  present_all = ⊎_elim
      (λ fewer. let all : end - at ≡ length b - at = omega arith in
      rw all
      (take_all (length b - at) (drop at b) (omega (arith, length-drop at b)) ∙ sym (take_all size (drop at b) (omega (arith, length-drop at b)))))
      (λ there. let all : end - at ≡ size = omega arith in rw all)
      (lt_or_le (length b) (at + size))

  present-size : at + length present ≡ end
  present-size = simp (length-take, length-drop) (omega arith)

  pub events-good : size ≤ length present → None ≡ bad_event n present → times size (byte (below n)) b at ≡ got present end
  events-good whole none =
      all_good (below n) b size [] at (omega (arith, present-size)) (rw present_all at (bad_event-none n present none).0)
      ∙ ap₂ got (sym present_all) (omega (arith, present-size))

  pub events-few : length present < size → None ≡ bad_event n present → times size (byte (below n)) b at ≡ refused bundle_end_number end
  events-few short none =
      let last : length b ≡ end = omega (arith, present-size) in
      too-few (below n) b size [] at inside (omega (arith, present-size)) (rw present_all at (bad_event-none n present none).0)
      ∙ ap (refused bundle_end_number) last

  pub events-bad : {bad : ℕ} → Some bad ≡ bad_event n present → times size (byte (below n)) b at ≡ refused value_number (at + bad)
  unfolding first_bad
  events-bad {bad} some =
      let found = bad_event-some n present some in
      one-bad (below n) b size [] at (rw present_all at found.2)
      ∙ ap (λ (w : Word). refused value_number (at + first_bad n w)) (sym present_all)
      ∙ ap (λ (i : ℕ). refused value_number (at + i)) (sym found.0)

  pub bad-within : {bad : ℕ} → Some bad ≡ bad_event n present → at + bad < length b
  bad-within some = omega (arith, present-size, (bad_event-some n present some).1)

-- the bytes of x end at the offset `next`
pub record EndsAt (b x : List ℕ) (next : ℕ) : Type 0 where
  pub part : part_before b next (length x) ≡ x
  pub inside : length x ≤ next
  pub within : next ≤ length b

ends_at : {b : List ℕ} {at size : ℕ} {x : List ℕ} {next : ℕ} → BytesAt b at size x next → EndsAt b x next
unfolding part_before
ends_at {b} {at} {size} {x} {next} p =
    let counted : length x ≡ size = ap length p.part ∙ simp (length-take, length-drop) (omega (arith, p.end, p.within)) in
    let start : next - length x ≡ at = omega (arith, p.end) in
    record {
      part = ap₂ (λ (k from : ℕ). take k (drop from b)) counted start ∙ sym p.part;
      inside = omega (arith, p.end);
      within = p.within;
    }

-- bytes of a range are in it
each_in : (p : ℕ → Bool) (b : List ℕ) (size : ℕ) (before : List ℕ) (at : ℕ) (ys : List ℕ) (next : ℕ) → Every (λ x. p x ≡ true) before
    → each (λ (s : Unit {0}) items. byte p) (replicate size (tt {0})) before b at ≡ got ys next → Every (λ x. p x ≡ true) ys
unfolding each
each_in p b zero before at ys next v e =
    let same : before ≡ ys = cc in
    subst (Every (λ (x : ℕ). p x ≡ true)) same v
each_in p b (suc size) before at ys next v e =
    let m = and_then-got b (byte p b at) (λ x. each (λ (s : Unit {0}) items. byte p) (replicate size (tt {0})) (before ++ x ∷ [])) ys next e in
    each_in p b size (before ++ m.0 ∷ []) m.1 ys next (every_last (λ (x : ℕ). p x ≡ true) before m.0 v (byte-got p b at m.0 m.1 m.2).0) m.3

-- a mark that was read lies in the bundle, as what stands before it
pub mark-got : (is_new : Bool) (b : List ℕ) (at m next : ℕ) → at ≤ length b → mark is_new b at ≡ got m next → next ≤ length b
unfolding mark
mark-got true b at m next inside e = (byte-got (λ m. leb m 1) b at m next e).3
mark-got false b at m next inside e = let ends : at ≡ next = cc in omega (arith, ends)

-- an entry that was read: its length byte counts its events, they keep the log's limit, end where the next field begins, and are below n
pub record EntryGot (f : First) (count : ℕ) (b : List ℕ) (at : ℕ) (x : Entry) (next : ℕ) : Type 0 where
  pub counted : length x.word ≡ get_or b at 0
  pub limit : count + length x.word ≤ max_log_events
  pub ends : EndsAt b x.word next
  pub below : Every (λ e. below f.events e ≡ true) x.word

pub entry-got : (f : First) (count : ℕ) (b : List ℕ) (at : ℕ) (x : Entry) (next : ℕ)
    → entry_after f count b at ≡ got x next → EntryGot f count b at x next
unfolding entry_after bind onward
entry-got f count b at x next e =
    let n = f.events in
    let m = and_then-got b (byte anything b at) (behind_size f count at) x next e in
    let t = require-got (leb (count + m.0) max_log_events) events_number at (mark f.is_new >>= behind_mark f m.0) b m.1 x next m.3 in
    let g = byte-got anything b at m.0 m.1 m.2 in
    let k = and_then-got b (mark f.is_new b m.1) (behind_mark f m.0) x next t.1 in
    let inside = mark-got f.is_new b m.1 k.0 k.1 g.3 k.2 in
    let w = and_then-got b (times m.0 (byte (below n)) b k.1) (made_entry k.0) x next k.3 in
    let made : record { word = w.0; completed = eqb k.0 1 } ≡ x = cc w.3 in
    let last : w.1 ≡ next = cc w.3 in
    let size = times-length (byte (below n)) m.0 b k.1 w.0 w.1 w.2 in
    let r = each-byte (below n) b m.0 [] k.1 w.0 w.1 inside w.2 in
    let bytes : BytesAt b k.1 m.0 w.0 w.1 = subst (λ (l : List ℕ). BytesAt b k.1 m.0 l w.1) (sym r.1) r.2 in
    subst (λ (i : ℕ). EntryGot f count b at x i) last (subst (λ (y : Entry). EntryGot f count b at y w.1) made (record {
      counted = size ∙ g.1;
      limit = omega (arith, leb-true (count + m.0) max_log_events t.0, size);
      ends = ends_at bytes;
      below = each_in (below n) b m.0 [] k.1 w.0 w.1 tt w.2;
    }))

-- ---- the entries of a log, as a loop reads them

-- the events of entries
abbrev pub events_of : List Entry → ℕ
events_of xs = event_count (words xs)

-- so far entries with so many events were read, and so many are left behind them
pub record EntriesLeft (f : First) (b : List ℕ) (at count next events left : ℕ) : Type 0 where
  pub entries : List Entry
  pub total : events_of entries ≡ events
  pub limit : events ≤ max_log_events
  pub same : following count (entry (any_rows f.events) f) b at ≡ rest (entry (any_rows f.events) f) b left entries next

module _ (f : First) (b : List ℕ) (at count : ℕ) where
  abbrev one : List Entry → Reader Entry
  one = entry (any_rows f.events) f

  pub entries-start : EntriesLeft f b at count at 0 count
  unfolding event_count words
  entries-start = record { entries = []; total = refl; limit = omega arith; same = rest_all one b count at }

  pub entries-done : {next events left : ℕ} → EntriesLeft f b at count next events left
      → left ≤ 0 → map_read events_of (following count one b at) ≡ got events next
  unfolding map_read
  entries-done {next} {events} {left} s h = let none : left ≡ 0 = omega arith in rw (s.same, none, rest-none, s.total)

  module _ {next events left : ℕ} (s : EntriesLeft f b at count next events left) (more : 0 < left) where
    pub entries-failed : {number spot : ℕ} → entry_after f events b next ≡ refused number spot
        → map_read events_of (following count one b at) ≡ refused number spot
    unfolding map_read
    entries-failed {number} {spot} e =
        ap (map_read events_of) (s.same ∙ rest-failed one b left s.entries next number spot more (entry-any f s.entries b next ∙ rw s.total e))

    pub entries_next : {x : Entry} {after : ℕ} → entry_after f events b next ≡ got x after
        → EntriesLeft f b at count after (events + length x.word) (left - 1)
    entries_next {x} {after} e = record {
      entries = s.entries ++ x ∷ [];
      total = events-snoc s.entries x ∙ rw s.total;
      limit = (entry-got f events b next x after e).limit;
      same = s.same ∙ rest_more one b left s.entries next x after more (entry-any f s.entries b next ∙ rw s.total e);
    }

-- an entry and the test behind it, for judging
pub entry-tested : (fits : Log → Bool) (f : First) (before : List Entry) (b : List ℕ) (at : ℕ) (x : Entry) (next : ℕ)
    → entry_after f (events_of before) b at ≡ got x next
    → entry fits f before b at ≡ cond (fits (words (before ++ x ∷ []))) (got x next) (refused rows_number at)
unfolding entry bind onward require
entry-tested fits f before b at x next e = rw e (go (fits (words (before ++ x ∷ []))))
  where
    go : (ok : Bool)
        → and_then (cond ok (got (tt {0}) next) (refused rows_number at)) (λ u. give x) b ≡ cond ok (got x next) (refused rows_number at)
    go true = refl
    go false = refl

-- an entry that was read with a limit on its rows is read the same without one
entry-unlimited : (fits : Log → Bool) (f : First) (before : List Entry) (b : List ℕ) (at : ℕ) (x : Entry) (next : ℕ)
    → entry fits f before b at ≡ got x next → entry (any_rows f.events) f before b at ≡ got x next
unfolding entry bind onward require
entry-unlimited fits f before b at x next e =
    let r =
    and_then-got b (entry_after f (events_of before) b at) (λ x. require (fits (words (before ++ x ∷ []))) rows_number at >> give x) x next e in
    let t = require-got (fits (words (before ++ r.0 ∷ []))) rows_number at (give r.0) b r.1 x next r.3 in
    rw r.2 t.1

pub entries-unlimited : (fits : Log → Bool) (f : First) (b : List ℕ) (k : ℕ) (before : List Entry) (at : ℕ) (xs : List Entry) (next : ℕ)
    → each (λ (s : Unit {0}). entry fits f) (replicate k tt) before b at ≡ got xs next
    → each (λ (s : Unit {0}). entry (any_rows f.events) f) (replicate k tt) before b at ≡ got xs next
unfolding each bind onward
entries-unlimited fits f b zero before at xs next e = e
entries-unlimited fits f b (suc k) before at xs next e =
    let r = and_then-got b (entry fits f before b at) (λ x. each (λ (s : Unit {0}). entry fits f) (replicate k tt) (before ++ x ∷ [])) xs next e in
    rw (entry-unlimited fits f before b at r.0 r.1 r.2) (entries-unlimited fits f b k (before ++ r.0 ∷ []) r.1 xs next r.3)
