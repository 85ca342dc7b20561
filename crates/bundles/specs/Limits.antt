-- The limits of a bundle up to its last place: what holds after each word holds of the whole log, and the other way.
use Rattle.std.specs.Prelude.{◌≡◌, refl, Bool, true, false, ℕ, ◌≤◌, T, length, drop}
use Rattle.std.proofs.Common.{sym, ap, ◌∙◌, subst, arith}
use Rattle.std.proofs.lemmas.Bool.{false≢true}
use mathlib.Core.List.{List, [], ◌∷◌, ◌++◌, append_assoc, append-nil}
use Rattle.laws.specs.Every.{Every, every_member}
use Rattle.laws.specs.Numbers.{Bytes}
use Rattle.limits.specs.Limits.{max_bundle_size, max_log_events, right_size, right_size_intro}
use Rattle.nets.specs.Nets.{Log, Entry, words, event_count}
use Rattle.nets.specs.LogLaws.{event_count-append}
use Rattle.nets.specs.LogLaws.{words_append, word-entry, events-snoc}
use Rattle.nets.specs.Entries.{NoneCompleted}
use Rattle.nets.specs.Fits.{Below, LogBelow}
use Rattle.bundles.specs.Reading.{got}
use Rattle.bundles.specs.Layout.{First, Head, EntryInLimits, HeadInLimits, HeadInFront, front_bytes, head_bytes, first_in, words_in, LogBelowIn}
use Rattle.bundles.specs.Readers.{head}
use Rattle.bundles.specs.ReadingLaws.{Following, Part, part-front}
use Rattle.bundles.specs.LayoutLaws.{EntryValid, HeadValid, law-head}

-- the events of words in their limits are below n
entries_below : (f : First) (xs : List Entry) → Every (EntryInLimits f) xs → LogBelow f.events (words xs)
entries_below f xs limits w m = let x = word-entry xs m in subst (Below f.events) x.2 (every_member (EntryInLimits f) xs limits x.1).events

pub log-below : (h : Head) → HeadInLimits h → LogBelowIn h
log-below h limits = entries_below (first_in h) h.entries limits.entries

-- in the old edition no word is completed
pub old-partial : (h : Head) → HeadInLimits h → h.is_new ≡ false → NoneCompleted h.entries
old-partial h limits old x m = go x.completed refl
  where
    go : (c : Bool) → x.completed ≡ c → x.completed ≡ false
    go true e = absurd (false≢true (sym old ∙ (every_member (EntryInLimits (first_in h)) h.entries limits.entries m).mark e))
    go false e = e

-- a bundle that begins with a head has at least one byte
pub →size : (b : List ℕ) (h : Head) (rest : List ℕ) → b ≡ head_bytes h ++ rest → length b ≤ max_bundle_size → right_size (length b) ≡ true
unfolding head_bytes front_bytes
→size b h rest e most = right_size_intro (length b) (omega (arith, ap length e)) most

module _ (f : First) (rows_fit : Log → Bool) (fewer : (log more : Log) → T (rows_fit (log ++ more)) → T (rows_fit log)) where
  pub entries→limits : (before xs : List Entry) → event_count (words before) ≤ max_log_events
      → T (rows_fit (words before)) → Following (EntryValid rows_fit f) before xs
      → Every (EntryInLimits f) xs × (event_count (words (before ++ xs)) ≤ max_log_events) × T (rows_fit (words (before ++ xs)))
  entries→limits before [] e r v = (tt, rw append-nil e, rw append-nil r)
  entries→limits before (x ∷ xs) e r v =
      let s = entries→limits (before ++ x ∷ []) xs (omega (arith, events-snoc before x, v.0.log_events)) v.0.rows v.1 in
      ((v.0.entry, s.0), rw append_assoc at s.1, rw append_assoc at s.2)

  pub limits→entries : (before xs : List Entry) → Every (EntryInLimits f) xs → event_count (words (before ++ xs)) ≤ max_log_events
      → T (rows_fit (words (before ++ xs))) → Following (EntryValid rows_fit f) before xs
  limits→entries before [] v e r = tt
  limits→entries before (x ∷ xs) v e r =
      let whole = append_assoc before (x ∷ []) xs in
      let e' : event_count (words ((before ++ x ∷ []) ++ xs)) ≤ max_log_events = rw whole e in
      let r' : T (rows_fit (words ((before ++ x ∷ []) ++ xs))) = rw whole r in
      let parts = words_append (before ++ x ∷ []) xs in (
        record {
          entry = v.0;
          log_events = omega (arith, events-snoc before x, ap event_count parts, event_count-append (words (before ++ x ∷ [])) (words xs));
          rows = fewer (words (before ++ x ∷ [])) (words xs) (subst (λ (l : Log). T (rows_fit l)) parts r');
        },
        limits→entries (before ++ x ∷ []) xs v.1 e' r',
      )

-- the head as both calls read it
module _ (rows_fit : ℕ → Log → Bool) (none : (n : ℕ) → T (rows_fit n []))
    (fewer : (n : ℕ) (log more : Log) → T (rows_fit n (log ++ more)) → T (rows_fit n log)) where
  pub head→limits : (h : Head) → HeadValid rows_fit h → HeadInLimits h × T (rows_fit h.events (words_in h))
  unfolding words event_count
  head→limits h v =
      let s = entries→limits (first_in h) (rows_fit h.events) (fewer h.events) [] h.entries (omega arith) (none h.events) v.entries in
      (record { events = v.events; log_size = v.log_size; entries = s.0; log_events = s.1; places_size = v.places_size; places = v.places }, s.2)

  pub limits→head : (h : Head) → HeadInLimits h → T (rows_fit h.events (words_in h)) → HeadValid rows_fit h
  limits→head h v r = record {
    events = v.events;
    log_size = v.log_size;
    entries = limits→entries (first_in h) (rows_fit h.events) (fewer h.events) [] h.entries v.entries v.log_events r;
    places_size = v.places_size;
    places = v.places;
  }

  -- a head is read exactly where it stands in front of the bundle
  module _ (b : List ℕ) (bytes : Bytes b) where
    pub got→front : (h : Head) (next : ℕ) → head rows_fit b 0 ≡ got h next
        → HeadInFront b h (drop next b) × T (rows_fit h.events (words_in h)) × Part b 0 (head_bytes h) next
    got→front h next e =
        let s = (law-head b bytes rows_fit).sound 0 h next e in
        let l = head→limits h s.0 in
        (record { layout = s.1.bytes; limits = l.0 }, l.1, s.1)

    pub front→got : (h : Head) (rest : List ℕ) → HeadInFront b h rest → T (rows_fit h.events (words_in h))
        → head rows_fit b 0 ≡ got h (length (head_bytes h))
    front→got h rest f t =
        (law-head b bytes rows_fit).complete 0 h (length (head_bytes h)) (limits→head h f.limits t) (part-front b (head_bytes h) rest f.layout)
