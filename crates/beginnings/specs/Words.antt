-- A head that is refused with 8 or 9: the word that is due passes 1,024 events, or the rows of the log do not fit with it.
use Rattle.std.specs.Prelude.{◌≡◌, Bool, false, ◌↔◌, T}
use Rattle.std.proofs.Math.Path.{refl, sym, ap, subst}
use Rattle.std.proofs.Common.{◌∙◌, add-zero, length-drop, drop-cons, drop-drop, get_or-drop}
use Rattle.std.proofs.lemmas.Bool.{false≢true}
use mathlib.Core.Logic.Iff
use Rattle.std.proofs.Math.Logic.{⊎_elim}
use mathlib.Core.List.{List, [], ◌∷◌, ◌++◌, flat_map}
use Prim.Native.Nat.{ℕ, suc, ◌+◌, ◌-◌, ◌≤◌, ◌<◌}
use native.Mathlib.Omega.{arith}
use Rattle.std.proofs.Math.ListN.{length, get_or, drop, replicate, length-append}
use Rattle.std.proofs.lemmas.List.{length-replicate, replicate-append-replicate}
use Rattle.std.proofs.Math.Seq.{drop-append_seam}
use Rattle.laws.specs.Booleans.{less}
use Rattle.laws.specs.Lists.{any, among}
use Rattle.laws.specs.Numbers.{Bytes}
use Rattle.limits.specs.Limits.{max_log_events, max_rows}
use Rattle.refusals.specs.Table.{bundle_end_number, value_number, events_number, rows_number}
use Rattle.refusals.specs.Results.{refused, bind}
use Rattle.nets.specs.Nets.{Log, Entry, words, event_count, rows}
use Rattle.bundles.specs.Reading.{got, Reader, onward, ◌>>=◌, give, byte, following}
use Rattle.bundles.specs.Layout.{First, Head, first_of, entry_bytes}
use Rattle.bundles.specs.Readers.{anything, entry, place, places, first, head_after, head, rows_in_limit}
use Rattle.bundles.specs.ReadingLaws.{Part, part-front, part-append, part_left, part_right, EachValid, Following, law-byte, law-each, law-following}
use Rattle.bundles.specs.LayoutLaws.{EntryValid, law-first, law-entry, law-entry_after}
use Rattle.bundles.specs.Limits.{entries→limits, limits→entries}
use Rattle.bundles.specs.Refusing.{ReaderRefuses, reader_byte, reader_number, reader_then, reader_times, reader_give}
use Rattle.bundles.specs.Causes.{and_then-refused, each-refused, entry-8, entry-9}
use Rattle.beginnings.specs.Beginnings.{WordDue, length_byte, EventsPass, RowsPass}

-- the places of a head are refused with 6 and 7 only
reader_places : (n : ℕ) → ReaderRefuses (bundle_end_number ∷ value_number ∷ []) (places n)
unfolding places place any
reader_places n = reader_then (reader_byte refl refl _) (λ count. reader_times count
    (reader_then (reader_number refl refl anything) (λ m. reader_then (reader_times n (reader_number refl refl anything))
    (λ ins. reader_then (reader_times n (reader_number refl refl anything)) (λ outs. reader_give _)))))

-- items for a list of units are items that follow each other
each-following : {A : Type 0} (P : List A → A → Type 0) (ss : List (Unit {0})) (before xs : List A) → EachValid (λ s. P) ss before xs
    → (length xs ≡ length ss) × Following P before xs
each-following P [] before [] v = (refl, tt)
each-following P [] before (x ∷ xs) v = absurd v
each-following P (s ∷ ss) before [] v = absurd v
each-following P (s ∷ ss) before (x ∷ xs) v = let r = each-following P ss (before ++ x ∷ []) xs v.1 in (ap suc r.0, (v.0, r.1))

-- where the rows of a log fit, they fit with fewer words
abbrev pub Fewer : (ℕ → Log → Bool) → Type 0
Fewer rows_fit = (n : ℕ) (log more : Log) → T (rows_fit n (log ++ more)) → T (rows_fit n log)

module _ (rows_fit : ℕ → Log → Bool) (none : (n : ℕ) → T (rows_fit n [])) (fewer : Fewer rows_fit) (b : List ℕ) (bytes : Bytes b) (k spot : ℕ)
    (other : among k (bundle_end_number ∷ value_number ∷ []) ≡ false) where
  -- the word that is due is refused
  abbrev WordStops : Type 0
  WordStops = (f : First) × (before : List Entry) × (rest : List ℕ) × WordDue b f before rest × T (rows_fit f.events (words before))
      × (entry (rows_fit f.events) f before b (length_byte f before) ≡ refused k spot)

  never : {A : Type 0} {r : Reader A} → ReaderRefuses (bundle_end_number ∷ value_number ∷ []) r → (at : ℕ) → r b at ≡ refused k spot → ⊥
  never r at e = false≢true (sym other ∙ (r.only b at).only k spot e)

  behind-words : First → List Entry → Reader Head
  behind-words f xs = places f.events >>= λ ps. give (record { is_new = f.is_new; events = f.events; entries = xs; places = ps })

  to : head rows_fit b 0 ≡ refused k spot → WordStops
  unfolding head head_after first behind-words flat_map words event_count any
  to e = ⊎_elim
      (λ q. absurd (never (reader_then (reader_byte refl refl _) (λ x. reader_give _)) 0 q))
      (λ (f, m1, is1, e1). ⊎_elim
      (λ q. absurd (never (reader_byte refl refl anything) m1 q))
      (λ (count, m2, is2, e2). ⊎_elim
      (λ q. found f m1 is1 count m2 is2 q)
      (λ (xs, m3, is3, q). absurd (never (reader_then (reader_places f.events) (λ ps. reader_give _)) m3 q))
      ((and_then-refused b (following count (entry (rows_fit f.events) f) b m2) (behind-words f) k spot).0 e2))
      ((and_then-refused b (byte anything b m1) _ k spot).0 e1))
      ((and_then-refused b (first b 0) (head_after rows_fit) k spot).0 e)
    where
      found : (f : First) (m1 : ℕ) → first b 0 ≡ got f m1 → (count m2 : ℕ) → byte anything b m1 ≡ got count m2
          → following count (entry (rows_fit f.events) f) b m2 ≡ refused k spot → WordStops
      found f m1 is1 count m2 is2 q =
          let fit = rows_fit f.events in
          let l1 = (law-first b bytes).sound 0 f m1 is1 in
          let l2 = (law-byte b bytes anything).sound m1 count m2 is2 in
          let w = (each-refused (λ s. entry fit f) b k spot (replicate count tt) [] m2).0 q in
          let l3 = (law-each b (λ s. law-entry b bytes fit f (omega (arith, l1.0.1))) w.first).sound m2 w.items w.mid w.read in
          let each = each-following (EntryValid fit f) w.first [] w.items l3.0 in
          let v = entries→limits f fit (fewer f.events) [] w.items (omega arith) (none f.events) each.1 in
          let entries = flat_map (entry_bytes f.is_new) w.items in
          let later = part-append b m1 m2 w.mid (count ∷ []) entries l2.1 l3.1 in
          let whole = part-append b 0 m1 w.mid (first_of f ∷ []) (count ∷ entries) l1.1 later in
          let end : w.mid ≡ length_byte f w.items = omega (arith, whole.end) in
          let size : count ≡ length w.first + suc (length w.more) =
          sym (length-replicate count tt) ∙ ap length w.split ∙ length-append w.first (w.this ∷ w.more) in (
            f,
            w.items,
            drop w.mid b,
            record {
              events = l1.0;
              count = count;
              layout = whole.bytes;
              fewer = omega (arith, each.0, size);
              entries = v.0;
              log_events = v.1;
            },
            v.2,
            ap (entry fit f w.items b) (sym end) ∙ w.stops,
          )

  from : WordStops → head rows_fit b 0 ≡ refused k spot
  unfolding head head_after bind onward
  from (f, before, rest, d, fits, stops) =
      let fit = rows_fit f.events in
      let count = d.count in
      let entries = flat_map (entry_bytes f.is_new) before in
      let end = length_byte f before in
      let size : length (first_of f ∷ count ∷ entries) ≡ end = omega arith in
      let whole = subst (Part b 0 (first_of f ∷ count ∷ entries)) size (part-front b (first_of f ∷ count ∷ entries) rest d.layout) in
      let later = part_right b 0 end (first_of f ∷ []) (count ∷ entries) whole in
      let p1 = part_left b 0 end (first_of f ∷ []) (count ∷ entries) whole in
      let p2 = part_left b 1 end (count ∷ []) entries later in
      let p3 = part_right b 1 end (count ∷ []) entries later in
      let small : count < 256 = subst (λ (l : List ℕ). get_or l 1 0 < 256) d.layout (bytes 1) in
      let r1 = (law-first b bytes).complete 0 f 1 d.events p1 in
      let r2 = (law-byte b bytes anything).complete 1 count 2 (tt, small) p2 in
      let v = limits→entries f fit (fewer f.events) [] before d.entries d.log_events fits in
      let law = law-entry b bytes fit f (omega (arith, d.events.1)) in
      let r3 = (law-following b law (length before)).complete 2 before end (refl, v) p3 in
      let total : count ≡ length before + suc (count - length before - 1) = omega (arith, d.fewer) in
      let split : replicate count (tt {0}) ≡ replicate (length before) tt ++ tt ∷ replicate (count - length before - 1) tt =
      ap (λ (m : ℕ). replicate m (tt {0})) total ∙ sym (replicate-append-replicate (length before) (suc (count - length before - 1)) tt) in
      let q = (each-refused (λ s. entry fit f) b k spot (replicate count tt) [] 2).1 (record {
        first = replicate (length before) tt;
        this = tt;
        more = replicate (count - length before - 1) tt;
        split = split;
        items = before;
        mid = end;
        read = r3;
        stops = stops;
      }) in
      rw (r1, r2, q)

  word-stops : (head rows_fit b 0 ≡ refused k spot) ↔ WordStops
  word-stops = (to, from)

-- ---- 8 and 9

module _ (b : List ℕ) (bytes : Bytes b) (spot : ℕ) where
  -- what follows the words stands at the length byte
  behind : (f : First) (before : List Entry) (rest : List ℕ) → WordDue b f before rest → drop (length_byte f before) b ≡ rest
  behind f before rest d =
      let front = first_of f ∷ d.count ∷ flat_map (entry_bytes f.is_new) before in
      let size : length front ≡ length_byte f before = omega arith in
      ap (λ (i : ℕ). drop i b) (sym size) ∙ ap (drop (length front)) d.layout ∙ drop-append_seam front rest

  module _ (rows_fit : Log → Bool) (f : First) (before : List Entry) where
    -- a word is due, and its reader refuses with this number
    abbrev Refuses : ℕ → Type 0
    Refuses k = (rest : List ℕ) × WordDue b f before rest × (entry rows_fit f before b (length_byte f before) ≡ refused k spot)

    events_pass : Refuses events_number ↔ EventsPass b f before spot
    events_pass = (to, from)
      where
        to : Refuses events_number → EventsPass b f before spot
        to (rest, d, stops) =
            let at = length_byte f before in
            let c = (entry-8 f b at rows_fit before spot).0 stops in
            let first = sym (behind f before rest d) ∙ drop-cons b at 0 (omega (arith, c.1)) in
            record {
              size = get_or b at 0;
              rest = drop (suc at) b;
              due = subst (WordDue b f before) first d;
              over = c.2;
              offset = c.0;
            }

        from : EventsPass b f before spot → Refuses events_number
        from e =
            let at = length_byte f before in
            let stands = behind f before (e.size ∷ e.rest) e.due in
            let long : at + 1 ≤ length b = omega (arith, length-drop at b, ap length stands) in
            let value : get_or b at 0 ≡ e.size =
            ap (λ (i : ℕ). get_or b i 0) (sym (add-zero at)) ∙ sym (get_or-drop at b 0 0) ∙ ap (λ (l : List ℕ). get_or l 0 0) stands in
            let over = subst (λ (x : ℕ). max_log_events < event_count (words before) + x) (sym value) e.over in
            (e.size ∷ e.rest, e.due, (entry-8 f b at rows_fit before spot).1 (e.offset, long, over))

  module _ (f : First) (before : List Entry) where
    rows_pass : Refuses (rows_in_limit f.events) f before rows_number ↔ RowsPass b f before spot
    rows_pass = (to, from)
      where
        to : Refuses (rows_in_limit f.events) f before rows_number → RowsPass b f before spot
        to (rest, d, stops) =
            let at = length_byte f before in
            let (here, (x, next, is, over)) = (entry-9 f b at (rows_in_limit f.events) before spot).0 stops in
            let l = (law-entry_after b bytes f (omega (arith, d.events.1)) (event_count (words before))).sound at x next is in
            record {
              entry = x;
              rest = drop next b;
              due = subst (WordDue b f before) (sym (behind f before rest d) ∙ l.1.bytes) d;
              limits = l.0.0;
              events = l.0.1;
              over = (less (length (rows f.events (words (before ++ x ∷ [])))) max_rows).0 over;
              offset = here;
            }

        from : RowsPass b f before spot → Refuses (rows_in_limit f.events) f before rows_number
        from r =
            let at = length_byte f before in
            let x = entry_bytes f.is_new r.entry in
            let next = at + length x in
            let stands = behind f before (x ++ r.rest) r.due in
            let after : drop next b ≡ r.rest =
            sym (drop-drop (length x) at b) ∙ ap (drop (length x)) stands ∙ drop-append_seam x r.rest in
            let p : Part b at x next = record { bytes = stands ∙ ap (λ (l : List ℕ). x ++ l) (sym after); end = refl } in
            let law = law-entry_after b bytes f (omega (arith, r.due.events.1)) (event_count (words before)) in
            let is = law.complete at r.entry next (r.limits, r.events) p in
            let over = (less (length (rows f.events (words (before ++ r.entry ∷ [])))) max_rows).1 r.over in
            (x ++ r.rest, r.due, (entry-9 f b at (rows_in_limit f.events) before spot).1 (r.offset, (r.entry, next, is, over)))

  -- 8: the events would pass 1,024
  module _ (rows_fit : ℕ → Log → Bool) (none : (n : ℕ) → T (rows_fit n [])) (fewer : Fewer rows_fit) where
    pub head_8 : (head rows_fit b 0 ≡ refused events_number spot)
        ↔ ((f : First) × (before : List Entry) × T (rows_fit f.events (words before)) × EventsPass b f before spot)
    unfolding any
    head_8 = Iff.trans (word-stops rows_fit none fewer b bytes events_number spot refl) (
      (λ (f, before, rest, d, fit, stops). (f, before, fit, (events_pass (rows_fit f.events) f before).0 (rest, d, stops))),
      (λ (f, before, fit, e). let (rest, d, stops) = (events_pass (rows_fit f.events) f before).1 e in (f, before, rest, d, fit, stops)),
    )

  -- 9: the rows would pass 256
  module _ (none : (n : ℕ) → T (rows_in_limit n [])) (fewer : Fewer rows_in_limit) where
    pub head_9 : (head rows_in_limit b 0 ≡ refused rows_number spot)
        ↔ ((f : First) × (before : List Entry) × T (rows_in_limit f.events (words before)) × RowsPass b f before spot)
    unfolding any
    head_9 = Iff.trans (word-stops rows_in_limit none fewer b bytes rows_number spot refl) (
      (λ (f, before, rest, d, fit, stops). (f, before, fit, (rows_pass f before).0 (rest, d, stops))),
      (λ (f, before, fit, e). let (rest, d, stops) = (rows_pass f before).1 e in (f, before, rest, d, fit, stops)),
    )
