-- The readers of a head and of a certificate can be filled (Filling.antt): by partial words without events, by zeros, by k = 1, without pairs.
use Rattle.std.specs.Prelude.{◌≡◌, Bool, ◌&&◌, ◌⊎◌, ℕ, ◌+◌, ◌*◌, ◌%◌, ◌≤◌, ◌<◌, get_or}
use Rattle.std.proofs.Math.Path.{refl}
use Rattle.std.proofs.Common.{subst, leb→le}
use Rattle.std.proofs.Math.Bool.{true, false}
use Rattle.std.proofs.lemmas.Bool.{false≢true}
use Rattle.std.proofs.Math.Logic.{inl, inr, ⊎_elim}
use mathlib.Core.List.{List, [], ◌∷◌, ◌++◌}
use native.Mathlib.Omega.{arith}
use Rattle.std.proofs.Math.Dec.{T, leb, ltb, le→leb, lt→ltb}
use Rattle.std.specs.Float.Ieee.Fits.{and_l, and_r}
use Rattle.std.proofs.Math.ListN.{length}
use Rattle.laws.specs.Booleans.{lt_or_le}
use Rattle.laws.specs.Every.{every_member}
use Rattle.laws.specs.Numbers.{Bytes, bytes-append}
use Rattle.limits.specs.Limits.{max_events, max_log_events, max_places, max_terms, max_pairs, new_edition}
use Rattle.refusals.specs.Table.{bundle_end_number, events_number, rows_number}
use Rattle.refusals.specs.Results.{refused, bind}
use Rattle.nets.specs.Nets.{Entry, no_entry, words, event_count}
use Rattle.nets.specs.LogLaws.{events-snoc}
use Rattle.bundles.specs.Reading.{got, onward, ◌>>◌, require, byte, number, each}
use Rattle.bundles.specs.Layout.{First, Head, mark_bytes, entry_bytes, rows_in}
use Rattle.bundles.specs.Readers.{anything, any_rows, mark, marked_after, entry_after, entry, place, places, to_first, first, head_after, head}
use Rattle.bundles.specs.Readers.{term, pair, pairs, of_kind}
use Rattle.bundles.specs.ReadingLaws.{law-byte}
use Rattle.bundles.specs.LayoutLaws.{law-entry_after}
use Rattle.bundles.specs.Causes.{and_then-refused, field-refused}
use Rattle.beginnings.specs.Local.{Local, local_offset, local_passed, local_byte, local_number, local_any, local_each, local_times}
use Rattle.beginnings.specs.Locals.{OneByte, OneOrTwo, local_mark, local_entry_after, local_entry, local_place, local_places, local_first_byte}
use Rattle.beginnings.specs.Locals.{local_first, local_term, local_pair}
use Rattle.beginnings.specs.Weights.{termed}
use Rattle.beginnings.specs.Filling.{Filled, Fills, filled-behind, filled-law, fills_then, fills_give, fills_offset, fills_passed, fills_each}
use Rattle.beginnings.specs.Filling.{fills_less, fills_times, fills_byte, fills_number, bytes_one, nothing-more, part_end}

-- any number, in a bundle where a low byte is never so
fills_any : {Half : ℕ → Type 0} → Fills Half (number anything) (λ x. Unit {0})
fills_any = fills_number anything 0 tt (omega arith) (λ low small. inl (0, omega arith, tt))

-- a byte whose range has 0
fills_any_byte : {Half : ℕ → Type 0} (in_range : ℕ → Bool) → T (in_range 0) → Fills Half (byte in_range) (λ x. T (in_range x))
fills_any_byte in_range zero = fills_byte in_range 0 zero (omega arith)

-- ---- a head

-- no low byte of a head's numbers is wrong
abbrev pub Never : ℕ → Type 0
Never low = ⊥

-- what follows the length byte of a word: its mark, by 0, and its events
fills_mark : (is_new : Bool) → Fills Never (mark is_new) (λ m. Unit {0})
unfolding mark
fills_mark true = fills_less (fills_any_byte (λ m. leb m 1) tt)
fills_mark false = fills_give 0 tt

fills_marked : (f : First) → 1 ≤ f.events → (size : ℕ) → Fills Never (marked_after f size) (λ x. Unit {0})
fills_marked f some size =
    fills_then (local_mark f.is_new) (fills_mark f.is_new)
    (λ m _. fills_then {Size = OneByte} (local_times (local_byte refl (λ e. ltb e f.events)) size)
    (fills_times {Size = OneByte} (local_byte refl (λ e. ltb e f.events))
    (fills_any_byte (λ e. ltb e f.events) (lt→ltb 0 f.events some)) size)
    (λ w _. fills_give _ tt))

-- a word without events, marked 0 in the new edition
bytes-empty : (is_new : Bool) → Bytes (entry_bytes is_new no_entry)
unfolding entry_bytes mark_bytes
bytes-empty true = bytes-append (0 ∷ []) (0 ∷ []) (bytes_one 0 (omega arith)) (bytes_one 0 (omega arith))
bytes-empty false = bytes_one 0 (omega arith)

module _ (f : First) (some : 1 ≤ f.events) (most : f.events ≤ 256) (count : ℕ) (few : count ≤ max_log_events) where
  entry-starts : (b : List ℕ) → Bytes b → Filled (entry_after f count) b (length b)
  entry-starts b bytes =
      let bytes' = bytes-append b (entry_bytes f.is_new no_entry) bytes (bytes-empty f.is_new) in
      filled-law b no_entry bytes' (law-entry_after (b ++ entry_bytes f.is_new no_entry) bytes' f most count) (
        record {
          size = omega arith;
          events = λ e m. every_member (λ (e : ℕ). e < f.events) [] tt m;
          mark = λ never. absurd (false≢true never);
        },
        omega (arith, few),
      )

  -- behind the length byte
  entry-behind : (b : List ℕ) → Bytes b → (at spot size mid : ℕ) → at ≤ length b → byte anything b at ≡ got size mid → (t : Bool)
      → leb (count + size) max_log_events ≡ t → (require t events_number at >> marked_after f size) b mid ≡ refused bundle_end_number spot
      → Filled (entry_after f count) b at
  unfolding entry_after require bind onward
  entry-behind b bytes at spot size mid h is false t e = let same : events_number ≡ bundle_end_number = cc in absurd (omega (arith, same))
  entry-behind b bytes at spot size mid h is true t e =
      let local : Local OneByte (byte anything) = local_byte refl anything in
      ⊎_elim
      (λ s. let whole = filled-behind local (λ k. require (leb (count + k) max_log_events) events_number at >> marked_after f k) b at size mid h is
      (record { more = s.more; bytes = s.bytes; item = s.item; read = rw t s.read }) in
      record { more = whole.more; bytes = whole.bytes; item = whole.item; read = whole.read })
      (λ (end, never). absurd never)
      ((fills_marked f some size).ends b bytes mid spot (local.within b at size mid is h) e)

  pub fills_entry_after : Fills Never (entry_after f count) (λ x. count + length x.word ≤ max_log_events)
  unfolding entry_after byte bind onward
  fills_entry_after = record {
    holds = λ b bytes at x next e. ((law-entry_after b bytes f most count).sound at x next e).0.1;
    starts = entry-starts;
    ends = λ b bytes at spot h e. ⊎_elim
        (λ q. ⊎_elim
        (λ (six, short). let end : length b ≡ at = omega (arith, h, short) in
        inl (subst (Filled (entry_after f count) b) end (entry-starts b bytes)))
        (λ (seven, there, bad). absurd (omega (arith, seven)))
        ((field-refused 1 (get_or b at 0) anything b at bundle_end_number spot).0 q).1)
        (λ (size, mid, is, q). inl (entry-behind b bytes at spot size mid h is (leb (count + size) max_log_events) refl q))
        ((and_then-refused b (byte anything b at)
        (λ size. require (leb (count + size) max_log_events) events_number at >> marked_after f size) bundle_end_number spot).0 e);
  }

-- an entry, behind words with at most 1,024 events
fills_entry : (f : First) → 1 ≤ f.events → f.events ≤ 256 → (before : List Entry) → event_count (words before) ≤ max_log_events
    → Fills Never (entry (any_rows f.events) f before) (λ x. event_count (words (before ++ x ∷ [])) ≤ max_log_events)
unfolding entry
fills_entry f some most before few =
    fills_then {Size = OneByte} local_offset fills_offset
    (λ start _. fills_then (local_entry_after f (event_count (words before))) (fills_entry_after f some most (event_count (words before)) few)
    (λ x p. fills_then {Size = OneByte} (local_passed rows_number start) (fills_passed rows_number start)
    (λ _ _. fills_give x (omega (arith, events-snoc before x, p)))))

fills_place : (n : ℕ) → Fills Never (place n) (λ p. Unit {0})
unfolding place
fills_place n =
    fills_then {Size = OneByte} local_any fills_any
    (λ m _. fills_then {Size = OneByte} (local_times local_any n) (fills_times {Size = OneByte} local_any fills_any n)
    (λ ins _. fills_then {Size = OneByte} (local_times local_any n) (fills_times {Size = OneByte} local_any fills_any n)
    (λ outs _. fills_give _ tt)))

fills_places : (n : ℕ) → Fills Never (places n) (λ ps. Unit {0})
unfolding places
fills_places n =
    fills_then {Size = OneByte} (local_byte refl (λ k. leb k max_places)) (fills_any_byte (λ k. leb k max_places) tt)
    (λ count _. fills_times (local_place n) (fills_place n) count)

fills_head_after : (f : First) → 1 ≤ f.events → f.events ≤ max_events → Fills Never (head_after any_rows f) (λ h. Unit {0})
unfolding head_after event_count words
fills_head_after f some most =
    fills_then {Size = OneByte} (local_byte refl anything) (fills_any_byte anything tt)
    (λ count _. fills_then (local_each (λ s. local_entry f) _ [])
    (fills_each {P = λ xs. event_count (words xs) ≤ max_log_events} (λ s. local_entry f)
    (λ s xs few. fills_entry f some (omega (arith, most)) xs few) _ [] (omega arith))
    (λ xs _. fills_then (local_places f.events) (fills_places f.events)
    (λ ps _. fills_give _ tt)))

-- the first byte: by 1
fills_first : Fills Never first (λ f. (1 ≤ f.events) × (f.events ≤ max_events))
unfolding first to_first
fills_first =
    fills_then local_first_byte (fills_byte (λ x. leb 1 (x % new_edition) && leb (x % new_edition) max_events) 1 tt (omega arith))
    (λ x t. let n = x % new_edition in
    fills_give _ (leb→le 1 n (and_l (leb 1 n) (leb n max_events) t), leb→le n max_events (and_r (leb 1 n) (leb n max_events) t)))

pub fills_head : Fills Never (head any_rows) (λ h. Unit {0})
unfolding head
fills_head = fills_then local_first fills_first (λ f v. fills_head_after f v.0 v.1)

-- ---- a certificate, behind a head with an event and a row

module _ (h : Head) where
  -- the low byte of a row's number that no row has
  abbrev pub NoSuchRow : ℕ → Type 0
  NoSuchRow low = length (rows_in h) ≤ low

  module _ (event : 1 ≤ h.events) (row : 1 ≤ length (rows_in h)) where
    fills_term : Fills NoSuchRow (term h.events (length (rows_in h))) (λ t. Unit {0})
    unfolding term
    fills_term =
        fills_then {Size = OneOrTwo} (local_number (λ r. ltb r (length (rows_in h))) (inl (inr refl)))
        (fills_number (λ r. ltb r (length (rows_in h))) 0 (lt→ltb 0 _ row) (omega arith) high)
        (λ row _. fills_then {Size = OneOrTwo} (local_byte (inl refl) (λ e. ltb e h.events))
        (fills_any_byte (λ e. ltb e h.events) (lt→ltb 0 _ event))
        (λ event _. fills_then {Size = OneOrTwo} local_any fills_any (λ weight _. fills_give _ tt)))
      where
        high : (low : ℕ) → low < 256 → ((up : ℕ) × (up < 256) × T (ltb (low + 256 * up) (length (rows_in h)))) ⊎ NoSuchRow low
        high low small = ⊎_elim (λ less. inl (0, omega arith, lt→ltb (low + 256 * 0) (length (rows_in h)) (omega (arith, less)))) inr
            (lt_or_le low (length (rows_in h)))

    pub fills_termed : Fills NoSuchRow (termed h) (λ w. Unit {0})
    unfolding termed
    fills_termed =
        fills_then {Size = OneOrTwo} (local_number (leb 1) (inl (inr refl)))
        (fills_number (leb 1) 1 tt (omega arith) (λ low small. inl (1, omega arith, le→leb 1 (low + 256 * 1) (omega arith))))
        (λ k _. fills_then {Size = OneOrTwo} (local_byte (inl refl) (λ c. leb c max_terms)) (fills_any_byte (λ c. leb c max_terms) tt)
        (λ count _. fills_then (local_times (local_term h) count) (fills_times (local_term h) fills_term count)
        (λ ts _. fills_give _ tt)))

  pub fills_listed : 1 ≤ length h.places → Fills Never (of_kind h 0) (λ c. Unit {0})
  unfolding of_kind
  fills_listed place =
      fills_then {Size = OneOrTwo} (local_byte (inl refl) (λ j. ltb j (length h.places)))
      (fills_any_byte (λ j. ltb j (length h.places)) (lt→ltb 0 _ place))
      (λ j _. fills_give _ tt)

  -- pairs: from the end of any bundle by the count 0, and by any pair where there is a word
  pub pairs_start : (is_new : Bool) (b : List ℕ) → Bytes b → Filled (pairs is_new (length h.entries)) b (length b)
  unfolding pairs each bind onward
  pairs_start false b bytes = nothing-more b bytes [] refl
  pairs_start true b bytes =
      let bytes' = bytes-append b (0 ∷ []) bytes (bytes_one 0 (omega arith)) in
      let none = (law-byte (b ++ 0 ∷ []) bytes' (λ c. leb c max_pairs)).complete (length b) 0 _ (tt, omega arith) (part_end b (0 ∷ [])) in
      record { more = 0 ∷ []; bytes = bytes'; item = []; read = rw none }

  fills_pair : {Half : ℕ → Type 0} → 1 ≤ length h.entries → Fills Half (pair (length h.entries)) (λ q. Unit {0})
  unfolding pair
  fills_pair word =
      fills_then {Size = OneOrTwo} (local_byte (inl refl) (λ w. ltb w (length h.entries)))
      (fills_any_byte (λ w. ltb w (length h.entries)) (lt→ltb 0 _ word))
      (λ word _. fills_then {Size = OneOrTwo} local_any fills_any (λ weight _. fills_give _ tt))

  pub fills_pairs : {Half : ℕ → Type 0} → 1 ≤ length h.entries → (is_new : Bool) → Fills Half (pairs is_new (length h.entries)) (λ qs. Unit {0})
  unfolding pairs
  fills_pairs word false = fills_give [] tt
  fills_pairs word true =
      fills_then {Size = OneOrTwo} (local_byte (inl refl) (λ c. leb c max_pairs)) (fills_any_byte (λ c. leb c max_pairs) tt)
      (λ count _. fills_times (local_pair h) (fills_pair word) count)
