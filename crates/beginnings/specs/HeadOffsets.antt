-- At which offset a head ends that is refused with 6: its fields have one byte up to the place count, and two behind it.
use Rattle.std.proofs.Math.Path.{◌≡◌, refl, ap, subst}
use Rattle.std.proofs.Common.{sym, ◌∙◌}
use Rattle.std.specs.Prelude.{Bool, true, false, ℕ, ◌+◌, ◌*◌, ◌≤◌, T, ltb, get_or}
use Rattle.std.proofs.Math.Logic.{⊎_elim}
use mathlib.Core.List.{List, [], ◌∷◌, ◌++◌, flat_map}
use native.Mathlib.Omega.{arith}
use Rattle.std.proofs.Math.Dec.{leb}
use Rattle.std.proofs.Math.ListN.{length, get_or-append}
use Rattle.laws.specs.Booleans.{impossible, lt_or_le}
use Rattle.laws.specs.Numbers.{Bytes}
use Rattle.limits.specs.Limits.{max_log_events, max_events, max_places}
use Rattle.refusals.specs.Table.{bundle_end_number, events_number, rows_number}
use Rattle.refusals.specs.Results.{refused, bind}
use Rattle.nets.specs.Nets.{Entry, words, event_count}
use Rattle.bundles.specs.Reading.{Read, got, Reader, onward, ◌>>=◌, give, require, byte, number, each, following, times}
use Rattle.bundles.specs.Layout.{PlaceFields, First, Head, entry_bytes, front_bytes}
use Rattle.bundles.specs.Readers.{anything, any_rows, mark, entry_after, entry, place, places, first_byte, to_first, first, head_after, head}
use Rattle.bundles.specs.ReadingLaws.{and_then-got, field-got, law-following}
use Rattle.bundles.specs.LayoutLaws.{law-first, law-entry}
use Rattle.bundles.specs.Causes.{and_then-refused, field-refused}
use Rattle.beginnings.specs.Beginnings.{EndsAt, part_of_field}
use Rattle.beginnings.specs.Local.{Alike, alike-more, alike-less, Local, local_byte, local_each}
use Rattle.beginnings.specs.Locals.{OneByte, local_entry, local_first}

-- ---- fields of one byte: refused with 6, a bundle ends at the spot

pub record Ones {A : Type 0} (r : Reader A) : Type 0 where
  pub end : (b : List ℕ) (at spot : ℕ) → r b at ≡ refused bundle_end_number spot → length b ≤ spot

ones_give : {A : Type 0} (x : A) → Ones (give x)
ones_give x = record { end = λ b at spot e. impossible cc }

ones_then : {A B : Type 0} {r : Reader A} {f : A → Reader B} → Ones r → ((x : A) → Ones (f x)) → Ones (r >>= f)
ones_then {r = r} {f = f} first rest = record {
  end = λ b at spot e. ⊎_elim (λ q. first.end b at spot q) (λ (x, mid, is, q). (rest x).end b mid spot q)
      ((and_then-refused b (r b at) f bundle_end_number spot).0 e);
}

ones_each : {S A : Type 0} {r : S → List A → Reader A} → ((s : S) (before : List A) → Ones (r s before)) → (ss : List S) (before : List A)
    → Ones (each r ss before)
unfolding each
ones_each every [] before = ones_give before
ones_each every (s ∷ ss) before = ones_then (every s before) (λ x. ones_each every ss (before ++ x ∷ []))

ones_byte : (in_range : ℕ → Bool) → Ones (byte in_range)
unfolding byte
ones_byte in_range = record {
  end = λ b at spot e.
      let q = (field-refused 1 (get_or b at 0) in_range b at bundle_end_number spot).0 e in
      ⊎_elim (λ (six, short). omega (arith, q.0, short)) (λ (seven, there, bad). absurd (omega (arith, seven))) q.1;
}

ones_require : (ok : Bool) (number spot : ℕ) → (number ≡ bundle_end_number → ⊥) → Ones (require ok number spot)
unfolding require
ones_require true number spot other = record { end = λ b at s e. impossible cc }
ones_require false number spot other = record { end = λ b at s e. let six : number ≡ bundle_end_number = cc in absurd (other six) }

ones_mark : (is_new : Bool) → Ones (mark is_new)
unfolding mark
ones_mark true = ones_byte (λ m. leb m 1)
ones_mark false = ones_give 0

ones_entry : (f : First) (before : List Entry) → Ones (entry (any_rows f.events) f before)
unfolding entry entry_after
ones_entry f before =
    ones_then (record { end = λ b at spot e. impossible cc }) (λ start.
    ones_then (ones_then (record { end = λ b at spot e. impossible cc }) (λ start. ones_then (ones_byte anything) (λ size.
    ones_then (ones_require (leb (event_count (words before) + size) max_log_events) events_number start (λ e. omega (arith, e)))
    (λ u. ones_then (ones_mark f.is_new) (λ m. ones_then (ones_each (λ s before. ones_byte (λ e. ltb e f.events)) _ []) (λ w. ones_give _))))))
    (λ x. ones_then (ones_require true rows_number start (λ e. omega (arith, e))) (λ u. ones_give x)))

-- ---- fields of two bytes: each begins an even number of bytes behind the first

pub record Twos {A : Type 0} (r : Reader A) : Type 0 where
  pub read : (b : List ℕ) (at : ℕ) (x : A) (next : ℕ) → r b at ≡ got x next → (j : ℕ) × (next ≡ at + 2 * j)
  pub stop : (b : List ℕ) (at k spot : ℕ) → r b at ≡ refused k spot → (j : ℕ) × (spot ≡ at + 2 * j)

twos_give : {A : Type 0} (x : A) → Twos (give x)
twos_give x = record {
  read = λ b at y next e. let end : at ≡ next = cc in (0, omega (arith, end));
  stop = λ b at k spot e. impossible cc;
}

twos_then : {A B : Type 0} {r : Reader A} {f : A → Reader B} → Twos r → ((x : A) → Twos (f x)) → Twos (r >>= f)
twos_then {r = r} {f = f} first rest = record {
  read = λ b at y next e.
      let s = and_then-got b (r b at) f y next e in
      let i = first.read b at s.0 s.1 s.2 in
      let j = (rest s.0).read b s.1 y next s.3 in
      (i.0 + j.0, omega (arith, i.1, j.1));
  stop = λ b at k spot e. ⊎_elim
      (λ q. first.stop b at k spot q)
      (λ (x, mid, is, q). let i = first.read b at x mid is in let j = (rest x).stop b mid k spot q in (i.0 + j.0, omega (arith, i.1, j.1)))
      ((and_then-refused b (r b at) f k spot).0 e);
}

twos_each : {S A : Type 0} {r : Reader A} → Twos r → (ss : List S) (before : List A) → Twos (each (λ s before. r) ss before)
unfolding each
twos_each one [] before = twos_give before
twos_each one (s ∷ ss) before = twos_then one (λ x. twos_each one ss (before ++ x ∷ []))

twos_times : {A : Type 0} {r : Reader A} → Twos r → (k : ℕ) → Twos (times k r)
twos_times one k = twos_each one _ []

twos_number : Twos (number anything)
unfolding number
twos_number = record {
  read = λ b at x next e. (1, omega (arith, (field-got b 2 _ anything at x next e).3));
  stop = λ b at k spot e. (0, omega (arith, ((field-refused 2 _ anything b at k spot).0 e).0));
}

twos_place : (n : ℕ) → Twos (place n)
unfolding place
twos_place n = twos_then twos_number (λ m. twos_then (twos_times twos_number n) (λ ins. twos_then (twos_times twos_number n) (λ outs. twos_give _)))

-- a byte that is there, and one that is missing
pub byte-got : (b : List ℕ) (in_range : ℕ → Bool) (at x next : ℕ) → byte in_range b at ≡ got x next
    → (at + 1 ≤ length b) × (next ≡ at + 1) × T (in_range x) × (get_or b at 0 ≡ x)
unfolding byte
byte-got b in_range at x next e =
    let g = field-got b 1 (get_or b at 0) in_range at x next e in
    (g.0, g.3, subst (λ (k : ℕ). T (in_range k)) g.2 g.1, g.2)

pub byte-missing : (b : List ℕ) (in_range : ℕ → Bool) (at spot : ℕ) → byte in_range b at ≡ refused bundle_end_number spot
    → (spot ≡ at) × (length b ≤ at)
unfolding byte
byte-missing b in_range at spot e =
    let q = (field-refused 1 (get_or b at 0) in_range b at bundle_end_number spot).0 e in
    (q.0, ⊎_elim (λ (six, short). omega (arith, short)) (λ (seven, there, bad). absurd (omega (arith, seven))) q.1)

-- ---- a head that is refused with 6, and what it is filled up to

-- a bundle is alike one with more bytes behind it
alike-back : (b more : List ℕ) (k : ℕ) → k ≤ length b → Alike k (b ++ more) b
alike-back b more k within = record { there = within; same = λ i h. sym (get_or-append b more 0 i (omega (arith, h, within))) }

module _ (b more : List ℕ) (bytes : Bytes (b ++ more)) (h : Head) (spot : ℕ) (ends : EndsAt b spot) where
  -- up to the place count
  before-places : length b ≤ spot → length b ≤ length (front_bytes h) + 1 → spot + part_of_field h b ≡ length b
  before-places end short = ⊎_elim (λ at. omega (arith, at, short)) (λ at. omega (arith, at, end)) ends

  -- behind it
  in_places : (j : ℕ) → spot ≡ length (front_bytes h) + 1 + 2 * j → spot + part_of_field h b ≡ length b
  in_places j at = ⊎_elim (λ end. omega (arith, end, at)) (λ end. omega (arith, end, at)) ends

  -- the bytes of the words
  front-size : length (front_bytes h) ≡ length (flat_map (entry_bytes h.is_new) h.entries) + 2
  unfolding front_bytes
  front-size = omega arith

  -- what is read behind the places, and behind the words
  made : First → List Entry → List PlaceFields → Reader Head
  made f xs ps = give (record { is_new = f.is_new; events = f.events; entries = xs; places = ps })

  behind-words : First → List Entry → Reader Head
  behind-words f xs = places f.events >>= made f xs

  entries : First → ℕ → Reader (List Entry)
  entries f count = following count (entry (any_rows f.events) f)

  -- behind the word count: the words end at `mid` where they are read to
  module _ (f : First) (count : ℕ) (small : f.events ≤ max_events) where
    local_words : Local OneByte (entries f count)
    unfolding entries
    local_words = local_each (λ s. local_entry f) _ []

    -- what is read of the whole behind the words
    words-end : (xs : List Entry) (mid end : ℕ) → entries f count (b ++ more) 2 ≡ got xs mid → behind-words f xs (b ++ more) mid ≡ got h end
        → mid ≡ length (front_bytes h)
    unfolding entries behind-words made bind onward
    words-end xs mid end is e =
        let s = and_then-got (b ++ more) (places f.events (b ++ more) mid) (made f xs) h end e in
        let same : ◌≡◌ {A = Head} (record { is_new = f.is_new; events = f.events; entries = xs; places = s.0 }) h = cc s.3 in
        let l = (law-following (b ++ more) (law-entry (b ++ more) bytes (any_rows f.events) f (omega (arith, small))) count).sound 2 xs mid is in
        omega (arith, l.1.end, front-size, ap (λ (g : Head). length (flat_map (entry_bytes g.is_new) g.entries)) same)

    -- the bundle ends in the words
    in_words : (end : ℕ) → (entries f count >>= behind-words f) (b ++ more) 2 ≡ got h end → entries f count b 2 ≡ refused bundle_end_number spot
        → spot + part_of_field h b ≡ length b
    unfolding entries
    in_words end whole q =
        let (xs, mid, is, rest) = and_then-got (b ++ more) (entries f count (b ++ more) 2) (behind-words f) h end whole in
        let size = words-end xs mid end is rest in
        ⊎_elim
        (λ short. before-places ((ones_each (λ s. ones_entry f) _ []).end b 2 spot q) (omega (arith, short, size)))
        (λ within. absurd (apart (sym q ∙ local_words.read (b ++ more) b 2 xs mid is (alike-back b more mid within))))
        (lt_or_le (length b) mid)
      where
        apart : {xs : List Entry} {mid : ℕ} → ◌≡◌ {A = Read (List Entry)} (refused bundle_end_number spot) (got xs mid) → ⊥
        apart e = impossible cc

    -- in the places
    behind : (end : ℕ) → 2 ≤ length b → (entries f count >>= behind-words f) (b ++ more) 2 ≡ got h end
        → (xs : List Entry) (mid : ℕ) → entries f count b 2 ≡ got xs mid → behind-words f xs b mid ≡ refused bundle_end_number spot
        → spot + part_of_field h b ≡ length b
    unfolding behind-words made places bind onward
    behind end long whole xs mid is q =
        let n = f.events in
        let within = local_words.within b 2 xs mid is long in
        let is' = local_words.read b (b ++ more) 2 xs mid is (alike-less within (alike-more b more)) in
        let whole' : behind-words f xs (b ++ more) mid ≡ got h end = rw is' at whole in
        let size = words-end xs mid end is' whole' in
        ⊎_elim
        (λ q1. ⊎_elim
        (λ q2. before-places ((ones_byte _).end b mid spot q2) (omega (arith, size, within, (missing mid q2).1)))
        (λ (k, first, is4, q4). let j = (twos_times (twos_place n) k).stop b first bundle_end_number spot q4 in
        in_places j.0 (omega (arith, j.1, size, one_byte mid k first is4)))
        ((and_then-refused b (byte (λ k. leb k max_places) b mid) (λ k. times k (place n)) bundle_end_number spot).0 q1))
        (λ (ps, last, _, never). impossible cc)
        ((and_then-refused b (places n b mid) (made f xs) bundle_end_number spot).0 q)
      where
        one_byte : (mid k first : ℕ) → byte (λ k. leb k max_places) b mid ≡ got k first → first ≡ mid + 1
        one_byte mid k first e = (byte-got b (λ k. leb k max_places) mid k first e).1

        missing : (mid : ℕ) → byte (λ k. leb k max_places) b mid ≡ refused bundle_end_number spot → (spot ≡ mid) × (length b ≤ mid)
        missing mid e = byte-missing b (λ k. leb k max_places) mid spot e

  first-missing : first b 0 ≡ refused bundle_end_number spot → length b ≤ 0
  unfolding first
  first-missing e = ⊎_elim (λ q. (byte-missing b _ 0 spot q).1) (λ (x, mid, is, never). impossible cc)
      ((and_then-refused b (first_byte b 0) (λ x. give (to_first x)) bundle_end_number spot).0 e)

  pub head-offset : (end : ℕ) → head any_rows (b ++ more) 0 ≡ got h end → head any_rows b 0 ≡ refused bundle_end_number spot
      → spot + part_of_field h b ≡ length b
  unfolding head head_after behind-words made entries bind onward
  head-offset end whole e = ⊎_elim
      (λ q. let none = first-missing q in before-places (omega (arith, none)) (omega (arith, none)))
      (λ (f, m1, is1, q1).
      let is1' = local_first.read b (b ++ more) 0 f m1 is1 (alike-less (local_first.within b 0 f m1 is1 (omega arith)) (alike-more b more)) in
      let whole1 : head_after any_rows f (b ++ more) m1 ≡ got h end = rw is1' at whole in
      let l1 = (law-first (b ++ more) bytes).sound 0 f m1 is1' in
      ⊎_elim
      (λ q. before-places ((ones_byte _).end b m1 spot q) (omega (arith, (byte-missing b anything m1 spot q).1, l1.1.end, front-size)))
      (λ (count, m2, is2, q2).
      let g2 = byte-got b anything m1 count m2 is2 in
      let is2' = (local_byte {Size = OneByte} refl anything).read b (b ++ more) m1 count m2 is2
      (alike-less (omega (arith, g2.0, g2.1)) (alike-more b more)) in
      let whole2 : (entries f count >>= behind-words f) (b ++ more) m2 ≡ got h end = rw is2' at whole1 in
      let two : m2 ≡ 2 = omega (arith, l1.1.end, g2.1) in
      let whole3 = subst (λ (m : ℕ). (entries f count >>= behind-words f) (b ++ more) m ≡ got h end) two whole2 in
      let q3 = subst (λ (m : ℕ). (entries f count >>= behind-words f) b m ≡ refused bundle_end_number spot) two q2 in
      ⊎_elim
      (λ q. in_words f count l1.0.1 end whole3 q)
      (λ (xs, mid, is3, q). behind f count l1.0.1 end (omega (arith, g2.0, l1.1.end)) whole3 xs mid is3 q)
      ((and_then-refused b (entries f count b 2) (behind-words f) bundle_end_number spot).0 q3))
      ((and_then-refused b (byte anything b m1) (λ (count : ℕ). entries f count >>= behind-words f) bundle_end_number spot).0 q1))
      ((and_then-refused b (first b 0) (head_after any_rows) bundle_end_number spot).0 e)
