-- The fields of the new edition: exactly when the mark of a word, and the word's number of a pair, are refused.
use Rattle.std.specs.Prelude.{◌≡◌, Bool, ◌↔◌, ◌⊎◌, List, [], ◌∷◌, ◌++◌, ℕ, ◌+◌, ◌≤◌, ◌<◌, eqb, length, get_or}
use Rattle.std.proofs.Math.Path.{refl, ap, subst}
use Rattle.std.proofs.Common.{sym, ◌∙◌, inl}
use Rattle.std.proofs.Math.Bool.{true, false, false≢true}
use mathlib.Core.Logic.Iff
use Rattle.std.proofs.Math.Logic.{inr, ⊎_elim}
use native.Mathlib.Omega.{arith}
use borrow.Author.Tests.{le-leb, leb-true, le-ltb, ltb-false}
use Rattle.std.proofs.Math.Dec.{leb, ltb}
use Rattle.laws.specs.Booleans.{impossible}
use Rattle.limits.specs.Limits.{max_log_events}
use Rattle.refusals.specs.Table.{bundle_end_number, value_number, events_number, rows_number}
use Rattle.refusals.specs.Results.{refused, bind}
use Rattle.nets.specs.Nets.{Log, Entry, words, event_count}
use Rattle.bundles.specs.Reading.{got, Reader, onward, ◌>>=◌, ◌>>◌, give, require, field, byte, number, times}
use Rattle.bundles.specs.Layout.{First, PairFields}
use Rattle.bundles.specs.Readers.{anything, mark, marked_after, entry_after, entry, pair}
use Rattle.bundles.specs.ReadingLaws.{field-got}
use Rattle.bundles.specs.Causes.{and_then-refused, field-refused}
use Rattle.beginnings.specs.Local.{Local, local_give, local_then, local_times, local_byte}
use Rattle.beginnings.specs.Locals.{OneByte}

-- a field of one byte is refused at its offset
abbrev pub ByteRefused : List ℕ → ℕ → (ℕ → Bool) → ℕ → ℕ → Type 0
ByteRefused b at in_range k spot =
    (spot ≡ at) × (((k ≡ bundle_end_number) × (length b < at + 1)) ⊎ ((k ≡ value_number) × (at + 1 ≤ length b) × (in_range (get_or b at 0) ≡ false)))

pub byte-refused : (in_range : ℕ → Bool) (b : List ℕ) (at k spot : ℕ) → (byte in_range b at ≡ refused k spot) ↔ ByteRefused b at in_range k spot
unfolding byte
byte-refused in_range b at k spot = field-refused 1 (get_or b at 0) in_range b at k spot

byte-got : (in_range : ℕ → Bool) (b : List ℕ) (at x next : ℕ) → byte in_range b at ≡ got x next
    → (at + 1 ≤ length b) × (get_or b at 0 ≡ x) × (next ≡ at + 1)
unfolding byte
byte-got in_range b at x next e = let g = field-got b 1 (get_or b at 0) in_range at x next e in (g.0, g.2, g.3)

read_byte : (b : List ℕ) (at : ℕ) → at + 1 ≤ length b → byte anything b at ≡ got (get_or b at 0) (at + 1)
unfolding byte field
read_byte b at there = rw (le-leb (at + 1) (length b) there)

-- ---- A mark

-- 0 or 1
abbrev pub is_mark : ℕ → Bool
is_mark m = leb m 1

module _ (f : First) (is_new : f.is_new ≡ true) (b : List ℕ) where
  -- what follows the mark m of a word of so many events
  abbrev events : ℕ → ℕ → Reader Entry
  events size m = times size (byte (λ e. ltb e f.events)) >>= (λ w. give (record { word = w; completed = eqb m 1 }))

  -- it is refused behind the mark
  events-local : (size m : ℕ) → Local OneByte (events size m)
  events-local size m = local_then (local_times (local_byte refl _) size) (λ w. local_give _)

  module _ (at : ℕ) where
    mark_is : mark f.is_new b at ≡ byte is_mark b at
    unfolding mark
    mark_is = ap (λ (t : Bool). mark t b at) is_new

    marked_refused : (size k : ℕ) → (marked_after f size b at ≡ refused k at) ↔ (byte is_mark b at ≡ refused k at)
    marked_refused size k = (
      (λ e. ⊎_elim (λ q. sym mark_is ∙ q) (λ (m, mid, is, q). absurd (behind m mid (sym mark_is ∙ is) q)) (law.0 e)),
      (λ q. law.1 (inl (mark_is ∙ q))),
    )
      where
        law : (marked_after f size b at ≡ refused k at) ↔ ((mark f.is_new b at ≡ refused k at)
            ⊎ ((m : ℕ) × (mid : ℕ) × (mark f.is_new b at ≡ got m mid) × (events size m b mid ≡ refused k at)))
        law = and_then-refused b (mark f.is_new b at) (events size) k at

        behind : (m mid : ℕ) → byte is_mark b at ≡ got m mid → events size m b mid ≡ refused k at → ⊥
        behind m mid is q =
            let g = byte-got is_mark b at m mid is in
            let s = (events-local size m).stop b mid k at (omega (arith, g.0, g.2)) q in
            omega (arith, s.from, g.2)

  module _ (at : ℕ) (rows_fit : Log → Bool) (before : List Entry) (k : ℕ) where
    abbrev count : ℕ
    count = event_count (words before)

    -- 8, then what follows the length byte
    abbrev tested : ℕ → Reader Entry
    tested size = require (leb (count + size) max_log_events) events_number at >> marked_after f size

    tested-refused : (size : ℕ) → (tested size b (at + 1) ≡ refused k (at + 1))
        ↔ ((count + size ≤ max_log_events) × (byte is_mark b (at + 1) ≡ refused k (at + 1)))
    unfolding require bind onward
    tested-refused size = (to (leb (count + size) max_log_events) refl, from)
      where
        to : (t : Bool) → leb (count + size) max_log_events ≡ t → (require t events_number at >> marked_after f size) b (at + 1) ≡ refused k (at + 1)
            → (count + size ≤ max_log_events) × (byte is_mark b (at + 1) ≡ refused k (at + 1))
        to true t e = (leb-true (count + size) max_log_events t, (marked_refused (at + 1) size k).0 e)
        to false t e = let spot : at ≡ at + 1 = cc in absurd (omega arith)

        from : (count + size ≤ max_log_events) × (byte is_mark b (at + 1) ≡ refused k (at + 1)) → tested size b (at + 1) ≡ refused k (at + 1)
        from (few, e) = rw (le-leb (count + size) max_log_events few) ((marked_refused (at + 1) size k).1 e)

    after-refused : (entry_after f count b at ≡ refused k (at + 1))
        ↔ ((at + 1 ≤ length b) × (count + get_or b at 0 ≤ max_log_events) × (byte is_mark b (at + 1) ≡ refused k (at + 1)))
    unfolding entry_after bind onward
    after-refused = (
      (λ e. ⊎_elim
          (λ q. absurd (omega (arith, ((byte-refused anything b at k (at + 1)).0 q).0)))
          (λ (size, next, is, q).
          let g = byte-got anything b at size next is in
          let r = (tested-refused size).0 (subst (λ (i : ℕ). tested size b i ≡ refused k (at + 1)) g.2 q) in
          (g.0, subst (λ (x : ℕ). count + x ≤ max_log_events) (sym g.1) r.0, r.1))
          (law.0 e)),
      (λ (there, few, q). law.1 (inr (get_or b at 0, at + 1, read_byte b at there, (tested-refused (get_or b at 0)).1 (few, q)))),
    )
      where
        law : (entry_after f count b at ≡ refused k (at + 1)) ↔ ((byte anything b at ≡ refused k (at + 1))
            ⊎ ((size : ℕ) × (next : ℕ) × (byte anything b at ≡ got size next) × (tested size b next ≡ refused k (at + 1))))
        law = and_then-refused b (byte anything b at) tested k (at + 1)

    -- 9 stands elsewhere
    abbrev rows-tested : Entry → Reader Entry
    rows-tested x = require (rows_fit (words (before ++ x ∷ []))) rows_number at >> give x

    rows-elsewhere : (x : Entry) (next : ℕ) → rows-tested x b next ≡ refused k (at + 1) → ⊥
    unfolding require bind onward
    rows-elsewhere x next e = go (rows_fit (words (before ++ x ∷ []))) e
      where
        go : (t : Bool) → (require t rows_number at >> give x) b next ≡ refused k (at + 1) → ⊥
        go true q = impossible cc
        go false q = let spot : at ≡ at + 1 = cc in omega arith

    -- of a word, behind those before: its length byte is there, and the events do not pass 1,024
    pub mark-refused : (entry rows_fit f before b at ≡ refused k (at + 1))
        ↔ ((at + 1 ≤ length b) × (count + get_or b at 0 ≤ max_log_events) × ByteRefused b (at + 1) is_mark k (at + 1))
    unfolding entry bind onward
    mark-refused =
        let law = and_then-refused b (entry_after f count b at) rows-tested k (at + 1) in
        Iff.trans (
          (λ e. ⊎_elim (λ q. q) (λ (x, next, is, q). absurd (rows-elsewhere x next q)) (law.0 e)),
          (λ q. law.1 (inl q)),
        ) (Iff.trans after-refused (
          (λ (there, few, q). (there, few, (byte-refused is_mark b (at + 1) k (at + 1)).0 q)),
          (λ (there, few, q). (there, few, (byte-refused is_mark b (at + 1) k (at + 1)).1 q)),
        ))

-- ---- The word of a pair

module _ (b : List ℕ) (at word_count spot : ℕ) where
  -- the weight may have any value
  abbrev weight : ℕ → Reader PairFields
  weight word = number anything >>= (λ h. give (record { word = word; weight = h }))

  weight-any : (word next : ℕ) → weight word b next ≡ refused value_number spot → ⊥
  unfolding number
  weight-any word next e = ⊎_elim
      (λ q. ⊎_elim (λ (six, short). omega (arith, six)) (λ (seven, there, bad). false≢true (sym bad))
      ((field-refused 2 _ anything b next value_number spot).0 q).1)
      (λ (h, mid, is, q). impossible cc)
      ((and_then-refused b (number anything b next) (λ h. give (record { word = word; weight = h })) value_number spot).0 e)

  pub pair-word : (pair word_count b at ≡ refused value_number spot) ↔ ((spot ≡ at) × (at + 1 ≤ length b) × (word_count ≤ get_or b at 0))
  unfolding pair
  pair-word =
      let law = and_then-refused b (byte (λ w. ltb w word_count) b at) weight value_number spot in
      let first = byte-refused (λ w. ltb w word_count) b at value_number spot in (
        (λ e. ⊎_elim
            (λ q. let (here, cause) = first.0 q in
            ⊎_elim (λ (six, short). absurd (omega (arith, six)))
            (λ (seven, there, bad). (here, there, ltb-false (get_or b at 0) word_count bad)) cause)
            (λ (word, next, is, q). absurd (weight-any word next q))
            (law.0 e)),
        (λ (here, there, none). law.1 (inl (first.1 (here, inr (refl, there, le-ltb (get_or b at 0) word_count none))))),
      )
