-- Which numbers a reader refuses with.
use Rattle.std.specs.Prelude.{◌≡◌, Bool, cond, ◌⊎◌, leb, length, get_or}
use Rattle.std.proofs.Math.Bool.{true, false}
use Rattle.std.proofs.Common.{inl, inr}
use mathlib.Core.List.{List, [], ◌∷◌, ◌++◌}
use Prim.Native.Nat.{ℕ, zero, suc, ◌+◌}
use Rattle.laws.specs.Booleans.{impossible}
use Rattle.laws.specs.Lists.{among}
use Rattle.laws.specs.Numbers.{number_at}
use Rattle.refusals.specs.Table.{bundle_end_number, value_number, events_number, rows_number}
use Rattle.refusals.specs.Results.{refused, Refuses, refuses-value, refuses_with, refuses-then}
use Rattle.nets.specs.Nets.{Log, Entry, words, event_count}
use Rattle.bundles.specs.Reading.{got, item, Reader, onward, ◌>>=◌, give, offset, require, field, byte, number, each, times}
use Rattle.bundles.specs.Layout.{First, Head, kind0, kind1}
use Rattle.bundles.specs.Readers.{anything, mark, entry_after, entry, place, places, first, head_after, head, term, pair, pairs, weights, of_kind, certificate}

-- r refuses with a number of the list, wherever it reads
pub record ReaderRefuses {A : Type 0} (numbers : List ℕ) (r : Reader A) : Type 0 where
  pub only : (b : List ℕ) (at : ℕ) → Refuses numbers (r b at)

-- a refusal's number is in the list
abbrev pub Among : List ℕ → ℕ → Type 0
Among numbers number = among number numbers ≡ true

module _ {numbers : List ℕ} where
  pub reader_give : {A : Type 0} (x : A) → ReaderRefuses numbers (give x)
  reader_give x = record { only = λ b at. refuses-value (item x at) }

  pub reader_offset : ReaderRefuses numbers offset
  reader_offset = record { only = λ b at. refuses-value (item at at) }

  pub reader_require : (passed : Bool) (number spot : ℕ) → (passed ≡ true) ⊎ Among numbers number
      → ReaderRefuses numbers (require passed number spot)
  unfolding require
  reader_require true number spot listed = record { only = λ b at. refuses-value (item tt at) }
  reader_require false number spot (inl never) = impossible cc
  reader_require false number spot (inr listed) = record { only = λ b at. refuses_with number spot listed }

  pub reader_then : {A B : Type 0} {r : Reader A} {f : A → Reader B} → ReaderRefuses numbers r
      → ((x : A) → ReaderRefuses numbers (f x)) → ReaderRefuses numbers (r >>= f)
  unfolding onward
  reader_then first rest = record { only = λ b at. refuses-then (first.only b at) (elim [ item x next ↦ (rest x).only b next ]) }

  pub reader_each : {S A : Type 0} {r : S → List A → Reader A} → ((s : S) (before : List A) → ReaderRefuses numbers (r s before))
      → (ss : List S) (before : List A) → ReaderRefuses numbers (each r ss before)
  unfolding each
  reader_each every [] before = reader_give before
  reader_each every (s ∷ ss) before = reader_then (every s before) (λ x. reader_each every ss (before ++ x ∷ []))

  pub reader_times : {A : Type 0} {r : Reader A} (k : ℕ) → ReaderRefuses numbers r → ReaderRefuses numbers (times k r)
  reader_times k one = reader_each (λ s before. one) _ []

  -- ---- fields

  module _ (end : Among numbers bundle_end_number) (value : Among numbers value_number) where
    refuses-field : (size x : ℕ) (in_range : ℕ → Bool) (b : List ℕ) (at : ℕ) → Refuses numbers (field size x in_range b at)
    unfolding field
    refuses-field size x in_range b at = go (leb (at + size) (length b)) (in_range x)
      where
        go : (there good : Bool)
            → Refuses numbers (cond there (cond good (got x (at + size)) (refused value_number at)) (refused bundle_end_number at))
        go true true = refuses-value (item x (at + size))
        go true false = refuses_with value_number at value
        go false good = refuses_with bundle_end_number at end

    pub reader_byte : (in_range : ℕ → Bool) → ReaderRefuses numbers (byte in_range)
    unfolding byte
    reader_byte in_range = record { only = λ b at. refuses-field 1 (get_or b at 0) in_range b at }

    pub reader_number : (in_range : ℕ → Bool) → ReaderRefuses numbers (number in_range)
    unfolding number
    reader_number in_range = record { only = λ b at. refuses-field 2 (number_at b at) in_range b at }

    -- ---- the fields of a bundle

    -- a mark, and the events behind it: 6, 7
    pub reader-mark : (is_new : Bool) → ReaderRefuses numbers (mark is_new)
    unfolding mark
    reader-mark false = reader_give 0
    reader-mark true = reader_byte _

    module _ (events : Among numbers events_number) where
      pub reader-entry_after : (f : First) (count : ℕ) → ReaderRefuses numbers (entry_after f count)
      unfolding entry_after
      reader-entry_after f count =
          reader_then reader_offset (λ start.
          reader_then (reader_byte anything) (λ size.
          reader_then (reader_require _ events_number start (inr events)) (λ u.
          reader_then (reader-mark f.is_new) (λ m. reader_then (reader_times size (reader_byte _)) (λ w. reader_give _)))))

      reader-entry : (rows_fit : Log → Bool) → ((log : Log) → (rows_fit log ≡ true) ⊎ Among numbers rows_number)
          → (f : First) (before : List Entry) → ReaderRefuses numbers (entry rows_fit f before)
      unfolding entry
      reader-entry rows_fit fit f before =
          reader_then reader_offset (λ start.
          reader_then
          (reader-entry_after f (event_count (words before)))
          (λ x. reader_then (reader_require _ rows_number start (fit (words (before ++ x ∷ [])))) (λ u. reader_give x)))

      reader_places : (n : ℕ) → ReaderRefuses numbers (places n)
      unfolding places place
      reader_places n =
          reader_then (reader_byte _) (λ count. reader_times count
          (reader_then (reader_number anything) (λ m.
          reader_then (reader_times n (reader_number anything)) (λ ins.
          reader_then (reader_times n (reader_number anything)) (λ outs. reader_give _)))))

      -- a head: 6, 7, 8, and 9 where the rows may not fit
      pub reader_head : (rows_fit : ℕ → Log → Bool)
          → ((n : ℕ) (log : Log) → (rows_fit n log ≡ true) ⊎ Among numbers rows_number) → ReaderRefuses numbers (head rows_fit)
      unfolding head_after first head
      reader_head rows_fit fit =
          reader_then (reader_then (reader_byte _) (λ x. reader_give _)) (λ f.
          reader_then (reader_byte anything) (λ count.
          reader_then (reader_each (λ s. reader-entry (rows_fit f.events) (fit f.events) f) _ []) (λ entries.
          reader_then (reader_places f.events) (λ ps. reader_give _))))

    reader-pairs : (is_new : Bool) (word_count : ℕ) → ReaderRefuses numbers (pairs is_new word_count)
    unfolding pairs pair
    reader-pairs false word_count = reader_give []
    reader-pairs true word_count =
        reader_then (reader_byte _) (λ count.
        reader_times count (reader_then (reader_byte _) (λ word. reader_then (reader_number anything) (λ weight. reader_give _))))

    -- a certificate: 6, 7
    pub reader_certificate : (h : Head) → ReaderRefuses numbers (certificate h)
    unfolding certificate of_kind weights term
    reader_certificate h = reader_then (reader_byte _) (elim [
      | zero ↦ reader_then (reader_byte _) (λ j. reader_give (kind0 j))
      | suc k ↦
          reader_then (reader_number _) (λ k.
          reader_then (reader_byte _) (λ count.
          reader_then (reader_times count (reader_then (reader_number _) (λ row.
          reader_then (reader_byte _) (λ event.
          reader_then (reader_number anything) (λ weight. reader_give _))))) (λ ts.
          reader_then (reader-pairs h.is_new (length h.entries)) (λ qs. reader_give (kind1 (record { k = k; terms = ts; pairs = qs }))))))
    ])
