-- The words of a bundle that was judged, as the code walks over them: each is cut off the front of the bytes that are left.
use Rattle.std.specs.Prelude.{◌≡◌, refl, Bool, true, false, ◌&&◌, ℕ, ◌+◌, ◌-◌, ◌≤◌, ◌<◌, eqb, length, take, drop, get_or}
use Rattle.std.proofs.Common.{sym, ap, ap₂, ◌∙◌, arith, take_all, take_at}
use mathlib.Core.List.{List, [], ◌∷◌, ◌++◌, map, flat_map}
use mir.Val.{bool_byte}
use Rattle.laws.specs.Every.{Every}
use Rattle.nets.specs.Nets.{Entry}
use Rattle.bundles.specs.Layout.{First, Head, EntryInLimits, mark_bytes, entry_bytes, front_bytes}
use Rattle.contents.specs.Walking.{entry_length}
use Rattle.contents.specs.Cuts.{cut, cut_whole, cut-next, whole-next, joined-cut, joined-whole}

-- how many bytes the first word of some bytes has: its length, in the new edition its mark, its events
unfoldable pub word_size : Bool → List ℕ → ℕ
word_size is_new b = 1 + bool_byte is_new + get_or b 0 0

-- the first word, and whether it has a mark that says completed
unfoldable pub first_word : Bool → List ℕ → Entry
first_word is_new b = record { word = drop (1 + bool_byte is_new) (take (word_size is_new b) b); completed = is_new && eqb (get_or b 1 0) 1 }

-- the words of some bytes, one behind the other
abbrev pub entries_of : Bool → List ℕ → List Entry
entries_of is_new = cut (word_size is_new) (first_word is_new)

-- whether the last of them ends where the bytes do
abbrev pub whole : Bool → List ℕ → Bool
whole is_new = cut_whole (word_size is_new)

word-long : (is_new : Bool) (b : List ℕ) → 1 ≤ word_size is_new b
unfolding word_size
word-long is_new b = omega arith

-- a word in front
pub record WordInFront (is_new : Bool) (b : List ℕ) : Type 0 where
  pub inside : word_size is_new b ≤ length b
  pub rest : whole is_new (drop (word_size is_new b) b) ≡ true
  pub is : entries_of is_new b ≡ first_word is_new b ∷ entries_of is_new (drop (word_size is_new b) b)

pub word-front : (is_new : Bool) (b : List ℕ) → 0 < length b → whole is_new b ≡ true → WordInFront is_new b
word-front is_new b some all =
    let next = whole-next (word_size is_new) (word-long is_new) b some all in
    record { inside = next.0; rest = next.1; is = cut-next (word_size is_new) (word-long is_new) (first_word is_new) b some }

-- ---- the words of a log

module _ (is_new : Bool) where
  -- a word as its bytes say it: without a mark it is partial
  abbrev as_written : Entry → Entry
  as_written x = record { word = x.word; completed = is_new && x.completed }

  size-is : (x : Entry) (rest : List ℕ) → word_size is_new (entry_bytes is_new x ++ rest) ≡ length (entry_bytes is_new x)
  unfolding word_size entry_bytes
  size-is x rest = sym (entry_length is_new x)

  -- its events and its mark are found again
  events-is : (x : Entry) → drop (1 + bool_byte is_new) (entry_bytes is_new x) ≡ x.word
  unfolding entry_bytes mark_bytes
  events-is x = go is_new
    where
      go : (e : Bool) → drop (1 + bool_byte e) (length x.word ∷ (mark_bytes e x.completed ++ x.word)) ≡ x.word
      go true = refl
      go false = refl

  mark-is : (x : Entry) (rest : List ℕ) → (is_new && eqb (get_or (entry_bytes is_new x ++ rest) 1 0) 1) ≡ (is_new && x.completed)
  unfolding entry_bytes mark_bytes
  mark-is x rest = go is_new x.completed
    where
      go : (e c : Bool) → (e && eqb (get_or (length x.word ∷ (mark_bytes e c ++ x.word ++ rest)) 1 0) 1) ≡ (e && c)
      go true true = refl
      go true false = refl
      go false c = refl

  first-is : (x : Entry) (rest : List ℕ) → first_word is_new (entry_bytes is_new x ++ rest) ≡ as_written x
  unfolding first_word
  first-is x rest =
      let bytes = entry_bytes is_new x in
      let cut_off : take (word_size is_new (bytes ++ rest)) (bytes ++ rest) ≡ bytes = take_at bytes rest _ (sym (size-is x rest)) in
      ap₂ (λ (w : List ℕ) (c : Bool). record { word = w; completed = c }) (ap (drop (1 + bool_byte is_new)) cut_off ∙ events-is x) (mark-is x rest)

  pub words-whole : (xs : List Entry) → whole is_new (flat_map (entry_bytes is_new) xs) ≡ true
  words-whole = joined-whole (word_size is_new) (word-long is_new) (entry_bytes is_new) size-is

  words-written : (xs : List Entry) → entries_of is_new (flat_map (entry_bytes is_new) xs) ≡ map as_written xs
  words-written = joined-cut (word_size is_new) (word-long is_new) (entry_bytes is_new) size-is (first_word is_new) as_written first-is

-- in their limits they are as they were: only the new edition has completed words
module _ (f : First) where
  in-limits : (x : Entry) → EntryInLimits f x → as_written f.is_new x ≡ x
  in-limits x limits = ap (λ (c : Bool). record { word = x.word; completed = c }) (go f.is_new x.completed limits.mark)
    where
      go : (e c : Bool) → (c ≡ true → e ≡ true) → (e && c) ≡ c
      go true c h = refl
      go false true h = h refl
      go false false h = refl

  all-in-limits : (xs : List Entry) → Every (EntryInLimits f) xs → map (as_written f.is_new) xs ≡ xs
  all-in-limits [] v = refl
  all-in-limits (x ∷ xs) v = ap₂ ◌∷◌ (in-limits x v.0) (all-in-limits xs v.1)

  pub words-are : (xs : List Entry) → Every (EntryInLimits f) xs → entries_of f.is_new (flat_map (entry_bytes f.is_new) xs) ≡ xs
  words-are xs v = words-written f.is_new xs ∙ all-in-limits xs v

-- ---- where they stand

-- behind the first byte of a bundle and their count
pub front-words : (h : Head) (front : List ℕ) → front ≡ front_bytes h
    → take (length front - 2) (drop 2 front) ≡ flat_map (entry_bytes h.is_new) h.entries
unfolding front_bytes
front-words h front is = rw is (take_all _ (flat_map (entry_bytes h.is_new) h.entries) (omega arith))
