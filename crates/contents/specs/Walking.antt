-- The words and the places of a bundle that was judged, as the code walks over them.
use Rattle.std.specs.Prelude.{◌≡◌, Bool, true, false, take, drop}
use mir.Val.{bool_byte}
use Rattle.std.proofs.Math.Path.{ap}
use Rattle.std.proofs.Common.{sym, ap₂, ◌∙◌, ⊎_elim, subst, add-mul, take_at, drop_at, take-append-drop, get_or-append-add, length-take-le, length-drop}
use mathlib.Core.List.Memᴰ
use mathlib.Core.List.{List, [], ◌∷◌, ◌++◌, flat_map, append-nil, Memᴰ}
use Prim.Native.Nat.{ℕ, suc, ◌+◌, ◌-◌, ◌*◌, ◌≤◌, ◌<◌}
use Rattle.std.proofs.Math.Nat.{mul-le-mul_right}
use Rattle.std.proofs.Math.Seq.{drop-drop}
use native.Mathlib.Omega.{arith}
use Rattle.std.proofs.Math.ListN.{length, get_or, length-append}
use Rattle.laws.specs.Booleans.{lt_or_le}
use Rattle.laws.specs.Every.{Every, every_member, every_intro}
use Rattle.laws.specs.Lists.{get_d_member}
use Rattle.laws.specs.Spans.{span_next, span_at, part_at, part-within}
use Rattle.nets.specs.Nets.{Entry, no_entry}
use Rattle.bundles.specs.Layout.{PlaceFields, PlaceInLimits, first_of, first_in, mark_bytes, entry_bytes, place_bytes, front_bytes}
use Rattle.bundles.specs.PlaceReading.{place_size}
use Rattle.contents.specs.Contents.{IsBundle, contents_of, certificates_bytes, bytes-parts, place-length, places-length}

-- a byte of a list, by what stands before it
byte_of : (before piece : List ℕ) (b : List ℕ) (at i : ℕ) → b ≡ before ++ piece → length before ≡ at → get_or b (at + i) 0 ≡ get_or piece i 0
byte_of before piece b at i is size = rw (is, ← size) (get_or-append-add before piece i 0)

-- ---- words

-- the entries of a bundle, and the bytes of one
abbrev pub entries_in : List ℕ → List Entry
entries_in b = (contents_of b).head.entries

abbrev pub entry_in : List ℕ → Entry → List ℕ
entry_in b = entry_bytes (contents_of b).head.is_new

-- before the events of a word its length, and in the new edition its mark, as many bytes as the code has for it
pub entry_length : (is_new : Bool) (x : Entry) → length (entry_bytes is_new x) ≡ 1 + bool_byte is_new + length x.word
unfolding entry_bytes mark_bytes
entry_length true x = omega arith
entry_length false x = omega arith

module _ {b : List ℕ} (bundle : IsBundle b) where
  abbrev front : List ℕ
  front = first_of (first_in (contents_of b).head) ∷ length (entries_in b) ∷ []

  abbrev behind_words : List ℕ
  behind_words = length (contents_of b).head.places ∷ (flat_map place_bytes (contents_of b).head.places ++ certificates_bytes (contents_of b))

  words_stand : b ≡ front ++ (flat_map (entry_in b) (entries_in b) ++ behind_words)
  unfolding front_bytes
  words_stand = bundle.layout ∙ bytes-parts (contents_of b)

  pub word_count : get_or b 1 0 ≡ length (entries_in b)
  word_count = ap (λ (l : List ℕ). get_or l 1 0) words_stand

  -- the byte at word i is its length
  pub word-length : (i at : ℕ) → i < length (entries_in b) → at ≡ 2 + length (flat_map (entry_in b) (take i (entries_in b)))
      → let size = 1 + bool_byte (contents_of b).head.is_new + get_or b at 0 in
      (at + size ≤ length b) × (at + size ≡ 2 + length (flat_map (entry_in b) (take (i + 1) (entries_in b))))
  unfolding entry_bytes
  word-length i at h is =
      let x = get_or (entries_in b) i no_entry in
      let before = front ++ flat_map (entry_in b) (take i (entries_in b)) in
      let rest = flat_map (entry_in b) (drop (suc i) (entries_in b)) ++ behind_words in
      let stands : b ≡ before ++ (entry_in b x ++ rest) = span_at (entry_in b) (entries_in b) i no_entry h front behind_words b words_stand in
      let start : length before ≡ at = omega (arith, is, length-append front (flat_map (entry_in b) (take i (entries_in b)))) in
      let inside = part-within before (entry_in b x) rest b at stands start in
      let byte : get_or b at 0 ≡ length x.word =
      ap (λ (k : ℕ). get_or b k 0) (omega arith) ∙ byte_of before (entry_in b x ++ rest) b at 0 stands start in
      let long = entry_length (contents_of b).head.is_new x in (
        omega (arith, inside, byte, long),
        rw (span_next (entry_in b) (entries_in b) i no_entry h, length-append) (omega (arith, is, byte, long)),
      )

-- ---- places

-- the place of a number, or any other
abbrev pub no_place : PlaceFields
no_place = record { initial = 0; produced = []; consumed = [] }

-- the first places are in their limits
pub first-within : {b : List ℕ} → IsBundle b → (j : ℕ) → Every (PlaceInLimits (contents_of b).head.events) (take j (contents_of b).head.places)
first-within {b} bundle j =
    let ps = (contents_of b).head.places in
    every_intro (PlaceInLimits (contents_of b).head.events) (take j ps)
    (λ p m. every_member (PlaceInLimits (contents_of b).head.events) ps bundle.limits.head.places (subst (λ (l : List PlaceFields). Memᴰ p l) (take-append-drop j ps) (Memᴰ.append_left (drop j ps) m)))

-- in the bytes of places, of which each has so many
module _ {b : List ℕ} (bundle : IsBundle b) {bytes : List ℕ} {size : ℕ} (are : bytes ≡ flat_map place_bytes (contents_of b).head.places)
    (sizes : size ≡ 2 * place_size (contents_of b).head.events) where
  abbrev ps : List PlaceFields
  ps = (contents_of b).head.places

  pub length-places : length bytes ≡ length ps * size
  length-places = rw (are, sizes) (places-length (contents_of b).head.events ps bundle.limits.head.places)

  -- place j stands behind j of that size
  pub place_at : (j : ℕ) → j < length ps → take size (drop (j * size) bytes) ≡ place_bytes (get_or ps j no_place)
  place_at j there = part_at before (place_bytes (get_or ps j no_place)) rest bytes (j * size) size stands offset long
    where
      before : List ℕ
      before = flat_map place_bytes (take j ps)

      rest : List ℕ
      rest = flat_map place_bytes (drop (suc j) ps) ++ []

      stands : bytes ≡ before ++ (place_bytes (get_or ps j no_place) ++ rest)
      stands = span_at place_bytes ps j no_place there [] [] bytes (are ∙ sym (append-nil (flat_map place_bytes ps)))

      offset : length before ≡ j * size
      offset = places-length (contents_of b).head.events (take j ps) (first-within bundle j) ∙ ap₂ (λ (x y : ℕ). x * y) (length-take-le j ps (omega arith)) (sym sizes)

      long : length (place_bytes (get_or ps j no_place)) ≡ size
      long = place-length (contents_of b).head.events (get_or ps j no_place) (every_member (PlaceInLimits (contents_of b).head.events) ps bundle.limits.head.places (get_d_member ps j no_place there)) ∙ sym sizes

  -- a place cut off what is left behind k of them
  module _ (k : ℕ) (left : List ℕ) (is : left ≡ drop (k * size) bytes) where
    length-left : length left ≡ length ps * size - k * size
    length-left = ap length is ∙ length-drop (k * size) bytes ∙ ap (λ (n : ℕ). n - k * size) length-places

    module _ (piece behind : List ℕ) (cut : left ≡ piece ++ behind) (long : length piece ≡ size) where
      pub place-there : k < length ps
      place-there = ⊎_elim
          (λ more. more)
          (λ all. absurd (omega (arith, length-left, mul-le-mul_right size all, ap length cut, length-append piece behind, sizes)))
          (lt_or_le k (length ps))

      pub place-cut : piece ≡ place_bytes (get_or ps k no_place)
      place-cut = sym (take_at piece behind size long) ∙ ap (take size) (sym cut ∙ is) ∙ place_at k place-there

      pub place-behind : behind ≡ drop ((k + 1) * size) bytes
      place-behind =
          let next : k * size + size ≡ (k + 1) * size = omega (arith, add-mul k 1 size) in
          sym (drop_at piece behind size long) ∙ ap (drop size) (sym cut ∙ is) ∙ rw (← next) (drop-drop size (k * size) bytes)

    -- where none is left, all are passed
    pub places-end : length left < size → length ps ≤ k
    places-end short = ⊎_elim
        (λ more. let through : k + 1 ≤ length ps = omega arith in absurd (omega (arith, length-left, mul-le-mul_right size through, add-mul k 1 size)))
        (λ all. all)
        (lt_or_le k (length ps))
