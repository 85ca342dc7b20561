-- The parts of a pruned bundle, as the code writes them: places, then certificates.
use Rattle.std.specs.Prelude.{◌≡◌, Bool, ℕ, ◌+◌, ◌*◌, ◌≤◌, ◌<◌, ltb, set, replicate}
use Rattle.std.proofs.Math.Path.{refl, sym, ap}
use Rattle.std.proofs.Common.{◌∙◌, ⊎_elim, arith, eqb-true, ltb-true, ltb-false, lt-ltb, le-ltb, length-append, drop, take}
use Rattle.std.proofs.Math.Bool.{true, false, cond}
use mathlib.Core.List.{List, [], ◌∷◌, ◌++◌, flat_map, append_assoc}
use Rattle.std.proofs.lemmas.Bool.{eqb-false}
use Rattle.std.proofs.Math.Dec.{eqb}
use Rattle.std.proofs.Math.ListN.{length, get_or}
use Rattle.laws.specs.Booleans.{lt_or_le}
use Rattle.laws.specs.Lists.{tabulate, tabulate-same, get_d_tabulate}
use Rattle.laws.specs.Ranks.{keep_at, rank, rank_same}
use Rattle.laws.specs.Rewriting.{rewritten, rewritten-map, rewritten-kept}
use Rattle.laws.specs.Spans.{set-tabulate}
use Rattle.limits.specs.Limits.{max_places}
use Rattle.bundles.specs.Layout.{PlaceFields, CertificateFields, Contents, InLimits, place_bytes, certificate_bytes, front_bytes, bytes_of}
use Rattle.bundles.specs.PlaceReading.{place_size}
use Rattle.contents.specs.Contents.{contents_of, certificates_bytes, bytes-parts, places-length}
use Rattle.contents.specs.Certificates.{place, weights, piece_of, place-back, weights-back}
use Rattle.pruning.specs.Pruning.{named, renumbered, pruned}
use Rattle.pruning.specs.PruneLaws.{certificates-length, pruned-head}
use Rattle.pruning.specs.Marking.{marks_of, marked, marks-named}
use Rattle.writer.specs.Pushing.{HasRoom, Pushed, room_behind, pushed-next}
use Rattle.pruning.specs.declared.marking.Marked.{Marked}
use Rattle.writer.specs.declared.Writer.{Writer}

-- ---- places

-- what is written for a place, by its number: its bytes if it is named
abbrev pub place_piece : Contents → ℕ → PlaceFields → List ℕ
place_piece c j p = cond (named c.certificates j) (place_bytes p) []

pub places-all : (c : Contents) → rewritten (place_piece c) c.head.places ≡ flat_map place_bytes (pruned c).head.places
unfolding pruned
places-all c = rewritten-kept place_bytes (named c.certificates) c.head.places

-- k places are behind: what is left of their bytes, cut into so many, and of their marks, and what was written of them
pub record PlacesBehind (self : Marked) (k size : ℕ) (bytes : List ℕ) (marks : List Bool) (before after : Writer) : Type 0 where
  pub most : k ≤ length (contents_of self.parts.bundle.now).head.places
  pub size_is : size ≡ self.parts.place_size
  pub rest : bytes ≡ drop (k * self.parts.place_size) self.parts.places.now
  pub marks_left : marks ≡ drop k self.marks
  pub pushed : Pushed before after (rewritten (place_piece (contents_of self.parts.bundle.now)) (take k (contents_of self.parts.bundle.now).head.places))

-- ---- numbers

-- the numbers of the places before j, and zeros
unfoldable pub numbers_done : (ℕ → Bool) → ℕ → List ℕ
numbers_done f j = tabulate max_places (λ i. cond (ltb i j) (rank f i) 0)

pub numbers-none : (f : ℕ → Bool) → numbers_done f 0 ≡ replicate max_places 0
unfolding numbers_done tabulate
numbers-none f = refl

pub numbers-next : (f : ℕ → Bool) (j : ℕ) → set (numbers_done f j) j (rank f j) ≡ numbers_done f (j + 1)
unfolding numbers_done
numbers-next f j = set-tabulate max_places (λ i. cond (ltb i j) (rank f i) 0) j (rank f j)
    ∙ tabulate-same max_places (λ i. cond (eqb i j) (rank f j) (cond (ltb i j) (rank f i) 0)) (λ i. cond (ltb i (j + 1)) (rank f i) 0) (λ i h. go i (eqb i j) refl (ltb i j) refl)
  where
    go : (i : ℕ) (s : Bool) → eqb i j ≡ s → (t : Bool) → ltb i j ≡ t → cond s (rank f j) (cond t (rank f i) 0) ≡ cond (ltb i (j + 1)) (rank f i) 0
    go i true e t u = let same = eqb-true i j e in rw (lt-ltb i (j + 1) (omega (arith, same)), same)
    go i false e true u = rw (lt-ltb i (j + 1) (omega (arith, ltb-true i j u)))
    go i false e false u = let other = ne_lt i j (eqb-false i j e) (ltb-false i j u) in rw (le-ltb i (j + 1) (omega (arith, other)))
      where
        ne_lt : (i j : ℕ) → (i ≡ j → ⊥) → j ≤ i → j < i
        ne_lt i j other h = ⊎_elim (λ less. less) (λ most. absurd (other (omega (arith, most, h)))) (lt_or_le j i)

pub numbers-all : (f : ℕ → Bool) → numbers_done f max_places ≡ tabulate max_places (rank f)
unfolding numbers_done
numbers-all f = tabulate-same max_places (λ i. cond (ltb i max_places) (rank f i) 0) (rank f) (λ i h. rw (lt-ltb i max_places h))

-- ---- certificates

-- what is written for a certificate: its bytes, with its place's new number
abbrev pub certificate_piece : Contents → ℕ → CertificateFields → List ℕ
certificate_piece c k x = certificate_bytes c.head.is_new (renumbered (named c.certificates) x)

pub certificates-all : (c : Contents) → rewritten (certificate_piece c) c.certificates ≡ certificates_bytes (pruned c)
unfolding pruned
certificates-all c = rewritten-map (certificate_bytes c.head.is_new) (renumbered (named c.certificates)) c.certificates

module _ (c : Contents) (x : CertificateFields) where
  -- a place's new number
  number_is : (j : ℕ) → j < max_places → get_or (tabulate max_places (rank (marked (marks_of c.certificates)))) j 0 ≡ rank (named c.certificates) j
  number_is j h =
      get_d_tabulate max_places (rank (marked (marks_of c.certificates))) j 0 h
      ∙ rank_same (marked (marks_of c.certificates)) (named c.certificates) j (λ i l. marks-named c.certificates i (omega arith))

  -- with its place's new number, as the walk gives the place
  pub piece-place : (j : ℕ) → place j ≡ piece_of c.head.is_new x → j < max_places
      → certificate_piece c 0 x ≡ 0 ∷ get_or (tabulate max_places (rank (marked (marks_of c.certificates)))) j 0 ∷ []
  unfolding renumbered certificate_bytes
  piece-place j e h = rw (place-back c.head.is_new x j e, number_is j h)

  -- as it is
  pub piece-weights : (bytes : List ℕ) → weights bytes ≡ piece_of c.head.is_new x → certificate_piece c 0 x ≡ bytes
  unfolding renumbered
  piece-weights bytes e =
      let (w, is, same) = weights-back c.head.is_new x bytes e in
      ap (λ (y : CertificateFields). certificate_piece c 0 y) is ∙ sym (same ∙ ap (certificate_bytes c.head.is_new) is)

-- ---- all parts

module _ (c : Contents) where
  abbrev places : List ℕ
  places = flat_map place_bytes (pruned c).head.places

  abbrev certificates : List ℕ
  certificates = certificates_bytes (pruned c)

  -- the parts of the result
  pub result_parts : bytes_of (pruned c) ≡ ((front_bytes c.head ++ length (pruned c).head.places ∷ []) ++ places) ++ certificates
  unfolding front_bytes pruned
  result_parts =
      let k = length (pruned c).head.places in
      bytes-parts (pruned c) ∙ sym (append_assoc (front_bytes c.head ++ k ∷ []) places certificates ∙ append_assoc (front_bytes c.head) (k ∷ []) (places ++ certificates))

  -- its length, where each place that is kept has so many bytes
  pub result-length : InLimits c
      → length (front_bytes c.head) + 1 + length (pruned c).head.places * (2 * place_size c.head.events) + length (certificates_bytes c)
      ≡ length (bytes_of (pruned c))
  unfolding pruned
  result-length limits =
      let kept = keep_at (named c.certificates) c.head.places in
      omega (
        arith,
        ap length result_parts,
        length-append ((front_bytes c.head ++ length kept ∷ []) ++ places) certificates,
        length-append (front_bytes c.head ++ length kept ∷ []) places,
        length-append (front_bytes c.head) (length kept ∷ []),
        places-length c.head.events kept (pruned-head c limits).places,
        certificates-length c.head.is_new (named c.certificates) c.certificates,
      )

  abbrev count : List ℕ
  count = length (pruned c).head.places ∷ []

  pub lengths : length (bytes_of (pruned c)) ≡ length (front_bytes c.head) + 1 + length places + length certificates
  lengths = omega (
    arith,
    ap length result_parts,
    length-append ((front_bytes c.head ++ count) ++ places) certificates,
    length-append (front_bytes c.head ++ count) places,
    length-append (front_bytes c.head) count,
  )

  -- pushed to the front of an output that takes them, with any place count: its byte has room
  module _ (w₀ : Writer) (starts : w₀.end ≡ 0) (room : length (bytes_of (pruned c)) ≤ length w₀.output.now) where
    module _ (w₁ : Writer) (front : Pushed w₀ w₁ (front_bytes c.head)) (n : ℕ) where
      with_count : HasRoom w₀ (front_bytes c.head ++ n ∷ [])
      with_count = omega (arith, lengths, length-append (front_bytes c.head) (n ∷ []))

      pub count-room : HasRoom w₁ (n ∷ [])
      count-room = room_behind front (n ∷ []) with_count

      module _ (w₂ : Writer) (counted : Pushed w₁ w₂ (n ∷ [])) where
        first : Pushed w₀ w₂ (front_bytes c.head ++ n ∷ [])
        first = pushed-next front (n ∷ []) with_count counted

        with_places : HasRoom w₀ ((front_bytes c.head ++ n ∷ []) ++ places)
        with_places = omega (arith, lengths, length-append (front_bytes c.head ++ n ∷ []) places, length-append (front_bytes c.head) (n ∷ []))

        pub places-room : HasRoom w₂ places
        places-room = room_behind first places with_places

        module _ (w₃ : Writer) (placed : Pushed w₂ w₃ places) where
          second : Pushed w₀ w₃ ((front_bytes c.head ++ n ∷ []) ++ places)
          second = pushed-next first places with_places placed

          with_all : HasRoom w₀ (((front_bytes c.head ++ n ∷ []) ++ places) ++ certificates)
          with_all = omega (
            arith,
            room,
            lengths,
            length-append ((front_bytes c.head ++ n ∷ []) ++ places) certificates,
            length-append (front_bytes c.head ++ n ∷ []) places,
            length-append (front_bytes c.head) (n ∷ []),
          )

          pub certificates-room : HasRoom w₃ certificates
          certificates-room = room_behind second certificates with_all

          -- and with that of the places that are kept they are the result
          pub all-pushed : n ≡ length (pruned c).head.places → (w₄ : Writer) → Pushed w₃ w₄ certificates → Pushed w₀ w₄ (bytes_of (pruned c))
          all-pushed is w₄ last = rw (result_parts, ← is) (pushed-next second certificates with_all last)
