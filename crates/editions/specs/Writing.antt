-- The parts of a bundle in an edition, as the code writes them.
use Rattle.std.specs.Prelude.{◌≡◌, refl, Bool, true, false, cond, List, [], ◌∷◌, ◌++◌, ℕ, ◌+◌, ◌-◌, ◌*◌, ◌%◌, ◌≤◌, length, take, get_or}
use Rattle.std.proofs.Common.{sym, ap, ◌∙◌, subst, arith, take_at, length-take, length-append}
use mir.Val.{bool_byte}
use mathlib.Core.List.{flat_map, append_assoc}
use Rattle.laws.specs.Numbers.{le16}
use Rattle.limits.specs.Limits.{new_edition}
use Rattle.nets.specs.Nets.{Entry}
use Rattle.bundles.specs.Editions.{first-written}
use Rattle.bundles.specs.Layout.{First, CertificateFields, kind1, WeightFields, Head, Contents, InLimits, first_of, first_in, mark_bytes}
use Rattle.bundles.specs.Layout.{entry_bytes, place_bytes}
use Rattle.bundles.specs.Layout.{term_bytes, pairs_bytes, weight_bytes, certificate_bytes, front_bytes, bytes_of}
use Rattle.bundles.specs.Readers.{to_first}
use Rattle.contents.specs.Certificates.{weights, piece_of, weights-back}
use Rattle.contents.specs.Contents.{bytes-parts}
use Rattle.verdicts.specs.OldEdition.{NoPairs}
use Rattle.writer.specs.Pushing.{HasRoom, Pushed, room_behind, pushed-next}
use Rattle.writer.specs.declared.Writer.{Writer}
use Rattle.editions.specs.Converting.{in_edition}

-- ---- two pieces, one behind the other

pub room-first : (w : Writer) (a b : List ℕ) → HasRoom w (a ++ b) → HasRoom w a
room-first w a b room = omega (arith, room, length-append a b)

-- the front of a piece, and what stands behind it
module _ (l : List ℕ) (k m : ℕ) (most : k ≤ m) where
  pub room-shorter : (w : Writer) → HasRoom w (take m l) → HasRoom w (take k l)
  room-shorter w room = omega (arith, room, most, length-take k l, length-take m l)

  pub room-next : {w₀ w₁ : Writer} (b : List ℕ) → Pushed w₀ w₁ (take k l) → HasRoom w₀ (take m l ++ b) → HasRoom w₁ b
  room-next b p room = omega (arith, room, most, p.ends, p.size, length-append (take m l) b, length-take k l, length-take m l)

-- ---- words

-- one that is not completed: its length, in the new edition the mark 0, its events
pub word-piece : (e : Bool) (x : Entry) → x.completed ≡ false → entry_bytes e x ≡ take (1 + bool_byte e) (length x.word ∷ 0 ∷ []) ++ x.word
unfolding entry_bytes mark_bytes
word-piece true x partial = rw partial
word-piece false x partial = refl

-- ---- certificates

-- weights up to their last term
abbrev terms_of : WeightFields → List ℕ
terms_of w = 1 ∷ (le16 w.k ++ (length w.terms ∷ flat_map term_bytes w.terms))

-- without pairs: behind it in the new edition the pair count 0
pairless : (e : Bool) (w : WeightFields) → w.pairs ≡ [] → certificate_bytes e (kind1 w) ≡ terms_of w ++ take (bool_byte e) (0 ∷ [])
unfolding certificate_bytes weight_bytes pairs_bytes flat_map
pairless true w none = rw none (ap (λ (l : List ℕ). 1 ∷ l) (sym (append_assoc (le16 w.k) (length w.terms ∷ flat_map term_bytes w.terms) (0 ∷ []))))
pairless false w none = ap (λ (l : List ℕ). 1 ∷ l) (sym (append_assoc (le16 w.k) (length w.terms ∷ flat_map term_bytes w.terms) []))

-- their bytes are enough to leave the pair count out
pub pairless-fits : (source : Bool) (c : CertificateFields) (bytes : List ℕ) → weights bytes ≡ piece_of source c → bool_byte source ≤ length bytes
unfolding certificate_bytes
pairless-fits source c bytes is =
    let (w, same, all) = weights-back source c bytes is in
    let long : length bytes ≡ length (certificate_bytes source (kind1 w)) = ap length (all ∙ ap (certificate_bytes source) same) in
    omega (arith, long, at_most_one source)
  where
    at_most_one : (e : Bool) → bool_byte e ≤ 1
    at_most_one true = omega arith
    at_most_one false = omega arith

-- so it is written from its bytes in the edition that it has
pub weights-piece : (source target : Bool) (c : CertificateFields) (bytes : List ℕ) → weights bytes ≡ piece_of source c → NoPairs c
    → certificate_bytes target c ≡ take (length bytes - bool_byte source) bytes ++ take (bool_byte target) (0 ∷ [])
weights-piece source target c bytes is none =
    let (w, same, all) = weights-back source c bytes is in
    let unpaired : w.pairs ≡ [] = subst NoPairs same none in
    let here : bytes ≡ terms_of w ++ take (bool_byte source) (0 ∷ []) = all ∙ ap (certificate_bytes source) same ∙ pairless source w unpaired in
    let front : take (length bytes - bool_byte source) bytes ≡ terms_of w =
    ap (take (length bytes - bool_byte source)) here
    ∙ take_at (terms_of w) (take (bool_byte source) (0 ∷ [])) (length bytes - bool_byte source) (shorter source (terms_of w) bytes here) in
    ap (certificate_bytes target) same ∙ pairless target w unpaired ∙ ap (λ (l : List ℕ). l ++ take (bool_byte target) (0 ∷ [])) (sym front)
  where
    shorter : (e : Bool) (terms bytes : List ℕ) → bytes ≡ terms ++ take (bool_byte e) (0 ∷ []) → length terms ≡ length bytes - bool_byte e
    shorter true terms bytes is = omega (arith, ap length is, length-append terms (0 ∷ []))
    shorter false terms bytes is = omega (arith, ap length is, length-append terms [])

-- ---- the first two bytes

-- the front of a bundle has them, and the second is the number of words
pub front-long : (h : Head) (front : List ℕ) → front ≡ front_bytes h → 2 ≤ length front
unfolding front_bytes
front-long h front is = omega (arith, ap length is)

pub count-byte : (h : Head) (front : List ℕ) → front ≡ front_bytes h → get_or front 1 0 ≡ length h.entries
unfolding front_bytes
count-byte h front is = ap (λ (l : List ℕ). get_or l 1 0) is

pub first-byte : (e : Bool) (c : Contents) → InLimits c → (x : ℕ) → x ≡ first_of (first_in c.head)
    → x % new_edition + new_edition * bool_byte e ≡ first_of (first_in (in_edition e c).head)
unfolding first_of to_first
first-byte e c limits x is =
    go e (ap (λ (y : ℕ). y % new_edition) is ∙ ap (λ (f : First). f.events) (first-written (first_in c.head) limits.head.events.1))
  where
    go : (e : Bool) → x % new_edition ≡ c.head.events → x % new_edition + new_edition * bool_byte e ≡ cond e new_edition 0 + c.head.events
    go true n = omega (arith, n)
    go false n = omega (arith, n)

-- ---- all parts

module _ (e : Bool) (c : Contents) where
  abbrev first : List ℕ
  first = first_of (first_in (in_edition e c).head) ∷ length c.head.entries ∷ []

  abbrev words : List ℕ
  words = flat_map (entry_bytes e) c.head.entries

  abbrev count : List ℕ
  count = length c.head.places ∷ []

  abbrev places : List ℕ
  places = flat_map place_bytes c.head.places

  abbrev certificates : List ℕ
  certificates = flat_map (certificate_bytes e) c.certificates

  pub edition-parts : bytes_of (in_edition e c) ≡ first ++ (words ++ (count ++ (places ++ certificates)))
  unfolding front_bytes
  edition-parts = bytes-parts (in_edition e c)

  pub lengths : length (bytes_of (in_edition e c)) ≡ 2 + (length words + (1 + (length places + length certificates)))
  lengths = omega (
    arith,
    ap length edition-parts,
    length-append first (words ++ (count ++ (places ++ certificates))),
    length-append words (count ++ (places ++ certificates)),
    length-append count (places ++ certificates),
    length-append places certificates,
  )

  -- pushed one behind the other, from the front of an output that takes them
  module _ {w₀ w₁ w₂ w₃ w₄ w₅ : Writer} where
    pub all-pushed : Pushed w₀ w₁ first → Pushed w₁ w₂ words → Pushed w₂ w₃ count → Pushed w₃ w₄ places → Pushed w₄ w₅ certificates
        → w₀.end ≡ 0 → length (bytes_of (in_edition e c)) ≤ length w₀.output.now → Pushed w₀ w₅ (bytes_of (in_edition e c))
    all-pushed p₁ p₂ p₃ p₄ p₅ starts fits =
        let r₀ : HasRoom w₀ (first ++ (words ++ (count ++ (places ++ certificates)))) = omega (arith, starts, fits, ap length edition-parts) in
        let r₁ = room_behind p₁ (words ++ (count ++ (places ++ certificates))) r₀ in
        let r₂ = room_behind p₂ (count ++ (places ++ certificates)) r₁ in
        let r₃ = room_behind p₃ (places ++ certificates) r₂ in
        let q₄ = pushed-next p₄ certificates r₃ p₅ in
        let q₃ = pushed-next p₃ (places ++ certificates) r₂ q₄ in
        let q₂ = pushed-next p₂ (count ++ (places ++ certificates)) r₁ q₃ in
        rw edition-parts (pushed-next p₁ (words ++ (count ++ (places ++ certificates))) r₀ q₂)
