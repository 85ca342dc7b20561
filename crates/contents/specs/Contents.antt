-- The contents of a bundle that was accepted, and where its parts stand.
use Rattle.std.specs.Prelude.{◌≡◌, false, ℕ, ◌*◌, ◌%◌, ◌≤◌, ◌<◌, leb, take, get_or, Err, Ok}
use Rattle.std.proofs.Math.Path.{refl, ap}
use Rattle.std.proofs.Common.{sym, ◌∙◌, zero-mul, suc-mul, take_at}
use mathlib.Core.List.{List, [], ◌∷◌, ◌++◌, flat_map, append_assoc}
use native.Mathlib.Omega.{arith}
use Rattle.std.proofs.Math.ListN.{length, length-append}
use Rattle.laws.specs.Booleans.{impossible}
use Rattle.laws.specs.Every.{Every}
use Rattle.laws.specs.Numbers.{Bytes, le16}
use Rattle.limits.specs.Limits.{new_edition}
use Rattle.refusals.specs.Results.{Result, value, refused, bind}
use Rattle.refusals.specs.declared.Refusal.{Refusal}
use Rattle.bundles.specs.Reading.{Read, got, item, item_in}
use Rattle.bundles.specs.Layout.{PlaceFields, Head, Contents, PlaceInLimits, InLimits, HeadInFront}
use Rattle.bundles.specs.Layout.{place_bytes, places_bytes, certificate_bytes, front_bytes, head_bytes, bytes_of, first_in}
use Rattle.bundles.specs.Editions.{front-edition, front-events}
use Rattle.bundles.specs.PlaceReading.{place_size}
use Rattle.verdicts.specs.Judging.{judging, judged, verdict_of, verdict}
use Rattle.verdicts.specs.Acceptance.{AcceptedAs}
use Rattle.verdicts.proofs.Acceptance.{accepted-exactly, judged-long, judged-judging, accepted-judging}
use Rattle.verdicts.specs.declared.Tally.{Tally}

-- what was read, or no event, no word, no place and no certificate
unfoldable pub contents_in : Read Contents → Contents
contents_in (value (item c next)) = c
contents_in (refused number spot) = record { head = record { is_new = false; events = 0; entries = []; places = [] }; certificates = [] }

-- the contents of a bundle, as the judge reads it
unfoldable pub contents_of : List ℕ → Contents
contents_of b = contents_in (judging b 0)

-- a bundle that is the bytes of its contents, which are in their limits: what the judge has shown of one that it accepts
pub record IsBundle (b : List ℕ) : Type 0 where
  pub layout : b ≡ bytes_of (contents_of b)
  pub limits : InLimits (contents_of b)

-- the contents of an accepted bundle
pub accepted-contents : (b : List ℕ) → Bytes b → (t : Tally) (c : Contents) → AcceptedAs b t c → contents_of b ≡ c
unfolding contents_of contents_in
accepted-contents b bytes t c a = rw (accepted-judging b bytes t c a)

-- what a call that judges on its way knows behind the judge
module _ (table_length : ℕ) (b : List ℕ) where
  -- a refusal of the judge
  pub judged-refused : (r : Refusal) → verdict table_length b ≡ Err r → judged table_length b 0 ≡ refused r.number r.spot
  unfolding verdict verdict_of
  judged-refused r e = go (judged table_length b 0) e
    where
      go : (m : Read Contents) → verdict_of m ≡ Err r → m ≡ refused r.number r.spot
      go (value (item c next)) q = impossible cc
      go (refused number spot) q = let same : record { number = number; spot = spot } ≡ r = cc in ap (λ (x : Refusal). refused x.number x.spot) same

  -- an accepted bundle has the contents that the judge has read
  pub judged-accepted : Bytes b → (t : Tally) → verdict table_length b ≡ Ok t
      → AcceptedAs b t (contents_of b) × ((next : ℕ) × (judged table_length b 0 ≡ got (contents_of b) next))
  unfolding verdict verdict_of contents_of contents_in
  judged-accepted bytes t e = go (judged table_length b 0) refl e
    where
      go : (m : Read Contents) → judged table_length b 0 ≡ m → verdict_of m ≡ Ok t
          → AcceptedAs b t (contents_in (judging b 0)) × ((next : ℕ) × (m ≡ got (contents_in (judging b 0)) next))
      go (value (item d next)) is q =
          let read : judging b 0 ≡ got d next = judged-judging table_length b d next is in
          let (c, a) = (accepted-exactly table_length (judged-long table_length b d next is) b bytes t).0 (ap verdict_of is ∙ q) in
          let same : c ≡ d = cc (sym (accepted-judging b bytes t c a) ∙ read) in
          (rw (read, ← same) a, (next, rw read))
      go (refused number spot) is q = impossible cc

  -- a call that judges first, and goes on with the contents
  module _ {A : Type 0} (f : Contents → Result A) where
    pub behind-refused : (r : Refusal) → verdict table_length b ≡ Err r → bind (judged table_length b 0) (λ i. f (item_in i)) ≡ refused r.number r.spot
    unfolding bind
    behind-refused r e = rw (judged-refused r e)

    pub behind-accepted : Bytes b → (t : Tally) → verdict table_length b ≡ Ok t → bind (judged table_length b 0) (λ i. f (item_in i)) ≡ f (contents_of b)
    unfolding bind item_in
    behind-accepted bytes t e = rw (judged-accepted bytes t e).1.1

-- it is the bytes of its contents
pub accepted-bundle : {b : List ℕ} {t : Tally} → AcceptedAs b t (contents_of b) → IsBundle b
accepted-bundle a = record { layout = a.layout; limits = a.limits }

-- ---- where the parts stand

-- the certificates, one behind the other
abbrev pub certificates_bytes : Contents → List ℕ
certificates_bytes c = flat_map (certificate_bytes c.head.is_new) c.certificates

-- the contents: the first byte and the log, the place count, the places, the certificates
pub bytes-parts : (c : Contents)
    → bytes_of c ≡ front_bytes c.head ++ (length c.head.places ∷ (flat_map place_bytes c.head.places ++ certificates_bytes c))
unfolding bytes_of head_bytes places_bytes
bytes-parts c = append_assoc (front_bytes c.head) (places_bytes c.head.places) (certificates_bytes c)

-- ---- how long the parts are

numbers-length : (xs : List ℕ) → length (flat_map le16 xs) ≡ 2 * length xs
unfolding flat_map
numbers-length [] = refl
numbers-length (x ∷ xs) = omega (arith, numbers-length xs)

-- the bytes of a place: two for each of its numbers
pub place-length : (n : ℕ) (p : PlaceFields) → PlaceInLimits n p → length (place_bytes p) ≡ 2 * place_size n
unfolding place_bytes
place-length n p v =
    omega (arith, length-append (flat_map le16 p.produced) (flat_map le16 p.consumed), numbers-length p.produced, numbers-length p.consumed, v.produced_size, v.consumed_size)

pub places-length : (n : ℕ) (ps : List PlaceFields) → Every (PlaceInLimits n) ps → length (flat_map place_bytes ps) ≡ length ps * (2 * place_size n)
unfolding flat_map
places-length n [] v = sym (zero-mul (2 * place_size n))
places-length n (p ∷ ps) v =
    omega (arith, length-append (place_bytes p) (flat_map place_bytes ps), place-length n p v.0, places-length n ps v.1, suc-mul (length ps) (2 * place_size n))

module _ {b : List ℕ} (bundle : IsBundle b) where
  abbrev its_head : Head
  its_head = (contents_of b).head

  abbrev behind_front : List ℕ
  behind_front = length its_head.places ∷ (flat_map place_bytes its_head.places ++ certificates_bytes (contents_of b))

  parts : b ≡ front_bytes its_head ++ behind_front
  parts = bundle.layout ∙ bytes-parts (contents_of b)

  -- its first byte says which edition it is, and n
  in_front : HeadInFront b its_head (certificates_bytes (contents_of b))
  unfolding bytes_of
  in_front = record { layout = bundle.layout; limits = bundle.limits.head }

  pub first-is : record { is_new = leb new_edition (get_or b 0 0); events = get_or b 0 0 % new_edition } ≡ first_in its_head
  first-is = λ i. record { is_new = sym (front-edition in_front) i; events = sym (front-events in_front) i }

  -- the place count stands behind the words
  pub front-inside : (2 ≤ length (front_bytes its_head)) × (length (front_bytes its_head) < length b)
  unfolding front_bytes
  front-inside = (omega arith, omega (arith, ap length parts, length-append (front_bytes its_head) behind_front))

  -- the first byte and the log
  pub front-is : take (length (front_bytes its_head)) b ≡ front_bytes its_head
  front-is = ap (take (length (front_bytes its_head))) parts ∙ take_at (front_bytes its_head) behind_front (length (front_bytes its_head)) refl
