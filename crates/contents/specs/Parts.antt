-- The parts of a bundle that was judged.
use Rattle.std.specs.Prelude.{◌≡◌, refl, List, [], ◌∷◌, ◌++◌, ℕ, ◌+◌, ◌*◌, ◌≤◌, ◌<◌, length, take, drop}
use Rattle.std.proofs.Common.{sym, ap, ap₂, ◌∙◌, arith, take_at, drop_at, length-append}
use Rattle.std.specs.Coded.{Unit-prop}
use Rattle.std.proofs.Props.{props}
use mathlib.Core.List.{flat_map}
use Rattle.laws.specs.Every.{Every}
use Rattle.bundles.specs.Layout.{CertificateFields, kind0, kind1, Head, first_in, PlaceFields, Contents, place_bytes, front_bytes}
use Rattle.bundles.specs.Layout.{TwoBytes, PlaceInLimits, EntryInLimits, TermInLimits, PairInLimits, CertificateInLimits, InLimits}
use Rattle.bundles.specs.PlaceReading.{place_size}
use Rattle.contents.specs.Contents.{IsBundle, contents_of, certificates_bytes, bytes-parts, places-length}

-- ---- there is one proof at most that it was judged

module _ {A : Type 0} (P : A → Type 0) (once : (x : A) → IsProp (P x)) where
  every-prop : (xs : List A) → IsProp (Every P xs)
  every-prop [] = Unit-prop
  every-prop (x ∷ xs) = hlevel (props, once x, every-prop xs)

numbers-prop : (xs : List ℕ) → IsProp (Every TwoBytes xs)
numbers-prop = every-prop TwoBytes (λ x. hlevel props)

place-prop : (n : ℕ) (p : PlaceFields) → IsProp (PlaceInLimits n p)
place-prop n p = hlevel (props, numbers-prop p.produced, numbers-prop p.consumed)

certificate-prop : (h : Head) (c : CertificateFields) → IsProp (CertificateInLimits h c)
certificate-prop h (kind0 j) = hlevel props
certificate-prop h (kind1 w) =
    let terms = every-prop (TermInLimits h) (λ t. hlevel props) w.terms in
    let pairs = every-prop (PairInLimits h) (λ q. hlevel props) w.pairs in
    hlevel (props, terms, pairs)

limits-prop : (c : Contents) → IsProp (InLimits c)
limits-prop c =
    let h = c.head in
    hlevel (
      props,
      every-prop (EntryInLimits (first_in h)) (λ x. hlevel props) h.entries,
      every-prop (PlaceInLimits h.events) (place-prop h.events) h.places,
      every-prop (CertificateInLimits h) (certificate-prop h) c.certificates,
    )

pub IsBundle-prop : (b : List ℕ) → IsProp (IsBundle b)
IsBundle-prop b = hlevel (props, limits-prop (contents_of b))

-- ---- the parts, as they are cut off

module _ {b : List ℕ} (bundle : IsBundle b) {at : ℕ} (starts : at ≡ length (front_bytes (contents_of b).head)) where
  abbrev h : Head
  h = (contents_of b).head

  abbrev places_bytes : List ℕ
  places_bytes = flat_map place_bytes h.places

  abbrev certificates : List ℕ
  certificates = certificates_bytes (contents_of b)

  -- the place count stands behind the front
  behind_front : drop at b ≡ length h.places ∷ (places_bytes ++ certificates)
  behind_front = rw starts (ap (drop (length (front_bytes h))) (bundle.layout ∙ bytes-parts (contents_of b)) ∙ drop_at (front_bytes h) _ (length (front_bytes h)) refl)

  pub count-there : 0 < length (drop at b)
  count-there = omega (arith, ap length behind_front)

  -- behind it the places
  module _ {n : ℕ} (events : n ≡ h.events) (count : ℕ) (rest : List ℕ) (cut : drop at b ≡ count ∷ rest) where
    rest_is : (count ≡ length h.places) × (rest ≡ places_bytes ++ certificates)
    rest_is = let e = sym cut ∙ behind_front in (cc, cc)

    pub size-is : 2 * (1 + 2 * n) ≡ 2 * (1 + 2 * h.events)
    size-is = ap (λ (k : ℕ). 2 * place_size k) events

    places-size : count * (2 * (1 + 2 * n)) ≡ length places_bytes
    places-size = ap₂ (λ (x y : ℕ). x * y) rest_is.0 size-is ∙ sym (places-length h.events h.places bundle.limits.head.places)

    pub places-inside : count * (2 * (1 + 2 * n)) ≤ length rest
    places-inside = omega (arith, places-size, ap length rest_is.1, length-append places_bytes certificates)

    pub count-is : count ≡ length h.places
    count-is = rest_is.0

    pub places-are : take (count * (2 * (1 + 2 * n))) rest ≡ places_bytes
    places-are = rw rest_is.1 (take_at places_bytes certificates _ (sym places-size))

    pub certificates-are : drop (count * (2 * (1 + 2 * n))) rest ≡ certificates
    certificates-are = rw rest_is.1 (drop_at places_bytes certificates _ (sym places-size))
