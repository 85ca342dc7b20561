-- The certificates of a bundle that was judged, as the code walks over them: each is cut off the front of the bytes that are left.
use Rattle.std.specs.Prelude.{◌≡◌, refl, Bool, true, false, cond, ℕ, ◌+◌, ◌*◌, ◌≤◌, ◌<◌, eqb, length, take, drop, get_or}
use Rattle.std.proofs.Common.{sym, ap, ◌∙◌, arith, ne_eqb, eq-eqb, take_at, length-append}
use Rattle.std.proofs.lemmas.List.{get_or-map, length-map}
use mathlib.Core.List.{List, [], ◌∷◌, ◌++◌, map, flat_map, append_assoc}
use Rattle.std.proofs.Math.Seq.{get_or-append_seam}
use Rattle.laws.specs.Booleans.{impossible}
use Rattle.laws.specs.Numbers.{le16}
use Rattle.bundles.specs.Layout.{TermFields, PairFields, WeightFields, CertificateFields, kind0, kind1}
use Rattle.bundles.specs.Layout.{term_bytes, pair_bytes, pairs_bytes, weight_bytes, certificate_bytes}
use Rattle.contents.specs.Cuts.{cut, cut_whole, cut-next, whole-next, joined-cut, joined-whole}

-- a certificate as the walk gives it: the place that it names, or all bytes of its weights
pub data Piece : Type 0 where
  place : ℕ → Piece
  weights : List ℕ → Piece

unfoldable pub piece_of : Bool → CertificateFields → Piece
piece_of is_new (kind0 j) = place j
piece_of is_new (kind1 w) = weights (certificate_bytes is_new (kind1 w))

-- how many bytes weights have without their pairs: by their term count
abbrev pub terms_size : List ℕ → ℕ
terms_size b = 4 + 5 * get_or b 3 0

-- and with them: in the new edition by the pair count behind the terms
unfoldable pub weights_size : Bool → List ℕ → ℕ
weights_size is_new b = cond is_new (terms_size b + (1 + 3 * get_or b (terms_size b) 0)) (terms_size b)

-- how many bytes the first of some bytes has: two, or those of weights
unfoldable pub first_size : Bool → List ℕ → ℕ
first_size is_new b = cond (eqb (get_or b 0 0) 0) 2 (weights_size is_new b)

-- the first of some bytes
unfoldable pub first_piece : Bool → List ℕ → Piece
first_piece is_new b = cond (eqb (get_or b 0 0) 0) (place (get_or b 1 0)) (weights (take (first_size is_new b) b))

-- those of some bytes, cut off one behind the other
abbrev pub pieces : Bool → List ℕ → List Piece
pieces is_new = cut (first_size is_new) (first_piece is_new)

-- whether the last of them ends where the bytes do
abbrev pub whole : Bool → List ℕ → Bool
whole is_new = cut_whole (first_size is_new)

-- ---- one of them cut off

pub weights-long : (is_new : Bool) (b : List ℕ) → 4 ≤ weights_size is_new b
unfolding weights_size
weights-long true b = omega arith
weights-long false b = omega arith

-- a certificate has a byte or more
first-long : (is_new : Bool) (b : List ℕ) → 1 ≤ first_size is_new b
unfolding first_size
first-long is_new b = go (eqb (get_or b 0 0) 0)
  where
    go : (t : Bool) → 1 ≤ cond t 2 (weights_size is_new b)
    go true = omega arith
    go false = omega (arith, weights-long is_new b)

-- a place in front, of two bytes
pub record PlaceInFront (is_new : Bool) (b : List ℕ) : Type 0 where
  pub inside : 2 ≤ length b
  pub rest : whole is_new (drop 2 b) ≡ true
  pub is : pieces is_new b ≡ place (get_or b 1 0) ∷ pieces is_new (drop 2 b)

-- weights in front, of so many bytes
pub record WeightsInFront (is_new : Bool) (b : List ℕ) : Type 0 where
  pub inside : weights_size is_new b ≤ length b
  pub rest : whole is_new (drop (weights_size is_new b) b) ≡ true
  pub is : pieces is_new b ≡ weights (take (weights_size is_new b) b) ∷ pieces is_new (drop (weights_size is_new b) b)

-- the first byte says which
module _ (is_new : Bool) (b : List ℕ) (some : 0 < length b) (all : whole is_new b ≡ true) where
  next : (first_size is_new b ≤ length b) × (whole is_new (drop (first_size is_new b) b) ≡ true)
  next = whole-next (first_size is_new) (first-long is_new) b some all

  pieces-next : pieces is_new b ≡ first_piece is_new b ∷ pieces is_new (drop (first_size is_new b) b)
  pieces-next = cut-next (first_size is_new) (first-long is_new) (first_piece is_new) b some

  pub place-front : get_or b 0 0 ≡ 0 → PlaceInFront is_new b
  unfolding first_piece first_size
  place-front e =
      let zero : eqb (get_or b 0 0) 0 ≡ true = eq-eqb (get_or b 0 0) 0 e in
      let size : first_size is_new b ≡ 2 = rw zero in
      record { inside = omega (arith, next.0, size); rest = rw size at next.1; is = pieces-next ∙ rw zero }

  pub weights-front : (get_or b 0 0 ≡ 0 → ⊥) → WeightsInFront is_new b
  unfolding first_piece first_size
  weights-front other =
      let more : eqb (get_or b 0 0) 0 ≡ false = ne_eqb (get_or b 0 0) 0 other in
      let size : first_size is_new b ≡ weights_size is_new b = rw more in
      record { inside = omega (arith, next.0, size); rest = rw size at next.1; is = pieces-next ∙ rw more }

-- ---- the certificates of a bundle

terms-length : (ts : List TermFields) → length (flat_map term_bytes ts) ≡ 5 * length ts
unfolding flat_map term_bytes
terms-length [] = refl
terms-length (t ∷ ts) = omega (arith, terms-length ts)

pairs-length : (qs : List PairFields) → length (flat_map pair_bytes qs) ≡ 3 * length qs
unfolding flat_map pair_bytes
pairs-length [] = refl
pairs-length (q ∷ qs) = omega (arith, pairs-length qs)

-- the pair count stands behind the terms
module _ (w : WeightFields) (rest : List ℕ) where
  abbrev to_pairs : List ℕ
  to_pairs = 1 ∷ (le16 w.k ++ (length w.terms ∷ flat_map term_bytes w.terms))

  pair_count : get_or (certificate_bytes true (kind1 w) ++ rest) (4 + 5 * length w.terms) 0 ≡ length w.pairs
  unfolding certificate_bytes weight_bytes pairs_bytes
  pair_count =
      let here : 4 + 5 * length w.terms ≡ length to_pairs = omega (arith, terms-length w.terms) in
      ap (λ (k : ℕ). get_or (certificate_bytes true (kind1 w) ++ rest) k 0) here
      ∙ ap (λ (l : List ℕ). get_or l (length to_pairs) 0) (append_assoc to_pairs (length w.pairs ∷ flat_map pair_bytes w.pairs) rest)
      ∙ get_or-append_seam to_pairs (length w.pairs) (flat_map pair_bytes w.pairs ++ rest) 0

size-is : (is_new : Bool) (c : CertificateFields) (rest : List ℕ)
    → first_size is_new (certificate_bytes is_new c ++ rest) ≡ length (certificate_bytes is_new c)
unfolding first_size weights_size certificate_bytes weight_bytes pairs_bytes
size-is is_new (kind0 j) rest = refl
size-is true (kind1 w) rest =
    let terms = flat_map term_bytes w.terms in
    omega (arith, terms-length w.terms, pairs-length w.pairs, pair_count w rest, length-append terms (length w.pairs ∷ flat_map pair_bytes w.pairs))
size-is false (kind1 w) rest = omega (arith, terms-length w.terms, length-append (flat_map term_bytes w.terms) [])

module _ (is_new : Bool) where
  first-is : (c : CertificateFields) (rest : List ℕ) → first_piece is_new (certificate_bytes is_new c ++ rest) ≡ piece_of is_new c
  unfolding first_piece piece_of certificate_bytes
  first-is (kind0 j) rest = refl
  first-is (kind1 w) rest = ap weights (take_at (certificate_bytes is_new (kind1 w)) rest _ (sym (size-is is_new (kind1 w) rest)))

  pub certificates-pieces : (cs : List CertificateFields) → pieces is_new (flat_map (certificate_bytes is_new) cs) ≡ map (piece_of is_new) cs
  certificates-pieces =
      joined-cut (first_size is_new) (first-long is_new) (certificate_bytes is_new) (size-is is_new) (first_piece is_new) (piece_of is_new) first-is

  pub certificates-whole : (cs : List CertificateFields) → whole is_new (flat_map (certificate_bytes is_new) cs) ≡ true
  certificates-whole = joined-whole (first_size is_new) (first-long is_new) (certificate_bytes is_new) (size-is is_new)

-- ---- the certificates, back from their pieces

-- the certificate of a number, or any other
abbrev pub no_certificate : CertificateFields
no_certificate = kind0 0

module _ (is_new : Bool) where
  pub place-back : (c : CertificateFields) (j : ℕ) → place j ≡ piece_of is_new c → c ≡ kind0 j
  unfolding piece_of
  place-back (kind0 k) j e = let same : j ≡ k = cc in rw same
  place-back (kind1 w) j e = impossible cc

  pub weights-back : (c : CertificateFields) (bytes : List ℕ) → weights bytes ≡ piece_of is_new c
      → (w : WeightFields) × (c ≡ kind1 w) × (bytes ≡ certificate_bytes is_new c)
  unfolding piece_of
  weights-back (kind0 k) bytes e = impossible cc
  weights-back (kind1 w) bytes e = (w, refl, cc)

  -- piece k of a walk over certificates
  pub piece-turn : (cs : List CertificateFields) (k : ℕ) (p : Piece) → k < length (map (piece_of is_new) cs)
      → p ≡ get_or (map (piece_of is_new) cs) k p → (k < length cs) × (p ≡ piece_of is_new (get_or cs k no_certificate))
  piece-turn cs k p h e =
      let more : k < length cs = omega (arith, length-map cs (piece_of is_new)) in
      (more, e ∙ get_or-map (piece_of is_new) cs k no_certificate p more)
