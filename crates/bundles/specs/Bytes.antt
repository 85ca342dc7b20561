-- The contents of a bundle that are in their limits are written in bytes.
use Rattle.std.specs.Prelude.{refl, Bool, ℕ, zero, suc, ◌≤◌, ◌<◌}
use Rattle.std.proofs.Math.Bool.{true, false}
use mathlib.Core.List.Memᴰ
use mathlib.Core.List.{List, [], ◌∷◌, ◌++◌, flat_map}
use native.Mathlib.Omega.{arith}
use Rattle.std.proofs.Math.ListN.{length}
use Rattle.laws.specs.Every.{Every}
use Rattle.laws.specs.Numbers.{Bytes, bytes-append, le16, bytes-le16}
use Rattle.nets.specs.Nets.{Word, Entry}
use Rattle.nets.specs.Fits.{Below}
use Rattle.bundles.specs.Layout.{PlaceFields, TermFields, PairFields, CertificateFields, kind0, kind1, Head, Contents, first_of, first_in, mark_bytes, entry_bytes, place_bytes, places_bytes, term_bytes, pair_bytes, pairs_bytes, weight_bytes, certificate_bytes, front_bytes, head_bytes, bytes_of, EntryInLimits, TermInLimits, PairInLimits, PairsInLimits, HeadInLimits, CertificateInLimits, InLimits}
use Rattle.bundles.specs.Editions.{first_small}

bytes-cons : (x : ℕ) (l : List ℕ) → x < 256 → Bytes l → Bytes (x ∷ l)
bytes-cons x l small h zero = small
bytes-cons x l small h (suc i) = h i

module _ {A : Type 0} (P : A → Type 0) (f : A → List ℕ) (each : (x : A) → P x → Bytes (f x)) where
  bytes-each : (xs : List A) → Every P xs → Bytes (flat_map f xs)
  unfolding flat_map
  bytes-each [] v = λ i. omega arith
  bytes-each (x ∷ xs) v = bytes-append (f x) (flat_map f xs) (each x v.0) (bytes-each xs v.1)

bytes-numbers : (xs : List ℕ) → Bytes (flat_map le16 xs)
unfolding flat_map
bytes-numbers [] = λ i. omega arith
bytes-numbers (x ∷ xs) = bytes-append (le16 x) (flat_map le16 xs) (bytes-le16 x) (bytes-numbers xs)

bytes_below : (n : ℕ) → n ≤ 256 → (w : Word) → Below n w → Bytes w
bytes_below n most [] below = λ i. omega arith
bytes_below n most (e ∷ w) below =
    bytes-cons e w (omega (arith, below e (Memᴰ.head refl), most)) (bytes_below n most w (λ x m. below x (Memᴰ.tail m)))

bytes-place : (p : PlaceFields) → Bytes (place_bytes p)
unfolding place_bytes
bytes-place p =
    bytes-append (le16 p.initial) (flat_map le16 p.produced ++ flat_map le16 p.consumed) (bytes-le16 p.initial)
    (bytes-append (flat_map le16 p.produced) (flat_map le16 p.consumed) (bytes-numbers p.produced) (bytes-numbers p.consumed))

bytes-places : (ps : List PlaceFields) → Bytes (flat_map place_bytes ps)
unfolding flat_map
bytes-places [] = λ i. omega arith
bytes-places (p ∷ ps) = bytes-append (place_bytes p) (flat_map place_bytes ps) (bytes-place p) (bytes-places ps)

module _ (h : Head) (limits : HeadInLimits h) where
  bytes-mark : (is_new completed : Bool) → Bytes (mark_bytes is_new completed)
  unfolding mark_bytes
  bytes-mark true true = bytes-cons 1 [] (omega arith) (λ i. omega arith)
  bytes-mark true false = bytes-cons 0 [] (omega arith) (λ i. omega arith)
  bytes-mark false completed = λ i. omega arith

  bytes-entry : (x : Entry) → EntryInLimits (first_in h) x → Bytes (entry_bytes h.is_new x)
  unfolding entry_bytes
  bytes-entry x v =
      bytes-cons (length x.word) (mark_bytes h.is_new x.completed ++ x.word) (omega (arith, v.size))
      (bytes-append (mark_bytes h.is_new x.completed) x.word (bytes-mark h.is_new x.completed)
      (bytes_below h.events (omega (arith, limits.events.1)) x.word v.events))

  pub bytes-head : Bytes (head_bytes h)
  unfolding head_bytes front_bytes places_bytes
  bytes-head =
      let words = flat_map (entry_bytes h.is_new) h.entries in
      let places = length h.places ∷ flat_map place_bytes h.places in
      bytes-cons (first_of (first_in h)) (length h.entries ∷ (words ++ places)) (first_small (first_in h) limits.events.1)
      (bytes-cons (length h.entries) (words ++ places) (omega (arith, limits.log_size))
      (bytes-append words places
      (bytes-each (EntryInLimits (first_in h)) (entry_bytes h.is_new) bytes-entry h.entries limits.entries)
      (bytes-cons (length h.places) (flat_map place_bytes h.places) (omega (arith, limits.places_size)) (bytes-places h.places))))

  bytes-term : (t : TermFields) → TermInLimits h t → Bytes (term_bytes t)
  unfolding term_bytes
  bytes-term t v =
      bytes-append (le16 t.row) (t.event ∷ le16 t.weight) (bytes-le16 t.row)
      (bytes-cons t.event (le16 t.weight) (omega (arith, v.event, limits.events.1)) (bytes-le16 t.weight))

  bytes_pair : (q : PairFields) → PairInLimits h q → Bytes (pair_bytes q)
  unfolding pair_bytes
  bytes_pair q v = bytes-cons q.word (le16 q.weight) (omega (arith, v.word, limits.log_size)) (bytes-le16 q.weight)

  bytes-pairs : (is_new : Bool) (qs : List PairFields) → PairsInLimits h qs → Bytes (pairs_bytes is_new qs)
  unfolding pairs_bytes
  bytes-pairs true qs v =
      bytes-cons (length qs) (flat_map pair_bytes qs) (omega (arith, v.size)) (bytes-each (PairInLimits h) pair_bytes bytes_pair qs v.each)
  bytes-pairs false qs v = λ i. omega arith

  pub bytes-certificate : (c : CertificateFields) → CertificateInLimits h c → Bytes (certificate_bytes h.is_new c)
  unfolding certificate_bytes weight_bytes
  bytes-certificate (kind0 j) v = bytes-cons 0 (j ∷ []) (omega arith) (bytes-cons j [] (omega (arith, v, limits.places_size)) (λ i. omega arith))
  bytes-certificate (kind1 w) v =
      let terms = flat_map term_bytes w.terms in
      let pairs = pairs_bytes h.is_new w.pairs in
      bytes-cons 1 (le16 w.k ++ ((length w.terms ∷ terms) ++ pairs)) (omega arith)
      (bytes-append (le16 w.k) ((length w.terms ∷ terms) ++ pairs) (bytes-le16 w.k)
      (bytes-append (length w.terms ∷ terms) pairs
      (bytes-cons (length w.terms) terms (omega (arith, v.terms_size)) (bytes-each (TermInLimits h) term_bytes bytes-term w.terms v.terms))
      (bytes-pairs h.is_new w.pairs v.pairs)))

pub contents-bytes : (c : Contents) → InLimits c → Bytes (bytes_of c)
unfolding bytes_of
contents-bytes c limits =
    bytes-append (head_bytes c.head) (flat_map (certificate_bytes c.head.is_new) c.certificates) (bytes-head c.head limits.head)
    (bytes-each (CertificateInLimits c.head) (certificate_bytes c.head.is_new)
    (bytes-certificate c.head limits.head) c.certificates limits.certificates)
