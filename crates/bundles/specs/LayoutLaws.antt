-- Reading undoes writing, for the parts of a bundle: each reader of Readers.antt gets exactly the values in their limits whose bytes stand there.
use Rattle.std.specs.Prelude.{◌≡◌, Bool, cond, ◌&&◌, T, leb}
use Rattle.std.proofs.Math.Path.{refl, sym, ap}
use Rattle.std.proofs.Common.{◌∙◌, lt→ltb}
use Rattle.std.proofs.Math.Bool.{true, false}
use Rattle.std.proofs.lemmas.Bool.{false≢true}
use mathlib.Core.List.{List, [], ◌∷◌, ◌++◌, flat_map}
use Prim.Native.Nat.{ℕ, zero, suc, ◌+◌, ◌%◌, ◌≤◌, ◌<◌}
use native.Mathlib.Omega.{arith}
use Rattle.std.proofs.Math.Dec.{ltb, leb→le, le→leb, ltb→lt}
use Rattle.std.specs.Float.Ieee.Fits.{and_i, and_l, and_r}
use Rattle.std.proofs.Math.ListN.{length}
use Rattle.laws.specs.Booleans.{impossible}
use Rattle.laws.specs.Every.{Every, every_member, every_intro}
use Rattle.laws.specs.Numbers.{le16, Bytes}
use Rattle.limits.specs.Limits.{max_events, max_log_events, max_rows, max_places, max_terms, max_pairs, new_edition}
use Rattle.nets.specs.Nets.{Log, Entry, words, event_count}
use Rattle.bundles.specs.Reading.{byte, number}
use Rattle.bundles.specs.Layout.{PlaceFields, TermFields, PairFields, CertificateFields, kind0, kind1, First, Head, TwoBytes, EntryInLimits, PlaceInLimits, TermInLimits, PairInLimits, PairsInLimits, CertificateInLimits, first_of, mark_bytes, entry_bytes, place_bytes, places_bytes, term_bytes, pair_bytes, pairs_bytes, certificate_bytes, front_bytes, head_bytes, WeightFields, weight_bytes, first_in, rows_in}
use Rattle.bundles.specs.Readers.{anything, mark, entry_after, entry, place, places, first_byte, to_first, first, head_after, head, term, pair, pairs, weights, of_kind, certificate}
use Rattle.bundles.specs.Editions.{mark_of, mark-read, mark-written, mark-most, mark-one, first-written, first-read, first_small}
use Rattle.bundles.specs.ReadingLaws.{Law, Following, law-nothing, law-then, law-give, law-same, law-require, law-tested, law-offset, law-byte, law-number, law-following, law-times}

-- from one way to say that each member is so to another
pub every_map : {A : Type 0} (P Q : A → Type 0) → ((x : A) → P x → Q x) → (xs : List A) → Every P xs → Every Q xs
every_map P Q f [] v = tt
every_map P Q f (x ∷ xs) v = (f x v.0, every_map P Q f xs v.1)

flat_map-bytes : (xs : List ℕ) → flat_map (λ x. x ∷ []) xs ≡ xs
unfolding flat_map
flat_map-bytes [] = refl
flat_map-bytes (x ∷ xs) = ap (λ (l : List ℕ). x ∷ l) (flat_map-bytes xs)

-- an entry in its place behind those before
pub record EntryValid (rows_fit : Log → Bool) (f : First) (before : List Entry) (x : Entry) : Type 0 where
  pub entry : EntryInLimits f x
  pub log_events : event_count (words before) + length x.word ≤ max_log_events
  pub rows : T (rows_fit (words (before ++ x ∷ [])))

pub record HeadValid (rows_fit : ℕ → Log → Bool) (h : Head) : Type 0 where
  pub events : (1 ≤ h.events) × (h.events ≤ max_events)
  pub log_size : length h.entries ≤ 255
  pub entries : Following (EntryValid (rows_fit h.events) (first_in h)) [] h.entries
  pub places_size : length h.places ≤ max_places
  pub places : Every (PlaceInLimits h.events) h.places

-- the parts of a certificate, by kind
kind_of : CertificateFields → ℕ
kind_of (kind0 j) = 0
kind_of (kind1 w) = 1

place_number : CertificateFields → ℕ
place_number (kind0 j) = j
place_number (kind1 w) = 0

factor : CertificateFields → ℕ
factor (kind0 j) = 0
factor (kind1 w) = w.k

terms : CertificateFields → List TermFields
terms (kind0 j) = []
terms (kind1 w) = w.terms

pairs_of : CertificateFields → List PairFields
pairs_of (kind0 j) = []
pairs_of (kind1 w) = w.pairs

-- the bytes behind the kind
kind_bytes : Bool → CertificateFields → List ℕ
kind_bytes is_new (kind0 j) = j ∷ []
kind_bytes is_new (kind1 w) = weight_bytes is_new w

module _ (b : List ℕ) (bytes : Bytes b) where
  -- a number of any value
  law-any : Law b (number anything) le16 TwoBytes
  law-any = law-same b (law-number b bytes anything) (λ x v. refl) (λ x v. v.1) (λ x v. (tt, v))

  -- an event, or a number of something, below a limit
  law-below : (n : ℕ) → n ≤ 256 → Law b (byte (λ e. ltb e n)) (λ e. e ∷ []) (λ e. e < n)
  law-below n small = law-same b (law-byte b bytes (λ e. ltb e n)) (λ e v. refl) (λ e v. ltb→lt e n v.0) (λ e v. (lt→ltb e n v, omega arith))

  -- the size of a list
  law-size : (most : ℕ) → most ≤ 255 → Law b (byte (λ k. leb k most)) (λ k. k ∷ []) (λ k. k ≤ most)
  law-size most small =
      law-same b (law-byte b bytes (λ k. leb k most)) (λ k v. refl) (λ k v. leb→le k most v.0) (λ k v. (le→leb k most v, omega arith))

  -- the mark of a word
  law-mark : (is_new : Bool) → Law b (mark is_new) (λ m. cond is_new (m ∷ []) []) (λ m. (m ≤ 1) × (m ≡ 1 → is_new ≡ true))
  unfolding mark
  law-mark true = law-same b (law-size 1 (omega arith)) (λ m v. refl) (λ m v. (v, λ e. refl)) (λ m v. v.0)
  law-mark false = law-same b (law-nothing b 0) (λ m v. refl) (λ m v. (omega arith, λ e. absurd (omega arith))) none
    where
      none : (m : ℕ) → (m ≤ 1) × (m ≡ 1 → false ≡ true) → m ≡ 0
      none zero v = refl
      none (suc zero) v = absurd (false≢true (v.1 refl))
      none (suc (suc m)) v = absurd (omega (arith, v.0))

  pub law-entry_after : (f : First) → f.events ≤ 256 → (count : ℕ)
      → Law b (entry_after f count) (entry_bytes f.is_new) (λ x. EntryInLimits f x × (count + length x.word ≤ max_log_events))
  unfolding entry_after entry_bytes mark_bytes mark_of
  law-entry_after f small count =
      law-same b
      (law-offset b (λ start.
      law-then b (law-byte b bytes anything) (λ (x : Entry). length x.word)
      (λ size _. law-require b
      (law-then b (law-mark f.is_new) (λ (x : Entry). mark_of x.completed)
      (λ m _. law-give b (law-times b (law-below f.events small) size) (λ (x : Entry). x.word) (λ w _. refl))
      (λ m v x u. ap (λ (y : Entry). mark_of y.completed) u.1 ∙ mark-read m v.0)) _ _ _)
      (λ size _ x v. v.1.1.0.0)))
      (λ x v. ap (λ (l : List ℕ). length x.word ∷ (cond f.is_new (cond x.completed 1 0 ∷ []) [] ++ l)) (flat_map-bytes x.word))
      (λ x v. (
        record {
          size = omega (arith, v.0.1);
          events = λ e m. every_member (λ e. e < f.events) x.word v.1.1.1.0.1 m;
          mark = λ e. v.1.1.0.1 (ap mark_of e);
        },
        leb→le _ _ v.1.0,
      ))
      (λ x v. (
        (tt, omega (arith, v.0.size)),
        (
          le→leb _ _ v.1,
          (
            (mark-most x.completed, λ e. v.0.mark (mark-one x.completed e)),
            ((refl, every_intro (λ e. e < f.events) x.word v.0.events), λ i. record { word = x.word; completed = sym (mark-written x.completed) i }),
          ),
        ),
      ))

  pub law-entry : (rows_fit : Log → Bool) (f : First) → f.events ≤ 256 → (before : List Entry)
      → Law b (entry rows_fit f before) (entry_bytes f.is_new) (EntryValid rows_fit f before)
  unfolding entry
  law-entry rows_fit f small before =
      law-same b
      (law-offset b (λ start. law-tested b (law-entry_after f small (event_count (words before))) _ _ _))
      (λ x v. refl)
      (λ x v. record { entry = v.0.0; log_events = v.0.1; rows = v.1 })
      (λ x v. ((v.entry, v.log_events), v.rows))

  law-place : (n : ℕ) → Law b (place n) place_bytes (PlaceInLimits n)
  unfolding place place_bytes
  law-place n =
      law-same b
      (law-then b law-any (λ (p : PlaceFields). p.initial)
      (λ m _. law-then b (law-times b law-any n) (λ (p : PlaceFields). p.produced)
      (λ ins _. law-give b (law-times b law-any n) (λ (p : PlaceFields). p.consumed) (λ outs _. refl))
      (λ ins _ p v. ap (λ (q : PlaceFields). q.produced) v.1))
      (λ m _ p v. ap (λ (q : PlaceFields). q.initial) v.1.1))
      (λ p v. refl)
      (λ p v. record { initial = v.0; produced_size = v.1.0.0; produced = v.1.0.1; consumed_size = v.1.1.0.0; consumed = v.1.1.0.1 })
      (λ p v. (v.initial, ((v.produced_size, v.produced), ((v.consumed_size, v.consumed), refl))))

  -- the first byte, and what it says
  law-first_byte : Law b first_byte (λ x. x ∷ []) (λ x. (1 ≤ x % new_edition) × (x % new_edition ≤ max_events) × (x < 256))
  law-first_byte =
      let least = λ (x : ℕ). leb 1 (x % new_edition) in
      let most = λ (x : ℕ). leb (x % new_edition) max_events in
      law-same b (law-byte b bytes (λ x. least x && most x)) (λ x v. refl)
      (λ x v. (leb→le 1 (x % new_edition) (and_l (least x) (most x) v.0), leb→le (x % new_edition) max_events (and_r (least x) (most x) v.0), v.1))
      (λ x v. (and_i (least x) (most x) (le→leb 1 (x % new_edition) v.0) (le→leb (x % new_edition) max_events v.1), v.2))

  pub law-first : Law b first (λ f. first_of f ∷ []) (λ f. (1 ≤ f.events) × (f.events ≤ max_events))
  unfolding first to_first
  law-first =
      law-same b
      (law-give b law-first_byte first_of (λ x v. first-read x v.2))
      (λ f v. refl)
      (λ f v. let same : f.events ≡ first_of f % new_edition = ap (λ (g : First). g.events) v.1 in (omega (arith, v.0.0), omega (arith, v.0.1)))
      (λ f v.
      let same : first_of f % new_edition ≡ f.events = ap (λ (g : First). g.events) (first-written f v.1) in
      ((omega (arith, v.0), omega (arith, v.1), first_small f v.1), sym (first-written f v.1)))

  -- the place count and the places
  law-places : (n : ℕ) → Law b (places n) places_bytes (λ ps. (length ps ≤ max_places) × Every (PlaceInLimits n) ps)
  unfolding places places_bytes
  law-places n =
      law-same b
      (law-then b (law-size max_places (omega arith)) (λ (ps : List PlaceFields). length ps)
      (λ count _. law-times b (law-place n) count) (λ count _ ps v. v.0))
      (λ ps v. refl)
      (λ ps v. (v.0, v.1.1))
      (λ ps v. (v.0, (refl, v.1)))

  pub law-head : (rows_fit : ℕ → Log → Bool) → Law b (head rows_fit) head_bytes (HeadValid rows_fit)
  unfolding head_after head head_bytes front_bytes
  law-head rows_fit =
      law-same b
      (law-then b law-first first_in
      (λ f v. law-then b (law-byte b bytes anything) (λ (h : Head). length h.entries)
      (λ count _. law-then b (law-following b (law-entry (rows_fit f.events) f (omega (arith, v.1))) count) (λ (h : Head). h.entries)
      (λ entries _. law-give b (law-places f.events) (λ (h : Head). h.places) (λ ps _. refl))
      (λ entries _ h v. ap (λ (g : Head). g.entries) v.1))
      (λ count _ h v. v.0.0))
      (λ f _ h v. ap first_in v.1.1.1))
      (λ h v. refl)
      (λ h v. record {
        events = v.0;
        log_size = omega (arith, v.1.0.1);
        entries = v.1.1.0.1;
        places_size = v.1.1.1.0.0;
        places = v.1.1.1.0.1;
      })
      (λ h v. (v.events, ((tt, omega (arith, v.log_size)), ((refl, v.entries), ((v.places_size, v.places), refl)))))

  -- ---- certificates, behind a head in its limits

  module _ (h : Head) (events : h.events ≤ max_events) (row_count : length (rows_in h) ≤ max_rows)
      (places_size : length h.places ≤ max_places) (log_size : length h.entries ≤ 255) where
    law-term : Law b (term h.events (length (rows_in h))) term_bytes (TermInLimits h)
    unfolding term term_bytes
    law-term =
        law-same b
        (law-then b (law-number b bytes (λ r. ltb r (length (rows_in h)))) (λ (t : TermFields). t.row)
        (λ row _. law-then b (law-below h.events (omega arith)) (λ (t : TermFields). t.event)
        (λ event _. law-give b law-any (λ (t : TermFields). t.weight) (λ weight _. refl))
        (λ event _ t v. ap (λ (u : TermFields). u.event) v.1))
        (λ row _ t v. ap (λ (u : TermFields). u.row) v.1.1))
        (λ t v. refl)
        (λ t v. record { row = ltb→lt _ _ v.0.0; event = v.1.0; weight = v.1.1.0 })
        (λ t v. ((lt→ltb _ _ v.row, omega (arith, v.row)), (v.event, (v.weight, refl))))

    law-pair : Law b (pair (length h.entries)) pair_bytes (PairInLimits h)
    unfolding pair pair_bytes
    law-pair =
        law-same b
        (law-then b (law-below (length h.entries) (omega arith)) (λ (q : PairFields). q.word)
        (λ word _. law-give b law-any (λ (q : PairFields). q.weight) (λ weight _. refl))
        (λ word _ q v. ap (λ (r : PairFields). r.word) v.1))
        (λ q v. refl)
        (λ q v. record { word = v.0; weight = v.1.0 })
        (λ q v. (v.word, (v.weight, refl)))

    law-pairs : (is_new : Bool) → h.is_new ≡ is_new → Law b (pairs is_new (length h.entries)) (pairs_bytes is_new) (PairsInLimits h)
    unfolding pairs pairs_bytes
    law-pairs true is =
        law-same b
        (law-then b (law-size max_pairs (omega arith)) (λ (qs : List PairFields). length qs)
        (λ count _. law-times b law-pair count) (λ count _ qs v. v.0))
        (λ qs v. refl)
        (λ qs v. record { size = v.0; each = v.1.1; edition = λ e. absurd (false≢true (sym e ∙ is)) })
        (λ qs v. (v.size, (refl, v.each)))
    law-pairs false is =
        law-same b (law-nothing b [])
        (λ qs v. refl)
        (λ qs v. rw v (record { size = omega arith; each = tt; edition = λ e. refl }))
        (λ qs v. v.edition is)

    -- behind the kind
    OfKind : ℕ → CertificateFields → Type 0
    OfKind kind c = (kind_of c ≡ kind) × CertificateInLimits h c

    law-kind0 : Law b (of_kind h 0) (kind_bytes h.is_new) (OfKind 0)
    unfolding of_kind kind_bytes OfKind kind_of place_number
    law-kind0 =
        law-same b
        (law-give b (law-below (length h.places) (omega arith)) place_number (λ j _. refl))
        (λ c v. rw v.1)
        (λ c v. rw v.1 (refl, v.0))
        (elim [ kind0 j ↦ λ v. (v.1, refl) | kind1 w ↦ λ v. absurd (omega (arith, v.0)) ])

    law-kind1 : Law b (of_kind h 1) (kind_bytes h.is_new) (OfKind 1)
    unfolding of_kind weights kind_bytes weight_bytes OfKind kind_of factor terms pairs_of
    law-kind1 =
        law-same b
        (law-then b (law-number b bytes (leb 1)) factor
        (λ k _. law-then b (law-size max_terms (omega arith)) (λ c. length (terms c))
        (λ count _. law-then b (law-times b law-term count) terms
        (λ ts _. law-give b (law-pairs h.is_new refl) pairs_of (λ qs _. refl))
        (λ ts _ c v. ap terms v.1))
        (λ count _ c v. v.0.0))
        (λ k _ c v. ap factor v.1.1.1))
        (elim [ kind0 j ↦ λ v. absurd (other v.1.1.1.1) | kind1 w ↦ λ v. refl ])
        (elim [
          | kind0 j ↦ λ v. absurd (other v.1.1.1.1)
          | kind1 w ↦ λ v. (refl, record { positive = leb→le 1 w.k v.0.0; factor = v.0.1; terms_size = v.1.0; terms = v.1.1.0.1; pairs = v.1.1.1.0 })
        ])
        (elim [
          | kind0 j ↦ λ v. absurd (omega (arith, v.0))
          | kind1 w ↦ λ v. ((le→leb 1 w.k v.1.positive, v.1.factor), (v.1.terms_size, ((refl, v.1.terms), (v.1.pairs, refl))))
        ])
      where
        other : {j : ℕ} {w : WeightFields} → kind0 j ≡ kind1 w → ⊥
        other e = impossible cc

    pub law-certificate : Law b (certificate h) (certificate_bytes h.is_new) (CertificateInLimits h)
    unfolding certificate certificate_bytes OfKind kind_of kind_bytes
    law-certificate =
        law-same b
        (law-then b (law-size 1 (omega arith)) kind_of of_either (λ kind _ c v. v.0))
        (elim [ kind0 j ↦ λ v. refl | kind1 w ↦ λ v. refl ])
        (λ c v. v.1.1)
        (elim [ kind0 j ↦ λ v. (omega arith, (refl, v)) | kind1 w ↦ λ v. (omega arith, (refl, v)) ])
      where
        of_either : (kind : ℕ) → kind ≤ 1 → Law b (of_kind h kind) (kind_bytes h.is_new) (OfKind kind)
        of_either zero v = law-kind0
        of_either (suc zero) v = law-kind1
        of_either (suc (suc k)) v = absurd (omega arith)
