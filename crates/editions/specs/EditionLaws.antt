-- What conversion keeps, and how long a bundle gets by it.
use Rattle.std.specs.Prelude.{◌≡◌, refl, Bool, true, false, not, cond, List, [], ◌∷◌, ◌++◌, map, ℕ, suc, ◌+◌, ◌≤◌, length}
use Rattle.std.proofs.Common.{sym, ap, ◌∙◌, true≢false, arith, length-append}
use mathlib.Core.List.{flat_map}
use Rattle.laws.specs.Booleans.{impossible}
use Rattle.laws.specs.Lists.{keep}
use Rattle.laws.specs.Numbers.{le16}
use Rattle.laws.specs.Every.{Every, every_member, every_intro}
use Rattle.limits.specs.Limits.{max_bundle_size}
use Rattle.nets.specs.Nets.{Entry}
use Rattle.nets.specs.Entries.{NoneCompleted}
use Rattle.nets.specs.Acceptance.{accepted-parts}
use Rattle.nets.specs.Bundle.{accepted, tally, is_by_place}
use Rattle.nets.proofs.Certificates.{WithoutPairs, all-unpaired}
use Rattle.bundles.specs.Layout.{CertificateFields, kind0, kind1, PairFields, WeightFields, Head, Contents, EntryInLimits, HeadInLimits}
use Rattle.bundles.specs.Layout.{CertificateInLimits, InLimits, first_in, to_net, to_term, to_pair, to_certificate, to_bundle}
use Rattle.bundles.specs.Layout.{mark_bytes, entry_bytes, term_bytes, pair_bytes, pairs_bytes, weight_bytes, places_bytes, certificate_bytes}
use Rattle.bundles.specs.Layout.{front_bytes, head_bytes, bytes_of, first_of}
use Rattle.bundles.specs.LayoutLaws.{every_map}
use Rattle.verdicts.specs.Acceptance.{AcceptedAs}
use Rattle.verdicts.specs.OldEdition.{NoPairs}
use Rattle.verdicts.specs.declared.Tally.{Tally}
use Rattle.editions.specs.Converting.{in_edition, newer, older}

-- ---- the theory sees no edition

-- the bundle of the definitions is the same
pub same-bundle : (e : Bool) (c : Contents) → to_bundle (in_edition e c) ≡ to_bundle c
unfolding to_bundle to_net to_certificate to_term
same-bundle e c = refl

-- ---- there and back

-- in the edition that it has, a bundle is as it was
pub in-own : {e : Bool} (c : Contents) → c.head.is_new ≡ e → in_edition e c ≡ c
in-own {e} c own = λ i. record {
  head = record { is_new = sym own i; events = c.head.events; entries = c.head.entries; places = c.head.places };
  certificates = c.certificates;
}

-- ---- a bundle without completed words

-- no word is completed, and no certificate has pairs
pub record Convertible (c : Contents) : Type 0 where
  pub partial : NoneCompleted c.head.entries
  pub pairs : Every NoPairs c.certificates

unmapped : (w : WeightFields) → map to_pair w.pairs ≡ [] → w.pairs ≡ []
unmapped w e = go w.pairs e
  where
    go : (qs : List PairFields) → map to_pair qs ≡ [] → qs ≡ []
    go [] e = refl
    go (q ∷ qs) e = impossible cc

unpaired : (h : Head) (cs : List CertificateFields) → Every WithoutPairs (map (to_certificate h) cs) → Every NoPairs cs
unfolding to_certificate
unpaired h [] v = tt
unpaired h (kind0 j ∷ cs) v = (tt, unpaired h cs v.1)
unpaired h (kind1 w ∷ cs) v = (unmapped w v.0, unpaired h cs v.1)

-- of an accepted bundle it is enough that no word is completed, since a pair names a completed one
pub partial-convertible : {b : List ℕ} {t : Tally} (c : Contents) → AcceptedAs b t c → NoneCompleted c.head.entries → Convertible c
unfolding to_bundle
partial-convertible c a none = record {
  partial = none;
  pairs = unpaired c.head c.certificates
      (all-unpaired c.head.events c.head.entries none (to_net c.head) _ (map (to_certificate c.head) c.certificates)
      ((accepted-parts (to_bundle c)).0 a.accepted).solved);
}

-- ---- the limits

module _ (e : Bool) (c : Contents) (limits : InLimits c) (plain : Convertible c) where
  in-head : HeadInLimits (in_edition e c).head
  in-head = record {
    events = limits.head.events;
    log_size = limits.head.log_size;
    entries = every_intro (EntryInLimits (first_in (in_edition e c).head)) c.head.entries (λ x m.
        let v = every_member (EntryInLimits (first_in c.head)) c.head.entries limits.head.entries m in
        record { size = v.size; events = v.events; mark = λ q. absurd (true≢false (sym q ∙ plain.partial x m)) });
    log_events = limits.head.log_events;
    places_size = limits.head.places_size;
    places = limits.head.places;
  }

  in-certificate : (x : CertificateFields) → NoPairs x → CertificateInLimits c.head x → CertificateInLimits (in_edition e c).head x
  in-certificate (kind0 j) none v = v
  in-certificate (kind1 w) none v = record {
    positive = v.positive;
    factor = v.factor;
    terms_size = v.terms_size;
    terms = every_map _ _ (λ t l. record { row = l.row; event = l.event; weight = l.weight }) w.terms v.terms;
    pairs = record {
      size = v.pairs.size;
      each = every_map _ _ (λ q l. record { word = l.word; weight = l.weight }) w.pairs v.pairs.each;
      edition = λ old. none;
    };
  }

  module _ (fits : length (bytes_of (in_edition e c)) ≤ max_bundle_size) where
    pub in-limits : InLimits (in_edition e c)
    in-limits = record {
      head = in-head;
      row_count = limits.row_count;
      certificates = every_intro (CertificateInLimits (in_edition e c).head) c.certificates (λ x m. in-certificate x
          (every_member NoPairs c.certificates plain.pairs m) (every_member (CertificateInLimits c.head) c.certificates limits.certificates m));
      size = fits;
    }

-- accepted with the same counts
pub in-accepted : {b : List ℕ} {t : Tally} (e : Bool) (c : Contents) → AcceptedAs b t c → Convertible c
    → length (bytes_of (in_edition e c)) ≤ max_bundle_size → AcceptedAs (bytes_of (in_edition e c)) t (in_edition e c)
in-accepted e c a plain fits = record {
  layout = refl;
  limits = in-limits e c a.limits plain fits;
  accepted = rw (same-bundle e c) a.accepted;
  counts = a.counts ∙ rw (same-bundle e c);
}

-- ---- lengths

-- a certificate is of kind 1
unfoldable pub is_weights : CertificateFields → Bool
is_weights (kind0 j) = false
is_weights (kind1 w) = true

-- a word has one byte more in the new edition
entry-length : (x : Entry) → length (entry_bytes true x) ≡ length (entry_bytes false x) + 1
unfolding entry_bytes mark_bytes
entry-length x = omega (arith, length-append (cond x.completed 1 0 ∷ []) x.word)

words-length : (xs : List Entry) → length (flat_map (entry_bytes true) xs) ≡ length (flat_map (entry_bytes false) xs) + length xs
unfolding flat_map
words-length [] = refl
words-length (x ∷ xs) = omega (
  arith,
  length-append (entry_bytes true x) (flat_map (entry_bytes true) xs),
  length-append (entry_bytes false x) (flat_map (entry_bytes false) xs),
  entry-length x,
  words-length xs,
)

-- so have weights without pairs, for the pair count
weights-length : (w : WeightFields) → w.pairs ≡ [] → length (weight_bytes true w) ≡ length (weight_bytes false w) + 1
unfolding weight_bytes pairs_bytes flat_map
weights-length w none = omega (
  arith,
  length-append (le16 w.k) ((length w.terms ∷ flat_map term_bytes w.terms) ++ (length w.pairs ∷ flat_map pair_bytes w.pairs)),
  length-append (le16 w.k) ((length w.terms ∷ flat_map term_bytes w.terms) ++ []),
  length-append (length w.terms ∷ flat_map term_bytes w.terms) (length w.pairs ∷ flat_map pair_bytes w.pairs),
  length-append (length w.terms ∷ flat_map term_bytes w.terms) [],
  ap (λ (qs : List PairFields). length (flat_map pair_bytes qs)) none,
)

certificate-length : (c : CertificateFields) → NoPairs c
    → length (certificate_bytes true c) ≡ length (certificate_bytes false c) + cond (is_weights c) 1 0
unfolding certificate_bytes is_weights
certificate-length (kind0 j) v = refl
certificate-length (kind1 w) v = omega (arith, weights-length w v)

-- how many certificates are of kind 1
abbrev pub weights_count : List CertificateFields → ℕ
weights_count cs = length (keep is_weights cs)

certificates-length : (cs : List CertificateFields) → Every NoPairs cs
    → length (flat_map (certificate_bytes true) cs) ≡ length (flat_map (certificate_bytes false) cs) + weights_count cs
unfolding flat_map keep
certificates-length [] v = refl
certificates-length (c ∷ cs) v = go (is_weights c) (certificate-length c v.0) (certificates-length cs v.1)
  where
    news : List ℕ
    news = flat_map (certificate_bytes true) cs

    olds : List ℕ
    olds = flat_map (certificate_bytes false) cs

    go : (b : Bool) → length (certificate_bytes true c) ≡ length (certificate_bytes false c) + cond b 1 0
        → length news ≡ length olds + weights_count cs → length (certificate_bytes true c ++ news)
        ≡ length (certificate_bytes false c ++ olds) + length (cond b (c ∷ keep is_weights cs) (keep is_weights cs))
    go true e rest = omega (arith, e, rest, length-append (certificate_bytes true c) news, length-append (certificate_bytes false c) olds)
    go false e rest = omega (arith, e, rest, length-append (certificate_bytes true c) news, length-append (certificate_bytes false c) olds)

-- a bundle without completed words and pairs has a byte more in the new edition for each word and each certificate of kind 1
pub newer-length : (c : Contents) → Every NoPairs c.certificates
    → length (bytes_of (newer c)) ≡ length (bytes_of (older c)) + length c.head.entries + weights_count c.certificates
unfolding bytes_of head_bytes front_bytes
newer-length c v =
    let words = λ (e : Bool). flat_map (entry_bytes e) c.head.entries in
    let places = places_bytes c.head.places in
    let certificates = λ (e : Bool). flat_map (certificate_bytes e) c.certificates in
    omega (
      arith,
      length-append (first_of (first_in (newer c).head) ∷ length c.head.entries ∷ (words true ++ places)) (certificates true),
      length-append (first_of (first_in (older c).head) ∷ length c.head.entries ∷ (words false ++ places)) (certificates false),
      length-append (words true) places,
      length-append (words false) places,
      words-length c.head.entries,
      certificates-length c.certificates v,
    )

-- which are the verdict's certificates of kind 1
weights-counted : (h : Head) (cs : List CertificateFields) → length (keep (λ x. not (is_by_place x)) (map (to_certificate h) cs)) ≡ weights_count cs
unfolding keep to_certificate is_by_place is_weights
weights-counted h [] = refl
weights-counted h (kind0 j ∷ cs) = weights-counted h cs
weights-counted h (kind1 w ∷ cs) = ap suc (weights-counted h cs)

-- each has a byte or more
certificate-some : (e : Bool) (c : CertificateFields) → 1 ≤ length (certificate_bytes e c)
unfolding certificate_bytes
certificate-some e (kind0 j) = omega arith
certificate-some e (kind1 w) = omega arith

weights-shorter : (e : Bool) (cs : List CertificateFields) → weights_count cs ≤ length (flat_map (certificate_bytes e) cs)
unfolding flat_map keep
weights-shorter e [] = omega arith
weights-shorter e (c ∷ cs) = go (is_weights c) (certificate-some e c) (weights-shorter e cs)
  where
    rest : List ℕ
    rest = flat_map (certificate_bytes e) cs

    go : (b : Bool) → 1 ≤ length (certificate_bytes e c) → weights_count cs ≤ length rest
        → length (cond b (c ∷ keep is_weights cs) (keep is_weights cs)) ≤ length (certificate_bytes e c ++ rest)
    go true some few = omega (arith, some, few, length-append (certificate_bytes e c) rest)
    go false some few = omega (arith, some, few, length-append (certificate_bytes e c) rest)

pub by_weights-count : {b : List ℕ} {t : Tally} (c : Contents) → AcceptedAs b t c → t.by_weights ≡ weights_count c.certificates
unfolding to_bundle tally
by_weights-count c a = ap (λ (t : Tally). t.by_weights) a.counts ∙ weights-counted c.head c.certificates

-- no more than there are bytes
pub by_weights-most : {b : List ℕ} {t : Tally} (c : Contents) → AcceptedAs b t c → t.by_weights ≤ length b
unfolding bytes_of
by_weights-most c a = omega (
  arith,
  ap length a.layout,
  length-append (head_bytes c.head) (flat_map (certificate_bytes c.head.is_new) c.certificates),
  by_weights-count c a,
  weights-shorter c.head.is_new c.certificates,
)
