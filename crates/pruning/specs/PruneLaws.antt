-- What pruning keeps: the pruned contents are those of an accepted bundle, with the same counts, and pruning them again changes nothing.
use Rattle.std.specs.Prelude.{◌≡◌, Bool, true, ℕ, ◌+◌, ◌*◌, ◌≤◌, ◌<◌}
use Rattle.std.proofs.Math.Path.{refl, sym, ap, ap₂, subst}
use Rattle.std.proofs.Common.{◌∙◌, eq-eqb, eqb→eq}
use Rattle.std.proofs.Math.Bool.{◌||◌}
use mathlib.Core.List.Memᴰ
use mathlib.Core.List.{List, [], ◌∷◌, ◌++◌, map, flat_map, Memᴰ}
use Rattle.std.proofs.Math.Nat.{mul-le-mul_right}
use native.Mathlib.Omega.{arith}
use Rattle.std.proofs.Math.Dec.{T}
use Rattle.std.proofs.Math.ListN.{length, length-append}
use Rattle.laws.specs.Booleans.{yes_true}
use Rattle.laws.specs.Every.{Every, every_member, every_intro}
use Rattle.laws.specs.Lists.{any, any_witness, any_intro}
use Rattle.laws.specs.Ranks.{keep_at, rank, keep_at-at, keep_at-from, keep_at-member, keep_at-most, keep_at-all, keep_at-map, keep_at-same, rank-all, rank_same}
use Rattle.nets.specs.Nets.{Net}
use Rattle.nets.specs.Bundle.{Certificate, by_place, by_weights, Bundle, accepted, tally}
use Rattle.nets.specs.Pruning as theory
use Rattle.nets.specs.Pruning.{prune}
use Rattle.nets.proofs.Pruning.{prune-accepted, prune-tally}
use Rattle.bundles.specs.Layout.{PlaceFields, CertificateFields, kind0, kind1, Head, Contents, head_with}
use Rattle.bundles.specs.Layout.{PlaceInLimits, HeadInLimits, CertificateInLimits, InLimits}
use Rattle.bundles.specs.Layout.{to_place, to_net, to_term, to_weights, to_certificate, to_bundle}
use Rattle.bundles.specs.Layout.{place_bytes, places_bytes, weight_bytes, certificate_bytes, front_bytes, head_bytes, bytes_of}
use Rattle.bundles.specs.LayoutLaws.{every_map}
use Rattle.bundles.specs.PlaceReading.{place_size}
use Rattle.contents.specs.Contents.{certificates_bytes, places-length}
use Rattle.pruning.specs.Pruning.{names, named, renumbered, pruned}

-- ---- the theory's bundle

module _ (h : Head) where
  names_same : (j : ℕ) (c : CertificateFields) → theory.names j (to_certificate h c) ≡ names j c
  unfolding theory.names names to_certificate
  names_same j (kind0 k) = refl
  names_same j (kind1 w) = refl

  named-same : (cs : List CertificateFields) (j : ℕ) → theory.named (map (to_certificate h) cs) j ≡ named cs j
  unfolding theory.named named any
  named-same [] j = refl
  named-same (c ∷ cs) j = ap₂ ◌||◌ (names_same j c) (named-same cs j)

module _ (c : Contents) where
  abbrev kept : ℕ → Bool
  kept = named c.certificates

  -- the certificates, renumbered
  numbers-same : (cs : List CertificateFields)
      → map (to_certificate (pruned c).head) (map (renumbered kept) cs) ≡ map (theory.renumbered (theory.named (map (to_certificate c.head) c.certificates))) (map (to_certificate c.head) cs)
  unfolding renumbered theory.renumbered to_certificate to_term pruned
  numbers-same [] = refl
  numbers-same (kind0 j ∷ cs) = ap₂ ◌∷◌ (ap by_place (rank_same kept (theory.named (map (to_certificate c.head) c.certificates)) j (λ i h. sym (named-same c.head c.certificates i)))) (numbers-same cs)
  numbers-same (kind1 w ∷ cs) = ap (λ (l : List Certificate). by_weights (to_weights c.head w) ∷ l) (numbers-same cs)

  pub pruned-bundle : to_bundle (pruned c) ≡ prune (to_bundle c)
  unfolding to_bundle prune pruned to_net
  pruned-bundle = ap₂
      (λ (net : Net) (cs : List Certificate). record { events = c.head.events; entries = c.head.entries; net = net; certificates = cs })
      (sym (keep_at-map to_place kept c.head.places) ∙ keep_at-same kept (theory.named (map (to_certificate c.head) c.certificates)) (map to_place c.head.places) (λ i h. sym (named-same c.head c.certificates i)))
      (numbers-same c.certificates)

  -- accepted, with the same four counts
  pub pruned-accepted : T (accepted (to_bundle c)) → T (accepted (to_bundle (pruned c)))
  pruned-accepted t = subst (λ (b : Bundle). T (accepted b)) (sym pruned-bundle) (prune-accepted (to_bundle c) t)

  pub pruned-tally : T (accepted (to_bundle c)) → tally (to_bundle (pruned c)) ≡ tally (to_bundle c)
  pruned-tally t = ap tally pruned-bundle ∙ prune-tally (to_bundle c) t

-- ---- which places are named

module _ (cs : List CertificateFields) (j : ℕ) where
  pub named-member : Memᴰ (kind0 j) cs → named cs j ≡ true
  unfolding named names
  named-member m = yes_true (any (names j) cs) (any_intro (names j) cs m (rw (eq-eqb j j refl) tt))

  pub named→ : named cs j ≡ true → Memᴰ (kind0 j) cs
  unfolding named names
  named→ e = let (c, m, t) = any_witness (names j) cs (rw e tt) in go c m t
    where
      go : (c : CertificateFields) → Memᴰ c cs → T (names j c) → Memᴰ (kind0 j) cs
      go (kind0 k) m t = subst (λ (i : ℕ). Memᴰ (kind0 i) cs) (sym (eqb→eq j k t)) m
      go (kind1 w) m t = absurd t

-- ---- the limits

pub every_kept : {A : Type 0} (P : A → Type 0) (f : ℕ → Bool) (xs : List A) → Every P xs → Every P (keep_at f xs)
every_kept P f xs v = every_intro P (keep_at f xs) (λ x m. every_member P xs v (keep_at-member f xs m))

module _ (c : Contents) (limits : InLimits c) where
  -- a place that a certificate names is there
  pub named-there : (j : ℕ) → Memᴰ (kind0 j) c.certificates → j < length c.head.places
  named-there j m = every_member (CertificateInLimits c.head) c.certificates limits.certificates m

  renumbered-limits : (cs : List CertificateFields) → ((x : CertificateFields) → Memᴰ x cs → Memᴰ x c.certificates) → Every (CertificateInLimits c.head) cs
      → Every (CertificateInLimits (pruned c).head) (map (renumbered (kept c)) cs)
  unfolding renumbered pruned
  renumbered-limits [] of v = tt
  renumbered-limits (kind0 j ∷ cs) of v =
      let m = of (kind0 j) (Memᴰ.head refl) in
      let there : rank (kept c) j < length (keep_at (kept c) c.head.places) =
      (keep_at-at (kept c) c.head.places j (record { initial = 0; produced = []; consumed = [] }) (named-member c.certificates j m) v.0).0 in
      (there, renumbered-limits cs (λ x n. of x (Memᴰ.tail n)) v.1)
  renumbered-limits (kind1 w ∷ cs) of v = (
    record {
      positive = v.0.positive;
      factor = v.0.factor;
      terms_size = v.0.terms_size;
      terms = every_map _ _ (λ t l. record { row = l.row; event = l.event; weight = l.weight }) w.terms v.0.terms;
      pairs = record {
        size = v.0.pairs.size;
        each = every_map _ _ (λ q l. record { word = l.word; weight = l.weight }) w.pairs v.0.pairs.each;
        edition = v.0.pairs.edition;
      };
    },
    renumbered-limits cs (λ x n. of x (Memᴰ.tail n)) v.1,
  )

  pub pruned-head : HeadInLimits (pruned c).head
  unfolding pruned
  pruned-head = record {
    events = limits.head.events;
    log_size = limits.head.log_size;
    entries = limits.head.entries;
    log_events = limits.head.log_events;
    places_size = omega (arith, limits.head.places_size, keep_at-most (kept c) c.head.places);
    places = every_kept (PlaceInLimits c.head.events) (kept c) c.head.places limits.head.places;
  }

-- ---- the length

-- a renumbered certificate is as long
pub certificates-length : (is_new : Bool) (kept : ℕ → Bool) (cs : List CertificateFields)
    → length (flat_map (certificate_bytes is_new) (map (renumbered kept) cs)) ≡ length (flat_map (certificate_bytes is_new) cs)
unfolding flat_map renumbered certificate_bytes
certificates-length is_new kept [] = refl
certificates-length is_new kept (kind0 j ∷ cs) = omega (arith, certificates-length is_new kept cs)
certificates-length is_new kept (kind1 w ∷ cs) =
    let one : List ℕ = 1 ∷ weight_bytes is_new w in
    omega (
      arith,
      length-append one (flat_map (certificate_bytes is_new) (map (renumbered kept) cs)),
      length-append one (flat_map (certificate_bytes is_new) cs),
      certificates-length is_new kept cs,
    )

module _ (c : Contents) (limits : InLimits c) where
  -- each place that is left out has its bytes left out, and nothing else changes in length
  pub pruned-length : length (bytes_of (pruned c)) + length c.head.places * (2 * place_size c.head.events)
      ≡ length (bytes_of c) + length (pruned c).head.places * (2 * place_size c.head.events)
  unfolding bytes_of head_bytes front_bytes places_bytes pruned
  pruned-length =
      let n = c.head.events in
      let front = front_bytes c.head in
      let ps = c.head.places in
      let qs = keep_at (kept c) ps in
      let cs = certificates_bytes c in
      let ds = certificates_bytes (pruned c) in
      omega (
        arith,
        length-append (front ++ (length ps ∷ flat_map place_bytes ps)) cs,
        length-append (front ++ (length qs ∷ flat_map place_bytes qs)) ds,
        length-append front (length ps ∷ flat_map place_bytes ps),
        length-append front (length qs ∷ flat_map place_bytes qs),
        certificates-length c.head.is_new (kept c) c.certificates,
        places-length n ps limits.head.places,
        places-length n qs (every_kept (PlaceInLimits n) (kept c) ps limits.head.places),
      )

  -- it is never longer
  pub pruned-shorter : length (bytes_of (pruned c)) ≤ length (bytes_of c)
  unfolding pruned
  pruned-shorter = omega (arith, pruned-length, mul-le-mul_right (2 * place_size c.head.events) (keep_at-most (kept c) c.head.places))

  pub pruned-limits : InLimits (pruned c)
  unfolding pruned
  pruned-limits = record {
    head = pruned-head c limits;
    row_count = limits.row_count;
    certificates = renumbered-limits c limits c.certificates (λ x m. m) limits.certificates;
    size = omega (arith, limits.size, pruned-shorter);
  }

-- ---- doing it twice

module _ (c : Contents) (limits : InLimits c) where
  -- each place that stays is named
  pub stays-named : (i : ℕ) → i < length (pruned c).head.places → named (pruned c).certificates i ≡ true
  unfolding pruned renumbered
  stays-named i h =
      let (j, inside, passes, is) = keep_at-from (kept c) c.head.places i h in
      subst (λ (k : ℕ). named (pruned c).certificates k ≡ true) is
      (named-member (pruned c).certificates (rank (kept c) j) (Memᴰ.map (renumbered (kept c)) (named→ c.certificates j passes)))

  renumbered-again : (cs : List CertificateFields) → ((x : CertificateFields) → Memᴰ x cs → Memᴰ x c.certificates)
      → map (renumbered (named (pruned c).certificates)) (map (renumbered (kept c)) cs) ≡ map (renumbered (kept c)) cs
  unfolding renumbered pruned
  renumbered-again [] of = refl
  renumbered-again (kind0 j ∷ cs) of =
      let m = of (kind0 j) (Memᴰ.head refl) in
      let there : rank (kept c) j < length (keep_at (kept c) c.head.places) =
      (keep_at-at (kept c) c.head.places j (record { initial = 0; produced = []; consumed = [] }) (named-member c.certificates j m) (named-there c limits j m)).0 in
      ap₂ ◌∷◌ (ap kind0 (rank-all (named (pruned c).certificates) (rank (kept c) j) (λ i h. stays-named i (omega (arith, there)))))
      (renumbered-again cs (λ x n. of x (Memᴰ.tail n)))
  renumbered-again (kind1 w ∷ cs) of = ap (λ (l : List CertificateFields). kind1 w ∷ l) (renumbered-again cs (λ x n. of x (Memᴰ.tail n)))

  -- equals doing it once
  pub pruned-twice : pruned (pruned c) ≡ pruned c
  unfolding pruned
  pruned-twice = ap₂ (λ (ps : List PlaceFields) (cs : List CertificateFields). record { head = head_with c.head ps; certificates = cs })
      (keep_at-all (named (pruned c).certificates) (keep_at (kept c) c.head.places) stays-named)
      (renumbered-again c.certificates (λ x m. m))
