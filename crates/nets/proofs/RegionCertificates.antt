-- Acceptance in the terms of Badouel and Schlachter alone: each place is a sound region of the log, and each separation problem that is no
-- constraint is witnessed by the region that its certificate names, or has weights there, on constraints and completed words, that meet the
-- inequalities.
use Rattle.std.specs.Prelude.{refl, Bool, ◌↔◌, leb, length, get_or}
use Rattle.std.proofs.Common.{sym, not-suc-le-zero, le_of_suc-le-suc}
use Rattle.std.proofs.Math.Path.{subst}
use mathlib.Core.Logic.Iff
use mathlib.Core.List.{List, [], ◌∷◌, Memᴰ}
use Prim.Native.Nat.{ℕ, zero, suc, ◌<◌, zero-le, suc-le-suc}
use Rattle.std.proofs.Math.Dec.{T, le→leb}
use Rattle.std.specs.Float.Ieee.Fits.{and_i, and_l, and_r}
use Rattle.laws.specs.Booleans.{yes_true}
use Rattle.laws.specs.Every.{Pointwise}
use Rattle.laws.specs.Lists.{all, all_intro, tabulate, tabulate_inverse}
use Rattle.nets.specs.Nets.{Entry, Net, Step, no_place, words, weighed, allowed, refused_by, wrong_continuations}
use Rattle.nets.specs.Bundle.{Pair, Weights, Certificate, by_place, by_weights, Bundle, log_of, weight_of, names_completed, weighs_before, weighs_after, weights_hold, solves, solves_all, accepted}
use Rattle.nets.proofs.Rows.{continuation→, wrong→}
use Rattle.nets.specs.Fits.{LogBelow}
use Rattle.nets.proofs.Certificates.{terms-allowed, pairs-completed, weighs}
use Rattle.nets.specs.Words.{Prefix}
use Rattle.nets.specs.Entries.{NoneCompleted}
use Rattle.nets.proofs.Entries.{named-inside}
use Rattle.nets.specs.TokenGame.{places_of}
use Rattle.nets.specs.Regions.{◌⊆◌, Region}
use Rattle.nets.specs.Acceptance.{accepted-parts}
use Rattle.nets.proofs.Regions.{constraint_allowed}
use Rattle.nets.proofs.Completed.{old-sound, sound-net}
use Rattle.nets.specs.SeparationProblems.{Witnesses}
use Rattle.nets.proofs.SeparationProblems.{witnesses-refuses}
use Rattle.nets.specs.RegionCertificates.{NamesWord, WeightsMeet, Certifies, ByRegions}

module _ (n : ℕ) (entries : List Entry) where
  refused_witnessed : (net : Net) (j : ℕ) (s : Step) → s.event < n
      → T (refused_by n net j s) ↔ ((j < length net) × Witnesses n (get_or net j no_place) s)
  unfolding refused_by
  refused_witnessed [] j s below = ((λ t. absurd t), λ h. absurd (not-suc-le-zero h.0))
  refused_witnessed (p ∷ net) zero s below =
      let one = witnesses-refuses n p s below in ((λ t. (suc-le-suc zero-le, one.1 t)), λ h. one.0 h.1)
  refused_witnessed (p ∷ net) (suc j) s below =
      let rest = refused_witnessed net j s below in
      ((λ t. let q = rest.0 t in (suc-le-suc q.0, q.1)), λ h. rest.1 (le_of_suc-le-suc h.0, h.1))

  names-word : (q : Pair) → T (names_completed n entries q) ↔ NamesWord n entries q
  unfolding names_completed
  names-word q = ((λ t. (named-inside n entries q t, yes_true _ t)), λ h. subst T (sym h.1) tt)

  weights_meet : (s : Step) (w : Weights) → T (weights_hold n entries s w) ↔ WeightsMeet n entries s w
  unfolding weights_hold weighs_before weighs_after
  weights_meet s w = (to, from)
    where
      to : T (weights_hold n entries s w) → WeightsMeet n entries s w
      to h = record {
        constraints = λ t m. (constraint_allowed n (words entries) t.step).1 (terms-allowed n entries s w h t m);
        completed = λ q m. (names-word q).0 (pairs-completed n entries s w h q m);
        inequalities = weighs n entries s w h;
      }

      each : (f : ℕ → Bool) → ((i : ℕ) → i < n → T (f i)) → T (all f (tabulate n (λ i. i)))
      each f h = all_intro f (tabulate n (λ i. i)) (λ i k.
          let r = tabulate_inverse n (λ i. i) k in subst (λ (x : ℕ). T (f x)) (sym r.2) (h r.0 r.1))

      from : WeightsMeet n entries s w → T (weights_hold n entries s w)
      from m =
          let first : T (leb 1 w.k) = le→leb 1 w.k m.inequalities.positive in
          let steps : T (all (λ t. allowed n (words entries) t.step) w.terms) = all_intro (λ t. allowed n (words entries) t.step) w.terms
          (λ t k. (constraint_allowed n (words entries) t.step).0 (m.constraints t k)) in
          let pairs : T (all (names_completed n entries) w.pairs) =
          all_intro (names_completed n entries) w.pairs (λ q k. (names-word q).1 (m.completed q k)) in
          let total : T (leb (weighed weight_of (λ t. 1) w.terms) w.k) = le→leb _ w.k m.inequalities.total in
          let before = each (weighs_before n entries s w) (λ i b. (m.inequalities.before i b).le) in
          let after = each (weighs_after n entries s w) (λ i b. (m.inequalities.after i b).le) in
          search and_i

  pub solves_certifies : (net : Net) (s : Step) → s.event < n → (c : Certificate) → T (solves n entries net s c) ↔ Certifies n entries net s c
  unfolding solves
  solves_certifies net s below (by_place j) = refused_witnessed net j s below
  solves_certifies net s below (by_weights w) = weights_meet s w

  all-certified : (net : Net) (ss : List Step) → ((s : Step) → Memᴰ s ss → s.event < n) → (cs : List Certificate)
      → T (solves_all n entries net ss cs) ↔ Pointwise (Certifies n entries net) ss cs
  unfolding solves_all
  all-certified net [] below [] = ((λ t. tt), λ h. tt)
  all-certified net [] below (c ∷ cs) = ((λ t. absurd t), λ h. absurd h)
  all-certified net (s ∷ ss) below [] = ((λ t. absurd t), λ h. absurd h)
  all-certified net (s ∷ ss) below (c ∷ cs) =
      let one = solves_certifies net s (below s (Memᴰ.head refl)) c in
      let rest = all-certified net ss (λ x m. below x (Memᴰ.tail m)) cs in
      let p = solves n entries net s c in
      let q = solves_all n entries net ss cs in
      ((λ t. (one.0 (and_l p q t), rest.0 (and_r p q t))), λ h. and_i p q (one.1 h.0) (rest.1 h.1))

pub accepted-regions : (b : Bundle) → LogBelow b.events (log_of b) → T (accepted b) ↔ ByRegions b
accepted-regions b below =
    let places = sound-net b.events b.entries below b.net in
    let solved = all-certified b.events b.entries b.net (wrong_continuations b.events (log_of b)) event b.certificates in
    Iff.trans (accepted-parts b) (
      (λ a. record { regions = places.0 (a.permitted, a.obeyed); certified = solved.0 a.solved }),
      λ r. let net = places.1 r.regions in record { permitted = net.0; obeyed = net.1; solved = solved.1 r.certified },
    )
  where
    event : (s : Step) → Memᴰ s (wrong_continuations b.events (log_of b)) → s.event < b.events
    event s m = (continuation→ b.events (log_of b) s (wrong→ b.events (log_of b) s m).0).1

-- without completed words, as in a bundle of the old edition: of all regions
pub old-regions : (b : Bundle) → NoneCompleted b.entries → ByRegions b
    ↔ ((places_of b.net ⊆ Region b.events (Prefix (log_of b)))
    × Pointwise (Certifies b.events b.entries b.net) (wrong_continuations b.events (log_of b)) b.certificates)
old-regions b none =
    let sound = old-sound b.events b.entries none in (
      (λ r. ((λ p m. (sound p).0 (r.regions p m)), r.certified)),
      λ h. record { regions = λ p m. (sound p).1 (h.0 p m); certified = h.1 },
    )
