-- What a certificate shows. The main law, `weights-permit`: where a kind 1 certificate holds for a step, every place that fits the log and
-- obeys its completed words, with whole numbers of any size, permits that step.
use Rattle.std.specs.Prelude.{◌≡◌, Bool, cond, get_or}
use Rattle.std.proofs.Math.Path.{refl, ap}
use Rattle.std.proofs.Common.{sym, subst, ⊎_elim, T_not}
use Rattle.std.proofs.Math.Bool.{true, false, not}
use mathlib.Core.List.Memᴰ
use mathlib.Core.List.{List, [], ◌∷◌, Memᴰ}
use Prim.Native.Nat.{ℕ, zero, suc, ◌<◌}
use Rattle.std.proofs.Math.Dec.{T, leb→le}
use Rattle.std.proofs.Math.ListN.{length}
use Rattle.std.specs.Int.Signed.{le_z_yes}
use Rattle.std.specs.Float.Ieee.Fits.{and_l, and_r}
use Rattle.laws.specs.Every.{Every}
use Rattle.laws.specs.Lists.{all-member, all_intro, keep, tabulate, tabulate-member}
use Rattle.nets.specs.Nets.{Entry, no_entry, Net, Place, Step, words, completed_words, weighed, place_permits, net_permits, allowed, refused_by}
use Rattle.nets.specs.Bundle.{Term, Pair, Weights, Certificate, by_place, by_weights, weight_of, names_completed, pair_counts, weighs_before, weighs_after, weights_hold, solves, solves_all, is_by_place}
use Rattle.nets.specs.Words.{PermitsLog, Obeys}
use Rattle.nets.specs.Entries.{Returns, NoneCompleted}
use Rattle.nets.proofs.Entries.{named-completed, net-returns, none-word}
use Rattle.nets.specs.Fits.{Fits, net-fits}
use Rattle.nets.specs.Weights.{Weighs, weighed-permits}

module _ (n : ℕ) (entries : List Entry) (s : Step) (w : Weights) (h : T (weights_hold n entries s w)) where
  pub terms-allowed : (t : Term) → Memᴰ t w.terms → T (allowed n (words entries) t.step)
  unfolding weights_hold
  terms-allowed t m = all-member (λ t. allowed n (words entries) t.step) w.terms (search (and_l, and_r)) m

  pub pairs-completed : (q : Pair) → Memᴰ q w.pairs → T (names_completed n entries q)
  unfolding weights_hold
  pairs-completed q m = all-member (names_completed n entries) w.pairs (search (and_l, and_r)) m

  pub weighs : Weighs n entries s w
  unfolding weights_hold weighs_before weighs_after
  weighs = record {
    positive = leb→le 1 w.k (search (and_l, and_r));
    total = leb→le (weighed weight_of (λ t. 1) w.terms) w.k (search (and_l, and_r));
    before = λ i b.
        le_z_yes (all-member (weighs_before n entries s w) (tabulate n (λ j. j)) (search (and_l, and_r)) (tabulate-member n (λ j. j) i b));
    after = λ i b.
        le_z_yes (all-member (weighs_after n entries s w) (tabulate n (λ j. j)) (search (and_l, and_r)) (tabulate-member n (λ j. j) i b));
  }

  pub weights-permit : s.event < n → (p : Place) → Fits n (words entries) p → Returns n (completed_words entries) p → T (place_permits n p s)
  unfolding pair_counts
  weights-permit b p fits returns =
      weighed-permits n entries p w weighs b (λ t m. fits t.step (terms-allowed t m))
      (λ q m. returns (get_or entries q.number no_entry).word (named-completed n entries q (pairs-completed q m)))

  -- and so does every net that permits the log and obeys its completed words
  pub weights-net : s.event < n → (net : Net) → PermitsLog n net (words entries) → Obeys n net (completed_words entries) → T (net_permits n net s)
  unfolding net_permits
  weights-net b net permitted obeyed = all_intro (λ p. place_permits n p s) net (λ p m.
      weights-permit b p (net-fits n net (words entries) permitted p m) ((net-returns n net (completed_words entries)).0 obeyed p m))

  -- without completed words, as in a bundle of the old edition, every place that fits does
  pub old-weights-permit : NoneCompleted entries → s.event < n → (p : Place) → Fits n (words entries) p → T (place_permits n p s)
  old-weights-permit none b p fits = weights-permit b p fits (λ u m. absurd (none-word entries none u m))

-- a kind 0 certificate: a place of the net that refuses the step
pub refusing : (n : ℕ) (net : Net) (j : ℕ) (s : Step) → T (refused_by n net j s) → (p : Place) × Memᴰ p net × T (not (place_permits n p s))
unfolding refused_by
refusing n [] j s r = absurd r
refusing n (p ∷ net) zero s r = (p, Memᴰ.head refl, r)
refusing n (p ∷ net) (suc j) s r = let q = refusing n net j s r in (q.0, Memᴰ.tail q.1, q.2)

pub refused→ : (n : ℕ) (net : Net) (j : ℕ) (s : Step) → T (refused_by n net j s) → T (net_permits n net s) → ⊥
unfolding net_permits
refused→ n net j s r t = let q = refusing n net j s r in T_not (place_permits n q.0 s) q.2 (all-member (λ p. place_permits n p s) net t q.1)

-- the kind of a certificate that solves a step is 0 exactly when the net refuses the step
module _ (n : ℕ) (entries : List Entry) (net : Net)
    (permitted : PermitsLog n net (words entries)) (obeyed : Obeys n net (completed_words entries)) where
  pub kind-of : (s : Step) → s.event < n → (c : Certificate) → T (solves n entries net s c) → is_by_place c ≡ not (net_permits n net s)
  unfolding solves is_by_place
  kind-of s b (by_place j) t = go (net_permits n net s) (refused→ n net j s t)
    where
      go : (x : Bool) → (T x → ⊥) → true ≡ not x
      go true f = absurd (f tt)
      go false f = refl
  kind-of s b (by_weights w) t = go (net_permits n net s) (weights-net n entries s w t b net permitted obeyed)
    where
      go : (x : Bool) → T x → false ≡ not x
      go true u = refl
      go false u = absurd u

  -- so the certificates of a kind are as many as the steps that the net refuses, or permits
  pub kinds : (f : Bool → Bool) (ss : List Step) → ((s : Step) → Memᴰ s ss → s.event < n) → (cs : List Certificate)
      → T (solves_all n entries net ss cs) → length (keep (λ c. f (is_by_place c)) cs) ≡ length (keep (λ s. f (not (net_permits n net s))) ss)
  unfolding solves_all keep
  kinds f [] bound [] t = refl
  kinds f [] bound (c ∷ cs) t = absurd t
  kinds f (s ∷ ss) bound [] t = absurd t
  kinds f (s ∷ ss) bound (c ∷ cs) t =
      let first = and_l (solves n entries net s c) (solves_all n entries net ss cs) t in
      let rest = and_r (solves n entries net s c) (solves_all n entries net ss cs) t in
      rw (kind-of s (bound s (Memᴰ.head refl)) c first) (go (f (not (net_permits n net s))) (kinds f ss (λ x m. bound x (Memᴰ.tail m)) cs rest))
    where
      go : (x : Bool) → length (keep (λ c. f (is_by_place c)) cs) ≡ length (keep (λ s. f (not (net_permits n net s))) ss)
          → length (cond x (c ∷ keep (λ c. f (is_by_place c)) cs) (keep (λ c. f (is_by_place c)) cs)) ≡ length (cond x (s ∷ keep (λ s. f (not (net_permits n net s))) ss) (keep (λ s. f (not (net_permits n net s))) ss))
      go true e = ap suc e
      go false e = e

pub certificate_for : (n : ℕ) (entries : List Entry) (net : Net) (ss : List Step) (cs : List Certificate)
    → T (solves_all n entries net ss cs) → (s : Step) → Memᴰ s ss → (c : Certificate) × T (solves n entries net s c)
unfolding solves_all
certificate_for n entries net [] cs t s m = absurd (Memᴰ.not-nil m)
certificate_for n entries net (x ∷ ss) [] t s m = absurd t
certificate_for n entries net (x ∷ ss) (c ∷ cs) t s m =
    let first = and_l (solves n entries net x c) (solves_all n entries net ss cs) t in
    let rest = and_r (solves n entries net x c) (solves_all n entries net ss cs) t in
    ⊎_elim (λ e. (c, subst (λ (y : Step). T (solves n entries net y c)) (sym e) first))
    (λ k. certificate_for n entries net ss cs rest s k) (Memᴰ.cases_cons m)

-- ---- where no word is completed

-- a certificate without pairs
abbrev pub WithoutPairs : Certificate → Type 0
WithoutPairs (by_place j) = Unit {0}
WithoutPairs (by_weights w) = w.pairs ≡ []

module _ (n : ℕ) (entries : List Entry) (none : NoneCompleted entries) (net : Net) where
  -- one that solves a step, since a pair names a completed word
  solves-unpaired : (s : Step) (c : Certificate) → T (solves n entries net s c) → WithoutPairs c
  unfolding solves
  solves-unpaired s (by_place j) t = tt
  solves-unpaired s (by_weights w) t = go w.pairs (pairs-completed n entries s w t)
    where
      go : (qs : List Pair) → ((q : Pair) → Memᴰ q qs → T (names_completed n entries q)) → qs ≡ []
      go [] named = refl
      go (q ∷ qs) named = absurd (none-word entries none _ (named-completed n entries q (named q (Memᴰ.head refl))))

  -- so each
  pub all-unpaired : (ss : List Step) (cs : List Certificate) → T (solves_all n entries net ss cs) → Every WithoutPairs cs
  unfolding solves_all
  all-unpaired [] [] t = tt
  all-unpaired [] (c ∷ cs) t = absurd t
  all-unpaired (s ∷ ss) [] t = absurd t
  all-unpaired (s ∷ ss) (c ∷ cs) t = (
    solves-unpaired s c (and_l (solves n entries net s c) (solves_all n entries net ss cs) t),
    all-unpaired ss cs (and_r (solves n entries net s c) (solves_all n entries net ss cs) t),
  )
