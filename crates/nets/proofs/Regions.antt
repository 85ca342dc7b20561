-- The regions of Badouel and Schlachter, section 2.2 and of 2.3 what is about single places, by their equation numbers, and that a place fits a log
-- exactly when it is a region of it. Their section 2.1 is in TokenGame.antt, 2.3 in SeparationProblems.antt, 3.1.1 in ParikhClosure.antt,
-- 3.1.2 in Completed.antt.
use Rattle.std.specs.Prelude.{◌≡◌, refl, ◌↔◌, [], ◌∷◌, ◌++◌, ℕ, ◌+◌, ◌*◌, ◌<◌, ℤ, neg_ℤ, ◌+ℤ◌, ◌-ℤ◌, ◌*ℤ◌, ◌≤ℤ◌}
use Rattle.std.proofs.Math.Path.{sym, ap, ap₂, subst}
use Rattle.std.proofs.Common.{◌∙◌}
use mathlib.Core.Logic.Iff
use mathlib.Core.List.Memᴰ
use Rattle.std.proofs.Math.Dec.{T}
use Rattle.std.proofs.Math.IntN.{pos, sub_ℕ, neg_ℤ-+ℤ}
use Rattle.std.specs.Int.Signed.{non_neg}
use Rattle.laws.specs.Differences.{difference, non_neg_le, sumℤ-same, sumℤ_pos, sumℤ_neg, neg_mul}
use Rattle.laws.specs.Every.{each-shorter, each_last}
use Rattle.laws.specs.Lists.{all-member, all_intro}
use Rattle.nets.specs.Nets.{Word, Log, Counts, Place, Net, Step, at, same, step_after, surplus, place_permits, allowed, allowed_steps, fits}
use Rattle.nets.specs.Words.{Prefix, empty-prefix, word-prefix, prefix-shorter, PermitsLog, EveryNetPermits, →permits_log, permits-prefix, allowed→, →allowed}
use Rattle.nets.proofs.Rows.{allowed_step→}
use Rattle.nets.specs.Fits.{Below, below-empty, below-shorter, below_snoc, LogBelow, prefix-below, Fits}
use Rattle.nets.proofs.Fits.{allowed-listed}
use Rattle.nets.specs.Surplus.{given, surplus-is}
use Rattle.nets.specs.Weights.{needed, needed-sum, needed-is}
use Rattle.nets.specs.TokenGame.{Places, places_of, Language, language_of, PlacesPermit}
use Rattle.nets.proofs.TokenGame.{language_snoc, language_each, language_permits}
use Rattle.nets.specs.Regions.{◌⊆◌, PrefixClosed, product, Constraint, Region}

-- ---- 2.2: prefix-closed languages

-- the language of a net is one (2.1)
pub language_closed : (n : ℕ) (N : Places) → PrefixClosed n (language_of n N)
language_closed n N = record {
  events = λ w h. h.0;
  empty = (below-empty n, tt);
  shorter = λ u s h. (below-shorter n u s h.0, each-shorter _ u s h.1);
}

-- and so are the prefixes of a log
pub prefixes-closed : (n : ℕ) (log : Log) → LogBelow n log → PrefixClosed n (Prefix log)
prefixes-closed n log below = record { events = prefix-below n log below; empty = empty-prefix log; shorter = prefix-shorter log }

-- ---- 2.2: the product ⟨v, e⟩ · p

negative : (a b c : ℕ) → (neg_ℤ (pos a) -ℤ pos b) *ℤ pos c ≡ neg_ℤ (pos ((a + b) * c))
negative a b c = ap (λ (z : ℤ). z *ℤ pos c) (sym (neg_ℤ-+ℤ (pos a) (pos b))) ∙ neg_mul (a + b) c

module _ (n : ℕ) (p : Place) (s : Step) (below : s.event < n) where
  -- it is the surplus
  pub product-surplus : product n p s ≡ surplus n p s
  unfolding product needed-sum needed given
  product-surplus =
      ap₂ (λ (a b : ℤ). pos p.initial +ℤ a +ℤ b)
      (sumℤ_pos n (λ i. at s.row i * p.produced i))
      (sumℤ-same n _ _ (λ i b. negative (at s.row i) (same s.event i) (p.consumed i))
      ∙ sumℤ_neg n (λ i. (at s.row i + same s.event i) * p.consumed i))
      ∙ difference (given n p s.row) (needed-sum n p s)
      ∙ ap (λ (k : ℕ). sub_ℕ (given n p s.row) k) (sym (needed-is n p s below))
      ∙ sym (surplus-is n p s)

  -- so a place permits a step exactly when the product is 0 or more
  pub product-permits : (pos 0 ≤ℤ product n p s) ↔ T (place_permits n p s)
  unfolding place_permits
  product-permits = subst (λ (z : ℤ). (pos 0 ≤ℤ product n p s) ↔ T (non_neg z)) product-surplus (non_neg_le (product n p s))

-- w·e is in L(N) exactly when w is, and ⟨Ψ(w), e⟩ · p ≥ 0 for each place p of N (2.3 says it of one place)
pub language_product : (n : ℕ) (N : Places) (w : Word) (e : ℕ)
    → language_of n N (w ++ e ∷ []) ↔ (language_of n N w × (e < n) × ((p : Place) → N p → pos 0 ≤ℤ product n p (step_after n w e)))
language_product n N w e =
    let r = language_snoc n N w e in (
      (λ h. let q = r.0 h in (q.0, q.1, λ p m. (product-permits n p (step_after n w e) q.1).1 (q.2 p m))),
      λ q. r.1 (q.0, q.1, λ p m. (product-permits n p (step_after n w e) q.1).0 (q.2 p m)),
    )

-- ---- 2.2: constraints and regions

module _ (n : ℕ) (L : Language) (closed : PrefixClosed n L) where
  last-below : (w : Word) (e : ℕ) → L (w ++ e ∷ []) → e < n
  last-below w e m = ((below_snoc n w e).0 (closed.events (w ++ e ∷ []) m)).1

  pub constraint_below : (s : Step) → Constraint n L s → s.event < n
  constraint_below s c = last-below c.0 s.event c.3

  module _ (N : Places) where
    -- (2)
    pub equation_2 : (L ⊆ language_of n N) ↔ ((w : Word) (e : ℕ) → L (w ++ e ∷ []) → (p : Place) → N p → pos 0 ≤ℤ product n p (step_after n w e))
    equation_2 = (
      (λ h w e m. ((language_product n N w e).0 (h (w ++ e ∷ []) m)).2),
      λ h w m. (language_each n N w).1 (closed.events w m, (each_last _ L closed.shorter).1 (permit h) w m),
    )
      where
        permit : ((w : Word) (e : ℕ) → L (w ++ e ∷ []) → (p : Place) → N p → pos 0 ≤ℤ product n p (step_after n w e))
            → (w : Word) (e : ℕ) → L (w ++ e ∷ []) → PlacesPermit n N (step_after n w e)
        permit h w e m p k = (product-permits n p (step_after n w e) (last-below w e m)).0 (h w e m p k)

    -- (3)
    pub equation_3 : (L ⊆ language_of n N) ↔ ((p : Place) → N p → (s : Step) → Constraint n L s → pos 0 ≤ℤ product n p s)
    equation_3 = (
      (λ h p k s c. at_row p s c.2 (equation_2.0 h c.0 s.event c.3 p k)),
      λ h. equation_2.1 (λ w e m p k. h p k (step_after n w e) (w, closed.shorter w (e ∷ []) m, refl, m)),
    )
      where
        at_row : (p : Place) (s : Step) {v : Counts} → v ≡ s.row → pos 0 ≤ℤ product n p (record { row = v; event = s.event })
            → pos 0 ≤ℤ product n p s
        at_row p s q h = subst (λ (v : Counts). pos 0 ≤ℤ product n p (record { row = v; event = s.event })) q h

    -- (4), the Galois connection: in the terms of N(L), (3) is this
    pub equation_4 : (L ⊆ language_of n N) ↔ (N ⊆ Region n L)
    equation_4 = equation_3

  -- (5), an atomic net
  pub equation_5 : (p : Place) → (L ⊆ language_of n (places_of (p ∷ []))) ↔ Region n L p
  equation_5 p =
      let galois = equation_4 (places_of (p ∷ [])) in
      ((λ h. galois.0 h p (Memᴰ.head refl)), λ r. galois.1 (λ q m. subst (Region n L) (sym (Memᴰ.eq_of_singleton m)) r))

module _ (n : ℕ) where
  -- a place of a net is a region of the net's language (its extension)
  pub extension : (N : Places) → N ⊆ Region n (language_of n N)
  extension N = (equation_4 n (language_of n N) (language_closed n N) N).0 (λ w h. h)

  -- fewer places permit more
  pub language_fewer : (R N : Places) → R ⊆ N → language_of n N ⊆ language_of n R
  language_fewer R N fewer = (equation_4 n (language_of n N) (language_closed n N) R).1 (λ p r. extension N p (fewer p r))

  -- L(N(L)) is the least Petri net language that contains L (footnote 2)
  module _ (L : Language) (closed : PrefixClosed n L) where
    pub synthesized_contains : L ⊆ language_of n (Region n L)
    synthesized_contains = (equation_4 n L closed (Region n L)).1 (λ p r. r)

    pub synthesized_least : (N : Places) → L ⊆ language_of n N → language_of n (Region n L) ⊆ language_of n N
    synthesized_least N h = language_fewer N (Region n L) ((equation_4 n L closed N).0 h)

  -- L(N) is the intersection of the languages of its places (footnote 3)
  module _ (N : Places) where
    Intersection : Language
    Intersection w = Below n w × ((p : Place) → N p → language_of n (places_of (p ∷ [])) w)

    intersection_closed : PrefixClosed n Intersection
    unfolding Intersection
    intersection_closed = record {
      events = λ w h. h.0;
      empty = (below-empty n, λ p m. (language_closed n (places_of (p ∷ []))).empty);
      shorter = λ u s h. (below-shorter n u s h.0, λ p m. (language_closed n (places_of (p ∷ []))).shorter u s (h.1 p m));
    }

    pub language_places : (w : Word) → language_of n N w ↔ (Below n w × ((p : Place) → N p → language_of n (places_of (p ∷ [])) w))
    unfolding Intersection
    language_places w = (
      (λ h. (h.0, λ p m. language_fewer (places_of (p ∷ [])) N (λ q k. subst N (sym (Memᴰ.eq_of_singleton k)) m) w h)),
      (equation_4 n Intersection intersection_closed N).1 (λ p m. (equation_5 n Intersection intersection_closed p).0 (λ u h. h.1 p m)) w,
    )

-- ---- 2.2, of a log: L is the set of its prefixes

module _ (n : ℕ) (log : Log) where
  -- L^C has the allowed steps
  pub constraint_allowed : (s : Step) → Constraint n (Prefix log) s ↔ T (allowed n log s)
  constraint_allowed s = (
    (λ c. →allowed n log s (c.0, c.2, c.3)),
    λ t. let f = allowed→ n log s t in (f.0, prefix-shorter log f.0 (s.event ∷ []) f.2, f.1, f.2),
  )

  module _ (below : LogBelow n log) where
    closed : PrefixClosed n (Prefix log)
    closed = prefixes-closed n log below

    step-permits : (p : Place) (s : Step) → Constraint n (Prefix log) s → (pos 0 ≤ℤ product n p s) ↔ T (place_permits n p s)
    step-permits p s c = product-permits n p s (constraint_below n (Prefix log) closed s c)

    -- N(L) has the places that permit every allowed step, which are those that fit
    pub region_permits : (p : Place) → Region n (Prefix log) p ↔ Fits n log p
    region_permits p = (
      (λ r s t. let c = (constraint_allowed s).1 t in (step-permits p s c).0 (r s c)),
      λ f s c. (step-permits p s c).1 (f s ((constraint_allowed s).0 c)),
    )

    pub region_fits : (p : Place) → Region n (Prefix log) p ↔ T (fits n log p)
    unfolding fits
    region_fits p = (
      (λ r. all_intro (place_permits n p) (allowed_steps n log) (λ s m. (region_permits p).0 r s (allowed_step→ n log s m).1)),
      λ t. (region_permits p).1 (λ s a. all-member (place_permits n p) (allowed_steps n log) t (allowed-listed n log below s a)),
    )

    -- a net permits the log when L ⊆ L(N)
    pub log_language : (net : Net) → PermitsLog n net log ↔ (Prefix log ⊆ language_of n (places_of net))
    log_language net = (
      (λ h w m. (language_permits n net w (prefix-below n log below w m)).1 (permits-prefix n net log h w m)),
      λ h. →permits_log n net log (λ w m. (language_permits n net w (below w m)).0 (h w (word-prefix log w m))),
    )

    -- and that is when each of its places is a region of the log, by (3)
    pub log-regions : (net : Net) → PermitsLog n net log ↔ (places_of net ⊆ Region n (Prefix log))
    log-regions net = Iff.trans (log_language net) (equation_4 n (Prefix log) closed (places_of net))

    -- L(N(L)) has the words that every net permits which permits the log
    pub every_net : (w : Word) → Below n w → language_of n (Region n (Prefix log)) w ↔ EveryNetPermits n log w
    every_net w ok = (
      (λ h net k. (language_permits n net w ok).0 (synthesized_least n (Prefix log) closed (places_of net) ((log_language net).0 k) w h)),
      λ h. (language_places n (Region n (Prefix log)) w).1 (ok, λ p r. (language_permits n (p ∷ []) w ok).1 (h (p ∷ []) (one p r))),
    )
      where
        one : (p : Place) → Region n (Prefix log) p → PermitsLog n (p ∷ []) log
        one p r = (log_language (p ∷ [])).1 ((equation_5 n (Prefix log) closed p).1 r)
