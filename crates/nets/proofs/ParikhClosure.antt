-- The Parikh closure of Badouel and Schlachter, section 3.1.1: every net that permits a log permits the log's Parikh closure, and our wrong
-- continuations are the separation problems of that closure.
use Rattle.std.specs.Prelude.{◌≡◌, refl, ◌↔◌, ℕ, ◌<◌, T, pos, ◌≤ℤ◌}
use Rattle.std.proofs.Common.{sym, ap, ◌∙◌, subst}
use mathlib.Core.Logic.Iff
use mathlib.Core.List.{[], ◌∷◌, ◌++◌, Memᴰ}
use Rattle.laws.specs.Every.{EachAfter, each_snoc, each-shorter, each_last, each_carries}
use Rattle.nets.specs.Nets.{Word, Log, Counts, Net, Place, Step, counts, step_after, permits, wrong_continuations}
use Rattle.nets.specs.Words.{Prefix, PermitsLog}
use Rattle.nets.specs.Fits.{below-empty, below-shorter, below_snoc, LogBelow}
use Rattle.nets.specs.CountLaws.{counts_snoc}
use Rattle.nets.specs.TokenGame.{Places, places_of, Language, language_of, PlacesPermit}
use Rattle.nets.proofs.TokenGame.{language_snoc, language_permits}
use Rattle.nets.specs.Regions.{◌⊆◌, PrefixClosed, product, Constraint, Region}
use Rattle.nets.proofs.Regions.{language_closed, prefixes-closed, constraint_below, equation_4, log_language}
use Rattle.nets.specs.SeparationProblems.{SeparationProblem}
use Rattle.nets.proofs.SeparationProblems.{wrong_problem}
use Rattle.nets.specs.ParikhClosure.{ParikhClosed, plus, PathFrom, parikh_closure}

-- (7): p is in N(L) exactly when c · p ≥ 0 for each c in L^C, by definition; of a log, `region_fits`
pub equation_7 : (n : ℕ) (L : Language) (p : Place) → Region n L p ↔ ((s : Step) → Constraint n L s → pos 0 ≤ℤ product n p s)
equation_7 n L p = Iff.rfl

-- ---- Parikh-closed languages

-- a language is, where the Parikh vector of w and the event say whether w·e is in it
parikh_by : (n : ℕ) (L : Language) (P : Step → Type 0) → PrefixClosed n L
    → ((w : Word) (e : ℕ) → L (w ++ e ∷ []) ↔ (L w × (e < n) × P (step_after n w e))) → ParikhClosed n L
parikh_by n L P closed next = record { closed = closed; same = λ w w' m m' q e below. (one_way w w' m' q e, one_way w' w m (sym q) e) }
  where
    one_way : (w w' : Word) → L w' → counts n w ≡ counts n w' → (e : ℕ) → L (w ++ e ∷ []) → L (w' ++ e ∷ [])
    one_way w w' m' q e h = let r = (next w e).0 h in (next w' e).1 (m', r.1, subst (λ (v : Counts). P (record { row = v; event = e })) q r.2)

-- the language of a net is, by equation (1)
pub language_parikh : (n : ℕ) (N : Places) → ParikhClosed n (language_of n N)
language_parikh n N = parikh_by n (language_of n N) (PlacesPermit n N) (language_closed n N) (language_snoc n N)

-- L^C and L^SP of a Parikh-closed language are disjoint
pub parikh_disjoint : (n : ℕ) (L : Language) → ParikhClosed n L → (s : Step) → Constraint n L s → SeparationProblem n L s → ⊥
parikh_disjoint n L parikh s c q = q.4 ((parikh.same c.0 q.0 c.1 q.1 (c.2 ∙ sym q.2) s.event q.3).0 c.3)

-- ---- The Parikh closure

module _ (n : ℕ) (L : Language) (closed : PrefixClosed n L) where
  -- a transition by e from the state Ψ(u)
  abbrev Next : Word → ℕ → Type 0
  Next u e = Constraint n L (step_after n u e)

  next_state : (u : Word) (e : ℕ) → Next u e → counts n (u ++ e ∷ []) ≡ plus (counts n u) e
  next_state u e c = counts_snoc n u e (constraint_below n L closed (step_after n u e) c)

  -- after the events of u a path is in the state Ψ(u)
  path_each : (w u : Word) → PathFrom n L (counts n u) w ↔ EachAfter Next u w
  path_each [] u = Iff.rfl
  path_each (e ∷ w) u =
      let r = path_each w (u ++ e ∷ []) in (
        (λ h. (h.0, r.0 (subst (λ (v : Counts). PathFrom n L v w) (sym (next_state u e h.0)) h.1))),
        λ h. (h.0, subst (λ (v : Counts). PathFrom n L v w) (next_state u e h.0) (r.1 h.1)),
      )

  closure_snoc : (w : Word) (e : ℕ) → parikh_closure n L (w ++ e ∷ []) ↔ (parikh_closure n L w × (e < n) × Next w e)
  closure_snoc w e = (to, from)
    where
      to : parikh_closure n L (w ++ e ∷ []) → parikh_closure n L w × (e < n) × Next w e
      to h =
          let below = (below_snoc n w e).0 h.0 in
          let path = (each_snoc Next w e).0 ((path_each (w ++ e ∷ []) []).0 h.1) in
          ((below.0, (path_each w []).1 path.0), below.1, path.1)

      from : parikh_closure n L w × (e < n) × Next w e → parikh_closure n L (w ++ e ∷ [])
      from h = ((below_snoc n w e).1 (h.0.0, h.1), (path_each (w ++ e ∷ []) []).1 ((each_snoc Next w e).1 ((path_each w []).0 h.0.1, h.2)))

  pub closure_closed : PrefixClosed n (parikh_closure n L)
  closure_closed = record {
    events = λ w h. h.0;
    empty = (below-empty n, tt);
    shorter = λ u s h. (below-shorter n u s h.0, (path_each u []).1 (each-shorter _ u s ((path_each (u ++ s) []).0 h.1)));
  }

  -- it is the least Parikh-closed language that contains L
  pub closure_parikh : ParikhClosed n (parikh_closure n L)
  closure_parikh = parikh_by n (parikh_closure n L) (Constraint n L) closure_closed closure_snoc

  pub closure_contains : L ⊆ parikh_closure n L
  closure_contains w m =
      let path = (each_last Next L closed.shorter).1 (λ u e k. (u, closed.shorter u (e ∷ []) k, refl, k)) w m in
      (closed.events w m, (path_each w []).1 path)

  pub closure_least : (K : Language) → ParikhClosed n K → L ⊆ K → parikh_closure n L ⊆ K
  closure_least K parikh inside w h = each_carries Next K step w [] (inside [] closed.empty) ((path_each w []).0 h.1)
    where
      step : (u : Word) (e : ℕ) → K u → Next u e → K (u ++ e ∷ [])
      step u e k c =
          let below = constraint_below n L closed (step_after n u e) c in
          (parikh.same c.0 u (inside c.0 c.1) k c.2 e below).0 (inside (c.0 ++ e ∷ []) c.3)

  -- its states are the Parikh vectors of words of L
  closure_state : (w : Word) → parikh_closure n L w → (u : Word) × L u × (counts n u ≡ counts n w)
  closure_state w h = each_carries Next State step w [] ([], closed.empty, refl) ((path_each w []).0 h.1)
    where
      State : Word → Type 0
      State x = (u : Word) × L u × (counts n u ≡ counts n x)

      step : (u : Word) (e : ℕ) → State u → Next u e → State (u ++ e ∷ [])
      step u e i c =
          let there = next_state c.0 e (c.0, c.1, refl, c.3) in
          (c.0 ++ e ∷ [], c.3, there ∙ ap (λ (v : Counts). plus v e) c.2 ∙ sym (next_state u e c))

  -- L^C = (L^Ψ)^C, so N(L) = N(L^Ψ)
  pub closure_constraint : (s : Step) → Constraint n (parikh_closure n L) s ↔ Constraint n L s
  closure_constraint s = (
    (λ c. subst (λ (v : Counts). Constraint n L (record { row = v; event = s.event })) c.2 ((closure_snoc c.0 s.event).0 c.3).2),
    λ c. (c.0, closure_contains c.0 c.1, c.2, closure_contains (c.0 ++ s.event ∷ []) c.3),
  )

  pub closure_region : (p : Place) → Region n (parikh_closure n L) p ↔ Region n L p
  closure_region p = ((λ r s c. r s ((closure_constraint s).1 c)), λ r s c. r s ((closure_constraint s).0 c))

  -- L^Ψ ⊆ L(N) for every net with L ⊆ L(N), by (4)
  pub closure_permitted : (N : Places) → L ⊆ language_of n N → parikh_closure n L ⊆ language_of n N
  closure_permitted N h = (equation_4 n (parikh_closure n L) closure_closed N).1 (λ p m. (closure_region p).1 ((equation_4 n L closed N).0 h p m))

-- ---- Of a log

module _ (n : ℕ) (log : Log) (below : LogBelow n log) where
  closed : PrefixClosed n (Prefix log)
  closed = prefixes-closed n log below

  -- every net that permits the log permits its Parikh closure
  pub log_closure_permitted : (net : Net) → PermitsLog n net log → (w : Word) → parikh_closure n (Prefix log) w → T (permits n net w)
  log_closure_permitted net h w m =
      (language_permits n net w m.0).0 (closure_permitted n (Prefix log) closed (places_of net) ((log_language n log below net).0 h) w m)

  -- the wrong continuations are the separation problems of the Parikh closure
  pub wrong_closure_problem : (s : Step) → Memᴰ s (wrong_continuations n log) ↔ SeparationProblem n (parikh_closure n (Prefix log)) s
  wrong_closure_problem s = (to, from)
    where
      to : Memᴰ s (wrong_continuations n log) → SeparationProblem n (parikh_closure n (Prefix log)) s
      to m =
          let r = (wrong_problem n log s).0 m in
          let q = r.0 in
          let inside = closure_contains n (Prefix log) closed q.0 q.1 in
          (q.0, inside, q.2, q.3, λ k. r.1 ((closure_constraint n (Prefix log) closed s).0 (q.0, inside, q.2, k)))

      from : SeparationProblem n (parikh_closure n (Prefix log)) s → Memᴰ s (wrong_continuations n log)
      from q =
          let u = closure_state n (Prefix log) closed q.0 q.1 in
          let disjoint = parikh_disjoint n (parikh_closure n (Prefix log)) (closure_parikh n (Prefix log) closed) s in
          let none : Constraint n (Prefix log) s → ⊥ = λ c. disjoint ((closure_constraint n (Prefix log) closed s).1 c) q in
          let is = u.2 ∙ q.2 in
          (wrong_problem n log s).1 ((u.0, u.1, is, q.3, λ k. none (u.0, u.1, is, k)), none)
