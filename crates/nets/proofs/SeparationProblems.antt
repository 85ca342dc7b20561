-- The separation problems of Badouel and Schlachter, section 2.3, and that the net of an accepted bundle is a complete set of sound regions.
-- The difference to our wrong continuations: theirs go by words, ours by counts, so that a problem whose counts are followed by its event
-- elsewhere is none of ours. No region solves such a problem, so complete sets of regions are the same (`complete_wrong`).
use Rattle.std.specs.Prelude.{not, ◌↔◌, ℕ, ◌<◌, T, pos, ◌≤ℤ◌}
use Rattle.std.proofs.Math.Path.{refl}
use Rattle.std.proofs.Common.{sym, ⊎_elim, T_not}
use mathlib.Core.Logic.Iff
use mathlib.Core.List.Memᴰ
use mathlib.Core.List.{List, [], ◌∷◌, ◌++◌, Memᴰ}
use Rattle.std.proofs.Math.Dec.{not_T}
use Rattle.std.specs.Int.Signed.{lt_z, lt_z_yes, lt_z_no, clash_ℤ}
use Rattle.laws.specs.Booleans.{decide}
use Rattle.nets.specs.Nets.{Word, Log, Entry, Net, Place, Step, words, step_after, place_permits, permits, allowed, wrong_continuations}
use Rattle.nets.specs.Bundle.{Certificate, by_place, by_weights, Bundle, log_of, solves, accepted}
use Rattle.nets.specs.Words.{Prefix, EveryNetPermits, EveryObeyingNetPermits}
use Rattle.nets.specs.Entries.{NoneCompleted}
use Rattle.nets.proofs.Rows.{row→, →row, continuation→, →continuation, wrong→, →wrong}
use Rattle.nets.specs.Fits.{Below, LogBelow, below_snoc, prefix-below}
use Rattle.nets.proofs.Certificates.{weights-permit, refusing, certificate_for}
use Rattle.nets.specs.Comparison.{Judged, judged}
use Rattle.nets.specs.TokenGame.{Places, places_of, Language, language_of}
use Rattle.nets.proofs.TokenGame.{language_permits}
use Rattle.nets.specs.Regions.{◌⊆◌, PrefixClosed, product, Constraint, Region}
use Rattle.nets.proofs.Regions.{prefixes-closed, product-permits, language_product, constraint_allowed, equation_4, language_fewer}
use Rattle.nets.proofs.Regions as regions
use Rattle.nets.specs.Completed.{sound_regions}
use Rattle.nets.proofs.Completed.{old-sound, sound-permits, sound-net, every_net}
use Rattle.nets.specs.SeparationProblems.{Witnesses, SolvedIn, SeparationProblem, Complete, Suboptimal}

-- a place does exactly when it refuses the step
pub witnesses-refuses : (n : ℕ) (p : Place) (s : Step) → s.event < n → Witnesses n p s ↔ T (not (place_permits n p s))
witnesses-refuses n p s below =
    let permit = product-permits n p s below in (
      (λ h. not_T (place_permits n p s) (λ t. clash_ℤ h (permit.1 t))),
      λ t. ⊎_elim (λ h. lt_z_yes h) (λ h. absurd (T_not (place_permits n p s) t (permit.0 (lt_z_no h)))) (decide (lt_z (product n p s) (pos 0))),
    )

module _ (n : ℕ) (L : Language) where
  -- no region solves a problem that is a constraint too: with the same counts, e is elsewhere in L
  pub constraint_unsolved : (s : Step) → Constraint n L s → (p : Place) → Region n L p → Witnesses n p s → ⊥
  constraint_unsolved s c p r h = clash_ℤ h (r s c)

  -- of a set N of regions, a complete set is one (footnote 4)
  pub complete-suboptimal : PrefixClosed n L → (N : Places) → N ⊆ Region n L → (R : Places) → Complete n L N R → Suboptimal n L N R
  complete-suboptimal closed N of-region R complete w m e below = (to, language_fewer n R N complete.regions (w ++ e ∷ []))
    where
      s : Step
      s = step_after n w e

      solved : language_of n R (w ++ e ∷ []) → (p : Place) → N p → Witnesses n p s → pos 0 ≤ℤ product n p s
      solved h p r is =
          let problem : SeparationProblem n L s = (w, m, refl, below, λ k. constraint_unsolved s (w, m, refl, k) p (of-region p r) is) in
          let q = complete.witnesses s problem (p, r, is) in
          clash_ℤ q.2 (((language_product n R w e).0 h).2 q.0 q.1)

      to : language_of n R (w ++ e ∷ []) → language_of n N (w ++ e ∷ [])
      to h = (language_product n N w e).1 (
        (equation_4 n L closed N).1 of-region w m,
        below,
        λ p r.
            ⊎_elim (λ t. solved h p r (lt_z_yes t)) (λ t. lt_z_no t) (decide (lt_z (product n p s) (pos 0))),
      )

-- ---- Of a log: L is the set of its prefixes

module _ (n : ℕ) (log : Log) where
  -- a wrong continuation is a separation problem that is no constraint: at each prefix with its counts the event does not follow
  pub wrong_problem : (s : Step) → Memᴰ s (wrong_continuations n log) ↔ (SeparationProblem n (Prefix log) s × (Constraint n (Prefix log) s → ⊥))
  wrong_problem s = (to, from)
    where
      to : Memᴰ s (wrong_continuations n log) → SeparationProblem n (Prefix log) s × (Constraint n (Prefix log) s → ⊥)
      to m =
          let r = wrong→ n log s m in
          let at_row = continuation→ n log s r.0 in
          let u = row→ n log at_row.0 in
          let none : Constraint n (Prefix log) s → ⊥ = λ c. T_not (allowed n log s) r.1 ((constraint_allowed n log s).0 c) in
          ((u.0, u.1, u.2, at_row.1, λ k. none (u.0, u.1, u.2, k)), none)

      from : SeparationProblem n (Prefix log) s × (Constraint n (Prefix log) s → ⊥) → Memᴰ s (wrong_continuations n log)
      from h =
          let q = h.0 in
          let there = →continuation n log s (Memᴰ.cast (sym q.2) (→row n log q.0 q.1)) q.3 in
          →wrong n log s there (not_T (allowed n log s) (λ t. h.1 ((constraint_allowed n log s).1 t)))

  -- so a separation problem that some region solves is a wrong continuation
  pub solved_wrong : (s : Step) → SeparationProblem n (Prefix log) s → SolvedIn n (Region n (Prefix log)) s → Memᴰ s (wrong_continuations n log)
  solved_wrong s q r = (wrong_problem s).1 (q, λ c. constraint_unsolved n (Prefix log) s c r.0 r.1 r.2)

  -- and a set of regions is complete exactly when it witnesses all solvable wrong continuations
  pub complete_wrong : (N : Places) → N ⊆ Region n (Prefix log) → (R : Places) → Complete n (Prefix log) N R
      ↔ ((R ⊆ N) × ((s : Step) → Memᴰ s (wrong_continuations n log) → SolvedIn n N s → SolvedIn n R s))
  complete_wrong N of-region R = (
    (λ c. (c.regions, λ s m. c.witnesses s ((wrong_problem s).0 m).0)),
    λ h. record { regions = h.0; witnesses = λ s q r. h.1 s (solved_wrong s q (r.0, of-region r.0 r.1, r.2)) r },
  )

  -- where the language of N has the words that every net of some kind permits, a suboptimal solution that is a list permits the same
  module _ (below : LogBelow n log) (N : Places) (Always : Word → Type 0) (exactly : (w : Word) → Below n w → language_of n N w ↔ Always w) where
    suboptimal-permits : (net : Net) → Suboptimal n (Prefix log) N (places_of net)
        ↔ ((w : Word) → Prefix log w → (e : ℕ) → e < n → T (permits n net (w ++ e ∷ [])) ↔ Always (w ++ e ∷ []))
    suboptimal-permits net = (
      (λ h w m e b. Iff.trans (Iff.symm (left w m e b)) (Iff.trans (h w m e b) (right w m e b))),
      λ h w m e b. Iff.trans (left w m e b) (Iff.trans (h w m e b) (Iff.symm (right w m e b))),
    )
      where
        longer : (w : Word) → Prefix log w → (e : ℕ) → e < n → Below n (w ++ e ∷ [])
        longer w m e b = (below_snoc n w e).1 (prefix-below n log below w m, b)

        left : (w : Word) → Prefix log w → (e : ℕ) → e < n → language_of n (places_of net) (w ++ e ∷ []) ↔ T (permits n net (w ++ e ∷ []))
        left w m e b = language_permits n net (w ++ e ∷ []) (longer w m e b)

        right : (w : Word) → Prefix log w → (e : ℕ) → e < n → language_of n N (w ++ e ∷ []) ↔ Always (w ++ e ∷ [])
        right w m e b = exactly (w ++ e ∷ []) (longer w m e b)

-- the equation of a suboptimal solution is the first sentence of demand 3, for a net that is a list
pub suboptimal-exactly : (n : ℕ) (entries : List Entry) → LogBelow n (words entries) → (net : Net)
    → Suboptimal n (Prefix (words entries)) (sound_regions n entries) (places_of net)
    ↔ ((w : Word) → Prefix (words entries) w → (e : ℕ) → e < n → T (permits n net (w ++ e ∷ [])) ↔ EveryObeyingNetPermits n entries (w ++ e ∷ []))
suboptimal-exactly n entries below =
    suboptimal-permits n (words entries) below (sound_regions n entries) (EveryObeyingNetPermits n entries) (every_net n entries below)

-- of all regions of a log, as without completed words
pub old-suboptimal-exactly : (n : ℕ) (log : Log) → LogBelow n log → (net : Net)
    → Suboptimal n (Prefix log) (Region n (Prefix log)) (places_of net)
    ↔ ((w : Word) → Prefix log w → (e : ℕ) → e < n → T (permits n net (w ++ e ∷ [])) ↔ EveryNetPermits n log (w ++ e ∷ []))
old-suboptimal-exactly n log below =
    suboptimal-permits n log below (Region n (Prefix log)) (EveryNetPermits n log) (regions.every_net n log below)

-- ---- The net of an accepted bundle

module _ (n : ℕ) (a : Judged n) (below : LogBelow n (words a.entries)) where
  abbrev wrongs : List Step
  wrongs = wrong_continuations n (words a.entries)

  -- a wrong continuation that some sound region solves is witnessed by the place that its certificate lists: weights would show that none does
  solved-listed : (s : Step) → Memᴰ s wrongs → SolvedIn n (sound_regions n a.entries) s → SolvedIn n (places_of a.net) s
  unfolding solves
  solved-listed s m r = let c = certificate_for n a.entries a.net wrongs a.certificates a.solved s m in go c.0 c.1
    where
      event : s.event < n
      event = (continuation→ n (words a.entries) s (wrong→ n (words a.entries) s m).0).1

      go : (c : Certificate) → T (solves n a.entries a.net s c) → SolvedIn n (places_of a.net) s
      go (by_place j) k = let q = refusing n a.net j s k in (q.0, q.1, (witnesses-refuses n q.0 s event).1 q.2)
      go (by_weights g) k =
          let sound = (sound-permits n a.entries below r.0).0 r.1 in
          let permitted = weights-permit n a.entries s g k event r.0 sound.0 sound.1 in
          absurd (T_not (place_permits n r.0 s) ((witnesses-refuses n r.0 s event).0 r.2) permitted)

  pub judged-complete : Complete n (Prefix (words a.entries)) (sound_regions n a.entries) (places_of a.net)
  judged-complete = (complete_wrong n (words a.entries) (sound_regions n a.entries) (λ p r. r.0) (places_of a.net)).1
      ((sound-net n a.entries below a.net).0 (a.permitted, a.obeyed), solved-listed)

module _ (b : Bundle) (below : LogBelow b.events (log_of b)) (acc : T (accepted b)) where
  -- it is a complete set of the sound regions of the bundle's log
  pub accepted-complete : Complete b.events (Prefix (log_of b)) (sound_regions b.events b.entries) (places_of b.net)
  unfolding judged
  accepted-complete = judged-complete b.events (judged b b.events refl acc) below

  -- so L(R) ∩ L-as-E = L(N) ∩ L-as-E, where N has them all
  pub accepted-suboptimal : Suboptimal b.events (Prefix (log_of b)) (sound_regions b.events b.entries) (places_of b.net)
  accepted-suboptimal = complete-suboptimal b.events (Prefix (log_of b))
      (prefixes-closed b.events (log_of b) below) (sound_regions b.events b.entries) (λ p r. r.0) (places_of b.net) accepted-complete

-- ---- Without completed words, as in a bundle of the old edition: of all regions

module _ (n : ℕ) (entries : List Entry) (none : NoneCompleted entries) (R : Places) where
  abbrev all_regions : Places
  all_regions = Region n (Prefix (words entries))

  pub old-complete : Complete n (Prefix (words entries)) (sound_regions n entries) R → Complete n (Prefix (words entries)) all_regions R
  old-complete c = record {
    regions = λ p m. (old-sound n entries none p).0 (c.regions p m);
    witnesses = λ s q r. c.witnesses s q (r.0, (old-sound n entries none r.0).1 r.1, r.2);
  }

  pub old-suboptimal : Suboptimal n (Prefix (words entries)) (sound_regions n entries) R → Suboptimal n (Prefix (words entries)) all_regions R
  old-suboptimal h w m e below = Iff.trans (h w m e below) (
    language_fewer n all_regions (sound_regions n entries) (λ p r. (old-sound n entries none p).1 r) (w ++ e ∷ []),
    language_fewer n (sound_regions n entries) all_regions (λ p r. (old-sound n entries none p).0 r) (w ++ e ∷ []),
  )
