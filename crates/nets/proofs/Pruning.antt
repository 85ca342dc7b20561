-- Idle places: those that no certificate names. Without them, and with the certificates renumbered, an accepted bundle is accepted.
use Rattle.std.specs.Prelude.{◌≡◌, Bool, true, false, cond, ℕ, zero, suc, ◌+◌, ◌<◌}
use Rattle.std.proofs.Math.Path.{refl, sym, ap₂, subst}
use Rattle.std.proofs.Common.{ap, ◌∙◌, arith, eq-eqb}
use Rattle.std.proofs.Math.Bool.{◌&&◌}
use mathlib.Core.List.{List, [], ◌∷◌, ◌++◌, map, Memᴰ}
use Rattle.std.proofs.Math.Dec.{T}
use Rattle.std.specs.Float.Ieee.Fits.{and_i, and_l, and_r}
use Rattle.laws.specs.Booleans.{yes_true}
use Rattle.laws.specs.Lists.{any, all-member, all_intro, any_intro}
use Rattle.laws.specs.Ranks.{keep_at, rank, keep_at-member}
use Rattle.nets.specs.Nets.{Word, Log, Entry, Net, Place, Step, step_after, place_permits, net_permits, permits_after, permits, refused_by, wrong_continuations}
use Rattle.nets.specs.Bundle.{Certificate, by_place, by_weights, Bundle, log_of, completed_of, solves, solves_all, accepted, tally}
use Rattle.nets.specs.Words.{Prefix, PermitsLog, permits-word, →permits_log}
use Rattle.nets.proofs.Entries.{obeys-less}
use Rattle.nets.specs.Acceptance.{accepted-parts}
use Rattle.nets.specs.Comparison.{Contained}
use Rattle.nets.proofs.Comparison.{contained-same, nets-agree, tallies_agree}
use Rattle.nets.specs.Pruning.{names, named, renumbered, prune}

-- ---- a net with places left out permits at least as much

module _ (n : ℕ) (net less : Net) (of : (p : Place) → Memᴰ p less → Memᴰ p net) where
  fewer-step : (s : Step) → T (net_permits n net s) → T (net_permits n less s)
  unfolding net_permits
  fewer-step s t = all_intro (λ p. place_permits n p s) less (λ p m. all-member (λ p. place_permits n p s) net t (of p m))

  fewer_after : (w u : Word) → T (permits_after n net u w) → T (permits_after n less u w)
  unfolding permits_after
  fewer_after [] u t = tt
  fewer_after (e ∷ w) u t =
      let first = net_permits n net (step_after n u e) in
      let rest = permits_after n net (u ++ e ∷ []) w in
      and_i (net_permits n less (step_after n u e)) (permits_after n less (u ++ e ∷ []) w) (fewer-step (step_after n u e) (and_l first rest t)) (fewer_after w (u ++ e ∷ []) (and_r first rest t))

  pub fewer-permits : (w : Word) → T (permits n net w) → T (permits n less w)
  unfolding permits
  fewer-permits w t = fewer_after w [] t

  fewer-log : (log : Log) → PermitsLog n net log → PermitsLog n less log
  fewer-log log t = →permits_log n less log (λ w m. fewer-permits w (permits-word n net log t w m))

-- ---- the places that stay refuse as before

-- a place by its number, in the net and among those that are kept
refused-kept : (n : ℕ) (f : ℕ → Bool) (net : Net) (j : ℕ) (s : Step) → f j ≡ true → refused_by n (keep_at f net) (rank f j) s ≡ refused_by n net j s
unfolding refused_by keep_at rank
refused-kept n f [] j s e = refl
refused-kept n f (p ∷ net) zero s e = rw e
refused-kept n f (p ∷ net) (suc j) s e = go (f 0) (refused-kept n (λ i. f (suc i)) net j s e)
  where
    more : Net
    more = keep_at (λ i. f (suc i)) net

    k : ℕ
    k = rank (λ i. f (suc i)) j

    one : 1 + k ≡ suc k
    one = omega arith

    none : 0 + k ≡ k
    none = omega arith

    go : (b : Bool) → refused_by n more k s ≡ refused_by n net j s → refused_by n (cond b (p ∷ more) more) (cond b 1 0 + k) s ≡ refused_by n net j s
    go true e = ap (λ (i : ℕ). refused_by n (p ∷ more) i s) one ∙ e
    go false e = ap (λ (i : ℕ). refused_by n more i s) none ∙ e

-- a certificate whose place, if it has one, is kept
module _ (n : ℕ) (entries : List Entry) (f : ℕ → Bool) (net : Net) where
  abbrev Kept : Certificate → Type 0
  Kept (by_place j) = f j ≡ true
  Kept (by_weights w) = Unit {0}

  solves-kept : (s : Step) (c : Certificate) → Kept c → solves n entries (keep_at f net) s (renumbered f c) ≡ solves n entries net s c
  unfolding solves renumbered
  solves-kept s (by_place j) e = refused-kept n f net j s e
  solves-kept s (by_weights w) e = refl

  solves_all-kept : (ss : List Step) (cs : List Certificate) → ((c : Certificate) → Memᴰ c cs → Kept c)
      → solves_all n entries (keep_at f net) ss (map (renumbered f) cs) ≡ solves_all n entries net ss cs
  unfolding solves_all
  solves_all-kept [] [] kept = refl
  solves_all-kept [] (c ∷ cs) kept = refl
  solves_all-kept (s ∷ ss) [] kept = refl
  solves_all-kept (s ∷ ss) (c ∷ cs) kept = ap₂ ◌&&◌ (solves-kept s c (kept c (Memᴰ.head refl))) (solves_all-kept ss cs (λ x m. kept x (Memᴰ.tail m)))

-- a place that a certificate of the list has is named
named-member : (cs : List Certificate) (j : ℕ) → Memᴰ (by_place j) cs → named cs j ≡ true
unfolding named names
named-member cs j m = yes_true (any (names j) cs) (any_intro (names j) cs m (rw (eq-eqb j j refl) tt))

module _ (b : Bundle) where
  abbrev f : ℕ → Bool
  f = named b.certificates

  abbrev kept : Net
  kept = keep_at f b.net

  stays : (p : Place) → Memᴰ p kept → Memᴰ p b.net
  stays p m = keep_at-member f b.net m

  all-kept : (c : Certificate) → Memᴰ c b.certificates → Kept b.events b.entries f b.net c
  all-kept (by_place j) m = named-member b.certificates j m
  all-kept (by_weights w) m = tt

  -- accepted, it is accepted without its idle places
  pub prune-accepted : T (accepted b) → T (accepted (prune b))
  unfolding prune
  prune-accepted t =
      let a = (accepted-parts b).0 t in
      let same = solves_all-kept b.events b.entries f b.net (wrong_continuations b.events (log_of b)) b.certificates all-kept in
      (accepted-parts (prune b)).1 (record {
        permitted = fewer-log b.events b.net kept stays (log_of b) a.permitted;
        obeyed = obeys-less b.events b.net (keep_at f b.net) (completed_of b) (completed_of b) stays (λ w m. m) a.obeyed;
        solved = subst T (sym same) a.solved;
      })

  both : Contained b.events b.entries b.events b.entries
  both = contained-same b.events b.entries

  -- with the same four counts
  pub prune-tally : T (accepted b) → tally (prune b) ≡ tally b
  unfolding prune
  prune-tally t = sym (tallies_agree b (prune b) t (prune-accepted t) both both)

  -- every log prefix with one event added gets the same yes or no
  pub prune-permits : T (accepted b) → (w : Word) → Prefix (log_of b) w → (e : ℕ) → e < b.events
      → permits b.events (prune b).net (w ++ e ∷ []) ≡ permits b.events b.net (w ++ e ∷ [])
  unfolding prune
  prune-permits t w m e below = sym (nets-agree b (prune b) t (prune-accepted t) both w m e below both)

  -- any word that was permitted still is
  pub prune-more : (w : Word) → T (permits b.events b.net w) → T (permits b.events (prune b).net w)
  unfolding prune
  prune-more w t = fewer-permits b.events b.net kept stays w t
