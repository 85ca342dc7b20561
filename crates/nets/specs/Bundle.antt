-- What a bundle holds: the entries of a log, a net, and certificates; and when it is accepted. Numbers are of any size.
use Rattle.std.specs.Prelude.{Bool, true, false, not, ◌&&◌, List, [], ◌∷◌, ℕ, ◌+◌, ◌*◌, leb, ℤ, pos, ◌+ℤ◌, ◌*ℤ◌, length, get_or}
use Rattle.std.specs.Int.Signed.{le_z}
use Rattle.laws.specs.Lists.{all, keep, tabulate}
use Rattle.nets.specs.Nets.{Log, Entry, no_entry, words, completed_words, Counts, Step, Net, at, same, weighed, counts, rows, allowed, allowed_steps, wrong_continuations, permits_log, obeys, refused_by}

-- ---- What there is

-- a weight g on a step
pub record Term : Type 0 where
  pub step : Step
  pub weight : ℕ

-- a signed weight h on the word of this number
pub record Pair : Type 0 where
  pub number : ℕ
  pub weight : ℤ

-- k, weighted steps and weighted words (Farkas weights)
pub record Weights : Type 0 where
  pub k : ℕ
  pub terms : List Term
  pub pairs : List Pair

-- the certificate of a wrong continuation (the answer to a separation problem)
pub data Certificate : Type 0 where
  -- kind 0: the place of this number refuses the step
  by_place : ℕ → Certificate
  -- kind 1: weights that show that no place which fits and obeys can refuse it
  by_weights : Weights → Certificate

-- what a bundle holds
pub record Bundle : Type 0 where
  pub events : ℕ
  pub entries : List Entry
  pub net : Net
  pub certificates : List Certificate

-- its log, and the completed words of it
abbrev pub log_of : Bundle → Log
log_of b = words b.entries

abbrev pub completed_of : Bundle → Log
completed_of b = completed_words b.entries

-- the weight g of a term
abbrev pub weight_of : Term → ℕ
weight_of t = t.weight

module _ (n : ℕ) where
  -- ---- Certificates

  -- the pair names a completed word
  unfoldable pub names_completed : List Entry → Pair → Bool
  names_completed entries q = (get_or entries q.number no_entry).completed

  -- the counts u of the word that a pair names
  unfoldable pub pair_counts : List Entry → Pair → Counts
  pair_counts entries q = counts n (get_or entries q.number no_entry).word

  -- the sum of h × u(i) over the pairs
  unfoldable pub paired : List Entry → List Pair → ℕ → ℤ
  paired entries [] i = pos 0
  paired entries (q ∷ qs) i = q.weight *ℤ pos (at (pair_counts entries q) i) +ℤ paired entries qs i

  -- the second inequality at event i: the sum of g × u(i), and of h × u(i) over the pairs, is at most k × v(i)
  unfoldable pub weighs_before : List Entry → Step → Weights → ℕ → Bool
  weighs_before entries s w i =
      le_z (pos (weighed weight_of (λ t. at t.step.row i) w.terms) +ℤ paired entries w.pairs i) (pos (w.k * at s.row i))

  -- the third: the sum of g × (u(i) + [f = i]), and of h × u(i) over the pairs, is at least k × (v(i) + [e = i])
  unfoldable pub weighs_after : List Entry → Step → Weights → ℕ → Bool
  weighs_after entries s w i =
      le_z (pos (w.k * (at s.row i + same s.event i)))
      (pos (weighed weight_of (λ t. at t.step.row i + same t.step.event i) w.terms) +ℤ paired entries w.pairs i)

  -- a kind 1 certificate holds: k is at least 1, the terms' steps are allowed, the pairs' words completed, the sum of g is at most k, and the
  -- other two at each event
  unfoldable pub weights_hold : List Entry → Step → Weights → Bool
  weights_hold entries s w =
      leb 1 w.k
      && all (λ t. allowed n (words entries) t.step) w.terms
      && all (names_completed entries) w.pairs
      && leb (weighed weight_of (λ t. 1) w.terms) w.k
      && all (weighs_before entries s w) (tabulate n (λ i. i))
      && all (weighs_after entries s w) (tabulate n (λ i. i))

  -- a certificate solves the separation problem of a step: it holds for it
  unfoldable pub solves : List Entry → Net → Step → Certificate → Bool
  solves entries net s (by_place j) = refused_by n net j s
  solves entries net s (by_weights w) = weights_hold entries s w

  -- one certificate for each step, in order
  unfoldable pub solves_all : List Entry → Net → List Step → List Certificate → Bool
  solves_all entries net [] [] = true
  solves_all entries net [] (c ∷ cs) = false
  solves_all entries net (s ∷ ss) [] = false
  solves_all entries net (s ∷ ss) (c ∷ cs) = solves entries net s c && solves_all entries net ss cs

-- ---- Acceptance

-- the net permits the log and obeys its completed words, and each wrong continuation has its certificate
unfoldable pub accepted : Bundle → Bool
accepted b =
    permits_log b.events b.net (log_of b)
    && obeys b.events b.net (completed_of b)
    && solves_all b.events b.entries b.net (wrong_continuations b.events (log_of b)) b.certificates

-- whether a certificate is of kind 0
unfoldable pub is_by_place : Certificate → Bool
is_by_place (by_place j) = true
is_by_place (by_weights w) = false

-- the four counts of a verdict: rows, allowed steps, kind 0 and kind 1 certificates
pub record Tally : Type 0 where
  pub row_count : ℕ
  pub allowed_count : ℕ
  pub by_place_count : ℕ
  pub by_weights_count : ℕ

-- as the definitions count them
unfoldable pub tally : Bundle → Tally
tally b = record {
  row_count = length (rows b.events (log_of b));
  allowed_count = length (allowed_steps b.events (log_of b));
  by_place_count = length (keep is_by_place b.certificates);
  by_weights_count = length (keep (λ c. not (is_by_place c)) b.certificates);
}
