-- The comparison of two accepted bundles (demand 3), for the definitions.
use Rattle.std.specs.Prelude.{◌≡◌, refl, Bool, cond, ◌↔◌, ℕ, ◌<◌, length}
use Rattle.std.proofs.Common.{sym, ap, ◌∙◌, ⊎_elim, T_not}
use Rattle.std.proofs.Math.Bool.{not}
use mathlib.Core.Logic.Iff
use mathlib.Core.List.Memᴰ
use mathlib.Core.List.{List, [], ◌∷◌, ◌++◌, Memᴰ}
use Rattle.std.proofs.Math.Dec.{T, not_T}
use Rattle.std.specs.Float.Ieee.Fits.{and_i, and_r}
use Rattle.laws.specs.Lists.{keep, keep_in}
use Rattle.laws.specs.Booleans.{decide, same_test}
use Rattle.laws.specs.Distinct.{distinct-same-length, distinct-keep}
use Rattle.nets.specs.Nets.{Word, Log, Entry, Net, Step, Counts, words, completed_words, step_after, net_permits, permits, permitted, stopped_at, screen, rows, allowed, continuations, allowed_steps, wrong_continuations}
use Rattle.nets.specs.Bundle.{Certificate, by_place, by_weights, Bundle, log_of, solves, accepted, is_by_place, tally}
use Rattle.nets.specs.Words.{PermitsLog, Obeys, EveryNetPermits, EveryObeyingNetPermits, →permits_log, Prefix, word-prefix, permits_snoc, permits-prefix, permits-allowed, allowed-more}
use Rattle.nets.specs.Entries.{NoneCompleted}
use Rattle.nets.proofs.Entries.{obeys-less, none-word, old-every-net}
use Rattle.nets.proofs.Rows.{row→, →row, rows-distinct, continuation→, →continuation, allowed_step→, →allowed_step, allowed_steps-distinct, wrong→, →wrong, wrong_distinct}
use Rattle.nets.specs.Screening.{screen_snoc}
use Rattle.nets.proofs.Certificates.{weights-net, refused→, kinds, certificate_for}
use Rattle.nets.specs.Comparison.{PrefixesIn, Contained, Judged, judged}

pub contained-same : (n : ℕ) (entries : List Entry) → Contained n entries n entries
contained-same n entries = record { events = refl; prefixes = λ u m. m; completed = λ w m. m }

-- ---- one accepted bundle

module _ (n : ℕ) (a : Judged n) where
  abbrev log : Log
  log = words a.entries

  wrong_below : (s : Step) → Memᴰ s (wrong_continuations n log) → s.event < n
  wrong_below s m = (continuation→ n log s (wrong→ n log s m).0).1

  -- what its net permits one event behind a prefix, every net permits that permits the log and obeys the completed words
  module _ (net : Net) (permitted : PermitsLog n net log) (obeyed : Obeys n net (completed_words a.entries)) where
    wrong_permitted : (s : Step) → Memᴰ s (wrong_continuations n log) → T (net_permits n a.net s) → T (net_permits n net s)
    unfolding solves
    wrong_permitted s m t =
        let r = certificate_for n a.entries a.net (wrong_continuations n log) a.certificates a.solved s m in go r.0 r.1
      where
        go : (c : Certificate) → T (solves n a.entries a.net s c) → T (net_permits n net s)
        go (by_place j) r = absurd (refused→ n a.net j s r t)
        go (by_weights w) r = weights-net n a.entries s w r (wrong_below s m) net permitted obeyed

    module _ (w : Word) (pre : Prefix log w) (e : ℕ) (below : e < n) where
      step-permitted : T (net_permits n a.net (step_after n w e)) → T (net_permits n net (step_after n w e))
      step-permitted t = ⊎_elim
          (λ yes'. permits-allowed n net log permitted (step_after n w e) yes')
          (λ no'. wrong_permitted (step_after n w e) (→wrong n log (step_after n w e) there no') t)
          (decide (allowed n log (step_after n w e)))
        where
          there : Memᴰ (step_after n w e) (continuations n log)
          there = →continuation n log (step_after n w e) (→row n log w pre) below

      word-permitted : T (permits n a.net (w ++ e ∷ [])) → T (permits n net (w ++ e ∷ []))
      word-permitted t =
          let last = and_r (permits n a.net w) (net_permits n a.net (step_after n w e)) (rw permits_snoc at t) in
          let before = permits-prefix n net log permitted w pre in
          rw permits_snoc (and_i (permits n net w) (net_permits n net (step_after n w e)) before (step-permitted last))

-- ---- two logs, each prefix of the first one of the second

module _ (n : ℕ) (log₁ log₂ : Log) (to : PrefixesIn log₁ log₂) where
  row_in : (v : Counts) → Memᴰ v (rows n log₁) → Memᴰ v (rows n log₂)
  row_in v m = let r = row→ n log₁ m in Memᴰ.cast (sym r.2) (→row n log₂ r.0 (to r.0 r.1))

  continuation_in : (s : Step) → Memᴰ s (continuations n log₁) → Memᴰ s (continuations n log₂)
  continuation_in s m = let r = continuation→ n log₁ s m in →continuation n log₂ s (row_in s.row r.0) r.1

  allowed_in_lem : (s : Step) → Memᴰ s (allowed_steps n log₁) → Memᴰ s (allowed_steps n log₂)
  allowed_in_lem s m = let r = allowed_step→ n log₁ s m in →allowed_step n log₂ s (continuation_in s r.0) (allowed-more n log₁ log₂ to s r.1)

  wrong_in_lem : PrefixesIn log₂ log₁ → (s : Step) → Memᴰ s (wrong_continuations n log₁) → Memᴰ s (wrong_continuations n log₂)
  wrong_in_lem from s m =
      let r = wrong→ n log₁ s m in
      →wrong n log₂ s (continuation_in s r.0) (not_T (allowed n log₂ s) (λ t. T_not (allowed n log₁ s) r.1 (allowed-more n log₂ log₁ from s t)))

-- ---- two accepted bundles

-- the prefixes and the completed words of the first are those of the second
abbrev Within : {n : ℕ} → Judged n → Judged n → Type 0
Within {n} a b = Contained n a.entries n b.entries

module _ (n : ℕ) (a b : Judged n) (to : Within a b) where
  -- the second net permits the first log
  permits-first : PermitsLog n b.net (log n a)
  permits-first =
      →permits_log n b.net (log n a) (λ w m. permits-prefix n b.net (log n b) b.permitted w (to.prefixes w (word-prefix (log n a) w m)))

  -- and obeys its completed words
  obeys-first : Obeys n b.net (completed_words a.entries)
  obeys-first = obeys-less n b.net b.net (completed_words b.entries) (completed_words a.entries) (λ p m. m) to.completed b.obeyed

  permits-more : (w : Word) → Prefix (log n a) w → (e : ℕ) → e < n → T (permits n a.net (w ++ e ∷ [])) → T (permits n b.net (w ++ e ∷ []))
  permits-more w pre e below t = word-permitted n a b.net permits-first obeys-first w pre e below t

  wrong-more : (s : Step) → Memᴰ s (wrong_continuations n (log n a)) → T (net_permits n a.net s) → T (net_permits n b.net s)
  wrong-more s m t = wrong_permitted n a b.net permits-first obeys-first s m t

module _ (n : ℕ) (a b : Judged n) (to : Within a b) (from : Within b a) where
  permits-same : (w : Word) → Prefix (log n a) w → (e : ℕ) → e < n → permits n a.net (w ++ e ∷ []) ≡ permits n b.net (w ++ e ∷ [])
  permits-same w pre e below = same_test _ _ (permits-more n a b to w pre e below) (permits-more n b a from w (to.prefixes w pre) e below)

  -- both nets permit and refuse the same wrong continuations
  wrong_same : (s : Step) → Memᴰ s (wrong_continuations n (log n a)) → net_permits n a.net s ≡ net_permits n b.net s
  wrong_same s m = same_test _ _ (wrong-more n a b to s m)
      (wrong-more n b a from s (wrong_in_lem n (log n a) (log n b) to.prefixes from.prefixes s m))

  rows_same : length (rows n (log n a)) ≡ length (rows n (log n b))
  rows_same =
      distinct-same-length (rows n (log n a)) (rows n (log n b)) (rows-distinct n (log n a)) (rows-distinct n (log n b))
      (row_in n (log n a) (log n b) to.prefixes) (row_in n (log n b) (log n a) from.prefixes)

  steps-same : length (allowed_steps n (log n a)) ≡ length (allowed_steps n (log n b))
  steps-same =
      distinct-same-length (allowed_steps n (log n a)) (allowed_steps n (log n b))
      (allowed_steps-distinct n (log n a)) (allowed_steps-distinct n (log n b))
      (allowed_in_lem n (log n a) (log n b) to.prefixes) (allowed_in_lem n (log n b) (log n a) from.prefixes)

  -- as many certificates of each kind: f is the identity for kind 0, `not` for kind 1
  kinds-same : (f : Bool → Bool) → length (keep (λ c. f (is_by_place c)) a.certificates) ≡ length (keep (λ c. f (is_by_place c)) b.certificates)
  kinds-same f =
      count a
      ∙ distinct-same-length (kept a) (kept b)
      (distinct-keep (kind a) (wrongs a) (wrong_distinct n (log n a))) (distinct-keep (kind b) (wrongs b) (wrong_distinct n (log n b)))
      (keep_in (kind a) (kind b) (wrongs a) (wrongs b) forth agree)
      (keep_in (kind b) (kind a) (wrongs b) (wrongs a) back (λ s m. sym (agree s (back s m))))
      ∙ sym (count b)
    where
      kind : Judged n → Step → Bool
      kind x s = f (not (net_permits n x.net s))

      wrongs : Judged n → List Step
      wrongs x = wrong_continuations n (log n x)

      kept : Judged n → List Step
      kept x = keep (kind x) (wrongs x)

      count : (x : Judged n) → length (keep (λ c. f (is_by_place c)) x.certificates) ≡ length (kept x)
      count x = kinds n x.entries x.net x.permitted x.obeyed f (wrongs x) (wrong_below n x) x.certificates x.solved

      forth : (s : Step) → Memᴰ s (wrongs a) → Memᴰ s (wrongs b)
      forth = wrong_in_lem n (log n a) (log n b) to.prefixes from.prefixes

      back : (s : Step) → Memᴰ s (wrongs b) → Memᴰ s (wrongs a)
      back = wrong_in_lem n (log n b) (log n a) from.prefixes to.prefixes

      agree : (s : Step) → Memᴰ s (wrongs a) → kind a s ≡ kind b s
      agree s m = ap (λ (t : Bool). f (not t)) (wrong_same s m)

-- ---- the comparison, for bundles

module _ (b₁ b₂ : Bundle) (acc₁ : T (accepted b₁)) (acc₂ : T (accepted b₂))
    (in-second : Contained b₁.events b₁.entries b₂.events b₂.entries) where
  same-events : b₁.events ≡ b₂.events
  same-events = in-second.events

  first : Judged b₁.events
  first = judged b₁ b₁.events refl acc₁

  second : Judged b₁.events
  second = judged b₂ b₁.events same-events acc₂

  to : Within first second
  unfolding first second judged
  to = record { events = refl; prefixes = in-second.prefixes; completed = in-second.completed }

  from : Contained b₂.events b₂.entries b₁.events b₁.entries → Within second first
  unfolding first second judged
  from back = record { events = refl; prefixes = back.prefixes; completed = back.completed }

  -- a prefix of the first log with one event more
  module _ (w : Word) (pre : Prefix (log_of b₁) w) (e : ℕ) (below : e < b₁.events) where
    -- the first net permits it exactly when every net does that permits the first log and obeys its completed words
    pub first-exactly : T (permits b₁.events b₁.net (w ++ e ∷ [])) ↔ EveryObeyingNetPermits b₁.events b₁.entries (w ++ e ∷ [])
    unfolding first judged
    first-exactly = (
      (λ t net permitted obeyed. word-permitted b₁.events first net permitted obeyed w pre e below t),
      λ f. f b₁.net first.permitted first.obeyed,
    )

    -- when the first net permits it, so does the second
    pub second-permits : T (permits b₁.events b₁.net (w ++ e ∷ [])) → T (permits b₂.events b₂.net (w ++ e ∷ []))
    unfolding first second judged
    second-permits t = rw (← same-events) (permits-more b₁.events first second to w pre e below t)

    -- where the logs have the same prefixes and the same completed words, both nets permit and refuse the same
    pub nets-agree : Contained b₂.events b₂.entries b₁.events b₁.entries
        → permits b₁.events b₁.net (w ++ e ∷ []) ≡ permits b₂.events b₂.net (w ++ e ∷ [])
    unfolding first second judged
    nets-agree back = rw (← same-events) (permits-same b₁.events first second to (from back) w pre e below)

    -- screening answers permitted exactly when the net permits, and otherwise stops at the added event
    pub first-screened : screen b₁.events b₁.net (w ++ e ∷ [])
        ≡ cond (permits b₁.events b₁.net (w ++ e ∷ [])) permitted (stopped_at b₁.events b₁.net (length w) (step_after b₁.events w e))
    unfolding first judged
    first-screened = screen_snoc b₁.events b₁.net w e (permits-prefix b₁.events b₁.net (log_of b₁) first.permitted w pre)

    pub second-screened : screen b₂.events b₂.net (w ++ e ∷ [])
        ≡ cond (permits b₂.events b₂.net (w ++ e ∷ [])) permitted (stopped_at b₂.events b₂.net (length w) (step_after b₂.events w e))
    unfolding second judged
    second-screened = rw (← same-events)
        (screen_snoc b₁.events b₂.net w e (permits-prefix b₁.events b₂.net (log_of b₂) second.permitted w (in-second.prefixes w pre)))

  -- where the logs have the same prefixes and the same completed words, the four counts are equal
  pub tallies_agree : Contained b₂.events b₂.entries b₁.events b₁.entries → tally b₁ ≡ tally b₂
  unfolding tally first second judged
  tallies_agree back = rw (← same-events) (λ i. record {
    row_count = rows_same b₁.events first second to (from back) i;
    allowed_count = steps-same b₁.events first second to (from back) i;
    by_place_count = kinds-same b₁.events first second to (from back) (λ x. x) i;
    by_weights_count = kinds-same b₁.events first second to (from back) not i;
  })

-- ---- without completed words, as in a bundle of the old edition

-- the premise asks for the prefixes alone
pub contained-old : (n₁ : ℕ) (entries₁ : List Entry) (n₂ : ℕ) (entries₂ : List Entry) → NoneCompleted entries₁ → n₁ ≡ n₂
    → PrefixesIn (words entries₁) (words entries₂) → Contained n₁ entries₁ n₂ entries₂
contained-old n₁ entries₁ n₂ entries₂ none events prefixes = record {
  events = events;
  prefixes = prefixes;
  completed = λ w m. absurd (none-word entries₁ none w m);
}

-- the net permits a prefix with one event more exactly when every net does that permits the log
pub old-exactly : (b : Bundle) → T (accepted b) → NoneCompleted b.entries → (w : Word) → Prefix (log_of b) w → (e : ℕ) → e < b.events
    → T (permits b.events b.net (w ++ e ∷ []))
    ↔ EveryNetPermits b.events (log_of b) (w ++ e ∷ [])
old-exactly b acc none w pre e below =
    Iff.trans (first-exactly b b acc acc (contained-same b.events b.entries) w pre e below)
    (old-every-net b.events b.entries none (w ++ e ∷ []))
