-- The four counts of an accepted bundle, each as the number of what it counts: from the log's prefixes, their counts and the net alone, without
-- the lists of rows and of steps, and without the kinds of certificates.
use Rattle.std.specs.Prelude.{refl, Bool, true, false, not, ◌↔◌, ℕ, T, length}
use Rattle.std.proofs.Common.{sym, T_not}
use mathlib.Core.List.Memᴰ
use mathlib.Core.List.{List, Memᴰ}
use Rattle.std.proofs.Math.Dec.{not_T}
use Rattle.laws.specs.Lists.{keep, keep-member, keep_intro}
use Rattle.laws.specs.Distinct.{Cardinality, cardinality_same, distinct-keep}
use Rattle.nets.specs.Nets.{Log, Entry, Net, Step, words, completed_words, net_permits, rows, allowed, allowed_steps, wrong_continuations}
use Rattle.nets.specs.Bundle.{Certificate, Bundle, log_of, solves_all, accepted, is_by_place, tally}
use Rattle.nets.specs.Acceptance.{accepted-parts}
use Rattle.nets.specs.Words.{PermitsLog, Obeys, Follows, allowed→, →allowed}
use Rattle.nets.proofs.Rows.{row→, →row, rows-distinct, continuation→, →continuation, allowed_step→, allowed_steps-distinct, wrong→, →wrong, wrong_distinct}
use Rattle.nets.specs.Fits.{LogBelow}
use Rattle.nets.proofs.Fits.{allowed-listed}
use Rattle.nets.proofs.Certificates.{kinds}
use Rattle.nets.specs.Tallies.{PrefixCounts, WrongContinuation}

module _ (n : ℕ) (log : Log) where
  pub rows-number : Cardinality (PrefixCounts n log) (length (rows n log))
  rows-number = record {
    listed = rows n log;
    once = rows-distinct n log;
    members = λ v. ((λ m. row→ n log m), λ r. Memᴰ.cast (sym r.2) (→row n log r.0 r.1));
    size = refl;
  }

  pub allowed-number : LogBelow n log → Cardinality (Follows n log) (length (allowed_steps n log))
  allowed-number below = record {
    listed = allowed_steps n log;
    once = allowed_steps-distinct n log;
    members = λ s. ((λ m. allowed→ n log s (allowed_step→ n log s m).1), λ f. allowed-listed n log below s (→allowed n log s f));
    size = refl;
  }

  pub wrong_exactly : (s : Step) → Memᴰ s (wrong_continuations n log) ↔ WrongContinuation n log s
  wrong_exactly s = (
    (λ m.
        let r = wrong→ n log s m in
        let q = continuation→ n log s r.0 in
        (row→ n log q.0, q.1, λ f. T_not (allowed n log s) r.1 (→allowed n log s f))),
    λ h.
        let there = →continuation n log s (Memᴰ.cast (sym h.0.2) (→row n log h.0.0 h.0.1)) h.1 in
        →wrong n log s there (not_T (allowed n log s) (λ t. h.2 (allowed→ n log s t))),
  )

-- the certificates of a net that permits the log and obeys its completed words
module _ (n : ℕ) (entries : List Entry) (net : Net) (permitted : PermitsLog n net (words entries)) (obeyed : Obeys n net (completed_words entries))
    (cs : List Certificate) (solved : T (solves_all n entries net (wrong_continuations n (words entries)) cs)) where
  abbrev wrongs : List Step
  wrongs = wrong_continuations n (words entries)

  -- those of a kind are as many as the wrong continuations that the net refuses (f is the identity), or permits (f is `not`)
  kind-number : (f : Bool → Bool)
      → Cardinality (λ s. WrongContinuation n (words entries) s × T (f (not (net_permits n net s)))) (length (keep (λ c. f (is_by_place c)) cs))
  kind-number f = record {
    listed = keep kind wrongs;
    once = distinct-keep kind wrongs (wrong_distinct n (words entries));
    members = λ s. (
      (λ m. let r = keep-member kind wrongs m in ((wrong_exactly n (words entries) s).0 r.0, r.1)),
      λ h. keep_intro kind wrongs ((wrong_exactly n (words entries) s).1 h.0) h.1,
    );
    size = sym (kinds n entries net permitted obeyed f wrongs (λ s m. ((wrong_exactly n (words entries) s).0 m).1) cs solved);
  }
    where
      kind : Step → Bool
      kind s = f (not (net_permits n net s))

  pub refused-number : Cardinality (λ s. WrongContinuation n (words entries) s × T (not (net_permits n net s))) (length (keep is_by_place cs))
  refused-number = kind-number (λ x. x)

  pub permitted-number : Cardinality (λ s. WrongContinuation n (words entries) s × T (net_permits n net s))
      (length (keep (λ c. not (is_by_place c)) cs))
  permitted-number = cardinality_same
      (λ s. let same = twice (net_permits n net s) in ((λ h. (h.0, same.0 h.1)), λ h. (h.0, same.1 h.1))) (kind-number not)
    where
      twice : (x : Bool) → T (not (not x)) ↔ T x
      twice true = ((λ t. t), λ t. t)
      twice false = ((λ t. t), λ t. t)

-- ---- of an accepted bundle

module _ (b : Bundle) (below : LogBelow b.events (log_of b)) (acc : T (accepted b)) where
  -- the distinct counts of prefixes
  pub row_count : Cardinality (PrefixCounts b.events (log_of b)) (tally b).row_count
  unfolding tally
  row_count = rows-number b.events (log_of b)

  -- the steps that some prefix with these counts is followed by
  pub allowed-count : Cardinality (Follows b.events (log_of b)) (tally b).allowed_count
  unfolding tally
  allowed-count = allowed-number b.events (log_of b) below

  -- the wrong continuations that the net refuses
  pub refused-count : Cardinality (λ s. WrongContinuation b.events (log_of b) s × T (not (net_permits b.events b.net s)))
      (tally b).by_place_count
  unfolding tally
  refused-count =
      let parts = (accepted-parts b).0 acc in
      refused-number b.events b.entries b.net parts.permitted parts.obeyed b.certificates parts.solved

  -- and those that it permits
  pub permitted-count : Cardinality (λ s. WrongContinuation b.events (log_of b) s × T (net_permits b.events b.net s)) (tally b).by_weights_count
  unfolding tally
  permitted-count =
      let parts = (accepted-parts b).0 acc in
      permitted-number b.events b.entries b.net parts.permitted parts.obeyed b.certificates parts.solved
