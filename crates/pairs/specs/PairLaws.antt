-- The pairs of a certificate, weighed by the rows that are noted, are those of the definitions.
use Rattle.std.specs.Prelude.{◌≡◌, true, ◌&&◌, List, [], ◌∷◌, ℕ, ◌+◌, ◌≤◌, ◌<◌, pos, ◌+ℤ◌, ◌*ℤ◌, length, get_or, Option, Some, None}
use Rattle.std.proofs.Common.{refl, sym, ap, ap₂, ◌∙◌, arith}
use mathlib.Core.List.{map}
use Rattle.std.proofs.Math.IntN.{*ℤ_comm, zero-*ℤ}
use Rattle.std.proofs.Math.ListN.{get_or-eq_default}
use Rattle.laws.specs.Booleans.{impossible, and_left, and_right}
use Rattle.laws.specs.Every.{Every}
use Rattle.laws.specs.Lists.{all, get_d_member}
use Rattle.laws.specs.Parts.{get_d_padded}
use Rattle.limits.specs.Limits.{max_events}
use Rattle.nets.specs.Nets.{Word, Entry, no_entry, at, counts}
use Rattle.nets.specs.Bundle.{Pair, names_completed, pair_counts, paired}
use Rattle.nets.specs.CountLaws.{length-counts, counts-wide}
use Rattle.nets.specs.LogLaws.{entry-word}
use Rattle.rows.specs.Rows.{Row}
use Rattle.logs.specs.Log.{log_rows}
use Rattle.bundles.specs.Layout.{PairFields, Head, PairInLimits, PairsInLimits, to_pair, signed, words_in, LogBelowIn}
use Rattle.heads.specs.Noted.{Noted, noted-partial, noted-completed}
use Rattle.pairs.specs.Pairs.{counts_for, is_noted, noted_for, all_noted, paired_rows}

-- from n on, no count is above 0
pub paired-beyond : (n : ℕ) (entries : List Entry) (qs : List Pair) (i : ℕ) → n ≤ i → paired n entries qs i ≡ pos 0
unfolding paired pair_counts
paired-beyond n entries [] i b = refl
paired-beyond n entries (q ∷ qs) i b =
    let w : Word = (get_or entries q.number no_entry).word in
    let none : at (counts n w) i ≡ 0 = get_or-eq_default (counts n w) 0 {n = i} (omega (arith, length-counts n w)) in
    ap₂ ◌+ℤ◌ (ap (λ (k : ℕ). q.weight *ℤ pos k) none ∙ *ℤ_comm q.weight (pos 0) ∙ zero-*ℤ q.weight) (paired-beyond n entries qs i b)

module _ (h : Head) (k' : ℕ) (width : h.events + k' ≡ max_events)
    (below : LogBelowIn h) {noted : List (Option ℕ)} (rows-noted : Noted h.entries noted) where
  abbrev rs : List Row
  rs = log_rows (words_in h)

  -- a row is noted exactly where the word is completed
  names-is : (q : PairFields) → q.word < length h.entries → is_noted (noted_for noted q) ≡ names_completed h.events h.entries (to_pair q)
  unfolding names_completed to_pair is_noted
  names-is q inside = go (get_or noted q.word None) refl
    where
      go : (o : Option ℕ) → get_or noted q.word None ≡ o → is_noted o ≡ (get_or h.entries q.word no_entry).completed
      go (Some r) e = sym (noted-completed rows-noted q.word inside e).0
      go None e = sym (noted-partial rows-noted q.word inside e)

  -- THE LAW, of the words: all that are named are completed
  pub noted-is : (qs : List PairFields) → PairsInLimits h qs → all_noted noted qs ≡ all (names_completed h.events h.entries) (map to_pair qs)
  unfolding all_noted all
  noted-is qs l = go qs l.each
    where
      go : (qs : List PairFields) → Every (PairInLimits h) qs → all_noted noted qs ≡ all (names_completed h.events h.entries) (map to_pair qs)
      go [] v = refl
      go (q ∷ qs) v = ap₂ ◌&&◌ (names-is q v.0.word) (go qs v.1)

  -- the counts of a row that is noted are those of the word, with zeros from n on
  counts-is : (q : PairFields) → q.word < length h.entries → is_noted (noted_for noted q) ≡ true → (i : ℕ)
      → at (counts_for rs (noted_for noted q)) i ≡ at (pair_counts h.events h.entries (to_pair q)) i
  unfolding is_noted counts_for pair_counts to_pair
  counts-is q inside named i = go (get_or noted q.word None) refl named
    where
      x : Entry
      x = get_or h.entries q.word no_entry

      go : (o : Option ℕ) → get_or noted q.word None ≡ o → is_noted o ≡ true
          → at (counts_for rs o) i ≡ at (counts h.events (get_or h.entries q.word no_entry).word) i
      go (Some r) e t =
          let row = (noted-completed rows-noted q.word inside e).2 in
          let wide = ap (λ (n : ℕ). counts n x.word) (sym width)
          ∙ counts-wide h.events k' x.word (below x.word (entry-word h.entries (get_d_member h.entries q.word no_entry inside))) in
          ap (λ (v : List ℕ). at v i) (row ∙ wide) ∙ get_d_padded (counts h.events x.word) k' i 0
      go None e t = impossible cc

  -- THE LAW, of the weights: at each event, the sum is that of the definitions
  pub paired-is : (qs : List PairFields) → PairsInLimits h qs → all_noted noted qs ≡ true → (i : ℕ)
      → paired_rows rs noted qs i ≡ paired h.events h.entries (map to_pair qs) i
  unfolding paired_rows paired to_pair all_noted all
  paired-is qs l named i = go qs l.each named
    where
      go : (qs : List PairFields) → Every (PairInLimits h) qs → all_noted noted qs ≡ true
          → paired_rows rs noted qs i ≡ paired h.events h.entries (map to_pair qs) i
      go [] v e = refl
      go (q ∷ qs) v e = ap₂ ◌+ℤ◌
          (ap (λ (k : ℕ). signed q.weight *ℤ pos k) (counts-is q v.0.word (and_left (is_noted (noted_for noted q)) (all_noted noted qs) e) i))
          (go qs v.1 (and_right (is_noted (noted_for noted q)) (all_noted noted qs) e))
