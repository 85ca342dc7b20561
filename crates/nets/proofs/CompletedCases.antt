-- What completed words change, for every net: steps that each net permits which permits the log and obeys it, and that some net refuses which only
-- permits the log.
use Rattle.std.specs.Prelude.{◌≡◌, true, [], ◌∷◌, List, ℕ, ◌++◌, ◌<◌, T}
use Rattle.std.proofs.Common.{sym, subst, arith}
use Rattle.std.proofs.Math.Path.{refl}
use mathlib.Core.List.Memᴰ
use Rattle.std.specs.Float.Ieee.Fits.{and_i}
use Rattle.nets.specs.Nets.{Word, Entry, words, net_permits, permits, step_after}
use Rattle.nets.specs.Bundle.{Weights, weights_hold}
use Rattle.nets.specs.Words.{Prefix, empty-prefix, word-prefix, prefix-shorter, permits_snoc, permits-prefix, EveryNetPermits, EveryObeyingNetPermits}
use Rattle.nets.proofs.Certificates.{weights-net}
use Rattle.nets.proofs.Comparison.{contained-same, first-exactly}
use Rattle.nets.specs.Cases.{two_sales, ends_twice, one_first, below, inner, inner_weights, idle_log, idle_bundle, kept, used}
use Rattle.nets.proofs.Cases.{computed}

-- h above 0, by the comparison of an accepted bundle with itself: a third sale begins as the first two
pub third-begins : EveryObeyingNetPermits 2 idle_log (two_sales ++ 0 ∷ [])
unfolding words
third-begins =
    let accepts = subst T (sym computed.idle_accepted) tt in
    let sales : Prefix (words idle_log) two_sales = word-prefix (words idle_log) two_sales (Memᴰ.head refl) in
    (first-exactly idle_bundle idle_bundle accepts accepts (contained-same 2 idle_log) two_sales sales 0 (omega arith)).0
    (subst T (sym computed.idle_permits) tt)

pub third-refused : EveryNetPermits 2 (words idle_log) (two_sales ++ 0 ∷ []) → ⊥
third-refused h = subst T computed.used_refuses (h (used ∷ []) (subst T (sym computed.used_permits) tt))

-- a prefix with one event more, for which weights hold
module _ (n : ℕ) (entries : List Entry) (u : Word) (e : ℕ) (w : Weights) where
  every-permits : weights_hold n entries (step_after n u e) w ≡ true → Prefix (words entries) u → e < n
      → EveryObeyingNetPermits n entries (u ++ e ∷ [])
  every-permits holds pre below net permitted obeyed =
      let before = permits-prefix n net (words entries) permitted u pre in
      let last = weights-net n entries (step_after n u e) w (subst T (sym holds) tt) below net permitted obeyed in
      rw permits_snoc (and_i (permits n net u) (net_permits n net (step_after n u e)) before last)

-- h below 0: what may end a sale may begin one
pub first-ends : EveryObeyingNetPermits 2 ends_twice (1 ∷ [])
first-ends = every-permits 2 ends_twice [] 1 (one_first below) computed.below_holds (empty-prefix (words ends_twice)) (omega arith)

pub first-refused : EveryNetPermits 2 (words ends_twice) (1 ∷ []) → ⊥
first-refused h = subst T computed.kept_refuses (h (kept ∷ []) (subst T (sym computed.kept_permits) tt))

-- 001, 3.1.2: b may follow a b c
pub inner-repeats : EveryObeyingNetPermits 4 inner (0 ∷ 1 ∷ 2 ∷ 1 ∷ [])
unfolding words
inner-repeats =
    let whole : Prefix (words inner) (0 ∷ 1 ∷ 2 ∷ 3 ∷ []) = word-prefix (words inner) (0 ∷ 1 ∷ 2 ∷ 3 ∷ []) (Memᴰ.tail (Memᴰ.head refl)) in
    let shorter = prefix-shorter (words inner) (0 ∷ 1 ∷ 2 ∷ []) (3 ∷ []) whole in
    every-permits 4 inner (0 ∷ 1 ∷ 2 ∷ []) 1 inner_weights computed.inner_holds shorter (omega arith)
