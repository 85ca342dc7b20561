-- Wider count vectors: with zeros from n on, as the twelve counts of a table row, the rows, the allowed steps and what a place permits
-- stay the same.
use Rattle.std.specs.Prelude.{◌≡◌, Bool, ℕ, ◌+◌, T, ℤ, pos, ◌-ℤ◌, length, replicate}
use Rattle.std.proofs.Math.Path.{refl, sym, ap}
use Rattle.std.proofs.Common.{◌∙◌, arith}
use Rattle.std.proofs.Math.Bool.{true, false, cond}
use mathlib.Core.List.Memᴰ
use mathlib.Core.List.{List, [], ◌∷◌, ◌++◌, append_cancel_right, map, map-map, foldl}
use Rattle.std.proofs.Math.ListN.{get_or-eq_default}
use Rattle.std.specs.Int.Signed.{non_neg}
use Rattle.laws.specs.Booleans.{same_test}
use Rattle.laws.specs.Parts.{get_d_padded}
use Rattle.laws.specs.Lists.{member, member→, →member, map-append, map_same}
use Rattle.nets.specs.Nets.{Word, Log, Counts, Place, counts, surplus, place_permits, prefixes, add_row, rows, allowed}
use Rattle.nets.specs.Words.{Prefix, allowed→, →allowed, prefix-shorter}
use Rattle.nets.specs.Fits.{LogBelow, prefix-below}
use Rattle.nets.specs.CountLaws.{counts-wide}
use Rattle.nets.specs.Surplus.{tokens-row, tokens-wide}

-- rows added under a renaming of count vectors that keeps them apart
module _ (f : Counts → Counts) (apart : (u v : Counts) → f u ≡ f v → u ≡ v) where
  member-map : (v : Counts) (l : List Counts) → member (f v) (map f l) ≡ member v l
  member-map v l = same_test _ _
      (λ t. let r = Memᴰ.of_map f l (member→ (f v) (map f l) t) in →member v l (Memᴰ.cast (sym (apart r.0 v r.2)) r.1))
      (λ t. →member (f v) (map f l) (Memᴰ.map f (member→ v l t)))

  add_row-map : (l : List Counts) (v : Counts) → add_row (map f l) (f v) ≡ map f (add_row l v)
  unfolding add_row
  add_row-map l v = rw (member-map v l) (go (member v l))
    where
      go : (b : Bool) → cond b (map f l) (map f l ++ f v ∷ []) ≡ map f (cond b l (l ++ v ∷ []))
      go true = refl
      go false = sym (map-append f l (v ∷ []))

  fold-map : (vs l : List Counts) → foldl add_row (map f l) (map f vs) ≡ map f (foldl add_row l vs)
  fold-map [] l = refl
  fold-map (v ∷ vs) l = ap (λ (r : List Counts). foldl add_row r (map f vs)) (add_row-map l v) ∙ fold-map vs (add_row l v)

-- with k zeros behind
abbrev pub wide : ℕ → Counts → Counts
wide k v = v ++ replicate k 0

module _ (n k : ℕ) (log : Log) (below : LogBelow n log) where
  wide-counts : (u : Word) → Prefix log u → counts (n + k) u ≡ wide k (counts n u)
  wide-counts u m = counts-wide n k u (prefix-below n log below u m)

  pub rows-wide : rows (n + k) log ≡ map (wide k) (rows n log)
  unfolding rows
  rows-wide =
      ap (foldl add_row [])
      (map_same (counts (n + k)) (λ u. wide k (counts n u)) (prefixes log) wide-counts
      ∙ sym (map-map (wide k) (counts n) (prefixes log)))
      ∙ fold-map (wide k) (λ u v e. append_cancel_right u v (replicate k 0) e) (map (counts n) (prefixes log)) []

  pub allowed-wide : (v : Counts) (e : ℕ) → allowed (n + k) log (record { row = wide k v; event = e }) ≡ allowed n log (record { row = v; event = e })
  allowed-wide v e = same_test _ _ to from
    where
      to : T (allowed (n + k) log (record { row = wide k v; event = e })) → T (allowed n log (record { row = v; event = e }))
      to t =
          let f = allowed→ (n + k) log (record { row = wide k v; event = e }) t in
          let here = wide-counts f.0 (prefix-shorter log f.0 (e ∷ []) f.2) in
          →allowed n log (record { row = v; event = e }) (f.0, append_cancel_right (counts n f.0) v (replicate k 0) (sym here ∙ f.1), f.2)

      from : T (allowed n log (record { row = v; event = e })) → T (allowed (n + k) log (record { row = wide k v; event = e }))
      from t =
          let f = allowed→ n log (record { row = v; event = e }) t in
          let here = wide-counts f.0 (prefix-shorter log f.0 (e ∷ []) f.2) in
          →allowed (n + k) log (record { row = wide k v; event = e }) (f.0, here ∙ ap (wide k) f.1, f.2)

-- zeros behind the counts of n events change nothing
pub permits-wide : (n k : ℕ) (p : Place) (v : Counts) (e : ℕ) → length v ≡ n
    → place_permits (n + k) p (record { row = wide k v; event = e }) ≡ place_permits n p (record { row = v; event = e })
unfolding place_permits surplus
permits-wide n k p v e size =
    ap (λ (z : ℤ). non_neg (z -ℤ pos (p.consumed e)))
    (tokens-row (n + k) p (wide k v) v (λ i _. get_d_padded v k i 0) ∙ tokens-wide n k p v (λ i b. get_or-eq_default v 0 (omega arith)))
