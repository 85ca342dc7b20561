-- The rows of a log, and its allowed steps and wrong continuations: their members, and that none stands there twice.
use Rattle.std.specs.Prelude.{◌≡◌, Bool, cond, ◌⊎◌, ℕ, zero, suc, ◌<◌, ◌≤◌, length, get_or}
use Rattle.std.proofs.Math.Path.{refl, sym, ap, subst}
use Rattle.std.proofs.Common.{◌∙◌, arith}
use Rattle.std.proofs.Math.Bool.{true, false, not}
use Rattle.std.proofs.Math.Logic.{inl, inr, ⊎_elim}
use mathlib.Core.List.Memᴰ
use mathlib.Core.List.{List, [], ◌∷◌, ◌++◌, map, flat_map, foldl, Memᴰ}
use Rattle.std.proofs.Math.Dec.{T}
use Rattle.laws.specs.Lists.{any, keep-member, keep_intro, get_d_member, member, member→, →member, tabulate-member, tabulate_inverse, flat_map-member, flat_map_intro}
use Rattle.laws.specs.Distinct.{Distinct, distinct_append, distinct-keep, distinct-tabulate, distinct-flat_map}
use Rattle.nets.specs.Nets.{Word, Log, Counts, Step, counts, beginnings, prefixes, add_row, rows, allowed, row_steps, continuations, allowed_steps, wrong_continuations}
use Rattle.nets.specs.Words.{Prefix}

-- ---- one row more

module _ (old : List Counts) (v : Counts) where
  pub add_row-old : {x : Counts} → Memᴰ x old → Memᴰ x (add_row old v)
  unfolding add_row
  add_row-old {x} m = go (member v old)
    where
      go : (b : Bool) → Memᴰ x (cond b old (old ++ v ∷ []))
      go true = m
      go false = Memᴰ.append_left (v ∷ []) m

  pub add_row-new : Memᴰ v (add_row old v)
  unfolding add_row
  add_row-new = go (member v old) refl
    where
      go : (b : Bool) → member v old ≡ b → Memᴰ v (cond b old (old ++ v ∷ []))
      go true e = member→ v old (subst T (sym e) tt)
      go false e = Memᴰ.append_right old (Memᴰ.head refl)

  pub add_row_cases : {x : Counts} → Memᴰ x (add_row old v) → Memᴰ x old ⊎ (x ≡ v)
  unfolding add_row
  add_row_cases {x} m = go (member v old) m
    where
      go : (b : Bool) → Memᴰ x (cond b old (old ++ v ∷ [])) → Memᴰ x old ⊎ (x ≡ v)
      go true k = inl k
      go false k = ⊎_elim (λ o. inl o) (λ w. inr (Memᴰ.eq_of_singleton w)) (Memᴰ.append_cases old k)

  pub add_row-distinct : Distinct old → Distinct (add_row old v)
  unfolding add_row
  add_row-distinct d = go (member v old) refl
    where
      clash : member v old ≡ false → (x : Counts) → Memᴰ x old → Memᴰ x (v ∷ []) → ⊥
      clash e x m k = subst T e (→member v old (Memᴰ.cast (sym (Memᴰ.eq_of_singleton k)) m))

      go : (b : Bool) → member v old ≡ b → Distinct (cond b old (old ++ v ∷ []))
      go true e = d
      go false e = distinct_append old (v ∷ []) d (Memᴰ.not-nil, tt) (clash e)

-- ---- all rows

fold-old : (vs : List Counts) (old : List Counts) {x : Counts} → Memᴰ x old → Memᴰ x (foldl add_row old vs)
fold-old [] old m = m
fold-old (v ∷ vs) old m = fold-old vs (add_row old v) (add_row-old old v m)

fold-new : (vs : List Counts) (old : List Counts) {x : Counts} → Memᴰ x vs → Memᴰ x (foldl add_row old vs)
fold-new [] old x3 = elim x3 [ ]
fold-new (v ∷ vs) old (Memᴰ.head e) = fold-old vs (add_row old v) (Memᴰ.cast e (add_row-new old v))
fold-new (v ∷ vs) old (Memᴰ.tail m) = fold-new vs (add_row old v) m

fold_cases : (vs : List Counts) (old : List Counts) {x : Counts} → Memᴰ x (foldl add_row old vs) → Memᴰ x old ⊎ Memᴰ x vs
fold_cases [] old m = inl m
fold_cases (v ∷ vs) old {x} m = ⊎_elim first (λ k. inr (Memᴰ.tail k)) (fold_cases vs (add_row old v) m)
  where
    first : Memᴰ x (add_row old v) → Memᴰ x old ⊎ Memᴰ x (v ∷ vs)
    first k = ⊎_elim (λ o. inl o) (λ e. inr (Memᴰ.head e)) (add_row_cases old v k)

fold-first : (vs : List Counts) (x : Counts) (old : List Counts) → get_or (foldl add_row (x ∷ old) vs) 0 [] ≡ x
unfolding add_row
fold-first [] x old = refl
fold-first (v ∷ vs) x old = go (fold-first vs x) (member v (x ∷ old))
  where
    go : ((l : List Counts) → get_or (foldl add_row (x ∷ l) vs) 0 [] ≡ x) → (b : Bool)
        → get_or (foldl add_row (cond b (x ∷ old) (x ∷ (old ++ v ∷ []))) vs) 0 [] ≡ x
    go rest true = rest old
    go rest false = rest (old ++ v ∷ [])

fold-distinct : (vs : List Counts) (old : List Counts) → Distinct old → Distinct (foldl add_row old vs)
fold-distinct [] old d = d
fold-distinct (v ∷ vs) old d = fold-distinct vs (add_row old v) (add_row-distinct old v d)

module _ (n : ℕ) (log : Log) where
  pub row→ : {v : Counts} → Memᴰ v (rows n log) → (u : Word) × Prefix log u × (counts n u ≡ v)
  unfolding rows
  row→ m = ⊎_elim (λ k. absurd (Memᴰ.not-nil k)) (λ k. Memᴰ.of_map (counts n) (prefixes log) k) (fold_cases (map (counts n) (prefixes log)) [] m)

  pub →row : (u : Word) → Prefix log u → Memᴰ (counts n u) (rows n log)
  unfolding rows
  →row u m = fold-new (map (counts n) (prefixes log)) [] (Memᴰ.map (counts n) m)

  pub rows-distinct : Distinct (rows n log)
  unfolding rows
  rows-distinct = fold-distinct (map (counts n) (prefixes log)) [] tt

  -- row 0 is that of the empty word, and no other row is
  pub first-row : get_or (rows n log) 0 [] ≡ counts n []
  unfolding rows prefixes add_row any
  first-row = fold-first (map (counts n) (flat_map beginnings log)) (counts n []) []

  pub other_row : (r : ℕ) → 1 ≤ r → r < length (rows n log) → get_or (rows n log) r [] ≡ counts n [] → ⊥
  other_row r some there same = apart (rows n log) rows-distinct r some there (same ∙ sym first-row)
    where
      apart : (l : List Counts) → Distinct l → (r : ℕ) → 1 ≤ r → r < length l → get_or l r [] ≡ get_or l 0 [] → ⊥
      apart [] d r some there q = absurd (omega arith)
      apart (x ∷ l) d zero some there q = absurd (omega arith)
      apart (x ∷ l) d (suc r) some there q = d.0 (Memᴰ.cast (sym q) (get_d_member l r [] (omega arith)))

  pub row_steps→ : (v : Counts) (s : Step) → Memᴰ s (row_steps n v) → (s.row ≡ v) × (s.event < n)
  unfolding row_steps
  row_steps→ v s m =
      let r = tabulate_inverse n (λ e. record { row = v; event = e }) m in
      (ap (λ (t : Step). t.row) r.2, subst (λ (e : ℕ). e < n) (sym (ap (λ (t : Step). t.event) r.2)) r.1)

  →row_steps : (s : Step) → s.event < n → Memᴰ s (row_steps n s.row)
  unfolding row_steps
  →row_steps s h = tabulate-member n (λ e. record { row = s.row; event = e }) s.event h

  pub continuation→ : (s : Step) → Memᴰ s (continuations n log) → Memᴰ s.row (rows n log) × (s.event < n)
  unfolding continuations
  continuation→ s m =
      let r = flat_map-member (row_steps n) (rows n log) m in
      let q = row_steps→ r.0 s r.2 in
      (Memᴰ.cast q.0 r.1, q.1)

  pub →continuation : (s : Step) → Memᴰ s.row (rows n log) → s.event < n → Memᴰ s (continuations n log)
  unfolding continuations
  →continuation s m h = flat_map_intro (row_steps n) (rows n log) m (→row_steps s h)

  pub continuations-distinct : Distinct (continuations n log)
  unfolding continuations row_steps
  continuations-distinct =
      distinct-flat_map (row_steps n) (rows n log) rows-distinct
      (λ v. distinct-tabulate n (λ e. record { row = v; event = e }) (λ i j q. ap (λ (t : Step). t.event) q))
      (λ v w s a b. sym (row_steps→ v s a).0 ∙ (row_steps→ w s b).0)

  pub allowed_step→ : (s : Step) → Memᴰ s (allowed_steps n log) → Memᴰ s (continuations n log) × T (allowed n log s)
  unfolding allowed_steps
  allowed_step→ s m = keep-member (allowed n log) (continuations n log) m

  pub →allowed_step : (s : Step) → Memᴰ s (continuations n log) → T (allowed n log s) → Memᴰ s (allowed_steps n log)
  unfolding allowed_steps
  →allowed_step s m t = keep_intro (allowed n log) (continuations n log) m t

  pub allowed_steps-distinct : Distinct (allowed_steps n log)
  unfolding allowed_steps
  allowed_steps-distinct = distinct-keep (allowed n log) (continuations n log) continuations-distinct

  pub wrong→ : (s : Step) → Memᴰ s (wrong_continuations n log) → Memᴰ s (continuations n log) × T (not (allowed n log s))
  unfolding wrong_continuations
  wrong→ s m = keep-member (λ s. not (allowed n log s)) (continuations n log) m

  pub →wrong : (s : Step) → Memᴰ s (continuations n log) → T (not (allowed n log s)) → Memᴰ s (wrong_continuations n log)
  unfolding wrong_continuations
  →wrong s m t = keep_intro (λ s. not (allowed n log s)) (continuations n log) m t

  pub wrong_distinct : Distinct (wrong_continuations n log)
  unfolding wrong_continuations
  wrong_distinct = distinct-keep (λ s. not (allowed n log s)) (continuations n log) continuations-distinct
