-- The order of the rows, by first occurrence among the prefixes, and of the wrong continuations, by row, then event.
use Rattle.std.specs.Prelude.{◌≡◌, Bool, true, cond, ◌↔◌, ℕ}
use Rattle.std.proofs.Math.Path.{refl, sym, subst}
use Rattle.std.proofs.Common.{ap, ◌∙◌, ⊎_elim}
use Rattle.std.proofs.Math.Bool.{false, not}
use Rattle.std.proofs.Math.Logic.{inl, inr}
use mathlib.Core.List.Memᴰ
use mathlib.Core.List.{List, [], ◌∷◌, ◌++◌, map, flat_map, foldl, Memᴰ}
use Rattle.std.proofs.Math.Dec.{T}
use Rattle.std.proofs.Math.Seq.{append_snoc}
use Rattle.laws.specs.Lists.{member, →member, flat_map-member}
use Rattle.laws.specs.Sorting.{Sorted, sorted_append, sorted_keep, sorted_tabulate}
use Rattle.nets.specs.Nets.{Word, Log, Counts, prefixes, add_row, counts, rows, allowed, row_steps, continuations, wrong_continuations}
use Rattle.nets.proofs.Rows.{add_row-old, add_row-new, add_row_cases, row_steps→}
use Rattle.nets.specs.Order.{Earlier, Before}

module _ (n : ℕ) (log : Log) where
  -- the rows of the first prefixes, `done`, are old
  abbrev RowsOf : List Word → List Counts → Type 0
  RowsOf done old = (v : Counts) → Memᴰ v old ↔ ((u : Word) × Memᴰ u done × (counts n u ≡ v))

  rows_next : (done : List Word) (u : Word) (old : List Counts) → RowsOf done old → RowsOf (done ++ u ∷ []) (add_row old (counts n u))
  rows_next done u old m v = (
    (λ k. ⊎_elim
        (λ o. let r = (m v).0 o in (r.0, Memᴰ.append_left (u ∷ []) r.1, r.2))
        (λ e. (u, Memᴰ.append_right done (Memᴰ.head refl), sym e))
        (add_row_cases old (counts n u) k)),
    (λ (w, k, e). ⊎_elim
        (λ o. add_row-old old (counts n u) ((m v).1 (w, o, e)))
        (λ o. Memᴰ.cast (sym e ∙ ap (counts n) (Memᴰ.eq_of_singleton o)) (add_row-new old (counts n u)))
        (Memᴰ.append_cases done k)),
  )

  row_sorted : (done us : List Word) (u : Word) (old : List Counts) → prefixes log ≡ done ++ u ∷ us → RowsOf done old → Sorted (Earlier n log) old
      → Sorted (Earlier n log) (add_row old (counts n u))
  unfolding add_row
  row_sorted done us u old is m s = go (member (counts n u) old) refl
    where
      new : member (counts n u) old ≡ false → (x y : Counts) → Memᴰ x old → Memᴰ y (counts n u ∷ []) → Earlier n log x y
      new e x y k o = subst (Earlier n log x) (sym (Memᴰ.eq_of_singleton o)) (record {
        front = done;
        rest = u ∷ us;
        listed = is;
        there = (m x).0 k;
        absent = λ w l q. subst T e (→member (counts n u) old ((m (counts n u)).1 (w, l, q)));
      })

      go : (b : Bool) → member (counts n u) old ≡ b → Sorted (Earlier n log) (cond b old (old ++ counts n u ∷ []))
      go true e = s
      go false e = sorted_append (Earlier n log) old (counts n u ∷ []) s ((λ y o. absurd (Memᴰ.not-nil o)), tt) (new e)

  fold_sorted : (us done : List Word) (old : List Counts) → prefixes log ≡ done ++ us → RowsOf done old → Sorted (Earlier n log) old
      → Sorted (Earlier n log) (foldl add_row old (map (counts n) us))
  fold_sorted [] done old is m s = s
  fold_sorted (u ∷ us) done old is m s =
      fold_sorted us (done ++ u ∷ []) (add_row old (counts n u))
      (is ∙ sym (append_snoc done u us)) (rows_next done u old m) (row_sorted done us u old is m s)

  -- 'Rows are numbered by first occurrence'
  pub rows_sorted : Sorted (Earlier n log) (rows n log)
  unfolding rows
  rows_sorted = fold_sorted (prefixes log) [] [] refl (λ v. ((λ m. absurd (Memᴰ.not-nil m)), λ h. absurd (Memᴰ.not-nil h.1))) tt

  continuations_sorted : Sorted (Before n log) (continuations n log)
  unfolding continuations flat_map row_steps
  continuations_sorted = flat (rows n log) rows_sorted
    where
      flat : (vs : List Counts) → Sorted (Earlier n log) vs → Sorted (Before n log) (flat_map (row_steps n) vs)
      flat [] s = tt
      flat (v ∷ vs) s = sorted_append (Before n log) (row_steps n v) (flat_map (row_steps n) vs)
          (sorted_tabulate (Before n log) n (λ e. record { row = v; event = e }) (λ i j l. inr (refl, l))) (flat vs s.1) (λ x y m k.
          let q = flat_map-member (row_steps n) vs k in
          let one = sym (row_steps→ n log v x m).0 in
          let two = sym (row_steps→ n log q.0 y q.2).0 in
          inl (subst (λ (a : Counts). Earlier n log a y.row) one (subst (Earlier n log v) two (s.0 q.0 q.1))))

  -- 'their order is by row, then event'
  pub wrong_sorted : Sorted (Before n log) (wrong_continuations n log)
  unfolding wrong_continuations
  wrong_sorted = sorted_keep (Before n log) (λ s. not (allowed n log s)) (continuations n log) continuations_sorted
