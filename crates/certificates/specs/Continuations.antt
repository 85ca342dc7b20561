-- The continuations of a log in one list, by row, then event.
use Rattle.std.specs.Prelude.{◌≡◌}
use Rattle.std.proofs.Math.Path.{sym, ap}
use Rattle.std.proofs.Common.{◌∙◌, zero-mul, le_of_suc-le-suc, not-suc-le-zero}
use mathlib.Core.List.{List, [], ◌∷◌, ◌++◌, flat_map}
use Prim.Native.Nat.{ℕ, zero, suc, ◌+◌, ◌*◌, ◌<◌}
use Rattle.std.proofs.Math.Nat.{suc-mul}
use native.Mathlib.Omega.{arith}
use Rattle.std.proofs.Math.ListN.{length, get_or, length-append, get_or-append}
use Rattle.std.proofs.Math.Seq.{get_or-append-add}
use Rattle.laws.specs.Lists.{length-tabulate, get_d_tabulate}
use Rattle.nets.specs.Nets.{Step, Counts, row_steps}

-- ---- the continuations, by row, then event

module _ (n : ℕ) where
  row-length : (v : Counts) → length (row_steps n v) ≡ n
  unfolding row_steps
  row-length v = length-tabulate {A = Step} n (λ e. record { row = v; event = e })

  row_at : (v : Counts) (e : ℕ) (d : Step) → e < n → get_or (row_steps n v) e d ≡ record { row = v; event = e }
  unfolding row_steps
  row_at v e d h = get_d_tabulate {A = Step} n (λ e. record { row = v; event = e }) e d h

  pub steps-length : (vs : List Counts) → length (flat_map (row_steps n) vs) ≡ length vs * n
  unfolding flat_map
  steps-length [] = sym (zero-mul n)
  steps-length (v ∷ vs) =
      omega (arith, length-append (row_steps n v) (flat_map (row_steps n) vs), row-length v, steps-length vs, suc-mul (length vs) n)

  pub steps-at : (vs : List Counts) (i e : ℕ) (d : Step) → i < length vs → e < n
      → get_or (flat_map (row_steps n) vs) (i * n + e) d ≡ record { row = get_or vs i []; event = e }
  unfolding flat_map
  steps-at [] i e d h b = absurd (not-suc-le-zero h)
  steps-at (v ∷ vs) zero e d h b =
      let first : 0 * n + e ≡ e = omega arith in
      ap (λ (k : ℕ). get_or (row_steps n v ++ flat_map (row_steps n) vs) k d) first
      ∙ get_or-append (row_steps n v) (flat_map (row_steps n) vs) d e (omega (arith, row-length v))
      ∙ row_at v e d b
  steps-at (v ∷ vs) (suc i) e d h b =
      let later : suc i * n + e ≡ length (row_steps n v) + (i * n + e) = omega (arith, suc-mul i n, row-length v) in
      ap (λ (k : ℕ). get_or (row_steps n v ++ flat_map (row_steps n) vs) k d) later
      ∙ get_or-append-add (row_steps n v) (flat_map (row_steps n) vs) (i * n + e) d
      ∙ steps-at vs i e d (le_of_suc-le-suc h) b
