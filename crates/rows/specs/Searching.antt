-- Laws of a table: comparing counts, looking for a row, and clearing.
use Rattle.std.specs.Prelude.{◌≡◌, refl, Bool, true, false, not, ◌&&◌, List, [], ◌∷◌, ℕ, zero, suc, ◌+◌, ◌*◌, ◌<◌, ◌≤◌, length, get_or, take, drop, set, eqb, fold, zip, Option, Some, None, MatchOption, IfSome, unwrap_or}
use Rattle.std.proofs.Common.{sym, ap, ◌∙◌, zero-le, arith, lt-ltb, le-ltb}
use Rattle.std.proofs.Math.Bool.{and-true, and_assoc}
use Rattle.std.proofs.lemmas.List.Edits.{fill_more}
use Rattle.laws.specs.Lists.{equal}
use Rattle.laws.specs.Scans.{first_failing, failing-never, failing-exactly}
use Rattle.nets.specs.Nets.{Counts}
use Rattle.rows.specs.Rows.{row_size, Row, row_at, new_row, none, rows_of, find_row, found, cleared}
use Rattle.rows.specs.Flat.{length-rows, rows_at}

-- counts compared pair by pair
equal-from : (b : Bool) (u v : List ℕ) → length u ≡ length v → fold (λ (s : Bool) (p : ℕ × ℕ). s && eqb p.0 p.1) b (zip u v) ≡ (b && equal u v)
unfolding equal
equal-from b [] [] h = sym (and-true b)
equal-from b [] (y ∷ v) h = absurd (omega arith)
equal-from b (x ∷ u) [] h = absurd (omega arith)
equal-from b (x ∷ u) (y ∷ v) h = equal-from (b && eqb x y) u v (omega arith) ∙ and_assoc b (eqb x y) (equal u v)

pub equal-fold : (u v : List ℕ) → length u ≡ length v → fold (λ (s : Bool) (p : ℕ × ℕ). s && eqb p.0 p.1) true (zip u v) ≡ equal u v
equal-fold u v h = equal-from true u v h

-- and part by part
pub equal-parts : (k : ℕ) (u v : List ℕ) → (equal (take k u) (take k v) && equal (drop k u) (drop k v)) ≡ equal u v
unfolding equal
equal-parts zero u v = refl
equal-parts (suc k) [] [] = refl
equal-parts (suc k) [] (y ∷ v) = refl
equal-parts (suc k) (x ∷ u) [] = refl
equal-parts (suc k) (x ∷ u) (y ∷ v) =
    and_assoc (eqb x y) (equal (take k u) (take k v)) (equal (drop k u) (drop k v)) ∙ ap (λ (b : Bool). eqb x y && b) (equal-parts k u v)

-- what is found below k, where there is something, is the lowest row
pub found_from : (v : Counts) (k : ℕ) (t : List ℕ) (r : Option ℕ) → IfSome r (λ x. x < k)
    → unwrap_or r k ≡ find_row v (rows_of k t) → r ≡ found v (rows_of k t)
unfolding found
found_from v k t None h e = rw (le-ltb (find_row v (rows_of k t)) (length (rows_of k t)) (rw length-rows (omega arith)))
found_from v k t (Some r) h e = rw (lt-ltb (find_row v (rows_of k t)) (length (rows_of k t)) (rw length-rows (omega arith)), e)

-- the counts of row k are v
abbrev pub HasCounts : Counts → List ℕ → ℕ → Bool → Type 0
HasCounts v t k b = equal (row_at (drop (row_size * k) t)).counts v ≡ b

-- a search through n rows that gives the first with the counts v
module _ (v : Counts) (t : List ℕ) (n : ℕ) where
  outcome : (k : ℕ) (b : Bool) → k < n → HasCounts v t k b → not (equal (get_or (rows_of n t) k (new_row none)).counts v) ≡ not b
  outcome k b h e = ap (λ (x : Row). not (equal x.counts v)) (rows_at n t k (new_row none) h) ∙ ap not e

  pub found_first : (r : Option ℕ)
      → MatchOption r ((k : ℕ) → 0 ≤ k → k < n → HasCounts v t k false)
      (λ i. (0 ≤ i) × (i < n) × HasCounts v t i true × ((k : ℕ) → 0 ≤ k → k < i → HasCounts v t k false))
      → r ≡ found v (rows_of n t)
  unfolding find_row
  found_first None past =
      let all : first_failing (λ x. not (equal x.counts v)) (rows_of n t) ≡ length (rows_of n t) =
      failing-never (λ x. not (equal x.counts v)) (new_row none) (rows_of n t)
      (λ k h. let h' : k < n = omega (arith, length-rows n t) in outcome k false h' (past k zero-le h')) in
      found_from v n t None tt (sym (all ∙ length-rows n t))
  found_first (Some i) (_, below, here, before) =
      let first = (failing-exactly (λ x. not (equal x.counts v)) (new_row none) (rows_of n t) i).1
      (rw length-rows below, outcome i true below here, λ k h. outcome k false (omega arith) (before k zero-le h)) in
      found_from v n t (Some i) below first.0

-- a loop that clears a list from the front
pub clear_none : (t : List ℕ) → t ≡ cleared 0 t
unfolding cleared
clear_none t = refl

pub clear-more : (i : ℕ) (t : List ℕ) → i < length t → set (cleared i t) i 0 ≡ cleared (i + 1) t
unfolding cleared
clear-more i t h = fill_more i 0 t h
