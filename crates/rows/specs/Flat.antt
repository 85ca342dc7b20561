-- How rows lie in a flat list, and one more behind them.
use Rattle.std.specs.Prelude.{◌≡◌, refl, not, List, [], ◌∷◌, ◌++◌, ℕ, zero, suc, ◌+◌, ◌*◌, ◌<◌, ◌≤◌, length, get_or, take, drop}
use Rattle.std.proofs.Common.{sym, ap, ◌∙◌, append_assoc, not-suc-le-zero, le_of_suc-le-suc, add-one, arith, length-append, length-take, length-drop, take-append-drop, drop-drop, take_at, drop_at, get_or-append-add, length-take-le, take-suc}
use Rattle.std.proofs.Math.ListN.{get_or-append}
use Rattle.std.proofs.lemmas.List.{get_or_at, take-append-le, drop-append-le}
use Rattle.std.proofs.Math.Seq.{append_snoc}
use Rattle.laws.specs.Lists.{equal}
use Rattle.laws.specs.Scans.{failing-most}
use Rattle.limits.specs.Limits.{max_events}
use Rattle.nets.specs.Nets.{Counts}
use Rattle.rows.specs.Rows.{row_size, traffic_offset, Row, row_at, numbers, rows_of, find_row, Holds, flat, with_rows}

-- THE LAYOUT OF A row_size: all that is known below of `row_at` and `numbers`.
-- A row is read from its first row_size numbers, which it is as numbers, and is read back from its numbers
row_at-append : (p q : List ℕ) → row_size ≤ length p → row_at (p ++ q) ≡ row_at p
unfolding row_at
row_at-append p q h =
    rw (take-append-le max_events p q (omega arith), get_or-append p q 0 max_events (omega arith), get_or-append p q 0 traffic_offset (omega arith))

pub row_at-front : (t : List ℕ) → row_size ≤ length t → row_at (take row_size t) ≡ row_at t
row_at-front t h =
    sym (row_at-append (take row_size t) (drop row_size t) (simp length-take (omega arith))) ∙ ap row_at (take-append-drop row_size t)

numbers-row_at : (t : List ℕ) → row_size ≤ length t → numbers (row_at t) ≡ take row_size t
unfolding row_at numbers
numbers-row_at t h =
    sym (take-suc t traffic_offset 0 (omega arith)
    ∙ ap (λ (l : List ℕ). l ++ (get_or t traffic_offset 0 ∷ [])) (take-suc t max_events 0 (omega arith))
    ∙ append_snoc (take max_events t) (get_or t max_events 0) (get_or t traffic_offset 0 ∷ []))

pub length-numbers : (r : Row) → length r.counts ≡ max_events → length (numbers r) ≡ row_size
unfolding numbers
length-numbers r n = simp length-append (omega arith)

pub row_at-numbers : (r : Row) (q : List ℕ) → length r.counts ≡ max_events → row_at (numbers r ++ q) ≡ r
unfolding row_at numbers
row_at-numbers r q n =
    let all : numbers r ++ q ≡ r.counts ++ (r.mask ∷ r.traffic ∷ q) = append_assoc r.counts (r.mask ∷ r.traffic ∷ []) q in
    let last : get_or (r.counts ++ (r.mask ∷ r.traffic ∷ q)) traffic_offset 0 ≡ r.traffic =
    ap (λ (k : ℕ). get_or (r.counts ++ (r.mask ∷ r.traffic ∷ q)) (k + 1) 0) (sym n) ∙ get_or-append-add r.counts (r.mask ∷ r.traffic ∷ q) 1 0 in
    rw (all, take_at r.counts (r.mask ∷ r.traffic ∷ q) max_events n, get_or_at r.counts r.mask (r.traffic ∷ q) 0 max_events n, last)

-- the counts at the front of a row are those of the row
pub counts-row_at : (t : List ℕ) → (row_at t).counts ≡ take max_events t
unfolding row_at
counts-row_at t = refl

-- there are as many rows as are asked for
pub length-rows : (k : ℕ) (t : List ℕ) → length (rows_of k t) ≡ k
unfolding rows_of
length-rows zero t = refl
length-rows (suc k) t = ap suc (length-rows k (drop row_size t))

-- row i
pub rows_at : (k : ℕ) (t : List ℕ) (i : ℕ) (d : Row) → i < k → get_or (rows_of k t) i d ≡ row_at (drop (row_size * i) t)
unfolding rows_of
rows_at zero t i d h = absurd (not-suc-le-zero h)
rows_at (suc k) t zero d h = refl
rows_at (suc k) t (suc i) d h =
    let next : row_size + row_size * i ≡ row_size * suc i = omega arith in
    rows_at k (drop row_size t) i d (le_of_suc-le-suc h) ∙ rw (drop-drop, next)

-- rows that lie in p do not depend on what follows it
pub rows_append : (k : ℕ) (p q : List ℕ) → row_size * k ≤ length p → rows_of k (p ++ q) ≡ rows_of k p
unfolding rows_of
rows_append zero p q h = refl
rows_append (suc k) p q h =
    let one : row_size ≤ length p = omega arith in
    let rest : row_size * k ≤ length (drop row_size p) = simp length-drop (omega arith) in
    rw (row_at-append p q one, drop-append-le row_size p q one, rows_append k (drop row_size p) q rest)

pub rows_take : (k : ℕ) (t : List ℕ) → row_size * k ≤ length t → rows_of k (take (row_size * k) t) ≡ rows_of k t
rows_take k t h =
    sym (rows_append k (take (row_size * k) t) (drop (row_size * k) t) (simp length-take (omega arith)))
    ∙ ap (rows_of k) (take-append-drop (row_size * k) t)

-- the last of k + 1 rows
pub rows_last : (k : ℕ) (t : List ℕ) → rows_of (suc k) t ≡ rows_of k t ++ (row_at (drop (row_size * k) t) ∷ [])
unfolding rows_of
rows_last zero t = refl
rows_last (suc k) t =
    let next : row_size + row_size * k ≡ row_size * suc k = omega arith in
    rw (rows_last k (drop row_size t), drop-drop, next)

-- a row r written after the k rows of t
pub append-row : (t : List ℕ) (r : Row) (k : ℕ) → row_size * k + row_size ≤ length t → length r.counts ≡ max_events
    → Holds (k + 1) (rows_of k t ++ (r ∷ [])) t (take (row_size * k) t ++ (numbers r ++ drop (row_size * suc k) t))
append-row t r k room n =
    let front : List ℕ = take (row_size * k) t in
    let rest : List ℕ = drop (row_size * suc k) t in
    let size : length front ≡ row_size * k = length-take-le (row_size * k) t (omega arith) in
    let here : drop (row_size * k) (front ++ (numbers r ++ rest)) ≡ numbers r ++ rest = drop_at front (numbers r ++ rest) (row_size * k) size in
    let old : rows_of k (front ++ (numbers r ++ rest)) ≡ rows_of k t =
    rows_append k front (numbers r ++ rest) (omega arith) ∙ rows_take k t (omega arith) in
    let split : row_size * suc k ≡ row_size * k + row_size = omega arith in
    let over : drop (row_size * suc k) (front ++ (numbers r ++ rest)) ≡ rest =
    ap (λ (m : ℕ). drop m (front ++ (numbers r ++ rest))) split
    ∙ sym (drop-drop row_size (row_size * k) (front ++ (numbers r ++ rest)))
    ∙ ap (drop row_size) here
    ∙ drop_at (numbers r) rest row_size (length-numbers r n) in
    rw add-one (record { front = rw (rows_last, old, here, row_at-numbers r rest n); rest = over })

-- counts are found at or below the number of rows
pub find_le : (v : Counts) (k : ℕ) (t : List ℕ) → find_row v (rows_of k t) ≤ k
unfolding find_row
find_le v k t = rw length-rows at (failing-most (λ r. not (equal r.counts v)) (rows_of k t))

-- the number of rows held
pub held : (k : ℕ) (rs : List Row) (t t' : List ℕ) → Holds k rs t t' → k ≡ length rs
held k rs t t' holds = sym (length-rows k t') ∙ ap length holds.front

-- a list is its first k rows, flat, and what follows them
pub rows-flat : (k : ℕ) (t : List ℕ) → row_size * k ≤ length t → flat (rows_of k t) ++ drop (row_size * k) t ≡ t
unfolding flat rows_of
rows-flat zero t h = refl
rows-flat (suc k) t h =
    let row : numbers (row_at t) ≡ take row_size t = numbers-row_at t (omega arith) in
    let next : row_size * suc k ≡ row_size + row_size * k = omega arith in
    let rest : flat (rows_of k (drop row_size t)) ++ drop (row_size * k) (drop row_size t) ≡ drop row_size t = rows-flat k (drop row_size t) (simp length-drop (omega arith)) in
    rw (row, next, ← drop-drop)
    (append_assoc (take row_size t) (flat (rows_of k (drop row_size t))) (drop (row_size * k) (drop row_size t))
    ∙ ap (λ (l : List ℕ). take row_size t ++ l) rest
    ∙ take-append-drop row_size t)

-- so what a list holds in its rows and after them is all of it
pub holds_with : (k : ℕ) (rs : List Row) (t t' : List ℕ) → Holds k rs t t' → row_size * k ≤ length t' → t' ≡ with_rows rs t
holds_with k rs t t' holds room =
    sym (rows-flat k t' room) ∙ rw (holds.front, holds.rest, held k rs t t' holds)
