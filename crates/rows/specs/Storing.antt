-- Rows visited and followed in a table: what the stores of the code do to them.
use Rattle.std.specs.Prelude.{◌≡◌, refl, T, ltb, Some, None, List, [], ◌∷◌, ◌++◌, ℕ, zero, suc, ◌+◌, ◌*◌, ◌<◌, ◌≤◌, length, get_or, take, drop, set}
use Rattle.std.proofs.Common.{sym, ap, ◌∙◌, subst, append_assoc, ⊎_elim, not-suc-le-zero, le_of_suc-le-suc, arith, lt-ltb, le-ltb, ltb→lt, lit<, length-append, length-take, length-drop, length-set, drop-drop, drop-cons, take_all, drop-set-lt, get_or-set_same, get_or-set_other, get_or-drop}
use Rattle.std.proofs.lemmas.List.{set_at, take-set-le, drop-set-add}
use Rattle.std.proofs.lemmas.Option.{none-some, cond_some}
use Rattle.std.proofs.Math.Seq.{paste, append_snoc}
use Rattle.laws.specs.Booleans.{lt_or_le}
use Rattle.laws.specs.Bits.{with_bit}
use Rattle.limits.specs.Limits.{max_events}
use Rattle.nets.specs.Nets.{Counts}
use Rattle.rows.specs.Rows.{row_size, traffic_offset, Row, row_at, numbers, rows_of, find_row, found, new_row, present, one_more, passed_once, visit, marked, update_at, follow, absent, row_or, Holds}
use Rattle.rows.specs.Visiting.{length-same, present-found, present-new, counts-visit, length-visit, find_visit}
use Rattle.rows.specs.Flat.{row_at-front, length-rows, append-row, find_le, held}

-- a new row behind k rows: a copy of its counts, and stores of its mask and traffic
pub append-holds : (t v : List ℕ) (k : ℕ) → row_size * k + row_size ≤ length t → length v ≡ max_events
    → Holds (k + 1) (rows_of k t ++ (new_row v ∷ [])) t
    (set (set (paste t (row_size * k) v max_events) (row_size * k + max_events) 0) (row_size * k + traffic_offset) 0)
unfolding numbers
append-holds t v k room twelve =
    let front : List ℕ = take (row_size * k) t ++ v in
    let rest : List ℕ = drop (row_size * suc k) t in
    let all : take max_events v ≡ v = take_all max_events v (omega arith) in
    let head : length front ≡ row_size * k + max_events = simp (length-append, length-take) (omega arith) in
    let next : suc (row_size * k + max_events) ≡ row_size * k + traffic_offset = omega arith in
    let last : suc (row_size * k + traffic_offset) ≡ row_size * suc k = omega arith in
    let old : drop (row_size * k + max_events) t ≡ get_or t (row_size * k + max_events) 0 ∷ get_or t (row_size * k + traffic_offset) 0 ∷ rest =
    drop-cons t (row_size * k + max_events) 0 (omega arith)
    ∙ ap (λ (l : List ℕ). get_or t (row_size * k + max_events) 0 ∷ l)
    (ap (λ (i : ℕ). drop i t) next ∙ drop-cons t (row_size * k + traffic_offset) 0 (omega arith)
    ∙ ap (λ (i : ℕ). get_or t (row_size * k + traffic_offset) 0 ∷ drop i t) last) in
    let mask : set (front ++ drop (row_size * k + max_events) t) (row_size * k + max_events) 0 ≡ front ++ (0 ∷ get_or t (row_size * k + traffic_offset) 0 ∷ rest) =
    ap (λ (l : List ℕ). set (front ++ l) (row_size * k + max_events) 0) old ∙ set_at front _ _ 0 (row_size * k + max_events) head in
    let traffic : set (front ++ (0 ∷ get_or t (row_size * k + traffic_offset) 0 ∷ rest)) (row_size * k + traffic_offset) 0 ≡ (front ++ (0 ∷ [])) ++ (0 ∷ rest) =
    ap (λ (l : List ℕ). set l (row_size * k + traffic_offset) 0) (sym (append_snoc front 0 (get_or t (row_size * k + traffic_offset) 0 ∷ rest)))
    ∙ set_at (front ++ (0 ∷ [])) _ _ 0 (row_size * k + traffic_offset) (rw (length-append, head) (omega arith)) in
    let laid : (front ++ (0 ∷ [])) ++ (0 ∷ rest) ≡ take (row_size * k) t ++ ((v ++ (0 ∷ 0 ∷ [])) ++ rest) =
    append_snoc front 0 (0 ∷ rest) ∙ append_assoc (take (row_size * k) t) v (0 ∷ 0 ∷ rest)
    ∙ ap (λ (l : List ℕ). take (row_size * k) t ++ l) (sym (append_assoc v (0 ∷ 0 ∷ []) rest)) in
    rw (all, mask, traffic, laid) (append-row t (new_row v) k room twelve)

-- ---- A store to a mask, and one to a traffic

row_at-marked : (e : ℕ) (t : List ℕ) → row_size ≤ length t → row_at (set t max_events (with_bit (get_or t max_events 0) e)) ≡ marked e (row_at t)
unfolding row_at
row_at-marked e t h =
    let x : ℕ = with_bit (get_or t max_events 0) e in
    let other : get_or (set t max_events x) traffic_offset 0 ≡ get_or t traffic_offset 0 = get_or-set_other t max_events traffic_offset x 0 (λ e. omega (arith, e)) in
    rw (take-set-le max_events t max_events x (omega arith), get_or-set_same t max_events x 0 (omega arith), other)

row_at-counted : (t : List ℕ) → row_size ≤ length t → row_at (set t traffic_offset (one_more (get_or t traffic_offset 0))) ≡ passed_once (row_at t)
unfolding row_at
row_at-counted t h =
    let x : ℕ = one_more (get_or t traffic_offset 0) in
    let other : get_or (set t traffic_offset x) max_events 0 ≡ get_or t max_events 0 = get_or-set_other t traffic_offset max_events x 0 (λ e. omega (arith, e)) in
    rw (take-set-le max_events t traffic_offset x (omega arith), get_or-set_same t traffic_offset x 0 (omega arith), other)

-- a store within row r that does f to it
store_rows : (f : Row → Row) (j x k r : ℕ) (t : List ℕ) → j < row_size → r < k → row_size * k ≤ length t
    → row_at (set (drop (row_size * r) t) j x) ≡ f (row_at (drop (row_size * r) t)) → rows_of k (set t (row_size * r + j) x) ≡ update_at r f (rows_of k t)
unfolding rows_of update_at
store_rows f j x zero r t hj h room does = absurd (not-suc-le-zero h)
store_rows f j x (suc k) zero t hj h room does =
    let here : row_size * 0 + j ≡ j = omega arith in
    rw (here, drop-set-lt row_size t j x hj, does)
store_rows f j x (suc k) (suc r) t hj h room does =
    let i : ℕ = row_size * r + j in
    let s : row_size * suc r + j ≡ row_size + i = omega arith in
    let same : row_at (set t (row_size + i) x) ≡ row_at t =
    sym (row_at-front (set t (row_size + i) x) (simp length-set (omega arith)))
    ∙ ap row_at (take-set-le row_size t (row_size + i) x (omega arith))
    ∙ row_at-front t (omega arith) in
    let down : row_size * suc r ≡ row_size + row_size * r = omega arith in
    let does' = rw (down, ← drop-drop (row_size * r) row_size t) at does in
    rw (s, same, drop-set-add row_size t i x, store_rows f j x k r (drop row_size t) hj (le_of_suc-le-suc h) (simp length-drop (omega arith)) does')

-- number j of row r changed, which does f to a row
module _ (f : Row → Row) (j : ℕ) (g : ℕ → ℕ) (inside : j < row_size)
    (does : (t : List ℕ) → row_size ≤ length t → row_at (set t j (g (get_or t j 0))) ≡ f (row_at t)) where
  change-rows : (k r : ℕ) (t : List ℕ) → r < k → row_size * k ≤ length t
      → rows_of k (set t (row_size * r + j) (g (get_or t (row_size * r + j) 0))) ≡ update_at r f (rows_of k t)
  change-rows k r t h room =
      store_rows f j (g (get_or t (row_size * r + j) 0)) k r t inside h room
      (rw (← get_or-drop (row_size * r) t j 0) (does (drop (row_size * r) t) (simp length-drop (omega arith))))

  -- in a table t₁ that holds the rows rs
  changed : (k n r : ℕ) (rs : List Row) (t t₁ t₂ : List ℕ) → r < length rs → row_size * length rs ≤ length t₁ → Holds n rs t t₁
      → t₂ ≡ set t₁ (row_size * r + j) (g (get_or t₁ (row_size * r + j) 0)) → Holds n (update_at r f rs) t t₂
  changed k n r rs t t₁ t₂ here room holds store =
      let size : n ≡ length rs = held n rs t t₁ holds in
      rw store
      (record {
        front = change-rows n r t₁ (omega arith) (omega arith) ∙ ap (update_at r f) holds.front;
        rest = drop-set-lt (row_size * n) t₁ (row_size * r + j) _ (omega arith) ∙ holds.rest;
      })

-- ---- A prefix

-- what a search that found the counts v says, and one that did not
pub found_some : (v : Counts) (rs : List Row) (r : ℕ) → Some r ≡ found v rs → (r ≡ find_row v rs) × (r < length rs)
unfolding found
found_some v rs r e =
    let q = cond_some (ltb (find_row v rs) (length rs)) (find_row v rs) r (sym e) in
    (sym q.1, rw (← q.1) (ltb→lt (find_row v rs) (length rs) (subst T (sym q.0) tt)))

pub found_none : (v : Counts) (rs : List Row) → None ≡ found v rs → length rs ≤ find_row v rs
unfolding found
found_none v rs e =
    ⊎_elim (λ h. absurd (none-some (find_row v rs) (e ∙ rw (lt-ltb (find_row v rs) (length rs) h)))) (λ h. h) (lt_or_le (find_row v rs) (length rs))

-- the row for the counts v, at r: found below k, or k where there is none
module _ (v t : List ℕ) (k r : ℕ) (at : r ≡ find_row v (rows_of k t)) where
  below : r < k → find_row v (rows_of k t) < length (rows_of k t)
  below h = rw length-rows (omega arith)

  past : k ≤ r → length (rows_of k t) ≤ find_row v (rows_of k t)
  past h = rw length-rows (omega arith)

  -- its number is r, or the next
  pub absent-found : r < k → absent v (rows_of k t) ≡ 0
  unfolding absent
  absent-found h = rw (lt-ltb _ _ (below h))

  pub absent-new : k ≤ r → absent v (rows_of k t) ≡ 1
  unfolding absent
  absent-new h = rw (le-ltb _ _ (past h))

  pub row-found : r < k → (n : ℕ) → row_or (rows_of k t) n v ≡ r
  unfolding row_or
  row-found h n = rw (lt-ltb _ _ (below h)) (sym at)

  pub row_next : k ≤ r → (n : ℕ) → row_or (rows_of k t) n v ≡ n
  unfolding row_or
  row_next h n = rw (le-ltb _ _ (past h))

  length_found : r < k → length (visit v (rows_of k t)) ≡ k
  length_found h = omega (arith, length-visit v (rows_of k t), absent-found h, length-rows k t)

  length-new : k ≤ r → length (visit v (rows_of k t)) ≡ k + 1
  length-new h = omega (arith, length-visit v (rows_of k t), absent-new h, length-rows k t)

  -- its row is there: nothing is written, or a new row
  pub present-held : r < k → Holds k (present v (rows_of k t)) t t
  present-held h = rw (present-found v (rows_of k t) (below h)) (record { front = refl; rest = refl })

  pub visited-room : k ≤ r → (n : ℕ) → row_size * length (visit v (rows_of k t)) ≤ n → row_size * k + row_size ≤ n
  visited-room h n room = omega (arith, length-new h)

  pub present-appended : k ≤ r → (t' : List ℕ) → Holds (k + 1) (rows_of k t ++ (new_row v ∷ [])) t t' → Holds (k + 1) (present v (rows_of k t)) t t'
  present-appended h t' holds = rw (present-new v (rows_of k t) (past h)) holds

  pub row_below : r < length (visit v (rows_of k t))
  row_below = ⊎_elim (λ h. omega (arith, length_found h)) (λ h. omega (arith, length-new h, find_le v k t)) (lt_or_le r k)

  -- the prefix is visited: t₁ has its row, and t₂ is t₁ with one word more there
  pub visited : (n : ℕ) (t₁ t₂ : List ℕ) → row_size * length (visit v (rows_of k t)) ≤ length t₁ → Holds n (present v (rows_of k t)) t t₁
      → t₂ ≡ set t₁ (row_size * r + traffic_offset) (one_more (get_or t₁ (row_size * r + traffic_offset) 0))
      → Holds n (visit v (rows_of k t)) t t₂
  unfolding visit
  visited n t₁ t₂ room holds store =
      let size = length-same (visit v (rows_of k t)) (present v (rows_of k t)) (counts-visit v (rows_of k t)) in
      rw (← at)
      (changed passed_once traffic_offset one_more (lit< tt) row_at-counted k n r _ t t₁ t₂ (omega (arith, row_below, size)) (omega (arith, room, size)) holds store)

  -- the event e follows it: t₁ has it visited, and t₂ is t₁ with the bit of e set there
  pub followed : (e n : ℕ) (t₁ t₂ : List ℕ) → row_size * length (visit v (rows_of k t)) ≤ length t₁ → Holds n (visit v (rows_of k t)) t t₁
      → t₂ ≡ set t₁ (row_size * r + max_events) (with_bit (get_or t₁ (row_size * r + max_events) 0) e)
      → Holds n (follow v e (visit v (rows_of k t))) t t₂
  unfolding follow
  followed e n t₁ t₂ room holds store =
      rw (find_visit v (rows_of k t), ← at)
      (changed (marked e) max_events (λ m. with_bit m e) (lit< tt) (row_at-marked e) k n r _ t t₁ t₂ row_below room holds store)
