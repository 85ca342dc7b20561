-- What stands in a table, number by number: after a word is taken into any table, and after the words of a log from a fresh one.
use Rattle.std.specs.Prelude.{◌≡◌, refl, Bool, true, false, ◌↔◌, ◌⊎◌, T, take, drop, Ok}
use Rattle.std.proofs.Math.Path.{sym, ap, ap₂}
use Rattle.std.proofs.Common.{◌∙◌, subst, true≢false, inl, inr, ⊎_elim, lt_of_lt_of_le, arith, drop-drop}
use Rattle.std.proofs.Math.Bool.{not}
use mathlib.Core.List.{List, [], ◌∷◌, ◌++◌, map}
use Prim.Native.Nat.{ℕ, zero, suc, ◌+◌, ◌*◌, ◌≤◌, ◌<◌}
use Rattle.std.proofs.Math.ListN.{length, get_or, length-append, length-map, get_or-append, get_or-eq_default}
use Rattle.std.proofs.Math.Seq.{get_or-drop, get_or-append-add}
use Rattle.laws.specs.Booleans.{yes_true, true_or_false, lt_or_le}
use Rattle.laws.specs.Lists.{all, keep, tabulate, tabulate-same, equal, eq→equal, equal_true, member, get_d_map}
use Rattle.laws.specs.Scans.{first_failing, failing-exactly, failing-some}
use Rattle.laws.specs.Bits.{bit, bit-of-zero}
use Rattle.limits.specs.Limits.{max_events}
use Rattle.nets.specs.Events.{each_below}
use Rattle.nets.specs.Nets.{Word, Counts, counts, beginnings}
use Rattle.nets.specs.Words.{Begins}
use Rattle.nets.specs.Fits.{Below}
use Rattle.rows.specs.Growth.{counts-none}
use Rattle.rows.specs.Rows.{row_size, traffic_offset, Row, row_at, rows_of, with_rows, find_row, new_row, one_more, take_word, none}
use Rattle.logs.specs.Answers.{rows_after, taken_answer, taken_table}
use Rattle.logs.specs.AnswerLaws.{right_summary-bounds}
use Rattle.rows.specs.Flat.{length-rows, rows_at, counts-row_at}
use Rattle.rows.specs.Visiting.{counts_of}
use Rattle.logs.specs.LogRows.{after}
use Rattle.tables.specs.Leaving.{missing, take-counts, on_row, mask_on, take-bits, Follows}
use Rattle.tables.specs.Passing.{traffic_on, Passed, take-passed}
use Rattle.logs.specs.LogTable.{Twelve, rows-twelve, take-twelve, read_with, rest_with, length_with, Took, took}
use Rattle.logs.specs.declared.Summary.{Summary}

-- ---- Rows as numbers of a table

-- the counts of row r, its mask and its traffic
abbrev pub counts_in : List ℕ → ℕ → Counts
counts_in t r = take max_events (drop (row_size * r) t)

abbrev pub mask_in : List ℕ → ℕ → ℕ
mask_in t r = get_or t (row_size * r + max_events) 0

abbrev pub traffic_in : List ℕ → ℕ → ℕ
traffic_in t r = get_or t (row_size * r + traffic_offset) 0

-- row r is the lowest of k rows with the counts v
pub record LowestRow (t : List ℕ) (k : ℕ) (v : Counts) (r : ℕ) : Type 0 where
  pub there : r < k
  pub here : counts_in t r ≡ v
  pub lower : (q : ℕ) → q < r → counts_in t q ≡ v → ⊥

-- the counts of the prefixes of w that none of the k rows has, shortest first
abbrev pub missing_counts : List ℕ → ℕ → Word → List Counts
missing_counts t k w = keep (λ v. not (member v (tabulate k (counts_in t)))) (map (counts max_events) (beginnings w))

module _ (k : ℕ) (t : List ℕ) where
  pub row_counts : (r : ℕ) → r < k → get_or (counts_of (rows_of k t)) r [] ≡ counts_in t r
  unfolding counts_of
  row_counts r h =
      get_d_map (λ (x : Row). x.counts) (rows_of k t) r (new_row []) [] (rw length-rows h)
      ∙ ap (λ (x : Row). x.counts) (rows_at k t r (new_row []) h)
      ∙ counts-row_at (drop (row_size * r) t)

  pub row-mask : (r : ℕ) → r < k → mask_on (rows_of k t) r ≡ mask_in t r
  unfolding on_row row_at
  row-mask r h = ap (λ (x : Row). x.mask) (rows_at k t r (new_row []) h) ∙ get_or-drop (row_size * r) t max_events 0

  pub row-traffic : (r : ℕ) → r < k → traffic_on (rows_of k t) r ≡ traffic_in t r
  unfolding on_row row_at
  row-traffic r h = ap (λ (x : Row). x.traffic) (rows_at k t r (new_row []) h) ∙ get_or-drop (row_size * r) t traffic_offset 0

  -- beyond them there is no mask
  row-none : (r : ℕ) → k ≤ r → mask_on (rows_of k t) r ≡ 0
  unfolding on_row
  row-none r h = ap (λ (x : Row). x.mask) (get_or-eq_default (rows_of k t) (new_row []) (rw length-rows h))

rows-counts : (k : ℕ) (t : List ℕ) → counts_of (rows_of k t) ≡ tabulate k (counts_in t)
unfolding counts_of rows_of tabulate
rows-counts zero t = refl
rows-counts (suc k) t = ap₂ ◌∷◌ (counts-row_at t) (rows-counts k (drop row_size t)
    ∙ tabulate-same k _ _ (λ i h. let at : row_size + row_size * i ≡ row_size * suc i = omega arith in ap (take max_events)
    (drop-drop (row_size * i) row_size t ∙ ap (λ (m : ℕ). drop m t) at)))

-- the lowest row with the counts v is found, and what is found is the lowest
lowest-row : (t : List ℕ) (k r : ℕ) (v : Counts) → r < k → (find_row v (rows_of k t) ≡ r) ↔ LowestRow t k v r
unfolding find_row
lowest-row t k r v there = (to, from)
  where
    test : Row → Bool
    test x = not (equal x.counts v)

    at : (q : ℕ) → q < k → test (get_or (rows_of k t) q (new_row [])) ≡ not (equal (counts_in t q) v)
    at q h = ap test (rows_at k t q (new_row []) h) ∙ ap (λ (u : Counts). not (equal u v)) (counts-row_at (drop (row_size * q) t))

    law : ((r ≡ first_failing test (rows_of k t)) × (all test (rows_of k t) ≡ false))
        ↔ ((r < length (rows_of k t)) × (test (get_or (rows_of k t) r (new_row [])) ≡ false)
        × ((q : ℕ) → q < r → test (get_or (rows_of k t) q (new_row [])) ≡ true))
    law = failing-exactly test (new_row []) (rows_of k t) r

    not_equal : (u : Counts) → not (equal u v) ≡ true → u ≡ v → ⊥
    not_equal u e q = true≢false (sym e ∙ ap not (yes_true (equal u v) (eq→equal u v q)))

    differs : (u : Counts) → (u ≡ v → ⊥) → not (equal u v) ≡ true
    differs u other = ⊎_elim (λ e. absurd (other (equal_true u v e))) (λ e. ap not e) (true_or_false (equal u v))

    same : (u : Counts) → not (equal u v) ≡ false → u ≡ v
    same u e = ⊎_elim (λ q. equal_true u v q) (λ q. absurd (true≢false (sym (ap not q) ∙ e))) (true_or_false (equal u v))

    to : first_failing test (rows_of k t) ≡ r → LowestRow t k v r
    to e =
        let f = law.0 (sym e, failing-some test (rows_of k t) (omega (arith, e, length-rows k t))) in
        record {
          there = there;
          here = same (counts_in t r) (sym (at r there) ∙ f.1);
          lower = λ q h. not_equal (counts_in t q) (sym (at q (omega arith)) ∙ f.2 q h);
        }

    from : LowestRow t k v r → first_failing test (rows_of k t) ≡ r
    from l = sym (law.1 (
      rw length-rows there,
      at r there ∙ ap not (yes_true (equal (counts_in t r) v) (eq→equal (counts_in t r) v l.here)),
      λ q h. at q (omega arith) ∙ differs (counts_in t q) (l.lower q h),
    )).0

-- ---- A word taken into any table

module _ (s : Summary) (t : List ℕ) (w : Word) where
  -- how many rows there are then
  pub rows-after : Below max_events w → length (rows_after s t w) ≡ s.rows + length (missing_counts t s.rows w)
  unfolding missing after counts_of
  rows-after below =
      let rs : List Row = rows_of s.rows t in
      let is = ap (λ (v : Counts). counts_of (take_word rs v w)) counts-none ∙ take-counts w [] rs below in
      sym (length-map (rows_after s t w) (λ (r : Row). r.counts))
      ∙ ap length is
      ∙ length-append (counts_of rs) (missing rs (after [] w))
      ∙ ap₂ ◌+◌ (length-map rs (λ (r : Row). r.counts) ∙ length-rows s.rows t)
      (ap (λ (l : List Counts). length (keep (λ v. not (member v l)) (map (counts max_events) (beginnings w)))) (rows-counts s.rows t))

  module _ (s' : Summary) (taken : taken_answer s t w ≡ Ok s') where
    abbrev t' : List ℕ
    t' = taken_table (taken_answer s t w) s t w

    abbrev rs' : List Row
    rs' = rows_after s t w

    passed : Took s t w s'
    passed = took s t w s' taken

    below_twelve : Below max_events w
    below_twelve e m = lt_of_lt_of_le (each_below s.n w passed.below e m) (right_summary-bounds s passed.fine).0

    room : row_size * s.rows ≤ length t
    room = omega (arith, (right_summary-bounds s passed.fine).1, passed.long)

    left : t' ≡ with_rows rs' t
    unfolding taken_table
    left = rw taken

    twelve : Twelve rs'
    twelve = take-twelve (rows_of s.rows t) none w refl (rows-twelve s.rows t room)

    held : rows_of (length rs') t' ≡ rs'
    held = ap (rows_of (length rs')) left ∙ read_with rs' t twelve

    count : s'.rows ≡ length rs'
    count = ap (λ (x : Summary). x.rows) passed.is

    all-counts : counts_of rs' ≡ counts_of (rows_of s.rows t) ++ missing_counts t s.rows w
    unfolding missing after
    all-counts =
        ap (λ (v : Counts). counts_of (take_word (rows_of s.rows t) v w)) counts-none
        ∙ take-counts w [] (rows_of s.rows t) below_twelve
        ∙ ap (λ (l : List Counts). counts_of (rows_of s.rows t) ++ keep (λ v. not (member v l)) (map (counts max_events) (beginnings w)))
        (rows-counts s.rows t)

    pub taken-rows : rows_of s'.rows t' ≡ rs'
    taken-rows = ap (λ (k : ℕ). rows_of k t') count ∙ held

    counts_now : (r : ℕ) → r < s'.rows → counts_in t' r ≡ get_or (counts_of rs') r []
    counts_now r h = sym (row_counts (length rs') t' r (omega (arith, h, count))) ∙ ap (λ (rs : List Row). get_or (counts_of rs) r []) held

    mask_now : (r : ℕ) → r < s'.rows → mask_on rs' r ≡ mask_in t' r
    mask_now r h = ap (λ (rs : List Row). mask_on rs r) (sym held) ∙ row-mask (length rs') t' r (omega (arith, h, count))

    traffic_now : (r : ℕ) → r < s'.rows → traffic_in t' r ≡ traffic_on rs' r
    traffic_now r h = sym (ap (λ (rs : List Row). traffic_on rs r) (sym held) ∙ row-traffic (length rs') t' r (omega (arith, h, count)))

    -- the lowest row with the counts v is where they are found
    lowest : (r : ℕ) → r < s'.rows → (v : Counts) → (find_row v rs' ≡ r) ↔ LowestRow t' s'.rows v r
    lowest r h v = subst (λ (k : ℕ). (find_row v rs' ≡ r) ↔ LowestRow t' k v r) (sym count)
        (subst (λ (l : List Row). (find_row v l ≡ r) ↔ LowestRow t' (length rs') v r) held
        (lowest-row t' (length rs') r v (omega (arith, h, count))))

    -- the rows that were there keep their counts
    pub taken-kept : (r : ℕ) → r < s.rows → counts_in t' r ≡ counts_in t r
    unfolding counts_of
    taken-kept r h =
        counts_now r (omega (arith, h, count, rows-after below_twelve))
        ∙ ap (λ (l : List Counts). get_or l r []) all-counts
        ∙ get_or-append (counts_of (rows_of s.rows t)) (missing_counts t s.rows w) [] r
        (omega (arith, h, length-map (rows_of s.rows t) (λ (x : Row). x.counts), length-rows s.rows t))
        ∙ row_counts s.rows t r h

    -- the missing counts follow them, in order
    pub taken-appended : (i : ℕ) → i < length (missing_counts t s.rows w) → counts_in t' (s.rows + i) ≡ get_or (missing_counts t s.rows w) i []
    unfolding counts_of
    taken-appended i h =
        let old : List Counts = counts_of (rows_of s.rows t) in
        let size : length old ≡ s.rows = length-map (rows_of s.rows t) (λ (x : Row). x.counts) ∙ length-rows s.rows t in
        counts_now (s.rows + i) (omega (arith, h, count, rows-after below_twelve))
        ∙ ap (λ (l : List Counts). get_or l (s.rows + i) []) all-counts
        ∙ ap (λ (k : ℕ). get_or (old ++ missing_counts t s.rows w) (k + i) []) (sym size)
        ∙ get_or-append-add old (missing_counts t s.rows w) i []

    -- a mask gains exactly the bits of the events that follow the prefixes whose lowest row it is
    pub taken-bits : (r : ℕ) → r < s'.rows → (e : ℕ)
        → T (bit (mask_in t' r) e) ↔ (((r < s.rows) × T (bit (mask_in t r) e))
        ⊎ ((u : Word) × Begins (u ++ e ∷ []) w × LowestRow t' s'.rows (counts max_events u) r))
    taken-bits r h e = (to, from)
      where
        rs : List Row
        rs = rows_of s.rows t

        law : T (bit (mask_on rs' r) e) ↔ (T (bit (mask_on rs r) e) ⊎ Follows [] w rs' r e)
        law = subst (λ (v : Counts). T (bit (mask_on (take_word rs v w) r) e) ↔ (T (bit (mask_on rs r) e) ⊎ Follows [] w (take_word rs v w) r e))
            (sym counts-none) (take-bits w [] rs below_twelve r e)

        old : T (bit (mask_on rs r) e) → (r < s.rows) × T (bit (mask_in t r) e)
        old k = ⊎_elim
            (λ b. (b, subst (λ (m : ℕ). T (bit m e)) (row-mask s.rows t r b) k))
            (λ b. absurd (subst T (ap (λ (m : ℕ). bit m e) (row-none s.rows t r b) ∙ bit-of-zero e) k))
            (lt_or_le r s.rows)

        to : T (bit (mask_in t' r) e) → ((r < s.rows) × T (bit (mask_in t r) e))
            ⊎ ((u : Word) × Begins (u ++ e ∷ []) w × LowestRow t' s'.rows (counts max_events u) r)
        to k = ⊎_elim (λ y. inl (old y)) (λ q. inr (q.0, q.1, (lowest r h (counts max_events q.0)).0 q.2))
            (law.0 (subst (λ (m : ℕ). T (bit m e)) (sym (mask_now r h)) k))

        from : ((r < s.rows) × T (bit (mask_in t r) e)) ⊎ ((u : Word) × Begins (u ++ e ∷ []) w × LowestRow t' s'.rows (counts max_events u) r)
            → T (bit (mask_in t' r) e)
        from k = subst (λ (m : ℕ). T (bit m e)) (mask_now r h) (law.1 (⊎_elim
            (λ y. inl (subst (λ (m : ℕ). T (bit m e)) (sym (row-mask s.rows t r y.0)) y.1))
            (λ q. inr (q.0, q.1, (lowest r h (counts max_events q.0)).1 q.2)) k))

    -- a row that a prefix uses has one word more, and one that none uses is as it was; a row that was not there has 1
    passing : Passed [] w (rows_of s.rows t) rs'
    passing = subst (λ (v : Counts). Passed [] w (rows_of s.rows t) (take_word (rows_of s.rows t) v w)) (sym counts-none)
        (take-passed w [] (rows_of s.rows t) below_twelve)

    old_below : (r : ℕ) → r < s.rows → r < s'.rows
    old_below r h = omega (arith, h, count, rows-after below_twelve)

    pub taken-used : (r : ℕ) → r < s.rows → (u : Word) → Begins u w → LowestRow t' s'.rows (counts max_events u) r
        → traffic_in t' r ≡ one_more (traffic_in t r)
    taken-used r h u b low =
        traffic_now r (old_below r h) ∙ passing.used r (u, b, (lowest r (old_below r h) (counts max_events u)).1 low)
        ∙ ap one_more (row-traffic s.rows t r h)

    pub taken-unused : (r : ℕ) → r < s.rows → ((u : Word) → Begins u w → LowestRow t' s'.rows (counts max_events u) r → ⊥)
        → traffic_in t' r ≡ traffic_in t r
    taken-unused r h none =
        traffic_now r (old_below r h)
        ∙ passing.unused r (λ (u, b, at). none u b ((lowest r (old_below r h) (counts max_events u)).0 at))
        ∙ row-traffic s.rows t r h

    pub taken-new : (r : ℕ) → s.rows ≤ r → r < s'.rows → traffic_in t' r ≡ 1
    taken-new r from h = traffic_now r h ∙ passing.new r (rw length-rows from) (omega (arith, h, count))

    -- every other number is as it was
    pub taken-rest : drop (row_size * s'.rows) t' ≡ drop (row_size * s'.rows) t
    taken-rest = rw (left, count) (rest_with rs' t twelve)

    pub taken-length : length t' ≡ length t
    taken-length = rw left (length_with rs' t twelve (omega (arith, passed.fits, passed.long)))

    pub taken-summary : s' ≡ record { n = s.n; rows = s.rows + length (missing_counts t s.rows w); events = s.events + length w }
    taken-summary = passed.is ∙ rw (rows-after below_twelve)
