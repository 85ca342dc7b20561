-- The numbers of a table that holds the rows of a log, in the terms of the definitions: n counts and zeros behind them, bits for allowed steps, and
-- the traffic.
use Rattle.std.specs.Prelude.{◌≡◌, refl, false, ◌↔◌, T, drop, replicate}
use Rattle.std.proofs.Math.Path.{sym, ap}
use Rattle.std.proofs.Common.{◌∙◌, subst, ⊎_elim, length-append, length-drop, get_or-take}
use mathlib.Core.List.Memᴰ
use mathlib.Core.List.{List, [], ◌∷◌, ◌++◌, map-map, map-id}
use Prim.Native.Nat.{ℕ, ◌+◌, ◌*◌, ◌-◌, ◌≤◌, ◌<◌, min}
use native.Mathlib.Omega.{arith}
use Rattle.std.proofs.Math.Dec.{not_T}
use Rattle.std.proofs.Math.ListN.{length, get_or, length-replicate, get_or-replicate, get_or-append, get_or-eq_default}
use Rattle.std.proofs.Math.Seq.{get_or-drop, drop_at}
use Rattle.laws.specs.Booleans.{no_false, lt_or_le}
use Rattle.laws.specs.Lists.{get_d_map, get_d_member}
use Rattle.laws.specs.Every.{Every, every_intro}
use Rattle.laws.specs.Parts.{get_d_padded, drop_more}
use Rattle.laws.specs.Bits.{bit, bit-above, mask_of_lt}
use Rattle.limits.specs.Limits.{max_events, max_rows}
use Rattle.nets.specs.Nets.{Word, Log, Counts, Step, counts, at, rows, allowed, traffic}
use Rattle.nets.specs.Words.{Prefix, allowed→, →allowed}
use Rattle.nets.specs.Fits.{LogBelow, prefix-below}
use Rattle.nets.proofs.Rows.{row→}
use Rattle.nets.specs.CountLaws.{length-counts}
use Rattle.nets.specs.Wide.{wide}
use Rattle.rows.specs.Rows.{row_size, max_traffic, Row, rows_of, with_rows, new_row, cleared}
use Rattle.logs.specs.Answers.{table_size}
use Rattle.logs.specs.Log.{log_row, log_rows}
use Rattle.rows.specs.Visiting.{counts_of}
use Rattle.tables.specs.Leaving.{on_row, mask_on}
use Rattle.tables.specs.Passing.{traffic_on}
use Rattle.logs.specs.LogTable.{Twelve, read_with, rest_with, length_with, length-log_rows, log_rows-is, log_row-mask, log_row-traffic, log_row-bit}
use Rattle.tables.specs.Tables.{counts_in, mask_in, traffic_in, row_counts, row-mask, row-traffic}

rows-twelve : (log : Log) → Twelve (log_rows log)
unfolding Twelve counts_of log_rows
rows-twelve log = subst (Every (λ (v : Counts). length v ≡ max_events))
    (sym (map-map (λ (r : Row). r.counts) (log_row log) (rows max_events log) ∙ map-id (rows max_events log)))
    (every_intro (λ (v : Counts). length v ≡ max_events) (rows max_events log)
    (λ v m. let r = row→ max_events log m in ap length (sym r.2) ∙ length-counts max_events r.0))

module _ (n : ℕ) (log : Log) (most : n ≤ max_events) (below : LogBelow n log) (t : List ℕ) where
  -- the table
  abbrev pub log_table : List ℕ
  log_table = with_rows (log_rows log) (cleared table_size t)

  size : length (log_rows log) ≡ length (rows n log)
  size = length-log_rows n log most below

  held : rows_of (length (log_rows log)) log_table ≡ log_rows log
  held = read_with (log_rows log) (cleared table_size t) (rows-twelve log)

  -- its rows
  pub table-rows : rows_of (length (rows n log)) log_table ≡ log_rows log
  table-rows = ap (λ (k : ℕ). rows_of k log_table) (sym size) ∙ held

  module _ (r : ℕ) (h : r < length (rows n log)) where
    abbrev v : Counts
    v = get_or (rows n log) r []

    abbrev k : ℕ
    k = max_events - n

    width : n + k ≡ max_events
    width = omega arith

    row-length : length v ≡ n
    row-length = let u = row→ n log (get_d_member (rows n log) r [] h) in ap length (sym u.2) ∙ length-counts n u.0

    row : get_or (log_rows log) r (new_row []) ≡ log_row log (wide k v)
    row = ap (λ (rs : List Row). get_or rs r (new_row [])) (log_rows-is n k log width below)
        ∙ get_d_map (λ (v : Counts). log_row log (wide k v)) (rows n log) r [] (new_row []) h

    counts-here : counts_in log_table r ≡ wide k v
    unfolding counts_of
    counts-here =
        sym (row_counts (length (log_rows log)) log_table r (omega (arith, h, size)))
        ∙ ap (λ (rs : List Row). get_or (counts_of rs) r []) held
        ∙ get_d_map (λ (x : Row). x.counts) (log_rows log) r (new_row []) [] (omega (arith, h, size))
        ∙ ap (λ (x : Row). x.counts) row

    -- twelve counts: those of the row, and zeros from n on
    pub row_number : (i : ℕ) → i < max_events → get_or log_table (row_size * r + i) 0 ≡ at v i
    row_number i b =
        sym (get_or-drop (row_size * r) log_table i 0)
        ∙ sym (get_or-take max_events (drop (row_size * r) log_table) i 0 b)
        ∙ ap (λ (c : Counts). get_or c i 0) counts-here
        ∙ get_d_padded v k i 0

    pub row_zero : (i : ℕ) → n ≤ i → i < max_events → get_or log_table (row_size * r + i) 0 ≡ 0
    row_zero i from b = row_number i b ∙ get_or-eq_default v 0 (omega (arith, from, row-length))

    -- the mask
    mask-here : mask_in log_table r ≡ (log_row log (wide k v)).mask
    unfolding on_row
    mask-here =
        sym (row-mask (length (log_rows log)) log_table r (omega (arith, h, size)))
        ∙ ap (λ (rs : List Row). mask_on rs r) held
        ∙ ap (λ (x : Row). x.mask) row

    -- the traffic
    pub row-passed : traffic_in log_table r ≡ min max_traffic (traffic n log v)
    unfolding on_row
    row-passed =
        sym (row-traffic (length (log_rows log)) log_table r (omega (arith, h, size)))
        ∙ ap (λ (rs : List Row). traffic_on rs r) held
        ∙ ap (λ (x : Row). x.traffic) row
        ∙ log_row-traffic n k log width below v

    -- bit e is set exactly when some prefix with these counts is followed by e in the log
    pub row-bit : (e : ℕ) → T (bit (mask_in log_table r) e) ↔ ((u : Word) × (counts n u ≡ v) × Prefix log (u ++ e ∷ []))
    row-bit e = ((λ b. allowed→ n log step (subst T is b)), (λ u. subst T (sym is) (→allowed n log step u)))
      where
        step : Step
        step = record { row = v; event = e }

        inside : T (allowed n log step) → e < n
        inside a = let u = allowed→ n log step a in prefix-below n log below (u.0 ++ e ∷ []) u.2 e
            (Memᴰ.append_right u.0 (Memᴰ.head refl))

        none_above : max_events ≤ e → bit (mask_in log_table r) e ≡ allowed n log step
        none_above above =
            ap (λ (m : ℕ). bit m e) (mask-here ∙ log_row-mask n k log width below v)
            ∙ bit-above max_events _ e (mask_of_lt max_events _) above
            ∙ sym (no_false (allowed n log step) (not_T (allowed n log step) (λ a. let b = inside a in absurd (omega arith))))

        is : bit (mask_in log_table r) e ≡ allowed n log step
        is = ⊎_elim (λ b. ap (λ (m : ℕ). bit m e) mask-here ∙ log_row-bit n k log width below v e b) none_above (lt_or_le e max_events)

    -- so the bits from n on are clear
    pub row-clear : (e : ℕ) → n ≤ e → bit (mask_in log_table r) e ≡ false
    row-clear e from = no_false (bit (mask_in log_table r) e) (not_T (bit (mask_in log_table r) e) (λ b.
        let u = (row-bit e).0 b in
        let inside = prefix-below n log below (u.0 ++ e ∷ []) u.2 e (Memᴰ.append_right u.0 (Memᴰ.head refl)) in
        absurd (omega arith)))

  module _ (few : length (rows n log) ≤ max_rows) where
    behind : drop (row_size * length (rows n log)) log_table ≡ drop (row_size * length (rows n log)) (cleared table_size t)
    behind = subst (λ (m : ℕ). drop (row_size * m) log_table ≡ drop (row_size * m) (cleared table_size t)) size
        (rest_with (log_rows log) (cleared table_size t) (rows-twelve log))

    -- zeros up to number 3,583
    pub table-zero : (i : ℕ) → row_size * length (rows n log) ≤ i → i < table_size → get_or log_table i 0 ≡ 0
    unfolding cleared
    table-zero i from b =
        let m : ℕ = row_size * length (rows n log) in
        let there : m + (i - m) ≡ i = omega arith in
        ap (λ (j : ℕ). get_or log_table j 0) (sym there)
        ∙ sym (get_or-drop m log_table (i - m) 0)
        ∙ ap (λ (l : List ℕ). get_or l (i - m) 0) behind
        ∙ get_or-drop m (cleared table_size t) (i - m) 0
        ∙ ap (λ (j : ℕ). get_or (cleared table_size t) j 0) there
        ∙ get_or-append (replicate table_size 0) (drop table_size t) 0 i (rw length-replicate b)
        ∙ get_or-replicate table_size i 0 0 b

    -- and the rest as it was
    pub table-rest : drop table_size log_table ≡ drop table_size t
    unfolding cleared
    table-rest = drop_more (row_size * length (rows n log)) table_size log_table (cleared table_size t) (omega arith) behind
        ∙ drop_at (replicate table_size 0) (drop table_size t) table_size (length-replicate {A = ℕ} table_size 0)

    pub table-length : table_size ≤ length t → length log_table ≡ length t
    unfolding cleared
    table-length long =
        let whole : length (cleared table_size t) ≡ length t = rw (length-append, length-replicate, length-drop) (omega arith) in
        length_with (log_rows log) (cleared table_size t) (rows-twelve log) (omega (arith, few, size, whole)) ∙ whole
