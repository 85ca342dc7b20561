-- The code that adds up a block's rows of 32 bytes: what it asks for, and how far it is.
use Rattle.std.specs.Prelude.{◌≡◌, refl, List, [], length, get_or, replicate}
use Rattle.std.proofs.Math.Path.{sym, ap}
use Rattle.std.proofs.Common.{◌∙◌, length-drop, length-take-le}
use Prim.Native.Nat.{ℕ, suc, ◌+◌, ◌-◌, ◌*◌, ◌≤◌, ◌<◌}
use native.Mathlib.Omega.{arith}
use Rattle.std.proofs.Math.ListN.{take, drop}
use Rattle.std.proofs.Math.Seq.{take_all, drop-drop}
use Rattle.laws.specs.Numbers.{Bytes, bytes_drop}
use Rattle.laws.specs.Parts.{get_d_padded}
use Rattle.laws.specs.Sums.{weighted}
use Rattle.laws.specs.Columns.{added, columns_of, shifts_of, length-columns, length_shifts, columns_le, shifts_le, weighted-columns}

-- a row may be added: it is not longer than the columns and the shifts, which have the bytes of fifteen rows at most
pub record Room (columns shifts row : List ℕ) : Type 0 where
  pub columns-long : length row ≤ length columns
  pub shifts_long : length row ≤ length shifts
  pub columns-low : (j : ℕ) → get_or columns j 0 ≤ 3825
  pub shifts_low : (j : ℕ) → get_or shifts j 0 ≤ 57375

-- 32 columns below 4,096 and their shifts
pub record Narrow (columns shifts : List ℕ) : Type 0 where
  pub columns-size : length columns ≡ 32
  pub shifts_size : length shifts ≡ 32
  pub columns-low : (j : ℕ) → get_or columns j 0 < 4096

-- the rows of 32 bytes from number `turn` on are added up
pub record RowsAdded (bytes columns shifts : List ℕ) (turn : ℕ) : Type 0 where
  pub columns_are : columns ≡ columns_of 32 (16 - turn) (drop (32 * turn) bytes)
  pub shifts_are : shifts ≡ shifts_of 32 (16 - turn) (drop (32 * turn) bytes)

-- ---- The last row, which is short

abbrev last_row : List ℕ → List ℕ
last_row bytes = take 28 (drop 480 bytes)

module _ (bytes : List ℕ) (size : length bytes ≡ 508) where
  last-size : length (drop 480 bytes) ≡ 28
  last-size = omega (arith, length-drop 480 bytes)

  -- as many elements as there are, or more
  last-whole : (n : ℕ) → 28 ≤ n → take n (drop 480 bytes) ≡ drop 480 bytes
  last-whole n h = take_all n (drop 480 bytes) (omega (arith, last-size))

  last-length : length (last_row bytes) ≡ 28
  last-length = ap length (last-whole 28 (omega arith)) ∙ last-size

  pub last-room : Room (replicate 32 0) (replicate 32 0) (last_row bytes)
  last-room =
      let zeros : (j : ℕ) → get_or (replicate {A = ℕ} 32 0) j 0 ≡ 0 = λ j. get_d_padded {A = ℕ} [] 32 j 0 in
      record {
        columns-long = omega (arith, last-length);
        shifts_long = omega (arith, last-length);
        columns-low = λ j. omega (arith, zeros j);
        shifts_low = λ j. omega (arith, zeros j);
      }

  pub last-added : {columns shifts : List ℕ} → columns ≡ added (replicate 32 0) (last_row bytes)
      → shifts ≡ added (replicate 32 0) (take (length (last_row bytes)) (replicate 32 0)) → RowsAdded bytes columns shifts 15
  unfolding added columns_of shifts_of
  last-added is shifted = record {
    columns_are = is ∙ ap (added (replicate 32 0)) (last-whole 28 (omega arith) ∙ sym (last-whole 32 (omega arith)));
    shifts_are = shifted ∙ ap (λ (n : ℕ). added (replicate 32 0) (take n (replicate 32 0))) last-length;
  }

-- ---- A row more

-- the row before number `turn`
abbrev row_before : ℕ → List ℕ → List ℕ
row_before turn bytes = take 32 (drop (32 * (turn - 1)) bytes)

module _ {bytes columns shifts : List ℕ} {turn : ℕ} (h : RowsAdded bytes columns shifts turn) where
  pub columns-size : length columns ≡ 32
  columns-size = ap length h.columns_are ∙ length-columns 32 (16 - turn) (drop (32 * turn) bytes)

  pub shifts_size : length shifts ≡ 32
  shifts_size = ap length h.shifts_are ∙ length_shifts 32 (16 - turn) (drop (32 * turn) bytes)

  column_le : Bytes bytes → (j : ℕ) → get_or columns j 0 ≤ 255 * (16 - turn)
  column_le small j = rw h.columns_are (columns_le 32 (16 - turn) (drop (32 * turn) bytes) (bytes_drop (32 * turn) bytes small) j)

  shift_le : Bytes bytes → 0 < turn → (j : ℕ) → get_or shifts j 0 ≤ (16 - turn) * 3825
  shift_le small more j = rw h.shifts_are (shifts_le 32 (16 - turn) 15 (drop (32 * turn) bytes) (bytes_drop (32 * turn) bytes small) (omega arith) j)

  module _ (size : length bytes ≡ 508) (more : 0 < turn) (within : turn ≤ 15) where
    row-size : length (row_before turn bytes) ≡ 32
    row-size = length-take-le 32 (drop (32 * (turn - 1)) bytes) (omega (arith, length-drop (32 * (turn - 1)) bytes))

    pub row_room : Bytes bytes → Room columns shifts (row_before turn bytes)
    row_room small = record {
      columns-long = omega (arith, row-size, columns-size);
      shifts_long = omega (arith, row-size, shifts_size);
      columns-low = λ j. omega (arith, column_le small j);
      shifts_low = λ j. omega (arith, shift_le small more j);
    }

    pub row-added : {columns' shifts' : List ℕ} → columns' ≡ added columns (row_before turn bytes)
        → shifts' ≡ added shifts (take (length (row_before turn bytes)) columns) → RowsAdded bytes columns' shifts' (turn - 1)
    unfolding columns_of shifts_of
    row-added is shifted =
        let next : 16 - (turn - 1) ≡ suc (16 - turn) = omega arith in
        let behind : 32 * (turn - 1) + 32 ≡ 32 * turn = omega arith in
        let rest : drop 32 (drop (32 * (turn - 1)) bytes) ≡ drop (32 * turn) bytes = drop-drop 32 (32 * (turn - 1)) bytes ∙ ap (λ (n : ℕ). drop n bytes) behind in
        let all : take (length (row_before turn bytes)) columns ≡ columns = take_all (length (row_before turn bytes)) columns (omega (arith, row-size, columns-size)) in
        record {
          columns_are = is ∙ rw (next, rest, ← h.columns_are);
          shifts_are = shifted ∙ ap (added shifts) all ∙ rw (next, rest, ← h.columns_are, ← h.shifts_are);
        }

-- ---- All rows

module _ {bytes columns shifts : List ℕ} (h : RowsAdded bytes columns shifts 0) where
  pub all_narrow : Bytes bytes → Narrow columns shifts
  all_narrow small = record { columns-size = columns-size h; shifts_size = shifts_size h; columns-low = λ j. omega (arith, column_le h small j) }

  module _ (size : length bytes ≡ 508) where
    pub all_plain : weighted (λ i. 1) columns ≡ weighted (λ i. 1) bytes
    all_plain = rw h.columns_are (omega (arith, weighted-columns 32 (λ (i : ℕ). 1) 0 (λ i. refl) 16 bytes (omega arith)))

    pub all-position : weighted (λ i. i + 1) columns + 32 * weighted (λ i. 1) shifts ≡ weighted (λ i. i + 1) bytes
    all-position = rw (h.columns_are, h.shifts_are) (sym (weighted-columns 32 (λ (i : ℕ). i + 1) 32 (λ i. omega arith) 16 bytes (omega arith)))
