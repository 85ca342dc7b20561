use Rattle.std.proofs.Common.{◌≡◌, refl, sym, ap, subst, ◌∙◌, List, ℕ, ◌+◌, ◌-◌, ◌*◌, ◌/◌, ◌%◌, ◌<◌, length, take, drop, get_or, reverse, length-append, length-drop, take_all, rules, arith}
use Rattle.std.specs.Simd.{first_chunks}
use Rattle.std.proofs.lemmas.List.{get_or-reverse, length-reverse}
use Rattle.std.proofs.lemmas.Iterator.Adapters.{YieldsList-from_rev_slice}
use Rattle.std.proofs.lemmas.Iterator.Consumers.{YieldsList-turn, YieldsList-end}
use Rattle.laws.specs.Chunks.{chunk, length-chunks}
use Rattle.sums.specs.Checksums.{plain_sum, position_sum}
use Rattle.sums.specs.Adding.{RowsAdded, last-room, last-added, row_room, row-added, all_narrow, all_plain, all-position}
use Rattle.sums.proofs.sums_of.Goals as goal
use Rattle.sums.proofs.sums_of.Goals.{In-Some, In-None}

module _ (bytes : List ℕ) (size : length bytes ≡ 508) where
  -- the bytes behind the rows
  last_is : (rest : List ℕ) → rest ≡ drop (length bytes / 32 * 32) bytes → rest ≡ take 28 (drop 480 bytes)
  last_is rest e = e ∙ rw size (sym (take_all 28 (drop 480 bytes) (omega (arith, size, length-drop 480 bytes))))

  -- the rows, the last one first
  row_is : (rows : List (List ℕ)) (k : ℕ) (row : List ℕ) → rows ≡ first_chunks 32 (length bytes / 32) bytes → k < length (reverse rows)
      → row ≡ get_or (reverse rows) k row → (k < 15) × (row ≡ take 32 (drop (32 * (15 - k - 1)) bytes))
  row_is rows k row are inside e =
      let all : rows ≡ first_chunks 32 15 bytes = are ∙ rw size refl in
      let count : length rows ≡ 15 = ap length all ∙ length-chunks 32 15 bytes in
      let within : k < 15 = omega (arith, inside, length-reverse rows, count) in
      let place : length rows - 1 - k ≡ 15 - k - 1 = omega (arith, count) in (
        within,
        e ∙ get_or-reverse rows k row (omega (arith, count, within)) ∙ rw (place, all) (chunk 32 15 bytes (15 - k - 1) row (omega arith)),
      )

pub add-requires : goal.add-requires
add-requires c =
    let bytes = c.args.bytes.now in
    rw (last_is bytes c.told-bytes _ c.as_chunks.ensures.back) (last-room bytes c.told-bytes)

pub loop-row-init : goal.loop-row-init
loop-row-init c =
    let bytes = c.args.bytes.now in
    let last = last_is bytes c.told-bytes _ c.as_chunks.ensures.back in
    last-added bytes c.told-bytes (rw last at c.add.ensures.sums_after) (rw last at c.add.ensures.shifts_after)

-- the row of a turn
row : (c : In-Some) → let k = length c.loop-row.yielded in (k < 15) × (c.in-Some.row.now ≡ take 32 (drop (32 * (15 - k - 1)) c.args.bytes.now))
row c =
    let road = YieldsList-from_rev_slice c.as_chunks.result.0.now (search rules) in
    let turn = YieldsList-turn road c.loop-row.yielded _ c.loop-row.yielded_by _ c.next.new.self c.in-Some.row c.in-Some.is c.next.ensures.steps in
    row_is c.args.bytes.now c.told-bytes _ _ _ c.as_chunks.ensures.front turn.0 turn.1

pub add-requires-in-loop-row : goal.add-requires-in-loop-row
add-requires-in-loop-row c =
    let here = row (goal.at.add-requires-in-loop-row c).In-Some in
    rw here.1 (row_room c.loop-row.invariant c.told-bytes (omega (arith, here.0)) (omega arith) c.fits-bytes)

pub loop-row-preserved : goal.loop-row-preserved
loop-row-preserved c =
    let here = row (goal.at.loop-row-preserved c).In-Some in
    let next : 15 - length c.loop-row.yielded - 1 ≡ 15 - (length c.loop-row.yielded + 1) = omega arith in
    let sums = rw here.1 at c.add-in-loop-row.ensures.sums_after in
    let shifts = rw here.1 at c.add-in-loop-row.ensures.shifts_after in
    rw (length-append, ← next) (row-added c.loop-row.invariant c.told-bytes (omega (arith, here.0)) (omega arith) sums shifts)

-- after the loop all rows are added
done : (c : In-None) → RowsAdded c.args.bytes.now c.loop-row.columns.sums c.loop-row.columns.shifts 0
done c =
    let road = YieldsList-from_rev_slice c.as_chunks.result.0.now (search rules) in
    let end = YieldsList-end road c.loop-row.yielded _ c.loop-row.yielded_by _ c.next.new.self c.in-None.is c.next.ensures.steps in
    let size = length-reverse c.as_chunks.result.0.now in
    let all : 15 - length c.loop-row.yielded ≡ 0 = omega (arith, end.1, size, c.as_chunks.ensures.front_len, c.told-bytes) in
    subst (RowsAdded c.args.bytes.now c.loop-row.columns.sums c.loop-row.columns.shifts) all c.loop-row.invariant

pub totals-requires : goal.totals-requires
totals-requires c = all_narrow (done c) c.fits-bytes

pub returns : goal.returns
unfolding plain_sum position_sum
returns c =
    let all = done (goal.at.returns c).In-None in (
      c.totals.ensures.plain_value ∙ ap (λ (n : ℕ). n % 65521) (all_plain all c.told-bytes),
      c.totals.ensures.position_value ∙ ap (λ (n : ℕ). n % 65521) (all-position all c.told-bytes),
    )
