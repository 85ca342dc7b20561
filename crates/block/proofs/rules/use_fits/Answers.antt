-- `block::rules::use_fits` meets its contract: past the test of the used count, the bytes behind the used ones are looked at.
use Rattle.std.proofs.Common.{◌≡◌, sym, ap, ◌∙◌, ◌+◌, ◌-◌, ◌≤◌, arith, rules}
use Rattle.block.specs.Block.{used_count, right_count, right_padding, right_use}
use Rattle.block.specs.BlockLaws.{right_count-most}
use Rattle.block.proofs.rules.use_fits.Goals as goal
use Rattle.block.proofs.rules.use_fits.Goals.{After-count_fits, Then-count_fits}

tested : (c : After-count_fits) → c.count_fits.result ≡ right_count c.args.last (used_count c.args.block.now)
unfolding used_count
tested c = c.count_fits.ensures ∙ ap (right_count _) c.number_at-used.ensures

-- past that test a block uses at most 504 bytes
most : (c : Then-count_fits) → c.number_at-used.result ≤ 504
most c = right_count-most _ _ (sym c.count_fits.ensures ∙ c.if-count_fits.true)

pub slice_bounds-all_zero-count : goal.slice_bounds-all_zero-count
slice_bounds-all_zero-count c = omega (arith, most (goal.at.slice_bounds-all_zero-count c).Then-count_fits)

pub slice_bounds-all_zero-start : goal.slice_bounds-all_zero-start
slice_bounds-all_zero-start c = let few = most (goal.at.slice_bounds-all_zero-start c).Then-count_fits in search rules

pub returns-then-count_fits : goal.returns-then-count_fits
unfolding right_use right_padding used_count
returns-then-count_fits c =
    let at = goal.at.returns-then-count_fits c in
    let used = c.from.ensures ∙ c.number_at-used.ensures in
    let unused : 504 - c.from.result ≡ 508 - (4 + c.from.result) = omega arith in
    let counted = sym (tested at.After-count_fits) ∙ c.if-count_fits.true in
    rw counted (rw (← used, unused) c.all_zero.ensures)

pub returns-else-count_fits : goal.returns-else-count_fits
unfolding right_use
returns-else-count_fits c =
    let at = goal.at.returns-else-count_fits c in
    rw (sym (tested at.After-count_fits) ∙ c.if-count_fits.false) c.if-count_fits.false
