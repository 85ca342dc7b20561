-- `block::contents::contents_of` meets its contract.
use Rattle.std.proofs.Common.{rules, ◌∙◌}
use Rattle.std.proofs.Math.Nat.{add-sub_cancel_left}
use Rattle.block.specs.Block.{used_count, used_contents}
use Rattle.block.proofs.contents.contents_of.Goals as goal

pub slice_bounds-result-end : goal.slice_bounds-result-end
unfolding used_count
slice_bounds-result-end c = let used = c.from-used.ensures ∙ c.number_at.ensures in search rules

pub returns : goal.returns
unfolding used_contents used_count
returns c =
    let used = c.from-used.ensures ∙ c.number_at.ensures in
    rw (add-sub_cancel_left, used)
