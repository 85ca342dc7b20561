-- `sealing::building::write_blocks` meets its contract.
use Rattle.std.proofs.Common.{◌≡◌, refl, ap, ap₂, ◌∙◌, arith, ◌+◌, ◌-◌, ◌*◌, ◌≤◌, length, length-drop}
use Rattle.std.specs.Iterator.Adapters.{enumerate_count}
use Rattle.laws.specs.Parts.{front}
use Rattle.laws.specs.Pieces.{joined, front-joined}
use Rattle.block.specs.Block.{block}
use Rattle.block.specs.File.{blocks_for, sealed_block_at, sealed_file}
use Rattle.block.specs.SealLaws.{length_blocks_before, length-sealed_block_at}
use Rattle.sealing.proofs.Pieces.{put, part-is, behind-is}
use Rattle.sealing.proofs.building.write_blocks.Goals as goal
use Rattle.sealing.proofs.building.write_blocks.Goals.{In-Some, After-write_block}

pub loop-k-init : goal.loop-k-init
unfolding front joined
loop-k-init c =
    rw (c.into_iter-k-iterator.ensures.into_iter_gives, c.enumerate-k-items.ensures.source, c.enumerate-k-items.ensures.count)
    record { most = omega arith; size = c.chunks.ensures.size; rest = c.chunks.ensures.rest; written = refl }

-- the block of a turn is one of those that the bundle takes
within : (c : In-Some) → c.in-Some.k + 1 ≤ blocks_for (length c.args.bundle.now)
unfolding blocks_for
within c =
    let inv = c.loop-k.invariant in
    let steps = c.in-Some.ensures.steps in
    omega (arith, steps.0.1.2, ap length inv.rest, length-drop (504 * enumerate_count c.loop-k.k-iterator) c.args.bundle.now, steps.1)

pub slice_bounds-write_block-end : goal.slice_bounds-write_block-end
slice_bounds-write_block-end c = omega (arith, within (goal.at.slice_bounds-write_block-end c).In-Some, c.requires.bundle_in_bounds, c.loop-k.auto.output)

-- what is written for it
piece : (c : After-write_block) → c.write_block.new.output ≡ sealed_block_at c.args.bundle.now (enumerate_count c.loop-k.k-iterator)
unfolding sealed_block_at
piece c =
    let inv = c.loop-k.invariant in
    let steps = c.in-Some.ensures.steps in
    c.write_block.ensures ∙ ap₂ block steps.1 (part-is c.args.bundle.now _ _ _ _ _ steps.0.1.0 steps.0.1.1 inv.rest inv.size)

pub loop-k-preserved : goal.loop-k-preserved
loop-k-preserved c =
    let inv = c.loop-k.invariant in
    let steps = c.in-Some.ensures.steps in
    let bundle = c.args.bundle.now in
    let n = enumerate_count c.loop-k.k-iterator in
    let at = goal.at.loop-k-preserved c in
    let new = piece at.After-write_block in
    let long : length c.write_block.new.output ≡ 512 * (c.in-Some.k + 1) - 512 * c.in-Some.k = omega (arith, ap length new, length-sealed_block_at bundle n) in
    record {
      most = omega (arith, within at.In-Some, steps.1, steps.2);
      size = steps.0.0 ∙ inv.size;
      rest = behind-is bundle _ _ _ _ _ steps.0.1.0 steps.0.1.1 inv.rest inv.size ∙ rw steps.2;
      written = put _ _ _ _ long ∙ rw (steps.1, new, inv.written, steps.2) (front-joined (sealed_block_at bundle) n (512 * n) c.args.output.now (length_blocks_before bundle n));
    }

pub returns : goal.returns
unfolding sealed_file blocks_for
returns c =
    let inv = c.loop-k.invariant in
    let n = enumerate_count c.loop-k.k-iterator in
    let all : n ≡ blocks_for (length c.args.bundle.now) = omega (arith, inv.most, c.in-None.ensures.steps.0.1.0, ap length inv.rest, length-drop (504 * n) c.args.bundle.now) in
    inv.written ∙ rw all
