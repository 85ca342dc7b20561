-- `block::contents::SoundFile::write_bundle` meets its contract.
use Rattle.std.proofs.Common.{◌≡◌, refl, ap, ◌∙◌, arith, ◌+◌, ◌<◌, length, [], get_or}
use Rattle.laws.specs.Parts.{front}
use Rattle.laws.specs.Pieces.{joined, length-joined_le, front-joined}
use Rattle.block.specs.Block.{used_contents}
use Rattle.block.specs.File.{block_count, block_at, contents_at, bundle_of}
use Rattle.block.specs.OpenLaws.{blocks-count, blocks_at, used-most, length_before, length-contents_at, length_through}
use Rattle.block.proofs.contents.SoundFile.write_bundle.Goals as goal
use Rattle.block.proofs.contents.SoundFile.write_bundle.Goals.{In-loop-k, After-contents_of}

pub loop-k-init : goal.loop-k-init
unfolding front joined
loop-k-init c = (refl, refl)

-- the block of a turn
within : (c : In-loop-k) → c.loop-k.k < block_count c.args.self.bytes.now
within c = omega (arith, blocks-count _ _ c.as_chunks.ensures.front, c.loop-k-test.true)

block : (c : In-loop-k) → get_or c.as_chunks.result.0.now c.loop-k.k [] ≡ block_at c.args.self.bytes.now c.loop-k.k
block c = blocks_at _ _ c.as_chunks.ensures.front c.loop-k.k [] (within c)

pub contents_of-requires : goal.contents_of-requires
contents_of-requires c =
    let turn = (goal.at.contents_of-requires c).In-loop-k in
    rw (block turn) (used-most c.args.self.bytes.now c.args.self.sound c.loop-k.k (within turn))

-- its contents
contents : (c : After-contents_of) → c.contents_of.result.now ≡ contents_at c.args.self.bytes.now c.loop-k.k
unfolding contents_at
contents c = c.contents_of.ensures ∙ ap used_contents (block (goal.at.After-contents_of c).In-loop-k)

pub write_at-requires : goal.write_at-requires
unfolding bundle_of
write_at-requires c =
    let at = goal.at.write_at-requires c in
    let file = c.args.self.bytes.now in
    let here = within at.In-loop-k in
    omega (
      arith,
      ap length (contents at.After-contents_of),
      length-contents_at file c.args.self.sound c.loop-k.k here,
      length_through file c.args.self.sound c.loop-k.k here,
      length-joined_le (contents_at file) (c.loop-k.k + 1) (block_count file) (omega (arith, here)),
      c.loop-k.invariant.1,
      c.requires,
    )

pub loop-k-preserved : goal.loop-k-preserved
loop-k-preserved c =
    let at = goal.at.loop-k-preserved c in
    let file = c.args.self.bytes.now in
    let before = length_before file c.args.self.sound c.loop-k.k (within at.In-loop-k) in (
      c.write_at.ensures ∙ rw (contents at.After-contents_of, c.loop-k.invariant.0) (front-joined (contents_at file) c.loop-k.k _ _ before),
      c.write_at.auto.output ∙ c.loop-k.invariant.1,
    )

pub returns : goal.returns
unfolding bundle_of
returns c =
    let whole : c.loop-k.k ≡ block_count c.args.self.bytes.now = omega (arith, blocks-count _ _ c.as_chunks.ensures.front, c.loop-k-test.false, c.loop-k.auto.k-end) in
    c.loop-k.invariant.0 ∙ rw whole
