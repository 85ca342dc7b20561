-- `block::contents::SoundFile::bundle_length` meets its contract.
use Rattle.std.proofs.Common.{◌≡◌, ap, ◌+◌, ◌-◌, arith, length}
use Rattle.block.specs.File.{block_count, block_at, contents_at}
use Rattle.block.specs.OpenLaws.{blocks-last, length-bundle, length-contents_at, used-most}
use Rattle.block.proofs.contents.SoundFile.bundle_length.Goals as goal
use Rattle.block.proofs.contents.SoundFile.bundle_length.Goals.{After-unwrap}

-- the last block, and those before it
last : (c : After-unwrap) → let file = c.args.self.bytes.now in
    (length c.unwrap.result.1.now + 1 ≡ block_count file) × (block_at file (block_count file - 1) ≡ c.unwrap.result.0.now)
last c =
    let split = rw c.unwrap.ensures at c.split_last.ensures.cases in
    blocks-last _ _ c.as_chunks.ensures.front _ _ split.0

pub contents_of-requires : goal.contents_of-requires
contents_of-requires c =
    let (size, is) = last (goal.at.contents_of-requires c).After-unwrap in
    let sound = c.args.self.sound in
    rw is at (used-most c.args.self.bytes.now sound (block_count c.args.self.bytes.now - 1) (omega (arith, sound.some)))

pub returns : goal.returns
unfolding contents_at
returns c =
    let (size, is) = last (goal.at.returns c).After-unwrap in
    let sound = c.args.self.sound in
    let file = c.args.self.bytes.now in
    let used = rw is at (length-contents_at file sound (block_count file - 1) (omega (arith, sound.some))) in
    omega (arith, size, ap length c.contents_of.ensures, used, rw is at (length-bundle file sound))
