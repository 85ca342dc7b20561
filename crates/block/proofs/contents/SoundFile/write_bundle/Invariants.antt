-- `block::contents::SoundFile::write_bundle` meets its contract. The invariant: the contents of the blocks passed are in front.
use Rattle.std.proofs.Common.{◌≡◌, length}
use Rattle.laws.specs.Parts.{front}
use Rattle.laws.specs.Pieces.{joined}
use Rattle.block.specs.File.{contents_at}
use Rattle.block.proofs.contents.SoundFile.write_bundle.Given as goal

abbrev pub invariant-loop-k : goal.invariant-loop-k
invariant-loop-k l =
    (l.output ≡ front (joined (contents_at l.self.bytes.now) l.k) l.initial.output) × (length l.output ≡ length l.initial.output)
