-- `sealing::building::write_blocks` meets its contract. The invariant: the blocks passed are in front, and the rest of the bundle is still to come.
use Rattle.std.proofs.Common.{◌≡◌, ◌*◌, ◌≤◌, length, drop}
use Rattle.std.specs.Iterator.Adapters.{enumerate_source, enumerate_count}
use Rattle.std.specs.Slice.Iter.{chunks_rest, chunks_size}
use Rattle.laws.specs.Parts.{front}
use Rattle.laws.specs.Pieces.{joined}
use Rattle.block.specs.File.{blocks_for, sealed_block_at}
use Rattle.sealing.proofs.building.write_blocks.Given as goal

abbrev pub invariant-loop-k : goal.invariant-loop-k
invariant-loop-k l =
    let count = enumerate_count l.k-iterator in
    let chunks = enumerate_source l.k-iterator in
    record {
      most : count ≤ blocks_for (length l.bundle);
      size : chunks_size chunks ≡ 504;
      rest : chunks_rest chunks ≡ drop (504 * count) l.bundle;
      written : l.output ≡ front (joined (sealed_block_at l.bundle) count) l.initial.output;
    }
