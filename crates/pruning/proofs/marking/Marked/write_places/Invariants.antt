-- `pruning::marking::Marked::write_places` meets its contract. The loop's invariant: the marked ones of the places so far are written.
use Rattle.std.proofs.Common.{length}
use Rattle.std.specs.Iterator.Adapters.{zip_first, zip_second}
use Rattle.std.specs.Slice.Iter.{chunks_exact_rest, chunks_exact_size, iter_rest}
use Rattle.pruning.specs.Writing.{PlacesBehind}
use Rattle.pruning.proofs.marking.Marked.write_places.Given as goal

abbrev pub invariant-loop-place : goal.invariant-loop-place
invariant-loop-place l =
    let places = zip_first l.place-iterator in
    PlacesBehind l.self (length l.yielded) (chunks_exact_size places) (chunks_exact_rest places) (iter_rest (zip_second l.place-iterator)) l.initial.writer l.writer
