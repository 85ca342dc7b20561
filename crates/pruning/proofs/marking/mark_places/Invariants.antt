-- `pruning::marking::mark_places` meets its contract. The loop's invariant: the certificates so far have marked their places.
use Rattle.std.proofs.Common.{◌≡◌, length, take}
use Rattle.contents.specs.Contents.{contents_of}
use Rattle.pruning.specs.Marking.{marks_of}
use Rattle.pruning.proofs.marking.mark_places.Given as goal

abbrev pub invariant-loop-certificate : goal.invariant-loop-certificate
invariant-loop-certificate l = l.marks ≡ marks_of (take (length l.yielded) (contents_of l.parts.bundle.now).certificates)
