-- `pruning::marking::Marked::write_certificates` meets its contract. The loop's invariant: the certificates so far are written, renumbered.
use Rattle.std.proofs.Common.{length, take}
use Rattle.laws.specs.Rewriting.{rewritten}
use Rattle.contents.specs.Contents.{contents_of}
use Rattle.writer.specs.Pushing.{Pushed}
use Rattle.pruning.specs.Writing.{certificate_piece}
use Rattle.pruning.proofs.marking.Marked.write_certificates.Given as goal

abbrev pub invariant-loop-certificate : goal.invariant-loop-certificate
invariant-loop-certificate l =
    let contents = contents_of l.self.parts.bundle.now in
    Pushed l.initial.writer l.writer (rewritten (certificate_piece contents) (take (length l.yielded) contents.certificates))
