-- `editions::writing::write_certificates` meets its contract. The loop's invariant: the certificates so far are written.
use Rattle.std.proofs.Common.{length, take}
use Rattle.laws.specs.Rewriting.{rewritten}
use Rattle.bundles.specs.Layout.{certificate_bytes}
use Rattle.contents.specs.Contents.{contents_of}
use Rattle.writer.specs.Pushing.{Pushed}
use Rattle.editions.proofs.writing.write_certificates.Given as goal

abbrev pub invariant-loop-certificate : goal.invariant-loop-certificate
invariant-loop-certificate l =
    Pushed l.initial.writer l.writer
    (rewritten (λ i. certificate_bytes l.is_new) (take (length l.yielded) (contents_of l.parts.bundle.now).certificates))
