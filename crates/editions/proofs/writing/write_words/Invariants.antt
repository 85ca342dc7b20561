-- `editions::writing::write_words` meets its contract. The loop's invariant: the words so far are written.
use Rattle.std.proofs.Common.{length, take}
use Rattle.laws.specs.Rewriting.{rewritten}
use Rattle.bundles.specs.Layout.{entry_bytes}
use Rattle.contents.specs.Contents.{contents_of}
use Rattle.writer.specs.Pushing.{Pushed}
use Rattle.editions.proofs.writing.write_words.Given as goal

abbrev pub invariant-loop-word : goal.invariant-loop-word
invariant-loop-word l =
    Pushed l.initial.writer l.writer (rewritten (λ i. entry_bytes l.is_new) (take (length l.yielded) (contents_of l.parts.bundle.now).head.entries))
