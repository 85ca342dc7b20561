-- `parts::search_rest` meets its contract. The loop's invariant: these are the tokens behind the steps that are done.
use Rattle.std.proofs.Common.{length, min}
use Rattle.parts.specs.Parts.{MarkedAll}
use Rattle.parts.proofs.search_rest.Given as goal

abbrev pub invariant-loop-done : goal.invariant-loop-done
invariant-loop-done l = MarkedAll l.search (min (length l.search.word.now) l.done) l.marking
