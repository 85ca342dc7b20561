-- `pruning::writing::numbers_of` meets its contract. The loop's invariant: the places before j have their numbers.
use Rattle.std.proofs.Common.{◌≡◌}
use Rattle.laws.specs.Ranks.{rank}
use Rattle.pruning.specs.Marking.{marked}
use Rattle.pruning.specs.Writing.{numbers_done}
use Rattle.pruning.proofs.writing.numbers_of.Given as goal

abbrev pub invariant-loop-j : goal.invariant-loop-j
invariant-loop-j l = record {
  next : l.next ≡ rank (marked l.marks) l.j;
  numbers : l.number-items ≡ numbers_done (marked l.marks) l.j;
}
