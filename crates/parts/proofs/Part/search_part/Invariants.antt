-- `parts::Part::search_part` meets its contract. The loop's invariant: the columns in front of the next one are searched, eight at a time.
use Rattle.std.proofs.Common.{◌≡◌, ◌%◌}
use Rattle.parts.specs.Groups.{Searched}
use Rattle.parts.proofs.Part.search_part.Given as goal

abbrev pub invariant-loop-first : goal.invariant-loop-first
invariant-loop-first l = (l.first % 8 ≡ 0) × Searched l.self.search l.self.done l.initial.marking l.marking l.first l.best
