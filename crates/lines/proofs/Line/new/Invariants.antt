-- The word, and the numbers so far.
use Rattle.std.proofs.Common.{◌≡◌, ◌+◌, ◌*◌, ◌≤◌, ◌++◌, length, take}
use Rattle.std.specs.Prelude.{flat_map}
use Rattle.lines.specs.Lines.{spaced}
use Rattle.lines.proofs.Line.new.Given as goal

abbrev pub invariant-loop-number : goal.invariant-loop-number
invariant-loop-number g l = record {
  written : l.line ≡ l.fn.word ++ flat_map spaced (take l.number-index l.numbers);
  within : length l.line ≤ length l.fn.word + 21 * l.number-index;
}
