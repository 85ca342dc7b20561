-- `contents::front_length` meets its contract. The loop's invariant: `at` is the offset of the word that is next.
use Rattle.std.proofs.Common.{◌≡◌, ◌+◌, length, take}
use mathlib.Core.List.{flat_map}
use Rattle.contents.specs.Walking.{entries_in, entry_in}
use Rattle.contents.proofs.front_length.Given as goal

abbrev pub invariant-loop-word : goal.invariant-loop-word
invariant-loop-word l = l.at ≡ 2 + length (flat_map (entry_in l.bundle) (take l._word (entries_in l.bundle)))
