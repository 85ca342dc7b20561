-- `sums::Columns::add` meets its contract. The invariant: the elements before index j are added.
use Rattle.std.proofs.Common.{◌≡◌, take}
use Rattle.laws.specs.Columns.{added}
use Rattle.sums.proofs.Columns.add.Given as goal

abbrev pub invariant-loop-j : goal.invariant-loop-j
invariant-loop-j l = record {
  sums_are : l.self.sums ≡ added l.initial.self.sums (take l.j l.row);
  shifts_are : l.self.shifts ≡ added l.initial.self.shifts (take l.j l.initial.self.sums);
}
