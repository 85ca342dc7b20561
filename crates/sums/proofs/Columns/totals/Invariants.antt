-- `sums::Columns::totals` meets its contract. The invariant: the totals are the weighted sums of the columns passed, and are bounded by what each
-- column can add.
use Rattle.std.proofs.Common.{◌≡◌, ℕ, ◌+◌, ◌*◌, ◌≤◌, take}
use Rattle.laws.specs.Sums.{weighted}
use Rattle.sums.proofs.Columns.totals.Given as goal

-- the weights in S and in W
abbrev pub one : ℕ → ℕ
one i = 1

abbrev pub place : ℕ → ℕ
place i = i + 1

abbrev pub invariant-loop-j : goal.invariant-loop-j
invariant-loop-j l = record {
  plain_is : l.plain ≡ weighted one (take l.j l.fn.self.sums);
  position_is : l.position ≡ weighted place (take l.j l.fn.self.sums);
  shifted_is : l.shifted ≡ weighted one (take l.j l.fn.self.shifts);
  plain_le : l.plain ≤ 4095 * l.j;
  position_le : l.position ≤ 131040 * l.j;
  shifted_le : l.shifted ≤ 65535 * l.j;
}
