use Rattle.std.proofs.Common.{◌≡◌, refl, ◌≤◌, get_or, arith, rules}
use Rattle.laws.specs.Columns.{added, added-at, added_next}
use Rattle.sums.proofs.Columns.add.Goals as goal
use Rattle.sums.proofs.Columns.add.Goals.{At-loop-j}

pub loop-j-init : goal.loop-j-init
unfolding added
loop-j-init c = record { sums_are = refl; shifts_are = refl }

-- the elements at index j are as they were
sum-at : (c : At-loop-j) → get_or c.loop-j.self.sums c.loop-j.j 0 ≡ get_or c.args.self.now.sums c.loop-j.j 0
sum-at c = added-at c.args.self.now.sums c.args.row.now c.loop-j.self.sums c.loop-j.j c.loop-j.invariant.sums_are

shift-at : (c : At-loop-j) → get_or c.loop-j.self.shifts c.loop-j.j 0 ≡ get_or c.args.self.now.shifts c.loop-j.j 0
shift-at c = added-at c.args.self.now.shifts c.args.self.now.sums c.loop-j.self.shifts c.loop-j.j c.loop-j.invariant.shifts_are

bounds : (c : At-loop-j) → (get_or c.loop-j.self.sums c.loop-j.j 0 ≤ 3825) × (get_or c.loop-j.self.shifts c.loop-j.j 0 ≤ 57375)
bounds c = rw (sum-at c, shift-at c) (c.requires.columns-low c.loop-j.j, c.requires.shifts_low c.loop-j.j)

pub overflow_add-self : goal.overflow_add-self
overflow_add-self c = let at = bounds (goal.at.overflow_add-self c).At-loop-j in omega (arith, at.0, at.1)

pub overflow_add-self-in-loop-j : goal.overflow_add-self-in-loop-j
overflow_add-self-in-loop-j c = let at = bounds (goal.at.overflow_add-self-in-loop-j c).At-loop-j in omega (arith, at.0, at.1)

pub loop-j-preserved : goal.loop-j-preserved
loop-j-preserved c =
    let old = c.args.self.now in
    let j = c.loop-j.j in
    let sum = sum-at (goal.at.loop-j-preserved c).At-loop-j in
    record {
      sums_are = added_next old.sums c.args.row.now c.loop-j.self.sums j _ c.loop-j.invariant.sums_are (omega arith) (search rules);
      shifts_are = added_next old.shifts old.sums c.loop-j.self.shifts j _ c.loop-j.invariant.shifts_are (omega (arith, c.requires.columns-long)) sum;
    }
