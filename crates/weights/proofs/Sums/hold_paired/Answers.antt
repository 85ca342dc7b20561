use Rattle.std.proofs.Common.{◌≡◌, ℤ, pos, ◌+ℤ◌, ◌*◌, ◌+◌, get_or, ap₂, ◌∙◌, sym, rules, arith, w64, to_z, of_z}
use mir.Val.{SFits}
use mir.Facts.{to_z-of_z}
use Rattle.laws.specs.Lists.{all_below-none, all_below-next}
use Rattle.limits.specs.Limits.{max_events}
use Rattle.nets.specs.Nets.{at}
use Rattle.pairs.specs.Adding.{Within, within-natural, within-add, within-fits}
use Rattle.weights.specs.Totals.{max_number, paired_hold, one_if}
use Rattle.weights.proofs.Sums.hold_paired.Goals as goal
use Rattle.weights.proofs.Sums.hold_paired.Goals.{After-from, After-from-in-loop-i-4}

-- the sum of the weights and the pairs
abbrev sum : (c : After-from) → ℤ
sum c = pos (at c.args.self.now.before c.loop-i.i) +ℤ get_or c.args.paired.now c.loop-i.i (pos 0)

within : (c : After-from) → Within (max_number * max_number + 4611686018427387904) (sum c)
within c = within-add (within-natural (at c.args.self.now.before c.loop-i.i) (c.requires.small.1 c.loop-i.i)) (c.requires.bounded c.loop-i.i)

stepped : (c : After-from) → to_z w64 (of_z w64 c.from.result) +ℤ to_z w64 (of_z w64 (get_or c.args.paired.now c.loop-i.i (pos 0))) ≡ sum c
stepped c = ap₂ ◌+ℤ◌ (to_z-of_z {w = w64} (search rules) ∙ c.from.ensures) (to_z-of_z {w = w64} (search rules))

summed : (c : After-from)
    → to_z w64 (of_z w64 (to_z w64 (of_z w64 c.from.result) +ℤ to_z w64 (of_z w64 (get_or c.args.paired.now c.loop-i.i (pos 0))))) ≡ sum c
summed c = rw (stepped c) (to_z-of_z {w = w64} (within-fits (within c) (omega arith)))

-- and the weights of the step's event
last : (c : After-from-in-loop-i-4) → let here = (goal.at.After-from-in-loop-i-4 c).After-from in
    to_z w64 (of_z w64 (to_z w64 (of_z w64 c.from.result) +ℤ to_z w64 (of_z w64 (get_or c.args.paired.now c.loop-i.i (pos 0)))))
    +ℤ to_z w64 (of_z w64 c.from-in-loop-i-4.result)
    ≡ sum here +ℤ pos (at c.args.self.now.of_event c.loop-i.i)
last c = ap₂ ◌+ℤ◌ (summed (goal.at.After-from-in-loop-i-4 c).After-from) (to_z-of_z {w = w64} (search rules) ∙ c.from-in-loop-i-4.ensures)

last-fits : (c : After-from-in-loop-i-4)
    → let here = (goal.at.After-from-in-loop-i-4 c).After-from in SFits w64 (sum here +ℤ pos (at c.args.self.now.of_event c.loop-i.i))
last-fits c =
    within-fits (within-add (within (goal.at.After-from-in-loop-i-4 c).After-from)
    (within-natural (at c.args.self.now.of_event c.loop-i.i) (c.requires.small.2 c.loop-i.i))) (omega arith)

pub overflow_add-sum : goal.overflow_add-sum
overflow_add-sum c = let here = (goal.at.overflow_add-sum c).After-from in rw (stepped here) (within-fits (within here) (omega arith))

pub loop-i-init : goal.loop-i-init
loop-i-init c = sym (all_below-none _)

pub loop-i-preserved : goal.loop-i-preserved
loop-i-preserved c =
    let here = (goal.at.loop-i-preserved c).After-from in
    let second = to_z-of_z {w = w64} (search rules) ∙ c.from-in-loop-i.ensures in
    let third = to_z-of_z {w = w64} (search rules) ∙ c.from-in-loop-i-3.ensures in
    rw (
      last (goal.at.loop-i-preserved c).After-from-in-loop-i-4,
      to_z-of_z {w = w64} (last-fits (goal.at.loop-i-preserved c).After-from-in-loop-i-4),
      summed here,
      second,
      third,
      c.loop-i.invariant,
      c.from-count.ensures,
      c.from-in-loop-i-2.ensures,
      one_if,
    )
    (sym (all_below-next _ _))

pub returns : goal.returns
unfolding paired_hold
returns c =
    let all : c.loop-i.i ≡ max_events = omega arith in
    rw (c.loop-i.invariant, all)
