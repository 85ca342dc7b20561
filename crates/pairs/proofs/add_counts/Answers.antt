use Rattle.std.proofs.Common.{rules, arith, ◌≡◌, ap₂, ◌∙◌, ℕ, ℤ, pos, ◌+ℤ◌, ◌*ℤ◌, get_or, get_or-set_other, length-set, w64, to_z, of_z}
use mir.Val.{SFits}
use mir.Facts.{to_z-of_z}
use Rattle.laws.specs.Lists.{each_set}
use Rattle.nets.specs.Nets.{at}
use Rattle.bundles.specs.Layout.{signed}
use Rattle.pairs.specs.Adding.{within-add, within-weighed, within-fits}
use Rattle.pairs.specs.PairSums.{added_by}
use Rattle.pairs.proofs.add_counts.Goals as goal
use Rattle.pairs.proofs.add_counts.Goals.{After-weighed}

-- the sum that is written
abbrev sum : (c : After-weighed) → ℕ → ℤ
sum c j = get_or c.args.sums.now j (pos 0) +ℤ signed c.args.weight *ℤ pos (at c.args.counts.now j)

stepped : (c : After-weighed)
    → to_z w64 (of_z w64 (get_or c.loop-i.sums c.loop-i.i (pos 0))) +ℤ to_z w64 (of_z w64 c.weighed.result) ≡ sum c c.loop-i.i
stepped c = ap₂ ◌+ℤ◌ (to_z-of_z {w = w64} (search rules) ∙ c.loop-i.invariant.1 c.loop-i.i (omega arith))
    (to_z-of_z {w = w64} (search rules) ∙ c.weighed.ensures)

fits : (c : After-weighed) → SFits w64 (sum c c.loop-i.i)
fits c = within-fits (within-add (c.requires c.loop-i.i)
    (within-weighed c.args.weight (at c.args.counts.now c.loop-i.i) (omega arith) (omega (arith, c.fits-counts c.loop-i.i)))) (omega arith)

pub overflow_add-sum : goal.overflow_add-sum
overflow_add-sum c = let here = (goal.at.overflow_add-sum c).After-weighed in rw (stepped here) (fits here)

pub loop-i-preserved : goal.loop-i-preserved
loop-i-preserved c =
    let here = (goal.at.loop-i-preserved c).After-weighed in
    let l = c.loop-i in
    rw (stepped here) (
      each_set (pos 0) (λ j x. x ≡ sum here j) l.sums l.i _ (omega (arith, l.invariant.2)) l.invariant.0 (to_z-of_z {w = w64} (fits here)),
      λ j b. get_or-set_other l.sums l.i j _ (pos 0) (λ e. omega arith) ∙ l.invariant.1 j (omega arith),
      length-set l.sums l.i _ ∙ l.invariant.2,
    )

pub returns : goal.returns
returns c = added_by _ _ _ c.loop-i.sums c.loop-i.invariant.2 (λ j b. c.loop-i.invariant.0 j (omega arith))
