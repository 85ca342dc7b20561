-- `pairs::weighed` meets its contract: the product is an `i64`.
use Rattle.std.proofs.Common.{rules, arith, ap₂, ◌∙◌, ◌*ℤ◌, pos, w64, to_z, of_z, ◌≡◌}
use mir.Val.{SFits}
use mir.Facts.{to_z-of_z}
use Rattle.bundles.specs.Layout.{signed}
use Rattle.pairs.specs.Adding.{within-weighed, within-fits}
use Rattle.pairs.proofs.weighed.Goals as goal
use Rattle.pairs.proofs.weighed.Goals.{After-from}

stepped : (c : After-from) → to_z w64 (of_z w64 c.signed.result) *ℤ to_z w64 (of_z w64 c.from.result) ≡ signed c.args.weight *ℤ pos c.args.count
stepped c = ap₂ ◌*ℤ◌ (to_z-of_z {w = w64} (search rules) ∙ c.signed.ensures) (to_z-of_z {w = w64} (search rules) ∙ c.from.ensures)

fits : (c : After-from) → SFits w64 (signed c.args.weight *ℤ pos c.args.count)
fits c = within-fits (within-weighed c.args.weight c.args.count (omega arith) (omega arith)) (omega arith)

pub overflow_mul-result : goal.overflow_mul-result
overflow_mul-result c = let here = (goal.at.overflow_mul-result c).After-from in rw (stepped here) (fits here)

pub returns : goal.returns
returns c = rw (stepped c) (to_z-of_z {w = w64} (fits c))
