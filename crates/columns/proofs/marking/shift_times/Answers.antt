use Rattle.std.proofs.Common.{rules, arith, ◌≡◌, ◌∙◌, ap₂, get_or-set_other, pos, ◌+ℤ◌, get_or, w64}
use mir.Val.{SFits}
use mir.Facts.{to_z-of_z}
use Rattle.laws.specs.Lists.{each_set}
use Rattle.columns.specs.Matrix.{shifted}
use Rattle.columns.proofs.Moderate.{shifted_fits}
use Rattle.columns.proofs.marking.shift_times.Goals as goal

pub loop-j-preserved : goal.loop-j-preserved
loop-j-preserved c =
    let l = c.loop-j in
    let a = c.args in
    let old = get_or a.tokens.now l.j (pos 0) in
    let held : SFits w64 (get_or l.tokens l.j (pos 0)) = search rules in
    let gain : SFits w64 c.gain.result = search rules in
    let step = ap₂ ◌+ℤ◌ (to_z-of_z held ∙ l.invariant.1 l.j (omega arith)) (to_z-of_z gain ∙ c.gain.ensures) in
    let fits : SFits w64 (shifted a.plus.now a.minus.now a.times l.j old) =
    shifted_fits old (c.requires.held l.j (omega arith)) a.times (get_or a.plus.now l.j 0) (get_or a.minus.now l.j 0) (omega arith)
    (search rules) (search rules) in
    rw step (
      each_set (pos 0) (λ i x. x ≡ shifted a.plus.now a.minus.now a.times i (get_or a.tokens.now i (pos 0))) l.tokens l.j _ (omega arith)
          l.invariant.0 (to_z-of_z fits),
      λ i b. get_or-set_other l.tokens l.j i _ (pos 0) (λ e. omega arith) ∙ l.invariant.1 i (omega arith),
    )
