use Rattle.std.proofs.Common.{rules, arith, ◌≡◌, ◌∙◌, pos, get_or, w64}
use Rattle.std.proofs.Math.ListN.{get_or-append}
use mir.Val.{SFits}
use mir.Facts.{to_z-of_z}
use Rattle.laws.specs.Lists.{each_set}
use Rattle.columns.proofs.Moderate.{start_moderate}
use Rattle.columns.proofs.marking.start.Goals as goal

pub loop-j-preserved : goal.loop-j-preserved
loop-j-preserved c =
    let l = c.loop-j in
    let fits : SFits w64 c.from.result = search rules in
    each_set (pos 0) (λ i x. x ≡ pos (get_or c.args.initial.now i 0)) l.tokens-items l.j _ (omega arith) l.invariant (to_z-of_z fits ∙ c.from.ensures)

pub returns-clause-value : goal.returns-clause-value
returns-clause-value c j b = get_or-append c.loop-j.tokens-items _ (pos 0) j (omega arith) ∙ c.loop-j.invariant j (omega arith)

pub returns-clause-held : goal.returns-clause-held
returns-clause-held c = start_moderate c.args.initial.now _ (λ j. search rules) (returns-clause-value c)
