-- `columns::marking::recount` meets its contract: the difference of the counts is added or taken off.
use Rattle.std.proofs.Common.{rules, arith, ◌≡◌, length, ◌-◌}
use Rattle.columns.specs.MatrixLaws.{shifted_front, recounted, recounted-back, recounted-same}
use Rattle.columns.proofs.marking.recount.Goals as goal

pub returns-then-before-after : goal.returns-then-before-after
returns-then-before-after c =
    let a = c.args in
    let size : length c.shift.new.tokens ≡ a.width = search rules in
    recounted _ _ _ a.tokens.now _ a.before (a.after - a.before) a.after (omega arith)
    (shifted_front _ _ _ _ _ _ _ size (λ j b. c.shift.ensures j (omega arith)))

pub returns-then-after-before : goal.returns-then-after-before
returns-then-after-before c =
    let a = c.args in
    let size : length c.shift-then-after-before.new.tokens ≡ a.width = search rules in
    recounted-back _ _ _ a.tokens.now _ a.after (a.before - a.after) a.before (omega arith)
    (shifted_front _ _ _ _ _ _ _ size (λ j b. c.shift-then-after-before.ensures j (omega arith)))

pub returns-else-after-before : goal.returns-else-after-before
returns-else-after-before c = recounted-same _ _ _ _ _ _ (omega arith)
