-- `rows::same_counts` meets its contract.
use Rattle.std.proofs.Common.{arith, ◌∙◌, sym, ap₂, ◌≡◌, take, drop, take_all, length-drop, length-take}
use Rattle.std.specs.Prelude.{true}
use Rattle.laws.specs.Lists.{equal, equal-part}
use Rattle.rows.specs.Searching.{equal-fold, equal-parts}
use Rattle.rows.proofs.same_counts.Goals as goal

pub returns-then-same_part : goal.returns-then-same_part
returns-then-same_part c =
    let a = c.args in
    let first : equal (take 8 a.row.now) (take 8 a.counts.now) ≡ true =
    sym (equal-fold _ _ (simp length-take (omega arith))) ∙ sym c.same_part.ensures ∙ c.if-same_part.true in
    let parts = rw first at (equal-parts 8 a.row.now a.counts.now) in
    c.same_part-then-same_part.ensures
    ∙ equal-fold (take 4 (drop 8 a.row.now)) (take 4 (drop 8 a.counts.now)) (simp (length-take, length-drop) (omega arith))
    ∙ ap₂ equal (take_all 4 (drop 8 a.row.now) (simp length-drop (omega arith))) (take_all 4 (drop 8 a.counts.now) (simp length-drop (omega arith)))
    ∙ parts

pub returns-else-same_part : goal.returns-else-same_part
returns-else-same_part c =
    let a = c.args in
    c.if-same_part.false
    ∙ sym (equal-part a.row.now a.counts.now 8 (sym (equal-fold _ _ (simp length-take (omega arith))) ∙ sym c.same_part.ensures ∙ c.if-same_part.false))
