use Rattle.std.proofs.Common.{arith, refl, ◌∙◌}
use Rattle.columns.specs.RowFits.{rows_start, rows_next, rows_end}
use Rattle.columns.specs.MatrixLaws.{table_row-covered}
use Rattle.columns.proofs.Matrix.fit.Goals as goal

pub loop-r-init : goal.loop-r-init
loop-r-init c = (c.requires.marking, refl, λ j b. rows_start _ _ _)

pub loop-r-preserved : goal.loop-r-preserved
loop-r-preserved c =
    let l = c.loop-r in
    let gone = c.advance.ensures in
    let counts = gone.counts ∙ c.counts_of.ensures.0 in
    let events = rw c.mask_of.ensures at (c.covers_mask.ensures c.if-not-covers_mask.false) in
    let covered = table_row-covered c.args.table.now l.r gone.marking.after counts events in (
      gone.marking,
      gone.blocks ∙ l.invariant.1,
      λ j b. rows_next _ _ _ l.r (omega arith) (l.invariant.2 j b) (covered j (omega (arith, gone.blocks, l.invariant.1))),
    )

pub returns-clause-value : goal.returns-clause-value
returns-clause-value c = λ met j b. rows_end _ _ _ c.loop-r.r (omega arith) (c.loop-r.invariant.2 j b)
