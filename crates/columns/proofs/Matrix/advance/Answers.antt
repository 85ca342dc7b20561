use Rattle.std.proofs.Common.{rules, arith, ◌∙◌, ap, set, get_or}
use Rattle.columns.specs.MatrixLaws.{counts_next}
use Rattle.columns.proofs.Matrix.advance.Goals as goal

pub loop-i-preserved : goal.loop-i-preserved
loop-i-preserved c =
    let l = c.loop-i in
    let r = c.recount.ensures in
    record {
      blocks = r.blocks ∙ l.invariant.blocks;
      counts = r.counts ∙ ap (λ v. set v l.i (get_or c.args.counts.now l.i 0)) l.invariant.counts ∙ counts_next _ _ l.i (search rules) (omega arith);
      marking = r.marking;
    }
