use Rattle.std.proofs.Common.{◌∙◌, sym, ap}
use Rattle.rows.specs.Rows.{Row, new_row, none}
use Rattle.rows.specs.Flat.{rows_at}
use Rattle.weights.proofs.Step.counts.Goals as goal

pub returns : goal.returns
returns c =
    let s = c.args.self.now in
    let t = s.head.now in
    (c.counts_of.ensures.0 ∙ ap (λ (r : Row). r.counts) (sym (rows_at t.rows t.table.now s.row (new_row none) s.row_there)), c.counts_of.ensures.1)
