use Rattle.std.proofs.Common.{rules, refl}
use Rattle.columns.specs.MatrixLaws.{marking_next}
use Rattle.columns.proofs.Moderate.{short_matrix, marking_moderate}
use Rattle.columns.proofs.Matrix.recount.Goals as goal

pub returns : goal.returns
returns c =
    let rows = c.type_inv.self.1 in
    let short = short_matrix c.args.self.now _ _ (λ j. search rules) rows.0.1.1 rows.1.0.1.1 in
    let after = marking_next _ _ _ (search rules) c.requires.1 c.requires.0.after c.recount.ensures in
    record { blocks = refl; counts = refl; marking = record { after = after; held = marking_moderate short (λ i. search rules) after } }
