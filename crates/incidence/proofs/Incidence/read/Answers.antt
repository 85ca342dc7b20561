-- `incidence::Incidence::read` meets its contract.
use Rattle.std.proofs.Common.{ap, ◌∙◌, subst}
use Rattle.nets.specs.Nets.{Place}
use Rattle.places.specs.Machine.{place_of}
use Rattle.bundles.specs.PlaceReading.{place_means}
use Rattle.columns.specs.Matrix.{column, SamePlace}
use Rattle.columns.specs.MatrixLaws.{written_next}
use Rattle.incidence.proofs.Incidence.read.Goals as goal

pub loop-j-preserved : goal.loop-j-preserved
loop-j-preserved c =
    let w = c.write_column.ensures in
    let place = ap place_of c.place.ensures ∙ place_means _ in
    written_next c.loop-j.invariant w.1 (subst (λ (p : Place). SamePlace (column c.write_column.new.self c.loop-j.j) p) place w.0)
