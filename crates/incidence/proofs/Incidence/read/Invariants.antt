-- `incidence::Incidence::read` meets its contract. The loop's invariant: the places below j are written.
use Rattle.columns.specs.Matrix.{Columns}
use Rattle.bundles.specs.Keeping.{kept}
use Rattle.bundles.specs.PlaceReading.{place_there}
use Rattle.incidence.proofs.Incidence.read.Given as goal

abbrev pub invariant-loop-j : goal.invariant-loop-j
invariant-loop-j l = Columns (place_there (kept l.net)) l.matrix l.j
