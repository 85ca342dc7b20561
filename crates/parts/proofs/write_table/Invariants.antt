-- `parts::write_table` meets its contract. The loop's invariant: the columns below j have their places, the others none.
use Rattle.bundles.specs.Keeping.{place_spot}
use Rattle.parts.specs.SideBySide.{Columns}
use Rattle.parts.proofs.write_table.Given as goal

abbrev pub invariant-loop-j : goal.invariant-loop-j
invariant-loop-j l = Columns l.net.n l.net.bundle.now (place_spot l.net l.first) l.j l.table.changes
