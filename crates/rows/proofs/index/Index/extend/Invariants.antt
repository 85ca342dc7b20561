-- `rows::index::Index::extend` meets its contract. The invariant: the rows below r are indexed.
use Rattle.rows.specs.Index.{IsIndex}
use Rattle.rows.proofs.index.Index.extend.Given as goal

abbrev pub invariant-loop-r : goal.invariant-loop-r
invariant-loop-r l = IsIndex l.r l.table l.self
