-- `rows::index::multiplier_of` meets its contract.
use Rattle.rows.specs.Index.{multipliers}
use Rattle.rows.specs.IndexLaws.{multiplier-small}
use Rattle.rows.proofs.index.multiplier_of.Goals as goal

pub returns : goal.returns
unfolding multipliers
returns c = (c.from.ensures, rw c.from.ensures (multiplier-small c.args.e c.requires))
