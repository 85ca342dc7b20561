-- `rows::index::key_of` meets its contract. The invariant: `sum` is the key of the counts below e.
use Rattle.std.proofs.Common.{◌≡◌, ◌*◌, ◌≤◌, take}
use Rattle.laws.specs.Sums.{weighted}
use Rattle.limits.specs.Limits.{max_events}
use Rattle.rows.specs.Index.{multiplier}
use Rattle.rows.proofs.index.key_of.Given as goal

abbrev pub invariant-loop-e : goal.invariant-loop-e
invariant-loop-e l = (l.e ≤ max_events) × (l.sum ≤ l.e * (255 * 65535)) × (l.sum ≡ weighted multiplier (take l.e l.counts))
