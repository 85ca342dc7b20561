-- A step that is certified: the rows that it stands on, and whether weights hold for it.
use Rattle.std.specs.Prelude.{Bool, ◌&&◌, List, ℕ, leb, length}
use Rattle.nets.specs.Nets.{Counts}
use Rattle.rows.specs.Rows.{Row, rows_of}
use Rattle.bundles.specs.Layout.{PairFields, WeightFields}
use Rattle.bundles.specs.Reading.{Reader}
use Rattle.bundles.specs.Readers.{head_of, pairs}
use Rattle.laws.specs.Lists.{tabulate}
use Rattle.limits.specs.Limits.{max_events}
use Rattle.pairs.specs.Pairs.{row_of, all_noted, paired_rows}
use Rattle.weights.specs.Terms.{holds_rows}
use Rattle.weights.specs.Totals.{paired_hold}
use Rattle.weights.specs.declared.Sums.{Sums}
use Rattle.weights.specs.declared.Step.{Step}

-- the rows of the table that a step is certified with, and the counts before it
abbrev pub rows_for : Step → List Row
rows_for s = rows_of s.head.now.rows s.head.now.table.now

abbrev pub counts_before : Step → Counts
counts_before s = (row_of (rows_for s) s.row).counts

-- whether weights hold for a step
abbrev pub holds_for : Step → WeightFields → Bool
holds_for s = holds_rows (rows_for s) s.head.now.noted.now (counts_before s) s.event

-- the pairs that stand behind its terms
abbrev pub pairs_for : Step → Reader (List PairFields)
pairs_for s = let h = head_of s.head.now.net.bundle.now in pairs h.is_new (length h.entries)

-- whether sums of terms hold for it with pairs
abbrev pub holds_paired : Step → Sums → ℕ → List PairFields → Bool
holds_paired s sums k qs =
    sums.allowed
    && all_noted s.head.now.noted.now qs
    && leb sums.total k
    && paired_hold sums.before sums.of_event (tabulate max_events (paired_rows (rows_for s) s.head.now.noted.now qs)) (counts_before s) s.event k
