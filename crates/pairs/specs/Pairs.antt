-- The sums of a certificate's pairs, from the rows of a table and what is noted of the log's words.
use Rattle.std.specs.Prelude.{Bool, true, false, List, [], ◌∷◌, ℕ, ℤ, pos, ◌+ℤ◌, ◌*ℤ◌, get_or, Option, Some, None}
use Rattle.laws.specs.Lists.{all, tabulate}
use Rattle.limits.specs.Limits.{max_events}
use Rattle.nets.specs.Nets.{Counts, at}
use Rattle.rows.specs.Rows.{Row, new_row, none, rows_of}
use Rattle.bundles.specs.Layout.{PairFields, signed}
use Rattle.heads.specs.declared.TakenHead.{TakenHead}
use Rattle.pairs.specs.declared.PairSums.{PairSums}

-- row number r
abbrev pub row_of : List Row → ℕ → Row
row_of rs r = get_or rs r (new_row none)

-- the counts of a row that is noted; none where no row is
unfoldable pub counts_for : List Row → Option ℕ → Counts
counts_for rs (Some r) = (row_of rs r).counts
counts_for rs None = none

-- whether a row is noted
unfoldable pub is_noted : Option ℕ → Bool
is_noted (Some r) = true
is_noted None = false

-- what is noted of the word that a pair names
abbrev pub noted_for : List (Option ℕ) → PairFields → Option ℕ
noted_for noted q = get_or noted q.word None

-- the words of all pairs are completed
unfoldable pub all_noted : List (Option ℕ) → List PairFields → Bool
all_noted noted qs = all (λ q. is_noted (noted_for noted q)) qs

-- the sum of h × u(i) over the pairs
unfoldable pub paired_rows : List Row → List (Option ℕ) → List PairFields → ℕ → ℤ
paired_rows rs noted [] i = pos 0
paired_rows rs noted (q ∷ qs) i = signed q.weight *ℤ pos (at (counts_for rs (noted_for noted q)) i) +ℤ paired_rows rs noted qs i

-- sums with h × u(i) added at each event
unfoldable pub added : ℤ → Counts → List ℤ → List ℤ
added h u sums = tabulate max_events (λ i. get_or sums i (pos 0) +ℤ h *ℤ pos (at u i))

-- both sums of pairs, as the code has them
unfoldable pub sums_of : List Row → List (Option ℕ) → List PairFields → PairSums
sums_of rs noted qs = record { weighed = tabulate max_events (paired_rows rs noted qs); completed = all_noted noted qs }

-- for a bundle whose head is taken
abbrev pub sums_for : TakenHead → List PairFields → PairSums
sums_for head qs = sums_of (rows_of head.rows head.table.now) head.noted.now qs
