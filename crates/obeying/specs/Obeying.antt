-- Whether the counts of a row leave the tokens of a place as they were, and a bundle's first place that does not obey its completed words.
use Rattle.std.specs.Prelude.{Bool, false, List, ℕ, pos, ◌-ℤ◌, Option, get_or, option_to_list, flat_map, Decides, Contains}
use Rattle.laws.specs.Differences.{is_zero_ℤ}
use Rattle.laws.specs.Failure.{failure}
use Rattle.limits.specs.Limits.{max_events}
use Rattle.nets.specs.Nets.{Place, tokens}
use Rattle.rows.specs.Rows.{Row}
use Rattle.bundles.specs.Layout.{obeys_in}
use Rattle.bundles.specs.Readers.{head_of, net_in}

-- a word with the counts of this row leaves the place's tokens as they were
unfoldable pub row_obeyed : Place → Row → Bool
row_obeyed p r = is_zero_ℤ (tokens max_events p r.counts -ℤ pos p.initial)

-- the rows that are noted, which are those of completed words
abbrev pub completed_rows : List (Option ℕ) → List ℕ
completed_rows noted = flat_map option_to_list noted

-- the flags that are set are those at the rows
pub record Flags (rows : List ℕ) (flags : List Bool) : Type 0 where
  pub each : (r : ℕ) → Decides (get_or flags r false) (Contains rows r)

-- the first place of a bundle's net that does not obey its completed words, where there is one
unfoldable pub disobeying : List ℕ → Option ℕ
disobeying b = failure (obeys_in (head_of b)) (net_in b)
