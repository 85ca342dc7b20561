-- Conversion on bytes: an accepted bundle in the other edition, and which answer a bundle gets.
use Rattle.std.specs.Prelude.{Bool, true, false, not, List, ℕ, Option, leb, length}
use Rattle.laws.specs.Failure.{failure}
use Rattle.laws.specs.Lists.{all}
use Rattle.laws.specs.Scans.{first_failing}
use Rattle.limits.specs.Limits.{max_bundle_size}
use Rattle.refusals.specs.Table.{bundle_length_number, word_completed_number}
use Rattle.refusals.specs.Results.{Result, value, ◌>>=◌, ◌>>◌, require}
use Rattle.nets.specs.Nets.{Entry}
use Rattle.bundles.specs.Reading.{item_in}
use Rattle.bundles.specs.Layout.{Contents, bytes_of}
use Rattle.verdicts.specs.Judging.{judged}

-- contents in an edition: words and certificates are as they were, so from the old one each mark is partial and each second list empty
abbrev pub in_edition : Bool → Contents → Contents
in_edition is_new c = record {
  head = record { is_new = is_new; events = c.head.events; entries = c.head.entries; places = c.head.places };
  certificates = c.certificates;
}

-- in the new edition, and in the old one
abbrev pub newer : Contents → Contents
newer = in_edition true

abbrev pub older : Contents → Contents
older = in_edition false

-- a word is partial
abbrev pub is_partial : Entry → Bool
is_partial x = not x.completed

-- the number of the first completed word
abbrev pub first_completed : Contents → Option ℕ
first_completed c = failure is_partial c.head.entries

-- in the new edition: 4 where that passes 64,512 bytes
unfoldable pub in_new : Contents → Result (List ℕ)
in_new c = do
  require (leb (length (bytes_of (newer c))) max_bundle_size) bundle_length_number 0
  value (bytes_of (newer c))

-- in the old edition: 21 with the number of the first completed word
unfoldable pub in_old : Contents → Result (List ℕ)
in_old c = do
  require (all is_partial c.head.entries) word_completed_number (first_failing is_partial c.head.entries)
  value (bytes_of (older c))

-- with a table of so many numbers: the judge's refusals, then these
unfoldable pub converting_to_new : ℕ → List ℕ → Result (List ℕ)
converting_to_new table_length b = do
  i ← judged table_length b 0
  in_new (item_in i)

unfoldable pub converting_to_old : ℕ → List ℕ → Result (List ℕ)
converting_to_old table_length b = do
  i ← judged table_length b 0
  in_old (item_in i)
