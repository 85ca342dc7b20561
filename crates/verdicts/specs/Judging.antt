-- Judging on bytes: which verdict a bundle gets, with the refusals' numbers and spots, and what it leaves in the table.
use Rattle.std.specs.Prelude.{cond, ◌&&◌, List, [], ℕ, leb, length, Err, Ok}
use Rattle.laws.specs.Lists.{all}
use Rattle.laws.specs.Scans.{first_failing}
use Rattle.limits.specs.Limits.{right_size}
use Rattle.refusals.specs.Table.{numbers_short_number, bytes_follow_number}
use Rattle.refusals.specs.Table.{place_misfit_number, place_disobeys_number, place_permits_number, weights_number}
use Rattle.refusals.specs.Answers.{refusal, Answer}
use Rattle.refusals.specs.Results.{value, refused}
use Rattle.nets.specs.Nets.{Step}
use Rattle.nets.specs.Bundle.{tally}
use Rattle.nets.specs.Bundle as bundle
use Rattle.rows.specs.Rows.{with_rows, cleared}
use Rattle.logs.specs.Answers.{table_size}
use Rattle.logs.specs.Log.{log_rows}
use Rattle.bundles.specs.Reading.{Read, item, Reader, ◌>>=◌, ◌>>◌, give, require, each}
use Rattle.bundles.specs.Layout.{CertificateFields, kind0, kind1, Head, Contents, to_net, to_bundle}
use Rattle.bundles.specs.Layout.{words_in, wrong_in, fits_in, obeys_in, solves_in}
use Rattle.bundles.specs.Readers.{head, certificate, rows_in_limit, bundle_size}
use Rattle.verdicts.specs.declared.Tally.{Tally}

-- ---- Reading a bundle to its end

-- the refusal of a certificate that does not solve its step
unfoldable pub unsolved : CertificateFields → ℕ
unsolved (kind0 j) = place_permits_number
unsolved (kind1 w) = weights_number

-- the certificate of a wrong continuation s, behind those of `before`: read whole, then 11 or 12 with its number
unfoldable pub solved : Head → Step → List CertificateFields → Reader CertificateFields
solved h s before = do
  c ← certificate h
  require (solves_in h s c) (unsolved c) (length before)
  give c

-- nothing follows, or 13
unfoldable pub at_end : Reader (Unit {0})
at_end b at = require (leb (length b) at) bytes_follow_number at b at

-- behind the last place: 10 with the lowest place that does not fit, 20 with the lowest that does not obey the completed words, then one
-- certificate for each wrong continuation
unfoldable pub after_head : Head → Reader Contents
after_head h = do
  require (all (fits_in h) (to_net h)) place_misfit_number (first_failing (fits_in h) (to_net h))
  require (all (obeys_in h) (to_net h)) place_disobeys_number (first_failing (obeys_in h) (to_net h))
  cs ← each (solved h) (wrong_in h) []
  give (record { head = h; certificates = cs })

-- a bundle's fields
unfoldable pub contents : Reader Contents
contents = head rows_in_limit >>= after_head

-- and nothing more
unfoldable pub judging : Reader Contents
judging = do
  c ← contents
  at_end
  give c

-- ---- The verdict

-- with a table of so many numbers: 4, 5, then bundle order
unfoldable pub judged : ℕ → Reader Contents
judged table_length = do
  bundle_size
  require (leb table_size table_length) numbers_short_number table_size
  judging

-- the definitions' tally, as a verdict has it
abbrev pub tally_of : bundle.Tally → Tally
tally_of t = record { rows = t.row_count; allowed = t.allowed_count; by_place = t.by_place_count; by_weights = t.by_weights_count }

-- the verdict: the four counts, or the refusal
abbrev pub Verdict : Type 0
Verdict = Answer Tally

-- the verdict on what was read
unfoldable pub verdict_of : Read Contents → Verdict
verdict_of (value (item c next)) = Ok (tally_of (tally (to_bundle c)))
verdict_of (refused number spot) = Err (refusal number spot)

-- the verdict on a bundle
unfoldable pub verdict : ℕ → List ℕ → Verdict
verdict table_length b = verdict_of (judged table_length b 0)

-- 0, or the refusal's number
unfoldable pub verdict_number : Verdict → ℕ
verdict_number (Ok c) = 0
verdict_number (Err r) = r.number

-- ---- The table afterwards

-- after acceptance the log's rows and zeros, after a refusal zeros; from number 3,584 on as it was
unfoldable pub table_on : Read Contents → List ℕ → List ℕ
table_on (value (item c next)) t = with_rows (log_rows (words_in c.head)) (cleared table_size t)
table_on (refused number spot) t = cleared table_size t

-- after 4 and 5 as it was
unfoldable pub table_after : List ℕ → List ℕ → List ℕ
table_after b t = cond (right_size (length b) && leb table_size (length t)) (table_on (judging b 0) t) t
