-- Judging a sealed file: which verdict it gets, and what it leaves in the table.
use Rattle.std.specs.Prelude.{◌≡◌, List, ℕ, length, take, Err, Ok}
use Rattle.std.proofs.Common.{length-take-le}
use Rattle.refusals.specs.Results.{Result, value, refused, ◌>>=◌, bind}
use Rattle.refusals.specs.Answers.{fitted, answer, written}
use Rattle.refusals.proofs.Laws.{answer-fitted, answer-refused, answer-within}
use Rattle.refusals.specs.declared.Refusal.{Refusal}
use Rattle.block.specs.File.{opened}
use Rattle.bundles.specs.Reading.{Read}
use Rattle.bundles.specs.Layout.{Contents}
use Rattle.verdicts.specs.Judging.{judged, verdict_of, verdict, table_after}
use Rattle.verdicts.specs.Judging.{Verdict}

-- a file opened into so much room, its bundle judged with a table of so many numbers: 1, then 17, 18 or 2, then 3, then the judge's refusals
unfoldable pub file_judged : List ℕ → ℕ → ℕ → Read Contents
file_judged file room_size table_length = do
  b ← fitted (opened file) room_size
  judged table_length b 0

unfoldable pub file_verdict : List ℕ → ℕ → ℕ → Verdict
file_verdict file room_size table_length = verdict_of (file_judged file room_size table_length)

-- the table afterwards: as judging leaves it; where the file does not open, as it was
unfoldable pub file_table : Result (List ℕ) → List ℕ → List ℕ
file_table (value b) t = table_after b t
file_table (refused number spot) t = t

-- ---- Laws: for each answer of opening one of the verdict and one of the table; the check finds `judge_file` by them

module _ (file room : List ℕ) where
  module _ (r : Refusal) (told : answer (opened file) (length room) ≡ Err r) where
    pub refused-verdict : (table_length : ℕ) → file_verdict file (length room) table_length ≡ Err r
    unfolding file_verdict file_judged bind verdict_of
    refused-verdict table_length = rw (answer-refused (opened file) (length room) r told)

    pub refused-table : (table : List ℕ) → file_table (fitted (opened file) (length room)) table ≡ table
    unfolding file_table
    refused-table table = rw (answer-refused (opened file) (length room) r told)

  -- the bundle is in front of the room
  module _ (n : ℕ) (told : answer (opened file) (length room) ≡ Ok n) where
    pub opened-verdict : (table_length : ℕ) → file_verdict file (length room) table_length ≡ verdict table_length (take n (written (opened file) room))
    unfolding file_verdict file_judged bind verdict
    opened-verdict table_length = rw (answer-fitted (opened file) room n told)

    pub opened-table : (table : List ℕ) → file_table (fitted (opened file) (length room)) table ≡ table_after (take n (written (opened file) room)) table
    unfolding file_table
    opened-table table = rw (answer-fitted (opened file) room n told)

pub ruleset opening_told = (refused-verdict, refused-table, opened-verdict, opened-table, answer-within, length-take-le)

-- the two of an answer in one, for a table
module _ (file room table : List ℕ) where
  pub file-refused : (r : Refusal) → answer (opened file) (length room) ≡ Err r
      → (file_verdict file (length room) (length table) ≡ Err r) × (file_table (fitted (opened file) (length room)) table ≡ table)
  file-refused r e = (refused-verdict file room r e (length table), refused-table file room r e table)

  pub file-opened : (n : ℕ) → answer (opened file) (length room) ≡ Ok n
      → (file_verdict file (length room) (length table) ≡ verdict (length table) (take n (written (opened file) room)))
      × (file_table (fitted (opened file) (length room)) table ≡ table_after (take n (written (opened file) room)) table)
  file-opened n e = (opened-verdict file room n e (length table), opened-table file room n e table)
