-- The verdict on a sealed file, with room for every bundle and a whole table, and what of it comes to a buffer.
use Rattle.std.specs.Prelude.{◌≡◌, ◌+◌, List, ℕ, length, take}
use Rattle.std.proofs.Common.{sym, ap, ◌∙◌, ⊎_elim, arith, length-take-le, take_all}
use Rattle.laws.specs.Booleans.{lt_or_le}
use Rattle.limits.specs.Limits.{max_file_size}
use Rattle.refusals.specs.Results.{◌>>=◌}
use Rattle.block.specs.File.{opened}
use Rattle.block.specs.Whole.{open_whole}
use Rattle.logs.specs.Answers.{table_size}
use Rattle.verdicts.specs.Judging.{Verdict, judged, verdict_of}

-- 1, then 17, 18 or 2, then the judge's refusals
unfoldable pub input_verdict : List ℕ → Verdict
input_verdict input = verdict_of (do
  b ← opened input
  judged table_size b 0)

-- what came of an input to a buffer of a byte more than the longest file: all of it, or as much as there is room for
abbrev pub Came : List ℕ → List ℕ → Type 0
Came input came = take (max_file_size + 1) input ≡ came

-- opening that is opening the input
pub open_came : (input came : List ℕ) → Came input came → opened came ≡ opened input
open_came input came is = ⊎_elim
    (λ short. ap opened (sym is ∙ take_all (max_file_size + 1) input (omega arith)))
    (λ long.
    let size : length came ≡ max_file_size + 1 = ap length (sym is) ∙ length-take-le (max_file_size + 1) input long in
    let whole : take (length came) came ≡ came = take_all (length came) came (omega arith) in
    ap opened (sym whole) ∙ open_whole input came (length came) (ap (λ n. take n input) size ∙ is ∙ sym whole) (omega arith))
    (lt_or_le (length input) (max_file_size + 1))
