-- There is room for every bundle, and the buffer is longer than every file.
use Rattle.std.proofs.Common.{rules, ap, ◌∙◌, List, ℕ}
use Rattle.limits.specs.Limits.{max_bundle_size}
use Rattle.refusals.specs.Results.{Result, bind}
use Rattle.block.specs.Whole.{open_fitted}
use Rattle.logs.specs.Answers.{table_size}
use Rattle.verdicts.specs.Judging.{judged, verdict_of}
use Rattle.judging.specs.Files.{file_judged, file_verdict}
use Rattle.judge.specs.Files.{input_verdict, open_came}
use Rattle.judge.proofs.judge_file.Goals as goal

pub returns : goal.returns
unfolding file_verdict file_judged input_verdict
returns c input came =
    let same = open_fitted _ max_bundle_size (search rules) ∙ open_came input c.args.came.now came in
    c.judge_file.ensures.value ∙ ap (λ (m : Result (List ℕ)). verdict_of (bind m (λ b. judged table_size b 0))) same
