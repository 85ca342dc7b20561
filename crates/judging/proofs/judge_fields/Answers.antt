-- `judging::judge_fields` meets its contract: the head, then what follows it.
use Rattle.std.proofs.Common.{◌∙◌, List, ℕ, sym, ap}
use Rattle.std.specs.Borrow.{Bor}
use Rattle.std.proofs.lemmas.Result.{err_from_is_err_and}
use Rattle.bundles.specs.Readers.{head_of}
use Rattle.bundles.specs.Keeping.{behind}
use Rattle.verdicts.specs.Judging.{verdict_of}
use Rattle.judging.specs.JudgeLaws.{afterwards, judging-failed, judging-got, table-left, table-refused}
use Rattle.judging.proofs.judge_fields.Goals as goal

pub returns-in_err-taken-clause-value : goal.returns-in_err-taken-clause-value
unfolding verdict_of
returns-in_err-taken-clause-value c =
    let q = err_from_is_err_and c.from_residual.result c.from_residual.ensures.1 in
    rw (q.1, q.2) (sym (ap verdict_of (judging-failed c.args.bundle.now c.in_err-taken.ensures.0)))

pub returns-in_err-taken-clause-table_left : goal.returns-in_err-taken-clause-table_left
returns-in_err-taken-clause-table_left c =
    table-refused c.args.bundle.now c.in_err-taken.ensures.0 c.args.table.now c.take_head.new.table c.in_err-taken.ensures.1

pub returns-clause-value : goal.returns-clause-value
returns-clause-value c =
    let taken = c.in_ok-taken.ensures in
    c.judge_net.ensures
    ∙ ap (λ (b : Bor (List ℕ)). verdict_of (afterwards (head_of b.now) b.now (behind c.in_ok-taken.taken.net))) taken.0
    ∙ ap verdict_of (sym (judging-got c.args.bundle.now taken.1))

pub returns-clause-table_left : goal.returns-clause-table_left
returns-clause-table_left c =
    let taken = c.in_ok-taken.ensures in
    table-left c.args.bundle.now taken.1 taken.4 taken.2.few taken.2.room
