-- `judging::judge` meets its contract: 4, 5, then the bundle's fields; a refusal there clears the table again.
use Rattle.std.proofs.Common.{◌≡◌, ◌∙◌, true, Err, List, ℕ, length, sym, ap, subst, arith}
use Rattle.std.specs.Result.{is_err}
use Rattle.limits.specs.Limits.{right_size}
use Rattle.rows.specs.Rows.{rows_of, cleared}
use Rattle.logs.specs.Answers.{table_size}
use Rattle.logs.specs.LogTable.{cleared-table, cleared-length}
use Rattle.verdicts.specs.Judging.{judging, verdict_of, verdict, table_on, table_after}
use Rattle.judging.specs.JudgeLaws.{TableLeft, table_kept, table-cleared, answer_4, answer_5, answer-rest}
use Rattle.judging.proofs.judge.Goals as goal
use Rattle.judging.proofs.judge.Goals.{After-is_err, Else-not-size_fits}

pub returns-then-not-size_fits-clause-value : goal.returns-then-not-size_fits-clause-value
returns-then-not-size_fits-clause-value c =
    ap Err c.at.ensures ∙ sym (answer_4 c.args.bundle.now c.args.table.now (sym c.size_fits.ensures ∙ c.if-not-size_fits.true)).0

pub returns-then-not-size_fits-clause-table_after : goal.returns-then-not-size_fits-clause-table_after
returns-then-not-size_fits-clause-table_after c =
    sym (answer_4 c.args.bundle.now c.args.table.now (sym c.size_fits.ensures ∙ c.if-not-size_fits.true)).1

-- the bundle's length is right past that test
fits : (c : Else-not-size_fits) → right_size (length c.args.bundle.now) ≡ true
fits c = sym c.size_fits.ensures ∙ c.if-not-size_fits.false

pub returns-then-table-lt-TABLE-clause-value : goal.returns-then-table-lt-TABLE-clause-value
returns-then-table-lt-TABLE-clause-value c =
    let right = fits (goal.at.returns-then-table-lt-TABLE-clause-value c).Else-not-size_fits in
    ap Err c.at-then-table-lt-TABLE.ensures ∙ sym (answer_5 c.args.bundle.now c.args.table.now right c.if-table-lt-TABLE.true).0

pub returns-then-table-lt-TABLE-clause-table_after : goal.returns-then-table-lt-TABLE-clause-table_after
returns-then-table-lt-TABLE-clause-table_after c =
    let right = fits (goal.at.returns-then-table-lt-TABLE-clause-table_after c).Else-not-size_fits in
    sym (answer_5 c.args.bundle.now c.args.table.now right c.if-table-lt-TABLE.true).1

pub judge_fields-verdict-requires : goal.judge_fields-verdict-requires
judge_fields-verdict-requires c =
    let t = c.args.table.now in
    record { long = omega (arith, ap length c.clear.ensures, cleared-length table_size t); first = ap (rows_of 1) c.clear.ensures ∙ cleared-table t }

-- past both tests the verdict is that on the fields
judged : (c : After-is_err) → let b = c.args.bundle.now in let t = c.args.table.now in
    (verdict (length t) b ≡ verdict_of (judging b 0)) × (table_after b t ≡ table_on (judging b 0) t)
judged c = answer-rest _ _ (fits (goal.at.After-is_err c).Else-not-size_fits) (omega arith)

-- and the table is the one that they left in a cleared one
left : (c : After-is_err) → TableLeft (judging c.args.bundle.now 0) (cleared table_size c.args.table.now) c.judge_fields-verdict.new.table
left c =
    subst (λ (t : List ℕ). TableLeft (judging c.args.bundle.now 0) t c.judge_fields-verdict.new.table)
    c.clear.ensures c.judge_fields-verdict.ensures.table_left

-- the test of the verdict
refused : (c : After-is_err) → is_err (verdict_of (judging c.args.bundle.now 0)) ≡ c.is_err.result
refused c = ap is_err (sym c.judge_fields-verdict.ensures.value) ∙ sym c.is_err.ensures.value

pub returns-then-is_err-clause-value : goal.returns-then-is_err-clause-value
returns-then-is_err-clause-value c = c.judge_fields-verdict.ensures.value ∙ sym (judged (goal.at.returns-then-is_err-clause-value c).After-is_err).0

pub returns-then-is_err-clause-table_after : goal.returns-then-is_err-clause-table_after
returns-then-is_err-clause-table_after c =
    let here = (goal.at.returns-then-is_err-clause-table_after c).After-is_err in
    c.clear-then-is_err.ensures ∙ table-cleared _ _ _ (left here) (refused here ∙ c.if-is_err.true) ∙ sym (judged here).1

pub returns-else-is_err-clause-value : goal.returns-else-is_err-clause-value
returns-else-is_err-clause-value c = c.judge_fields-verdict.ensures.value ∙ sym (judged (goal.at.returns-else-is_err-clause-value c).After-is_err).0

pub returns-else-is_err-clause-table_after : goal.returns-else-is_err-clause-table_after
returns-else-is_err-clause-table_after c =
    let here = (goal.at.returns-else-is_err-clause-table_after c).After-is_err in
    table_kept _ _ _ (left here) (refused here ∙ c.if-is_err.false) ∙ sym (judged here).1
