-- `logs::Summary::take` meets its contract.
use Rattle.std.specs.Prelude.{◌≡◌, Ok}
use mathlib.Core.Path.{sym, ◌∙◌, subst}
use mathlib.Core.Bool.{true}
use Rattle.std.proofs.Common.{arith}
use Rattle.std.proofs.lemmas.Result.{err_from_is_err_and}
use Rattle.std.specs.Result.{IsErrAnd}
use Rattle.limits.specs.Limits.{max_rows}
use Rattle.refusals.specs.Table.{rows_number}
use Rattle.refusals.specs.Answers.{refusal}
use Rattle.rows.specs.Rows.{Added}
use Rattle.places.specs.Words.{bad_event-none, bad_event-some}
use Rattle.logs.specs.Answers.{right_summary}
use Rattle.logs.specs.AnswerLaws.{Admitted, WordAdmitted, right_summary-bounds, answer_5, answer_16, answer_8, answer_7, takable, answer_9, answer-next}
use Rattle.laws.specs.Clauses.{value-table_after}
use Rattle.logs.proofs.Summary.take.Goals as goal
use Rattle.logs.proofs.Summary.take.Goals.{Else-self-word, Else-not-is_right, In_default}

-- the summary is right past that test, and the word is admitted past the next
fine : (c : Else-not-is_right) → right_summary c.args.self ≡ true
fine c = sym c.is_right.ensures ∙ c.if-not-is_right.false

admitted : (c : Else-self-word) → Admitted c.args.self c.args.table.now c.args.word.now
admitted c = record { long = c.if-table-lt-TABLE.false; fine = fine (goal.at.Else-self-word c).Else-not-is_right; few = c.if-self-word.false }

pub returns-then-table-lt-TABLE : goal.returns-then-table-lt-TABLE
returns-then-table-lt-TABLE c = rw c.at.ensures (value-table_after (answer_5 _ _ _ c.if-table-lt-TABLE.true))

pub returns-then-not-is_right : goal.returns-then-not-is_right
returns-then-not-is_right c =
    rw c.at-then-not-is_right.ensures (value-table_after (answer_16 _ _ _ c.if-table-lt-TABLE.false (sym c.is_right.ensures ∙ c.if-not-is_right.true)))

pub overflow_sub-self : goal.overflow_sub-self
overflow_sub-self c = (right_summary-bounds c.args.self (fine (goal.at.overflow_sub-self c).Else-not-is_right)).2

pub returns-then-self-word : goal.returns-then-self-word
returns-then-self-word c =
    rw c.at-then-self-word.ensures (value-table_after (answer_8 _ _ _ c.if-table-lt-TABLE.false (fine (goal.at.returns-then-self-word c).Else-not-is_right) c.if-self-word.true))

pub returns-in-Some : goal.returns-in-Some
returns-in-Some c =
    let bad = bad_event-some c.args.self.n c.args.word.now (sym c.in-Some.is ∙ c.first_bad.ensures) in
    rw c.at-in-Some.ensures (value-table_after (answer_7 _ _ _ (admitted (goal.at.returns-in-Some c).Else-self-word) _ bad.0 bad.1))

-- past the fourth test the word is admitted
word_admitted : (c : In_default) → WordAdmitted c.args.self c.args.table.now c.args.word.now
word_admitted c = record { admitted = admitted (goal.at.In_default c).Else-self-word; events = (bad_event-none c.args.self.n c.args.word.now (sym c.in_default.is ∙ c.first_bad.ensures)).1 }

pub add_alone-requires : goal.add_alone-requires
add_alone-requires c = takable _ _ _ (word_admitted (goal.at.add_alone-requires c).In_default)

pub returns-in_err-rows : goal.returns-in_err-rows
returns-in_err-rows c =
    let q = err_from_is_err_and c.from_residual.result c.from_residual.ensures.1 in
    let many : IsErrAnd c.add_alone.result (λ _. c.in_err-rows.field-0.0 ≡ refusal rows_number 0) = grind arith in
    let none = err_from_is_err_and c.add_alone.result many in
    let added = subst (Added max_rows c.args.self.rows c.args.word.now c.args.table.now c.add_alone.new.table) none.1 c.add_alone.ensures in
    rw (q.1, q.2, none.2) (value-table_after (answer_9 _ _ _ (word_admitted (goal.at.returns-in_err-rows c).In_default) _ _ added))

pub returns : goal.returns
returns c =
    let some : c.add_alone.result ≡ Ok c.in_ok-rows.rows = grind arith in
    let added = subst (Added max_rows c.args.self.rows c.args.word.now c.args.table.now c.add_alone.new.table) some c.add_alone.ensures in
    value-table_after (answer-next _ _ _ (word_admitted (goal.at.returns c).In_default) _ _ added c.add_alone.auto.table)
