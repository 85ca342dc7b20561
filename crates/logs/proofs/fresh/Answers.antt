-- `logs::fresh` meets its contract.
use Rattle.std.specs.Prelude.{Err}
use mathlib.Core.Path.{refl, sym, ap, ◌∙◌}
use borrow.Author.Tests.{lt-leb, le-leb}
use Rattle.refusals.specs.Results.{bind, require}
use Rattle.logs.specs.Answers.{taken_of, log_started, fresh_answer, fresh_table}
use Rattle.laws.specs.Clauses.{value-table_after}
use Rattle.logs.proofs.fresh.Goals as goal

pub returns-then-table-lt-TABLE : goal.returns-then-table-lt-TABLE
unfolding fresh_answer log_started bind require taken_of fresh_table
returns-then-table-lt-TABLE c = rw (lt-leb _ _ c.if-table-lt-TABLE.true) (value-table_after (ap Err c.at.ensures, refl))

pub returns-then-not-right_event_count : goal.returns-then-not-right_event_count
unfolding fresh_answer log_started bind require taken_of fresh_table
returns-then-not-right_event_count c =
    let bad = sym c.right_event_count.ensures ∙ c.if-not-right_event_count.true in
    rw (le-leb _ _ c.if-table-lt-TABLE.false, bad) (value-table_after (ap Err c.at-then-not-right_event_count.ensures, refl))

pub returns : goal.returns
unfolding fresh_answer log_started bind require taken_of fresh_table
returns c =
    let d = c in
    let right = sym d.right_event_count.ensures ∙ d.if-not-right_event_count.false in
    rw (le-leb _ _ d.if-table-lt-TABLE.false, right) (value-table_after (refl, c.clear.ensures))
