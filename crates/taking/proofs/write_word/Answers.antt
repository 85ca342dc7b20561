use Rattle.std.proofs.Common.{arith, ◌≡◌, sym, ◌∙◌, ◌+◌, length, get_or, get_or-take}
use Rattle.rows.specs.Rows.{rows_of, find_row}
use Rattle.taking.specs.Takable.{takable-room}
use Rattle.taking.specs.Taking.{taking_none, taking_row, taking_room, taking_again, taking_end}
use Rattle.taking.proofs.write_word.Goals as goal
use Rattle.taking.proofs.write_word.Goals.{At-loop-i}

pub loop-i-init : goal.loop-i-init
loop-i-init c = taking_none _ _ _ _ (takable-room c.requires.takable) c.requires.word_in_bounds_2.1

-- the number noted for the prefix at hand is that of its row
row : (c : At-loop-i) → get_or c.args.numbers.now c.loop-i.i 0 ≡ find_row c.loop-i.counts (rows_of c.loop-i.k c.loop-i.table)
row c =
    let a = c.args in
    let l = c.loop-i in
    sym (get_or-take (length a.word.now + 1) a.numbers.now l.i 0 (omega (arith, l.invariant.passed))) ∙ taking_row _ _ _ _ _ _ _ _ l.invariant

pub step-k-requires-clause-r_value : goal.step-k-requires-clause-r_value
step-k-requires-clause-r_value c =
    (c.from.ensures ∙ row (goal.at.step-k-requires-clause-r_value c).At-loop-i, rw c.from-e.ensures (c.requires.takable.below c.loop-i.i (omega arith)))

pub step-k-requires-clause-rows_in_bounds : goal.step-k-requires-clause-rows_in_bounds
step-k-requires-clause-rows_in_bounds c =
    (c.loop-i.invariant.room, taking_room _ _ _ _ _ _ _ _ c.loop-i.invariant _ (omega (arith, c.requires.word_in_bounds, c.loop-i.auto.table)))

pub loop-i-preserved : goal.loop-i-preserved
loop-i-preserved c =
    let l = c.loop-i in
    let below = c.requires.takable.below l.i (omega arith) in
    taking_again _ _ _ _ _ _ _ _ l.invariant _ _ _ (omega arith) below c.step-k.auto.table (omega (arith, c.requires.word_in_bounds, l.auto.table))
    (rw c.from-e.ensures at c.step-k.ensures) (rw c.from-e.ensures at c.add_event.ensures)

pub visit_row-requires-clause-r_value : goal.visit_row-requires-clause-r_value
visit_row-requires-clause-r_value c =
    let end : c.loop-i.i ≡ length c.args.word.now = omega arith in
    c.from-2.ensures ∙ rw (← end) (row (goal.at.visit_row-requires-clause-r_value c).At-loop-i)

pub visit_row-requires-clause-rows_in_bounds : goal.visit_row-requires-clause-rows_in_bounds
visit_row-requires-clause-rows_in_bounds c =
    (c.loop-i.invariant.room, taking_room _ _ _ _ _ _ _ _ c.loop-i.invariant _ (omega (arith, c.requires.word_in_bounds, c.loop-i.auto.table)))

pub returns : goal.returns
returns c = taking_end _ _ _ _ _ _ _ _ c.loop-i.invariant _ _ (omega arith) c.visit_row.ensures
