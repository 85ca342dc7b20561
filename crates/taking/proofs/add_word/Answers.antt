-- `taking::add_word` meets its contract.
use Rattle.std.proofs.Common.{refl, arith, sym, ap, ◌∙◌, ◌≡◌, ◌+◌, List, ℕ, length, get_or, take, get_or-take}
use Rattle.rows.specs.Rows.{rows_of, take_word, none}
use Rattle.rows.specs.Flat.{length-rows, held}
use Rattle.rows.specs.Growth.{length-take}
use Rattle.rows.specs.Adding.{added-word, added_nothing}
use Rattle.taking.specs.Numbering.{used, numbered-used, used-whole}
use Rattle.taking.proofs.add_word.Goals as goal
use Rattle.taking.proofs.add_word.Goals.{After-number_rows-more}

pub returns-then-more-gt-MAX_ROWS-clause-added : goal.returns-then-more-gt-MAX_ROWS-clause-added
returns-then-more-gt-MAX_ROWS-clause-added c = added_nothing _ _ _ _ _ c.number_rows-more.ensures.value c.if-more-gt-MAX_ROWS.true

-- the rows after the word are as many as were counted
counted : (c : After-number_rows-more) → let a = c.args in
    length (take_word (rows_of a.rows a.table.now) none a.word.now) ≡ c.number_rows-more.result
counted c =
    let a = c.args in
    length-take (rows_of a.rows a.table.now) none a.word.now refl c.requires.takable.below ∙ rw length-rows (sym c.number_rows-more.ensures.value)

-- the rows that were noted are those that are used
noted : (c : After-number_rows-more) → let a = c.args in
    take (length a.word.now + 1) c.number_rows-more.new.numbers ≡ used (rows_of a.rows a.table.now) none a.word.now
noted c =
    let a = c.args in
    c.number_rows-more.ensures.numbers_after ∙ rw length-rows at (numbered-used (rows_of a.rows a.table.now) none a.word.now refl c.requires.takable.below)

pub write_word-requires-clause-word_in_bounds : goal.write_word-requires-clause-word_in_bounds
write_word-requires-clause-word_in_bounds c =
    omega (arith, counted (goal.at.write_word-requires-clause-word_in_bounds c).After-number_rows-more, c.if-more-gt-MAX_ROWS.false, c.requires.takable.table)

pub write_word-requires-clause-word_in_bounds_2 : goal.write_word-requires-clause-word_in_bounds_2
write_word-requires-clause-word_in_bounds_2 c =
    (omega (arith, c.number_rows-more.auto, c.requires.word_in_bounds), noted (goal.at.write_word-requires-clause-word_in_bounds_2 c).After-number_rows-more)

pub returns-clause-added : goal.returns-clause-added
returns-clause-added c =
    let size = held _ _ _ _ c.write_word.ensures ∙ counted (goal.at.returns-clause-added c).After-number_rows-more in
    added-word _ _ _ _ _ _ (size ∙ c.number_rows-more.ensures.value) (omega (arith, size, c.if-more-gt-MAX_ROWS.false)) c.write_word.ensures

pub returns-clause-word_after : goal.returns-clause-word_after
returns-clause-word_after c =
    let w = c.args.word.now in
    sym (get_or-take (length w + 1) c.number_rows-more.new.numbers (length w) 0 (omega arith))
    ∙ ap (λ (l : List ℕ). get_or l (length w) 0) (noted (goal.at.returns-clause-word_after c).After-number_rows-more)
    ∙ used-whole _ w c.requires.takable.below
