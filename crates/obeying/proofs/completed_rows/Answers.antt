-- `obeying::completed_rows` meets its contract.
use Rattle.std.proofs.Common.{refl, ◌<◌, ap, ◌∙◌, subst, arith, ℕ, List, Option, length, length-set}
use denote.Ref.{Bor}
use Rattle.std.specs.declared.option.Iter.{OptionIter}
use Rattle.std.specs.Slice.Iter.{iter_rest}
use Rattle.std.proofs.lemmas.Iterator.Consumers.{YieldsList-at, YieldsList-turn, YieldsList-end}
use Rattle.std.proofs.lemmas.List.{map-append}
use Rattle.limits.specs.Limits.{max_rows}
use Rattle.obeying.specs.Obeying.{completed_rows, Flags}
use Rattle.obeying.specs.ObeyingLaws.{noted-inside}
use Rattle.obeying.specs.FlagLaws.{flags-none, flags-more}
use Rattle.obeying.proofs.Options.{Opens, YieldsOptions, options_yielded}
use Rattle.obeying.proofs.completed_rows.Goals as goal
use Rattle.obeying.proofs.completed_rows.Goals.{After-into_iter-row-iterator, In-Some}

pub loop-row-init : goal.loop-row-init
loop-row-init c = (refl, flags-none max_rows)

-- the loop goes over the rows that are noted
road : (c : After-into_iter-row-iterator) (becomes : Bor (Option ℕ) → OptionIter ℕ → Type 0) → Opens becomes
    → YieldsOptions becomes c.into_iter-row-iterator.result (completed_rows c.args.head.now.noted.now)
road c becomes opens =
    let all = c.flatten-row-items.ensures in
    YieldsList-at c.into_iter-row-iterator.ensures.into_iter_gives
    (options_yielded becomes opens c.args.head.now.noted.now (ap iter_rest all.source ∙ c.iter.ensures.rest) all.front all.back all.done)

-- the row of a turn is in the table
inside : (c : In-Some) → c.in-Some.row.now < max_rows
inside c =
    let head = c.args.head.now in
    let row = c.in-Some.row.now in
    let (more, is) =
    YieldsList-turn (road (goal.at.In-Some c).After-into_iter-row-iterator _ (λ x j b. (b.0, b.1)))
    c.loop-row.yielded _ c.loop-row.yielded_by _ c.next.new.self c.in-Some.row c.in-Some.is c.next.ensures.steps in
    omega (arith, is, noted-inside head.held head.marked (length c.loop-row.yielded) row more, head.held.few)

pub bounds-completed-from : goal.bounds-completed-from
bounds-completed-from c = omega (arith, c.from.ensures, inside (goal.at.bounds-completed-from c).In-Some)

pub loop-row-preserved : goal.loop-row-preserved
loop-row-preserved c =
    let (size, flags) = c.loop-row.invariant in
    let here = inside (goal.at.loop-row-preserved c).In-Some in
    rw (map-append, c.from.ensures) (length-set _ _ _ ∙ size, flags-more flags c.in-Some.row.now (omega (arith, size, here)))

pub returns : goal.returns
returns c =
    let end =
    YieldsList-end (road (goal.at.returns c).After-into_iter-row-iterator _ (λ x j b. (b.0, b.1)))
    c.loop-row.yielded _ c.loop-row.yielded_by _ c.next.new.self c.in-None.is c.next.ensures.steps in
    subst (λ (rows : List ℕ). Flags rows c.loop-row.completed) end.0 c.loop-row.invariant.1
