-- `obeying::place_obeys` meets its contract.
use Rattle.std.proofs.Common.{rules, refl, arith, ap, ◌∙◌, ℕ, ◌+◌, ◌*◌, ◌<◌, ◌≤◌, length, drop, Bool}
use borrow.Author.Tests.{tests}
use Rattle.std.proofs.lemmas.Iterator.{serves_from_Range, YieldsList-from_range}
use Rattle.std.proofs.lemmas.Iterator.Search.{all_from_yields_List}
use Rattle.places.specs.Machine.{place_of, place_at}
use Rattle.rows.specs.Rows.{row_size, row_at}
use Rattle.bundles.specs.Layout.{obeys_in}
use Rattle.bundles.specs.Readers.{head_of}
use Rattle.bundles.specs.NextPlace.{place_same}
use Rattle.obeying.specs.Obeying.{row_obeyed}
use Rattle.obeying.specs.FlagLaws.{flagged, flags-tested}
use Rattle.obeying.specs.ObeyingLaws.{noted-inside, noted-obeyed}
use Rattle.obeying.proofs.place_obeys.Goals as goal

pub all-requires-clause-callable : goal.all-requires-clause-callable
all-requires-clause-callable c =
    let head = c.args.head.now in
    serves_from_Range (λ x q r. search (rules, tests)) (λ x low high.
    let few : x < 256 = omega (arith, high, head.held.few) in
    let room : row_size * x + row_size ≤ length head.table.now = omega (arith, high, head.held.room) in
    search (rules, tests, few, room))

pub returns : goal.returns
returns c =
    let head = c.args.head.now in
    let b = head.net.bundle.now in
    let p = place_of (place_at head.places.now c.args.j) in
    let inside = noted-inside head.held head.marked in
    let test : ℕ → Bool = λ r. row_obeyed p (row_at (drop (row_size * r) head.table.now)) in
    all_from_yields_List (flagged c.args.completed.now test) _ _ c.all.result c.all.ensures.ran
    (YieldsList-from_range 0 head.rows head.rows refl (omega arith))
    (λ x b q k. search (rules, tests))
    ∙ flags-tested c.requires.flags head.rows inside test
    ∙ noted-obeyed head.held head.marked p
    ∙ ap (obeys_in (head_of b)) (place_same head.held.found c.args.j c.requires.place (head.read.each c.args.j c.requires.place))
