-- `editions::write_old` meets its contract: the bundle, 21, or the bundle in the old edition.
use Rattle.std.proofs.Common.{◌≡◌, sym, ◌∙◌, arith, refl, ◌+◌, false, length}
use Rattle.laws.specs.Clauses.{value-output_after}
use Rattle.laws.specs.Failure.{failure-some, failure-none}
use Rattle.refusals.specs.Table.{word_completed_number}
use Rattle.refusals.proofs.Laws.{ends-refused}
use Rattle.nets.specs.Entries.{NoneCompleted}
use Rattle.bundles.specs.Layout.{bytes_of}
use Rattle.contents.specs.Contents.{contents_of}
use Rattle.editions.specs.Converting.{older, is_partial}
use Rattle.editions.specs.EditionLaws.{partial-convertible}
use Rattle.editions.specs.Causes.{all-partial, first-exactly, in_old-refused, in_old-value}
use Rattle.editions.specs.Sizes.{own-bytes, old-convertible, older-size}
use Rattle.editions.specs.Writing.{front-long, count-byte}
use Rattle.editions.proofs.write_old.Goals as goal
use Rattle.editions.proofs.write_old.Goals.{In_default, After-from}

pub returns-then-not-parts : goal.returns-then-not-parts
returns-then-not-parts c =
    let edition = rw c.of-parts.ensures at c.of-parts.result.edition_is in
    let contents = contents_of c.args.bundle.now in
    let old = sym edition ∙ c.if-not-parts.true in
    let same = own-bytes contents c.requires false old in
    rw ((in_old-value contents c.args.bundle.now).1 ((old-convertible contents c.requires old).partial, sym same)) c.copy.ensures

pub returns-in-Some : goal.returns-in-Some
returns-in-Some c =
    let first = rw c.of-parts.ensures at c.first_completed.ensures in
    let contents = contents_of c.args.bundle.now in
    let (some, is) = failure-some is_partial contents.head.entries (sym first ∙ c.in-Some.is) in
    let (there, here, before) = (first-exactly contents.head.entries c.in-Some.word).0 (sym is, some) in
    let completed = (in_old-refused contents word_completed_number c.in-Some.word).1 (refl, there, here, before) in
    rw c.at.ensures (value-output_after (ends-refused _ c.args.output.now _ c.in-Some.word completed))

pub bounds-parts-1 : goal.bounds-parts-1
bounds-parts-1 c = omega (arith, front-long _ _ c.of-parts.result.front_is)

-- no word is completed
none : (c : In_default) → NoneCompleted (contents_of c.args.bundle.now).head.entries
none c =
    let first = rw c.of-parts.ensures at c.first_completed.ensures in
    let entries = (contents_of c.args.bundle.now).head.entries in
    (all-partial entries).0 (failure-none is_partial entries (sym first ∙ c.in_default.is))

-- the byte that is read is the number of words
words : (c : After-from) → c.from.result ≡ length (contents_of c.args.bundle.now).head.entries
words c =
    let front = rw c.of-parts.ensures at c.of-parts.result.front_is in
    c.from.ensures ∙ count-byte (contents_of c.args.bundle.now).head _ front

size : (c : After-from) → length (bytes_of (older (contents_of c.args.bundle.now))) + c.from.result + c.args.tally.by_weights
    ≡ length c.args.bundle.now
size c =
    let at = goal.at.After-from c in
    let edition = rw c.of-parts.ensures at c.of-parts.result.edition_is in
    omega (arith, words c, older-size (contents_of c.args.bundle.now) c.requires (sym edition ∙ c.if-not-parts.false) (none at.In_default))

pub overflow_sub-size : goal.overflow_sub-size
overflow_sub-size c = omega (arith, size (goal.at.overflow_sub-size c).After-from)

pub overflow_sub-size-2 : goal.overflow_sub-size-2
overflow_sub-size-2 c = omega (arith, size (goal.at.overflow_sub-size-2 c).After-from)

pub convert-requires : goal.convert-requires
convert-requires c =
    let at = goal.at.convert-requires c in
    let plain = partial-convertible (contents_of c.args.bundle.now) c.requires (none at.In_default) in
    rw c.of-parts.ensures (record { plain = plain; size = omega (arith, size at.After-from) })

pub returns : goal.returns
returns c =
    let at = goal.at.returns c in
    let written = (in_old-value (contents_of c.args.bundle.now) _).1 (none at.In_default, refl) in
    rw written (rw c.of-parts.ensures at c.convert.ensures)
