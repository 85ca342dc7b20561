-- `editions::write_new` meets its contract: the bundle, 4, or the bundle in the new edition.
use Rattle.std.proofs.Common.{◌≡◌, sym, ap, ◌∙◌, arith, refl, ◌+◌, ◌≤◌, true, false, length}
use Rattle.limits.specs.Limits.{max_bundle_size}
use Rattle.laws.specs.Clauses.{value-output_after}
use Rattle.refusals.specs.Table.{bundle_length_number}
use Rattle.refusals.proofs.Laws.{ends-refused}
use Rattle.bundles.specs.Layout.{bytes_of}
use Rattle.contents.specs.Contents.{contents_of}
use Rattle.editions.specs.Converting.{newer}
use Rattle.editions.specs.EditionLaws.{by_weights-most}
use Rattle.editions.specs.Causes.{in_new-refused, in_new-value}
use Rattle.editions.specs.Sizes.{own-bytes, old-convertible, newer-size}
use Rattle.editions.specs.Writing.{front-long, count-byte}
use Rattle.editions.proofs.write_new.Goals as goal
use Rattle.editions.proofs.write_new.Goals.{Else-parts, After-from}

pub returns-then-parts : goal.returns-then-parts
returns-then-parts c =
    let edition = rw c.of-parts.ensures at c.of-parts.result.edition_is in
    let contents = contents_of c.args.bundle.now in
    let same = own-bytes contents c.requires true (sym edition ∙ c.if-parts.true) in
    let fits : length (bytes_of (newer contents)) ≤ max_bundle_size =
    omega (arith, ap length same, ap length c.requires.layout, c.requires.limits.size) in
    rw ((in_new-value contents c.args.bundle.now).1 (fits, sym same)) c.copy.ensures

-- the bundle is of the old edition
is_old : (c : Else-parts) → (contents_of c.args.bundle.now).head.is_new ≡ false
is_old c = let edition = rw c.of-parts.ensures at c.of-parts.result.edition_is in sym edition ∙ c.if-parts.false

pub bounds-parts-1 : goal.bounds-parts-1
bounds-parts-1 c = omega (arith, front-long _ _ c.of-parts.result.front_is)

-- the byte that is read is the number of words
words : (c : After-from) → c.from.result ≡ length (contents_of c.args.bundle.now).head.entries
words c =
    let front = rw c.of-parts.ensures at c.of-parts.result.front_is in
    c.from.ensures ∙ count-byte (contents_of c.args.bundle.now).head _ front

size : (c : After-from) → length c.args.bundle.now + c.from.result + c.args.tally.by_weights
    ≡ length (bytes_of (newer (contents_of c.args.bundle.now)))
size c = omega (arith, words c, newer-size _ c.requires (is_old (goal.at.After-from c).Else-parts))

pub overflow_add-size-2 : goal.overflow_add-size-2
overflow_add-size-2 c = omega (arith, ap length c.requires.layout, c.requires.limits.size, by_weights-most _ c.requires)

pub returns-then-size-gt-MAX_BUNDLE_SIZE : goal.returns-then-size-gt-MAX_BUNDLE_SIZE
returns-then-size-gt-MAX_BUNDLE_SIZE c =
    let at = goal.at.returns-then-size-gt-MAX_BUNDLE_SIZE c in
    let long = (in_new-refused (contents_of c.args.bundle.now) bundle_length_number 0).1 (refl, refl, omega (arith, size at.After-from)) in
    rw c.at.ensures (value-output_after (ends-refused _ c.args.output.now _ 0 long))

pub convert-requires : goal.convert-requires
convert-requires c =
    let at = goal.at.convert-requires c in
    rw c.of-parts.ensures (record { plain = old-convertible _ c.requires (is_old at.Else-parts); size = size at.After-from })

pub returns : goal.returns
returns c =
    let at = goal.at.returns c in
    let written = (in_new-value (contents_of c.args.bundle.now) _).1 (omega (arith, size at.After-from), refl) in
    rw written (rw c.of-parts.ensures at c.convert.ensures)
