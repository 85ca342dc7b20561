-- `editions::convert` meets its contract: 3, or the bundle in the edition.
use Rattle.std.proofs.Common.{refl, arith}
use Rattle.laws.specs.Clauses.{value-output_after}
use Rattle.bundles.specs.Layout.{bytes_of}
use Rattle.contents.specs.Contents.{contents_of}
use Rattle.editions.specs.Converting.{in_edition}
use Rattle.refusals.proofs.Laws.{ends-short, ends-written}
use Rattle.editions.proofs.convert.Goals as goal

pub returns-then-output-size : goal.returns-then-output-size
returns-then-output-size c =
    let new = bytes_of (in_edition c.args.is_new (contents_of c.args.parts.now.bundle.now)) in
    rw (c.at.ensures, c.requires.size) (value-output_after (ends-short _ _ new refl (omega (arith, c.requires.size))))

pub write_in_edition-requires : goal.write_in_edition-requires
write_in_edition-requires c = record { plain = c.requires.plain; room = omega (arith, c.requires.size) }

pub returns : goal.returns
returns c =
    let new = bytes_of (in_edition c.args.is_new (contents_of c.args.parts.now.bundle.now)) in
    rw (c.write_in_edition.ensures, c.requires.size) (value-output_after (ends-written _ _ new refl (omega (arith, c.requires.size))))
