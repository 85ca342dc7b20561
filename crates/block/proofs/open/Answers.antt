-- `block::open` meets its contract: at each return the tests that led there say which case of `opened` holds.
use Rattle.std.proofs.Common.{◌≡◌, true, sym, ◌∙◌, arith, length}
use Rattle.refusals.specs.Results.{value}
use Rattle.refusals.proofs.Laws.{ends-refused, ends-short, ends-written}
use Rattle.block.specs.File.{right_length, bundle_of, opened}
use Rattle.block.specs.OpenEnds.{fault_told}
use Rattle.block.specs.OpenLaws.{opened-length}
use Rattle.laws.specs.Clauses.{value-output_after}
use Rattle.block.proofs.open.Goals as goal
use Rattle.block.proofs.open.Goals.{Else-not-length_fits, After-bundle_length-length}

-- past the first test the file's length is right
fits : (c : Else-not-length_fits) → right_length (length c.args.file.now) ≡ true
fits c = sym c.length_fits.ensures ∙ c.if-not-length_fits.false

-- past the second opening gives the bundle
gives : (c : After-bundle_length-length) → opened c.args.file.now ≡ value (bundle_of c.args.file.now)
gives c = let right = fits (goal.at.After-bundle_length-length c).Else-not-length_fits in grind (arith, fault_told)

pub returns-then-not-length_fits : goal.returns-then-not-length_fits
returns-then-not-length_fits c =
    rw c.at.ensures (value-output_after (ends-refused _ _ _ _ (opened-length _ (sym c.length_fits.ensures ∙ c.if-not-length_fits.true))))

pub returns-then-output-length : goal.returns-then-output-length
returns-then-output-length c =
    let size = c.bundle_length-length.ensures in
    rw (c.at-then-output-length.ensures, size)
    (value-output_after (ends-short _ _ _ (gives (goal.at.returns-then-output-length c).After-bundle_length-length) (omega (arith, size))))

pub returns : goal.returns
returns c =
    let size = c.bundle_length-length.ensures in
    rw (c.write_bundle.ensures, size) (value-output_after (ends-written _ _ _ (gives (goal.at.returns c).After-bundle_length-length) (omega (arith, size))))
