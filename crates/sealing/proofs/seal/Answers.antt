-- `sealing::seal` meets its contract: at each return the tests that led there say which case of `sealed` holds.
use Rattle.std.proofs.Common.{◌≡◌, true, sym, ◌∙◌, arith, ◌*◌, ◌≤◌, length}
use Rattle.laws.specs.Parts.{front}
use Rattle.limits.specs.Limits.{max_bundle_size, right_size, right_size-bounds}
use Rattle.refusals.proofs.Laws.{ends-refused, ends-short, ends-written}
use Rattle.block.specs.File.{blocks_for, sealed_file}
use Rattle.block.specs.SealLaws.{sealed-length, sealed-file, length-sealed_file}
use Rattle.laws.specs.Clauses.{value-output_after}
use Rattle.sealing.proofs.seal.Goals as goal
use Rattle.sealing.proofs.seal.Goals.{Else-not-size_fits, After-div_ceil-length}

-- past the test the bundle's length is right
fits : (c : Else-not-size_fits) → right_size (length c.args.bundle.now) ≡ true
fits c = sym c.size_fits.ensures ∙ c.if-not-size_fits.false

bounds : (c : Else-not-size_fits) → let size = length c.args.bundle.now in (1 ≤ size) × (size ≤ max_bundle_size)
bounds c = right_size-bounds _ (fits c)

-- the length of the sealed file
whole : (c : After-div_ceil-length) → 512 * c.div_ceil-length.result ≡ length (sealed_file c.args.bundle.now)
unfolding blocks_for
whole c = omega (arith, c.div_ceil-length.ensures, length-sealed_file c.args.bundle.now)

pub returns-then-not-size_fits : goal.returns-then-not-size_fits
returns-then-not-size_fits c =
    rw c.at.ensures (value-output_after (ends-refused _ _ _ _ (sealed-length _ (sym c.size_fits.ensures ∙ c.if-not-size_fits.true))))

pub overflow_mul-length : goal.overflow_mul-length
overflow_mul-length c = omega (arith, c.div_ceil-length.ensures, bounds (goal.at.overflow_mul-length c).Else-not-size_fits)

pub returns-then-output-length : goal.returns-then-output-length
returns-then-output-length c =
    let at = goal.at.returns-then-output-length c in
    let bundle = c.args.bundle.now in
    let size = whole at.After-div_ceil-length in
    rw (c.at-then-output-length.ensures, size)
    (value-output_after (ends-short _ _ (sealed_file bundle) (sealed-file bundle (fits at.Else-not-size_fits)) (omega (arith, size))))

pub write_blocks-requires : goal.write_blocks-requires
unfolding blocks_for
write_blocks-requires c =
    let at = goal.at.write_blocks-requires c in
    let few = bounds at.Else-not-size_fits in
    record { in_bounds = few; bundle_in_bounds = omega (arith, few, whole at.After-div_ceil-length, length-sealed_file c.args.bundle.now) }

pub returns : goal.returns
returns c =
    let at = goal.at.returns c in
    let bundle = c.args.bundle.now in
    let size = whole at.After-div_ceil-length in
    let ends = ends-written _ c.args.output.now (sealed_file bundle) (sealed-file bundle (fits at.Else-not-size_fits)) (omega (arith, size)) in
    let wrote : c.write_blocks.new.output ≡ front (sealed_file bundle) c.args.output.now = c.write_blocks.ensures in
    record { value = rw size ends.0; output_after = wrote ∙ ends.1 }
