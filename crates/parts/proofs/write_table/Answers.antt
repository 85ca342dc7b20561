use Rattle.std.proofs.Common.{arith, ◌≡◌, ◌+◌, ◌*◌, ◌∙◌, ap, add-mul}
use Rattle.bundles.specs.PlaceReading.{place_size, place_on}
use Rattle.bundles.specs.Keeping.{place_spot}
use Rattle.stops.specs.Searching.{place_is}
use Rattle.parts.specs.SideBySide.{columns-start, columns-next}
use Rattle.parts.proofs.write_table.Goals as goal

pub loop-j-init : goal.loop-j-init
loop-j-init c = rw c.requires.1 columns-start

pub loop-j-preserved : goal.loop-j-preserved
loop-j-preserved c =
    let net = c.args.net.now in
    let there : place_spot net (c.args.first + c.loop-j.j) ≡ place_spot net c.args.first + 2 * (c.loop-j.j * place_size net.n) = omega (arith, add-mul c.args.first c.loop-j.j (place_size net.n)) in
    columns-next (omega arith) c.loop-j.invariant (place_is _ _ _ _ c.place.ensures ∙ ap (place_on net.n net.bundle.now) there) (omega arith) c.write_column.ensures

pub returns : goal.returns
returns c = let all : c.loop-j.j ≡ c.min-j-end.result = omega arith in rw (← c.min-j-end.ensures, ← all) c.loop-j.invariant
