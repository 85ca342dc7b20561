-- `contents::certificates::weights_size` meets its contract.
use Rattle.std.proofs.Common.{arith}
use Rattle.contents.specs.Certificates.{weights_size, weights-long}
use Rattle.contents.proofs.certificates.weights_size.Goals as goal

pub bounds-bytes-3 : goal.bounds-bytes-3
bounds-bytes-3 c = omega (arith, weights-long c.args.is_new c.args.bytes.now, c.requires)

pub bounds-bytes-terms : goal.bounds-bytes-terms
unfolding weights_size
bounds-bytes-terms c =
    let inside = rw c.if-is_new.true at c.requires in
    omega (arith, inside, c.from.ensures)

pub returns-else-is_new : goal.returns-else-is_new
unfolding weights_size
returns-else-is_new c = rw (c.if-is_new.false, c.from.ensures) (omega arith)

pub returns-then-is_new : goal.returns-then-is_new
unfolding weights_size
returns-then-is_new c = rw (c.if-is_new.true, c.from-then-is_new.ensures, c.from.ensures) (omega arith)
