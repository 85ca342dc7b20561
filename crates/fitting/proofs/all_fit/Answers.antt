-- `fitting::all_fit` meets its contract.
use Rattle.std.proofs.Common.{arith}
use Rattle.columns.specs.MatrixLaws.{filled}
use Rattle.fitting.specs.FittingLaws.{all_fit}
use Rattle.fitting.proofs.all_fit.Goals as goal

pub returns : goal.returns
returns c met =
    let held = c.args.head.now.held in
    all_fit held (filled held.found c.args.head.now.read c.write.ensures) (λ j b. c.fit.ensures.value met j (omega (arith, c.start.ensures.1)))
