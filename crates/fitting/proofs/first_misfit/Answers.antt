-- `fitting::first_misfit` meets its contract.
use Rattle.std.proofs.Common.{sym, ◌∙◌}
use Rattle.bundles.specs.HeadReading.{net-size}
use Rattle.fitting.specs.FittingLaws.{misfit-none}
use Rattle.fitting.proofs.first_misfit.Goals as goal

pub returns-then-all_fit : goal.returns-then-all_fit
returns-then-all_fit c =
    let head = c.args.head.now in
    misfit-none head.net.bundle.now (sym (c.all_fit.ensures c.if-all_fit.true) ∙ sym (net-size head.held.found))
