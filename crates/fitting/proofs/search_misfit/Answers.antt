-- `fitting::search_misfit` meets its contract.
use Rattle.std.proofs.Common.{rules, true, false}
use borrow.Author.Tests.{tests}
use Rattle.std.proofs.lemmas.Iterator.{first_from_Range}
use Rattle.bundles.specs.HeadReading.{net-size}
use Rattle.fitting.specs.FittingLaws.{Fits, misfit_first}
use Rattle.fitting.proofs.search_misfit.Goals as goal

pub returns : goal.returns
returns c =
    let net = c.args.head.now.net in
    let b = net.bundle.now in
    let size = net-size c.args.head.now.held.found in
    misfit_first b net.count size c.find.result
    (first_from_Range _ _ _ _ (λ j. Fits b net.count size j false) (λ j. Fits b net.count size j true)
    c.find.ensures.ran (λ x q k. search (rules, tests)) (λ x q k. search (rules, tests)))
