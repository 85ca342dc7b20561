-- `obeying::search_disobeying` meets its contract.
use Rattle.std.proofs.Common.{rules, true, false}
use borrow.Author.Tests.{tests}
use Rattle.std.proofs.lemmas.Iterator.{first_from_Range}
use Rattle.bundles.specs.HeadReading.{net-size}
use Rattle.obeying.specs.ObeyingLaws.{Obeyed, disobeying_first}
use Rattle.obeying.proofs.search_disobeying.Goals as goal

pub returns : goal.returns
returns c =
    let net = c.args.head.now.net in
    let b = net.bundle.now in
    let size = net-size c.args.head.now.held.found in
    disobeying_first b net.count size c.find.result
    (first_from_Range _ _ _ _ (λ j. Obeyed b net.count size j false) (λ j. Obeyed b net.count size j true)
    c.find.ensures.ran (λ x q k. search (rules, tests)) (λ x q k. search (rules, tests)))
