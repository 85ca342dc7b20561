-- `pruning::marking::count_marked` meets its contract: the library counts the marks of the first places.
use Rattle.std.proofs.Common.{rules, ◌∙◌, arith, Bool, take}
use borrow.Author.Tests.{tests}
use Rattle.std.proofs.lemmas.Iterator.{YieldsList-from_slice, YieldsList-from_take}
use Rattle.std.proofs.lemmas.Iterator.Consumers.{YieldsList-at, YieldsList-from_filter, count_from_yields_List}
use Rattle.std.proofs.lemmas.List.Sums.{length-filter}
use Rattle.pruning.specs.Marking.{counted}
use Rattle.pruning.proofs.marking.count_marked.Goals as goal

pub returns : goal.returns
returns c =
    let marks = c.args.marks.now in
    let first = YieldsList-from_take c.args.count (YieldsList-at c.take.ensures.source (YieldsList-from_slice marks cc)) c.take.ensures.count in
    count_from_yields_List c.filter.result c.count.result c.count.ensures.ran
    (YieldsList-from_filter _ (λ (b : Bool). b) (YieldsList-at c.filter.ensures.source first) c.filter.ensures.closure (λ x b q k. search (rules, tests)))
    ∙ length-filter (λ (b : Bool). b) (take c.args.count marks)
    ∙ counted marks c.args.count (omega arith)
