-- `obeying::first_disobeying` meets its contract: in the old edition every place obeys.
use Rattle.obeying.specs.ObeyingLaws.{old-obeys}
use Rattle.obeying.proofs.first_disobeying.Goals as goal

pub returns-then-not-head : goal.returns-then-not-head
returns-then-not-head c = let head = c.args.head.now in old-obeys head.held head.marked c.if-not-head.true
