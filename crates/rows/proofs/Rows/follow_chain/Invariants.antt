-- `rows::Rows::follow_chain` meets its contract. The invariant: the rows behind `next` are looked at, and `lowest` is the lowest of them.
use Rattle.rows.specs.Index.{up_to}
use Rattle.rows.specs.IndexLaws.{Following}
use Rattle.rows.proofs.Rows.follow_chain.Given as goal

abbrev pub invariant-loop-next : goal.invariant-loop-next
invariant-loop-next l = Following l.counts l.self.count l.self.table.now l.lowest l.next

abbrev pub decreases-loop-next : goal.decreases-loop-next
decreases-loop-next l = up_to l.next
