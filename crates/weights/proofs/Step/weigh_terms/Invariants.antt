-- `weights::Step::weigh_terms` meets its contract. The loop's invariant: so many terms are left, behind some with these sums.
use Rattle.std.proofs.Common.{◌≡◌, ◌-◌}
use Rattle.weights.specs.TermSums.{TermsLeft}
use Rattle.weights.proofs.Step.weigh_terms.Given as goal

abbrev pub invariant-loop-term : goal.invariant-loop-term
invariant-loop-term l =
    let head = l.fn.self.head.now in
    (l.reader.bytes ≡ l.fn.reader.bytes)
    × TermsLeft head.net.n head.rows head.table.now l.fn.reader.bytes.now l.fn.reader.at l.count l.reader.at (l.count - l._term) l.sums
