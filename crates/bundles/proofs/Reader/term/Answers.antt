-- `bundles::Reader::term` meets its contract: its reads are those of `term`, in the same order.
use Rattle.std.proofs.Common.{rules}
use Rattle.std.proofs.lemmas.Result.{err_from_is_err_and}
use Rattle.bundles.specs.Chains.{read_same, then_read, then-refused, read_give}
use Rattle.bundles.specs.FieldReading.{below}
use Rattle.bundles.specs.TermReading.{behind_row, behind_event, made_term, term_chain}
use Rattle.bundles.proofs.Reader.term.Goals as goal
use Rattle.bundles.proofs.Reader.term.Goals.{In_ok-row}

pub returns-in_err-row : goal.returns-in_err-row
returns-in_err-row c =
    let q = err_from_is_err_and c.from_residual.result c.from_residual.ensures.1 in
    rw (q.1, q.2)
    (read_same (term_chain _ _ _ _) (then-refused (behind_row _) (c.in_err-row.ensures (below c.args.rows) (λ x small b answer. search rules))))

pub returns-in_err-event : goal.returns-in_err-event
returns-in_err-event c =
    let q = err_from_is_err_and c.from_residual-in_err-event.result c.from_residual-in_err-event.ensures.1 in
    let row = c.in_ok-row.ensures (below c.args.rows) (λ x small b answer. search rules) in
    let event = c.in_err-event.ensures (below c.args.n) (λ x small b answer. search rules) in
    rw (q.1, q.2) (read_same (term_chain _ _ _ _) (then_read (behind_row _) row (then-refused (behind_event _) event)))

pub returns-in_err-weight : goal.returns-in_err-weight
returns-in_err-weight c =
    let q = err_from_is_err_and c.from_residual-in_err-weight.result c.from_residual-in_err-weight.ensures.1 in
    let row = c.in_ok-row.ensures (below c.args.rows) (λ x small b answer. search rules) in
    let event = c.in_ok-event.ensures (below c.args.n) (λ x small b answer. search rules) in
    rw (q.1, q.2)
    (read_same (term_chain _ _ _ _)
    (then_read (behind_row _) row (then_read (behind_event _) event (then-refused (made_term _ _) c.in_err-weight.ensures))))

pub returns : goal.returns
returns c =
    let row = c.in_ok-row.ensures (below c.args.rows) (λ x small b answer. search rules) in
    let event = c.in_ok-event.ensures (below c.args.n) (λ x small b answer. search rules) in
    read_same (term_chain _ _ _ _)
    (then_read (behind_row _) row (then_read (behind_event _) event (then_read (made_term _ _) c.in_ok-weight.ensures (read_give _))))
