-- `certificates::check_certificate` meets its contract: the kind decides which of the two tests is made.
use Rattle.std.proofs.lemmas.Result.{err_from_is_err_and}
use Rattle.bundles.specs.Reading.{give}
use Rattle.bundles.specs.Chains.{then_read, then-refused, read_give}
use Rattle.bundles.specs.declared.terms.Kind.TheVariants.{Place, Weights}
use Rattle.certificates.specs.Certifying.{of_kind_checked}
use Rattle.certificates.proofs.check_certificate.Goals as goal

pub returns-in_err-kind : goal.returns-in_err-kind
returns-in_err-kind c =
    let q = err_from_is_err_and c.from_residual.result c.from_residual.ensures.1 in
    rw (q.1, q.2) (then-refused (of_kind_checked c.args.step.now c.args.number) c.in_err-kind.ensures)

pub returns-in_err-check_place-in-Place : goal.returns-in_err-check_place-in-Place
unfolding of_kind_checked
returns-in_err-check_place-in-Place c =
    let q = err_from_is_err_and c.from_residual-in_err-check_place-in-Place.result c.from_residual-in_err-check_place-in-Place.ensures.1 in
    let kind = rw c.in-Place.is at c.in_ok-kind.ensures in
    rw (q.1, q.2)
    (then_read (of_kind_checked c.args.step.now c.args.number) kind (then-refused (λ u. give Place) c.in_err-check_place-in-Place.ensures))

pub returns-in_err-check_weights-in-Weights : goal.returns-in_err-check_weights-in-Weights
unfolding of_kind_checked
returns-in_err-check_weights-in-Weights c =
    let q = err_from_is_err_and c.from_residual-in_err-check_weights-in-Weights.result c.from_residual-in_err-check_weights-in-Weights.ensures.1 in
    let kind = rw c.in-Weights.is at c.in_ok-kind.ensures in
    rw (q.1, q.2)
    (then_read (of_kind_checked c.args.step.now c.args.number) kind (then-refused (λ u. give Weights) c.in_err-check_weights-in-Weights.ensures))

pub returns-in_ok-check_place-in-Place : goal.returns-in_ok-check_place-in-Place
unfolding of_kind_checked
returns-in_ok-check_place-in-Place c =
    let kind = rw c.in-Place.is at c.in_ok-kind.ensures in
    rw c.in-Place.is
    (then_read (of_kind_checked c.args.step.now c.args.number) kind (then_read (λ u. give Place) c.in_ok-check_place-in-Place.ensures (read_give _)))

pub returns-in_ok-check_weights-in-Weights : goal.returns-in_ok-check_weights-in-Weights
unfolding of_kind_checked
returns-in_ok-check_weights-in-Weights c =
    let kind = rw c.in-Weights.is at c.in_ok-kind.ensures in
    rw c.in-Weights.is
    (then_read (of_kind_checked c.args.step.now c.args.number) kind
    (then_read (λ u. give Weights) c.in_ok-check_weights-in-Weights.ensures (read_give _)))
