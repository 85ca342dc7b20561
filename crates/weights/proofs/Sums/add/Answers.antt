use Rattle.weights.specs.TermSums.{with_term}
use Rattle.weights.proofs.Sums.add.Goals as goal

pub returns : goal.returns
unfolding with_term
returns c =
    rw (
      c.has_bit.ensures,
      c.mask_of.ensures,
      c.add_counts.ensures,
      c.counts_of.ensures.0,
      c.added_weight-weight.ensures,
      c.from-row.ensures,
      c.from-event.ensures,
      c.from.ensures,
      c.from-2.ensures,
    )
