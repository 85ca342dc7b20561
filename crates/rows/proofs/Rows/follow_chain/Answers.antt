use Rattle.std.proofs.Common.{ap, ◌∙◌, Some}
use Rattle.rows.specs.IndexLaws.{chain-start, chain-less, chain_next, chain-end}
use Rattle.rows.proofs.Rows.follow_chain.Goals as goal
use Rattle.rows.proofs.Rows.follow_chain.Goals.{then-same_counts, else-same_counts}

pub loop-next-init : goal.loop-next-init
loop-next-init c = chain-start _ _ _ _ c.requires.0 _ c.requires.1

pub loop-next-smaller : goal.loop-next-smaller
loop-next-smaller c =
    rw (c.in-Some.is, c.from-r.ensures) (chain-less _ _ _ _ c.requires.0 c.loop-next.lowest c.in-Some.row (rw c.in-Some.is at c.loop-next.invariant))

pub loop-next-preserved : goal.loop-next-preserved
loop-next-preserved c =
    let f = rw c.in-Some.is at c.loop-next.invariant in
    let counts = rw c.from-r.ensures at c.counts_of.ensures.0 in
    rw c.from-r.ensures
    (chain_next _ _ _ _ c.requires.0 c.loop-next.lowest c.in-Some.row f _ _ c.if-same_counts.lowest counts c.same_counts.ensures
    (elim c.if-same_counts.branch [
      | then-same_counts w ↦ rw w.if-same_counts.true (w.lowest-is ∙ ap Some c.from-r.ensures)
      | else-same_counts w ↦ rw w.if-same_counts.false w.lowest-is
    ]))

pub returns : goal.returns
returns c = chain-end _ _ _ _ _ c.loop-next.invariant c.in_default.is
