-- `weights::Step::weigh_pairs` meets its contract.
use Rattle.std.proofs.Common.{Bool, ◌&&◌, leb}
use Rattle.std.proofs.lemmas.Result.{err_from_is_err_and}
use Rattle.bundles.specs.Chains.{remapped, remapped-refused}
use Rattle.pairs.specs.Pairs.{sums_of, sums_for}
use Rattle.pairs.specs.declared.PairSums.{PairSums}
use Rattle.weights.specs.Steps.{counts_before, holds_paired}
use Rattle.weights.specs.Totals.{paired_hold}
use Rattle.weights.proofs.Step.weigh_pairs.Goals as goal

pub returns-in_err-pairs : goal.returns-in_err-pairs
returns-in_err-pairs c =
    let q = err_from_is_err_and c.from_residual.result c.from_residual.ensures.1 in
    let s = c.args.self.now in
    rw (q.1, q.2) (remapped-refused _ (sums_for s.head.now) (holds_paired s c.args.sums c.args.k) c.in_err-pairs.ensures.read)

pub returns : goal.returns
unfolding sums_of
returns c =
    let s = c.args.self.now in
    let sums = c.args.sums in
    let test : PairSums → Bool = λ p. sums.allowed && p.completed && leb sums.total c.args.k
    && paired_hold sums.before sums.of_event p.weighed (counts_before s) s.event c.args.k in
    rw (c.hold_paired-holds.ensures, c.counts.ensures.0, c.from.ensures) (remapped _ (sums_for s.head.now) test c.in_ok-pairs.ensures.read)
