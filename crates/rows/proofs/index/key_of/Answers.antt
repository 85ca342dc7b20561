use Rattle.std.proofs.Common.{rules, arith, refl, sym, ap, ◌∙◌, ◌*◌, ◌≤◌, take_all, mul-le-mul}
use Rattle.laws.specs.Sums.{weighted, weighted-next}
use Rattle.rows.specs.Index.{multiplier, key}
use Rattle.rows.proofs.index.key_of.Goals as goal
use Rattle.rows.proofs.index.key_of.Goals.{After-from}

pub loop-e-init : goal.loop-e-init
unfolding weighted
loop-e-init c = (search rules, search rules, refl)

-- a term is a byte times a number of 16 bits
term : (c : After-from) → c.multiplier_of.result * c.from.result ≤ 255 * 65535
term c =
    let byte : c.multiplier_of.result ≤ 255 = omega (arith, c.multiplier_of.ensures.1) in
    let count : c.from.result ≤ 65535 = omega (arith, c.fits-counts c.loop-e.e, c.from.ensures) in
    mul-le-mul byte count

pub loop-e-preserved : goal.loop-e-preserved
loop-e-preserved c =
    let l = c.loop-e in (
      omega arith,
      omega (arith, term c, l.invariant.1),
      rw (l.invariant.2, c.multiplier_of.ensures.0, c.from.ensures) (sym (weighted-next multiplier c.args.counts.now l.e (omega arith))),
    )

pub returns : goal.returns
unfolding key
returns c =
    let l = c.loop-e in
    l.invariant.2 ∙ ap (weighted multiplier) (take_all l.e c.args.counts.now (omega arith))
