use Rattle.std.proofs.Common.{◌+◌, ◌≤◌, arith, length, sym, refl}
use Rattle.bundles.specs.Chains.{→got}
use Rattle.weights.specs.TermSums.{term-there}
use Rattle.weights.proofs.next_term.Goals as goal

pub returns-then-from-n : goal.returns-then-from-n
returns-then-from-n c =
    let a = c.args.reader.now in
    let there : a.at + 5 ≤ length a.bytes.now = omega (arith, c.if-saturating_sub-ge5.true, c.saturating_sub.ensures) in
    rw (c.number_at-row.ensures, c.number_at-weight.ensures)
    (→got refl
    (sym (term-there c.args.n c.args.rows a.bytes.now a.at there (omega (arith, c.number_at-row.ensures, c.from.ensures, c.if-from-rows.true))
    (omega (arith, c.from-then-from-rows.ensures, c.if-from-n.true)))))
