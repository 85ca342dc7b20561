use Rattle.std.proofs.Common.{◌≡◌, sym, ap, ◌∙◌, arith, take, drop, ◌++◌, ℕ, ◌<◌, replicate, length-take-le}
use Rattle.std.proofs.Math.Seq.{take-set-lt}
use Rattle.limits.specs.Limits.{max_events}
use Rattle.bundles.specs.PlaceReading.{row-start, row_next, row_end}
use Rattle.bundles.proofs.net.row_at_end.Goals as goal

pub loop-i-init : goal.loop-i-init
loop-i-init c = ap (take c.args.n) (sym (row-start _ _))

pub loop-i-preserved : goal.loop-i-preserved
loop-i-preserved c =
    let below : c.loop-i.i < c.args.n = omega (arith, c.loop-i-test.true, length-take-le {A = ℕ} c.args.n (replicate max_events 0) c.requires.0) in
    rw (c.loop-i.invariant, c.number_at.ensures)
    (sym (take-set-lt c.args.n _ c.loop-i.i _ below) ∙ ap (take c.args.n) (row_next _ _ c.loop-i.i (omega (arith, below, c.requires.0))))

pub returns : goal.returns
returns c =
    let done : c.loop-i.i ≡ c.args.n = omega (arith, c.loop-i-test.false, length-take-le {A = ℕ} c.args.n (replicate max_events 0) c.requires.0) in
    ap (λ xs. xs ++ drop c.args.n (replicate max_events 0)) (c.loop-i.invariant ∙ rw done) ∙ row_end _ _ c.args.n
