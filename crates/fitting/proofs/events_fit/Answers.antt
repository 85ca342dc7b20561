use Rattle.std.proofs.Common.{arith, sym, ap, ◌∙◌, ℤ}
use mir.Facts.{to_z-of_z}
use Rattle.fitting.specs.Fitting.{events_fit}
use Rattle.fitting.specs.FittingLaws.{events-start, events-next, events-end}
use Rattle.fitting.proofs.events_fit.Goals as goal

pub loop-e-init : goal.loop-e-init
loop-e-init c = events-start _ _ _

pub loop-e-preserved : goal.loop-e-preserved
loop-e-preserved c = rw (c.has_bit.ensures, c.covers.ensures) (events-next _ _ _ c.loop-e.fit c.loop-e.e (omega arith) c.loop-e.invariant)

pub returns : goal.returns
returns c =
    let a = c.args in
    let back = ap (λ (t : ℤ). events_fit t a.consumed.now a.mask) (to_z-of_z c.ranges.tokens) in
    sym (sym back ∙ events-end _ _ _ _ c.loop-e.e (omega arith) c.loop-e.invariant)
