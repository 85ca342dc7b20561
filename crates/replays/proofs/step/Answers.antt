use Rattle.std.proofs.Common.{rules, arith, ◌∙◌, ℤ, pos, get_or, w64, T, subst}
use Rattle.std.specs.Int.Signed.{non_neg}
use mir.Val.{SFits}
use mir.Facts.{to_z-of_z}
use Rattle.places.proofs.Signed.{or-both}
use Rattle.replays.specs.Columns.{stepped}
use Rattle.replays.specs.ReplayLaws.{written_next}
use Rattle.replays.proofs.step.Goals as goal

pub loop-j-preserved : goal.loop-j-preserved
loop-j-preserved c =
    let loop = c.loop-j in
    let changes = c.args.changes.now in
    let surplus : SFits w64 (get_or loop.surplus loop.j (pos 0)) = search rules in
    let change : SFits w64 (get_or changes loop.j (pos 0)) = search rules in
    let bits : SFits w64 (get_or loop.all loop.j (pos 0)) = search rules in
    let fits : SFits w64 (stepped changes c.args.surplus.now loop.j) = c.requires loop.j (omega arith) in
    rw (to_z-of_z surplus ∙ loop.invariant.0.others loop.j (omega arith), to_z-of_z change) (
      written_next _ (omega arith) loop.invariant.0 (to_z-of_z fits),
      written_next _ (omega arith) loop.invariant.1 (λ t.
          let both = or-both {x = get_or loop.all loop.j (pos 0)} bits fits t in
          (subst (λ (z : ℤ). T (non_neg z)) (loop.invariant.1.others loop.j (omega arith)) both.0, both.1)),
    )
