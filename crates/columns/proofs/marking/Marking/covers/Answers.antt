use Rattle.std.proofs.Common.{rules, arith, ◌∙◌, sym, ap, subst, get_or-take, ◌*◌, ◌<◌, ◌^◌, ℕ, T, ℤ, pos, ◌-ℤ◌, take, get_or, eqb, bit_or, w64, to_z, of_z}
use Rattle.std.specs.Int.Signed.{non_neg}
use mir.Val.{SFits}
use mir.Facts.{to_z_pos, to_z-of_z}
use Rattle.laws.specs.Booleans.{yes_true}
use Rattle.laws.specs.Differences.{negative-tested}
use Rattle.laws.specs.Lists.{each_next}
use Rattle.places.proofs.Signed.{sign_clear, clear_sign, or_left, or_right}
use Rattle.columns.specs.Matrix.{block_width}
use Rattle.columns.proofs.marking.Marking.covers.Goals as goal

pub loop-j-preserved : goal.loop-j-preserved
loop-j-preserved c t =
    let l = c.loop-j in
    let self = c.args.self.now in
    let consumed = c.args.consumed.now in
    let width = block_width * self.blocks in
    let fits : SFits w64 (get_or (take width self.tokens) l.j (pos 0)) = search rules in
    let is = c.surplus-all.ensures
    ∙ ap (λ (z : ℤ). z -ℤ pos (get_or consumed l.j 0)) (to_z-of_z fits ∙ get_or-take width self.tokens l.j (pos 0) (omega arith)) in
    let bits = of_z w64 c.surplus-all.result in
    let clear : bit_or l.all-bits bits < 2 ^ 63 = sign_clear (bit_or l.all-bits bits) (yes_true _ t) in
    let before : l.all-bits < 2 ^ 63 = omega (arith, or_left l.all-bits bits) in
    let here = clear_sign c.surplus-all.result (record { sfits = c.surplus-all.type_inv }) (omega (arith, or_right l.all-bits bits)) in
    each_next (λ i. T (non_neg (get_or self.tokens i (pos 0) -ℤ pos (get_or consumed i 0)))) l.j
    (l.invariant (rw (to_z_pos w64 before) tt)) (subst (λ (z : ℤ). T (non_neg z)) is here)

pub returns : goal.returns
returns c none j b =
    let l = c.loop-j in
    let held = sym (negative-tested (to_z w64 l.all-bits)) ∙ ap (λ (k : ℕ). eqb k 0) (sym c.shortfall.ensures) ∙ none in
    l.invariant (subst T (sym held) tt) j (omega arith)
