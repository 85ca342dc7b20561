use Rattle.std.proofs.Common.{◌≡◌, refl, ◌∙◌, ◌+◌, ◌≤◌, ◌<◌, length, get_or, arith}
use Rattle.std.proofs.Math.Nat.{mul-le-mul}
use Rattle.laws.specs.Bits.{low_bits}
use Rattle.laws.specs.Sums.{weighted, weighted-next}
use Rattle.sums.proofs.Columns.totals.Invariants.{one, place}
use Rattle.sums.proofs.Columns.totals.Goals as goal

pub loop-j-init : goal.loop-j-init
unfolding weighted
loop-j-init c = record {
  plain_is = refl;
  position_is = refl;
  shifted_is = refl;
  plain_le = omega arith;
  position_le = omega arith;
  shifted_le = omega arith;
}

-- a turn adds (j + 1) × column j to the second total, at most 32 × 4,095, and a shift to the third, at most 65,535
pub loop-j-preserved : goal.loop-j-preserved
loop-j-preserved c =
    let sums = c.args.self.sums in
    let shifts = c.args.self.shifts in
    let j = c.loop-j.j in
    let before = c.loop-j.invariant in
    let low = c.requires.columns-low j in
    let column : c.from-column.result ≡ get_or sums j 0 = c.from-column.ensures ∙ low_bits 12 (get_or sums j 0) low in
    let shift : c.from-shifted.result ≡ get_or shifts j 0 = c.from-shifted.ensures in
    let weight : j + 1 ≤ 32 = omega arith in
    let few : get_or sums j 0 ≤ 4095 = omega (arith, low) in
    let term = mul-le-mul weight few in
    let inside : j < length sums = omega arith in
    rw column (record {
      plain_is = omega (arith, before.plain_is, weighted-next one sums j inside);
      position_is = omega (arith, before.position_is, weighted-next place sums j inside);
      shifted_is = omega (arith, shift, before.shifted_is, weighted-next one shifts j (omega arith));
      plain_le = omega (arith, low, before.plain_le);
      position_le = omega (arith, low, term, before.position_le);
      shifted_le = omega (arith, c.from-shifted.type_inv, before.shifted_le);
    })
