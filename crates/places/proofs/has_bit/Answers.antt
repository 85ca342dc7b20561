-- `places::has_bit` meets its contract: the lowest bit of the shifted mask is a remainder by 2.
use mathlib.Core.Bool.{not}
use mathlib.Core.Path.{ap, ◌∙◌}
use Prim.Native.Nat.{ℕ, ◌/◌, ◌%◌, ◌^◌}
use native.Mathlib.Omega.{arith}
use lib.Bits.{and_mask}
use lib.Dec.{eqb}
use Rattle.laws.specs.Bits.{bit, nonzero_digit}
use Rattle.places.proofs.has_bit.Goals as goal

pub returns : goal.returns
unfolding bit
returns c =
    let high = c.args.mask / 2 ^ c.args.event in
    ap (λ (n : ℕ). not (eqb n 0)) (and_mask high 1) ∙ nonzero_digit (high % 2) (omega arith)
