-- `places::with_bit` meets its contract: 1 shifted by less than 16 loses no bit.
use mathlib.Core.Path.{ap, ◌∙◌}
use Prim.Native.Nat.{ℕ, ◌%◌, ◌^◌}
use native.Mathlib.Nat.{one-mul, mod-eq_of_lt}
use lib.Bits.{bit_or}
use lib.Pow.{pow-lt}
use Rattle.laws.specs.Bits.{with_bit}
use Rattle.places.proofs.with_bit.Goals as goal

pub returns : goal.returns
unfolding with_bit
returns c =
    ap (bit_or c.args.mask) (ap (λ (n : ℕ). n % 2 ^ 16) (one-mul (2 ^ c.args.event)) ∙ mod-eq_of_lt (pow-lt c.requires))
