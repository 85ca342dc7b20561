-- The modulus and the weights, for what the sums of bytes detect. The theorems are in proofs/Detection.antt.
use Prim.Native.Nat.{ℕ, ◌+◌}

-- the modulus of both sums, and the weight of byte i in W
abbrev pub modulus : ℕ
modulus = 65521

abbrev pub weight : ℕ → ℕ
weight i = i + 1
