-- The two sums that a block ends with, of bytes of any number.
use Rattle.std.specs.Prelude.{List, ℕ, ◌+◌, ◌%◌}
use Rattle.laws.specs.Sums.{weighted}

-- S: the sum of the bytes, modulo 65,521
unfoldable pub plain_sum : List ℕ → ℕ
plain_sum bytes = weighted (λ i. 1) bytes % 65521

-- W: the sum of (i + 1) × byte i, modulo 65,521
unfoldable pub position_sum : List ℕ → ℕ
position_sum bytes = weighted (λ i. i + 1) bytes % 65521
