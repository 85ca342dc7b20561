-- An answer with its shortfall multiplied. The theorems on multiplied places are in proofs/Scaling.antt.
use Rattle.std.specs.Prelude.{ℕ, ◌*◌}
use Rattle.nets.specs.Nets.{Answer, permitted, stopped}

-- an answer with its shortfall multiplied
unfoldable pub lacking : ℕ → Answer → Answer
lacking k permitted = permitted
lacking k (stopped i j missing) = stopped i j (k * missing)
