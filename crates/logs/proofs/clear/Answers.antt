-- `logs::clear` meets its contract: the front is filled with zeros.
use Rattle.std.specs.Prelude.{◌≡◌, ℕ, List, ◌++◌, ◌≤◌, length, take, drop, replicate}
use native.Mathlib.Omega.{arith}
use lib.ListN.{length-take}
use Rattle.rows.specs.Rows.{cleared}
use Rattle.logs.specs.Answers.{table_size}
use Rattle.logs.proofs.clear.Goals as goal

front_filled : (k : ℕ) (t front : List ℕ) → k ≤ length t → front ≡ replicate (length (take k t)) 0 → front ++ drop k t ≡ cleared k t
unfolding cleared
front_filled k t front h e = let size : length (take k t) ≡ k = simp length-take (omega (arith, h)) in rw (e, size)

pub returns : goal.returns
returns c = front_filled table_size c.args.table.now c.fill.new.self c.requires (c.fill.ensures.after (λ y e. e))
