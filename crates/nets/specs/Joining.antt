-- Where the joined place list stops a word: the definitions. The theorems are in proofs/Joining.antt.
use Rattle.std.specs.Prelude.{cond, ℕ, ◌+◌, leb}
use Rattle.nets.specs.Nets.{Answer, permitted, stopped}

-- ---- where it stops

-- an answer of the second net, its places numbered behind k others
unfoldable pub moved_up : ℕ → Answer → Answer
moved_up k permitted = permitted
moved_up k (stopped i j missing) = stopped i (k + j) missing

-- the earlier stop of two; the first one where both are at the same step
unfoldable pub earlier : Answer → Answer → Answer
earlier permitted y = y
earlier (stopped i j k) permitted = stopped i j k
earlier (stopped i j k) (stopped i' j' k') = cond (leb i i') (stopped i j k) (stopped i' j' k')
