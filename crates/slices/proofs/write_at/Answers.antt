-- `slices::write_at` meets its contract.
use Rattle.std.proofs.Common.{◌≡◌, ◌++◌, List, ℕ, length, take, drop, arith, append_assoc}
use Rattle.std.proofs.Math.Seq.{drop-drop}
use Rattle.laws.specs.Parts.{spliced}
use Rattle.slices.proofs.write_at.Goals as goal

-- the part that is written, as the library says it
put : (at k : ℕ) (new l : List ℕ) → k ≡ length new → take at l ++ (new ++ drop k (drop at l)) ≡ spliced at new l
unfolding spliced
put at k new l size = rw size (simp (drop-drop, append_assoc))

pub returns : goal.returns
returns c = rw c.copy_from_slice.ensures.after (put c.args.at _ c.args.piece.now c.args.output.now (omega arith))
