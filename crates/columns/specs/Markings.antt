-- The code's marking of a matrix.
use Rattle.std.specs.Prelude.{◌≡◌, [], ℕ, ◌*◌, get_or}
use Rattle.nets.specs.Nets.{Counts}
use Rattle.columns.specs.declared.Matrix.{Matrix}
use Rattle.columns.specs.declared.marking.Marking as Declared
use Rattle.columns.specs.Matrix.{block_width, Moderate, Marking, Covered}

-- its tokens are so many as a place may hold, or lack
abbrev pub IsModerate : Declared.Marking → Type 0
IsModerate x = Moderate (block_width * x.blocks) x.tokens

-- they are those after its counts, in its columns of a matrix
pub record IsMarking (m : Matrix) (x : Declared.Marking) : Type 0 where
  pub after : Marking (block_width * x.blocks) m x.tokens x.counts
  pub held : IsModerate x

-- the marking y, which was x, has gone on to the counts v
pub record GoesOn (m : Matrix) (x y : Declared.Marking) (v : Counts) : Type 0 where
  pub blocks : y.blocks ≡ x.blocks
  pub counts : y.counts ≡ v
  pub marking : IsMarking m y

-- its tokens cover what event e takes, in each of its columns of a matrix
abbrev pub CoversEvent : Matrix → Declared.Marking → ℕ → Type 0
CoversEvent m x e = Covered (block_width * x.blocks) x.tokens (get_or m.consumed e [])
