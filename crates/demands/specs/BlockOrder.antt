-- REQUEST 1: 'Tell a torn block from a shuffled one.' 'Agents see "block wrong" and can't say whether the file was sent in the wrong order.'
-- Which fault of a block has which number, in which order, and that the lowest faulty block is the one named, say the lines of open in
-- Opening.antt (`block-number`, `block_use`, `block-sums`), for every file. Here is what becomes of a sealed file whose blocks came in
-- another order, or one of whose blocks, not the last, was lost or came twice: 17, at the first position that holds another block than its own.
use Rattle.std.specs.Prelude.{◌≡◌, ◌⊎◌, List, ◌++◌, ℕ, ◌+◌, ◌*◌, ◌<◌, length, take, drop, Err}
use Rattle.laws.specs.Pieces.{joined}
use Rattle.refusals.specs.Results.{value}
use Rattle.refusals.specs.Answers.{refusal, answer}
use Rattle.block.specs.File.{opened}
use Rattle.demands.specs.Opening.{WholeBlocks}

-- block k: its 512 bytes
abbrev pub block_of : List ℕ → ℕ → List ℕ
block_of file k = take 512 (drop (512 * k) file)

-- as many positions, each with some block of the file: position k has block `order k`. In any order, also with blocks that repeat
pub record InOrder (file : List ℕ) (blocks : ℕ) (order : ℕ → ℕ) (other : List ℕ) : Type 0 where
  pub size : length other ≡ length file
  pub within : (k : ℕ) → k < blocks → order k < blocks
  pub each : (k : ℕ) → k < blocks → block_of other k ≡ block_of file (order k)

-- there is such a file for every order
abbrev pub in_order : List ℕ → ℕ → (ℕ → ℕ) → List ℕ
in_order file blocks order = joined (λ k. block_of file (order k)) blocks

-- the lowest position whose block is not its own
pub record LowestMoved (order : ℕ → ℕ) (blocks k : ℕ) : Type 0 where
  pub within : k < blocks
  pub moved : order k ≡ k → ⊥
  pub lower : (j : ℕ) → j < k → order j ≡ j

-- the file without block i, and with block i twice
abbrev pub without_block : ℕ → List ℕ → List ℕ
without_block i file = take (512 * i) file ++ drop (512 * (i + 1)) file

abbrev pub with_block_twice : ℕ → List ℕ → List ℕ
with_block_twice i file = take (512 * (i + 1)) file ++ drop (512 * i) file

-- of a sealed file of so many blocks, and an output of any size
pub record BlockOrder (file : List ℕ) (blocks room : ℕ) : Type 0 where
  -- a file that has the same blocks up to position k, and there another block of the sealed file, is refused with 17 at k
  pub other_block : (other : List ℕ) (others : ℕ) → WholeBlocks other others → (k i : ℕ) → k < others → k < blocks → i < blocks → (i ≡ k → ⊥)
      → ((j : ℕ) → j < k → block_of other j ≡ block_of file j) → block_of other k ≡ block_of file i
      → answer (opened other) room ≡ Err (refusal 17 k)
  -- in any other order it is refused with 17, at the lowest position whose block is not its own
  pub shuffled : (order : ℕ → ℕ) (other : List ℕ) → InOrder file blocks order other → (k : ℕ) → LowestMoved order blocks k
      → answer (opened other) room ≡ Err (refusal 17 k)
  pub made : (order : ℕ → ℕ) → ((k : ℕ) → k < blocks → order k < blocks) → InOrder file blocks order (in_order file blocks order)
  -- there is such a position, unless each block stands in its own; then it is the same file
  pub some-moved : (order : ℕ → ℕ) → ((k : ℕ) × LowestMoved order blocks k) ⊎ ((k : ℕ) → k < blocks → order k ≡ k)
  pub none-moved : (order : ℕ → ℕ) (other : List ℕ) → InOrder file blocks order other → ((k : ℕ) → k < blocks → order k ≡ k) → other ≡ file
  -- a block that is lost, and not the last: 17 at its position, which holds the next one
  pub lost : (i : ℕ) → i + 1 < blocks → answer (opened (without_block i file)) room ≡ Err (refusal 17 i)
  -- a block that came twice, and not the last: 17 at the position behind it; a file of 128 blocks is then too long
  pub doubled : (i : ℕ) → i + 1 < blocks → blocks < 128 → answer (opened (with_block_twice i file)) room ≡ Err (refusal 17 (i + 1))
  pub doubled-long : (i : ℕ) → i < blocks → blocks ≡ 128 → answer (opened (with_block_twice i file)) room ≡ Err (refusal 1 0)

-- for every file that opens, and so for every file that sealing makes (`file`, SealExactly)
abbrev pub Request1 : Type 0
Request1 = (file b : List ℕ) → opened file ≡ value b → (blocks : ℕ) → WholeBlocks file blocks → (room : ℕ) → BlockOrder file blocks room
