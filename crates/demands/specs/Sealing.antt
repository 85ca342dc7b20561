-- REQUEST 3: 'Write blocks straight into the output.' 'Bytes, order and refusals of sealing are as they were, including the untouched output on 3.'
-- The contract of seal has not changed, nor has a definition that it cites. When which refusal meets it says SealExactly in Opening.antt. Here is what
-- stands in the output afterwards, byte by byte in the words of the requirements, for an output of any size that held anything before.
use Rattle.std.specs.Prelude.{◌≡◌, ◌⊎◌, List, ℕ, ◌+◌, ◌*◌, ◌/◌, ◌≤◌, ◌<◌, length, take, drop, Err, Ok}
use Rattle.refusals.specs.Answers.{refusal, answer, written}
use Rattle.block.specs.File.{sealed}
use Rattle.demands.specs.Opening.{WholeBlocks, BlockKept, contents_of, sealed_size}

-- the output afterwards, and the file in front of it
abbrev pub sealed_into : List ℕ → List ℕ → List ℕ
sealed_into b output = written (sealed b) output

abbrev pub file_in : List ℕ → List ℕ → List ℕ
file_in b output = take (sealed_size (length b)) (sealed_into b output)

-- a bundle of 1 to 64,512 bytes, an output that the file fits into, and so many blocks
pub record SealsInto (b output : List ℕ) (blocks : ℕ) : Type 0 where
  pub answered : answer (sealed b) (length output) ≡ Ok (sealed_size (length b))
  pub whole : WholeBlocks (file_in b output) blocks
  -- 'Bytes, order': block k stands from byte 512 × k on, with its number, used count, zeros behind its contents, and sums
  pub kept : (k : ℕ) → k < blocks → BlockKept (file_in b output) blocks k
  -- and its contents are the 504 bytes of the bundle from 504 × k on, in the last block what is left
  pub contents : (k : ℕ) → k < blocks → contents_of (file_in b output) k ≡ take 504 (drop (504 * k) b)
  -- what lies behind is left
  pub size : length (sealed_into b output) ≡ length output
  pub behind : drop (sealed_size (length b)) (sealed_into b output) ≡ drop (sealed_size (length b)) output

pub record Request3 : Type 0 where
  pub result : (b output : List ℕ) → 1 ≤ length b → length b ≤ 64512 → sealed_size (length b) ≤ length output
      → SealsInto b output ((length b + 503) / 504)
  -- what the output held never shows in the file
  pub same : (b one other : List ℕ) → 1 ≤ length b → length b ≤ 64512 → sealed_size (length b) ≤ length one → sealed_size (length b) ≤ length other
      → file_in b one ≡ file_in b other
  -- 'the untouched output on 3'
  pub short : (b output : List ℕ) → 1 ≤ length b → length b ≤ 64512 → length output < sealed_size (length b)
      → (answer (sealed b) (length output) ≡ Err (refusal 3 (sealed_size (length b)))) × (sealed_into b output ≡ output)
  -- and on 4, which comes first
  pub bundle : (b output : List ℕ) → (length b ≡ 0) ⊎ (64512 < length b)
      → (answer (sealed b) (length output) ≡ Err (refusal 4 0)) × (sealed_into b output ≡ output)
