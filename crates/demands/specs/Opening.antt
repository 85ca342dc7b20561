-- OPENING AND SEALING, in the words of the requirements: exactly when each refusal meets the call, with its spot, and when there is a result.
-- Every line is about any file, any bundle and an output of any size (`room`).
use Rattle.std.specs.Prelude.{◌≡◌, ◌↔◌, ◌⊎◌, List, ℕ, ◌+◌, ◌*◌, ◌/◌, ◌%◌, ◌≤◌, ◌<◌, length, take, drop, get_or, Err, Ok}
use Rattle.laws.specs.Numbers.{Bytes}
use Rattle.laws.specs.Pieces.{joined}
use Rattle.laws.specs.Sums.{sum}
use Rattle.refusals.specs.Results.{value}
use Rattle.refusals.specs.Answers.{refusal, answer}
use Rattle.block.specs.File.{opened, sealed}

-- ---- 'A sealed file is 1 to 128 blocks of 512 bytes.'

pub record WholeBlocks (file : List ℕ) (blocks : ℕ) : Type 0 where
  pub size : length file ≡ 512 * blocks
  pub some : 1 ≤ blocks
  pub most : blocks ≤ 128

-- byte i of block k, and the field in bytes i and i + 1, the low byte first
abbrev pub byte_of : List ℕ → ℕ → ℕ → ℕ
byte_of file k i = get_or file (512 * k + i) 0

abbrev pub field_of : List ℕ → ℕ → ℕ → ℕ
field_of file k i = byte_of file k i + 256 * byte_of file k (i + 1)

-- block k of so many uses the bytes that it may, and only these are not zero
pub record UseKept (file : List ℕ) (blocks k : ℕ) : Type 0 where
  -- 'Bytes 2-3: used count. .. Every block but the last uses 504 bytes, the last 1 to 504;'
  pub full : k + 1 < blocks → field_of file k 2 ≡ 504
  pub last : k + 1 ≡ blocks → (1 ≤ field_of file k 2) × (field_of file k 2 ≤ 504)
  -- 'Bytes 4-507: contents. .. unused contents are zero.'
  pub unused : (i : ℕ) → field_of file k 2 ≤ i → i < 504 → byte_of file k (4 + i) ≡ 0

-- its sums are right
pub record SumsKept (file : List ℕ) (k : ℕ) : Type 0 where
  -- 'Bytes 508-509: S, the sum of bytes 0 to 507, modulo 65,521.'
  pub plain : field_of file k 508 ≡ sum 508 (λ i. byte_of file k i) % 65521
  -- 'Bytes 510-511: W, the sum of (i+1) × byte i over i = 0 to 507, modulo 65,521.'
  pub weighted : field_of file k 510 ≡ sum 508 (λ i. (i + 1) * byte_of file k i) % 65521

-- it keeps the rules
pub record BlockKept (file : List ℕ) (blocks k : ℕ) : Type 0 where
  -- 'Bytes 0-1: block number from 0.'
  pub number : field_of file k 0 ≡ k
  pub contents : UseKept file blocks k
  pub sums : SumsKept file k

-- 'The used contents joined are the bundle': block k's are so many bytes from its byte 4 on
abbrev pub contents_of : List ℕ → ℕ → List ℕ
contents_of file k = take (field_of file k 2) (drop (512 * k + 4) file)

-- 'The lowest faulty block is still the one named.' Block k has a fault, and all lower blocks keep the rules
pub record LowestFaulty (file : List ℕ) (blocks k : ℕ) (Fault : Type 0) : Type 0 where
  pub within : k < blocks
  pub here : Fault
  pub lower : (j : ℕ) → j < k → BlockKept file blocks j

-- 'A block whose number isn't its position'
abbrev pub WrongNumber : List ℕ → ℕ → Type 0
WrongNumber file k = field_of file k 0 ≡ k → ⊥

-- 'a wrong used count or a nonzero unused byte', of one whose number is right
abbrev pub WrongUse : List ℕ → ℕ → ℕ → Type 0
WrongUse file blocks k = (field_of file k 0 ≡ k) × (UseKept file blocks k → ⊥)

-- 'wrong sums only'
abbrev pub WrongSums : List ℕ → ℕ → ℕ → Type 0
WrongSums file blocks k = (field_of file k 0 ≡ k) × UseKept file blocks k × (SumsKept file k → ⊥)

-- ---- Open: 1, then 17, 18 or 2 of the lowest faulty block, then 3

pub record OpenExactly (file : List ℕ) (room : ℕ) : Type 0 where
  -- 'file length 0, no multiple of 512, above 65,536 | 1 | 0'
  pub file-length : (spot : ℕ) → (answer (opened file) room ≡ Err (refusal 1 spot))
      ↔ ((spot ≡ 0) × ((length file ≡ 0) ⊎ ((length file % 512 ≡ 0 → ⊥) ⊎ (65536 < length file))))
  -- '17 for the block number, 18 for used count or padding; within a block 17, 18, 2.' 'Refusal 2 keeps wrong sums only.'
  pub block-number : (spot : ℕ) → (answer (opened file) room ≡ Err (refusal 17 spot))
      ↔ ((blocks : ℕ) × WholeBlocks file blocks × LowestFaulty file blocks spot (WrongNumber file spot))
  pub block_use : (spot : ℕ) → (answer (opened file) room ≡ Err (refusal 18 spot))
      ↔ ((blocks : ℕ) × WholeBlocks file blocks × LowestFaulty file blocks spot (WrongUse file blocks spot))
  pub block-sums : (spot : ℕ) → (answer (opened file) room ≡ Err (refusal 2 spot))
      ↔ ((blocks : ℕ) × WholeBlocks file blocks × LowestFaulty file blocks spot (WrongSums file blocks spot))
  -- 'output shorter than the result | 3 | length needed'
  pub output_short : (spot : ℕ) → (answer (opened file) room ≡ Err (refusal 3 spot))
      ↔ ((b : List ℕ) × (opened file ≡ value b) × (spot ≡ length b) × (room < length b))
  -- else the bundle's length is answered
  pub result : (n : ℕ) → (answer (opened file) room ≡ Ok n)
      ↔ ((b : List ℕ) × (opened file ≡ value b) × (n ≡ length b) × (length b ≤ room))
  -- which is that of the used contents joined, of a file whose blocks all keep the rules
  pub bundle : (b : List ℕ) → (opened file ≡ value b)
      ↔ ((blocks : ℕ) × WholeBlocks file blocks × ((k : ℕ) → k < blocks → BlockKept file blocks k) × (b ≡ joined (contents_of file) blocks))

-- ---- Seal: 4, 3

-- the bytes of a sealed file: a block of 512 for each 504 of the bundle, the last of them begun
abbrev pub sealed_size : ℕ → ℕ
sealed_size n = 512 * ((n + 503) / 504)

pub record SealExactly (b : List ℕ) (room : ℕ) : Type 0 where
  -- 'bundle length 0 or above 64,512 | 4 | 0'
  pub bundle-length : (spot : ℕ) → (answer (sealed b) room ≡ Err (refusal 4 spot)) ↔ ((spot ≡ 0) × ((length b ≡ 0) ⊎ (64512 < length b)))
  -- 'output shorter than the result | 3 | length needed'
  pub output_short : (spot : ℕ) → (answer (sealed b) room ≡ Err (refusal 3 spot))
      ↔ ((1 ≤ length b) × (length b ≤ 64512) × (spot ≡ sealed_size (length b)) × (room < sealed_size (length b)))
  -- else the file's length is answered
  pub result : (n : ℕ) → (answer (sealed b) room ≡ Ok n)
      ↔ ((1 ≤ length b) × (length b ≤ 64512) × (n ≡ sealed_size (length b)) × (sealed_size (length b) ≤ room))
  -- and the file is the one that opens into the bundle
  pub file : Bytes b → (f : List ℕ) → (sealed b ≡ value f) ↔ (Bytes f × (opened f ≡ value b))
