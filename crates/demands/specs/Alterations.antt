-- REQUEST 4: 'What the block sums catch.' 'Our couriers' phones sometimes mangle a byte.'
-- Which refusal meets which file, and at which block, say the lines of open in Opening.antt, for every file. Here is what becomes of a sealed file
-- of which one byte or two are no longer as they were: it does not open, whichever bytes they are. `one` and `places` are what was asked for; `two`
-- is any one or two bytes, and both are cases of it. Of three altered bytes some are caught and some are not: `three`.
use Rattle.std.specs.Prelude.{◌≡◌, ◌⊎◌, List, ℕ, ◌+◌, ◌*◌, ◌/◌, ◌≤◌, ◌<◌, length, take, get_or, set, Err, Ok}
use Rattle.laws.specs.Distance.{distance}
use Rattle.laws.specs.Numbers.{Bytes}
use Rattle.refusals.specs.Results.{value}
use Rattle.refusals.specs.Answers.{refusal, answer, written}
use Rattle.block.specs.File.{opened, sealed_file, sealed}
use Rattle.demands.specs.Opening.{byte_of}
use Rattle.demands.specs.BlockOrder.{block_of}

-- a file of which bytes i and j have changed places
abbrev pub swapped : ℕ → ℕ → List ℕ → List ℕ
swapped i j file = set (set file i (get_or file j 0)) j (get_or file i 0)

-- block k is the lowest altered block
pub record LowestAltered (file altered : List ℕ) (k : ℕ) : Type 0 where
  pub here : block_of altered k ≡ block_of file k → ⊥
  pub lower : (j : ℕ) → j < k → block_of altered j ≡ block_of file j

-- opening refuses with 17, 18 or 2, and its spot is k; the output is as it was. Whatever the output
pub record RefusedAt (altered : List ℕ) (k : ℕ) : Type 0 where
  pub number : ℕ
  pub which : (number ≡ 17) ⊎ ((number ≡ 18) ⊎ (number ≡ 2))
  pub refuses : (room : ℕ) → answer (opened altered) room ≡ Err (refusal number k)
  pub untouched : (output : List ℕ) → written (opened altered) output ≡ output

-- of a file, with every alteration of it
pub record SumsCatch (file : List ℕ) : Type 0 where
  -- 'a sealed file with exactly one byte altered never opens': any byte of the file, and any other value; the spot is its block
  pub one : (i x : ℕ) → i < length file → x < 256 → (x ≡ get_or file i 0 → ⊥) → RefusedAt (set file i x) (i / 512)
  -- 'a sealed file in which two unequal bytes among 0 to 507 of one block have changed places never opens'
  pub places : (k i j : ℕ) → 512 * k < length file → i < 508 → j < 508 → (byte_of file k i ≡ byte_of file k j → ⊥)
      → RefusedAt (swapped (512 * k + i) (512 * k + j) file) k
  -- beyond: one byte or two, in one block or in two, whatever stands there now; the spot is the lowest altered block. `distance` is the number of
  -- positions that differ
  pub two : (altered : List ℕ) → length altered ≡ length file → Bytes altered → 1 ≤ distance file altered → distance file altered ≤ 2
      → (k : ℕ) × LowestAltered file altered k × RefusedAt altered k
  -- so a file of the same length that opens is this file, or three of its bytes are others, or more
  pub apart : (other b : List ℕ) → length other ≡ length file → Bytes other → opened other ≡ value b → (other ≡ file → ⊥) → 3 ≤ distance file other

-- a sealed file, and another of bytes that differs from it in three, which opens into another bundle
pub record ThreeUncaught : Type 0 where
  pub bundle : List ℕ
  pub file : List ℕ
  pub altered : List ℕ
  pub other : List ℕ
  pub small : Bytes bundle
  pub seals : sealed bundle ≡ value file
  pub size : length altered ≡ length file
  pub bytes : Bytes altered
  pub three : distance file altered ≡ 3
  pub opens : opened altered ≡ value other
  pub differs : other ≡ bundle → ⊥

pub record Request4 : Type 0 where
  -- 'Both hold for every file that sealing can make': of every bundle of 1 to 64,512 bytes
  pub files : (b : List ℕ) → Bytes b → 1 ≤ length b → length b ≤ 64512 → SumsCatch (sealed_file b)
  -- as the calls do it: what sealing wrote to the front of an output is altered, then opened
  pub calls : (b output : List ℕ) (n : ℕ) → Bytes b → answer (sealed b) (length output) ≡ Ok n
      → SumsCatch (take n (written (sealed b) output))
  -- and for every file that opens, whoever made it
  pub opening : (file b : List ℕ) → Bytes file → opened file ≡ value b → SumsCatch file
  -- not every alteration of three bytes is caught
  pub three : ThreeUncaught
