-- A block of 512 bytes: the bytes that its number and its contents give it, and the rules that it keeps.
use Rattle.std.specs.Prelude.{List, ◌++◌, Bool, true, false, cond, ◌&&◌, ℕ, ◌+◌, ◌-◌, length, take, drop, replicate, eqb, leb}
use Rattle.laws.specs.Lists.{all}
use Rattle.laws.specs.Numbers.{le16, number_at}
use Rattle.refusals.specs.Table.{block_sums_number, block_number_number, block_use_number}
use Rattle.sums.specs.Checksums.{plain_sum, position_sum}

-- ---- The bytes of a block

-- contents with zeros after them, 504 bytes
unfoldable pub padded : List ℕ → List ℕ
padded contents = contents ++ replicate (504 - length contents) 0

-- bytes 0 to 507: the block number, the used count and the contents
unfoldable pub summed_bytes : ℕ → List ℕ → List ℕ
summed_bytes number contents = le16 number ++ (le16 (length contents) ++ padded contents)

-- bytes with their two sums after them
unfoldable pub with_sums : List ℕ → List ℕ
with_sums bytes = bytes ++ (le16 (plain_sum bytes) ++ le16 (position_sum bytes))

-- the 512 bytes of a block
unfoldable pub block : ℕ → List ℕ → List ℕ
block number contents = with_sums (summed_bytes number contents)

-- ---- The rules of a block

-- bytes 2 and 3
unfoldable pub used_count : List ℕ → ℕ
used_count b = number_at b 2

-- so many contents, from byte 4 on
unfoldable pub used_contents : List ℕ → List ℕ
used_contents b = take (used_count b) (drop 4 b)

abbrev pub is_zero : ℕ → Bool
is_zero x = eqb x 0

-- its number is its position in the file
unfoldable pub right_number : ℕ → List ℕ → Bool
right_number number b = eqb (number_at b 0) number

-- it uses 504 bytes; as the last block of a file, 1 to 504
unfoldable pub right_count : Bool → ℕ → Bool
right_count last used = cond last (leb 1 used && leb used 504) (eqb used 504)

-- its unused contents are zero
unfoldable pub right_padding : List ℕ → Bool
right_padding b = all is_zero (take (504 - used_count b) (drop (4 + used_count b) b))

-- both: its used count and its unused contents
unfoldable pub right_use : Bool → List ℕ → Bool
right_use last b = right_count last (used_count b) && right_padding b

-- its sums are those of bytes 0 to 507
unfoldable pub right_sums : List ℕ → Bool
right_sums b = eqb (number_at b 508) (plain_sum (take 508 b)) && eqb (number_at b 510) (position_sum (take 508 b))

-- `rest`, unless a rule is broken: then its number
abbrev pub unless : Bool → ℕ → ℕ → ℕ
unless true number rest = rest
unless false number rest = number

-- the refusal number of the first rule that a block breaks, 0 where it keeps them all: 17, 18, 2
unfoldable pub fault : Bool → ℕ → List ℕ → ℕ
fault last number b =
    unless (right_number number b) block_number_number
    (unless (right_use last b) block_use_number
    (unless (right_sums b) block_sums_number 0))
