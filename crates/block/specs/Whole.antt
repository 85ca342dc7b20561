-- Opening as a program does it: into an output that is long enough for every bundle, from an input of any length that is read to a buffer. Where the
-- buffer has room for a byte more than the longest file, what it holds is answered as the whole input: one that is longer than the buffer is too
-- long, and so is its beginning.
use Rattle.std.specs.Prelude.{◌≡◌, refl, Bool, true, false, List, ℕ, ◌≤◌, ◌<◌, length, take}
use Rattle.std.proofs.Common.{sym, ap, ◌∙◌, ⊎_elim, arith, le-leb, length-take, take_all}
use Rattle.laws.specs.Booleans.{lt_or_le}
use Rattle.limits.specs.Limits.{max_file_size, max_bundle_size}
use Rattle.refusals.specs.Results.{Result, value, refused, bind, require}
use Rattle.refusals.specs.Answers.{fitted}
use Rattle.block.specs.File.{opened, right_length}
use Rattle.block.specs.OpenLaws.{right_length-whole, opened-length}
use Rattle.block.specs.RoundTrip.{opened-size}

-- an output of 64,512 bytes changes nothing: never output_short_number
pub open_fitted : (file : List ℕ) (room : ℕ) → max_bundle_size ≤ room → fitted (opened file) room ≡ opened file
unfolding fitted bind require
open_fitted file room long = go (opened file) refl
  where
    go : (result : Result (List ℕ)) → opened file ≡ result → fitted result room ≡ result
    go (value new) is = let size = opened-size file new is in rw (le-leb (length new) room (omega arith))
    go (refused number spot) is = refl

-- the first n bytes of a buffer are what it holds of the input: all of it, or as much as there is room for
abbrev pub InputRead : List ℕ → List ℕ → ℕ → Type 0
InputRead input buffer n = take (length buffer) input ≡ take n buffer

-- as where the input is no longer than that
pub read_all : (buffer : List ℕ) (n : ℕ) → n ≤ length buffer → InputRead (take n buffer) buffer n
read_all buffer n h = take_all (length buffer) (take n buffer) (omega (arith, length-take n buffer))

-- a file above 65,536 bytes has a wrong length
too_long : (file : List ℕ) → max_file_size < length file → right_length (length file) ≡ false
too_long file h = go (right_length (length file)) refl
  where
    go : (b : Bool) → right_length (length file) ≡ b → right_length (length file) ≡ false
    go true e = absurd (omega (arith, (right_length-whole (length file) e).2))
    go false e = e

-- so opening what came is opening the input
pub open_whole : (input buffer : List ℕ) (n : ℕ) → InputRead input buffer n → max_file_size < length buffer → opened (take n buffer) ≡ opened input
open_whole input buffer n came room = ap opened (sym came) ∙ ⊎_elim
    (λ longer. opened-length (take (length buffer) input) (too_long (take (length buffer) input) (omega (arith, length-take (length buffer) input)))
    ∙ sym (opened-length input (too_long input (omega arith))))
    (λ all. ap opened (take_all (length buffer) input all))
    (lt_or_le (length buffer) (length input))
