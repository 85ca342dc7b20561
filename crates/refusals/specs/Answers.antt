-- What a call that writes bytes answers, and what its output holds afterwards.
use Rattle.std.specs.Prelude.{List, ℕ, length, leb, Ok, Err}
use Rattle.std.specs.Prelude.{Result as Outcome}
use Rattle.laws.specs.Parts.{front}
use Rattle.refusals.specs.Table.{output_short_number}
use Rattle.refusals.specs.Results.{Result, value, refused, ◌>>=◌, ◌>>◌, require}
use Rattle.refusals.specs.declared.Refusal.{Refusal}

abbrev pub refusal : ℕ → ℕ → Refusal
refusal n at = record { number = n; spot = at }

-- what a call gives in the code: a result, or the refusal
abbrev pub Answer : Type 0 → Type 0
Answer A = Outcome A Refusal

-- a chain as such an answer
unfoldable pub answered : {A : Type 0} → Result A → Answer A
answered (value x) = Ok x
answered (refused number spot) = Err (refusal number spot)

-- the answer of a call that writes bytes: the length written, or the refusal
abbrev pub Written : Type 0
Written = Answer ℕ

-- the bytes that a call owes, where an output of `room` bytes takes them; else output_short_number with the length needed
unfoldable pub fitted : Result (List ℕ) → ℕ → Result (List ℕ)
fitted result room = do
  new ← result
  require (leb (length new) room) output_short_number (length new)
  value new

unfoldable pub answer_of : Result (List ℕ) → Written
answer_of (value new) = Ok (length new)
answer_of (refused number spot) = Err (refusal number spot)

unfoldable pub answer : Result (List ℕ) → ℕ → Written
answer result room = answer_of (fitted result room)

-- the output afterwards: the result in front and the rest untouched; a refusal writes nothing
unfoldable pub output_of : Result (List ℕ) → List ℕ → List ℕ
output_of (value new) output = front new output
output_of (refused number spot) output = output

unfoldable pub written : Result (List ℕ) → List ℕ → List ℕ
written result output = output_of (fitted result (length output)) output

-- an answer as numbers: 0 for a result, else the refusal's number; and the length, or the refusal's spot
unfoldable pub number_of : Written → ℕ
number_of (Ok n) = 0
number_of (Err r) = r.number

unfoldable pub value_of : Written → ℕ
value_of (Ok n) = n
value_of (Err r) = r.spot
