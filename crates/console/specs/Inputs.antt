-- What a read gives.
use Rattle.std.specs.Prelude.{◌≡◌, ℕ, ◌≤◌, ◌<◌, List, ◌++◌, length, take, None, Some, Ok, IfOk, MatchResult}
use Rattle.std.specs.declared.result.Result.{Result}
use Rattle.std.proofs.Common.{sym, ap, ◌∙◌, ⊎_elim, arith, append-nil, length-take-le, take_all}
use Rattle.std.proofs.Math.Nat.{eq-or-lt_of_le}
use Rattle.std.proofs.Math.Seq.{take-append_seam}
use Rattle.std.specs.Io.KnownBytes.{Consumes, IsAtEnd}
use Rattle.std.specs.declared.option.Option.{Option}

-- the bytes that came are at most so many
abbrev pub Within : {E : Type 0} → Result ℕ E → ℕ → Type 0
Within read room = IfOk read (λ n. n ≤ room)

-- as a caller sees it
pub within-bytes : {E : Type 0} (read : Result ℕ E) (n room : ℕ) → read ≡ Ok n → Within read room → n ≤ room
within-bytes read n room e h = rw e at h

-- Of a reader whose bytes are known, by those that it had and those that it has left: the bytes that came are its next ones, and all of them where
-- the buffer has room for more. Where a read failed, some came before it.
abbrev pub Whole : {E : Type 0} → Option (List ℕ) → Option (List ℕ) → Result ℕ E → List ℕ → Type 0
Whole had left read buffer =
    MatchResult read (λ n. Consumes had left (take n buffer) × (n < length buffer → IsAtEnd left)) (λ _. (n : ℕ) × Consumes had left (take n buffer))

-- as a caller sees it: of a known input all that the buffer has room for came
pub whole-read : {E : Type 0} (had left : Option (List ℕ)) (read : Result ℕ E) (n : ℕ) (buffer file : List ℕ) → read ≡ Ok n → n ≤ length buffer
    → Whole had left read buffer → had ≡ Some file → take (length buffer) file ≡ take n buffer
whole-read {E} had left read n buffer file is within whole known = came left (rw (is, known) at whole)
  where
    came : (rest : Option (List ℕ)) → Whole {E = E} (Some file) rest (Ok n) buffer → take (length buffer) file ≡ take n buffer
    came None h = absurd h.0
    came (Some rest) h =
        let size = length-take-le n buffer within in
        ⊎_elim
        (λ full. ap (λ k. take k file) (sym full ∙ sym size) ∙ ap (take (length (take n buffer))) h.0 ∙ take-append_seam (take n buffer) rest)
        (λ more.
        let all : file ≡ take n buffer = h.0 ∙ ap (λ l. take n buffer ++ l) (h.1 more) ∙ append-nil (take n buffer) in
        take_all (length buffer) file (omega (arith, ap length all, size, within)) ∙ all)
        (eq-or-lt_of_le within)
