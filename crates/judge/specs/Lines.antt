-- The line of a verdict.
use Rattle.std.specs.Prelude.{◌≡◌, refl, ℕ, Err, Ok}
use Rattle.std.proofs.Common.{ap}
use mathlib.Core.List.{List, [], ◌∷◌, flat_map}
use Rattle.laws.specs.Lists.{all}
use Rattle.refusals.specs.Table.{file_length_number}
use Rattle.refusals.specs.Answers.{refusal}
use Rattle.lines.specs.Decimals.{last_digit, digits_in, decimal}
use Rattle.lines.specs.Lines.{ascii, spaced, line, refusal_line, in_word, line_unique, words-differ, refusal-line_unique}
use Rattle.judge.specs.Files.{input_verdict}
use Rattle.verdicts.specs.declared.Tally.{Tally}
use Rattle.verdicts.specs.Judging.{Verdict}

-- the numbers of an accepted file, in the order of its line
abbrev pub counts : Tally → List ℕ
counts t = t.rows ∷ t.allowed ∷ t.by_place ∷ t.by_weights ∷ []

-- `accepted` and the four counts, or the refusal
unfoldable pub verdict_line : Verdict → List ℕ
verdict_line (Ok t) = line (ascii "accepted") (counts t)
verdict_line (Err r) = refusal_line r

-- what the program prints for an input
abbrev pub input_line : List ℕ → List ℕ
input_line input = verdict_line (input_verdict input)

-- what it prints for an input that could not be read: the refusal of one of a wrong length
abbrev pub unread_line : List ℕ
unread_line = refusal_line (refusal file_length_number 0)

-- the line determines the verdict
pub verdict-line_unique : (v w : Verdict) → verdict_line v ≡ verdict_line w → v ≡ w
unfolding verdict_line refusal_line all in_word
verdict-line_unique (Ok t) (Ok u) e =
    let same = (line_unique (ascii "accepted") (ascii "accepted") (counts t) (counts u) refl refl e).1 in
    let rows : t.rows ≡ u.rows = cc in
    let allowed : t.allowed ≡ u.allowed = cc in
    let places : t.by_place ≡ u.by_place = cc in
    let weights : t.by_weights ≡ u.by_weights = cc in
    λ i. Ok (record { rows = rows i; allowed = allowed i; by_place = places i; by_weights = weights i })
verdict-line_unique (Ok t) (Err r) e = words-differ 97 114 _ _ _ _ refl e
verdict-line_unique (Err r) (Ok t) e = words-differ 114 97 _ _ _ _ refl e
verdict-line_unique (Err r) (Err s) e = ap Err (refusal-line_unique r s e)

-- `accepted 5 4 5 1`
pub verdict-sample : verdict_line (Ok (record { rows = 5; allowed = 4; by_place = 5; by_weights = 1 }))
    ≡ 97 ∷ 99 ∷ 99 ∷ 101 ∷ 112 ∷ 116 ∷ 101 ∷ 100 ∷ 32 ∷ 53 ∷ 32 ∷ 52 ∷ 32 ∷ 53 ∷ 32 ∷ 49 ∷ 10 ∷ []
unfolding verdict_line line flat_map spaced decimal digits_in last_digit
verdict-sample = refl

-- four different counts, each in its place: `accepted 7 6 5 3`
pub counts-sample : verdict_line (Ok (record { rows = 7; allowed = 6; by_place = 5; by_weights = 3 }))
    ≡ 97 ∷ 99 ∷ 99 ∷ 101 ∷ 112 ∷ 116 ∷ 101 ∷ 100 ∷ 32 ∷ 55 ∷ 32 ∷ 54 ∷ 32 ∷ 53 ∷ 32 ∷ 51 ∷ 10 ∷ []
unfolding verdict_line line flat_map spaced decimal digits_in last_digit
counts-sample = refl

-- `refused 1 0`
pub unread-sample : unread_line ≡ 114 ∷ 101 ∷ 102 ∷ 117 ∷ 115 ∷ 101 ∷ 100 ∷ 32 ∷ 49 ∷ 32 ∷ 48 ∷ 10 ∷ []
unfolding refusal_line line flat_map spaced decimal digits_in last_digit
unread-sample = refl
