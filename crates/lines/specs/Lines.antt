-- The line that a program prints: a word, and numbers in decimal.
use Rattle.std.specs.Prelude.{◌≡◌, refl, Bool, true, false, not, ◌&&◌, ◌||◌, ℕ, eqb, flat_map, get_or}
use Rattle.std.proofs.Common.{sym, ap, ap₂, ◌∙◌, arith, ne_eqb}
use mathlib.Core.List.{List, [], ◌∷◌, ◌++◌, append_assoc}
use Prim.Native.Char.{code}
use Prim.Native.String as text
use Prim.Native.String.{String}
use Rattle.std.proofs.lemmas.Bool.{eqb-false}
use Rattle.laws.specs.Booleans.{and_left, and_right}
use Rattle.laws.specs.Lists.{all}
use Rattle.laws.specs.Scans.{failing-cut}
use Rattle.lines.specs.Decimals.{is_digit, last_digit, digits_in, decimal, digit_bounds, decimal_digits, decimal_unique}
use Rattle.refusals.specs.Answers.{refusal}
use Rattle.refusals.specs.declared.Refusal.{Refusal}

-- a text in ASCII
abbrev pub ascii : String → List ℕ
ascii text.[] = []
ascii (text.◌∷◌ c s) = code c ∷ ascii s

-- a number behind one space
unfoldable pub spaced : ℕ → List ℕ
spaced n = 32 ∷ decimal n

-- a word, the numbers, a newline
unfoldable pub line : List ℕ → List ℕ → List ℕ
line word numbers = word ++ flat_map spaced numbers ++ 10 ∷ []

-- a refusal: its number and its spot
unfoldable pub refusal_line : Refusal → List ℕ
refusal_line r = line (ascii "refused") (r.number ∷ r.spot ∷ [])

-- ---- A line determines its word and its numbers

-- neither a space nor a newline
unfoldable pub in_word : ℕ → Bool
in_word byte = not (eqb byte 32 || eqb byte 10)

digit_in_word : (byte : ℕ) → is_digit byte ≡ true → in_word byte ≡ true
unfolding in_word
digit_in_word byte is =
    let bounds = digit_bounds byte is in
    rw (ne_eqb byte 32 (λ e. omega arith), ne_eqb byte 10 (λ e. omega arith))

digits_in-word : (l : List ℕ) → all is_digit l ≡ true → all in_word l ≡ true
unfolding all
digits_in-word [] h = refl
digits_in-word (x ∷ l) h =
    ap₂ ◌&&◌ (digit_in_word x (and_left (is_digit x) (all is_digit l) h)) (digits_in-word l (and_right (is_digit x) (all is_digit l) h))

decimal_in_word : (n : ℕ) → all in_word (decimal n) ≡ true
decimal_in_word n = digits_in-word (decimal n) (decimal_digits n)

-- what stands behind a word or a number: the first byte, and the others
abbrev behind : List ℕ → List ℕ
behind numbers = flat_map spaced numbers ++ 10 ∷ []

abbrev first : List ℕ → ℕ
first [] = 10
first (n ∷ ns) = 32

abbrev others : List ℕ → List ℕ
others [] = []
others (n ∷ ns) = decimal n ++ behind ns

behind-first : (ns : List ℕ) → behind ns ≡ first ns ∷ others ns
unfolding spaced
behind-first [] = refl
behind-first (n ∷ ns) = ap (λ (l : List ℕ). 32 ∷ l) (append_assoc (decimal n) (flat_map spaced ns) (10 ∷ []))

first_ends : (ns : List ℕ) → in_word (first ns) ≡ false
unfolding in_word
first_ends [] = refl
first_ends (n ∷ ns) = refl

-- a word, or a number, ends at the first byte that is in none
ends : (a b ns ms : List ℕ) → all in_word a ≡ true → all in_word b ≡ true → a ++ behind ns ≡ b ++ behind ms → (a ≡ b) × (behind ns ≡ behind ms)
ends a b ns ms ha hb e =
    let cut = failing-cut in_word a b (first ns) (first ms) (others ns) (others ms) ha hb (first_ends ns) (first_ends ms)
    (ap (λ (l : List ℕ). a ++ l) (sym (behind-first ns)) ∙ e ∙ ap (λ (l : List ℕ). b ++ l) (behind-first ms)) in
    (cut.0, behind-first ns ∙ cut.1 ∙ sym (behind-first ms))

numbers_unique : (ns ms : List ℕ) → behind ns ≡ behind ms → ns ≡ ms
numbers_unique ns ms e = go ns ms (sym (behind-first ns) ∙ e ∙ behind-first ms)
  where
    go : (a b : List ℕ) → first a ∷ others a ≡ first b ∷ others b → a ≡ b
    go [] [] e = refl
    go [] (m ∷ ms) e = let apart : ◌≡◌ {A = ℕ} 10 32 = cc in absurd (omega arith)
    go (n ∷ ns) [] e = let apart : ◌≡◌ {A = ℕ} 32 10 = cc in absurd (omega arith)
    go (n ∷ ns) (m ∷ ms) e =
        let rest : decimal n ++ behind ns ≡ decimal m ++ behind ms = cc in
        let cut = ends (decimal n) (decimal m) ns ms (decimal_in_word n) (decimal_in_word m) rest in
        ap₂ ◌∷◌ (decimal_unique n m cut.0) (go ns ms (sym (behind-first ns) ∙ cut.1 ∙ behind-first ms))

-- words without a space and a newline
pub line_unique : (word other : List ℕ) (numbers more : List ℕ) → all in_word word ≡ true → all in_word other ≡ true
    → line word numbers ≡ line other more → (word ≡ other) × (numbers ≡ more)
unfolding line
line_unique word other numbers more plain plainly e =
    let cut = ends word other numbers more plain plainly
    (sym (append_assoc word (flat_map spaced numbers) (10 ∷ [])) ∙ e ∙ append_assoc other (flat_map spaced more) (10 ∷ [])) in
    (cut.0, numbers_unique numbers more cut.1)

-- words that begin with different bytes make different lines
pub words-differ : {A : Type 0} (a b : ℕ) (u v numbers more : List ℕ) → eqb a b ≡ false → line (a ∷ u) numbers ≡ line (b ∷ v) more → A
unfolding line
words-differ a b u v numbers more apart e = absurd (eqb-false a b apart (ap (λ (l : List ℕ). get_or l 0 0) e))

-- the line of a refusal determines it
pub refusal-line_unique : (r s : Refusal) → refusal_line r ≡ refusal_line s → r ≡ s
unfolding refusal_line all in_word
refusal-line_unique r s e =
    let same = (line_unique (ascii "refused") (ascii "refused") (r.number ∷ r.spot ∷ []) (s.number ∷ s.spot ∷ []) refl refl e).1 in
    let number : r.number ≡ s.number = cc in
    let spot : r.spot ≡ s.spot = cc in
    ap₂ refusal number spot

-- `refused 6 3`
pub refusal-sample : refusal_line (refusal 6 3) ≡ 114 ∷ 101 ∷ 102 ∷ 117 ∷ 115 ∷ 101 ∷ 100 ∷ 32 ∷ 54 ∷ 32 ∷ 51 ∷ 10 ∷ []
unfolding refusal_line line spaced decimal digits_in last_digit
refusal-sample = refl
