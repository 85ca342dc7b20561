-- The tokens of the columns stay far from the bounds of an `i64`.
use Rattle.std.proofs.Common.{◌≡◌, refl, sym, ap, ap₂, ◌∙◌, subst, mul-le-mul, arith, List, [], ◌∷◌, ℕ, zero, suc, ◌+◌, ◌*◌, ◌≤◌, ◌<◌, ℤ, pos, ◌+ℤ◌, ◌-ℤ◌, ◌*ℤ◌, get_or, w16, w64}
use Rattle.std.proofs.Math.IntN.{sub_ℕ}
use mir.Val.{Val, SFits}
use denote.Array.{each, in_array}
use denote.Plain.{UInt}
use denote.Shadow.{shadow}
use borrow.Author.Rules.{elem_Fits}
use Rattle.laws.specs.Differences.{difference, difference-add, difference-mul, less_none}
use Rattle.limits.specs.Limits.{max_events}
use Rattle.nets.specs.Nets.{Counts, at}
use Rattle.places.specs.Machine.{Held, held}
use Rattle.places.proofs.Bounds.{Small, tokens-held}
use Rattle.places.proofs.Signed.{difference-fits}
use Rattle.columns.specs.declared.Matrix.{Matrix}
use Rattle.columns.specs.Matrix.{matrix_width, number, column, Moderate, Marking}

-- what the relation of an array of rows says
abbrev pub Rows : List (List ℕ) → List Val → Type 0
Rows rows us = shadow (each (List ℕ) (in_array ℕ (UInt w16).own_val matrix_width) rows us)

-- by it each number is a `u16`
row_short : (rows : List (List ℕ)) (us : List Val) (i j : ℕ) → Rows rows us → number rows i j < 65536
row_short [] us i j h = omega arith
row_short (x ∷ xs) [] i j h = absurd h
row_short (x ∷ xs) (u ∷ us) zero j h = (elem_Fits w16 w16 x h.0.0 j h.0.1.1 tt).fits
row_short (x ∷ xs) (u ∷ us) (suc i) j h = row_short xs us i j h.1

-- each number of a matrix is a `u16`
pub record Short (m : Matrix) : Type 0 where
  pub initial : (j : ℕ) → get_or m.initial j 0 < 65536
  pub produced : (i j : ℕ) → number m.produced i j < 65536
  pub consumed : (i j : ℕ) → number m.consumed i j < 65536

pub short_matrix : (m : Matrix) (us vs : List Val) → ((j : ℕ) → get_or m.initial j 0 < 65536)
    → Rows m.produced us → Rows m.consumed vs → Short m
short_matrix m us vs initial produced consumed =
    record { initial = initial; produced = λ i j. row_short m.produced us i j produced; consumed = λ i j. row_short m.consumed vs i j consumed }

pub marking_moderate : {count : ℕ} {m : Matrix} {t : List ℤ} {v : Counts} → Short m → ((i : ℕ) → at v i < 65536)
    → Marking count m t v → Moderate count t
marking_moderate {m = m} {v = v} short few h j b =
    let small : Small (column m j) v = record {
      initial = short.initial j;
      produced = λ i. short.produced i j;
      consumed = λ i. short.consumed i j;
      counts = few;
    } in
    subst Held (sym (h.tokens j b)) (tokens-held (column m j) v small max_events (omega arith))

-- the initial tokens
pub start_moderate : {count : ℕ} (initial : List ℕ) (t : List ℤ) → ((j : ℕ) → get_or initial j 0 < 65536)
    → ((j : ℕ) → j < count → get_or t j (pos 0) ≡ pos (get_or initial j 0)) → Moderate count t
start_moderate initial t few is j b =
    let n = get_or initial j 0 in
    held n 0 (omega (arith, few j)) (omega arith) (is j b ∙ sym (less_none (pos n) refl) ∙ difference n 0)

-- what is shifted stays in the range of an `i64`
pub shifted_fits : (t : ℤ) → Held t → (times p q : ℕ) → times < 65536 → p < 65536 → q < 65536 → SFits w64 (t +ℤ pos times *ℤ (pos p -ℤ pos q))
shifted_fits t h times p q few hp hq =
    let product : (x : ℕ) → x < 65536 → times * x ≤ 65535 * 65535 =
    λ x below. mul-le-mul {n₁ = times} {m₁ = x} {n₂ = 65535} {m₂ = 65535} (omega arith) (omega arith) in
    let is : t +ℤ pos times *ℤ (pos p -ℤ pos q) ≡ sub_ℕ (h.plus + times * p) (h.minus + times * q) =
    ap₂ (λ (x y : ℤ). x +ℤ y) h.is (ap (λ (z : ℤ). pos times *ℤ z) (difference p q) ∙ difference-mul times p q)
    ∙ difference-add h.plus h.minus (times * p) (times * q) in
    let plus = product p hp in
    let minus = product q hq in
    rw is (difference-fits (h.plus + times * p) (h.minus + times * q) (omega (arith, h.far.0, plus)) (omega (arith, h.far.1, minus)))
