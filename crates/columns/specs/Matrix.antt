-- The places of a net side by side. A matrix has a column for each place and a row for each of its numbers: m, in(i) for twelve events,
-- out(i) for twelve events. Beside it stands a list with the tokens of each place after given counts.
use Rattle.std.specs.Prelude.{◌≡◌, List, [], ℕ, ◌+◌, ◌*◌, ◌≤◌, ◌<◌, T, ℤ, pos, ◌+ℤ◌, ◌-ℤ◌, ◌*ℤ◌, length, get_or, replicate}
use Rattle.std.proofs.Math.IntN.{sub_ℕ}
use Rattle.std.specs.Int.Signed.{non_neg}
use Rattle.limits.specs.Limits.{max_events, max_places}
use Rattle.nets.specs.Nets.{Place, Counts, tokens as tokens_after}
use Rattle.places.specs.Machine.{Held}
use Rattle.bundles.specs.NextPlace.{place_in}
use Rattle.columns.specs.declared.Matrix.{Matrix}

-- ---- The matrix

-- its columns
abbrev pub matrix_width : ℕ
matrix_width = max_places

-- so many columns are taken at a time
abbrev pub block_width : ℕ
block_width = 8

-- the matrix of zeros
abbrev pub clear_matrix : Matrix
clear_matrix = record {
  initial = replicate matrix_width 0;
  produced = replicate max_events (replicate matrix_width 0);
  consumed = replicate max_events (replicate matrix_width 0);
}

-- the number of column j in row e of a part of a matrix
abbrev pub number : List (List ℕ) → ℕ → ℕ → ℕ
number rows e j = get_or (get_or rows e []) j 0

-- the place of column j
abbrev pub column : Matrix → ℕ → Place
column m j = record { initial = get_or m.initial j 0; produced = λ e. number m.produced e j; consumed = λ e. number m.consumed e j }

-- two places have the same numbers for the events that a row counts
pub record SamePlace (p q : Place) : Type 0 where
  pub initial : p.initial ≡ q.initial
  pub produced : (e : ℕ) → e < max_events → p.produced e ≡ q.produced e
  pub consumed : (e : ℕ) → e < max_events → p.consumed e ≡ q.consumed e

-- ---- The tokens

-- so many as a place may hold, or lack
abbrev pub Moderate : ℕ → List ℤ → Type 0
Moderate count t = (j : ℕ) → j < count → Held (get_or t j (pos 0))

-- t has the tokens after the counts v of the first `count` columns
pub record Marking (count : ℕ) (m : Matrix) (t : List ℤ) (v : Counts) : Type 0 where
  pub tokens : (j : ℕ) → j < count → get_or t j (pos 0) ≡ tokens_after max_events (column m j) v

-- the tokens cover what a row takes: the surplus is 0 or more in each column
abbrev pub Covered : ℕ → List ℤ → List ℕ → Type 0
Covered count t row = (j : ℕ) → j < count → T (non_neg (get_or t j (pos 0) -ℤ pos (get_or row j 0)))

-- tokens of columns, to which differences of rows may be added
pub record Shiftable (t : List ℤ) : Type 0 where
  pub columns : length t ≤ matrix_width
  pub held : Moderate (length t) t

-- tokens t of column j, with `times` the row `plus` more and `times` the row `minus` less
abbrev pub shifted : List ℕ → List ℕ → ℕ → ℕ → ℤ → ℤ
shifted plus minus times j t = t +ℤ pos times *ℤ (pos (get_or plus j 0) -ℤ pos (get_or minus j 0))

-- the tokens t' of the first `count` columns, which were t
abbrev pub Shifted : ℕ → List ℕ → List ℕ → List ℤ → List ℤ → ℕ → Type 0
Shifted count plus minus t t' times = (j : ℕ) → j < count → get_or t' j (pos 0) ≡ shifted plus minus times j (get_or t j (pos 0))

-- the tokens t' of the first `count` columns, which were t, where the event that puts so many there and takes so many goes from x to y occurrences
abbrev pub Recounted : ℕ → List ℕ → List ℕ → List ℤ → List ℤ → ℕ → ℕ → Type 0
Recounted count produced consumed t t' x y = (j : ℕ) → j < count
    → get_or t' j (pos 0)
    ≡ get_or t j (pos 0) +ℤ sub_ℕ (y * get_or produced j 0 + x * get_or consumed j 0) (y * get_or consumed j 0 + x * get_or produced j 0)

-- the matrix m' is m but for column j
pub record Beside (m m' : Matrix) (j : ℕ) : Type 0 where
  pub initial : (k : ℕ) → (k ≡ j → ⊥) → get_or m'.initial k 0 ≡ get_or m.initial k 0
  pub produced : (e k : ℕ) → (k ≡ j → ⊥) → number m'.produced e k ≡ number m.produced e k
  pub consumed : (e k : ℕ) → (k ≡ j → ⊥) → number m'.consumed e k ≡ number m.consumed e k

-- the first `count` columns have such places
pub record Columns (place : ℕ → Place) (m : Matrix) (count : ℕ) : Type 0 where
  pub places : (j : ℕ) → j < count → SamePlace (column m j) (place j)

-- those of a bundle
abbrev pub Filled : List ℕ → Matrix → ℕ → Type 0
Filled b m count = Columns (place_in b) m count
