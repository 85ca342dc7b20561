-- A weighted sum taken by columns: the elements of a list as rows of one width, each under the one before it.
use Rattle.std.specs.Prelude.{◌≡◌, refl, List, [], ◌∷◌, ℕ, zero, suc, ◌+◌, ◌*◌, ◌≤◌, ◌<◌, length, take, drop, get_or, set, replicate}
use Rattle.std.proofs.Common.{sym, ap, ◌∙◌, not-suc-le-zero, le_of_suc-le-suc, zero-add, suc-add, mul-zero, mul-add, add-mul, suc-mul, add-one, arith, length-take, length-drop}
use Rattle.std.proofs.lemmas.List.{length-replicate}
use Rattle.laws.specs.Numbers.{Bytes, bytes_take, bytes_drop}
use Rattle.laws.specs.Parts.{get_d_padded}
use Rattle.laws.specs.Sums.{weighted, weighted-zeros}

-- ---- A list with another one added

-- each element of the second list is added to the element of the first list at its index
unfoldable pub added : List ℕ → List ℕ → List ℕ
added xs [] = xs
added [] (y ∷ ys) = []
added (x ∷ xs) (y ∷ ys) = (x + y) ∷ added xs ys

length-added : (xs ys : List ℕ) → length (added xs ys) ≡ length xs
unfolding added
length-added xs [] = refl
length-added [] (y ∷ ys) = refl
length-added (x ∷ xs) (y ∷ ys) = ap suc (length-added xs ys)

added_le : (xs ys : List ℕ) (i : ℕ) → get_or (added xs ys) i 0 ≤ get_or xs i 0 + get_or ys i 0
unfolding added
added_le xs [] i = omega arith
added_le [] (y ∷ ys) i = omega arith
added_le (x ∷ xs) (y ∷ ys) zero = omega arith
added_le (x ∷ xs) (y ∷ ys) (suc i) = added_le xs ys i

-- where only the elements before index j are added: the one at j is as it was
pub added-at : (xs ys l : List ℕ) (j : ℕ) → l ≡ added xs (take j ys) → get_or l j 0 ≡ get_or xs j 0
unfolding added
added-at xs ys l j is = ap (λ (m : List ℕ). get_or m j 0) is ∙ go xs ys j
  where
    go : (xs ys : List ℕ) (j : ℕ) → get_or (added xs (take j ys)) j 0 ≡ get_or xs j 0
    go xs ys zero = refl
    go xs [] (suc j) = refl
    go [] (y ∷ ys) (suc j) = refl
    go (x ∷ xs) (y ∷ ys) (suc j) = go xs ys j

-- and with the one at j added too, those before j + 1 are
pub added_next : (xs ys l : List ℕ) (j y : ℕ) → l ≡ added xs (take j ys) → j < length ys → y ≡ get_or ys j 0 → set l j (get_or l j 0 + y) ≡ added xs (take (j + 1) ys)
unfolding added
added_next xs ys l j y is h new = rw (added-at xs ys l j is, is, new, add-one j) (go xs ys j h)
  where
    go : (xs ys : List ℕ) (j : ℕ) → j < length ys → set (added xs (take j ys)) j (get_or xs j 0 + get_or ys j 0) ≡ added xs (take (suc j) ys)
    go xs [] j h = absurd (not-suc-le-zero h)
    go [] (y ∷ ys) zero h = refl
    go [] (y ∷ ys) (suc j) h = refl
    go (x ∷ xs) (y ∷ ys) zero h = refl
    go (x ∷ xs) (y ∷ ys) (suc j) h = ap (λ (l : List ℕ). (x + y) ∷ l) (go xs ys j (le_of_suc-le-suc h))

-- the sums are added
weighted-added : (f : ℕ → ℕ) (xs ys : List ℕ) → length ys ≤ length xs → weighted f (added xs ys) ≡ weighted f xs + weighted f ys
unfolding added weighted
weighted-added f xs [] h = omega arith
weighted-added f [] (y ∷ ys) h = absurd (not-suc-le-zero h)
weighted-added f (x ∷ xs) (y ∷ ys) h = omega (arith, mul-add (f 0) x y, weighted-added (λ (i : ℕ). f (suc i)) xs ys (le_of_suc-le-suc h))

-- ---- Rows added up

-- the sums of the columns of t rows
unfoldable pub columns_of : ℕ → ℕ → List ℕ → List ℕ
columns_of w zero l = replicate w 0
columns_of w (suc t) l = added (columns_of w t (drop w l)) (take w l)

-- the same with each element taken as often as rows stand before its row
unfoldable pub shifts_of : ℕ → ℕ → List ℕ → List ℕ
shifts_of w zero l = replicate w 0
shifts_of w (suc t) l = added (shifts_of w t (drop w l)) (columns_of w t (drop w l))

pub length-columns : (w t : ℕ) (l : List ℕ) → length (columns_of w t l) ≡ w
unfolding columns_of
length-columns w zero l = length-replicate w 0
length-columns w (suc t) l = length-added (columns_of w t (drop w l)) (take w l) ∙ length-columns w t (drop w l)

pub length_shifts : (w t : ℕ) (l : List ℕ) → length (shifts_of w t l) ≡ w
unfolding shifts_of
length_shifts w zero l = length-replicate w 0
length_shifts w (suc t) l = length-added (shifts_of w t (drop w l)) (columns_of w t (drop w l)) ∙ length_shifts w t (drop w l)

-- each row of bytes adds at most 255 to a column
pub columns_le : (w t : ℕ) (l : List ℕ) → Bytes l → (i : ℕ) → get_or (columns_of w t l) i 0 ≤ 255 * t
unfolding columns_of
columns_le w zero l h i = omega (arith, get_d_padded {A = ℕ} [] w i 0)
columns_le w (suc t) l h i =
    omega (arith, added_le (columns_of w t (drop w l)) (take w l) i, columns_le w t (drop w l) (bytes_drop w l h) i, bytes_take w l h i)

-- and the columns of at most n rows to the shifts
pub shifts_le : (w t n : ℕ) (l : List ℕ) → Bytes l → t ≤ n → (i : ℕ) → get_or (shifts_of w t l) i 0 ≤ t * (255 * n)
unfolding shifts_of
shifts_le w zero n l h few i = omega (arith, get_d_padded {A = ℕ} [] w i 0)
shifts_le w (suc t) n l h few i =
    let rest = drop w l in
    let small = bytes_drop w l h in
    omega (arith, added_le (shifts_of w t rest) (columns_of w t rest) i, columns_le w t rest small i, shifts_le w t n rest small (omega arith) i, suc-mul t (255 * n))

-- ---- The sums

-- a weight that is d more everywhere
weighted_raised : (f g : ℕ → ℕ) (d : ℕ) → ((i : ℕ) → f i ≡ g i + d) → (l : List ℕ) → weighted f l ≡ weighted g l + d * weighted (λ i. 1) l
unfolding weighted
weighted_raised f g d h [] = omega (arith, mul-zero d)
weighted_raised f g d h (x ∷ l) =
    let more = weighted (λ i. 1) l in
    let first : f 0 * x ≡ g 0 * x + d * x = ap (λ (n : ℕ). n * x) (h 0) ∙ add-mul (g 0) d x in
    omega (arith, first, mul-add d x more, weighted_raised (λ (i : ℕ). f (suc i)) (λ (i : ℕ). g (suc i)) d (λ i. h (suc i)) l)

-- the first row and the rest, where the weight grows by d from row to row
weighted-row : (f g : ℕ → ℕ) (w d : ℕ) → ((i : ℕ) → f (w + i) ≡ g i + d) → (l : List ℕ)
    → weighted f l ≡ weighted f (take w l) + (weighted g (drop w l) + d * weighted (λ i. 1) (drop w l))
unfolding weighted
weighted-row f g zero d h l = omega (arith, weighted_raised f g d (λ i. ap f (sym (zero-add i)) ∙ h i) l)
weighted-row f g (suc w) d h [] = omega (arith, mul-zero d)
weighted-row f g (suc w) d h (x ∷ l) = omega (arith, weighted-row (λ (i : ℕ). f (suc i)) g w d (λ i. ap f (sym (suc-add w i)) ∙ h i) l)

-- where the weight grows by d from row to row: the columns with the weights of the first row, and d times the shifts
pub weighted-columns : (w : ℕ) (f : ℕ → ℕ) (d : ℕ) → ((i : ℕ) → f (w + i) ≡ f i + d) → (t : ℕ) (l : List ℕ) → length l ≤ t * w
    → weighted f l ≡ weighted f (columns_of w t l) + d * weighted (λ i. 1) (shifts_of w t l)
unfolding columns_of shifts_of weighted
weighted-columns w f d grows zero [] h = omega (arith, weighted-zeros f w, ap (λ (n : ℕ). d * n) (weighted-zeros (λ (i : ℕ). 1) w), mul-zero d)
weighted-columns w f d grows zero (x ∷ l) h = absurd (omega arith)
weighted-columns w f d grows (suc t) l h =
    let rest = drop w l in
    let fewer : length rest ≤ t * w = omega (arith, length-drop w l, suc-mul t w) in
    let columns = columns_of w t rest in
    let shifts = shifts_of w t rest in
    let one : ℕ → ℕ = λ i. 1 in
    omega (
      arith,
      weighted-row f f w d grows l,
      weighted-columns w f d grows t rest fewer,
      ap (λ (n : ℕ). d * n) (weighted-columns w one 0 (λ i. refl) t rest fewer),
      weighted-added f columns (take w l) (omega (arith, length-columns w t rest, length-take w l)),
      ap (λ (n : ℕ). d * n) (weighted-added one shifts columns (omega (arith, length-columns w t rest, length_shifts w t rest))),
      mul-add d (weighted one shifts) (weighted one columns),
    )
