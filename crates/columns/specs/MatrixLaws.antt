-- The steps of the code that tests places side by side, as laws of the definitions in Matrix.
use Rattle.std.specs.Prelude.{◌≡◌, refl, true, List, [], ◌∷◌, ◌++◌, zero, suc, T, ℤ, pos, ◌+ℤ◌, ◌-ℤ◌, ◌*ℤ◌, length, get_or, take, drop}
use Rattle.std.proofs.Common.{sym, ◌∙◌, subst, add-one, add-mul, mul_comm, arith, length-set, length-take-le, get_or-set_same, get_or-set_other, get_or-take, get_or-drop}
use Rattle.std.proofs.Math.ListN.{get_or-append}
use Rattle.std.proofs.Math.Path.{ap, ap₂}
use Prim.Native.Nat.{ℕ, ◌+◌, ◌*◌, ◌≤◌, ◌<◌}
use Rattle.std.proofs.Math.IntN.{sub_ℕ, +ℤ_idr}
use Rattle.std.proofs.Math.ListN.{set}
use Rattle.std.proofs.lemmas.List.{get_or-replicate}
use Rattle.std.specs.Int.Signed.{non_neg}
use Rattle.laws.specs.Booleans.{yes_true, implied, implies}
use Rattle.laws.specs.Bits.{bit}
use Rattle.laws.specs.Differences.{difference, difference-add, difference-mul, difference-same}
use Rattle.laws.specs.Lists.{all-member, all_intro, tabulate, tabulate_inverse, each_next}
use Rattle.laws.specs.Sums.{sum, sum_same, weighted-sum, weighted-set}
use Rattle.limits.specs.Limits.{max_events}
use Rattle.nets.specs.Nets.{Place, Step, Counts, at, tokens, surplus, place_permits}
use Rattle.nets.specs.Surplus.{given, taken, tokens-is, tokens-row, permits→le, le→permits, tokens-zeros}
use Rattle.rows.specs.Rows.{row_size, Row, none, row_at}
use Rattle.places.specs.Machine.{place_of, place_at}
use Rattle.places.specs.declared.Place as Declared
use Rattle.bundles.specs.HeadReading.{HeadAt}
use Rattle.bundles.specs.Keeping.{kept, PlacesOf}
use Rattle.bundles.specs.NextPlace.{place_same}
use Rattle.bundles.specs.declared.net.Net.{Net}
use Rattle.columns.specs.declared.Matrix.{Matrix}
use Rattle.columns.specs.RowFits.{row_fits, fits_rows}
use Rattle.columns.specs.Matrix.{number, column, SamePlace, Marking, Covered, shifted, Shifted, Recounted, Beside, Columns, Filled}

-- ---- The tokens

-- a sum over counts, of which one becomes y
module _ (v : Counts) (i y : ℕ) (few : length v ≡ max_events) (h : i < max_events) where
  terms : (w : ℕ → ℕ) (u : Counts) → length u ≡ max_events → sum max_events (λ k. at u k * w k) ≡ sum (length u) (λ k. w k * get_or u k 0)
  terms w u size = sum_same max_events _ _ (λ k b. mul_comm (at u k) (w k)) ∙ ap (λ (n : ℕ). sum n (λ k. w k * get_or u k 0)) (sym size)

  sum_set : (w : ℕ → ℕ) → sum max_events (λ k. at (set v i y) k * w k) + at v i * w i ≡ sum max_events (λ k. at v k * w k) + y * w i
  sum_set w =
      omega (
        arith,
        terms w v few,
        terms w (set v i y) (length-set v i y ∙ few),
        weighted-sum w v,
        weighted-sum w (set v i y),
        weighted-set w v i y (omega arith),
        mul_comm (at v i) (w i),
        mul_comm y (w i),
      )

  -- the tokens of a place after them
  pub counted : (p : Place) → tokens max_events p (set v i y)
      ≡ tokens max_events p v +ℤ sub_ℕ (y * p.produced i + at v i * p.consumed i) (y * p.consumed i + at v i * p.produced i)
  unfolding given taken
  counted p =
      let more = y * p.produced i + at v i * p.consumed i in
      let less = y * p.consumed i + at v i * p.produced i in
      tokens-is max_events p (set v i y)
      ∙ difference-same (given max_events p (set v i y)) (taken max_events p (set v i y)) (given max_events p v + more)
      (taken max_events p v + less) (omega (arith, sum_set p.produced, sum_set p.consumed))
      ∙ sym (difference-add (given max_events p v) (taken max_events p v) more less)
      ∙ sym (ap (λ (z : ℤ). z +ℤ sub_ℕ more less) (tokens-is max_events p v))

  -- so the tokens of the columns go on to them
  pub marking_next : {count : ℕ} {m : Matrix} {t t' : List ℤ} → Marking count m t v
      → Recounted count (get_or m.produced i []) (get_or m.consumed i []) t t' (at v i) y → Marking count m t' (set v i y)
  marking_next {count} {m} {t} h new = record {
    tokens = λ j b.
        let p = column m j in
        let more = y * p.produced i + at v i * p.consumed i in
        let less = y * p.consumed i + at v i * p.produced i in
        new j b ∙ ap (λ (z : ℤ). z +ℤ sub_ℕ more less) (h.tokens j b) ∙ sym (counted p);
  }

-- counts of which those below i + 1 are new, and not only those below i
pub counts_next : (u v : Counts) (i : ℕ) → length u ≡ length v → i < length v
    → set (take i v ++ drop i u) i (get_or v i 0) ≡ take (i + 1) v ++ drop (i + 1) u
counts_next u v i size h = rw (add-one i) (go u v i size h)
  where
    go : (u v : Counts) (i : ℕ) → length u ≡ length v → i < length v
        → set (take i v ++ drop i u) i (get_or v i 0) ≡ take (suc i) v ++ drop (suc i) u
    go u [] i size h = absurd (omega arith)
    go [] (y ∷ v) i size h = absurd (omega arith)
    go (x ∷ u) (y ∷ v) zero size h = refl
    go (x ∷ u) (y ∷ v) (suc i) size h = ap (λ (l : Counts). y ∷ l) (go u v i (omega arith) (omega arith))

-- at first the initial tokens
pub marking_start : {count : ℕ} {m : Matrix} {t : List ℤ} → ((j : ℕ) → j < count → get_or t j (pos 0) ≡ pos (get_or m.initial j 0))
    → Marking count m t none
marking_start {count} {m} {t} h = record {
  tokens = λ j b. h j b ∙ sym (tokens-zeros max_events (column m j) none (λ i k. get_or-replicate max_events i 0 0 k));
}

-- only the counts below twelve matter
pub marking_row : {count : ℕ} {m : Matrix} {t : List ℤ} {u v : Counts} → ((i : ℕ) → i < max_events → at u i ≡ at v i)
    → Marking count m t u → Marking count m t v
marking_row {m = m} {u = u} {v = v} h marking = record { tokens = λ j b. marking.tokens j b ∙ tokens-row max_events (column m j) u v h }

-- where these are the tokens, a surplus of 0 or more permits the event
tokens→permits : (p : Place) (v : Counts) (e : ℕ) {t : ℤ} → t ≡ tokens max_events p v → T (non_neg (t -ℤ pos (p.consumed e)))
    → T (place_permits max_events p (record { row = v; event = e }))
unfolding place_permits surplus
tokens→permits p v e is h = subst (λ (z : ℤ). T (non_neg (z -ℤ pos (p.consumed e)))) is h

-- a row whose events' tokens are covered fits each column
pub row-covered : {count : ℕ} {m : Matrix} {t : List ℤ} (r : Row) → Marking count m t r.counts
    → ((e : ℕ) → e < max_events → T (bit r.mask e) → Covered count t (get_or m.consumed e []))
    → (j : ℕ) → j < count → row_fits (column m j) r ≡ true
unfolding row_fits
row-covered {count} {m} {t} r marking covered j b = yes_true _ (all_intro _ (tabulate max_events (λ e. e)) (λ e k.
    let i = tabulate_inverse max_events (λ e. e) k in
    let h : e < max_events = omega (arith, i.1, i.2) in
    implies (bit r.mask e) (place_permits max_events (column m j) (record { row = r.counts; event = e })) (λ set.
    tokens→permits (column m j) r.counts e (marking.tokens j b) (covered e h set j b))))

-- the same of row i of a table
pub table_row-covered : {count : ℕ} {m : Matrix} {t : List ℤ} {v : Counts} (table : List ℕ) (i : ℕ)
    → Marking count m t v → v ≡ (row_at (drop (row_size * i) table)).counts
    → ((e : ℕ) → e < max_events → T (bit (get_or table (row_size * i + max_events) 0) e) → Covered count t (get_or m.consumed e []))
    → (j : ℕ) → j < count → row_fits (column m j) (row_at (drop (row_size * i) table)) ≡ true
unfolding row_at
table_row-covered {count} {m} {t} table i marking is covered =
    let l = drop (row_size * i) table in
    row-covered (row_at l) (subst (Marking count m t) is marking)
    (λ e h set. covered e h (subst (λ (x : ℕ). T (bit x e)) (get_or-drop (row_size * i) table max_events 0) set))

-- tokens at the front of a list, of which the first are shifted
pub shifted_front : (count times : ℕ) (plus minus : List ℕ) (t front rest : List ℤ) → length front ≡ count
    → Shifted count plus minus (take count t) front times → Shifted count plus minus t (front ++ rest) times
shifted_front count times plus minus t front rest size h j b =
    get_or-append front rest (pos 0) j (omega arith) ∙ h j b ∙ ap (shifted plus minus times j) (get_or-take count t j (pos 0) b)

-- a count that goes from x to x + d, one that goes back, and one that stays
module _ (count : ℕ) (produced consumed : List ℕ) (t : List ℤ) where
  module _ (t' : List ℤ) (x d y : ℕ) (is : x + d ≡ y) where
    products : (f : ℕ) → x * f + d * f ≡ y * f
    products f = sym (add-mul x d f) ∙ ap (λ (n : ℕ). n * f) is

    -- d times a difference
    change : (p q plus minus : ℕ) → d * p + minus ≡ plus + d * q → pos d *ℤ (pos p -ℤ pos q) ≡ sub_ℕ plus minus
    change p q plus minus e = ap (λ (z : ℤ). pos d *ℤ z) (difference p q) ∙ difference-mul d p q ∙ difference-same (d * p) (d * q) plus minus e

    pub recounted : Shifted count produced consumed t t' d → Recounted count produced consumed t t' x y
    recounted h j b =
        let p = get_or produced j 0 in
        let q = get_or consumed j 0 in
        h j b ∙ ap (λ (z : ℤ). get_or t j (pos 0) +ℤ z) (change p q (y * p + x * q) (y * q + x * p) (omega (arith, products p, products q)))

    pub recounted-back : Shifted count consumed produced t t' d → Recounted count produced consumed t t' y x
    recounted-back h j b =
        let p = get_or produced j 0 in
        let q = get_or consumed j 0 in
        h j b ∙ ap (λ (z : ℤ). get_or t j (pos 0) +ℤ z) (change q p (x * p + y * q) (x * q + y * p) (omega (arith, products p, products q)))

  pub recounted-same : (x y : ℕ) → y ≡ x → Recounted count produced consumed t t x y
  recounted-same x y e j b =
      let p = get_or produced j 0 in
      let q = get_or consumed j 0 in
      let none = difference-same (x * p + x * q) (x * q + x * p) 0 0 (omega arith) in
      rw e (sym (ap (λ (z : ℤ). get_or t j (pos 0) +ℤ z) none ∙ +ℤ_idr (get_or t j (pos 0))))

-- ---- Places with the same numbers

module _ {p q : Place} (s : SamePlace p q) where
  same-given : (v : Counts) → given max_events p v ≡ given max_events q v
  unfolding given
  same-given v = ap₂ ◌+◌ s.initial (sum_same max_events _ _ (λ i b. ap (λ (n : ℕ). at v i * n) (s.produced i b)))

  same_taken : (v : Counts) → taken max_events p v ≡ taken max_events q v
  unfolding taken
  same_taken v = sum_same max_events _ _ (λ i b. ap (λ (n : ℕ). at v i * n) (s.consumed i b))

  same_row : (r : Row) → T (row_fits p r) → T (row_fits q r)
  unfolding row_fits
  same_row r t = all_intro _ (tabulate max_events (λ e. e)) (λ e k.
      let i = tabulate_inverse max_events (λ e. e) k in
      let h : e < max_events = omega (arith, i.1, i.2) in
      let step : Step = record { row = r.counts; event = e } in
      implies (bit r.mask e) (place_permits max_events q step) (λ set.
      let permitted = implied (bit r.mask e) (place_permits max_events p step) (all-member _ (tabulate max_events (λ e. e)) t k) set in
      le→permits max_events q step (omega (arith, permits→le max_events p step permitted, same-given r.counts, same_taken r.counts, s.consumed e h))))

  pub same-fits : (rs : List Row) → fits_rows p rs ≡ true → fits_rows q rs ≡ true
  unfolding fits_rows
  same-fits rs e = yes_true _ (all_intro (row_fits q) rs (λ r k. same_row r (all-member (row_fits p) rs (rw e tt) k)))

-- ---- A place written into a column

-- the matrix m is m₀ with the initial tokens of the place p, and what it has for the events below e, in column j
pub record Storing (m₀ m : Matrix) (j : ℕ) (p : Place) (e : ℕ) : Type 0 where
  pub initial : get_or m.initial j 0 ≡ p.initial
  pub produced : (i : ℕ) → i < e → number m.produced i j ≡ p.produced i
  pub consumed : (i : ℕ) → i < e → number m.consumed i j ≡ p.consumed i
  pub beside : Beside m₀ m j

-- rows with a number written into column j of row e
module _ (rows : List (List ℕ)) (e j x : ℕ) where
  abbrev written : List (List ℕ)
  written = set rows e (set (get_or rows e []) j x)

  number-here : e < length rows → j < length (get_or rows e []) → number written e j ≡ x
  number-here h b =
      ap (λ (row : List ℕ). get_or row j 0) (get_or-set_same rows e (set (get_or rows e []) j x) [] h)
      ∙ get_or-set_same (get_or rows e []) j x 0 b

  number-there : (i : ℕ) → (i ≡ e → ⊥) → number written i j ≡ number rows i j
  number-there i ne = ap (λ (row : List ℕ). get_or row j 0) (get_or-set_other rows e i (set (get_or rows e []) j x) [] ne)

number-beside : (rows : List (List ℕ)) (e j x i k : ℕ) → (k ≡ j → ⊥) → number (written rows e j x) i k ≡ number rows i k
number-beside [] e j x i k ne = refl
number-beside (row ∷ rows) zero j x zero k ne = get_or-set_other row j k x 0 ne
number-beside (row ∷ rows) zero j x (suc i) k ne = refl
number-beside (row ∷ rows) (suc e) j x zero k ne = refl
number-beside (row ∷ rows) (suc e) j x (suc i) k ne = number-beside rows e j x i k ne

-- a matrix with what a place has for event e in column j
abbrev storing : ℕ → Place → Matrix → ℕ → Matrix
storing j p m e = record {
  initial = m.initial;
  produced = written m.produced e j (p.produced e);
  consumed = written m.consumed e j (p.consumed e);
}

module _ {m₀ : Matrix} {j : ℕ} {p : Place} where
  pub storing_start : j < length m₀.initial
      → Storing m₀ (record { initial = set m₀.initial j p.initial; produced = m₀.produced; consumed = m₀.consumed }) j p 0
  storing_start h = record {
    initial = get_or-set_same m₀.initial j p.initial 0 h;
    produced = λ i b. absurd (omega arith);
    consumed = λ i b. absurd (omega arith);
    beside = record {
      initial = λ k ne. get_or-set_other m₀.initial j k p.initial 0 ne;
      produced = λ i k ne. refl;
      consumed = λ i k ne. refl;
    };
  }

  pub storing_next : {m : Matrix} {e : ℕ} → e < length m.produced → j < length (get_or m.produced e [])
      → e < length m.consumed → j < length (get_or m.consumed e []) → Storing m₀ m j p e → Storing m₀ (storing j p m e) j p (e + 1)
  storing_next {m} {e} h₁ b₁ h₂ b₂ s =
      let x = p.produced e in
      let y = p.consumed e in
      record {
        initial = s.initial;
        produced = each_next (λ (i : ℕ). number (written m.produced e j x) i j ≡ p.produced i) e
            (λ i l. number-there m.produced e j x i (λ q. omega arith) ∙ s.produced i l)
            (number-here m.produced e j x h₁ b₁);
        consumed = each_next (λ (i : ℕ). number (written m.consumed e j y) i j ≡ p.consumed i) e
            (λ i l. number-there m.consumed e j y i (λ q. omega arith) ∙ s.consumed i l)
            (number-here m.consumed e j y h₂ b₂);
        beside = record {
          initial = s.beside.initial;
          produced = λ i k ne. number-beside m.produced e j x i k ne ∙ s.beside.produced i k ne;
          consumed = λ i k ne. number-beside m.consumed e j y i k ne ∙ s.beside.consumed i k ne;
        };
      }

  pub stored : {m : Matrix} {e : ℕ} → max_events ≤ e → Storing m₀ m j p e → SamePlace (column m j) p × Beside m₀ m j
  stored h s = (record { initial = s.initial; produced = λ i b. s.produced i (omega arith); consumed = λ i b. s.consumed i (omega arith) }, s.beside)

-- ---- The places of a bundle written into the columns

-- one column more, the others untouched
pub written_next : {place : ℕ → Place} {m m' : Matrix} {j : ℕ} → Columns place m j → Beside m m' j → SamePlace (column m' j) (place j) → Columns place m' (j + 1)
written_next {place} {m} {m'} {j} below beside here = record {
  places = each_next (λ (i : ℕ). SamePlace (column m' i) (place i)) j
      (λ i l.
      let there = below.places i l in
      let other : i ≡ j → ⊥ = λ e. omega arith in
      record {
        initial = beside.initial i other ∙ there.initial;
        produced = λ e k. beside.produced e i other ∙ there.produced e k;
        consumed = λ e k. beside.consumed e i other ∙ there.consumed e k;
      })
      here;
}

-- places by number
abbrev pub numbered : List Declared.Place → ℕ → Place
numbered places j = place_of (place_at places j)

-- those of a net that was read are the bundle's
pub filled : {net : Net} {places : List Declared.Place} {m : Matrix} → HeadAt (kept net) → PlacesOf net places
    → Columns (numbered (take net.count places)) m (length (take net.count places)) → Filled net.bundle.now m net.count
filled {net} {places} {m} found read written =
    let size = length-take-le net.count places read.room in
    record {
      places = λ j h. subst (SamePlace (column m j)) (place_same found j h (get_or-take net.count places j _ h ∙ read.each j h)) (written.places j (omega (arith, h, size)));
    }
