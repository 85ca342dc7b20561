-- The weights of a certificate are read in two steps: k and the terms, then the pairs; and where their fields stand.
use Rattle.std.specs.Prelude.{◌≡◌, Bool, ◌⊎◌, length}
use Rattle.std.proofs.Math.Path.{refl, ap, subst}
use Rattle.std.proofs.Common.{sym, ◌∙◌}
use Rattle.std.proofs.Math.Bool.{true, false}
use Rattle.std.proofs.Math.Logic.{inl, inr, ⊎_elim}
use mathlib.Core.List.{List, [], ◌∷◌, ◌++◌}
use Prim.Native.Nat.{ℕ, suc, ◌+◌, ◌*◌, ◌≤◌, ◌<◌}
use Rattle.std.proofs.Math.Nat.{mul-zero, mul-suc}
use native.Mathlib.Omega.{arith}
use Rattle.std.proofs.Math.Dec.{leb, ltb}
use Rattle.std.proofs.Math.ListN.{get_or}
use Rattle.std.proofs.lemmas.List.{length-replicate}
use Rattle.laws.specs.Booleans.{impossible}
use Rattle.limits.specs.Limits.{max_terms, max_pairs}
use Rattle.refusals.specs.Table.{bundle_end_number}
use Rattle.refusals.specs.Results.{value, refused, bind}
use Rattle.bundles.specs.Reading.{Read, got, item, Reader, onward, and_then, ◌>>=◌, give, byte, number, each, times}
use Rattle.bundles.specs.Layout.{TermFields, WeightFields, CertificateFields, kind1, Head, rows_in}
use Rattle.bundles.specs.Readers.{anything, term, pair, pairs, weights}
use Rattle.bundles.specs.TermReading.{made_term, behind_event, behind_row, behind_word}
use Rattle.bundles.specs.ReadingLaws.{and_then-got, field-got}
use Rattle.bundles.specs.Causes.{and_then-refused, field-refused}
use Rattle.beginnings.specs.Local.{Local, local_give, local_then, local_times, local_byte, local_number}
use Rattle.beginnings.specs.Locals.{OneOrTwo, local_term}
use Rattle.beginnings.specs.HeadOffsets.{byte-got, byte-missing}

number-got : (b : List ℕ) (in_range : ℕ → Bool) (at x next : ℕ) → number in_range b at ≡ got x next → next ≡ at + 2
unfolding number
number-got b in_range at x next e = (field-got b 2 _ in_range at x next e).3

number-missing : (b : List ℕ) (in_range : ℕ → Bool) (at k spot : ℕ) → number in_range b at ≡ refused k spot → spot ≡ at
unfolding number
number-missing b in_range at k spot e = ((field-refused 2 _ in_range b at k spot).0 e).0

-- ---- so many items that take `size` bytes each

record Takes {A : Type 0} (r : Reader A) (size : ℕ) (b : List ℕ) : Type 0 where
  step : (at : ℕ) (x : A) (next : ℕ) → r b at ≡ got x next → next ≡ at + size

module _ {A : Type 0} {r : Reader A} {size : ℕ} {b : List ℕ} (takes : Takes r size b) where
  each-end : {S : Type 0} (ss : List S) (before : List A) (at : ℕ) (xs : List A) (next : ℕ) → each (λ s before. r) ss before b at ≡ got xs next
      → next ≡ at + size * length ss
  unfolding each
  each-end [] before at xs next e = let end : at ≡ next = cc in omega (arith, end, mul-zero size)
  each-end (s ∷ ss) before at xs next e =
      let (x, mid, is, rest) = and_then-got b (r b at) (λ (x : A). each (λ s before. r) ss (before ++ x ∷ [])) xs next e in
      omega (arith, takes.step at x mid is, each-end ss (before ++ x ∷ []) mid xs next rest, mul-suc size (length ss))

  times-end : (k at : ℕ) (xs : List A) (next : ℕ) → times k r b at ≡ got xs next → next ≡ at + size * k
  times-end k at xs next e = each-end _ [] at xs next e ∙ ap (λ (n : ℕ). at + size * n) (length-replicate k (tt {0}))

  -- one of them is refused
  module _ (In : ℕ → ℕ → Type 0) (stop : (at spot : ℕ) → r b at ≡ refused bundle_end_number spot → In at spot) where
    each-stop : {S : Type 0} (ss : List S) (before : List A) (at spot : ℕ) → each (λ s before. r) ss before b at ≡ refused bundle_end_number spot
        → (t : ℕ) × (t < length ss) × In (at + size * t) spot
    unfolding each bind onward
    each-stop [] before at spot e = impossible cc
    each-stop (s ∷ ss) before at spot e = ⊎_elim
        (λ q. (0, omega arith, later at (at + size * 0) (omega (arith, mul-zero size)) (stop at spot q)))
        (λ (x, mid, is, q). let (t, less, in-it) = each-stop ss (before ++ x ∷ []) mid spot q in
        (suc t, omega (arith, less), later (mid + size * t) (at + size * suc t) (omega (arith, takes.step at x mid is, mul-suc size t)) in-it))
        ((and_then-refused b (r b at) (λ (x : A). each (λ s before. r) ss (before ++ x ∷ [])) bundle_end_number spot).0 e)
      where
        later : (i j : ℕ) → i ≡ j → In i spot → In j spot
        later i j same = subst (λ (k : ℕ). In k spot) same

    times-stop : (k at spot : ℕ) → times k r b at ≡ refused bundle_end_number spot → (t : ℕ) × (t < k) × In (at + size * t) spot
    times-stop k at spot e =
        let (t, less, in-it) = each-stop _ [] at spot e in
        (t, subst (λ (n : ℕ). t < n) (length-replicate k (tt {0})) less, in-it)

-- ---- the two steps

module _ (h : Head) where
  -- up to the pairs
  unfoldable pub termed : Reader WeightFields
  termed = do
    k ← number (leb 1)
    count ← byte (λ c. leb c max_terms)
    ts ← times count (term h.events (length (rows_in h)))
    give (record { k = k; terms = ts; pairs = [] })

  -- the pairs
  unfoldable pub paired : WeightFields → Reader CertificateFields
  paired w = do
    qs ← pairs h.is_new (length h.entries)
    give (kind1 (record { k = w.k; terms = w.terms; pairs = qs }))

  pub weights-steps : (b : List ℕ) (at : ℕ) → weights h b at ≡ (termed >>= paired) b at
  unfolding weights termed paired bind onward
  weights-steps b at = first (number (leb 1) b at)
    where
      third : (k : ℕ) (m : Read (List TermFields))
          → and_then m (λ ts. pairs h.is_new (length h.entries) >>= λ qs. give (kind1 (record { k = k; terms = ts; pairs = qs }))) b
          ≡ and_then (and_then m (λ ts. give (record { k = k; terms = ts; pairs = [] })) b) paired b
      third k (value (item ts next)) = refl
      third k (refused number spot) = refl

      second : (k : ℕ) (m : Read ℕ)
          → and_then m (λ count. times count (term h.events (length (rows_in h)))
          >>= λ ts. pairs h.is_new (length h.entries) >>= λ qs. give (kind1 (record { k = k; terms = ts; pairs = qs }))) b
          ≡ and_then (and_then m (λ count. times count (term h.events (length (rows_in h)))
          >>= λ ts. give (record { k = k; terms = ts; pairs = [] })) b) paired b
      second k (value (item count next)) = third k (times count (term h.events (length (rows_in h))) b next)
      second k (refused number spot) = refl

      first : (m : Read ℕ) → and_then m (λ k. byte (λ c. leb c max_terms) >>= λ count. times count (term h.events (length (rows_in h)))
          >>= λ ts. pairs h.is_new (length h.entries) >>= λ qs. give (kind1 (record { k = k; terms = ts; pairs = qs }))) b
          ≡ and_then (and_then m (λ k. byte (λ c. leb c max_terms) >>= λ count. times count (term h.events (length (rows_in h)))
          >>= λ ts. give (record { k = k; terms = ts; pairs = [] })) b) paired b
      first (value (item k next)) = second k (byte (λ c. leb c max_terms) b next)
      first (refused number spot) = refl

  pub local_termed : Local OneOrTwo termed
  unfolding termed
  local_termed = local_then (local_number _ (inl (inr refl)))
      (λ k. local_then (local_byte (inl refl) _) (λ count. local_then (local_times (local_term h) count) (λ ts. local_give _)))

  -- ---- where their fields stand

  module _ (b : List ℕ) where
    -- a term at an offset: row, event or weight
    abbrev pub InTerm : ℕ → ℕ → Type 0
    InTerm at spot = (spot ≡ at) ⊎ (((spot ≡ at + 2) × (length b ≤ spot)) ⊎ (spot ≡ at + 3))

    -- a pair: word or weight
    abbrev pub InPair : ℕ → ℕ → Type 0
    InPair at spot = ((spot ≡ at) × (length b ≤ spot)) ⊎ (spot ≡ at + 1)

    term-takes : Takes (term h.events (length (rows_in h))) 5 b
    unfolding term bind onward
    term-takes = record {
      step = λ at x next e.
          let (row, m1, is1, e1) = and_then-got b (number (λ r. ltb r (length (rows_in h))) b at) (behind_row h.events) x next e in
          let (event, m2, is2, e2) = and_then-got b (byte (λ e. ltb e h.events) b m1) (behind_event row) x next e1 in
          let (weight, m3, is3, e3) = and_then-got b (number anything b m2) (made_term row event) x next e2 in
          let end : m3 ≡ next = cc (e3) in
          omega (arith, number-got b _ at row m1 is1, (byte-got b _ m1 event m2 is2).1, number-got b _ m2 weight m3 is3, end);
    }

    term-ends : (at spot : ℕ) → term h.events (length (rows_in h)) b at ≡ refused bundle_end_number spot → InTerm at spot
    unfolding term bind onward
    term-ends at spot e = ⊎_elim
        (λ q. inl (number-missing b _ at bundle_end_number spot q))
        (λ (row, m1, is1, e1). let s1 = number-got b _ at row m1 is1 in ⊎_elim
        (λ q. let m = byte-missing b _ m1 spot q in inr (inl (omega (arith, s1, m.0), omega (arith, m.0, m.1))))
        (λ (event, m2, is2, e2). let s2 = (byte-got b _ m1 event m2 is2).1 in ⊎_elim
        (λ q. inr (inr (omega (arith, s1, s2, number-missing b _ m2 bundle_end_number spot q))))
        (λ (weight, m3, is3, never). impossible cc)
        ((and_then-refused b (number anything b m2) (made_term row event) bundle_end_number spot).0 e2))
        ((and_then-refused b (byte (λ e. ltb e h.events) b m1) (behind_event row) bundle_end_number spot).0 e1))
        ((and_then-refused b (number (λ r. ltb r (length (rows_in h))) b at) (behind_row h.events) bundle_end_number spot).0 e)

    pair-takes : Takes (pair (length h.entries)) 3 b
    unfolding pair bind onward
    pair-takes = record {
      step = λ at x next e.
          let (word, m1, is1, e1) = and_then-got b (byte (λ w. ltb w (length h.entries)) b at) behind_word x next e in
          let (weight, m2, is2, e2) = and_then-got b (number anything b m1) (λ weight. give (record { word = word; weight = weight })) x next e1 in
          let end : m2 ≡ next = cc (e2) in
          omega (arith, (byte-got b _ at word m1 is1).1, number-got b _ m1 weight m2 is2, end);
    }

    pair-ends : (at spot : ℕ) → pair (length h.entries) b at ≡ refused bundle_end_number spot → InPair at spot
    unfolding pair bind onward
    pair-ends at spot e = ⊎_elim
        (λ q. let m = byte-missing b _ at spot q in inl (m.0, omega (arith, m.0, m.1)))
        (λ (word, m1, is1, e1). let s1 = (byte-got b _ at word m1 is1).1 in ⊎_elim
        (λ q. inr (omega (arith, s1, number-missing b _ m1 bundle_end_number spot q)))
        (λ (weight, m2, is2, never). impossible cc)
        ((and_then-refused b (number anything b m1) (λ weight. give (record { word = word; weight = weight })) bundle_end_number spot).0 e1))
        ((and_then-refused b (byte (λ w. ltb w (length h.entries)) b at) behind_word bundle_end_number spot).0 e)

    -- what is read behind the terms, behind their count and behind k
    terms_of : ℕ → List TermFields → Reader WeightFields
    terms_of k ts = give (record { k = k; terms = ts; pairs = [] })

    behind_count : ℕ → ℕ → Reader WeightFields
    behind_count k count = times count (term h.events (length (rows_in h))) >>= terms_of k

    behind_k : ℕ → Reader WeightFields
    behind_k k = byte (λ c. leb c max_terms) >>= behind_count k

    -- the pairs begin behind k, the term count and five bytes for each term
    pub termed-got : (at : ℕ) (w : WeightFields) (next : ℕ) → termed b at ≡ got w next → next ≡ at + 3 + 5 * get_or b (at + 2) 0
    unfolding termed bind onward behind_k behind_count terms_of
    termed-got at w next e =
        let (k, m1, is1, e1) = and_then-got b (number (leb 1) b at) behind_k w next e in
        let (count, m2, is2, e2) = and_then-got b (byte (λ c. leb c max_terms) b m1) (behind_count k) w next e1 in
        let (ts, m3, is3, e3) = and_then-got b (times count (term h.events (length (rows_in h))) b m2) (terms_of k) w next e2 in
        let end : m3 ≡ next = cc (e3) in
        let s1 = number-got b _ at k m1 is1 in
        let s2 = byte-got b _ m1 count m2 is2 in
        let value = ap (λ (i : ℕ). get_or b i 0) (sym s1) ∙ s2.3 in
        omega (arith, s1, s2.1, times-end term-takes count m2 ts m3 is3, end, value)

    -- refused with 6: k, the term count, or a term
    pub termed-ends : (at spot : ℕ) → termed b at ≡ refused bundle_end_number spot
        → (spot ≡ at) ⊎ (((spot ≡ at + 2) × (length b ≤ spot)) ⊎ ((t : ℕ) × (t < get_or b (at + 2) 0) × InTerm (at + 3 + 5 * t) spot))
    unfolding termed bind onward behind_k behind_count terms_of
    termed-ends at spot e = ⊎_elim
        (λ q. inl (number-missing b _ at bundle_end_number spot q))
        (λ (k, m1, is1, e1). let s1 = number-got b _ at k m1 is1 in inr (⊎_elim
        (λ q. let m = byte-missing b _ m1 spot q in inl (omega (arith, m.0, s1), omega (arith, m.0, m.1)))
        (λ (count, m2, is2, e2). let s2 = byte-got b _ m1 count m2 is2 in inr (⊎_elim
        (λ q. let (t, less, in-it) = times-stop term-takes InTerm term-ends count m2 spot q in
        let value = ap (λ (i : ℕ). get_or b i 0) (sym s1) ∙ s2.3 in
        (t, omega (arith, less, value), subst (λ (i : ℕ). InTerm (i + 5 * t) spot) (omega (arith, s1, s2.1)) in-it))
        (λ (ts, m3, is3, never). impossible cc)
        ((and_then-refused b (times count (term h.events (length (rows_in h))) b m2) (terms_of k) bundle_end_number spot).0 e2)))
        ((and_then-refused b (byte (λ c. leb c max_terms) b m1) (behind_count k) bundle_end_number spot).0 e1)))
        ((and_then-refused b (number (leb 1) b at) behind_k bundle_end_number spot).0 e)

    -- in the new edition: the pair count, or a pair
    pub pairs-ends : (is_new : Bool) (at spot : ℕ) → pairs is_new (length h.entries) b at ≡ refused bundle_end_number spot
        → (is_new ≡ true) × (((spot ≡ at) × (length b ≤ spot)) ⊎ ((q : ℕ) × (q < get_or b at 0) × InPair (at + 1 + 3 * q) spot))
    unfolding pairs bind onward
    pairs-ends false at spot e = impossible cc
    pairs-ends true at spot e = (
      refl,
      ⊎_elim
          (λ q. let m = byte-missing b _ at spot q in inl (m.0, omega (arith, m.0, m.1)))
          (λ (count, mid, is, q). let s = byte-got b _ at count mid is in
          let (t, less, in-it) = times-stop pair-takes InPair pair-ends count mid spot q in
          inr (t, omega (arith, less, s.3), subst (λ (i : ℕ). InPair (i + 3 * t) spot) s.1 in-it))
          ((and_then-refused b (byte (λ c. leb c max_pairs) b at) (λ count. times count (pair (length h.entries))) bundle_end_number spot).0 e),
    )
