-- Weights that are refused with 6 can be filled (Filling.antt), but for the low byte of a row's number, and for a pair where there is no word.
use Rattle.std.specs.Prelude.{◌≡◌, refl, Bool, ◌⊎◌, List, [], ◌∷◌, ◌++◌, get_or, take}
use Rattle.std.proofs.Common.{sym, ◌∙◌, subst, arith, ltb→lt, length-take-le}
use Rattle.std.proofs.Math.Bool.{true, false}
use Rattle.std.proofs.Math.Logic.{inl, inr, ⊎_elim}
use Prim.Native.Nat.{ℕ, zero, suc, ◌+◌, ◌≤◌, ◌<◌}
use Rattle.std.proofs.Math.Dec.{T, leb, ltb, leb→le}
use Rattle.std.proofs.Math.ListN.{length, replicate}
use Rattle.laws.specs.Booleans.{impossible, lt_or_le}
use Rattle.laws.specs.Numbers.{Bytes, bytes_take}
use Rattle.limits.specs.Limits.{max_pairs}
use Rattle.refusals.specs.Table.{bundle_end_number}
use Rattle.refusals.specs.Results.{refused, bind}
use Rattle.bundles.specs.Reading.{got, Reader, onward, ◌>>=◌, give, byte, each, times}
use Rattle.bundles.specs.Layout.{PairFields, WeightFields, kind1, Head, rows_in}
use Rattle.bundles.specs.Readers.{pair, pairs, weights}
use Rattle.bundles.specs.ReadingLaws.{and_then-got}
use Rattle.bundles.specs.Causes.{and_then-refused}
use Rattle.beginnings.specs.Local.{alike-take}
use Rattle.beginnings.specs.Locals.{local_pairs}
use Rattle.beginnings.specs.Filling.{Filled, filled-then, filled-behind, fills_give}
use Rattle.beginnings.specs.Fillings.{Never, NoSuchRow, fills_termed, pairs_start, fills_pairs}
use Rattle.beginnings.specs.HeadOffsets.{byte-got, byte-missing}
use Rattle.beginnings.specs.Weights.{termed, paired, weights-steps, local_termed}
use Rattle.bundles.specs.TermReading.{behind_word}

pub no_item : {A : Type 0} (l : List A) → length l < 1 → l ≡ []
no_item [] h = refl
no_item (x ∷ l) h = absurd (omega (arith, h))

-- a byte that is due below 0 is never read
module _ (k : ℕ) (none : k < 1) (b : List ℕ) (at : ℕ) where
  never-read : (x next : ℕ) → byte (λ x. ltb x k) b at ≡ got x next → ⊥
  never-read x next is = let less = ltb→lt x k (byte-got b (λ x. ltb x k) at x next is).2 in omega (arith, less, none)

  pub never-behind : {A : Type 0} (f : ℕ → Reader A) (spot : ℕ) → (byte (λ x. ltb x k) >>= f) b at ≡ refused bundle_end_number spot → spot ≡ at
  never-behind f spot e = ⊎_elim (λ q. (byte-missing b (λ x. ltb x k) at spot q).0) (λ (x, next, is, q). absurd (never-read x next is))
      ((and_then-refused b (byte (λ x. ltb x k) b at) f bundle_end_number spot).0 e)

module _ (h : Head) where
  -- the first pair is due at the spot, and there is no word
  pub record PairDue (b : List ℕ) (at spot : ℕ) : Type 0 where
    pub entries : h.entries ≡ []
    pub is_new : h.is_new ≡ true
    pub count : (1 ≤ get_or b at 0) × (get_or b at 0 ≤ max_pairs)
    pub here : spot ≡ at + 1

  module _ (b : List ℕ) (bytes : Bytes b) (at spot : ℕ) (inside : at ≤ length b) where
    wordless : length h.entries < 1 → (is_new : Bool) → h.is_new ≡ is_new → pairs is_new (length h.entries) b at ≡ refused bundle_end_number spot
        → Filled (pairs is_new (length h.entries)) b at ⊎ PairDue b at spot
    unfolding pairs pair each bind onward
    wordless none false is e = impossible cc
    wordless none true is e = ⊎_elim
        (λ q. let end : length b ≡ at = omega (arith, inside, (byte-missing b _ at spot q).1) in
        inl (subst (Filled (pairs true (length h.entries)) b) end (pairs_start h true b bytes)))
        (λ (count, mid, read, q). inr (due count mid (byte-got b _ at count mid read) q))
        ((and_then-refused b (byte (λ c. leb c max_pairs) b at) (λ count. times count (pair (length h.entries))) bundle_end_number spot).0 e)
      where
        behind_first : ℕ → PairFields → Reader (List PairFields)
        behind_first c q = each (λ s before. pair (length h.entries)) (replicate c (tt {0})) (q ∷ [])

        due : (count mid : ℕ) → (at + 1 ≤ length b) × (mid ≡ at + 1) × T (leb count max_pairs) × (get_or b at 0 ≡ count)
            → times count (pair (length h.entries)) b mid ≡ refused bundle_end_number spot → PairDue b at spot
        due zero mid read q = impossible cc
        due (suc c) mid (_, next, most, value) q = record {
          entries = no_item h.entries none;
          is_new = is;
          count = (omega (arith, value), omega (arith, value, leb→le (suc c) max_pairs most));
          here = ⊎_elim
              (λ first. never-behind (length h.entries) none b mid behind_word spot first ∙ next)
              (λ (x, end, first, _). let (word, m, read, _) = and_then-got b (byte (λ w. ltb w (length h.entries)) b mid) behind_word x end first in
              absurd (never-read (length h.entries) none b mid word m read))
              ((and_then-refused b (pair (length h.entries) b mid) (behind_first c) bundle_end_number spot).0 q);
        }

    pairs-fill : pairs h.is_new (length h.entries) b at ≡ refused bundle_end_number spot
        → Filled (pairs h.is_new (length h.entries)) b at ⊎ PairDue b at spot
    pairs-fill e = ⊎_elim
        (λ none. wordless none h.is_new refl e)
        (λ word. ⊎_elim inl (λ (end, never). absurd never) ((fills_pairs h {Half = Never} word h.is_new).ends b bytes at spot inside e))
        (lt_or_le (length h.entries) 1)

  -- the pairs behind the terms
  module _ (w : WeightFields) where
    behind : (b : List ℕ) (at : ℕ) → Filled (pairs h.is_new (length h.entries)) b at → Filled (paired h w) b at
    unfolding paired
    behind b at s = filled-then (local_pairs h h.is_new) (λ qs. give (kind1 (record { k = w.k; terms = w.terms; pairs = qs }))) b at s
        ((fills_give {Half = Never} {P = λ c. Unit {0}} _ tt).starts (b ++ s.more) s.bytes)

    paired-start : (b : List ℕ) → Bytes b → Filled (paired h w) b (length b)
    paired-start b bytes = behind b (length b) (pairs_start h h.is_new b bytes)

    paired-fill : (b : List ℕ) → Bytes b → (at spot : ℕ) → at ≤ length b → paired h w b at ≡ refused bundle_end_number spot
        → Filled (paired h w) b at ⊎ PairDue b at spot
    unfolding paired
    paired-fill b bytes at spot inside e = ⊎_elim
        (λ q. ⊎_elim (λ s. inl (behind b at s)) inr (pairs-fill b bytes at spot inside q))
        (λ (qs, end, _, never). impossible cc)
        ((and_then-refused b (pairs h.is_new (length h.entries) b at) _ bundle_end_number spot).0 e)

  whole : (b : List ℕ) (at : ℕ) → Filled (termed h >>= paired h) b at → Filled (weights h) b at
  whole b at s = record { more = s.more; bytes = s.bytes; item = s.item; read = weights-steps h (b ++ s.more) at ∙ s.read }

  -- behind `front` bytes, which can be filled, the pair count
  pub record PairDueBehind (b : List ℕ) (at spot : ℕ) : Type 0 where
    pub terms : WeightFields
    pub front : ℕ
    pub read : termed h b at ≡ got terms front
    pub within : front ≤ length b
    pub filled : Filled (weights h) (take front b) at
    pub due : PairDue b front spot

  pub weights-fill : 1 ≤ h.events → 1 ≤ length (rows_in h) → (b : List ℕ) → Bytes b → (at spot : ℕ) → at ≤ length b
      → weights h b at ≡ refused bundle_end_number spot
      → Filled (weights h) b at ⊎ (PairDueBehind b at spot ⊎ ((length b ≡ spot + 1) × NoSuchRow h (get_or b spot 0)))
  weights-fill event row b bytes at spot inside e = ⊎_elim
      (λ q. ⊎_elim
      (λ s. inl (whole b at (filled-then (local_termed h) (paired h) b at s (paired-start s.item (b ++ s.more) s.bytes))))
      (λ half. inr (inr half))
      ((fills_termed h event row).ends b bytes at spot inside q))
      (λ (w, mid, is, q). let within = (local_termed h).within b at w mid is inside in ⊎_elim
      (λ s. inl (whole b at (filled-behind (local_termed h) (paired h) b at w mid inside is s)))
      (λ due. inr (inl (record { terms = w; front = mid; read = is; within = within; filled = before w mid is within; due = due })))
      (paired-fill w b bytes mid spot within q))
      ((and_then-refused b (termed h b at) (paired h) bundle_end_number spot).0 (sym (weights-steps h b at) ∙ e))
    where
      before : (w : WeightFields) (mid : ℕ) → termed h b at ≡ got w mid → mid ≤ length b → Filled (weights h) (take mid b) at
      before w mid is within =
          let size = length-take-le mid b within in
          let again = (local_termed h).read b (take mid b) at w mid is (alike-take mid b within) in
          let pairs = subst (Filled (paired h w) (take mid b)) size (paired-start w (take mid b) (bytes_take mid b bytes)) in
          whole (take mid b) at
          (filled-behind (local_termed h) (paired h) (take mid b) at w mid (omega (arith, size, (local_termed h).forth b at w mid is)) again pairs)
