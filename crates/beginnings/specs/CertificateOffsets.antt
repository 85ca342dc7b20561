-- At which offset a certificate ends that is refused with 6, in either edition: that of a field of one byte, or of two.
use Rattle.std.specs.Prelude.{◌≡◌, Bool, true, List, ◌++◌, get_or}
use Rattle.std.proofs.Common.{sym, ap, ◌∙◌, inl, inr, arith, leb→le, length-append, get_or-append-add}
use Rattle.std.proofs.Math.Logic.{⊎_elim}
use Prim.Native.Nat.{ℕ, zero, suc, ◌+◌, ◌*◌, ◌≤◌, ◌<◌}
use Rattle.std.proofs.Math.Dec.{leb, ltb}
use Rattle.std.proofs.Math.ListN.{length}
use Rattle.laws.specs.Booleans.{impossible}
use Rattle.refusals.specs.Table.{bundle_end_number}
use Rattle.refusals.specs.Results.{refused, bind}
use Rattle.bundles.specs.Reading.{got, onward, give, byte}
use Rattle.bundles.specs.Layout.{WeightFields, kind0, Head}
use Rattle.bundles.specs.Readers.{pairs, weights, of_kind, certificate}
use Rattle.bundles.specs.Causes.{and_then-refused}
use Rattle.beginnings.specs.Beginnings.{EndsAt, EndsInField, pairs_at, OneByteAt, at_kind, at_place, at_term_count, at_event, at_pair_count, at_word}
use Rattle.beginnings.specs.Beginnings.{TwoBytesAt, at_factor, at_row, at_weight, at_pair_weight}
use Rattle.beginnings.specs.HeadOffsets.{byte-got, byte-missing}
use Rattle.beginnings.specs.Weights.{InTerm, InPair, termed, paired, weights-steps, termed-got, termed-ends, pairs-ends}

-- ---- a certificate at the end of `done`

-- a byte of it
pub byte-in : (done l : List ℕ) (at i : ℕ) → at ≡ length done + i → get_or (done ++ l) at 0 ≡ get_or l i 0
byte-in done l at i here = ap (λ (k : ℕ). get_or (done ++ l) k 0) here ∙ get_or-append-add done l i 0

-- the kind stands first
pub kind-read : (done l : List ℕ) (kind mid : ℕ) → byte (λ kind. leb kind 1) (done ++ l) (length done) ≡ got kind mid
    → (kind ≤ 1) × (mid ≡ length done + 1) × (get_or l 0 0 ≡ kind)
kind-read done l kind mid is =
    let g = byte-got (done ++ l) (λ kind. leb kind 1) (length done) kind mid is in
    (leb→le kind 1 g.2, g.1, sym (byte-in done l (length done) 0 (omega arith)) ∙ g.3)

-- the pairs begin behind the terms
pub pairs-begin : (h : Head) (done l : List ℕ) (w : WeightFields) (next : ℕ) → termed h (done ++ l) (length done + 1) ≡ got w next
    → next ≡ length done + pairs_at l
pairs-begin h done l w next is =
    omega (arith, termed-got h (done ++ l) (length done + 1) w next is, byte-in done l (length done + 1 + 2) 3 (omega arith))

module _ (h : Head) (done l : List ℕ) (p : ℕ) (ends : EndsAt l p) where
  size : length (done ++ l) ≡ length done + length l
  size = length-append done l

  -- a field of one byte is missing
  one : length (done ++ l) ≤ length done + p → OneByteAt h.is_new l p → EndsInField h.is_new l p
  one short at = inl (⊎_elim (λ end. end) (λ end. omega (arith, end, short, size)) ends, at)

  -- one of two is missing, or half there
  two : TwoBytesAt h.is_new l p → EndsInField h.is_new l p
  two at = inr (ends, at)

  -- behind kind 1: in the terms
  in_terms : get_or l 0 0 ≡ 1 → termed h (done ++ l) (length done + 1) ≡ refused bundle_end_number (length done + p) → EndsInField h.is_new l p
  in_terms kind e = ⊎_elim
      (λ at. two (at_factor kind (omega (arith, at))))
      (⊎_elim
      (λ (at, short). one short (at_term_count kind (omega (arith, at))))
      (λ (t, less, in-it). in_term t (omega (arith, less, byte-in done l (length done + 1 + 2) 3 (omega arith))) in-it))
      (termed-ends h (done ++ l) (length done + 1) (length done + p) e)
    where
      in_term : (t : ℕ) → t < get_or l 3 0 → InTerm h (done ++ l) (length done + 1 + 3 + 5 * t) (length done + p) → EndsInField h.is_new l p
      in_term t less = ⊎_elim
          (λ at. two (at_row kind t less (omega (arith, at))))
          (⊎_elim
          (λ (at, short). one short (at_event kind t less (omega (arith, at))))
          (λ at. two (at_weight kind t less (omega (arith, at)))))

  -- in the pairs
  in_pairs : get_or l 0 0 ≡ 1 → (mid : ℕ) → mid ≡ length done + pairs_at l
      → pairs h.is_new (length h.entries) (done ++ l) mid ≡ refused bundle_end_number (length done + p) → EndsInField h.is_new l p
  in_pairs kind mid begin e =
      let (is_new, at) = pairs-ends h (done ++ l) h.is_new mid (length done + p) e in
      ⊎_elim
      (λ (at, short). one short (at_pair_count kind is_new (omega (arith, at, begin))))
      (λ (q, less, in-it). in_pair is_new q (omega (arith, less, byte-in done l mid (pairs_at l) begin)) in-it)
      at
    where
      in_pair : h.is_new ≡ true → (q : ℕ) → q < get_or l (pairs_at l) 0 → InPair h (done ++ l) (mid + 1 + 3 * q) (length done + p)
          → EndsInField h.is_new l p
      in_pair is_new q less = ⊎_elim
          (λ (at, short). one short (at_word kind is_new q less (omega (arith, at, begin))))
          (λ at. two (at_pair_weight kind is_new q less (omega (arith, at, begin))))

  weights-end : get_or l 0 0 ≡ 1 → weights h (done ++ l) (length done + 1) ≡ refused bundle_end_number (length done + p) → EndsInField h.is_new l p
  unfolding paired
  weights-end kind e = ⊎_elim
      (λ q. in_terms kind q)
      (λ (w, mid, is, e1). ⊎_elim
      (λ q. in_pairs kind mid (pairs-begin h done l w mid is) q)
      (λ (qs, end, _, never). impossible cc)
      ((and_then-refused (done ++ l) (pairs h.is_new (length h.entries) (done ++ l) mid) _ bundle_end_number (length done + p)).0 e1))
      ((and_then-refused (done ++ l) (termed h (done ++ l) (length done + 1)) (paired h) bundle_end_number (length done + p)).0
      (sym (weights-steps h (done ++ l) (length done + 1)) ∙ e))

  -- behind kind 0
  listed-end : get_or l 0 0 ≡ 0 → of_kind h 0 (done ++ l) (length done + 1) ≡ refused bundle_end_number (length done + p) → EndsInField h.is_new l p
  unfolding of_kind
  listed-end kind e = ⊎_elim
      (λ q. let m = byte-missing (done ++ l) _ (length done + 1) (length done + p) q in
      one (omega (arith, m.0, m.1)) (at_place kind (omega (arith, m.0))))
      (λ (j, end, _, never). impossible cc)
      ((and_then-refused (done ++ l) (byte (λ j. ltb j (length h.places)) (done ++ l) (length done + 1)) (λ j. give (kind0 j)) bundle_end_number
      (length done + p)).0 e)

  pub certificate-offset : certificate h (done ++ l) (length done) ≡ refused bundle_end_number (length done + p) → EndsInField h.is_new l p
  unfolding certificate of_kind bind onward
  certificate-offset e = ⊎_elim
      (λ q. let m = byte-missing (done ++ l) _ (length done) (length done + p) q in one (omega (arith, m.0, m.1)) (at_kind (omega (arith, m.0))))
      (λ (kind, mid, is, q). by kind mid (kind-read done l kind mid is) q)
      ((and_then-refused (done ++ l) (byte (λ kind. leb kind 1) (done ++ l) (length done)) (of_kind h) bundle_end_number (length done + p)).0 e)
    where
      by : (kind mid : ℕ) → (kind ≤ 1) × (mid ≡ length done + 1) × (get_or l 0 0 ≡ kind)
          → of_kind h kind (done ++ l) mid ≡ refused bundle_end_number (length done + p)
          → EndsInField h.is_new l p
      by zero mid (_, at, kind) q = listed-end kind (sym (ap (of_kind h 0 (done ++ l)) at) ∙ q)
      by (suc zero) mid (_, at, kind) q = weights-end kind (sym (ap (weights h (done ++ l)) at) ∙ q)
      by (suc (suc k)) mid (most, _, _) q = absurd (omega (arith, most))

-- ---- an offset is that of a field of one byte or of two

-- the bytes before an offset say of which
module _ (m l : List ℕ) (p : ℕ) (same : (i : ℕ) → i < p → get_or m i 0 ≡ get_or l i 0) where
  pub same-pairs : pairs_at m < p → (pairs_at m ≡ pairs_at l) × (get_or m (pairs_at m) 0 ≡ get_or l (pairs_at l) 0)
  same-pairs less =
      let begin : pairs_at m ≡ pairs_at l = omega (arith, same 3 (omega (arith, less))) in
      (begin, same (pairs_at m) less ∙ ap (λ (i : ℕ). get_or l i 0) begin)

  pub one_same : {is_new : Bool} → OneByteAt is_new m p → OneByteAt is_new l p
  one_same (at_kind at) = at_kind at
  one_same (at_place kind at) = at_place (sym (same 0 (omega (arith, at))) ∙ kind) at
  one_same (at_term_count kind at) = at_term_count (sym (same 0 (omega (arith, at))) ∙ kind) at
  one_same (at_event kind t less at) = at_event (sym (same 0 (omega (arith, at))) ∙ kind) t (omega (arith, less, same 3 (omega (arith, at)))) at
  one_same (at_pair_count kind new at) = at_pair_count (sym (same 0 (omega (arith, at))) ∙ kind) new (omega (arith, at, same 3 (omega (arith, at))))
  one_same (at_word kind new q less at) =
      let count = same-pairs (omega (arith, at)) in
      at_word (sym (same 0 (omega (arith, at))) ∙ kind) new q (omega (arith, less, count.1)) (omega (arith, at, count.0))

  pub two_same : {is_new : Bool} → TwoBytesAt is_new m p → TwoBytesAt is_new l p
  two_same (at_factor kind at) = at_factor (sym (same 0 (omega (arith, at))) ∙ kind) at
  two_same (at_row kind t less at) = at_row (sym (same 0 (omega (arith, at))) ∙ kind) t (omega (arith, less, same 3 (omega (arith, at)))) at
  two_same (at_weight kind t less at) = at_weight (sym (same 0 (omega (arith, at))) ∙ kind) t (omega (arith, less, same 3 (omega (arith, at)))) at
  two_same (at_pair_weight kind new q less at) =
      let count = same-pairs (omega (arith, at)) in
      at_pair_weight (sym (same 0 (omega (arith, at))) ∙ kind) new q (omega (arith, less, count.1)) (omega (arith, at, count.0))

-- none is both
pub one-not-two : {is_new : Bool} (l : List ℕ) (p : ℕ) → OneByteAt is_new l p → TwoBytesAt is_new l p → ⊥
one-not-two l p (at_kind e) (at_factor j f) = omega (arith, e, f)
one-not-two l p (at_kind e) (at_row j u r f) = omega (arith, e, f)
one-not-two l p (at_kind e) (at_weight j u r f) = omega (arith, e, f)
one-not-two l p (at_kind e) (at_pair_weight j _ v _ f) = omega (arith, e, f)
one-not-two l p (at_place k e) (at_factor j f) = omega (arith, k, j)
one-not-two l p (at_place k e) (at_row j u r f) = omega (arith, k, j)
one-not-two l p (at_place k e) (at_weight j u r f) = omega (arith, k, j)
one-not-two l p (at_place k e) (at_pair_weight j _ v _ f) = omega (arith, k, j)
one-not-two l p (at_term_count k e) (at_factor j f) = omega (arith, e, f)
one-not-two l p (at_term_count k e) (at_row j u r f) = omega (arith, e, r, f)
one-not-two l p (at_term_count k e) (at_weight j u r f) = omega (arith, e, r, f)
one-not-two l p (at_term_count k e) (at_pair_weight j _ v _ f) = omega (arith, e, f)
one-not-two l p (at_event k t s e) (at_factor j f) = omega (arith, s, e, f)
one-not-two l p (at_event k t s e) (at_row j u r f) = omega (arith, s, e, r, f)
one-not-two l p (at_event k t s e) (at_weight j u r f) = omega (arith, s, e, r, f)
one-not-two l p (at_event k t s e) (at_pair_weight j _ v _ f) = omega (arith, s, e, f)
one-not-two l p (at_pair_count k new e) (at_factor j f) = omega (arith, e, f)
one-not-two l p (at_pair_count k new e) (at_row j u r f) = omega (arith, e, r, f)
one-not-two l p (at_pair_count k new e) (at_weight j u r f) = omega (arith, e, r, f)
one-not-two l p (at_pair_count k new e) (at_pair_weight j _ v _ f) = omega (arith, e, f)
one-not-two l p (at_word k new q s e) (at_factor j f) = omega (arith, e, f)
one-not-two l p (at_word k new q s e) (at_row j u r f) = omega (arith, e, r, f)
one-not-two l p (at_word k new q s e) (at_weight j u r f) = omega (arith, e, r, f)
one-not-two l p (at_word k new q s e) (at_pair_weight j _ v _ f) = omega (arith, e, f)
