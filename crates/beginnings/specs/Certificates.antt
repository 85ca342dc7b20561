-- A certificate that is refused: with 6 where it ends, with 7 where it departs from every certificate within its limits (Beginnings.antt).
use Rattle.std.specs.Prelude.{◌≡◌, ◌⊎◌, get_or}
use Rattle.std.proofs.Math.Path.{refl, ap, subst}
use Rattle.std.proofs.Common.{sym, ◌∙◌, arith, take-append-drop, get_or-append-add, take-take, get_or-take}
use Rattle.std.proofs.Math.Logic.{inl, inr, ⊎_elim}
use mathlib.Core.List.{List, [], ◌∷◌, ◌++◌, flat_map}
use Prim.Native.Nat.{ℕ, zero, suc, ◌+◌, ◌-◌, ◌≤◌, ◌<◌}
use Rattle.std.proofs.Math.Dec.{leb}
use Rattle.std.proofs.Math.ListN.{length, take, drop, length-append}
use Rattle.std.proofs.Math.Seq.{drop-cons, length-take-le, take-append-add, take-append_seam}
use Rattle.laws.specs.Booleans.{lt_or_le}
use Rattle.laws.specs.Lists.{any}
use Rattle.laws.specs.Numbers.{Bytes, bytes-append, bytes_take}
use Rattle.limits.specs.Limits.{max_rows}
use Rattle.refusals.specs.Table.{bundle_end_number}
use Rattle.refusals.specs.Results.{refused}
use Rattle.nets.specs.Nets.{rows, prefixes, add_row}
use Rattle.nets.proofs.LogLaws.{rows-longer}
use Rattle.bundles.specs.Reading.{got, give, byte}
use Rattle.bundles.specs.Layout.{CertificateFields, kind0, kind1, Head, HeadInLimits, CertificateInLimits, certificate_bytes, rows_in}
use Rattle.bundles.specs.Layout.{words_in}
use Rattle.bundles.specs.Readers.{weights, of_kind, certificate}
use Rattle.bundles.specs.ReadingLaws.{Law}
use Rattle.bundles.specs.LayoutLaws.{law-certificate}
use Rattle.bundles.specs.Bytes.{bytes-certificate}
use Rattle.bundles.specs.Causes.{and_then-refused}
use Rattle.beginnings.specs.Beginnings.{BeginsCertificate, EndsInField, OneByteAt, at_place, at_word, Departs, pairs_at, NoWord}
use Rattle.beginnings.specs.Beginnings.{NoValue, NoRow, CertificateEnds, CertificateDeparts}
use Rattle.beginnings.specs.Local.{alike-less, alike-take}
use Rattle.beginnings.specs.Locals.{local_certificate, local_kind}
use Rattle.beginnings.specs.Filling.{Filled, filled-behind, filled-law}
use Rattle.beginnings.specs.Fillings.{NoSuchRow, fills_listed}
use Rattle.beginnings.specs.HeadOffsets.{byte-got, byte-missing}
use Rattle.beginnings.specs.Weights.{termed}
use Rattle.beginnings.specs.Pairs.{no_item, never-behind, PairDueBehind, weights-fill}
use Rattle.beginnings.specs.CertificateOffsets.{byte-in, kind-read, pairs-begin, certificate-offset, same-pairs, one_same, two_same}
use Rattle.beginnings.specs.CertificateOffsets.{one-not-two}
use Rattle.beginnings.specs.Stops.{filled-begins, ends_at, cut_at, departs-at, byte-departs}

-- a log has a row
some-row : (h : Head) → 1 ≤ length (rows_in h)
unfolding rows prefixes add_row flat_map any
some-row h = rows-longer h.events [] (words_in h)

-- a certificate is refused at its first byte, or behind it
pub from_first : (h : Head) (done l : List ℕ) (k spot : ℕ) → certificate h (done ++ l) (length done) ≡ refused k spot
    → (p : ℕ) × (spot ≡ length done + p)
from_first h done l k spot e =
    let s = (local_certificate h).stop (done ++ l) (length done) k spot (omega (arith, length-append done l)) e in
    (spot - length done, omega (arith, s.from))

-- where no value is right, a field of one byte is due
due-byte : (h : Head) (l : List ℕ) (p : ℕ) → NoValue h l p → OneByteAt h.is_new l p
due-byte h l p (inl none) = at_place (ap (λ (t : List ℕ). get_or t 0 0) none.kind.1) none.number
due-byte h l p (inr none) = at_word none.kind none.is_new 0 none.count.0 (omega (arith, none.number))

-- what is so of a beginning that reaches there is so of the whole
value-whole : (h : Head) (l : List ℕ) (p : ℕ) → NoValue h (take p l) p → NoValue h l p
value-whole h l p (inl none) =
    let (rest, e) = none.kind in
    inl (record {
      places = none.places;
      kind = (rest ++ drop p l, sym (take-append-drop p l) ∙ ap (λ (t : List ℕ). t ++ drop p l) e);
      number = none.number;
    })
value-whole h l p (inr none) =
    let at = none.number in
    let (begin, count) = same-pairs (take p l) l p (λ i less. get_or-take p l i 0 less) (omega (arith, at)) in
    inr (record {
      entries = none.entries;
      is_new = none.is_new;
      kind = sym (get_or-take p l 0 0 (omega (arith, at))) ∙ none.kind;
      before = subst (BeginsCertificate h) (take-take (pairs_at (take p l)) p l (omega (arith, at)) ∙ ap (λ (i : ℕ). take i l) begin) none.before;
      count = (omega (arith, none.count.0, count), omega (arith, none.count.1, count));
      number = omega (arith, at, begin);
    })

module _ (h : Head) (limits : HeadInLimits h) (row_count : length (rows_in h) ≤ max_rows) where
  law-limits : (b : List ℕ) → Bytes b → Law b (certificate h) (certificate_bytes h.is_new) (CertificateInLimits h)
  law-limits b bytes = law-certificate b bytes h limits.events.1 row_count limits.places_size limits.log_size

  -- weights without a term or a pair: some certificate
  least : CertificateFields
  least = kind1 (record { k = 1; terms = []; pairs = [] })

  least-limits : CertificateInLimits h least
  unfolding least
  least-limits = record {
    positive = omega arith;
    factor = omega arith;
    terms_size = omega arith;
    terms = tt;
    pairs = record { size = omega arith; each = tt; edition = λ e. refl };
  }

  starts : (b : List ℕ) → Bytes b → Filled (certificate h) b (length b)
  starts b bytes =
      let written = certificate_bytes h.is_new least in
      let bytes' = bytes-append b written bytes (bytes-certificate h limits least least-limits) in
      filled-law b least bytes' (law-limits (b ++ written) bytes') least-limits

  written : (c : CertificateFields) → CertificateInLimits h c → Bytes (certificate_bytes h.is_new c)
  written = bytes-certificate h limits

  module _ (done : List ℕ) where
    -- how a certificate is refused with 6: it can be filled; or no value is right; or inside a row's number
    Refused6 : List ℕ → ℕ → Type 0
    Refused6 l p = Filled (certificate h) (done ++ l) (length done) ⊎ (NoValue h l p
        ⊎ ((length (done ++ l) ≡ length done + p + 1) × NoSuchRow h (get_or (done ++ l) (length done + p) 0)))

    module _ (l : List ℕ) (p : ℕ) (bytes : Bytes (done ++ l)) where
      start : length done ≤ length (done ++ l)
      start = omega (arith, length-append done l)

      -- kind 0
      of-place : (mid : ℕ) → byte (λ kind. leb kind 1) (done ++ l) (length done) ≡ got 0 mid
          → of_kind h 0 (done ++ l) mid ≡ refused bundle_end_number (length done + p) → Refused6 l p
      unfolding Refused6 certificate of_kind
      of-place mid is q =
          let (_, next, first) = kind-read done l 0 mid is in
          let some : 0 < length l = omega (arith, (byte-got (done ++ l) _ (length done) 0 mid is).0, length-append done l) in
          ⊎_elim
          (λ none. inr (inl (inl (record {
            places = no_item h.places none;
            kind = (drop 1 l, drop-cons l 0 0 some ∙ ap (λ (k : ℕ). k ∷ drop 1 l) first);
            number = omega (arith, never-behind (length h.places) none (done ++ l) mid (λ j. give (kind0 j)) (length done + p) q, next);
          }))))
          (λ place. ⊎_elim
          (λ t. inl (filled-behind (local_kind h) (of_kind h) (done ++ l) (length done) 0 mid start is t))
          (λ (end, never). absurd never)
          ((fills_listed h place).ends (done ++ l) bytes mid (length done + p) ((local_kind h).within (done ++ l) (length done) 0 mid is start) q))
          (lt_or_le (length h.places) 1)

      -- kind 1
      of-weights : (mid : ℕ) → byte (λ kind. leb kind 1) (done ++ l) (length done) ≡ got 1 mid
          → weights h (done ++ l) mid ≡ refused bundle_end_number (length done + p) → Refused6 l p
      unfolding Refused6 certificate of_kind
      of-weights mid is q = ⊎_elim
          (λ t. inl (filled-behind (local_kind h) (of_kind h) (done ++ l) (length done) 1 mid start is t))
          (⊎_elim (λ due. inr (inl (inr (no_word due)))) (λ half. inr (inr half)))
          (weights-fill h limits.events.0 (some-row h) (done ++ l) bytes mid (length done + p)
          ((local_kind h).within (done ++ l) (length done) 1 mid is start) q)
        where
          no_word : PairDueBehind h (done ++ l) mid (length done + p) → NoWord h l p
          no_word s =
              let (_, next, first) = kind-read done l 1 mid is in
              let front = s.front in
              let read = ap (termed h (done ++ l)) (sym next) ∙ s.read in
              let begin = pairs-begin h done l s.terms front read in
              let size = length-take-le front (done ++ l) s.within in
              let cut : take front (done ++ l) ≡ done ++ take (pairs_at l) l =
              ap (λ (i : ℕ). take i (done ++ l)) begin ∙ take-append-add done l (pairs_at l) in
              let again = (local_kind h).read (done ++ l) (take front (done ++ l)) (length done) 1 mid is
              (alike-less (omega (arith, next, begin)) (alike-take front (done ++ l) s.within)) in
              let filled = filled-behind (local_kind h) (of_kind h) (take front (done ++ l)) (length done) 1 mid (omega (arith, size, begin)) again
              s.filled in
              let count = byte-in done l front (pairs_at l) begin in
              record {
                entries = s.due.entries;
                is_new = s.due.is_new;
                kind = first;
                before = filled-begins (local_certificate h) law-limits written done (take (pairs_at l) l)
                    (subst (λ (b : List ℕ). Filled (certificate h) b (length done)) cut filled);
                count = (omega (arith, s.due.count.0, count), omega (arith, s.due.count.1, count));
                number = omega (arith, s.due.here, begin);
              }

      refused_6 : certificate h (done ++ l) (length done) ≡ refused bundle_end_number (length done + p) → Refused6 l p
      unfolding certificate of_kind Refused6
      refused_6 e = ⊎_elim
          (λ q. let short = (byte-missing (done ++ l) _ (length done) (length done + p) q).1 in
          let end : length (done ++ l) ≡ length done = omega (arith, start, short) in
          inl (subst (Filled (certificate h) (done ++ l)) end (starts (done ++ l) bytes)))
          (λ (kind, mid, is, q). by kind mid is q)
          ((and_then-refused (done ++ l) (byte (λ kind. leb kind 1) (done ++ l) (length done)) (of_kind h) bundle_end_number (length done + p)).0 e)
        where
          by : (kind mid : ℕ) → byte (λ kind. leb kind 1) (done ++ l) (length done) ≡ got kind mid
              → of_kind h kind (done ++ l) mid ≡ refused bundle_end_number (length done + p) → Refused6 l p
          by zero mid is q = of-place mid is q
          by (suc zero) mid is q = of-weights mid is q
          by (suc (suc k)) mid is q = absurd (omega (arith, (kind-read done l (suc (suc k)) mid is).0))

    -- the bytes before the spot of a refusal
    before : (l : List ℕ) (p k : ℕ) → Bytes (done ++ l) → certificate h (done ++ l) (length done) ≡ refused k (length done + p)
        → BeginsCertificate h (take p l) ⊎ NoValue h (take p l) p
    unfolding Refused6
    before l p k bytes e =
        let c = cut_at (local_certificate h) law-limits written done l p k e in
        let bytes' = subst Bytes (take-append-add done l p) (bytes_take (length done + p) (done ++ l) bytes) in
        ⊎_elim
        (λ s. inl (filled-begins (local_certificate h) law-limits written done (take p l) s))
        (λ rest. ⊎_elim inr (λ (half, low). absurd (omega (arith, half, length-append done (take p l), length-take-le p l c.0))) rest)
        (refused_6 (take p l) p bytes' c.1)

    pub certificate-ends : (l : List ℕ) (p : ℕ) → Bytes (done ++ l)
        → certificate h (done ++ l) (length done) ≡ refused bundle_end_number (length done + p)
        → CertificateEnds h l p
    unfolding Refused6
    certificate-ends l p bytes e = record {
      end = end;
      beginning = ⊎_elim
          (λ s. inl (filled-begins (local_certificate h) law-limits written done l s))
          (λ rest. inr (⊎_elim inl (λ (half, low). inr (no_row (omega (arith, half, length-append done l)) low)) rest))
          (refused_6 l p bytes e);
    }
      where
        end : EndsInField h.is_new l p
        end = certificate-offset h done l p (ends_at (local_certificate h) law-limits written done l p e) e

        -- a row's number has two bytes, what has no value one
        apart : length l ≡ p + 1 → NoValue h (take p l) p → ⊥
        apart half none = ⊎_elim
            (λ (whole, _). omega (arith, whole, half))
            (λ (_, two). one-not-two l p (due-byte h l p (value-whole h l p none)) two)
            end

        no_row : length l ≡ p + 1 → NoSuchRow h (get_or (done ++ l) (length done + p) 0) → NoRow h l p
        no_row half low = record {
          half = half;
          before = ⊎_elim (λ s. s) (λ none. absurd (apart half none)) (before l p bundle_end_number bytes e);
          low = subst (λ (x : ℕ). length (rows_in h) ≤ x) (get_or-append-add done l p 0) low;
        }

    pub certificate-departs : (l : List ℕ) (p k : ℕ) → (k ≡ bundle_end_number → ⊥) → Bytes (done ++ l)
        → certificate h (done ++ l) (length done) ≡ refused k (length done + p)
        → CertificateDeparts h l p
    certificate-departs l p k other bytes e =
        let front = subst Bytes (take-append_seam done l) (bytes_take (length done) (done ++ l) bytes) in
        let d = departs-at (local_certificate h) law-limits written done l p k other front e in
        let there : p + 1 ≤ length l = ⊎_elim (λ one. omega (arith, one, d.2)) (λ two. omega (arith, two, d.2)) d.1 in
        let c = cut_at (local_certificate h) law-limits written done l p k e in
        let same : (i : ℕ) → i < p → get_or (take p l) i 0 ≡ get_or l i 0 = λ i less. get_or-take p l i 0 less in
        ⊎_elim
        (λ s. ⊎_elim
        (λ (_, at). let one = one_same (take p l) l p same at in inl (one, record { there = there; before = s; behind = one_byte front there one }))
        (λ (_, at). inr (inl (
          two_same (take p l) l p same at,
          ⊎_elim
              (λ one. inl (departs s d.0 1 one d.2 d.3))
              (λ two. inr (departs s d.0 2 two d.2 d.3))
              d.1,
        )))
        (certificate-offset h done (take p l) p (inl (length-take-le p l c.0)) c.1))
        (λ none. inr (inr (value-whole h l p none, there)))
        (before l p k bytes e)
      where
        departs : BeginsCertificate h (take p l) → (size n : ℕ) → size ≡ n → p + size ≤ length l → (BeginsCertificate h (take (p + size) l) → ⊥)
            → Departs (BeginsCertificate h) l p n
        departs s size n is there never = record {
          there = subst (λ (k : ℕ). p + k ≤ length l) is there;
          before = s;
          behind = subst (λ (k : ℕ). BeginsCertificate h (take (p + k) l) → ⊥) is never;
        }

        -- a field of one byte is not half there
        one_byte : Bytes done → p + 1 ≤ length l → OneByteAt h.is_new l p → BeginsCertificate h (take (p + 1) l) → ⊥
        one_byte front there at = byte-departs (local_certificate h) law-limits written done l p k other front there e
            (λ q. let size = length-take-le (p + 1) l there in ⊎_elim
            (λ (end, _). omega (arith, size, end))
            (λ (_, two). one-not-two l p at (two_same (take (p + 1) l) l p (λ i less. get_or-take (p + 1) l i 0 (omega (arith, less))) two))
            (certificate-offset h done (take (p + 1) l) p (inr size) q))
