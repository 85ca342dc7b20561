-- Where a reader stops, by the bytes that it should read: from its law (what it reads is what is written), its being local and its being filled.
use Rattle.std.specs.Prelude.{◌≡◌, refl, List, ◌++◌, ℕ, ◌+◌, ◌≤◌, length, take, drop}
use Rattle.std.proofs.Common.{sym, ap, ◌∙◌, subst, inl, inr, ⊎_elim, append_assoc, append-nil, add_assoc, arith}
use Rattle.std.proofs.Common.{length-append, take-append-drop, length-take-le}
use Rattle.std.proofs.Math.Seq.{drop-length, drop-append_seam, take-append-add}
use Rattle.laws.specs.Booleans.{impossible, lt_or_le}
use Rattle.laws.specs.Numbers.{Bytes, bytes-append}
use Rattle.refusals.specs.Table.{bundle_end_number}
use Rattle.refusals.specs.Results.{refused}
use Rattle.bundles.specs.Reading.{Read, got, Reader}
use Rattle.bundles.specs.ReadingLaws.{Law}
use Rattle.beginnings.specs.Beginnings.{Begins, EndsAt}
use Rattle.beginnings.specs.Local.{Alike, alike-front, alike-take, Local}
use Rattle.beginnings.specs.Filling.{Filled, part_end}

-- a beginning's own beginning is one
pub begins-less : {A : Type 0} {write : A → List ℕ} {Valid : A → Type 0} (l m : List ℕ) → Begins write Valid (l ++ m) → Begins write Valid l
begins-less l m s = record { whole = s.whole; limits = s.limits; rest = m ++ s.rest; bytes = s.bytes ∙ append_assoc l m s.rest }

module _ {A : Type 0} {Size : ℕ → Type 0} {r : Reader A} {write : A → List ℕ} {Valid : A → Type 0} (local : Local Size r)
    (laws : (b : List ℕ) → Bytes b → Law b r write Valid) (written : (x : A) → Valid x → Bytes (write x)) (done : List ℕ) where
  -- what is filled up from l is a value's bytes
  pub filled-item : (l : List ℕ) (s : Filled r (done ++ l) (length done)) → Valid s.item × (write s.item ≡ l ++ s.more)
  filled-item l s =
      let c = (done ++ l) ++ s.more in
      let q = (laws c s.bytes).sound (length done) s.item (length c) s.read in
      let left : drop (length done) c ≡ l ++ s.more =
      ap (drop (length done)) (append_assoc done l s.more) ∙ drop-append_seam done (l ++ s.more) in
      let right : drop (length done) c ≡ write s.item =
      q.1.bytes ∙ ap (λ (t : List ℕ). write s.item ++ t) (drop-length c) ∙ append-nil (write s.item) in
      (q.0, sym right ∙ left)

  pub filled-begins : (l : List ℕ) → Filled r (done ++ l) (length done) → Begins write Valid l
  filled-begins l s = let q = filled-item l s in record { whole = s.item; limits = q.0; rest = s.more; bytes = q.1 }

  module _ (l : List ℕ) (p : ℕ) where
    size : length (done ++ l) ≡ length done + length l
    size = length-append done l

    -- 6: the bytes end at the spot, or one behind it
    pub ends_at : r (done ++ l) (length done) ≡ refused bundle_end_number (length done + p) → EndsAt l p
    ends_at e =
        let s = local.stop (done ++ l) (length done) bundle_end_number (length done + p) (omega (arith, size)) e in
        ⊎_elim
        (λ (six, short). ⊎_elim
        (λ less. inl (omega (arith, size, s.to, less)))
        (λ more. inr (omega (arith, size, short, more)))
        (lt_or_le (length l) (p + 1)))
        (λ (other, field). absurd (other refl))
        s.cause

    -- any refusal: without what stands at the spot and behind it, the bytes are refused there with 6
    pub cut_at : (k : ℕ) → r (done ++ l) (length done) ≡ refused k (length done + p)
        → (p ≤ length l) × (r (done ++ take p l) (length done) ≡ refused bundle_end_number (length done + p))
    cut_at k e =
        let s = local.stop (done ++ l) (length done) k (length done + p) (omega (arith, size)) e in
        let inside : p ≤ length l = omega (arith, size, s.to) in
        let cut : take (length done + p) (done ++ l) ≡ done ++ take p l = take-append-add done l p in (
          inside,
          s.cut (done ++ take p l) (subst (Alike (length done + p) (done ++ l)) cut (alike-take (length done + p) (done ++ l) s.to))
              (length-append done (take p l) ∙ ap (λ (n : ℕ). length done + n) (length-take-le p l inside)),
        )

    -- any but 6: with the field at the spot they are no beginning of a value's bytes
    pub departs-at : (k : ℕ) → (k ≡ bundle_end_number → ⊥) → Bytes done → r (done ++ l) (length done) ≡ refused k (length done + p)
        → (size : ℕ) × Size size × (p + size ≤ length l) × (Begins write Valid (take (p + size) l) → ⊥)
    departs-at k other bytes e =
        let s = local.stop (done ++ l) (length done) k (length done + p) (omega (arith, size)) e in
        ⊎_elim
        (λ (six, short). absurd (other six))
        (λ (differs, (field, sized, there, again)). (field, sized, omega (arith, size, there), never field there again))
        s.cause
      where
        differ : {n spot next : ℕ} {x : A} → ◌≡◌ {A = Read A} (refused n spot) (got x next) → ⊥
        differ e = impossible cc

        never : (field : ℕ) → length done + p + field ≤ length (done ++ l)
            → ((c : List ℕ) → Alike (length done + p + field) (done ++ l) c → r c (length done) ≡ refused k (length done + p))
            → Begins write Valid (take (p + field) l) → ⊥
        never field there again s =
            let c = done ++ write s.whole in
            let front : take (length done + p + field) (done ++ l) ≡ done ++ take (p + field) l =
            ap (λ (n : ℕ). take n (done ++ l)) (add_assoc (length done) p field) ∙ take-append-add done l (p + field) in
            let same : take (length done + p + field) (done ++ l) ++ s.rest ≡ c =
            ap (λ (t : List ℕ). t ++ s.rest) front ∙ append_assoc done (take (p + field) l) s.rest
            ∙ ap (λ (t : List ℕ). done ++ t) (sym s.bytes) in
            let alike = subst (Alike (length done + p + field) (done ++ l)) same
            (alike-front (length done + p + field) (done ++ l) s.rest there) in
            let bytes' = bytes-append done (write s.whole) bytes (written s.whole s.limits) in
            let read = (laws c bytes').complete (length done) s.whole (length c) s.limits (part_end done (write s.whole)) in
            let refuses = again c alike in
            differ (sym refuses ∙ read)

  -- any but 6, where the first byte at the spot is a whole field: with that byte they are none
  pub byte-departs : (l : List ℕ) (p k : ℕ) → (k ≡ bundle_end_number → ⊥) → Bytes done → p + 1 ≤ length l
      → r (done ++ l) (length done) ≡ refused k (length done + p)
      → (r (done ++ take (p + 1) l) (length done) ≡ refused bundle_end_number (length done + p) → ⊥) → Begins write Valid (take (p + 1) l) → ⊥
  byte-departs l p k other bytes there e whole begins =
      let s = local.stop (done ++ l) (length done) k (length done + p) (omega (arith, size l p)) e in
      let cut : take (length done + p + 1) (done ++ l) ≡ done ++ take (p + 1) l =
      ap (λ (n : ℕ). take n (done ++ l)) (add_assoc (length done) p 1) ∙ take-append-add done l (p + 1) in
      let alike = subst (Alike (length done + p + 1) (done ++ l)) cut
      (alike-take (length done + p + 1) (done ++ l) (omega (arith, size l p, there))) in
      let end : length (done ++ take (p + 1) l) ≡ length done + p + 1 =
      omega (arith, length-append done (take (p + 1) l), length-take-le (p + 1) l there) in
      ⊎_elim again whole (s.half other (done ++ take (p + 1) l) alike end)
    where
      again : r (done ++ take (p + 1) l) (length done) ≡ refused k (length done + p) → ⊥
      again q =
          let d = departs-at (take (p + 1) l) p k other bytes q in
          let part = take-append-drop (p + d.0) (take (p + 1) l) in
          d.3 (begins-less (take (p + d.0) (take (p + 1) l)) (drop (p + d.0) (take (p + 1) l)) (subst (Begins write Valid) (sym part) begins))
