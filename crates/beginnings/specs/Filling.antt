-- A bundle that ends too early can be filled up: with more bytes behind it, it is read to its end.
use Rattle.std.specs.Prelude.{◌≡◌, refl, Bool, true, ◌⊎◌, ℕ, zero, suc, ◌+◌, ◌*◌, ◌/◌, ◌%◌, ◌≤◌, ◌<◌, get_or, drop}
use Rattle.std.proofs.Common.{sym, ap, ap₂, ◌∙◌, mod-eq_of_lt, arith, length-append, drop_of_length-le, drop-cons}
use Rattle.std.proofs.Math.Path.{subst}
use Rattle.std.proofs.Math.Logic.{inl, inr, ⊎_elim}
use mathlib.Core.List.{List, [], ◌∷◌, ◌++◌, append_assoc, append-nil}
use Rattle.std.proofs.Math.Dec.{T}
use Rattle.std.proofs.Math.ListN.{length}
use Rattle.std.proofs.Math.Seq.{drop-length, drop-append_seam}
use Rattle.std.proofs.lemmas.List.{drop-append-le}
use Rattle.laws.specs.Booleans.{impossible, lt_or_le}
use Rattle.laws.specs.Numbers.{Bytes, bytes-append, le16, bytes-le16}
use Rattle.refusals.specs.Table.{bundle_end_number}
use Rattle.refusals.specs.Results.{refused, bind}
use Rattle.bundles.specs.Reading.{got, Reader, onward, ◌>>=◌, give, offset, require, byte, number, each, times}
use Rattle.bundles.specs.ReadingLaws.{Part, Law, and_then-got, field-got, law-byte, law-number}
use Rattle.bundles.specs.Causes.{and_then-refused, field-refused}
use Rattle.beginnings.specs.Local.{alike-less, alike-more, Local}

-- with `more` behind it, b is read from `at` to its end
pub record Filled {A : Type 0} (r : Reader A) (b : List ℕ) (at : ℕ) : Type 0 where
  pub more : List ℕ
  pub bytes : Bytes (b ++ more)
  pub item : A
  pub read : r (b ++ more) at ≡ got item (length (b ++ more))

-- from the end of any bundle r can be filled; and where it refuses one with 6, but inside a number whose low byte is so; what it reads is as P says
pub record Fills {A : Type 0} (Half : ℕ → Type 0) (r : Reader A) (P : A → Type 0) : Type 0 where
  pub holds : (b : List ℕ) → Bytes b → (at : ℕ) (x : A) (next : ℕ) → r b at ≡ got x next → P x
  pub starts : (b : List ℕ) → Bytes b → Filled r b (length b)
  pub ends : (b : List ℕ) → Bytes b → (at spot : ℕ) → at ≤ length b → r b at ≡ refused bundle_end_number spot
      → Filled r b at ⊎ ((length b ≡ spot + 1) × Half (get_or b spot 0))

-- ---- one reader behind another

module _ {Size : ℕ → Type 0} {A B : Type 0} {r : Reader A} (local : Local Size r) where
  -- the first is filled, then the second
  pub filled-then : (f : A → Reader B) (b : List ℕ) (at : ℕ) (s : Filled r b at) → Filled (f s.item) (b ++ s.more) (length (b ++ s.more))
      → Filled (r >>= f) b at
  unfolding bind onward
  filled-then f b at s t =
      let whole = append_assoc b s.more t.more in
      record {
        more = s.more ++ t.more;
        bytes = subst Bytes whole t.bytes;
        item = t.item;
        read = subst (λ (l : List ℕ). (r >>= f) l at ≡ got t.item (length l)) whole
            (rw (local.read (b ++ s.more) ((b ++ s.more) ++ t.more) at s.item (length (b ++ s.more)) s.read
            (alike-more (b ++ s.more) t.more))
            t.read);
      }

  -- the first is there, and the second is filled
  pub filled-behind : (f : A → Reader B) (b : List ℕ) (at : ℕ) (x : A) (mid : ℕ) → at ≤ length b → r b at ≡ got x mid → Filled (f x) b mid
      → Filled (r >>= f) b at
  unfolding bind onward
  filled-behind f b at x mid h is t = record {
    more = t.more;
    bytes = t.bytes;
    item = t.item;
    read = rw (local.read b (b ++ t.more) at x mid is (alike-less (local.within b at x mid is h) (alike-more b t.more))) t.read;
  }

  pub fills_then : {f : A → Reader B} {Half : ℕ → Type 0} {P : A → Type 0} {Q : B → Type 0} → Fills Half r P → ((x : A) → P x
      → Fills Half (f x) Q) → Fills Half (r >>= f) Q
  fills_then {f} {Half} {P} {Q} first rest = record {
    holds = λ b bytes at y next e.
        let s = and_then-got b (r b at) f y next e in
        (rest s.0 (first.holds b bytes at s.0 s.1 s.2)).holds b bytes s.1 y next s.3;
    starts = λ b bytes. on b (length b) (first.starts b bytes);
    ends = λ b bytes at spot h e. ⊎_elim
        (λ q. ⊎_elim (λ s. inl (on b at s)) inr (first.ends b bytes at spot h q))
        (λ (x, mid, is, q). ⊎_elim (λ t. inl (filled-behind f b at x mid h is t)) inr
        ((rest x (first.holds b bytes at x mid is)).ends b bytes mid spot (local.within b at x mid is h) q))
        ((and_then-refused b (r b at) f bundle_end_number spot).0 e);
  }
    where
      on : (b : List ℕ) (at : ℕ) → Filled r b at → Filled (r >>= f) b at
      on b at s = filled-then f b at s
          ((rest s.item (first.holds (b ++ s.more) s.bytes at s.item _ s.read)).starts (b ++ s.more) s.bytes)

-- no more is needed
pub nothing-more : {A : Type 0} {r : Reader A} (b : List ℕ) → Bytes b → (x : A) → r b (length b) ≡ got x (length b) → Filled r b (length b)
nothing-more {r = r} b bytes x e = record {
  more = [];
  bytes = rw append-nil bytes;
  item = x;
  read = subst (λ (l : List ℕ). r l (length b) ≡ got x (length l)) (sym (append-nil b)) e;
}

module _ {Half : ℕ → Type 0} where
  pub fills_give : {A : Type 0} {P : A → Type 0} (x : A) → P x → Fills Half (give x) P
  fills_give {A} {P} x p = record {
    holds = λ b bytes at y next e. let same : x ≡ y = cc in subst P same p;
    starts = λ b bytes. nothing-more b bytes x refl;
    ends = λ b bytes at spot h e. impossible cc;
  }

  pub fills_offset : Fills Half offset (λ start. Unit {0})
  fills_offset = record {
    holds = λ b bytes at y next e. tt;
    starts = λ b bytes. nothing-more b bytes (length b) refl;
    ends = λ b bytes at spot h e. impossible cc;
  }

  -- a test that is passed
  pub fills_passed : (number spot : ℕ) → Fills Half (require true number spot) (λ u. Unit {0})
  unfolding require
  fills_passed number spot = fills_give tt tt

  -- items for a list: what holds of those before is handed on
  module _ {Size : ℕ → Type 0} {S A : Type 0} {r : S → List A → Reader A} {P : List A → Type 0}
      (local : (s : S) (before : List A) → Local Size (r s before))
      (every : (s : S) (before : List A) → P before → Fills Half (r s before) (λ x. P (before ++ x ∷ []))) where
    pub fills_each : (ss : List S) (before : List A) → P before → Fills Half (each r ss before) P
    unfolding each
    fills_each [] before p = fills_give before p
    fills_each (s ∷ ss) before p = fills_then (local s before) (every s before p) (λ x q. fills_each ss (before ++ x ∷ []) q)

  -- whatever it reads
  pub fills_less : {A : Type 0} {r : Reader A} {P : A → Type 0} → Fills Half r P → Fills Half r (λ x. Unit {0})
  fills_less f = record { holds = λ b bytes at x next e. tt; starts = f.starts; ends = f.ends }

  pub fills_times : {Size : ℕ → Type 0} {A : Type 0} {r : Reader A} {P : A → Type 0} → Local Size r → Fills Half r P → (k : ℕ)
      → Fills Half (times k r) (λ xs. Unit {0})
  fills_times local one k = fills_each {P = λ xs. Unit {0}} (λ s before. local) (λ s before u. fills_less one) _ [] tt

-- ---- by the law of a reader: a valid value is written behind the bundle

pub part_end : (b x : List ℕ) → Part (b ++ x) (length b) x (length (b ++ x))
part_end b x = record {
  bytes = drop-append_seam b x ∙ sym (ap (λ (l : List ℕ). x ++ l) (drop-length (b ++ x)) ∙ append-nil x);
  end = length-append b x;
}

pub filled-law : {A : Type 0} {r : Reader A} {write : A → List ℕ} {Valid : A → Type 0} (b : List ℕ) (x : A) → Bytes (b ++ write x)
    → Law (b ++ write x) r write Valid → Valid x → Filled r b (length b)
filled-law {write = write} b x bytes law v = record {
  more = write x;
  bytes = bytes;
  item = x;
  read = law.complete (length b) x (length (b ++ write x)) v (part_end b (write x));
}

pub bytes_one : (x : ℕ) → x < 256 → Bytes (x ∷ [])
bytes_one x h zero = h
bytes_one x h (suc i) = omega arith

module _ {Half : ℕ → Type 0} (in_range : ℕ → Bool) (good : ℕ) (allowed : T (in_range good)) where
  -- a byte: by some value in its range
  pub fills_byte : good < 256 → Fills Half (byte in_range) (λ x. T (in_range x))
  unfolding byte
  fills_byte small = record {
    holds = λ b bytes at x next e. let g = field-got b 1 (get_or b at 0) in_range at x next e in subst (λ (k : ℕ). T (in_range k)) g.2 g.1;
    starts = filled;
    ends = λ b bytes at spot h e. ⊎_elim
        (λ (six, short). let end : length b ≡ at = omega (arith, h, short) in inl (subst (Filled (byte in_range) b) end (filled b bytes)))
        (λ (seven, there, bad). absurd (omega (arith, seven)))
        ((field-refused 1 (get_or b at 0) in_range b at bundle_end_number spot).0 e).1;
  }
    where
      filled : (b : List ℕ) → Bytes b → Filled (byte in_range) b (length b)
      filled b bytes =
          let bytes' = bytes-append b (good ∷ []) bytes (bytes_one good small) in
          filled-law b good bytes' (law-byte (b ++ good ∷ []) bytes' in_range) (allowed, small)

  -- a number: so, and behind its low byte by some high byte, but where that low byte is so
  module _ (small : good < 65536) (high : (low : ℕ) → low < 256 → ((up : ℕ) × (up < 256) × T (in_range (low + 256 * up))) ⊎ Half low) where
    number-starts : (b : List ℕ) → Bytes b → Filled (number in_range) b (length b)
    number-starts b bytes =
        let bytes' = bytes-append b (le16 good) bytes (bytes-le16 good) in
        filled-law b good bytes' (law-number (b ++ le16 good) bytes' in_range) (allowed, small)

    -- the high byte
    number-half : (b : List ℕ) → Bytes b → (at up : ℕ) → length b ≡ at + 1 → up < 256 → T (in_range (get_or b at 0 + 256 * up))
        → Filled (number in_range) b at
    number-half b bytes at up end below t =
        let low : ℕ = get_or b at 0 in
        let x : ℕ = low + 256 * up in
        let bytes' = bytes-append b (up ∷ []) bytes (bytes_one up below) in
        let first : x % 256 ≡ low = omega (arith, bytes at) in
        let quotient : x / 256 ≡ up = omega (arith, bytes at) in
        let second : x / 256 % 256 ≡ up = ap (λ (m : ℕ). m % 256) quotient ∙ mod-eq_of_lt below in
        let two : le16 x ≡ low ∷ up ∷ [] = ap₂ (λ (c d : ℕ). c ∷ d ∷ []) first second in
        let last : drop at b ≡ low ∷ [] =
        drop-cons b at 0 (omega (arith, end)) ∙ ap (λ (l : List ℕ). low ∷ l) (drop_of_length-le b {i = suc at} (omega (arith, end))) in
        let both : drop at (b ++ up ∷ []) ≡ low ∷ up ∷ [] =
        drop-append-le at b (up ∷ []) (omega (arith, end)) ∙ ap (λ (l : List ℕ). l ++ up ∷ []) last in
        let size : length (b ++ up ∷ []) ≡ at + 2 = omega (arith, length-append b (up ∷ []), end) in
        record {
          more = up ∷ [];
          bytes = bytes';
          item = x;
          read = (law-number (b ++ up ∷ []) bytes' in_range).complete at x (length (b ++ up ∷ [])) (t, omega (arith, bytes at))
              (record {
                bytes = both ∙ sym two ∙ sym (append-nil (le16 x)) ∙ ap (λ (l : List ℕ). le16 x ++ l) (sym (drop-length (b ++ up ∷ [])));
                end = size;
              });
        }

    pub fills_number : Fills Half (number in_range) (λ x. T (in_range x))
    unfolding number
    fills_number = record {
      holds = λ b bytes at x next e. let g = field-got b 2 _ in_range at x next e in subst (λ (k : ℕ). T (in_range k)) g.2 g.1;
      starts = number-starts;
      ends = λ b bytes at spot h e.
          let q = (field-refused 2 _ in_range b at bundle_end_number spot).0 e in
          ⊎_elim
          (λ (six, short). go b bytes at spot q.0 h short)
          (λ (seven, there, bad). absurd (omega (arith, seven)))
          q.1;
    }
      where
        inside : (b : List ℕ) → Bytes b → (at spot : ℕ) → spot ≡ at → length b ≡ at + 1
            → Filled (number in_range) b at ⊎ ((length b ≡ spot + 1) × Half (get_or b spot 0))
        inside b bytes at spot here end = ⊎_elim
            (λ (up, below, t). inl (number-half b bytes at up end below t))
            (λ half. inr (omega (arith, here, end), subst (λ (i : ℕ). Half (get_or b i 0)) (sym here) half))
            (high (get_or b at 0) (bytes at))

        go : (b : List ℕ) → Bytes b → (at spot : ℕ) → spot ≡ at → at ≤ length b → length b < at + 2
            → Filled (number in_range) b at ⊎ ((length b ≡ spot + 1) × Half (get_or b spot 0))
        go b bytes at spot here h short = ⊎_elim
            (λ less. let end : length b ≡ at = omega (arith, h, less) in inl (subst (Filled (number in_range) b) end (number-starts b bytes)))
            (λ most. inside b bytes at spot here (omega (arith, most, short)))
            (lt_or_le (length b) (at + 1))
