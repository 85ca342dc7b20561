-- Runs of two-byte numbers of any value. Whether they are there is one comparison, and where the first missing one stands is one division.
use Rattle.std.specs.Prelude.{◌≡◌, ◌⊎◌, length, get_or, replicate}
use Rattle.std.proofs.Math.Path.{refl, ap, ap₂}
use Rattle.std.proofs.Common.{sym, ◌∙◌, inl, inr, not-suc-le-zero}
use mathlib.Core.List.{List, [], ◌∷◌, ◌++◌, append_assoc, append-nil}
use Prim.Native.Nat.{ℕ, zero, suc, ◌+◌, ◌-◌, ◌*◌, ◌/◌, ◌≤◌, ◌<◌}
use Rattle.std.proofs.Math.Nat.{suc-mul, zero-mul}
use native.Mathlib.Omega.{arith}
use Rattle.laws.specs.Booleans.{lt_or_le}
use Rattle.laws.specs.Numbers.{number_at}
use Rattle.refusals.specs.Table.{bundle_end_number}
use Rattle.refusals.specs.Results.{refused, bind}
use Rattle.bundles.specs.Reading.{got, Reader, and_then, ◌>>=◌, give, number, each, times, onward}
use Rattle.bundles.specs.Readers.{anything}
use Rattle.bundles.specs.FieldReading.{number-missing, number-there}
use Rattle.bundles.specs.ReadingLaws.{ranged}

-- how many whole numbers stand from an offset on
abbrev pub numbers_left : List ℕ → ℕ → ℕ
numbers_left b at = (length b - at) / 2

-- r reads a run of k numbers, whatever they are; the value is made of the bytes
pub record Spans {A : Type 0} (r : Reader A) (k : ℕ) (value : List ℕ → ℕ → A) : Type 0 where
  pub there : (b : List ℕ) (at : ℕ) → k ≤ numbers_left b at → r b at ≡ got (value b at) (at + 2 * k)
  pub missing : (b : List ℕ) (at : ℕ) → numbers_left b at < k → r b at ≡ refused bundle_end_number (at + 2 * numbers_left b at)

pub spans_number : Spans (number anything) 1 number_at
unfolding ranged
spans_number = record {
  there = λ b at h. number-there anything b at (omega arith);
  missing = λ b at h. number-missing anything b at (omega arith) ∙ ap (refused bundle_end_number) (omega arith);
}

-- the same in other words
pub spans_same : {A : Type 0} {r : Reader A} {j k : ℕ} {v w : List ℕ → ℕ → A}
    → j ≡ k → ((b : List ℕ) (at : ℕ) → v b at ≡ w b at) → Spans r j v → Spans r k w
spans_same {j = j} {k} {v} {w} e same s = record {
  there = λ b at h. s.there b at (omega arith) ∙ ap₂ got (same b at) (ap (λ (i : ℕ). at + 2 * i) e);
  missing = λ b at h. s.missing b at (omega arith);
}

pub spans_give : {A : Type 0} (x : A) → Spans (give x) 0 (λ b at. x)
spans_give x = record { there = λ b at h. ap (got x) (omega arith); missing = λ b at h. absurd (not-suc-le-zero h) }

pub spans_then : {A B : Type 0} {r : Reader A} {f : A → Reader B} {j k : ℕ} {v : List ℕ → ℕ → A} {w : A → List ℕ → ℕ → B}
    → Spans r j v → ((x : A) → Spans (f x) k (w x)) → Spans (r >>= f) (j + k) (λ b at. w (v b at) b (at + 2 * j))
unfolding bind onward
spans_then {A} {B} {r} {f} {j} {k} {v} {w} s t = record { there = there; missing = λ b at h. missing b at h (lt_or_le (numbers_left b at) j) }
  where
    there : (b : List ℕ) (at : ℕ) → j + k ≤ numbers_left b at → and_then (r b at) f b ≡ got (w (v b at) b (at + 2 * j)) (at + 2 * (j + k))
    there b at h =
        let first : j ≤ numbers_left b at = omega arith in
        let second : k ≤ numbers_left b (at + 2 * j) = omega arith in
        let end : at + 2 * j + 2 * k ≡ at + 2 * (j + k) = omega arith in
        rw (s.there b at first) ((t (v b at)).there b (at + 2 * j) second ∙ rw end)

    missing : (b : List ℕ) (at : ℕ) → numbers_left b at < j + k → (numbers_left b at < j) ⊎ (j ≤ numbers_left b at)
        → and_then (r b at) f b ≡ refused bundle_end_number (at + 2 * numbers_left b at)
    missing b at h (inl less) = rw (s.missing b at less)
    missing b at h (inr more) =
        let second : numbers_left b (at + 2 * j) < k = omega arith in
        let spot : at + 2 * j + 2 * numbers_left b (at + 2 * j) ≡ at + 2 * numbers_left b at = omega arith in
        rw (s.there b at more) ((t (v b at)).missing b (at + 2 * j) second ∙ ap (refused bundle_end_number) spot)

-- ---- items of one size

-- k items of `size` numbers each
unfoldable pub items_at : {A : Type 0} → ℕ → (List ℕ → ℕ → A) → ℕ → List ℕ → ℕ → List A
items_at size value zero b at = []
items_at size value (suc k) b at = value b at ∷ items_at size value k b (at + 2 * size)

module _ {A : Type 0} (size : ℕ) (value : List ℕ → ℕ → A) where
  pub items-length : (k : ℕ) (b : List ℕ) (at : ℕ) → length (items_at size value k b at) ≡ k
  unfolding items_at
  items-length zero b at = refl
  items-length (suc k) b at = ap suc (items-length k b (at + 2 * size))

  -- one item more, behind the others
  pub items_snoc : (k : ℕ) (b : List ℕ) (at : ℕ)
      → items_at size value (suc k) b at ≡ items_at size value k b at ++ value b (at + 2 * (k * size)) ∷ []
  unfolding items_at
  items_snoc zero b at = let here : at + 2 * (0 * size) ≡ at = omega (arith, zero-mul size) in rw here
  items_snoc (suc k) b at =
      let here : at + 2 * size + 2 * (k * size) ≡ at + 2 * (suc k * size) = omega (arith, suc-mul k size) in
      ap {B = List A} (λ l. value b at ∷ l) (items_snoc k b (at + 2 * size) ∙ rw here)

  -- those behind the first j
  pub items-append : (j k : ℕ) (b : List ℕ) (at : ℕ)
      → items_at size value (j + k) b at ≡ items_at size value j b at ++ items_at size value k b (at + 2 * (j * size))
  unfolding items_at
  items-append zero k b at =
      let here : at + 2 * (0 * size) ≡ at = omega (arith, zero-mul size) in
      let none : 0 + k ≡ k = omega arith in
      rw (here, none)
  items-append (suc j) k b at =
      let here : at + 2 * size + 2 * (j * size) ≡ at + 2 * (suc j * size) = omega (arith, suc-mul j size) in
      let more : suc j + k ≡ suc (j + k) = omega arith in
      rw more (ap {B = List A} (λ l. value b at ∷ l) (items-append j k b (at + 2 * size) ∙ rw here))

  pub get_d_items : (k : ℕ) (b : List ℕ) (at j : ℕ) (d : A) → j < k → get_or (items_at size value k b at) j d ≡ value b (at + 2 * (j * size))
  unfolding items_at
  get_d_items zero b at j d h = absurd (not-suc-le-zero h)
  get_d_items (suc k) b at zero d h = let here : at + 2 * (0 * size) ≡ at = omega (arith, zero-mul size) in rw here
  get_d_items (suc k) b at (suc j) d h =
      let here : at + 2 * size + 2 * (j * size) ≡ at + 2 * (suc j * size) = omega (arith, suc-mul j size) in
      get_d_items k b (at + 2 * size) j d (omega arith) ∙ rw here

  module _ {r : Reader A} (s : Spans r size value) where
    each-there : (k : ℕ) (before : List A) (b : List ℕ) (at : ℕ) → k * size ≤ numbers_left b at
        → each (λ (u : Unit {0}) items. r) (replicate k (tt {0})) before b at ≡ got (before ++ items_at size value k b at) (at + 2 * (k * size))
    unfolding each bind onward items_at
    each-there zero before b at h = ap₂ got (sym (append-nil before)) (omega (arith, zero-mul size))
    each-there (suc k) before b at h =
        let more = suc-mul k size in
        let first : size ≤ numbers_left b at = omega arith in
        let others : k * size ≤ numbers_left b (at + 2 * size) = omega arith in
        let end : at + 2 * size + 2 * (k * size) ≡ at + 2 * (suc k * size) = omega arith in
        rw (s.there b at first)
        (each-there k (before ++ value b at ∷ []) b (at + 2 * size) others
        ∙ ap₂ got (append_assoc before (value b at ∷ []) (items_at size value k b (at + 2 * size))) end)

    each-missing : (k : ℕ) (before : List A) (b : List ℕ) (at : ℕ) → numbers_left b at < k * size
        → each (λ (u : Unit {0}) items. r) (replicate k (tt {0})) before b at ≡ refused bundle_end_number (at + 2 * numbers_left b at)
    unfolding each bind onward
    each-missing zero before b at h = absurd (omega (arith, zero-mul size))
    each-missing (suc k) before b at h = go (lt_or_le (numbers_left b at) size) (each-missing k)
      where
        go : (numbers_left b at < size) ⊎ (size ≤ numbers_left b at)
            → ((items : List A) (b' : List ℕ) (at' : ℕ) → numbers_left b' at' < k * size
            → each (λ (u : Unit {0}) before'. r) (replicate k (tt {0})) items b' at' ≡ refused bundle_end_number (at' + 2 * numbers_left b' at'))
            → and_then (r b at) (λ x. each (λ (u : Unit {0}) items. r) (replicate k (tt {0})) (before ++ x ∷ [])) b
            ≡ refused bundle_end_number (at + 2 * numbers_left b at)
        go (inl less) below = rw (s.missing b at less)
        go (inr more) below =
            let product = suc-mul k size in
            let others : numbers_left b (at + 2 * size) < k * size = omega arith in
            let spot : at + 2 * size + 2 * numbers_left b (at + 2 * size) ≡ at + 2 * numbers_left b at = omega arith in
            rw (s.there b at more) (below (before ++ value b at ∷ []) b (at + 2 * size) others ∙ ap (refused bundle_end_number) spot)

    pub spans_times : (k : ℕ) → Spans (times k r) (k * size) (items_at size value k)
    spans_times k = record { there = each-there k []; missing = each-missing k [] }
