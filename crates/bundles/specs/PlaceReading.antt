-- Places: their bytes, the code's struct for one, and what the code keeps of those of a bundle.
use Rattle.std.specs.Prelude.{◌≡◌, Bool, cond, ◌⊎◌, List, [], ◌∷◌, ◌++◌, ℕ, suc, ◌+◌, ◌-◌, ◌*◌, ◌≤◌, ◌<◌, leb, length, get_or, Ok, Err}
use Rattle.std.proofs.Math.Path.{refl, ap, ap₂}
use Rattle.std.proofs.Common.{sym, ◌∙◌, subst, inl, inr, ⊎_elim, append_assoc, mul-one, suc-mul, mul-le-mul_right, add-one, length-append, take, drop}
use Rattle.std.proofs.Math.Bool.{true, false}
use native.Mathlib.Omega.{arith}
use Rattle.std.proofs.Math.Dec.{ltb}
use borrow.Author.Tests.{leb-true, ltb-true, ltb-false, le-ltb}
use Rattle.std.proofs.Math.ListN.{replicate, set, get_or-eq_default}
use Rattle.std.proofs.Math.Seq.{set-append_seam, take-append_seam}
use Rattle.std.proofs.lemmas.List.{set-get_or, drop-replicate}
use Rattle.laws.specs.Booleans.{impossible, lt_or_le}
use Rattle.laws.specs.Parts.{get_d_padded}
use Rattle.laws.specs.Numbers.{Bytes, number_at}
use Rattle.limits.specs.Limits.{max_events, max_places}
use Rattle.refusals.specs.Table.{bundle_end_number}
use Rattle.refusals.specs.Results.{value, refused, bind}
use Rattle.nets.specs.Nets as theory
use Rattle.places.specs.Machine.{place_of}
use Rattle.places.specs.declared.Place.{Place}
use Rattle.std.specs.Borrow.{Bor}
use Rattle.bundles.specs.Reading as reading
use Rattle.bundles.specs.Reading.{Read, got, item, byte, number, times, onward}
use Rattle.bundles.specs.Layout.{PlaceFields, to_place}
use Rattle.bundles.specs.Readers.{anything, place, places}
use Rattle.bundles.specs.FieldReading.{up_to, byte-got}
use Rattle.bundles.specs.ReadingLaws.{and_then-got}
use Rattle.bundles.specs.NumberReading.{Spans, spans_number, spans_give, spans_same, spans_then, spans_times, numbers_left, items_at, items-length, items_snoc, get_d_items}
use Rattle.refusals.specs.Answers.{refusal}
use Rattle.refusals.specs.declared.Refusal.{Refusal}
use Rattle.bundles.specs.Chains.{ReadAs, ReadBy, read_got, read-refused, →got, →refused}
use Rattle.bundles.specs.declared.Reader.{Reader}

-- ---- one place

-- the numbers of a place of n events: m, and two for each event
abbrev pub place_size : ℕ → ℕ
place_size n = 1 + 2 * n

-- n numbers from an offset on
abbrev pub numbers_at : ℕ → List ℕ → ℕ → List ℕ
numbers_at n b at = items_at 1 number_at n b at

abbrev pub fields_at : ℕ → List ℕ → ℕ → PlaceFields
fields_at n b at = record { initial = number_at b at; produced = numbers_at n b (at + 2); consumed = numbers_at n b (at + 2 + 2 * n) }

-- the place of n events at an offset
abbrev pub place_on : ℕ → List ℕ → ℕ → theory.Place
place_on n b at = to_place (fields_at n b at)

-- its numbers for event e
pub produced-at : (n : ℕ) (b : List ℕ) (at e : ℕ) → e < n → (place_on n b at).produced e ≡ number_at b (at + 2 * (1 + e))
unfolding to_place
produced-at n b at e h = get_d_items 1 number_at n b (at + 2) e 0 h ∙ ap (number_at b) (omega arith)

pub consumed-at : (n : ℕ) (b : List ℕ) (at e : ℕ) → e < n → (place_on n b at).consumed e ≡ number_at b (at + 2 * (1 + n + e))
unfolding to_place
consumed-at n b at e h = get_d_items 1 number_at n b (at + 2 + 2 * n) e 0 h ∙ ap (number_at b) (omega arith)

-- each number is a `u16`
module _ (b : List ℕ) (small : Bytes b) where
  number_small : (at : ℕ) → number_at b at < 65536
  unfolding number_at
  number_small at = omega (arith, small at, small (at + 1))

  numbers-small : (n at e : ℕ) → get_or (numbers_at n b at) e 0 < 65536
  numbers-small n at e = ⊎_elim
      (λ h. subst (λ (x : ℕ). x < 65536) (sym (get_d_items 1 number_at n b at e 0 h)) (number_small (at + 2 * (e * 1))))
      (λ h. subst (λ (x : ℕ). x < 65536)
      (sym (get_or-eq_default (numbers_at n b at) 0 (omega (arith, items-length 1 number_at n b at)))) (omega arith))
      (lt_or_le e n)

  pub place-small : (n at : ℕ)
      → ((place_on n b at).initial < 65536) × ((e : ℕ) → (place_on n b at).produced e < 65536) × ((e : ℕ) → (place_on n b at).consumed e < 65536)
  unfolding to_place
  place-small n at = (number_small at, numbers-small n (at + 2), numbers-small n (at + 2 + 2 * n))

pub spans_place : (n : ℕ) → Spans (place n) (place_size n) (fields_at n)
unfolding place
spans_place n =
    spans_same (omega (arith, mul-one n)) (λ b at. rw (mul-one n))
    (spans_then spans_number (λ m. spans_then numbers (λ ins.
    spans_then numbers (λ outs. spans_give (record { initial = m; produced = ins; consumed = outs })))))
  where
    numbers : Spans (times n (number anything)) (n * 1) (numbers_at n)
    numbers = spans_times 1 number_at spans_number n

-- twelve numbers, zero behind those given
unfoldable pub widened : List ℕ → List ℕ
widened xs = xs ++ replicate (max_events - length xs) 0

-- the code's place
unfoldable pub machine_place : PlaceFields → Place
machine_place p = record { initial = p.initial; produced = widened p.produced; consumed = widened p.consumed }

-- the code's place stands for what the fields do
pub place_means : (f : PlaceFields) → place_of (machine_place f) ≡ to_place f
unfolding machine_place widened to_place
place_means f = λ i. record {
  initial = f.initial;
  produced = λ x. get_d_padded f.produced (max_events - length f.produced) x 0 i;
  consumed = λ x. get_d_padded f.consumed (max_events - length f.consumed) x 0 i;
}

-- one number more
widened-set : (xs : List ℕ) (x : ℕ) → length xs < max_events → set (widened xs) (length xs) x ≡ widened (xs ++ x ∷ [])
unfolding widened
widened-set xs x h = go (max_events - length xs) (max_events - length (xs ++ x ∷ [])) (omega (arith, length-append xs (x ∷ [])))
  where
    go : (k j : ℕ) → k ≡ suc j → set (xs ++ replicate k 0) (length xs) x ≡ (xs ++ x ∷ []) ++ replicate j 0
    go k j e = rw e (set-append_seam xs 0 (replicate j 0) x ∙ sym (append_assoc xs (x ∷ []) (replicate j 0)))

-- a zero behind them
zero-set : (xs : List ℕ) (i : ℕ) → length xs ≤ i → set (widened xs) i 0 ≡ widened xs
unfolding widened
zero-set xs i h =
    ap (set (xs ++ replicate (max_events - length xs) 0) i) (sym (get_d_padded xs (max_events - length xs) i 0 ∙ get_or-eq_default xs 0 h))
    ∙ set-get_or (xs ++ replicate (max_events - length xs) 0) i 0

-- a row, filled number by number
module _ (b : List ℕ) (at : ℕ) where
  pub row-start : widened (numbers_at 0 b at) ≡ replicate max_events 0
  unfolding widened items_at
  row-start = refl

  pub row_next : (i : ℕ) → i < max_events → set (widened (numbers_at i b at)) i (number_at b (at + 2 * i)) ≡ widened (numbers_at (i + 1) b at)
  row_next i h =
      let size = items-length 1 number_at i b at in
      ap (λ (k : ℕ). set (widened (numbers_at i b at)) k (number_at b (at + 2 * i))) (sym size)
      ∙ widened-set (numbers_at i b at) (number_at b (at + 2 * i)) (omega arith)
      ∙ ap widened (sym (rw add-one (items_snoc 1 number_at i b at ∙ rw (mul-one i))))

  -- the first n of them, in front of zeros
  pub row_end : (n : ℕ) → take n (widened (numbers_at n b at)) ++ drop n (replicate max_events 0) ≡ widened (numbers_at n b at)
  unfolding widened
  row_end n =
      let xs = numbers_at n b at in
      let size : length xs ≡ n = items-length 1 number_at n b at in
      ap₂ ◌++◌
      (subst (λ (k : ℕ). take k (xs ++ replicate (max_events - length xs) 0) ≡ xs) size (take-append_seam xs _))
      (drop-replicate n max_events 0 ∙ ap (λ (k : ℕ). replicate (max_events - k) 0) (sym size))

-- a row of n numbers, after i turns that each write the number of an event, or zero from n on
module _ (n : ℕ) (b : List ℕ) (at : ℕ) where
  unfoldable pub kept_numbers : ℕ → List ℕ
  kept_numbers i = widened (numbers_at (cond (ltb i n) i n) b at)

  pub kept-start : n ≤ max_events → kept_numbers 0 ≡ replicate max_events 0
  unfolding kept_numbers
  kept-start few = go (ltb 0 n) refl
    where
      go : (t : Bool) → ltb 0 n ≡ t → widened (numbers_at (cond t 0 n) b at) ≡ replicate max_events 0
      go true e = row-start b at
      go false e = let none : n ≡ 0 = omega (arith, ltb-false 0 n e) in rw none (row-start b at)

  pub kept_next : (i : ℕ) → i < max_events → n ≤ max_events
      → set (kept_numbers i) i (cond (ltb i n) (number_at b (at + 2 * i)) 0) ≡ kept_numbers (i + 1)
  unfolding kept_numbers
  kept_next i h few = go (ltb i n) refl (ltb (i + 1) n) refl
    where
      go : (t : Bool) → ltb i n ≡ t → (u : Bool) → ltb (i + 1) n ≡ u
          → set (widened (numbers_at (cond t i n) b at)) i (cond t (number_at b (at + 2 * i)) 0) ≡ widened (numbers_at (cond u (i + 1) n) b at)
      go true e true f = row_next b at i h
      go true e false f = let last : i + 1 ≡ n = omega (arith, ltb-true i n e, ltb-false (i + 1) n f) in row_next b at i h ∙ rw last
      go false e true f = absurd (omega (arith, ltb-false i n e, ltb-true (i + 1) n f))
      go false e false f = zero-set (numbers_at n b at) i (omega (arith, items-length 1 number_at n b at, ltb-false i n e))

  pub kept-all : n ≤ max_events → kept_numbers max_events ≡ widened (numbers_at n b at)
  unfolding kept_numbers
  kept-all few = rw (le-ltb max_events n few)

-- ---- the places of a bundle

-- what the code keeps of them: the bundle and n, their count, and the offset of the first
pub record Kept : Type 0 where
  pub bundle : Bor (List ℕ)
  pub n : ℕ
  pub count : ℕ
  pub first : ℕ

-- the offset of place j
abbrev pub spot_of : Kept → ℕ → ℕ
spot_of net j = net.first + 2 * (j * place_size net.n)

-- the offset behind the last place
abbrev pub end_of : Kept → ℕ
end_of net = spot_of net net.count

-- the place there
abbrev pub place_there : Kept → ℕ → theory.Place
place_there net j = place_on net.n net.bundle.now (spot_of net j)

-- of places that end at `next`
abbrev pub kept_places : Bor (List ℕ) → ℕ → List PlaceFields → ℕ → Kept
kept_places bundle n ps next = record { bundle = bundle; n = n; count = length ps; first = next - 2 * (length ps * place_size n) }

unfoldable pub places_read : Bor (List ℕ) → ℕ → Read (List PlaceFields) → Read Kept
places_read bundle n (value (item ps next)) = got (kept_places bundle n ps next) next
places_read bundle n (refused number spot) = refused number spot

-- a reader of places, as the code keeps them
abbrev pub placed : Bor (List ℕ) → ℕ → reading.Reader (List PlaceFields) → reading.Reader Kept
placed bundle n r b at = places_read bundle n (r b at)

module _ (n : ℕ) (b : List ℕ) (at : ℕ) where
  pub places-failed : {number spot : ℕ} → byte (up_to max_places) b at ≡ refused number spot → places n b at ≡ refused number spot
  unfolding places bind onward
  places-failed e = rw (e)

  module _ {count first : ℕ} (e : byte (up_to max_places) b at ≡ got count first) where
    pub places-missing : numbers_left b first < count * place_size n → places n b at ≡ refused bundle_end_number (first + 2 * numbers_left b first)
    unfolding places bind onward
    places-missing h = rw (e) ((spans_times (place_size n) (fields_at n) (spans_place n) count).missing b first h)

    pub places-there : count * place_size n ≤ numbers_left b first
        → places n b at ≡ got (items_at (place_size n) (fields_at n) count b first) (first + 2 * (count * place_size n))
    unfolding places bind onward
    places-there h = rw (e) ((spans_times (place_size n) (fields_at n) (spans_place n) count).there b first h)

    pub places-kept : (bundle : Bor (List ℕ)) → count * place_size n ≤ numbers_left b first
        → places_read bundle n (places n b at)
        ≡ got (record { bundle = bundle; n = n; count = count; first = first }) (first + 2 * (count * place_size n))
    unfolding places_read
    places-kept bundle h =
        let size = items-length (place_size n) (fields_at n) count b first in
        let start : first + 2 * (count * place_size n) - 2 * (count * place_size n) ≡ first = omega arith in
        ap (places_read bundle n) (places-there h) ∙ rw (size, start)

-- the code's places, behind their count
module _ {old new : Reader} (n count : ℕ) (counted : ReadBy old new (Ok count) (byte (up_to max_places))) where
  pub count-few : count ≤ max_places
  count-few = leb-true count max_places (byte-got (up_to max_places) old.bytes.now old.at count new.at (read_got counted)).0

  pub read-missing : {A : Type 0} {means : A → Kept} → numbers_left new.bytes.now new.at < count * place_size n
      → ReadAs means old new (Err (refusal bundle_end_number (new.at + 2 * numbers_left new.bytes.now new.at))) (placed old.bytes n (places n))
  unfolding places_read
  read-missing short =
      let here = rw counted.bytes at short in
      →refused counted.bytes (rw counted.bytes (ap (places_read old.bytes n) (places-missing n old.bytes.now old.at (read_got counted) here)))

  pub read_kept : {A : Type 0} {means : A → Kept} → count * place_size n ≤ numbers_left new.bytes.now new.at → {x : A} {after : Reader}
      → means x ≡ record { bundle = new.bytes; n = n; count = count; first = new.at }
      → after ≡ record new { at = new.at + 2 * (count * place_size n) }
      → ReadAs means old after (Ok x) (placed old.bytes n (places n))
  read_kept there is ends =
      let here = rw counted.bytes at there in
      rw ends (→got counted.bytes (rw (is, counted.bytes) (places-kept n old.bytes.now old.at (read_got counted) old.bytes here)))

  -- they are inside the bundle
  pub kept-inside : count * place_size n ≤ numbers_left new.bytes.now new.at → new.at + 2 * (count * place_size n) ≤ length new.bytes.now
  kept-inside there =
      let field = byte-got (up_to max_places) old.bytes.now old.at count new.at (read_got counted) in
      let within : new.at ≤ length new.bytes.now = rw counted.bytes field.3 in
      let left : 2 * numbers_left new.bytes.now new.at ≤ length new.bytes.now - new.at = omega arith in
      omega (arith, there, within, left)

pub read-uncounted : {A : Type 0} {means : A → Kept} {old new : Reader} {e : Refusal} (n : ℕ) → ReadBy old new (Err e) (byte (up_to max_places))
    → ReadAs means old new (Err e) (placed old.bytes n (places n))
unfolding places_read
read-uncounted {A} {means} {old} n refuses =
    →refused refuses.bytes (ap (places_read old.bytes n) (places-failed n old.bytes.now old.at (read-refused refuses)))

-- places that were read: so many, one behind the other
pub record PlacesAt (n : ℕ) (b : List ℕ) (ps : List PlaceFields) (next : ℕ) : Type 0 where
  pub count : ℕ
  pub few : count ≤ max_places
  pub first : ℕ
  pub items : ps ≡ items_at (place_size n) (fields_at n) count b first
  pub end : next ≡ first + 2 * (count * place_size n)
  pub within : next ≤ length b

pub places-got : (n : ℕ) (b : List ℕ) (at : ℕ) (ps : List PlaceFields) (next : ℕ) → places n b at ≡ got ps next → PlacesAt n b ps next
unfolding places
places-got n b at ps next e =
    let m = and_then-got b (byte (λ k. leb k max_places) b at) (λ count. times count (place n)) ps next e in
    let counted = byte-got (λ k. leb k max_places) b at m.0 m.1 m.2 in
    go m.0 m.1 m.3 (leb-true m.0 max_places counted.0) counted.3 (lt_or_le (numbers_left b m.1) (m.0 * place_size n))
  where
    go : (count first : ℕ) → times count (place n) b first ≡ got ps next → count ≤ max_places → first ≤ length b
        → (numbers_left b first < count * place_size n) ⊎ (count * place_size n ≤ numbers_left b first) → PlacesAt n b ps next
    go count first r few h (inl less) =
        let refused = (spans_times (place_size n) (fields_at n) (spans_place n) count).missing b first less in
        impossible cc
    go count first r few h (inr there) =
        let read = (spans_times (place_size n) (fields_at n) (spans_place n) count).there b first there in
        let end : next ≡ first + 2 * (count * place_size n) = cc in
        record { count = count; few = few; first = first; items = (cc); end = end; within = omega arith }

-- place j of them lies in the bundle
pub place_inside : (n first count j size : ℕ) → j < count → first + 2 * (count * place_size n) ≤ size
    → first + 2 * (j * place_size n) + 2 * place_size n ≤ size
place_inside n first count j size h inside = omega (arith, mul-le-mul_right (place_size n) h, suc-mul j (place_size n))
