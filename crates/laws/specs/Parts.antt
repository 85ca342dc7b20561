-- Parts of lists: a new front, a new middle, a part of a part.
use Rattle.std.specs.Prelude.{◌≡◌, refl, ℕ, zero, suc, ◌+◌, ◌-◌, ◌≤◌, ◌<◌, min, get_or, set, replicate}
use Rattle.std.proofs.Common.{sym, ⊎_elim, ◌∙◌, add-zero, add_assoc, arith, take-append-drop, take_at, take-take, take-add}
use Rattle.std.proofs.Math.Path.{ap}
use mathlib.Core.List.{List, [], ◌∷◌, ◌++◌, append_assoc, append-nil}
use Rattle.std.proofs.Math.Nat.{zero-add, zero-min, min-zero, suc-min-suc}
use Rattle.std.proofs.Math.ListN.{length, take, drop, length-append, length-drop, drop_of_length-le}
use Rattle.std.proofs.lemmas.List.{length-replicate, replicate-append-replicate}
use Rattle.std.proofs.Math.Seq.{ext_get_or, get_or-drop, drop_at, length-take-le, drop-append_seam, take_all, take-length, sets-eq, take-append_seam, drop-append-add, drop-drop}
use Rattle.std.proofs.lemmas.List.Edits.{sets}
use Rattle.laws.specs.Booleans.{lt_or_le}

module _ {A : Type 0} where
  -- `new` in front of a list, over as many of its elements
  unfoldable pub front : List A → List A → List A
  front new l = new ++ drop (length new) l

  -- `new` in a list from index `at` on, over as many of its elements
  unfoldable pub spliced : ℕ → List A → List A → List A
  spliced at new l = take at l ++ new ++ drop (at + length new) l

  -- the front of such a list
  pub take-front : (new l : List A) → take (length new) (front new l) ≡ new
  unfolding front
  take-front new l = take-append_seam new (drop (length new) l)

  -- the next piece, written after those in front
  pub front-next : (done piece l : List A) → spliced (length done) piece (front done l) ≡ front (done ++ piece) l
  unfolding front spliced
  front-next done piece l = simp (take-append_seam, drop-append-add, drop-drop, length-append, append_assoc)

  -- a new front that was written lies within the list
  pub front-within : (new l after : List A) (n : ℕ) → n ≡ length new → after ≡ front new l → n ≤ length after
  unfolding front
  front-within new l after n size is = omega (arith, ap length is, length-append new (drop (length new) l))

  -- it is as long as before, and behind the new elements as it was
  pub front_rest : (new l after : List A) (n : ℕ) → n ≡ length new → after ≡ front new l → length new ≤ length l → (length after ≡ length l) × (drop n after ≡ drop n l)
  unfolding front
  front_rest new l after n size is fits =
      rw (size, is) (length-append new (drop (length new) l) ∙ rw length-drop (omega arith), drop-append_seam new (drop (length new) l))

  -- no elements
  pub spliced-none : (at : ℕ) (l : List A) → spliced at [] l ≡ l
  unfolding spliced
  spliced-none at l = rw (append-nil, add-zero) (take-append-drop at l)

  -- from index 0 on
  pub spliced-front : (new l : List A) → spliced 0 new l ≡ front new l
  unfolding front spliced
  spliced-front new l = rw zero-add

  -- a piece written behind another
  pub spliced-next : (at : ℕ) (a b l : List A) → at ≤ length l → spliced (at + length a) b (spliced at a l) ≡ spliced at (a ++ b) l
  unfolding spliced
  spliced-next at a b l h =
      let size : length (take at l ++ a) ≡ at + length a = simp (length-append, length-take-le at l h) in
      rw (← size, take-append_seam, drop-append-add, drop-drop, size) (simp (length-append, append_assoc, add_assoc))

  pub length-spliced : (at : ℕ) (new l : List A) → at + length new ≤ length l → length (spliced at new l) ≡ length l
  unfolding spliced
  length-spliced at new l h = simp (length-append, length-drop) (omega (arith, length-take-le at l (omega arith)))

  -- stores one after the other
  pub spliced_sets : (at : ℕ) (new l : List A) → at + length new ≤ length l → sets l at new ≡ spliced at new l
  unfolding spliced
  spliced_sets at new l h = sets-eq new l at h

  -- one element more behind a piece
  pub spliced_snoc : (at : ℕ) (a l : List A) (x : A) → at + length a < length l → set (spliced at a l) (at + length a) x ≡ spliced at (a ++ x ∷ []) l
  spliced_snoc at a l x h =
      spliced_sets (at + length a) (x ∷ []) (spliced at a l) (omega (arith, length-spliced at a l (omega arith))) ∙ spliced-next at a (x ∷ []) l (omega arith)

  -- and where all of them are the same
  pub spliced-again : (at i : ℕ) (l : List A) (x : A) → at + i < length l → set (spliced at (replicate i x) l) (at + i) x ≡ spliced at (replicate (i + 1) x) l
  spliced-again at i l x h =
      let size = length-replicate i x in
      ap (λ (k : ℕ). set (spliced at (replicate i x) l) (at + k) x) (sym size)
      ∙ spliced_snoc at (replicate i x) l x (omega (arith, size))
      ∙ ap (λ (t : List A). spliced at t l) (replicate-append-replicate i 1 x)

  -- the piece, read back
  pub part-spliced : (at n : ℕ) (new l : List A) → length new ≡ n → at ≤ length l → take n (drop at (spliced at new l)) ≡ new
  unfolding spliced
  part-spliced at n new l size h =
      rw (append_assoc, drop_at (take at l) (new ++ drop (at + length new) l) at (length-take-le at l h)) (take_at new (drop (at + length new) l) n size)

  -- a copy into the part of a list from `at` on, as the list has it afterwards
  pub spliced-part : (at : ℕ) (new l : List A) → at ≤ length l
      → take at l ++ (take (length new) new ++ drop (length new) (take (length l - at) (drop at l)) ++ drop (length l - at) (drop at l)) ≡ spliced at new l
  unfolding spliced
  spliced-part at new l h =
      let rest : take (length l - at) (drop at l) ≡ drop at l = take_all (length l - at) (drop at l) (omega (arith, length-drop at l)) in
      let none : drop (length l - at) (drop at l) ≡ [] = drop_of_length-le (drop at l) {i = length l - at} (omega (arith, length-drop at l)) in
      simp (take-length, rest, none, append-nil, drop-drop, append_assoc)

  -- a part within a part
  pub take-drop-take : (n m size : ℕ) (l : List A) → m + n ≤ size → take n (drop m (take size l)) ≡ take n (drop m l)
  take-drop-take n zero size l h = take-take n size l (omega arith)
  take-drop-take n (suc m) zero l h = absurd (omega arith)
  take-drop-take n (suc m) (suc size) [] h = refl
  take-drop-take n (suc m) (suc size) (x ∷ l) h = take-drop-take n m size l (omega arith)

  -- two parts, one after the other
  pub adjacent : (n m at : ℕ) (l : List A) → take n (drop at l) ++ take m (drop (at + n) l) ≡ take (n + m) (drop at l)
  adjacent n m at l = rw (take-add, drop-drop)

  -- as many elements as there are
  pub take_min : (n : ℕ) (l : List A) → take (min n (length l)) l ≡ take n l
  take_min zero l = rw zero-min
  take_min (suc n) [] = rw min-zero
  take_min (suc n) (x ∷ l) = rw suc-min-suc (ap (λ (t : List A). x ∷ t) (take_min n l))

  -- what stands past the end of a list is the default, so more of it there changes nothing
  pub get_d_padded : (l : List A) (k i : ℕ) (d : A) → get_or (l ++ replicate k d) i d ≡ get_or l i d
  get_d_padded [] zero i d = refl
  get_d_padded [] (suc k) zero d = refl
  get_d_padded [] (suc k) (suc i) d = get_d_padded [] k i d
  get_d_padded (x ∷ l) k zero d = refl
  get_d_padded (x ∷ l) k (suc i) d = get_d_padded l k i d

-- lists that agree from m on agree from a later index on
pub drop_more : (m n : ℕ) (a b : List ℕ) → m ≤ n → drop m a ≡ drop m b → drop n a ≡ drop n b
drop_more m n a b h e =
    let split : n ≡ m + (n - m) = omega arith in
    rw (split, ← drop-drop (n - m) m a, ← drop-drop (n - m) m b, e)

-- two lists of numbers that agree in front and behind
pub same_parts : (k : ℕ) (l m : List ℕ) → length l ≡ length m → ((j : ℕ) → j < k → get_or l j 0 ≡ get_or m j 0) → drop k l ≡ drop k m → l ≡ m
same_parts k l m size front rest = ext_get_or 0 l m size (λ j h. ⊎_elim
    (front j)
    (λ past.
    let at : k + (j - k) ≡ j = omega (arith, past) in
    ap (λ (i : ℕ). get_or l i 0) (sym at) ∙ sym (get_or-drop k l (j - k) 0) ∙ ap (λ (x : List ℕ). get_or x (j - k) 0) rest
    ∙ get_or-drop k m (j - k) 0 ∙ ap (λ (i : ℕ). get_or m i 0) at)
    (lt_or_le j k))

pub same_halves : {A : Type 0} (k : ℕ) (l m : List A) → take k l ≡ take k m → drop k l ≡ drop k m → l ≡ m
same_halves {A} k l m front rest =
    sym (take-append-drop k l) ∙ ap (λ (x : List A). x ++ drop k l) front
    ∙ ap (λ (x : List A). take k m ++ x) rest ∙ take-append-drop k m
