-- Reading undoes writing: the law of a reader, for each kind of field, for sequences and for lists.
use Rattle.std.specs.Prelude.{◌≡◌, Bool, ℕ, zero, suc, ◌+◌, ◌*◌, ◌/◌, ◌%◌, ◌≤◌, ◌<◌, drop, replicate}
use Rattle.std.proofs.Math.Path.{refl, sym, ap, ap₂, subst}
use Rattle.std.proofs.Common.{◌∙◌, add-zero, add-one, arith, le-leb, leb→le, length-append, length-drop, drop-cons, drop-drop, get_or-drop}
use Rattle.std.proofs.Math.Bool.{true, false, cond}
use mathlib.Core.List.{List, [], ◌∷◌, ◌++◌, append_assoc, append-nil, flat_map}
use Rattle.std.proofs.Math.Nat.{mod-eq_of_lt}
use Rattle.std.proofs.Math.Dec.{T, leb}
use Rattle.std.proofs.Math.ListN.{length, get_or}
use Rattle.std.proofs.Math.Seq.{drop-append_seam}
use Rattle.laws.specs.Booleans.{impossible, yes_true}
use Rattle.laws.specs.Every.{Every}
use Rattle.laws.specs.Numbers.{Bytes, le16, number_at}
use Rattle.refusals.specs.Table.{bundle_end_number, value_number}
use Rattle.refusals.specs.Results.{value, refused, bind}
use Rattle.bundles.specs.Reading.{Read, got, item, Reader, and_then, ◌>>=◌, ◌>>◌, give, offset, require, field, byte, number, each, following, times, onward}

-- ---- a part of a bundle

-- the bytes x stand in b at an offset, and `next` is the offset behind them
pub record Part (b : List ℕ) (at : ℕ) (x : List ℕ) (next : ℕ) : Type 0 where
  pub bytes : drop at b ≡ x ++ drop next b
  pub end : next ≡ at + length x

module _ (b : List ℕ) where
  pub part-empty : (at : ℕ) → Part b at [] at
  part-empty at = record { bytes = refl; end = omega arith }

  -- the front of a bundle
  pub part-front : (x rest : List ℕ) → b ≡ x ++ rest → Part b 0 x (length x)
  part-front x rest e =
      record { bytes = e ∙ ap (λ (l : List ℕ). x ++ l) (sym (ap (drop (length x)) e ∙ drop-append_seam x rest)); end = omega arith }

  pub part-append : (at mid next : ℕ) (x y : List ℕ) → Part b at x mid → Part b mid y next → Part b at (x ++ y) next
  part-append at mid next x y p q = record {
    bytes = p.bytes ∙ ap (λ (l : List ℕ). x ++ l) q.bytes ∙ sym (append_assoc x y (drop next b));
    end = omega (arith, length-append x y, p.end, q.end);
  }

  -- the two parts of a part
  pub part_left : (at next : ℕ) (x y : List ℕ) → Part b at (x ++ y) next → Part b at x (at + length x)
  part_left at next x y p = record { bytes = split ∙ ap (λ (l : List ℕ). x ++ l) (sym rest); end = refl }
    where
      split : drop at b ≡ x ++ (y ++ drop next b)
      split = p.bytes ∙ append_assoc x y (drop next b)

      rest : drop (at + length x) b ≡ y ++ drop next b
      rest = sym (drop-drop (length x) at b) ∙ ap (drop (length x)) split ∙ drop-append_seam x (y ++ drop next b)

  pub part_right : (at next : ℕ) (x y : List ℕ) → Part b at (x ++ y) next → Part b (at + length x) y next
  part_right at next x y p = record {
    bytes = sym (drop-drop (length x) at b)
        ∙ ap (drop (length x)) (p.bytes ∙ append_assoc x y (drop next b))
        ∙ drop-append_seam x (y ++ drop next b);
    end = omega (arith, length-append x y, p.end);
  }

-- ---- the law of a reader

-- on the bundle b, r gets exactly the valid values whose bytes stand at the offset
pub record Law {A : Type 0} (b : List ℕ) (r : Reader A) (write : A → List ℕ) (Valid : A → Type 0) : Type 0 where
  pub sound : (at : ℕ) (x : A) (next : ℕ) → r b at ≡ got x next → Valid x × Part b at (write x) next
  pub complete : (at : ℕ) (x : A) (next : ℕ) → Valid x → Part b at (write x) next → r b at ≡ got x next

module _ {A B : Type 0} (b : List ℕ) where
  pub and_then-got : (m : Read A) (f : A → Reader B) (y : B) (next : ℕ) → and_then m f b ≡ got y next
      → (x : A) × (mid : ℕ) × (m ≡ got x mid) × (f x b mid ≡ got y next)
  unfolding bind onward
  and_then-got (value (item x mid)) f y next e = (x, mid, refl, e)
  and_then-got (refused refusal spot) f y next e = impossible cc

  -- one reader after another: `first` is what the first one read, which the second one's value shows
  module _ {r : Reader A} {write : A → List ℕ} {Valid : A → Type 0} (law : Law b r write Valid) where
    pub law-then : {f : A → Reader B} {write' : A → B → List ℕ} {Valid' : A → B → Type 0} (first : B → A)
        → ((x : A) → Valid x → Law b (f x) (write' x) (Valid' x))
        → ((x : A) → Valid x → (y : B) → Valid' x y → first y ≡ x)
        → Law b (r >>= f) (λ y. write (first y) ++ write' (first y) y) (λ y. Valid (first y) × Valid' (first y) y)
    unfolding bind onward
    law-then {f} {write'} {Valid'} first laws shown = record {
      sound = λ at y next e.
          let s = and_then-got (r b at) f y next e in
          let p = law.sound at s.0 s.1 s.2 in
          let q = (laws s.0 p.0).sound s.1 y next s.3 in
          subst (λ (x : A). (Valid x × Valid' x y) × Part b at (write x ++ write' x y) next) (sym (shown s.0 p.0 y q.0))
          ((p.0, q.0), part-append b at s.1 next (write s.0) (write' s.0 y) p.1 q.1);
      complete = λ at y next v p.
          rw (law.complete at (first y) (at + length (write (first y))) v.0 (part_left b at next (write (first y)) (write' (first y) y) p))
          ((laws (first y) v.0).complete (at + length (write (first y))) y next v.1 (part_right b at next (write (first y)) (write' (first y) y) p));
    }

    -- a value made of what was read
    pub law-give : {g : A → B} (first : B → A) → ((x : A) → Valid x → first (g x) ≡ x)
        → Law b (r >>= λ x. give (g x)) (λ y. write (first y)) (λ y. Valid (first y) × (y ≡ g (first y)))
    unfolding bind onward
    law-give {g} first undo = record {
      sound = λ at y next e.
          let s = and_then-got (r b at) (λ x. give (g x)) y next e in
          let p = law.sound at s.0 s.1 s.2 in
          let made : g s.0 ≡ y = cc s.3 in
          let ends : s.1 ≡ next = cc s.3 in
          let q : s.0 ≡ first y = sym (undo s.0 p.0) ∙ ap first made in
          ((subst Valid q p.0, sym made ∙ ap g q), subst (λ (x : A). Part b at (write x) next) q (subst (Part b at (write s.0)) ends p.1));
      complete = λ at y next v p. rw (law.complete at (first y) next v.0 p) (ap (λ (z : B). got z next) (sym v.1));
    }

-- a test that was passed
pub require-got : {B : Type 0} (ok : Bool) (number spot : ℕ) (r : Reader B) (b : List ℕ) (at : ℕ) (y : B) (next : ℕ)
    → (require ok number spot >> r) b at ≡ got y next → (ok ≡ true) × (r b at ≡ got y next)
unfolding require bind onward
require-got true number spot r b at y next e = (refl, e)
require-got false number spot r b at y next e = impossible cc

module _ {A : Type 0} (b : List ℕ) {r : Reader A} {write : A → List ℕ} {Valid : A → Type 0} (law : Law b r write Valid) where
  -- the same law in other words
  pub law-same : {write' : A → List ℕ} {Valid' : A → Type 0} → ((x : A) → Valid x → write x ≡ write' x)
      → ((x : A) → Valid x → Valid' x) → ((x : A) → Valid' x → Valid x) → Law b r write' Valid'
  law-same {write'} {Valid'} same to from = record {
    sound = λ at x next e. let s = law.sound at x next e in (to x s.0, subst (λ (l : List ℕ). Part b at l next) (same x s.0) s.1);
    complete = λ at x next v p. law.complete at x next (from x v) (subst (λ (l : List ℕ). Part b at l next) (sym (same x (from x v))) p);
  }

  -- behind a test
  pub law-require : (ok : Bool) (refusal spot : ℕ) → Law b (require ok refusal spot >> r) write (λ x. T ok × Valid x)
  unfolding bind onward require
  law-require true refusal spot = record {
    sound = λ at x next e. let s = law.sound at x next e in ((tt, s.0), s.1);
    complete = λ at x next v p. law.complete at x next v.1 p;
  }
  law-require false refusal spot = record {
    sound = λ at x next e. impossible cc;
    complete = λ at x next v p. absurd v.0;
  }

  -- before a test of what was read
  pub law-tested : (ok : A → Bool) (refusal : A → ℕ) (spot : ℕ)
      → Law b (r >>= λ x. require (ok x) (refusal x) spot >> give x) write (λ x. Valid x × T (ok x))
  unfolding bind onward require
  law-tested ok refusal spot = record {
    sound = λ at y next e.
        let s = and_then-got b (r b at) (λ x. require (ok x) (refusal x) spot >> give x) y next e in
        let p = law.sound at s.0 s.1 s.2 in
        let q = require-got (ok s.0) (refusal s.0) spot (give s.0) b s.1 y next s.3 in
        let same : s.0 ≡ y = cc q.1 in
        let ends : s.1 ≡ next = cc q.1 in
        subst (λ (x : A). (Valid x × T (ok x)) × Part b at (write x) next) same ((p.0, rw q.0 tt), subst (Part b at (write s.0)) ends p.1);
    complete = λ at y next v p. rw (law.complete at y next v.0 p, yes_true (ok y) v.1);
  }

-- a value that takes no bytes
pub law-nothing : {A : Type 0} (b : List ℕ) (x : A) → Law b (give x) (λ y. []) (λ y. y ≡ x)
law-nothing b x = record {
  sound = λ at y next e. let same : x ≡ y = cc in let ends : at ≡ next = cc in (sym same, subst (Part b at []) ends (part-empty b at));
  complete = λ at y next v p. rw v (ap (got x) (omega (arith, p.end)));
}

-- a reader that is given the offset where it starts
pub law-offset : {A : Type 0} (b : List ℕ) {f : ℕ → Reader A} {write : A → List ℕ} {Valid : A → Type 0}
    → ((at : ℕ) → Law b (f at) write Valid) → Law b (offset >>= f) write Valid
unfolding bind onward
law-offset b laws = record { sound = λ at. (laws at).sound at; complete = λ at. (laws at).complete at }

-- ---- fields

-- the value x of a field that is there
unfoldable pub ranged : (ℕ → Bool) → ℕ → ℕ → ℕ → Read ℕ
ranged in_range x at next = cond (in_range x) (got x next) (refused value_number at)

module _ (b : List ℕ) where
  pub field-got : (size x : ℕ) (in_range : ℕ → Bool) (at y next : ℕ) → field size x in_range b at ≡ got y next
      → (at + size ≤ length b) × T (in_range x) × (x ≡ y) × (next ≡ at + size)
  unfolding field
  field-got size x in_range at y next e = go (leb (at + size) (length b)) refl (in_range x) e
    where
      go : (there : Bool) → leb (at + size) (length b) ≡ there → (good : Bool)
          → cond there (cond good (got x (at + size)) (refused value_number at)) (refused bundle_end_number at) ≡ got y next
          → (at + size ≤ length b) × T good × (x ≡ y) × (next ≡ at + size)
      go true t true e = (leb→le (at + size) (length b) (rw t tt), tt, (cc), (cc))
      go true t false e = impossible cc
      go false t true e = impossible cc
      go false t false e = impossible cc

  pub field-there : (size x : ℕ) (in_range : ℕ → Bool) (at : ℕ) → at + size ≤ length b
      → field size x in_range b at ≡ ranged in_range x at (at + size)
  unfolding field ranged
  field-there size x in_range at h = rw (le-leb (at + size) (length b) h)

  in_range_lem : (x : ℕ) (in_range : ℕ → Bool) (at next : ℕ) → T (in_range x) → ranged in_range x at next ≡ got x next
  unfolding ranged
  in_range_lem x in_range at next t = rw (yes_true (in_range x) t)

  -- what stands at the start of a part
  part-within : (at next : ℕ) (x : List ℕ) → 1 ≤ length x → Part b at x next → at + length x ≤ length b
  part-within at next x h p = omega (arith, length-drop at b, length-append x (drop next b), ap length p.bytes)

  part-first : (at next x : ℕ) (xs : List ℕ) → Part b at (x ∷ xs) next → get_or b at 0 ≡ x
  part-first at next x xs p = ap (λ (i : ℕ). get_or b i 0) (sym (add-zero at))
      ∙ sym (get_or-drop at b 0 0)
      ∙ ap (λ (l : List ℕ). get_or l 0 0) p.bytes

  part-byte : (at : ℕ) → at < length b → Part b at (get_or b at 0 ∷ []) (at + 1)
  part-byte at h = record { bytes = drop-cons b at 0 h ∙ rw add-one; end = refl }

  module _ (bytes : Bytes b) (in_range : ℕ → Bool) where
    pub law-byte : Law b (byte in_range) (λ x. x ∷ []) (λ x. T (in_range x) × (x < 256))
    unfolding byte
    law-byte = record {
      sound = λ at x next e.
          let s = field-got 1 (get_or b at 0) in_range at x next e in
          subst (λ (y : ℕ). (T (in_range y) × (y < 256)) × Part b at (y ∷ []) next) s.2
          ((s.1, bytes at), subst (Part b at (get_or b at 0 ∷ [])) (sym s.3) (part-byte at (omega (arith, s.0))));
      complete = λ at x next v p. rw (part-first at next x [] p) (field-there 1 x in_range at (part-within at next (x ∷ []) (omega arith) p)
          ∙ in_range_lem x in_range at (at + 1) v.0
          ∙ ap (got x) (sym p.end));
    }

    pub law-number : Law b (number in_range) le16 (λ x. T (in_range x) × (x < 65536))
    unfolding number number_at
    law-number = record {
      sound = λ at x next e.
          let s = field-got 2 (number_at b at) in_range at x next e in
          let two : Part b at (get_or b at 0 ∷ get_or b (at + 1) 0 ∷ []) (at + 1 + 1) =
          part-append b at (at + 1) (at + 1 + 1) (get_or b at 0 ∷ []) (get_or b (at + 1) 0 ∷ [])
          (part-byte at (omega (arith, s.0))) (part-byte (at + 1) (omega (arith, s.0))) in
          let value : get_or b at 0 + 256 * get_or b (at + 1) 0 ≡ x = s.2 in
          let low : get_or b at 0 ≡ x % 256 = omega (arith, bytes at) in
          let quotient : x / 256 ≡ get_or b (at + 1) 0 = omega (arith, bytes at) in
          let high : get_or b (at + 1) 0 ≡ x / 256 % 256 = sym (ap (λ (m : ℕ). m % 256) quotient ∙ mod-eq_of_lt (bytes (at + 1))) in
          let ends : at + 1 + 1 ≡ next = omega (arith, s.3) in
          let below : x < 65536 = omega (arith, bytes at, bytes (at + 1)) in (
            (subst (λ (y : ℕ). T (in_range y)) s.2 s.1, below),
            subst (Part b at (le16 x)) ends (subst (λ (l : List ℕ). Part b at l (at + 1 + 1)) (ap₂ (λ (c d : ℕ). c ∷ d ∷ []) low high) two),
          );
      complete = λ at x next v p.
          let high : get_or b (at + 1) 0 ≡ x / 256 % 256 =
          part-first (at + 1) next (x / 256 % 256) [] (part_right b at next (x % 256 ∷ []) (x / 256 % 256 ∷ []) p) in
          let whole : x / 256 % 256 ≡ x / 256 = mod-eq_of_lt (omega (arith, v.1)) in
          let value : number_at b at ≡ x = omega (arith, part-first at next (x % 256) (x / 256 % 256 ∷ []) p, high, whole) in
          rw value (field-there 2 x in_range at (part-within at next (le16 x) (omega arith) p)
          ∙ in_range_lem x in_range at (at + 2) v.0
          ∙ ap (got x) (sym p.end));
    }

-- ---- lists of fields

module _ {S A : Type 0} where
  -- an item for each s, valid with the items before it
  abbrev pub EachValid : (S → List A → A → Type 0) → List S → List A → List A → Type 0
  EachValid P [] before [] = Unit {0}
  EachValid P [] before (x ∷ xs) = ⊥
  EachValid P (s ∷ ss) before [] = ⊥
  EachValid P (s ∷ ss) before (x ∷ xs) = P s before x × EachValid P ss (before ++ x ∷ []) xs

  module _ (b : List ℕ) {r : S → List A → Reader A} {write : A → List ℕ} {P : S → List A → A → Type 0}
      (laws : (s : S) (before : List A) → Law b (r s before) write (P s before)) where
    each-sound : (ss : List S) (before : List A) (at : ℕ) (ys : List A) (next : ℕ) → each r ss before b at ≡ got ys next
        → (xs : List A) × (ys ≡ before ++ xs) × EachValid P ss before xs × Part b at (flat_map write xs) next
    unfolding each bind onward flat_map
    each-sound [] before at ys next e =
        let same : ys ≡ before = cc in
        let ends : at ≡ next = cc in
        ([], same ∙ sym (append-nil before), tt, subst (Part b at []) ends (part-empty b at))
    each-sound (s ∷ ss) before at ys next e =
        let m = and_then-got b (r s before b at) (λ x. each r ss (before ++ x ∷ [])) ys next e in
        let p = (laws s before).sound at m.0 m.1 m.2 in
        let q = each-sound ss (before ++ m.0 ∷ []) m.1 ys next m.3 in
        (m.0 ∷ q.0, q.1 ∙ append_assoc before (m.0 ∷ []) q.0, (p.0, q.2), part-append b at m.1 next (write m.0) (flat_map write q.0) p.1 q.3)

    each-complete : (ss : List S) (before : List A) (at : ℕ) (xs : List A) (next : ℕ) → EachValid P ss before xs
        → Part b at (flat_map write xs) next → each r ss before b at ≡ got (before ++ xs) next
    unfolding each bind onward flat_map
    each-complete [] before at [] next v p = ap₂ got (sym (append-nil before)) (omega (arith, p.end))
    each-complete [] before at (x ∷ xs) next v p = absurd v
    each-complete (s ∷ ss) before at [] next v p = absurd v
    each-complete (s ∷ ss) before at (x ∷ xs) next v p =
        rw ((laws s before).complete at x (at + length (write x)) v.0 (part_left b at next (write x) (flat_map write xs) p))
        (each-complete ss (before ++ x ∷ []) (at + length (write x)) xs next v.1 (part_right b at next (write x) (flat_map write xs) p)
        ∙ ap (λ (l : List A). got l next) (append_assoc before (x ∷ []) xs))

    pub law-each : (ss : List S) → Law b (each r ss []) (flat_map write) (EachValid P ss [])
    law-each ss = record {
      sound = λ at ys next e. let s = each-sound ss [] at ys next e in
          subst (λ (l : List A). EachValid P ss [] l × Part b at (flat_map write l) next) (sym s.1) (s.2, s.3);
      complete = λ at xs next v p. each-complete ss [] at xs next v p;
    }

module _ {A : Type 0} where
  -- each item is valid with those before it
  abbrev pub Following : (List A → A → Type 0) → List A → List A → Type 0
  Following P before [] = Unit {0}
  Following P before (x ∷ xs) = P before x × Following P (before ++ x ∷ []) xs

  module _ (P : List A → A → Type 0) where
    to-following : (k : ℕ) (before xs : List A) → EachValid (λ (s : Unit {0}). P) (replicate k tt) before xs
        → (length xs ≡ k) × Following P before xs
    to-following zero before [] v = (refl, tt)
    to-following zero before (x ∷ xs) v = absurd v
    to-following (suc k) before [] v = absurd v
    to-following (suc k) before (x ∷ xs) v = let r = to-following k (before ++ x ∷ []) xs v.1 in (ap suc r.0, (v.0, r.1))

    from-following : (before xs : List A) → Following P before xs → EachValid (λ (s : Unit {0}). P) (replicate (length xs) tt) before xs
    from-following before [] v = tt
    from-following before (x ∷ xs) v = (v.0, from-following (before ++ x ∷ []) xs v.1)

  pub law-following : (b : List ℕ) {r : List A → Reader A} {write : A → List ℕ} {P : List A → A → Type 0}
      → ((before : List A) → Law b (r before) write (P before)) → (k : ℕ)
      → Law b (following k r) (flat_map write) (λ xs. (length xs ≡ k) × Following P [] xs)
  law-following b {P = P} laws k = law-same b (law-each b (λ s before. laws before) (replicate k tt))
      (λ xs v. refl) (λ xs v. to-following P k [] xs v) (λ xs v. rw (← v.0) (from-following P [] xs v.1))

  module _ (P : A → Type 0) where
    following_every : (before xs : List A) → Following (λ before. P) before xs → Every P xs
    following_every before [] v = tt
    following_every before (x ∷ xs) v = (v.0, following_every (before ++ x ∷ []) xs v.1)

    every_following : (before xs : List A) → Every P xs → Following (λ before. P) before xs
    every_following before [] v = tt
    every_following before (x ∷ xs) v = (v.0, every_following (before ++ x ∷ []) xs v.1)

  pub law-times : (b : List ℕ) {r : Reader A} {write : A → List ℕ} {P : A → Type 0} → Law b r write P
      → (k : ℕ) → Law b (times k r) (flat_map write) (λ xs. (length xs ≡ k) × Every P xs)
  law-times b {P = P} law k = law-same b (law-following b (λ before. law) k) (λ xs v. refl)
      (λ xs v. (v.0, following_every P [] xs v.1)) (λ xs v. (v.0, every_following P [] xs v.1))
