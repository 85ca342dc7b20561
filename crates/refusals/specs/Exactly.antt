-- Exactly when a chain refuses: one law for a test that is met first, and one for those behind it.
use Rattle.std.specs.Prelude.{◌≡◌, Bool, cond, ◌↔◌, ◌⊎◌, ℕ, ◌≤◌, ◌<◌, Ok, Err}
use Rattle.std.proofs.Math.Path.{refl}
use Rattle.std.proofs.Common.{sym, ap, ◌∙◌, inl, inr, ⊎_elim}
use Rattle.std.proofs.Math.Bool.{true, false}
use Rattle.std.proofs.lemmas.Bool.{false≢true}
use mathlib.Core.List.{List}
use Rattle.std.proofs.Math.Dec.{leb}
use Rattle.std.proofs.Math.ListN.{length}
use borrow.Author.Tests.{leb-true, leb-false, le-leb, lt-leb}
use Rattle.laws.specs.Booleans.{impossible}
use Rattle.laws.specs.Lists.{among}
use Rattle.refusals.specs.Table.{output_short_number}
use Rattle.refusals.specs.Results.{Result, value, refused, bind, require, bind-refused, Refuses}
use Rattle.refusals.specs.Answers.{Answer, refusal, fitted, answer_of, answer, Written}
use Rattle.refusals.specs.declared.Refusal.{Refusal}

-- m refuses with this number, at a spot, exactly when the cause is there
pub record Exactly {A : Type 0} (m : Result A) (number : ℕ) (Cause : ℕ → Type 0) : Type 0 where
  pub line : (spot : ℕ) → (m ≡ refused number spot) ↔ Cause spot

-- m gives a value exactly when
pub record Gives {A : Type 0} (m : Result A) (When : A → Type 0) : Type 0 where
  pub line : (x : A) → (m ≡ value x) ↔ When x

-- the same in other words
pub exactly-same : {A : Type 0} {m : Result A} {number : ℕ} {C D : ℕ → Type 0} → Exactly m number C → ((spot : ℕ) → C spot ↔ D spot)
    → Exactly m number D
exactly-same e same = record { line = λ spot. ((λ h. (same spot).0 ((e.line spot).0 h)), (λ d. (e.line spot).1 ((same spot).1 d))) }

pub gives_same : {A : Type 0} {m : Result A} {C D : A → Type 0} → Gives m C → ((x : A) → C x ↔ D x) → Gives m D
gives_same e same = record { line = λ x. ((λ h. (same x).0 ((e.line x).0 h)), (λ d. (e.line x).1 ((same x).1 d))) }

-- a number that is not in the list is never that of a refusal
never : {A : Type 0} {numbers : List ℕ} {m : Result A} → Refuses numbers m → (number spot : ℕ) → among number numbers ≡ false
    → m ≡ refused number spot → ⊥
never r number spot other e = false≢true (sym other ∙ r.only number spot e)

module _ {A : Type 0} (ok : Bool) (number spot : ℕ) (m : Result A) where
  -- a test refuses with its own number where it fails, and what follows refuses with others
  pub exactly-here : {numbers : List ℕ} → Refuses numbers m → among number numbers ≡ false
      → Exactly (bind (require ok number spot) (λ u. m)) number (λ at. (at ≡ spot) × (ok ≡ false))
  unfolding bind require
  exactly-here {numbers} rest other = record { line = λ at. (to at ok, from at) }
    where
      to : (at : ℕ) (b : Bool) → bind (cond b (value (tt {0})) (refused number spot)) (λ u. m) ≡ refused number at → (at ≡ spot) × (b ≡ false)
      to at true e = absurd (never rest number at other e)
      to at false e = let same : spot ≡ at = cc in (sym same, refl)

      from : (at : ℕ) → (at ≡ spot) × (ok ≡ false) → bind (cond ok (value (tt {0})) (refused number spot)) (λ u. m) ≡ refused number at
      from at h = rw (h.1, h.0)

  -- with another number it refuses where the test is passed and what follows refuses so
  pub exactly-later : {other : ℕ} {C : ℕ → Type 0} → (number ≡ other → ⊥) → Exactly m other C
      → Exactly (bind (require ok number spot) (λ u. m)) other (λ at. (ok ≡ true) × C at)
  unfolding bind require
  exactly-later {other} {C} apart rest = record { line = λ at. (to at ok, from at) }
    where
      to : (at : ℕ) (b : Bool) → bind (cond b (value (tt {0})) (refused number spot)) (λ u. m) ≡ refused other at → (b ≡ true) × C at
      to at true e = (refl, (rest.line at).0 e)
      to at false e = let same : number ≡ other = cc in absurd (apart same)

      from : (at : ℕ) → (ok ≡ true) × C at → bind (cond ok (value (tt {0})) (refused number spot)) (λ u. m) ≡ refused other at
      from at h = rw h.0 ((rest.line at).1 h.1)

  -- and gives what follows gives
  pub gives_later : {When : A → Type 0} → Gives m When → Gives (bind (require ok number spot) (λ u. m)) (λ x. (ok ≡ true) × When x)
  unfolding bind require
  gives_later {When} rest = record { line = λ x. (to x ok, from x) }
    where
      to : (x : A) (b : Bool) → bind (cond b (value (tt {0})) (refused number spot)) (λ u. m) ≡ value x → (b ≡ true) × When x
      to x true e = (refl, (rest.line x).0 e)
      to x false e = impossible cc

      from : (x : A) → (ok ≡ true) × When x → bind (cond ok (value (tt {0})) (refused number spot)) (λ u. m) ≡ value x
      from x h = rw h.0 ((rest.line x).1 h.1)

-- a chain never refuses with a number that is not one of its own
pub exactly-never : {A : Type 0} {numbers : List ℕ} {m : Result A} {number : ℕ} → Refuses numbers m → among number numbers ≡ false → Exactly m number (λ spot. ⊥)
exactly-never r other = record { line = λ spot. ((λ e. never r _ spot other e), (λ none. absurd none)) }

-- a value and what follows it refuse where one of the two does
pub exactly-then : {A B : Type 0} {m : Result A} {f : A → Result B} {number : ℕ} {C : ℕ → Type 0} {D : A → ℕ → Type 0}
    → Exactly m number C → ((x : A) → Exactly (f x) number (D x)) → Exactly (bind m f) number (λ spot. C spot ⊎ ((x : A) × (m ≡ value x) × D x spot))
unfolding bind
exactly-then {A} {B} {m} {f} {number} {C} {D} first rest = record { line = λ spot. (to spot, ⊎_elim (left spot) (right spot)) }
  where
    to : (spot : ℕ) → bind m f ≡ refused number spot → C spot ⊎ ((x : A) × (m ≡ value x) × D x spot)
    to spot e = ⊎_elim
        (λ here. inl ((first.line spot).0 here))
        (λ (x, is, later). inr (x, is, ((rest x).line spot).0 later))
        (bind-refused m f number spot e)

    left : (spot : ℕ) → C spot → bind m f ≡ refused number spot
    left spot c = rw ((first.line spot).1 c)

    right : (spot : ℕ) → (x : A) × (m ≡ value x) × D x spot → bind m f ≡ refused number spot
    right spot (x, is, d) = rw is (((rest x).line spot).1 d)

-- with a number of the value alone, and with one of what follows alone
pub exactly-first : {A B : Type 0} {m : Result A} {f : A → Result B} {number : ℕ} {C : ℕ → Type 0} {others : List ℕ}
    → Exactly m number C → ((x : A) → Refuses others (f x)) → among number others ≡ false → Exactly (bind m f) number C
exactly-first first rest other = exactly-same (exactly-then first (λ x. exactly-never (rest x) other)) (λ spot. (⊎_elim (λ c. c) (λ (x, is, none). absurd none), inl))

pub exactly-behind : {A B : Type 0} {m : Result A} {f : A → Result B} {number : ℕ} {D : A → ℕ → Type 0} {others : List ℕ}
    → Refuses others m → among number others ≡ false → ((x : A) → Exactly (f x) number (D x)) → Exactly (bind m f) number (λ spot. (x : A) × (m ≡ value x) × D x spot)
exactly-behind first other rest = exactly-same (exactly-then (exactly-never first other) rest) (λ spot. (⊎_elim (λ none. absurd none) (λ d. d), inr))

-- the end of a chain
pub gives_value : {A : Type 0} (y : A) → Gives (value y) (λ x. x ≡ y)
gives_value y = record { line = λ x. ((λ e. cc), (λ e. ap value (sym e))) }

-- ---- Calls that write bytes

-- the answer is the chain's
answer_of-exactly : (m : Result (List ℕ)) (number spot : ℕ) → (answer_of m ≡ Err (refusal number spot)) ↔ (m ≡ refused number spot)
unfolding answer_of
answer_of-exactly (value new) number spot = ((λ e. impossible cc), (λ e. impossible cc))
answer_of-exactly (refused n s) number spot = (to, (λ e. ap answer_of e))
  where
    to : ◌≡◌ {A = Written} (Err (refusal n s)) (Err (refusal number spot)) → ◌≡◌ {A = Result (List ℕ)} (refused n s) (refused number spot)
    to e = let same : refusal n s ≡ refusal number spot = cc in ap (λ (r : Refusal). refused r.number r.spot) same

module _ (m : Result (List ℕ)) (room : ℕ) where
  -- a refusal of the chain
  pub answer-refused-exactly : {number : ℕ} {C : ℕ → Type 0} → Exactly m number C → (number ≡ output_short_number → ⊥)
      → (spot : ℕ) → (answer m room ≡ Err (refusal number spot)) ↔ C spot
  unfolding answer fitted bind require
  answer-refused-exactly {number} {C} e other spot = (
    (λ h. (e.line spot).0 (to m ((answer_of-exactly (fitted m room) number spot).0 h))),
    (λ c. from ((e.line spot).1 c)),
  )
    where
      short : (b : Bool) (n : ℕ) (new : List ℕ) → bind (cond b (value (tt {0})) (refused output_short_number n)) (λ u. value new) ≡ refused number spot → ⊥
      short true n new e = impossible cc
      short false n new e = let same : output_short_number ≡ number = cc in other (sym same)

      to : (k : Result (List ℕ)) → fitted k room ≡ refused number spot → k ≡ refused number spot
      to (value new) e = absurd (short (leb (length new) room) (length new) new e)
      to (refused n s) e = e

      from : m ≡ refused number spot → answer m room ≡ Err (refusal number spot)
      from e = (answer_of-exactly (fitted m room) number spot).1 (rw e)

  -- an output that is too short
  pub answer-short-exactly : {numbers : List ℕ} → Refuses numbers m → among output_short_number numbers ≡ false
      → (spot : ℕ) → (answer m room ≡ Err (refusal output_short_number spot))
      ↔ ((new : List ℕ) × (m ≡ value new) × (spot ≡ length new) × (room < length new))
  unfolding answer fitted bind require
  answer-short-exactly {numbers} rest other spot = ((λ h. to m refl ((answer_of-exactly (fitted m room) output_short_number spot).0 h)), from)
    where
      short : (b : Bool) (new : List ℕ) → leb (length new) room ≡ b
          → bind (cond b (value (tt {0})) (refused output_short_number (length new))) (λ u. value new) ≡ refused output_short_number spot
          → (spot ≡ length new) × (room < length new)
      short true new t e = impossible cc
      short false new t e = let same : length new ≡ spot = cc in (sym same, leb-false (length new) room t)

      to : (k : Result (List ℕ)) → m ≡ k → fitted k room ≡ refused output_short_number spot → (new : List ℕ) × (m ≡ value new) × (spot ≡ length new)
          × (room < length new)
      to (value new) is e = let s = short (leb (length new) room) new refl e in (new, is, s.0, s.1)
      to (refused n s) is e = absurd (never rest output_short_number spot other (is ∙ e))

      from : (new : List ℕ) × (m ≡ value new) × (spot ≡ length new) × (room < length new) → answer m room ≡ Err (refusal output_short_number spot)
      from (new, is, at, short) = (answer_of-exactly (fitted m room) output_short_number spot).1 (rw (is, lt-leb (length new) room short, at))

  -- a result
  pub answer-length-exactly : (n : ℕ) → (answer m room ≡ Ok n) ↔ ((new : List ℕ) × (m ≡ value new) × (n ≡ length new) × (length new ≤ room))
  unfolding answer fitted bind require answer_of
  answer-length-exactly n = (to m refl, from)
    where
      room-there : (b : Bool) (new : List ℕ) → leb (length new) room ≡ b
          → answer_of (bind (cond b (value (tt {0})) (refused output_short_number (length new))) (λ u. value new)) ≡ Ok n
          → (n ≡ length new) × (length new ≤ room)
      room-there true new t e = let same : length new ≡ n = cc in (sym same, leb-true (length new) room t)
      room-there false new t e = impossible cc

      to : (k : Result (List ℕ)) → m ≡ k → answer_of (fitted k room) ≡ Ok n → (new : List ℕ) × (m ≡ value new) × (n ≡ length new)
          × (length new ≤ room)
      to (value new) is e = let s = room-there (leb (length new) room) new refl e in (new, is, s.0, s.1)
      to (refused n s) is e = impossible cc

      from : (new : List ℕ) × (m ≡ value new) × (n ≡ length new) × (length new ≤ room) → answer m room ≡ Ok n
      from (new, is, size, long) = rw (is, le-leb (length new) room long, size)

-- ---- an answer that is made of a chain

-- it is a refusal exactly where the chain refuses, and the same one
pub record RefusesAs {A B : Type 0} (f : Result A → Answer B) : Type 0 where
  pub granted : (x : A) (r : Refusal) → f (value x) ≡ Err r → ⊥
  pub same : (number spot : ℕ) → f (refused number spot) ≡ Err (refusal number spot)

module _ {A B : Type 0} {f : Result A → Answer B} (law : RefusesAs f) where
  pub refused-as : (m : Result A) (r : Refusal) → f m ≡ Err r → m ≡ refused r.number r.spot
  refused-as (value x) r e = absurd (law.granted x r e)
  refused-as (refused n s) r e =
      let same : ◌≡◌ {A = Answer B} (Err (refusal n s)) (Err r) = sym (law.same n s) ∙ e in
      let r_is : refusal n s ≡ r = cc in
      ap (λ (x : Refusal). refused x.number x.spot) r_is

  pub answers-exactly : {m : Result A} {number : ℕ} {C : ℕ → Type 0} → Exactly m number C → (spot : ℕ) → (f m ≡ Err (refusal number spot)) ↔ C spot
  answers-exactly {m} {number} line spot = (
    (λ e. (line.line spot).0 (refused-as m (refusal number spot) e)),
    (λ c. ap f ((line.line spot).1 c) ∙ law.same number spot),
  )

  pub answers-among : {m : Result A} {numbers : List ℕ} → Refuses numbers m → (r : Refusal) → f m ≡ Err r → among r.number numbers ≡ true
  answers-among {m} only r e = only.only r.number r.spot (refused-as m r e)
