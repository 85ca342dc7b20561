-- What the code reads, in the words of the definitions: one read, and one behind another.
use Rattle.std.specs.Prelude.{◌≡◌, Bool, List, true, false, ℕ, ◌<◌, Ok, Err}
use Rattle.std.proofs.Common.{refl, sym, ap, ◌∙◌}
use Rattle.std.specs.Borrow.{Bor}
use Rattle.laws.specs.Booleans.{impossible}
use Rattle.refusals.specs.Results.{value, refused, bind}
use Rattle.refusals.specs.Answers.{Answer, refusal}
use Rattle.refusals.specs.declared.Refusal.{Refusal}
use Rattle.bundles.specs.Reading as reading
use Rattle.bundles.specs.Reading.{Read, got, item, and_then, ◌>>=◌, ◌>>◌, require, give, onward}
use Rattle.bundles.specs.declared.Reader.{Reader}

-- an answer of the code as a reader's, where the next field stands at `next`
unfoldable pub read_as : {A B : Type 0} → (A → B) → Answer A → ℕ → Read B
read_as means (Ok x) next = got (means x) next
read_as means (Err r) next = refused r.number r.spot

-- the code read as a reader does, and its value stands for the reader's. Behind a refusal its offset may be any.
pub record ReadAs {A B : Type 0} (means : A → B) (old new : Reader) (result : Answer A) (reader : reading.Reader B) : Type 0 where
  pub bytes : new.bytes ≡ old.bytes
  pub read : read_as means result new.at ≡ reader old.bytes.now old.at

-- its value is the reader's
abbrev pub ReadBy : {A : Type 0} → Reader → Reader → Answer A → reading.Reader A → Type 0
ReadBy old new result reader = ReadAs (λ x. x) old new result reader

-- a test of the code, given by its answers, is p on the numbers below a bound
abbrev pub Decides : ℕ → (ℕ → Bool → Type 0) → (ℕ → Bool) → Type 0
Decides bound answers p = (x : ℕ) → x < bound → (b : Bool) → answers x b → b ≡ p x

-- what was read, without the offset behind it
unfoldable pub answer_in : {A : Type 0} → Read A → Answer A
answer_in (value (item x next)) = Ok x
answer_in (refused number spot) = Err (refusal number spot)

-- ---- a value made of what was read

unfoldable pub map_read : {A B : Type 0} → (A → B) → Read A → Read B
map_read f (value (item x next)) = got (f x) next
map_read f (refused number spot) = refused number spot

abbrev pub mapped : {A B : Type 0} → (A → B) → reading.Reader A → reading.Reader B
mapped f r b at = map_read f (r b at)

module _ {A B : Type 0} (f : A → B) where
  pub map_read-got : (m : Read A) (y : B) (next : ℕ) → map_read f m ≡ got y next → (x : A) × (m ≡ got x next) × (f x ≡ y)
  unfolding map_read
  map_read-got (value (item x mid)) y next e = (x, (cc), (cc))
  map_read-got (refused number spot) y next e = impossible cc

  pub map_read-failed : (m : Read A) (number spot : ℕ) → map_read f m ≡ refused number spot → m ≡ refused number spot
  unfolding map_read
  map_read-failed (value (item x mid)) number spot e = impossible cc
  map_read-failed (refused number' spot') number spot e = (cc)

-- ---- one read

module _ {A B : Type 0} {means : A → B} {old new : Reader} {reader : reading.Reader B} where
  -- what the reader gives, or how it refuses
  pub read_got : {x : A} → ReadAs means old new (Ok x) reader → reader old.bytes.now old.at ≡ got (means x) new.at
  unfolding read_as
  read_got r = sym r.read

  pub read-refused : {e : Refusal} → ReadAs means old new (Err e) reader → reader old.bytes.now old.at ≡ refused e.number e.spot
  unfolding read_as
  read-refused r = sym r.read

  pub →got : {x : A} → new.bytes ≡ old.bytes → reader old.bytes.now old.at ≡ got (means x) new.at → ReadAs means old new (Ok x) reader
  unfolding read_as
  →got same e = record { bytes = same; read = sym e }

  pub →refused : {e : Refusal} → new.bytes ≡ old.bytes → reader old.bytes.now old.at ≡ refused e.number e.spot
      → ReadAs means old new (Err e) reader
  unfolding read_as
  →refused same e = record { bytes = same; read = sym e }

-- a value made of a value that was made of what was read
module _ {A B C : Type 0} (r : reading.Reader A) (f : A → B) {old new : Reader} where
  pub remapped : (g : B → C) {y : B} → ReadBy old new (Ok y) (mapped f r) → ReadBy old new (Ok (g y)) (mapped (λ x. g (f x)) r)
  unfolding map_read
  remapped g {y} read =
      let m = map_read-got f (r old.bytes.now old.at) y new.at (read_got read) in
      →got read.bytes (rw m.1 (ap (λ (z : B). got (g z) new.at) m.2))

  pub remapped-refused : (h : A → C) {e : Refusal} → ReadBy old new (Err e) (mapped f r) → ReadBy old new (Err e) (mapped h r)
  unfolding map_read
  remapped-refused h {e} read = →refused read.bytes (rw (map_read-failed f (r old.bytes.now old.at) e.number e.spot (read-refused read)))

-- the answer alone
pub read_answer : {A : Type 0} {old new : Reader} {result : Answer A} {reader : reading.Reader A}
    → ReadBy old new result reader → result ≡ answer_in (reader old.bytes.now old.at)
unfolding read_as answer_in
read_answer {A} {old} {new} {result} {reader} r = go result r.read
  where
    go : (k : Answer A) → read_as (λ x. x) k new.at ≡ reader old.bytes.now old.at → k ≡ answer_in (reader old.bytes.now old.at)
    go (Ok x) e = ap answer_in e
    go (Err f) e = ap answer_in e

-- ---- one read behind another

module _ {A B C D : Type 0} {means : A → B} {also : C → D} {r : reading.Reader B} (f : B → reading.Reader D) where
  pub then_read : {old mid new : Reader} {x : A} {y : Answer C} → ReadAs means old mid (Ok x) r → ReadAs also mid new y (f (means x))
      → ReadAs also old new y (r >>= f)
  unfolding bind onward
  then_read {old} {mid} {new} {x} first rest = record {
    bytes = rest.bytes ∙ first.bytes;
    read = rest.read ∙ ap (λ (b : Bor (List ℕ)). f (means x) b.now mid.at) first.bytes ∙ sym (rw (read_got first));
  }

  pub then-refused : {old new : Reader} {e : Refusal} → ReadAs means old new (Err e) r → ReadAs also old new (Err e) (r >>= f)
  unfolding bind onward
  then-refused refuses = →refused refuses.bytes (rw (read-refused refuses))

-- a test before a read
module _ {A B : Type 0} {means : A → B} (r : reading.Reader B) {ok : Bool} (number spot : ℕ) where
  pub then_passed : {old new : Reader} {result : Answer A} → ok ≡ true
      → ReadAs means old new result r → ReadAs means old new result (require ok number spot >> r)
  unfolding require bind onward
  then_passed passed read = record { bytes = read.bytes; read = read.read ∙ sym (rw passed) }

  pub then-fails : (old : Reader) → ok ≡ false → ReadAs means old old (Err (refusal number spot)) (require ok number spot >> r)
  unfolding require bind onward
  then-fails old fails = →refused refl (rw fails)

-- a value that takes no bytes
pub read_give : {A B : Type 0} {means : A → B} (at : Reader) {x : A} → ReadAs means at at (Ok x) (give (means x))
read_give at = →got refl refl

-- a value that means what was read
pub read_means : {A B : Type 0} {means : A → B} {old new : Reader} {r : reading.Reader B} {x : B} (y : A) → means y ≡ x
    → ReadBy old new (Ok x) r → ReadAs means old new (Ok y) r
read_means {new = new} y same read = →got read.bytes (read_got read ∙ ap (λ z. got z new.at) (sym same))

-- a refusal is one for any meaning
pub refused_means : {A B C : Type 0} {means : A → C} {also : B → C} {old new : Reader} {r : reading.Reader C} {e : Refusal}
    → ReadAs means old new (Err e) r → ReadAs also old new (Err e) r
refused_means read = →refused read.bytes (read-refused read)

-- the same reader in other words
pub read_same : {A B : Type 0} {means : A → B} {old new : Reader} {result : Answer A} {r s : reading.Reader B}
    → r old.bytes.now old.at ≡ s old.bytes.now old.at → ReadAs means old new result s → ReadAs means old new result r
read_same same read = record { bytes = read.bytes; read = read.read ∙ sym same }
