-- The algebra of refusals: what a call owes is a value or a refusal. A call is a chain of tests and values, read from top to bottom, and the first
-- refusal is its answer.
use Rattle.std.specs.Prelude.{◌≡◌, Bool, cond, ◌||◌, ◌⊎◌, List, [], ◌∷◌, ℕ, T}
use Rattle.std.proofs.Math.Path.{refl, ap}
use Rattle.std.proofs.Common.{subst, eq-eqb}
use Rattle.std.proofs.Math.Bool.{true, false}
use Rattle.std.proofs.Math.Logic.{inl, inr}
use Rattle.laws.specs.Booleans.{impossible, yes_true}
use Rattle.laws.specs.Lists.{all, any, among, among-more, among-all}

pub data Result (A : Type 0) : Type 0 where
  value : A → Result A
  -- the number of the cause, and the spot that the table names for it
  refused : ℕ → ℕ → Result A

module _ {A B : Type 0} where
  infixl 10 ◌>>=◌
  infixl 10 ◌>>◌
  -- go on with a value; a refusal stays
  unfoldable pub bind : Result A → (A → Result B) → Result B
  bind (value x) f = f x
  bind (refused number spot) f = refused number spot

  abbrev pub ◌>>=◌ : Result A → (A → Result B) → Result B
  ◌>>=◌ m f = bind m f

  abbrev pub ◌>>◌ : Result A → Result B → Result B
  ◌>>◌ m n = bind m (λ x. n)

-- a test: where it fails, a refusal
unfoldable pub require : Bool → ℕ → ℕ → Result (Unit {0})
require ok number spot = cond ok (value tt) (refused number spot)

-- 0 for a value, else the refusal's number
unfoldable pub number_in : {A : Type 0} → Result A → ℕ
number_in (value x) = 0
number_in (refused number spot) = number

-- ---- What the end of a chain says of its parts

module _ {A B : Type 0} where
  pub bind-value : (m : Result A) (f : A → Result B) (y : B) → bind m f ≡ value y → (x : A) × (m ≡ value x) × (f x ≡ value y)
  unfolding bind
  bind-value (value x) f y e = (x, refl, e)
  bind-value (refused number spot) f y e = impossible cc

  pub bind-refused : (m : Result A) (f : A → Result B) (number spot : ℕ) → bind m f ≡ refused number spot
      → (m ≡ refused number spot) ⊎ ((x : A) × (m ≡ value x) × (f x ≡ refused number spot))
  unfolding bind
  bind-refused (value x) f number spot e = inr (x, refl, e)
  bind-refused (refused number' spot') f number spot e =
      let n : number' ≡ number = cc in
      let s : spot' ≡ spot = cc in
      inl (rw (n, s))

module _ {A : Type 0} (ok : Bool) (number spot : ℕ) (m : Result A) where
  -- a chain behind a test that passes, and behind one that fails
  pub passes : ok ≡ true → bind (require ok number spot) (λ u. m) ≡ m
  unfolding bind require
  passes e = rw e

  pub fails : ok ≡ false → bind (require ok number spot) (λ u. m) ≡ refused number spot
  unfolding bind require
  fails e = rw e

  pub passed : (y : A) → bind (require ok number spot) (λ u. m) ≡ value y → (ok ≡ true) × (m ≡ value y)
  unfolding bind require
  passed y e = go ok e
    where
      go : (b : Bool) → bind (cond b (value (tt {0})) (refused number spot)) (λ u. m) ≡ value y → (b ≡ true) × (m ≡ value y)
      go true e = (refl, e)
      go false e = impossible cc

-- ---- Which numbers a chain refuses with

-- m refuses with a number of the list, if at all
pub record Refuses {A : Type 0} (numbers : List ℕ) (m : Result A) : Type 0 where
  pub only : (number spot : ℕ) → m ≡ refused number spot → among number numbers ≡ true

-- the end of a chain
pub refuses-end : {A : Type 0} (x : A) → Refuses [] (value x)
refuses-end x = record { only = λ number spot e. impossible cc }

module _ {numbers : List ℕ} where
  pub refuses-value : {A : Type 0} (x : A) → Refuses numbers (value x)
  refuses-value x = record { only = λ number spot e. impossible cc }

  pub refuses_with : {A : Type 0} (number spot : ℕ) → among number numbers ≡ true → Refuses {A = A} numbers (refused number spot)
  refuses_with number spot listed = record { only = λ n s e. let same : number ≡ n = cc in subst (λ (k : ℕ). among k numbers ≡ true) same listed }

  pub refuses-require : (ok : Bool) (number spot : ℕ) → (ok ≡ true) ⊎ (among number numbers ≡ true) → Refuses numbers (require ok number spot)
  unfolding require
  refuses-require true number spot listed = refuses-value tt
  refuses-require false number spot (inl never) = impossible cc
  refuses-require false number spot (inr listed) = refuses_with number spot listed

  pub refuses-then : {A B : Type 0} {m : Result A} {f : A → Result B} → Refuses numbers m → ((x : A) → Refuses numbers (f x)) → Refuses numbers (bind m f)
  unfolding bind
  refuses-then {A} {B} {m} {f} first rest = go m first
    where
      go : (k : Result A) → Refuses numbers k → Refuses numbers (bind k f)
      go (value x) r = rest x
      go (refused number spot) r = refuses_with number spot (r.only number spot refl)

  -- a test before the rest: its number more
  pub refuses-test : {A : Type 0} (ok : Bool) (number spot : ℕ) {m : Result A} → Refuses numbers m → Refuses (number ∷ numbers) (bind (require ok number spot) (λ u. m))
  unfolding bind require any
  refuses-test {A} ok number spot {m} rest = record { only = λ n at e. go ok n at e }
    where
      go : (b : Bool) (n at : ℕ) → bind (cond b (value (tt {0})) (refused number spot)) (λ u. m) ≡ refused n at → among n (number ∷ numbers) ≡ true
      go true n at e = among-more number numbers n (rest.only n at e)
      go false n at e = let same : n ≡ number = cc in ap (λ (b : Bool). b || among n numbers) (eq-eqb n number same)

  -- so with a number of every list that has these
  pub refuses-wider : {wider : List ℕ} → T (all (λ k. among k wider) numbers) → {A : Type 0} {m : Result A} → Refuses numbers m → Refuses wider m
  refuses-wider {wider} has r = record { only = λ number spot e. yes_true (among number wider) (among-all (λ k. among k wider) numbers has number (rw (r.only number spot e) tt)) }

  -- the number of its answer is one of them, or 0
  pub numbers-listed : {A : Type 0} {m : Result A} → Refuses numbers m → among (number_in m) (0 ∷ numbers) ≡ true
  unfolding number_in any
  numbers-listed {A} {m} r = go m r
    where
      go : (k : Result A) → Refuses numbers k → among (number_in k) (0 ∷ numbers) ≡ true
      go (value x) r = refl
      go (refused number spot) r = among-more 0 numbers number (r.only number spot refl)
