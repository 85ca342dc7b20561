-- Reading a bundle: a reader takes the bundle and an offset, and gives a value with the offset behind it, or a refusal.
use Rattle.std.specs.Prelude.{Bool, cond, List, [], ◌∷◌, ◌++◌, ℕ, ◌+◌, leb, length, get_or, replicate}
use Rattle.laws.specs.Numbers.{number_at}
use Rattle.refusals.specs.Table.{bundle_end_number, value_number}
use Rattle.refusals.specs.Results.{Result, value, refused, bind}

-- an item that was read, and the offset of what follows
pub data Item (A : Type 0) : Type 0 where
  item : A → ℕ → Item A

-- the item without that offset
unfoldable pub item_in : {A : Type 0} → Item A → A
item_in (item x next) = x

abbrev pub Read : Type 0 → Type 0
Read A = Result (Item A)

abbrev pub got : {A : Type 0} → A → ℕ → Read A
got x next = value (item x next)

abbrev pub Reader : Type 0 → Type 0
Reader A = List ℕ → ℕ → Read A

module _ {A B : Type 0} where
  infixl 10 ◌>>=◌
  infixl 10 ◌>>◌
  -- go on behind an item
  unfoldable pub onward : (A → Reader B) → List ℕ → Item A → Read B
  onward f b (item x at) = f x b at

  abbrev pub and_then : Read A → (A → Reader B) → List ℕ → Read B
  and_then m f b = bind m (onward f b)

  abbrev pub ◌>>=◌ : Reader A → (A → Reader B) → Reader B
  ◌>>=◌ r f b at = and_then (r b at) f b

  abbrev pub ◌>>◌ : Reader A → Reader B → Reader B
  ◌>>◌ r s b at = and_then (r b at) (λ x. s) b

-- a value that takes no bytes
abbrev pub give : {A : Type 0} → A → Reader A
give x b at = got x at

-- the present offset
abbrev pub offset : Reader ℕ
offset b at = got at at

-- a refusal where a test fails
unfoldable pub require : Bool → ℕ → ℕ → Reader (Unit {0})
require ok number spot b at = cond ok (got tt at) (refused number spot)

-- ---- fields

-- a field of some bytes with the value x: 6 where it is not there whole, 7 where x is outside its range
unfoldable pub field : ℕ → ℕ → (ℕ → Bool) → Reader ℕ
field size x in_range b at =
    cond (leb (at + size) (length b)) (cond (in_range x) (got x (at + size)) (refused value_number at)) (refused bundle_end_number at)

-- one byte
unfoldable pub byte : (ℕ → Bool) → Reader ℕ
byte in_range b at = field 1 (get_or b at 0) in_range b at

-- two bytes, the low byte first
unfoldable pub number : (ℕ → Bool) → Reader ℕ
number in_range b at = field 2 (number_at b at) in_range b at

-- ---- lists of fields

module _ {S A : Type 0} where
  -- an item for each s of a list, in order; r is given s and the items before. They are added to `before`.
  unfoldable pub each : (S → List A → Reader A) → List S → List A → Reader (List A)
  each r [] before = give before
  each r (s ∷ ss) before = do
    x ← r s before
    each r ss (before ++ x ∷ [])

module _ {A : Type 0} where
  -- so many items; r is given the items before
  abbrev pub following : ℕ → (List A → Reader A) → Reader (List A)
  following k r = each (λ s. r) (replicate k (tt {0})) []

  -- so many items of one kind
  abbrev pub times : ℕ → Reader A → Reader (List A)
  times k r = following k (λ before. r)
