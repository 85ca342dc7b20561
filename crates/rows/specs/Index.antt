-- An index of the rows of a table, by which a row is found without a scan of all. No public contract speaks of it.
use Rattle.std.specs.Prelude.{◌≡◌, cond, List, [], ◌∷◌, map, ℕ, zero, suc, ◌%◌, ◌<◌, get_or, replicate, eqb, Option, Some, None}
use Rattle.std.specs.Borrow.{Bor}
use Rattle.std.specs.Coded.{Unit-prop}
use Rattle.std.proofs.Props.{props}
use Rattle.laws.specs.Sums.{weighted}
use Rattle.nets.specs.Nets.{Counts}
use Rattle.rows.specs.Rows.{Row, rows_of}
use Rattle.rows.specs.declared.index.Index.{Index}

-- the multiplier of each event in a key
unfoldable pub multipliers : List ℕ
multipliers = 1 ∷ 37 ∷ 89 ∷ 151 ∷ 211 ∷ 17 ∷ 73 ∷ 131 ∷ 193 ∷ 241 ∷ 53 ∷ 103 ∷ []

abbrev pub multiplier : ℕ → ℕ
multiplier e = get_or multipliers e 0

-- the key of counts: one event more adds its multiplier
unfoldable pub key : Counts → ℕ
key v = weighted multiplier v

-- the number of chains
abbrev pub chain_count : ℕ
chain_count = 256

-- the chain of each row: its key modulo the number of chains
unfoldable pub chains : List Row → List ℕ
chains rs = map (λ (r : Row). key r.counts % chain_count) rs

-- the last of the first r rows that is in chain c, as its number plus 1; 0 where none is
unfoldable pub last_in : ℕ → List ℕ → ℕ → ℕ
last_in c cs zero = 0
last_in c cs (suc r) = cond (eqb (get_or cs r 0) c) (suc r) (last_in c cs r)

-- how many rows there are up to this one and with it, which is its number plus 1; 0 where there is none
abbrev pub up_to : Option ℕ → ℕ
up_to None = 0
up_to (Some r) = suc r

-- i is an index of the k rows of t: it has the last row of each chain, and for each row the one before it in its chain
pub record IsIndex (k : ℕ) (t : List ℕ) (i : Index) : Type 0 where
  pub chained : (c : ℕ) → c < chain_count → up_to (get_or i.last c None) ≡ last_in c (chains (rows_of k t)) k
  pub preceded : (r : ℕ) → r < k → up_to (get_or i.before r None) ≡ last_in (get_or (chains (rows_of k t)) r 0) (chains (rows_of k t)) r

-- the index, if there is one, is an index of the k rows of t
abbrev pub IsIndexed : ℕ → List ℕ → Option (Bor Index) → Type 0
IsIndexed k t None = Unit {0}
IsIndexed k t (Some i) = IsIndex k t i.now

-- it has one proof at most
pub IsIndexed-prop : (k : ℕ) (t : List ℕ) (i : Option (Bor Index)) → IsProp (IsIndexed k t i)
IsIndexed-prop k t None = Unit-prop
IsIndexed-prop k t (Some i) = hlevel props

-- an index of no rows
abbrev pub no_rows : Index
no_rows = record { last = replicate chain_count None; before = replicate chain_count None }
