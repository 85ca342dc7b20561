-- The log table as a list of rows: how rows lie in a list of numbers, and what taking a word does to them.
use Rattle.std.specs.Prelude.{◌≡◌, not, cond, List, [], ◌∷◌, ◌++◌, ℕ, zero, suc, ◌+◌, ◌*◌, min, length, get_or, take, drop, set, replicate, ltb, leb, Option, Some, None, Result, Ok, Err}
use Rattle.laws.specs.Lists.{equal}
use Rattle.laws.specs.Scans.{first_failing}
use Rattle.laws.specs.Bits.{with_bit}
use Rattle.limits.specs.Limits.{max_events, max_rows}
use Rattle.nets.specs.Nets.{Word, Counts, at}

-- ---- How rows lie in a table

-- the numbers of a row: twelve counts, then the mask, then the traffic, which is number 13
abbrev pub row_size : ℕ
row_size = 14

abbrev pub traffic_offset : ℕ
traffic_offset = 13

-- the numbers that a table has at least
abbrev pub table_size : ℕ
table_size = row_size * max_rows

-- a row: a count vector, the mask of its allowed steps, and how many words passed it
pub record Row : Type 0 where
  pub counts : Counts
  pub mask : ℕ
  pub traffic : ℕ

-- the row that a list of numbers starts with, and a row as numbers
unfoldable pub row_at : List ℕ → Row
row_at t = record { counts = take max_events t; mask = get_or t max_events 0; traffic = get_or t traffic_offset 0 }

unfoldable pub numbers : Row → List ℕ
numbers r = r.counts ++ (r.mask ∷ r.traffic ∷ [])

-- the first k rows of a table
unfoldable pub rows_of : ℕ → List ℕ → List Row
rows_of zero t = []
rows_of (suc k) t = row_at t ∷ rows_of k (drop row_size t)

-- rows as numbers, one after the other
unfoldable pub flat : List Row → List ℕ
flat [] = []
flat (r ∷ rs) = numbers r ++ flat rs

-- the table t with the rows rs at its front, the rest of t untouched
abbrev pub with_rows : List Row → List ℕ → List ℕ
with_rows rs t = flat rs ++ drop (row_size * length rs) t

-- the table t with its first k numbers zero
unfoldable pub cleared : ℕ → List ℕ → List ℕ
cleared k t = replicate k 0 ++ drop k t

-- ---- Taking a word

-- the lowest row with the counts v, or the number of rows where there is none
unfoldable pub find_row : Counts → List Row → ℕ
find_row v rs = first_failing (λ r. not (equal r.counts v)) rs

-- a row that nothing follows and no word has passed yet
abbrev pub new_row : Counts → Row
new_row v = record { counts = v; mask = 0; traffic = 0 }

-- the rows in which the counts v have a row: as they are, or with a new one appended
unfoldable pub present : Counts → List Row → List Row
present v rs = cond (ltb (find_row v rs) (length rs)) rs (rs ++ (new_row v ∷ []))

-- the rows with f applied to row r
unfoldable pub update_at : ℕ → (Row → Row) → List Row → List Row
update_at r f [] = []
update_at zero f (x ∷ rs) = f x ∷ rs
update_at (suc r) f (x ∷ rs) = x ∷ update_at r f rs

-- the largest number of a table, which stays when one is added
abbrev pub max_traffic : ℕ
max_traffic = 65535

abbrev pub one_more : ℕ → ℕ
one_more k = min max_traffic (k + 1)

-- the row with one word more in its traffic
abbrev pub passed_once : Row → Row
passed_once r = record { counts = r.counts; mask = r.mask; traffic = one_more r.traffic }

-- a prefix with the counts v is visited: its row is there, or is appended, and has one word more
unfoldable pub visit : Counts → List Row → List Row
visit v rs = update_at (find_row v rs) passed_once (present v rs)

-- the row with bit e of its mask set
abbrev pub marked : ℕ → Row → Row
marked e r = record { counts = r.counts; mask = with_bit r.mask e; traffic = r.traffic }

-- the event e follows a prefix with the counts v: its bit is set in the lowest row with these counts
unfoldable pub follow : Counts → ℕ → List Row → List Row
follow v e rs = update_at (find_row v rs) (marked e) rs

-- the counts with one more of event e
unfoldable pub add_event : Counts → ℕ → Counts
add_event v e = set v e (at v e + 1)

-- from the prefix with counts v on, shortest first: each is visited, and followed by the next event
unfoldable pub take_word : List Row → Counts → Word → List Row
take_word rs v [] = visit v rs
take_word rs v (e ∷ w) = take_word (follow v e (visit v rs)) (add_event v e) w

-- the counts of the empty prefix
abbrev pub none : Counts
none = replicate max_events 0

-- ---- What the code knows on its way; no public contract speaks of it

-- 1 where no row has the counts v, else 0
unfoldable pub absent : Counts → List Row → ℕ
absent v rs = cond (ltb (find_row v rs) (length rs)) 0 1

-- how many prefixes, from the one with counts v on, have no row
unfoldable pub new_rows : List Row → Counts → Word → ℕ
new_rows rs v [] = absent v rs
new_rows rs v (e ∷ w) = absent v rs + new_rows rs (add_event v e) w

-- the lowest row with the counts v, where there is one
unfoldable pub found : Counts → List Row → Option ℕ
found v rs = cond (ltb (find_row v rs) (length rs)) (Some (find_row v rs)) None

-- the row with the counts v, or k where there is none
unfoldable pub row_or : List Row → ℕ → Counts → ℕ
row_or rs k v = cond (ltb (find_row v rs) (length rs)) (find_row v rs) k

-- the row of each prefix, from the one with counts v on: the one in rs, or the next number from k on
unfoldable pub numbered : List Row → ℕ → Counts → Word → List ℕ
numbered rs k v [] = row_or rs k v ∷ []
numbered rs k v (e ∷ w) = row_or rs k v ∷ numbered rs (k + absent v rs) (add_event v e) w

-- t' is t with the k rows rs at its front
pub record Holds (k : ℕ) (rs : List Row) (t t' : List ℕ) : Type 0 where
  pub front : rows_of k t' ≡ rs
  pub rest : drop (row_size * k) t' ≡ drop (row_size * k) t

-- how many rows there are with the word w, or how many there would be where they are too many
unfoldable pub rows_with : ℕ → ℕ → List ℕ → Word → Result ℕ ℕ
rows_with most k t w = let more = k + new_rows (rows_of k t) none w in cond (leb more most) (Ok more) (Err more)

-- the word w was added to the k rows of t, which gives n rows in t', where r is Ok n; or there would be n, too many, and t' is t, where r is Err n
pub record Added (most k : ℕ) (w : Word) (t t' : List ℕ) (r : Result ℕ ℕ) : Type 0 where
  pub size : r ≡ rows_with most k t w
  pub fits : (n : ℕ) → r ≡ Ok n → Holds n (take_word (rows_of k t) none w) t t'
  pub full : (n : ℕ) → r ≡ Err n → t' ≡ t
