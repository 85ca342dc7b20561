-- Laws of an index: its numbers, one row more, and a chain followed.
use Rattle.std.specs.Prelude.{◌≡◌, refl, Bool, not, ℕ, zero, suc, ◌+◌, ◌*◌, ◌-◌, ◌%◌, ◌<◌, ◌≤◌, ltb, length, take, set, Option, Some, None, IfSome, unwrap_or}
use Rattle.std.proofs.Common.{sym, ◌∙◌, ⊎_elim, zero-le, suc-le-suc, le_refl, not-suc-le-zero, le_of_suc-le-suc, mul-one, mul-le-mul, add-one, arith, ltb→lt, take_all, take_at, take-take, get_or-set_same, drop-cons}
use Rattle.std.proofs.Math.Path.{ap}
use Rattle.std.proofs.Math.Bool.{true, false, cond}
use mathlib.Core.List.{List, [], ◌∷◌, ◌++◌, map, map-map}
use borrow.Author.Tests.{eqb-true, eqb-false}
use Rattle.std.proofs.Math.Dec.{eqb}
use Rattle.std.proofs.Math.ListN.{get_or, drop, drop_of_length-le, get_or-append}
use Rattle.std.proofs.lemmas.List.{get_or_at}
use Rattle.std.proofs.Math.Seq.{get_or-set_other}
use Rattle.laws.specs.Booleans.{lt_or_le, true_or_false}
use Rattle.laws.specs.Lists.{all, all-member, get_d_member, get_d_copies, get_d_map, map-append, equal, equal_true}
use Rattle.laws.specs.Scans.{first_failing}
use Rattle.laws.specs.Sums.{weighted, weighted-more, weighted-zeros}
use Rattle.limits.specs.Limits.{max_events}
use Rattle.nets.specs.Nets.{Counts}
use Rattle.rows.specs.Rows.{row_size, Row, row_at, rows_of, find_row, found, new_row, visit, follow, add_event, take_word, none, Holds}
use Rattle.rows.specs.Flat.{held, length-rows, rows_at, rows_last}
use Rattle.rows.specs.Visiting.{counts_of, visit_cases, length-visit, counts-follow, length-follow}
use Rattle.rows.specs.Growth.{visit_le}
use Rattle.rows.specs.Searching.{found_from}
use Rattle.rows.specs.Index.{multipliers, multiplier, key, chain_count, chains, last_in, up_to, IsIndex, no_rows}
use Rattle.rows.specs.declared.index.Index.{Index}

-- ---- Keys

-- a multiplier is a byte
pub multiplier-small : (e : ℕ) → e < max_events → multiplier e < 256
unfolding multipliers all
multiplier-small e h = ltb→lt (multiplier e) 256 (all-member (λ x. ltb x 256) multipliers tt (get_d_member multipliers e 0 h))

pub key-none : key none ≡ 0
unfolding key
key-none = weighted-zeros multiplier max_events

pub key-add_event : (v : List ℕ) (e : ℕ) → e < length v → key (add_event v e) ≡ key v + multiplier e
unfolding key add_event
key-add_event v e h = weighted-more multiplier v e 1 h ∙ rw mul-one

-- so a key is no large number, where the counts are of 16 bits
weighted_le : (w : ℕ → ℕ) (xs : List ℕ) (a b : ℕ) → ((i : ℕ) → i < length xs → w i ≤ a) → ((i : ℕ) → get_or xs i 0 ≤ b) → weighted w xs ≤ length xs * (a * b)
unfolding weighted
weighted_le w [] a b few small = zero-le
weighted_le w (x ∷ xs) a b few small =
    let rest = weighted_le (λ (i : ℕ). w (suc i)) xs a b (λ i h. few (suc i) (suc-le-suc h)) (λ i. small (suc i)) in
    omega (arith, mul-le-mul (few 0 (suc-le-suc zero-le)) (small 0), rest)

pub key_le : (v : List ℕ) → length v ≡ max_events → ((i : ℕ) → get_or v i 0 < 65536) → key v ≤ max_events * (255 * 65535)
unfolding key
key_le v twelve small =
    rw twelve at (weighted_le multiplier v 255 65535 (λ i h. omega (arith, multiplier-small i (rw twelve at h))) (λ i. omega (arith, small i)))

-- ---- Chains

length-chains : (rs : List Row) → length (chains rs) ≡ length rs
unfolding chains
length-chains [] = refl
length-chains (r ∷ rs) = ap suc (length-chains rs)

chains-append : (rs qs : List Row) → chains (rs ++ qs) ≡ chains rs ++ chains qs
unfolding chains
chains-append rs qs = map-append (λ (r : Row). key r.counts % chain_count) rs qs

chains-at : (rs : List Row) (i : ℕ) (d : Row) → i < length rs → get_or (chains rs) i 0 ≡ key (get_or rs i d).counts % chain_count
unfolding chains
chains-at rs i d h = get_d_map (λ (r : Row). key r.counts % chain_count) rs i d 0 h

-- one row more
chains-last : (k : ℕ) (t : List ℕ) → chains (rows_of (suc k) t) ≡ chains (rows_of k t) ++ (key (row_at (drop (row_size * k) t)).counts % chain_count ∷ [])
unfolding chains
chains-last k t = ap chains (rows_last k t) ∙ chains-append (rows_of k t) (row_at (drop (row_size * k) t) ∷ [])

-- they depend on the counts of the rows only
chains-same : (rs qs : List Row) → counts_of rs ≡ counts_of qs → chains rs ≡ chains qs
unfolding chains counts_of
chains-same rs qs same =
    sym (map-map (λ (v : Counts). key v % chain_count) (λ (r : Row). r.counts) rs)
    ∙ ap (map (λ (v : Counts). key v % chain_count)) same
    ∙ map-map (λ (v : Counts). key v % chain_count) (λ (r : Row). r.counts) qs

-- a new row stands behind the others
chains-visit : (v : List ℕ) (rs : List Row) → take (length rs) (chains (visit v rs)) ≡ chains rs
chains-visit v rs =
    ⊎_elim (λ p. rw (chains-same (visit v rs) rs p.0) (take_all (length rs) (chains rs) (rw length-chains (le_refl (length rs)))))
    (λ p. rw (chains-same (visit v rs) (rs ++ (new_row v ∷ [])) p.0, chains-append) (take_at (chains rs) (chains (new_row v ∷ [])) (length rs) (length-chains rs)))
    (visit_cases v rs)

-- so taking a word keeps the chains of the rows that are there
chains-take : (rs : List Row) (v w : List ℕ) → take (length rs) (chains (take_word rs v w)) ≡ chains rs
unfolding take_word
chains-take rs v [] = chains-visit v rs
chains-take rs v (e ∷ w) =
    let rs' : List Row = follow v e (visit v rs) in
    let all : List ℕ = chains (take_word rs' (add_event v e) w) in
    let more : length rs ≤ length rs' = omega (arith, length-follow v e (visit v rs), length-visit v rs) in
    sym (take-take (length rs) (length rs') all more)
    ∙ ap (take (length rs)) (chains-take rs' (add_event v e) w ∙ chains-same (follow v e (visit v rs)) (visit v rs) (counts-follow v e (visit v rs)))
    ∙ chains-visit v rs

-- the chains of the first k rows
chains-part : (k : ℕ) (rs : List Row) → take k (chains rs) ≡ chains (take k rs)
unfolding chains
chains-part zero rs = refl
chains-part (suc k) [] = refl
chains-part (suc k) (r ∷ rs) = ap (λ (l : List ℕ). key r.counts % chain_count ∷ l) (chains-part k rs)

rows-part : (k m : ℕ) (t : List ℕ) → k ≤ m → take k (rows_of m t) ≡ rows_of k t
unfolding rows_of
rows-part zero m t h = refl
rows-part (suc k) zero t h = absurd (not-suc-le-zero h)
rows-part (suc k) (suc m) t h = ap (λ (rs : List Row). row_at t ∷ rs) (rows-part k m (drop row_size t) (le_of_suc-le-suc h))

-- of a table that holds m rows
chains-held : (k m : ℕ) (rs : List Row) (t t' : List ℕ) → Holds m rs t t' → k ≤ m → chains (rows_of k t') ≡ take k (chains rs)
chains-held k m rs t t' holds h = sym (chains-part k rs ∙ ap (λ (qs : List Row). chains (take k qs)) (sym holds.front) ∙ ap chains (rows-part k m t' h))

-- ---- The last row of a chain

last_le : (c : ℕ) (cs : List ℕ) (r : ℕ) → last_in c cs r ≤ r
unfolding last_in
last_le c cs zero = zero-le
last_le c cs (suc r) = go (eqb (get_or cs r 0) c) (last_le c cs r)
  where
    go : (b : Bool) → last_in c cs r ≤ r → cond b (suc r) (last_in c cs r) ≤ suc r
    go true h = le_refl (suc r)
    go false h = omega arith

last_in_lem : (c : ℕ) (cs : List ℕ) (r : ℕ) → 0 < last_in c cs r → get_or cs (last_in c cs r - 1) 0 ≡ c
unfolding last_in
last_in_lem c cs zero h = absurd (not-suc-le-zero h)
last_in_lem c cs (suc r) h = go (eqb (get_or cs r 0) c) refl (last_in_lem c cs r) h
  where
    go : (b : Bool) → eqb (get_or cs r 0) c ≡ b → (0 < last_in c cs r → get_or cs (last_in c cs r - 1) 0 ≡ c)
        → 0 < cond b (suc r) (last_in c cs r) → get_or cs (cond b (suc r) (last_in c cs r) - 1) 0 ≡ c
    go true e below h = let here : suc r - 1 ≡ r = omega arith in rw here (eqb-true (get_or cs r 0) c e)
    go false e below h = below h

-- it depends on the first r chains only
last-append : (c : ℕ) (cs ds : List ℕ) (r : ℕ) → r ≤ length cs → last_in c (cs ++ ds) r ≡ last_in c cs r
unfolding last_in
last-append c cs ds zero h = refl
last-append c cs ds (suc r) h = rw (get_or-append cs ds 0 r h, last-append c cs ds r (omega arith))

-- ---- An index

-- one of no rows
pub index_none : (t : List ℕ) → IsIndex 0 t no_rows
unfolding last_in
index_none t = record { chained = λ c b. ap up_to (get_d_copies chain_count c None); preceded = λ r b. absurd (not-suc-le-zero b) }

-- it depends on the chains of the rows only
index_same : (k : ℕ) (t t' : List ℕ) (l : Index) → chains (rows_of k t') ≡ chains (rows_of k t) → IsIndex k t l → IsIndex k t' l
index_same k t t' l same i = record { chained = λ c b. rw same (i.chained c b); preceded = λ r b. rw same (i.preceded r b) }

-- so it stays one where a word is taken
pub index_taken : (k m : ℕ) (w t t' : List ℕ) (l : Index) → Holds m (take_word (rows_of k t) none w) t t' → IsIndex k t l → IsIndex k t' l
index_taken k m w t t' l holds i =
    let rs : List Row = take_word (rows_of k t) none w in
    let more : k ≤ m = omega (arith, held m rs t t' holds, length-rows k t, length-visit none (rows_of k t), visit_le (rows_of k t) none w) in
    let kept : take k (chains rs) ≡ chains (rows_of k t) = rw length-rows at (chains-take (rows_of k t) none w) in
    index_same k t t' l (chains-held k m rs t t' holds more ∙ kept) i

-- row r, which is in chain c, is put at the end of that chain
module _ (r c : ℕ) (t : List ℕ) (l : Index) (low : r < length l.before) (room : chain_count ≤ length l.last)
    (in_c : c ≡ key (row_at (drop (row_size * r) t)).counts % chain_count) (i : IsIndex r t l) where
  cs : List ℕ
  cs = chains (rows_of r t)

  few : length cs ≡ r
  unfolding cs
  few = length-chains (rows_of r t) ∙ length-rows r t

  more : chains (rows_of (r + 1) t) ≡ cs ++ (c ∷ [])
  unfolding cs
  more = rw (add-one, in_c) (chains-last r t)

  link_last : (d : ℕ) → d < chain_count → up_to (get_or (set l.last c (Some r)) d None) ≡ last_in d (cs ++ (c ∷ [])) (suc r)
  unfolding last_in cs
  link_last d b = rw (get_or_at cs c [] 0 r few, last-append d cs (c ∷ []) r (omega (arith, few)), ← i.chained d b) (go (eqb c d) refl)
    where
      go : (x : Bool) → eqb c d ≡ x → up_to (get_or (set l.last c (Some r)) d None) ≡ cond x (suc r) (up_to (get_or l.last d None))
      go true e = rw (← eqb-true c d e) (ap up_to (get_or-set_same l.last c (Some r) None (omega (arith, eqb-true c d e))))
      go false e = ap up_to (get_or-set_other l.last c d (Some r) None (λ p. eqb-false c d e (sym p)))

  link_before : (j : ℕ) → j < suc r
      → up_to (get_or (set l.before r (get_or l.last c None)) j None) ≡ last_in (get_or (cs ++ (c ∷ [])) j 0) (cs ++ (c ∷ [])) j
  unfolding cs
  link_before j b = rw (last-append (get_or (cs ++ (c ∷ [])) j 0) cs (c ∷ []) j (omega (arith, few))) (⊎_elim older newest (lt_or_le j r))
    where
      older : j < r → up_to (get_or (set l.before r (get_or l.last c None)) j None) ≡ last_in (get_or (cs ++ (c ∷ [])) j 0) cs j
      older h = ap up_to (get_or-set_other l.before r j (get_or l.last c None) None (λ p. omega arith))
          ∙ rw (get_or-append cs (c ∷ []) 0 j (omega (arith, few))) (i.preceded j h)

      newest : r ≤ j → up_to (get_or (set l.before r (get_or l.last c None)) j None) ≡ last_in (get_or (cs ++ (c ∷ [])) j 0) cs j
      newest h =
          let here : j ≡ r = omega arith in
          let low-c : c < chain_count = omega (arith, in_c) in
          rw (here, get_or_at cs c [] 0 r few, ← i.chained c low-c) (ap up_to (get_or-set_same l.before r (get_or l.last c None) None low))

  pub index_link : IsIndex (r + 1) t (record { last = set l.last c (Some r); before = set l.before r (get_or l.last c None) })
  index_link = record {
    chained = λ d b. rw more (link_last d b ∙ ap (last_in d (cs ++ (c ∷ []))) (sym (add-one r)));
    preceded = λ j b. rw more (link_before j (omega arith));
  }

-- ---- A chain followed

find_cons : (v : Counts) (rs : List Row) (r : ℕ) (d : Row) → r < length rs
    → find_row v (drop r rs) ≡ cond (not (equal (get_or rs r d).counts v)) (suc (find_row v (drop (suc r) rs))) 0
unfolding find_row first_failing
find_cons v rs r d h = rw (drop-cons rs r d h)

-- the rows behind the last of the chain of v are in other chains, so they have other counts
skip : (v : Counts) (rs : List Row) (x : ℕ) → x ≤ length rs
    → x + find_row v (drop x rs) ≡ last_in (key v % chain_count) (chains rs) x + find_row v (drop (last_in (key v % chain_count) (chains rs) x) rs)
unfolding last_in
skip v rs zero h = refl
skip v rs (suc x) h = go (eqb (get_or (chains rs) x 0) (key v % chain_count)) refl (skip v rs x (omega arith))
  where
    go : (b : Bool) → eqb (get_or (chains rs) x 0) (key v % chain_count) ≡ b
        → x + find_row v (drop x rs) ≡ last_in (key v % chain_count) (chains rs) x + find_row v (drop (last_in (key v % chain_count) (chains rs) x) rs)
        → suc x + find_row v (drop (suc x) rs)
        ≡ cond b (suc x) (last_in (key v % chain_count) (chains rs) x) + find_row v (drop (cond b (suc x) (last_in (key v % chain_count) (chains rs) x)) rs)
    go true e below = refl
    go false e below =
        let row : Row = get_or rs x (new_row none) in
        let other : equal row.counts v ≡ false =
        ⊎_elim
        (λ p. absurd (eqb-false (get_or (chains rs) x 0) (key v % chain_count) e (chains-at rs x (new_row none) h ∙ ap (λ (u : Counts). key u % chain_count) (equal_true row.counts v p))))
        (λ p. p)
        (true_or_false (equal row.counts v)) in
        let here : find_row v (drop x rs) ≡ suc (find_row v (drop (suc x) rs)) = find_cons v rs x (new_row none) h ∙ rw other in
        omega (arith, below, here)

-- a chain of k rows that is followed from its end: `next` is the row looked at next, and `lowest` the lowest row behind it with the counts v
pub record Following (v : Counts) (k : ℕ) (t : List ℕ) (lowest next : Option ℕ) : Type 0 where
  pub within : up_to next ≤ k
  pub behind : unwrap_or lowest k ≡ up_to next + find_row v (drop (up_to next) (rows_of k t))
  pub below : IfSome lowest (λ r. r < k)
  pub chained : 0 < up_to next → get_or (chains (rows_of k t)) (up_to next - 1) 0 ≡ key v % chain_count

-- from the rows below x to the last of them that is in the chain
chain-from : (v : Counts) (k : ℕ) (t : List ℕ) (lowest : Option ℕ) (x : ℕ) (next : Option ℕ) → x ≤ k → unwrap_or lowest k ≡ x + find_row v (drop x (rows_of k t))
    → IfSome lowest (λ r. r < k) → up_to next ≡ last_in (key v % chain_count) (chains (rows_of k t)) x → Following v k t lowest next
chain-from v k t lowest x next h e low at =
    let within : up_to next ≤ k = omega (arith, last_le (key v % chain_count) (chains (rows_of k t)) x) in
    record {
      within = within;
      behind = rw at (e ∙ skip v (rows_of k t) x (rw length-rows h));
      below = low;
      chained = rw at (last_in_lem (key v % chain_count) (chains (rows_of k t)) x);
    }

module _ (v : Counts) (k : ℕ) (t : List ℕ) (l : Index) (i : IsIndex k t l) where
  pub chain-start : (sum : ℕ) → sum ≡ key v → Following v k t None (get_or l.last (sum % chain_count) None)
  unfolding find_row first_failing
  chain-start sum e =
      let end : drop k (rows_of k t) ≡ [] = drop_of_length-le (rows_of k t) {i = k} (rw length-rows (le_refl k)) in
      chain-from v k t None k (get_or l.last (sum % chain_count) None) (le_refl k) (rw end (omega arith)) tt
      (rw e (i.chained (key v % chain_count) (omega arith)))

  -- row r, which is the next
  module _ (lowest : Option ℕ) (r : ℕ) (f : Following v k t lowest (Some r)) where
    pub chain_row : r < k
    chain_row = f.within

    before_in : up_to (get_or l.before r None) ≡ last_in (key v % chain_count) (chains (rows_of k t)) r
    before_in =
        let here : suc r - 1 ≡ r = omega arith in
        let in_chain : get_or (chains (rows_of k t)) r 0 ≡ key v % chain_count = rw here at (f.chained (omega arith)) in
        i.preceded r chain_row ∙ rw in_chain

    pub chain-less : up_to (get_or l.before r None) < up_to (Some r)
    chain-less = omega (arith, before_in, last_le (key v % chain_count) (chains (rows_of k t)) r)

    -- b is the test on it, and u its counts
    pub chain_next : (u : Counts) (b : Bool) (lowest' : Option ℕ) → u ≡ (row_at (drop (row_size * r) t)).counts → b ≡ equal u v → lowest' ≡ cond b (Some r) lowest
        → Following v k t lowest' (get_or l.before r None)
    chain_next u b lowest' is test e =
        let rs : List Row = rows_of k t in
        let row : equal (get_or rs r (new_row none)).counts v ≡ b =
        ap (λ (x : Row). equal x.counts v) (rows_at k t r (new_row none) chain_row) ∙ rw (test, is) in
        let step : find_row v (drop r rs) ≡ cond (not b) (suc (find_row v (drop (suc r) rs))) 0 =
        find_cons v rs r (new_row none) (rw length-rows chain_row) ∙ rw row in
        chain-from v k t lowest' r (get_or l.before r None) (omega (arith, chain_row)) (rw e (lower b rs step f.behind)) (rw e (kept b)) before_in
      where
        lower : (b : Bool) (rs : List Row) → find_row v (drop r rs) ≡ cond (not b) (suc (find_row v (drop (suc r) rs))) 0
            → unwrap_or lowest k ≡ suc r + find_row v (drop (suc r) rs) → unwrap_or (cond b (Some r) lowest) k ≡ r + find_row v (drop r rs)
        lower true rs e f = omega arith
        lower false rs e f = omega arith

        kept : (b : Bool) → IfSome (cond b (Some r) lowest) (λ x. x < k)
        kept true = chain_row
        kept false = f.below

pub chain-end : (v : Counts) (k : ℕ) (t : List ℕ) (lowest next : Option ℕ) → Following v k t lowest next → next ≡ None → lowest ≡ found v (rows_of k t)
chain-end v k t lowest next f e =
    let is : unwrap_or lowest k ≡ find_row v (rows_of k t) = f.behind ∙ rw e (omega arith) in
    found_from v k t lowest f.below is
