-- Reading the terms of a certificate in a loop, with their sums.
use Rattle.std.specs.Prelude.{◌≡◌, Bool, true, false, cond, ◌&&◌, Option, List, [], ◌∷◌, ◌++◌, ℕ, ◌+◌, ◌*◌, ◌-◌, ◌≤◌, ◌<◌, leb, length, get_or, drop, set, replicate}
use Rattle.std.proofs.Math.Path.{refl}
use Rattle.std.proofs.Common.{sym, ap, ◌∙◌, subst, ltb-true, lt-ltb, get_or-drop}
use native.Mathlib.Omega.{arith}
use Rattle.laws.specs.Booleans.{impossible}
use Rattle.laws.specs.Lists.{tabulate}
use Rattle.laws.specs.Bits.{bit}
use Rattle.laws.specs.Numbers.{Bytes, number_at}
use Rattle.limits.specs.Limits.{max_events, max_terms}
use Rattle.refusals.specs.Table.{bundle_end_number, value_number}
use Rattle.refusals.specs.Results.{value, refused, bind}
use Rattle.nets.specs.Nets.{Counts, at}
use Rattle.rows.specs.Rows.{row_size, new_row, none, row_at, rows_of}
use Rattle.rows.specs.Flat.{rows_at}
use Rattle.bundles.specs.Reading.{Read, Reader, got, item, ◌>>=◌, and_then, give, field, byte, number, times, onward}
use Rattle.bundles.specs.Readers.{anything, term, pairs, weights}
use Rattle.bundles.specs.ReadingLaws.{and_then-got, law-number, ranged}
use Rattle.bundles.specs.Chains.{map_read, mapped}
use Rattle.bundles.specs.TermReading.{made_term, behind_event, behind_row}
use Rattle.bundles.specs.FieldReading.{below, up_to, byte-there, number-there, byte-got}
use Rattle.bundles.specs.WordReading.{rest, rest_all, rest-none, rest_more, rest-failed}
use Rattle.bundles.specs.Layout.{TermFields, PairFields, WeightFields, kind1, Head, rows_in}
use Rattle.pairs.specs.Pairs.{row_of, all_noted, paired_rows}
use Rattle.pairs.specs.PairSums.{small-rows}
use Rattle.weights.specs.Terms.{holds_rows, holds_by, weighed_by, weighed_pairs, weighed_terms}
use Rattle.weights.specs.Totals.{max_number, added, added_weight, sums_hold, paired_hold, Summed, summed-none, summed-next, room-before, room-event}
use Rattle.weights.specs.PairedTotals.{summed-paired, summed-alone}
use Rattle.weights.specs.declared.Sums.{Sums}

-- ---- a term that was read

-- a number that was read is in its range
number_in : (p : ℕ → Bool) (b : List ℕ) (from x next : ℕ) → number p b from ≡ got x next → p x ≡ true
unfolding number field
number_in p b from x next e = go (leb (from + 2) (length b)) (p (number_at b from)) refl e
  where
    go : (there : Bool) (good : Bool) → p (number_at b from) ≡ good
        → cond there (cond good (got (number_at b from) (from + 2)) (refused value_number from)) (refused bundle_end_number from) ≡ got x next
        → p x ≡ true
    go true true g q = let value : number_at b from ≡ x = cc in ap p (sym value) ∙ g
    go true false g q = impossible cc
    go false good g q = impossible cc

-- its row is there, and its event is below n
pub record TermBounds (n row_count : ℕ) (t : TermFields) : Type 0 where
  pub row : t.row < row_count
  pub event : t.event < n

term-bounds : (n row_count : ℕ) (b : List ℕ) (from : ℕ) (t : TermFields) (next : ℕ) → term n row_count b from ≡ got t next → TermBounds n row_count t
unfolding term bind onward
term-bounds n row_count b from t next e =
    let row = and_then-got b (number (below row_count) b from) (behind_row n) t next e in
    let event = and_then-got b (byte (below n) b row.1) (behind_event row.0) t next row.3 in
    let weight = and_then-got b (number anything b event.1) (made_term row.0 event.0) t next event.3 in
    let first = number_in (below row_count) b from row.0 row.1 row.2 in
    let second = byte-got (below n) b row.1 event.0 event.1 event.2 in
    let is : record { row = row.0; event = event.0; weight = weight.0 } ≡ t = cc in
    subst (TermBounds n row_count) is (record { row = ltb-true _ _ first; event = ltb-true _ _ second.0 })

-- in a list of bytes its weight has two of them
pub term-weight : (n row_count : ℕ) (b : List ℕ) → Bytes b → (from : ℕ) (t : TermFields) (next : ℕ) → term n row_count b from ≡ got t next
    → t.weight ≤ max_number
unfolding term bind onward
term-weight n row_count b bytes from t next e =
    let row = and_then-got b (number (below row_count) b from) (behind_row n) t next e in
    let event = and_then-got b (byte (below n) b row.1) (behind_event row.0) t next row.3 in
    let weight = and_then-got b (number anything b event.1) (made_term row.0 event.0) t next event.3 in
    let third = (law-number b bytes anything).sound event.1 weight.0 weight.1 weight.2 in
    let is : weight.0 ≡ t.weight = cc in
    omega (arith, third.0.1)

-- a term that is there and in range
pub term-there : (n row_count : ℕ) (b : List ℕ) (from : ℕ) → from + 5 ≤ length b → number_at b from < row_count → get_or b (from + 2) 0 < n
    → got (record { row = number_at b from; event = get_or b (from + 2) 0; weight = number_at b (from + 3) }) (from + 5) ≡ term n row_count b from
unfolding term bind onward ranged
term-there n row_count b from there row event =
    let third : from + 2 + 1 ≡ from + 3 = omega arith in
    let end : from + 3 + 2 ≡ from + 5 = omega arith in
    sym (rw (
      number-there (below row_count) b from (omega arith),
      lt-ltb _ _ row,
      byte-there (below n) b (from + 2) (omega arith),
      lt-ltb _ _ event,
      third,
      number-there anything b (from + 3) (omega arith),
      end,
    ) refl)

-- ---- the loop

-- so far some terms were read, with these sums, and so many are left behind them
pub record TermsLeft (n row_count : ℕ) (t b : List ℕ) (from count next left : ℕ) (s : Sums) : Type 0 where
  pub terms : List TermFields
  pub same : times count (term n row_count) b from ≡ rest (λ before. term n row_count) b left terms next
  pub few : s.total + max_number * left ≤ max_number * count
  pub summed : Summed (rows_of row_count t) terms s.total s.before s.of_event s.allowed

mask-row_at : (t : List ℕ) (k : ℕ) → (row_at (drop k t)).mask ≡ get_or t (k + max_events) 0
unfolding row_at
mask-row_at t k = get_or-drop k t max_events 0

-- a term's row is in the table t, and the sums have room for it
pub record HasRoom (t : List ℕ) (s : Sums) (x : TermFields) : Type 0 where
  pub row : row_size * x.row + row_size ≤ length t
  pub event : x.event < max_events
  pub total_room : s.total + x.weight ≤ max_terms * max_number
  pub before_room : (i : ℕ)
      → at s.before i + added_weight (s.total + x.weight) x.weight * at (row_at (drop (row_size * x.row) t)).counts i ≤ max_number * max_number
  pub event_room : at s.of_event x.event + added_weight (s.total + x.weight) x.weight ≤ max_number

-- the sums with a term more, whose row is in the table t
unfoldable pub with_term : List ℕ → Sums → TermFields → Sums
with_term t s x =
    let g : ℕ = added_weight (s.total + x.weight) x.weight in
    record {
      total = s.total + x.weight;
      before = added g (at (row_at (drop (row_size * x.row) t)).counts) s.before;
      of_event = set s.of_event x.event (at s.of_event x.event + g);
      allowed = s.allowed && bit (get_or t (row_size * x.row + max_events) 0) x.event;
    }

-- the sums of no terms
abbrev pub no_sums : Sums
no_sums = record { total = 0; before = replicate max_events 0; of_event = replicate max_events 0; allowed = true }

module _ (n row_count : ℕ) (t b : List ℕ) (from count : ℕ) where
  pub terms-start : TermsLeft n row_count t b from count from count no_sums
  terms-start =
      record { terms = []; same = rest_all (λ before. term n row_count) b count from; few = omega arith; summed = summed-none (rows_of row_count t) }

  module _ {next left : ℕ} {s : Sums} (l : TermsLeft n row_count t b from count next left s) where
    -- all terms are read: whether these sums hold with those of the pairs behind them, and without any
    pub terms-done : left ≤ 0 → (noted : List (Option ℕ)) (v : Counts) (e k : ℕ) → k ≤ max_number → (behind : Reader (List PairFields))
        → weighed_terms (holds_rows (rows_of row_count t) noted v e) k behind (times count (term n row_count)) b from
        ≡ mapped (λ qs. s.allowed && all_noted noted qs && leb s.total k
        && paired_hold s.before s.of_event (tabulate max_events (paired_rows (rows_of row_count t) noted qs)) v e k) behind b next
    unfolding bind onward map_read
    terms-done h noted v e k most behind = let none : left ≡ 0 = omega arith in rw (l.same, none, rest-none) (go (behind b next))
      where
        go : (m : Read (List PairFields))
            → map_read (λ qs. holds_rows (rows_of row_count t) noted v e (record { k = k; terms = l.terms; pairs = qs })) m
            ≡ map_read (λ qs. s.allowed && all_noted noted qs && leb s.total k
            && paired_hold s.before s.of_event (tabulate max_events (paired_rows (rows_of row_count t) noted qs)) v e k) m
        go (value (item qs next)) = ap (λ (x : Bool). got x next) (sym (summed-paired (rows_of row_count t) l.summed noted v e k most qs))
        go (refused number spot) = refl

    pub terms-alone : left ≤ 0 → (noted : List (Option ℕ)) (v : Counts) (e k : ℕ) → k ≤ max_number
        → weighed_terms (holds_rows (rows_of row_count t) noted v e) k (give []) (times count (term n row_count)) b from
        ≡ got (s.allowed && leb s.total k && sums_hold s.before s.of_event v e k) next
    unfolding bind onward map_read
    terms-alone h noted v e k most =
        let none : left ≡ 0 = omega arith in
        rw (l.same, none, rest-none, summed-alone (rows_of row_count t) l.summed noted v e k most)

    module _ (more : 0 < left) where
      pub terms-failed : (test : WeightFields → Bool) (k : ℕ) (behind : Reader (List PairFields)) {number spot : ℕ}
          → term n row_count b next ≡ refused number spot
          → weighed_terms test k behind (times count (term n row_count)) b from ≡ refused number spot
      unfolding bind onward map_read
      terms-failed test k behind {number} {spot} e = rw (l.same, rest-failed (λ before. term n row_count) b left l.terms next number spot more e)

      -- the next term
      module _ {x : TermFields} {after : ℕ} (read : term n row_count b next ≡ got x after) (two_bytes : x.weight ≤ max_number)
          (numbers : (i : ℕ) → get_or t i 0 ≤ max_number) where
        bounds : TermBounds n row_count x
        bounds = term-bounds n row_count b next x after read

        is : row_of (rows_of row_count t) x.row ≡ row_at (drop (row_size * x.row) t)
        is = rows_at row_count t x.row (new_row none) bounds.row

        pub terms-room : count ≤ max_terms → n ≤ max_events → row_size * row_count ≤ length t → HasRoom t s x
        terms-room few narrow inside = record {
          row = omega (arith, bounds.row);
          event = omega (arith, bounds.event);
          total_room = omega (arith, l.few);
          before_room = λ i. rw (← is) (room-before (rows_of row_count t) (small-rows row_count t numbers) l.summed x i);
          event_room = room-event (rows_of row_count t) (small-rows row_count t numbers) l.summed x x.event;
        }

        pub terms-next : n ≤ max_events → TermsLeft n row_count t b from count after (left - 1) (with_term t s x)
        unfolding with_term
        terms-next narrow = record {
          terms = l.terms ++ x ∷ [];
          same = l.same ∙ rest_more (λ before. term n row_count) b left l.terms next x after more read;
          few = omega (arith, l.few);
          summed = rw (← mask-row_at t (row_size * x.row), ← is)
              (summed-next (rows_of row_count t) (small-rows row_count t numbers) l.summed x (omega (arith, bounds.event)));
        }

-- ---- the answer

-- the answer by the reads that it makes: behind k, and behind the term count
module _ (test : WeightFields → Bool) (n row_count : ℕ) (behind : Reader (List PairFields)) where
  abbrev pub behind_count : ℕ → ℕ → Reader Bool
  behind_count k count = weighed_terms test k behind (times count (term n row_count))

  abbrev pub behind_factor : ℕ → Reader Bool
  behind_factor k = byte (up_to max_terms) >>= behind_count k

chain : (test : WeightFields → Bool) (h : Head) (b : List ℕ) (from : ℕ)
    → weighed_by test (weights h) b from
    ≡ (number (leb 1) >>= behind_factor test h.events (length (rows_in h)) (pairs h.is_new (length h.entries))) b from
unfolding weights bind onward map_read holds_by
chain test h b from = by_factor (number (leb 1) b from)
  where
    n : ℕ
    n = h.events

    row_count : ℕ
    row_count = length (rows_in h)

    behind : Reader (List PairFields)
    behind = pairs h.is_new (length h.entries)

    by_pairs : (k : ℕ) (ts : List TermFields) (m : Read (List PairFields))
        → map_read (holds_by test) (and_then m (λ qs. give (kind1 (record { k = k; terms = ts; pairs = qs }))) b)
        ≡ map_read (λ qs. test (record { k = k; terms = ts; pairs = qs })) m
    by_pairs k ts (value (item qs next)) = refl
    by_pairs k ts (refused cause spot) = refl

    by_terms : (k : ℕ) (m : Read (List TermFields))
        → map_read (holds_by test) (and_then m (λ ts. behind >>= λ qs. give (kind1 (record { k = k; terms = ts; pairs = qs }))) b)
        ≡ and_then m (λ ts. weighed_pairs test k ts behind) b
    by_terms k (value (item ts next)) = by_pairs k ts (behind b next)
    by_terms k (refused cause spot) = refl

    by_count : (k : ℕ) (m : Read ℕ)
        → map_read (holds_by test)
        (and_then m (λ count. times count (term n row_count) >>= λ ts. behind >>= λ qs. give (kind1 (record { k = k; terms = ts; pairs = qs }))) b)
        ≡ and_then m (behind_count test n row_count behind k) b
    by_count k (value (item count next)) = by_terms k (times count (term n row_count) b next)
    by_count k (refused cause spot) = refl

    by_factor : (m : Read ℕ)
        → map_read (holds_by test)
        (and_then m (λ k. byte (up_to max_terms) >>= λ count. times count (term n row_count)
        >>= λ ts. behind >>= λ qs. give (kind1 (record { k = k; terms = ts; pairs = qs }))) b)
        ≡ and_then m (behind_factor test n row_count behind) b
    by_factor (value (item factor next)) = by_count factor (byte (up_to max_terms) b next)
    by_factor (refused cause spot) = refl

pub weights_chain : (test : WeightFields → Bool) (h : Head) (n row_count : ℕ)
    → h.events ≡ n → row_count ≡ length (rows_in h) → (b : List ℕ) (from : ℕ)
    → weighed_by test (weights h) b from ≡ (number (leb 1) >>= behind_factor test n row_count (pairs h.is_new (length h.entries))) b from
weights_chain test h n row_count events size b from =
    let behind = pairs h.is_new (length h.entries) in
    chain test h b from
    ∙ ap (λ (k : ℕ). (number (leb 1) >>= behind_factor test k (length (rows_in h)) behind) b from) events
    ∙ ap (λ (k : ℕ). (number (leb 1) >>= behind_factor test n k behind) b from) (sym size)
