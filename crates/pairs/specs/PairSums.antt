-- Reading the pairs of a certificate in a loop, with their sums.
use Rattle.std.specs.Prelude.{◌≡◌, true, false, ◌&&◌, List, [], ◌∷◌, ◌++◌, ℕ, zero, suc, ◌+◌, ◌*◌, ◌-◌, ◌^◌, ◌≤◌, ◌<◌, ℤ, pos, ◌+ℤ◌, ◌*ℤ◌, length, get_or, take, drop, replicate, Option, Some, None}
use Rattle.std.proofs.Common.{refl, sym, ap, ◌∙◌, subst, ⊎_elim, arith, length-append, ltb-true, ext_get_or, get_or-drop}
use Rattle.std.proofs.Math.Bool.{Bool, and-true, and-false}
use Rattle.std.proofs.Math.IntN.{+ℤ_assoc, +ℤ_idl, +ℤ_idr, *ℤ_comm, zero-*ℤ}
use Rattle.std.proofs.Math.ListN.{get_or-eq_default}
use Rattle.laws.specs.Booleans.{lt_or_le}
use Rattle.laws.specs.Lists.{all, all_append, tabulate, tabulate-same, length-tabulate, get_d_tabulate, get_d_copies}
use Rattle.limits.specs.Limits.{max_events, max_pairs}
use Rattle.refusals.specs.Results.{value, refused, bind}
use Rattle.nets.specs.Nets.{Counts, at}
use Rattle.rows.specs.Rows.{row_size, Row, new_row, none, row_at, rows_of}
use Rattle.rows.specs.Flat.{rows_at, counts-row_at, length-rows}
use Rattle.bundles.specs.Layout.{PairFields, signed}
use Rattle.bundles.specs.Reading.{Read, Reader, item, got, ◌>>=◌, and_then, times, byte, number, onward}
use Rattle.bundles.specs.Readers.{anything, pair, pairs}
use Rattle.bundles.specs.ReadingLaws.{and_then-got}
use Rattle.bundles.specs.FieldReading.{below, up_to, byte-got}
use Rattle.bundles.specs.TermReading.{made_pair, behind_word}
use Rattle.bundles.specs.Chains.{map_read, mapped}
use Rattle.laws.specs.Every.{Every, every_last}
use Rattle.bundles.specs.WordReading.{rest, rest_all, rest-none, rest_more, rest-failed}
use Rattle.heads.specs.declared.TakenHead.{TakenHead}
use Rattle.pairs.specs.declared.PairSums.{PairSums}
use Rattle.pairs.specs.Pairs.{row_of, counts_for, is_noted, noted_for, all_noted, paired_rows, added, sums_of, sums_for}
use Rattle.pairs.specs.Adding.{Within, within-none, within-add, within-wider, within-weighed, most_weighed}

-- ---- one pair more

-- each sum is far from the bounds of an `i64`
abbrev pub Bounded : List ℤ → Type 0
Bounded sums = (i : ℕ) → Within (2 ^ 62) (get_or sums i (pos 0))

-- the sums with a pair more
unfoldable pub with_pair : TakenHead → PairSums → PairFields → PairSums
with_pair head s q =
    let noted = noted_for head.noted.now q in
    record {
      weighed = added (signed q.weight) (counts_for (rows_of head.rows head.table.now) noted) s.weighed;
      completed = s.completed && is_noted noted;
    }

-- sums that have it added at each event
pub added_by : (h : ℤ) (u : Counts) (s t : List ℤ) → length t ≡ max_events
    → ((i : ℕ) → i < max_events → get_or t i (pos 0) ≡ get_or s i (pos 0) +ℤ h *ℤ pos (at u i)) → t ≡ added h u s
unfolding added
added_by h u s t twelve each = ext_get_or (pos 0) t (added h u s)
    (twelve ∙ sym (length-tabulate max_events _))
    (λ i b. each i (omega arith) ∙ sym (get_d_tabulate max_events (λ i. get_or s i (pos 0) +ℤ h *ℤ pos (at u i)) i (pos 0) (omega arith)))

-- where no row is noted nothing is added
pub added-none : (h : ℤ) (s : List ℤ) → length s ≡ max_events → s ≡ added h none s
added-none h s twelve = added_by h none s s twelve (λ i b. sym (nothing i))
  where
    nothing : (i : ℕ) → get_or s i (pos 0) +ℤ h *ℤ pos (at none i) ≡ get_or s i (pos 0)
    nothing i =
        ap (λ (k : ℕ). get_or s i (pos 0) +ℤ h *ℤ pos k) (get_d_copies {A = ℕ} max_events i 0)
        ∙ ap (λ (z : ℤ). get_or s i (pos 0) +ℤ z) (*ℤ_comm h (pos 0) ∙ zero-*ℤ h)
        ∙ +ℤ_idr (get_or s i (pos 0))

module _ (head : TakenHead) (s : PairSums) (q : PairFields) where
  -- a word whose row is noted, with its counts u
  pub with-noted : {r : ℕ} (u : Counts) → noted_for head.noted.now q ≡ Some r → u ≡ (row_of (rows_of head.rows head.table.now) r).counts
      → record { weighed = added (signed q.weight) u s.weighed; completed = s.completed } ≡ with_pair head s q
  unfolding with_pair counts_for is_noted
  with-noted u some same =
      rw (some, ← same) (λ i. record { weighed = added (signed q.weight) u s.weighed; completed = sym (and-true s.completed) i })

  -- a word of which none is
  pub with-none : noted_for head.noted.now q ≡ None → length s.weighed ≡ max_events
      → record { weighed = s.weighed; completed = false } ≡ with_pair head s q
  unfolding with_pair counts_for is_noted
  with-none partial twelve =
      rw partial (λ i. record { weighed = added-none (signed q.weight) s.weighed twelve i; completed = sym (and-false s.completed) i })

module _ (rs : List Row) (noted : List (Option ℕ)) where
  paired-last : (qs : List PairFields) (q : PairFields) (i : ℕ) → paired_rows rs noted (qs ++ q ∷ []) i
      ≡ paired_rows rs noted qs i +ℤ signed q.weight *ℤ pos (at (counts_for rs (noted_for noted q)) i)
  unfolding paired_rows
  paired-last [] q i = let x = signed q.weight *ℤ pos (at (counts_for rs (noted_for noted q)) i) in +ℤ_idr x ∙ sym (+ℤ_idl x)
  paired-last (p ∷ qs) q i =
      ap (λ (z : ℤ). signed p.weight *ℤ pos (at (counts_for rs (noted_for noted p)) i) +ℤ z) (paired-last qs q i)
      ∙ sym (+ℤ_assoc (signed p.weight *ℤ pos (at (counts_for rs (noted_for noted p)) i)) (paired_rows rs noted qs i)
      (signed q.weight *ℤ pos (at (counts_for rs (noted_for noted q)) i)))

  sums-last : (qs : List PairFields) (q : PairFields)
      → added (signed q.weight) (counts_for rs (noted_for noted q)) (tabulate max_events (paired_rows rs noted qs))
      ≡ tabulate max_events (paired_rows rs noted (qs ++ q ∷ []))
  unfolding added
  sums-last qs q = tabulate-same max_events _ _ (λ i b.
      ap (λ (z : ℤ). z +ℤ signed q.weight *ℤ pos (at (counts_for rs (noted_for noted q)) i))
      (get_d_tabulate max_events (paired_rows rs noted qs) i (pos 0) b)
      ∙ sym (paired-last qs q i))

  all-last : (qs : List PairFields) (q : PairFields) → (all_noted noted qs && is_noted (noted_for noted q)) ≡ all_noted noted (qs ++ q ∷ [])
  unfolding all_noted all
  all-last qs q = sym (all_append _ qs (q ∷ []) ∙ ap (λ (b : Bool). all_noted noted qs && b) (and-true _))

-- the sums of pairs behind others
pub sums_next : (head : TakenHead) (qs : List PairFields) (q : PairFields) → with_pair head (sums_for head qs) q ≡ sums_for head (qs ++ q ∷ [])
unfolding with_pair sums_of
sums_next head qs q = λ i. record {
  weighed = sums-last (rows_of head.rows head.table.now) head.noted.now qs q i;
  completed = all-last (rows_of head.rows head.table.now) head.noted.now qs q i;
}

-- ---- how large they get

-- no count of these rows is above two bytes
abbrev pub SmallRows : List Row → Type 0
SmallRows rs = (r i : ℕ) → at (row_of rs r).counts i ≤ 65535

at_take : (n : ℕ) (l : List ℕ) (i : ℕ) → get_or (take n l) i 0 ≤ get_or l i 0
at_take zero l i = omega arith
at_take (suc n) [] i = omega arith
at_take (suc n) (x ∷ l) zero = omega arith
at_take (suc n) (x ∷ l) (suc i) = at_take n l i

-- a row of a table of two-byte numbers, and all of them
small_row : (t : List ℕ) → ((i : ℕ) → get_or t i 0 ≤ 65535) → (r i : ℕ) → at (row_at (drop (row_size * r) t)).counts i ≤ 65535
small_row t h r i =
    rw counts-row_at (omega (arith, at_take max_events (drop (row_size * r) t) i, get_or-drop (row_size * r) t i 0, h (row_size * r + i)))

pub small-rows : (k : ℕ) (t : List ℕ) → ((i : ℕ) → get_or t i 0 ≤ 65535) → SmallRows (rows_of k t)
small-rows k t h r i = ⊎_elim
    (λ b. rw (rows_at k t r (new_row none) b) (small_row t h r i))
    (λ b. rw (get_or-eq_default (rows_of k t) (new_row none) {n = r} (omega (arith, length-rows k t)))
    (omega (arith, get_d_copies {A = ℕ} max_events i 0)))
    (lt_or_le r k)

-- a pair's weight has two bytes
abbrev pub TwoByteWeight : PairFields → Type 0
TwoByteWeight q = q.weight < 65536

module _ (rs : List Row) (noted : List (Option ℕ)) (small : SmallRows rs) where
  counts-small : (o : Option ℕ) (i : ℕ) → at (counts_for rs o) i ≤ 65535
  unfolding counts_for
  counts-small (Some r) i = small r i
  counts-small None i = omega (arith, get_d_copies {A = ℕ} max_events i 0)

  within-pairs : (qs : List PairFields) → Every TwoByteWeight qs → (i : ℕ) → Within (length qs * most_weighed) (paired_rows rs noted qs i)
  unfolding paired_rows
  within-pairs [] v i = within-none
  within-pairs (q ∷ qs) v i =
      within-wider (omega arith) (within-add
      (within-weighed q.weight (at (counts_for rs (noted_for noted q)) i) v.0 (counts-small (noted_for noted q) i)) (within-pairs qs v.1 i))

  sums-room : (qs : List PairFields) → Every TwoByteWeight qs → length qs ≤ max_pairs → Bounded (sums_of rs noted qs).weighed
  unfolding sums_of
  sums-room qs v few i = ⊎_elim
      (λ b. subst (Within (2 ^ 62)) (sym (get_d_tabulate max_events (paired_rows rs noted qs) i (pos 0) b))
      (within-wider (omega arith) (within-pairs qs v i)))
      (λ b. subst (Within (2 ^ 62)) (sym (get_or-eq_default (tabulate max_events (paired_rows rs noted qs))
      (pos 0) {n = i} (omega (arith, length-tabulate max_events (paired_rows rs noted qs)))))
      (within-wider (omega arith) within-none))
      (lt_or_le i max_events)

-- ---- a pair that was read

-- its word is there
pub pair-word : (words : ℕ) (b : List ℕ) (from : ℕ) (q : PairFields) (next : ℕ) → pair words b from ≡ got q next → q.word < words
unfolding pair bind onward
pair-word words b from q next e =
    let word = and_then-got b (byte (below words) b from) behind_word q next e in
    let weight = and_then-got b (number anything b word.1) (made_pair word.0) q next word.3 in
    let is : record { word = word.0; weight = weight.0 } ≡ q = cc weight.3 in
    subst (λ (x : PairFields). x.word < words) is (ltb-true _ _ (byte-got (below words) b from word.0 word.1 word.2).0)

-- ---- the pair count, and what follows it

abbrev pub behind_pairs : TakenHead → ℕ → ℕ → Reader PairSums
behind_pairs head words count = mapped (sums_for head) (times count (pair words))

pub pairs_chain : (head : TakenHead) (words : ℕ) (b : List ℕ) (at : ℕ)
    → mapped (sums_for head) (pairs true words) b at ≡ (byte (up_to max_pairs) >>= behind_pairs head words) b at
unfolding pairs bind onward map_read
pairs_chain head words b at = go (byte (up_to max_pairs) b at)
  where
    go : (m : Read ℕ) → map_read (sums_for head) (and_then m (λ count. times count (pair words)) b) ≡ and_then m (behind_pairs head words) b
    go (value (item count next)) = refl
    go (refused number spot) = refl

-- ---- the loop

-- so far some pairs were read, with these sums, and so many are left behind them
pub record PairsLeft (head : TakenHead) (words : ℕ) (b : List ℕ) (from count next left : ℕ) (s : PairSums) : Type 0 where
  pub pairs : List PairFields
  pub size : length pairs + left ≡ count
  pub weights : Every TwoByteWeight pairs
  pub same : times count (pair words) b from ≡ rest (λ before. pair words) b left pairs next
  pub summed : s ≡ sums_for head pairs

module _ (head : TakenHead) (words : ℕ) (b : List ℕ) (from count : ℕ) where
  abbrev one : List PairFields → Reader PairFields
  one before = pair words

  pub pairs-start : PairsLeft head words b from count from count (record { weighed = replicate max_events (pos 0); completed = true })
  unfolding sums_of all_noted paired_rows all tabulate
  pairs-start = record { pairs = []; size = omega arith; weights = tt; same = rest_all one b count from; summed = refl }

  module _ {next left : ℕ} {s : PairSums} (p : PairsLeft head words b from count next left s) where
    pub pairs-done : left ≤ 0 → behind_pairs head words count b from ≡ got s next
    unfolding map_read
    pairs-done h = let none : left ≡ 0 = omega arith in rw (p.same, none, rest-none, p.summed)

    -- there is room for a pair more
    pub pairs-room : SmallRows (rows_of head.rows head.table.now) → count ≤ max_pairs → Bounded s.weighed
    pairs-room small few =
        rw p.summed (sums-room (rows_of head.rows head.table.now) head.noted.now small p.pairs p.weights (omega (arith, p.size, few)))

    module _ (more : 0 < left) where
      pub pairs-failed : {number spot : ℕ} → pair words b next ≡ refused number spot → behind_pairs head words count b from ≡ refused number spot
      unfolding map_read
      pairs-failed {number} {spot} e = ap (map_read (sums_for head)) (p.same ∙ rest-failed one b left p.pairs next number spot more e)

      pub pairs_next : {q : PairFields} {after : ℕ} → pair words b next ≡ got q after → TwoByteWeight q
          → PairsLeft head words b from count after (left - 1) (with_pair head s q)
      pairs_next {q} {after} e small = record {
        pairs = p.pairs ++ q ∷ [];
        size = omega (arith, p.size, length-append p.pairs (q ∷ []));
        weights = every_last TwoByteWeight p.pairs q p.weights small;
        same = p.same ∙ rest_more one b left p.pairs next q after more e;
        summed = ap (λ (x : PairSums). with_pair head x q) p.summed ∙ sums_next head p.pairs q;
      }
