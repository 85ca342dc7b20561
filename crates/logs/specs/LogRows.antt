-- Taking a log word by word leads to its rows: those of the definitions of nets, each with the mask of its allowed steps and its traffic.
use Rattle.std.specs.Prelude.{◌≡◌, Bool, cond, ◌||◌, ◌⊎◌, eqb, ltb, length}
use Rattle.std.proofs.Math.Path.{refl, sym, ap}
use Rattle.std.proofs.Common.{ap₂, ◌∙◌, subst, inl, inr, arith, eqb→eq, eq-eqb, ltb-true, ltb-false}
use Rattle.std.proofs.Math.Bool.{true, false}
use Rattle.std.proofs.lemmas.Bool.{false≢true}
use Rattle.std.proofs.Math.Logic.{⊎_elim}
use mathlib.Core.List.Memᴰ
use mathlib.Core.List.{List, [], ◌∷◌, ◌++◌, map, flat_map, foldl, append-nil, append_assoc, map-map, map-id, cons≢nil, Memᴰ}
use Prim.Native.Nat.{ℕ, ◌+◌, ◌<◌, ◌≤◌, min}
use Rattle.std.proofs.Math.Dec.{T}
use Rattle.std.proofs.Math.Seq.{append_snoc}
use Rattle.laws.specs.Booleans.{same_test, or_yes, yes_or_left, yes_or_right, yes_true, true_or_false, lt_or_le}
use Rattle.laws.specs.Lists.{any, keep, tabulate, equal, equal_true, eq→equal, member, →member, append-last, map-append, map_same}
use Rattle.laws.specs.Distinct.{Distinct}
use Rattle.laws.specs.Bits.{with_bit, mask_of, mask_of-same, mask_of_with, mask_of-none}
use Rattle.limits.specs.Limits.{max_events}
use Rattle.nets.specs.Nets.{Word, Log, Counts, Step, occurrences, counts, beginnings, prefixes, add_row, rows, allowed, passes, traffic}
use Rattle.nets.specs.Words.{Begins, begins_snoc, allowed→, prefix-shorter}
use Rattle.nets.specs.Fits.{Below, LogBelow}
use Rattle.nets.proofs.Rows.{→row, rows-distinct, add_row-old, add_row-new, add_row-distinct}
use Rattle.nets.specs.CountLaws.{counts_snoc}
use Rattle.nets.specs.LogLaws.{rows_snoc, allowed_snoc}
use Rattle.nets.proofs.Traffic.{traffic-empty, traffic-empty-other, traffic-next, traffic-next-other, traffic-row}
use Rattle.rows.specs.Growth.{counts-none}
use Rattle.rows.specs.Rows.{max_traffic, Row, find_row, new_row, present, one_more, passed_once, visit, marked, update_at, follow, add_event, take_word, none}
use Rattle.logs.specs.Log.{mask_at, traffic_at, log_row, log_rows, take_log}
use Rattle.rows.specs.Visiting.{counts_of, found-member, present-found, present-new, visit-is, update_here, update_later}

-- the step of counts v and event e
abbrev step : Counts → ℕ → Step
step v e = record { row = v; event = e }

-- the log with the word w more
abbrev with' : Log → Word → Log
with' log w = log ++ w ∷ []

-- ---- One event more at the end of the last word

module _ (log : Log) (u : Word) (e : ℕ) where
  -- it allows what was allowed, and e after the counts of u
  next→ : (s : Step) → T (allowed max_events (with' log (u ++ e ∷ [])) s) → T (allowed max_events (with' log u) s) ⊎ ((s.row ≡ counts max_events u) × (s.event ≡ e))
  next→ s t = ⊎_elim (λ k. inl ((allowed_snoc log u max_events s).1 (inl k))) new ((allowed_snoc log (u ++ e ∷ []) max_events s).0 t)
    where
      new : (y : Word) × (counts max_events y ≡ s.row) × Begins (y ++ s.event ∷ []) (u ++ e ∷ []) → T (allowed max_events (with' log u) s) ⊎ ((s.row ≡ counts max_events u) × (s.event ≡ e))
      new (y, q, b) = ⊎_elim
          (λ k. inl ((allowed_snoc log u max_events s).1 (inr (y, q, k))))
          (λ p. let r = append-last y u s.event e p in inr (sym q ∙ ap (counts max_events) r.0, r.1))
          (begins_snoc (y ++ s.event ∷ []) u e b)

  →next_old : (s : Step) → T (allowed max_events (with' log u) s) → T (allowed max_events (with' log (u ++ e ∷ [])) s)
  →next_old s t = (allowed_snoc log (u ++ e ∷ []) max_events s).1 (⊎_elim (λ k. inl k) (λ r. inr (r.0, r.1, longer (r.0 ++ s.event ∷ []) r.2)) ((allowed_snoc log u max_events s).0 t))
    where
      longer : (y : Word) → Begins y u → Begins y (u ++ e ∷ [])
      longer y b = (b.0 ++ e ∷ [], sym (append_assoc y b.0 (e ∷ [])) ∙ ap (λ (l : Word). l ++ e ∷ []) b.1)

  →next_new : T (allowed max_events (with' log (u ++ e ∷ [])) (step (counts max_events u) e))
  →next_new = (allowed_snoc log (u ++ e ∷ []) max_events (step (counts max_events u) e)).1 (inr (u, refl, ([], append-nil (u ++ e ∷ []))))

  -- so the row of u has the bit of e more, and each other row is as it was
  mask_next : e < max_events → mask_at (with' log (u ++ e ∷ [])) (counts max_events u) ≡ with_bit (mask_at (with' log u) (counts max_events u)) e
  unfolding mask_at
  mask_next h =
      mask_of-same max_events _ _ (λ f b. same_test _ _ (to f) (from f))
      ∙ sym (mask_of_with max_events (λ f. allowed max_events (with' log u) (step (counts max_events u) f)) e h)
    where
      to : (f : ℕ) → T (allowed max_events (with' log (u ++ e ∷ [])) (step (counts max_events u) f)) → T (eqb f e || allowed max_events (with' log u) (step (counts max_events u) f))
      to f t = ⊎_elim (λ k. yes_or_right (eqb f e) _ k) (λ p. yes_or_left (eqb f e) _ (subst T (sym (eq-eqb f e p.1)) tt)) (next→ (step (counts max_events u) f) t)

      from : (f : ℕ) → T (eqb f e || allowed max_events (with' log u) (step (counts max_events u) f)) → T (allowed max_events (with' log (u ++ e ∷ [])) (step (counts max_events u) f))
      from f t = ⊎_elim
          (λ k. subst (λ (g : ℕ). T (allowed max_events (with' log (u ++ e ∷ [])) (step (counts max_events u) g))) (sym (eqb→eq f e k)) →next_new)
          (λ k. →next_old (step (counts max_events u) f) k)
          (or_yes (eqb f e) _ t)

  mask-other : (v : Counts) → (v ≡ counts max_events u → ⊥) → mask_at (with' log (u ++ e ∷ [])) v ≡ mask_at (with' log u) v
  unfolding mask_at
  mask-other v other =
      mask_of-same max_events _ _ (λ f b. same_test _ _ (λ t. ⊎_elim (λ k. k) (λ p. absurd (other p.0)) (next→ (step v f) t)) (→next_old (step v f)))

-- a row in the middle of a word: the mask of one log, the traffic of another
abbrev between : Log → Log → Counts → Row
between masks passed v = record { counts = v; mask = mask_at masks v; traffic = traffic_at passed v }

-- ---- Rows found, added and changed

module _ (masks passed : Log) where
  abbrev row : Counts → Row
  row = between masks passed

  -- a row is found where its counts are a member
  found-row : (v : Counts) (old : List Counts) → ltb (find_row v (map row old)) (length (map row old)) ≡ member v old
  unfolding counts_of
  found-row v old = found-member v (map row old) ∙ ap (member v) (map-map (λ (r : Row). r.counts) row old ∙ map-id old)

  -- a row for v: there, or appended
  present-member : (v : Counts) (old : List Counts) → (member v old ≡ false → new_row v ≡ row v) → present v (map row old) ≡ map row (add_row old v)
  unfolding add_row
  present-member v old fresh = go (member v old) refl
    where
      go : (b : Bool) → member v old ≡ b → present v (map row old) ≡ map row (cond b old (old ++ v ∷ []))
      go true e = present-found v (map row old) (ltb-true _ _ (found-row v old ∙ e))
      go false e =
          present-new v (map row old) (ltb-false _ _ (found-row v old ∙ e))
          ∙ ap (λ (r : Row). map row old ++ (r ∷ [])) (fresh e)
          ∙ sym (map-append row old (v ∷ []))

  -- the row of v changed by f, in rows without duplicates
  update_member : (masks' passed' : Log) (f : Row → Row) (v : Counts) → between masks' passed' v ≡ f (row v)
      → ((y : Counts) → (y ≡ v → ⊥) → between masks' passed' y ≡ row y)
      → (ys : List Counts) → Distinct ys → Memᴰ v ys → update_at (find_row v (map row ys)) f (map row ys) ≡ map (between masks' passed') ys
  update_member masks' passed' f v here other [] d k = absurd (Memᴰ.not-nil k)
  update_member masks' passed' f v here other (y ∷ ys) d k =
      ⊎_elim found (later (update_member masks' passed' f v here other ys d.1)) (true_or_false (equal y v))
    where
      row' : Counts → Row
      row' = between masks' passed'

      found : equal y v ≡ true → update_at (find_row v (row y ∷ map row ys)) f (row y ∷ map row ys) ≡ row' y ∷ map row' ys
      found q =
          let same : y ≡ v = equal_true y v q in
          update_here v f (row y) (map row ys) q
          ∙ ap₂ ◌∷◌ (ap (λ (x : Counts). f (row x)) same ∙ sym here ∙ ap row' (sym same))
          (map_same _ _ ys (λ z j. sym (other z (λ p. d.0 (Memᴰ.cast (same ∙ sym p) j)))))

      later : (Memᴰ v ys → update_at (find_row v (map row ys)) f (map row ys) ≡ map row' ys)
          → equal y v ≡ false → update_at (find_row v (row y ∷ map row ys)) f (row y ∷ map row ys) ≡ row' y ∷ map row' ys
      later rest q =
          let apart : y ≡ v → ⊥ = λ p. false≢true (sym q ∙ yes_true (equal y v) (eq→equal y v p)) in
          update_later v f (row y) (map row ys) q
          ∙ ap₂ ◌∷◌ (sym (other y apart)) (rest (⊎_elim (λ p. absurd (apart (sym p))) (λ j. j) (Memᴰ.cases_cons k)))

-- ---- A word

-- before its prefix u is visited, among the words of the log, with the rows `old`: they have the masks of the log and u, and the traffic of `before`
record Ready (log : Log) (u : Word) (before : Log) (old : List Counts) : Type 0 where
  distinct : Distinct old
  -- every row that an allowed step starts from, or that a word passes, is listed
  listed : (s : Step) → T (allowed max_events (with' log u) s) → Memᴰ s.row old
  passed : (v : Counts) → 1 ≤ traffic max_events before v → Memᴰ v old
  -- the row of u lacks one, and no other does
  here : traffic max_events (with' log u) (counts max_events u) ≡ traffic max_events before (counts max_events u) + 1
  other : (v : Counts) → (v ≡ counts max_events u → ⊥) → traffic max_events (with' log u) v ≡ traffic max_events before v

module _ (log : Log) (u : Word) (before : Log) (old : List Counts) (r : Ready log u before old) where
  abbrev v : Counts
  v = counts max_events u

  not_listed : (x : Counts) → member x old ≡ false → Memᴰ x old → ⊥
  not_listed x e m = false≢true (sym e ∙ yes_true (member x old) (→member x old m))

  -- a row that is not listed is as a new row
  row-none : member v old ≡ false → new_row v ≡ between (with' log u) before v
  unfolding mask_at traffic_at
  row-none e =
      let mask : mask_at (with' log u) v ≡ 0 =
      mask_of-same max_events _ (λ f. false) (λ f b. ⊎_elim
      (λ t. absurd (not_listed v e (r.listed (step v f) (subst T (sym t) tt))))
      (λ n. n)
      (true_or_false (allowed max_events (with' log u) (step v f))))
      ∙ mask_of-none max_events in
      let none : traffic max_events before v ≡ 0 =
      ⊎_elim (λ h. omega arith) (λ h. absurd (not_listed v e (r.passed v h))) (lt_or_le (traffic max_events before v) 1) in
      rw (mask, none)

  -- its row is visited
  visit-from : visit v (map (between (with' log u) before) old) ≡ map (log_row (with' log u)) (add_row old v)
  unfolding traffic_at
  visit-from =
      let one : min max_traffic (traffic max_events (with' log u) v) ≡ one_more (min max_traffic (traffic max_events before v)) = omega (arith, r.here) in
      visit-is v (map (between (with' log u) before) old)
      ∙ ap (λ (rs : List Row). update_at (find_row v rs) passed_once rs) (present-member (with' log u) before v old row-none)
      ∙ update_member (with' log u) before (with' log u) (with' log u) passed_once v
      (rw one)
      (λ y apart. rw (r.other y apart))
      (add_row old v) (add_row-distinct old v r.distinct) (add_row-new old v)

  module _ (e : ℕ) (h : e < max_events) where
    -- and has the bit of e set, which follows u
    step_from : follow v e (visit v (map (between (with' log u) before) old)) ≡ map (between (with' log (u ++ e ∷ [])) (with' log u)) (add_row old v)
    unfolding follow
    step_from =
        ap (follow v e) visit-from
        ∙ update_member (with' log u) (with' log u) (with' log (u ++ e ∷ [])) (with' log u) (marked e) v
        (rw (mask_next log u e h)) (λ y apart. rw (mask-other log u e y apart))
        (add_row old v) (add_row-distinct old v r.distinct) (add_row-new old v)

    ready_next : Ready log (u ++ e ∷ []) (with' log u) (add_row old v)
    ready_next = record {
      distinct = add_row-distinct old v r.distinct;
      listed = λ s t. ⊎_elim (λ k. add_row-old old v (r.listed s k)) (λ p. Memᴰ.cast p.0 (add_row-new old v)) (next→ log u e s t);
      passed = λ x k. ⊎_elim
          (λ p. Memᴰ.cast (equal_true x v p) (add_row-new old v))
          (λ p. add_row-old old v (r.passed x (omega (arith, k, r.other x (λ q. false≢true (sym p ∙ yes_true (equal x v) (eq→equal x v q)))))))
          (true_or_false (equal x v));
      here = traffic-next max_events log u e h;
      other = traffic-next-other max_events log u e;
    }

-- the counts of the prefixes of a word, from u on
unfoldable pub after : Word → Word → List Counts
after u x = map (λ (b : Word). counts max_events (u ++ b)) (beginnings x)

pub after-end : (u : Word) → after u [] ≡ counts max_events u ∷ []
unfolding after beginnings
after-end u = rw append-nil

pub after_next : (u : Word) (e : ℕ) (x : Word) → after u (e ∷ x) ≡ counts max_events u ∷ after (u ++ e ∷ []) x
unfolding after beginnings
after_next u e x =
    ap₂ ◌∷◌ (ap (counts max_events) (append-nil u))
    (map-map (λ (b : Word). counts max_events (u ++ b)) (λ (b : Word). e ∷ b) (beginnings x)
    ∙ map_same _ _ (beginnings x) (λ b k. ap (counts max_events) (sym (append_snoc u e b))))

-- from the prefix u of a word on
take-from : (log : Log) (x u : Word) (before : Log) (old : List Counts) → Below max_events x → Ready log u before old
    → take_word (map (between (with' log u) before) old) (counts max_events u) x ≡ map (log_row (with' log (u ++ x))) (foldl add_row old (after u x))
unfolding take_word add_event
take-from log [] u before old below r = visit-from log u before old r ∙ rw (after-end u, append-nil)
take-from log (e ∷ x) u before old below r =
    let h : e < max_events = below e (Memᴰ.head refl) in
    let u' : Word = u ++ e ∷ [] in
    ap₂ (λ (rs : List Row) (v : Counts). take_word rs v x) (step_from log u before old r e h) (sym (counts_snoc max_events u e h))
    ∙ take-from log x u' (with' log u) (add_row old (counts max_events u)) (λ a k. below a (Memᴰ.tail k)) (ready_next log u before old r e h)
    ∙ ap₂ (λ (w : Word) (vs : List Counts). map (log_row (with' log w)) (foldl add_row old vs)) (append_snoc u e x) (sym (after_next u e x))

-- ---- A log

-- the empty word allows nothing more
allowed-empty : (log : Log) (s : Step) → T (allowed max_events (with' log []) s) → T (allowed max_events log s)
allowed-empty log s t = ⊎_elim (λ k. k) (λ r. absurd (nothing r.0 r.2)) ((allowed_snoc log [] max_events s).0 t)
  where
    nothing : (y : Word) → Begins (y ++ s.event ∷ []) [] → ⊥
    nothing [] b = cons≢nil b.1
    nothing (a ∷ y) b = cons≢nil b.1

mask-empty : (log : Log) (v : Counts) → mask_at log v ≡ mask_at (with' log []) v
unfolding mask_at
mask-empty log v = mask_of-same max_events _ _ (λ f b. same_test _ _ (λ t. (allowed_snoc log [] max_events (step v f)).1 (inl t)) (allowed-empty log (step v f)))

row-empty : (log : Log) (v : Counts) → log_row log v ≡ between (with' log []) log v
row-empty log v = rw (mask-empty log v)

ready_first : (log : Log) → Ready log [] log (rows max_events log)
ready_first log = record {
  distinct = rows-distinct max_events log;
  listed = λ s t.
      let f = allowed→ max_events log s (allowed-empty log s t) in
      Memᴰ.cast (sym f.1) (→row max_events log f.0 (prefix-shorter log f.0 (s.event ∷ []) f.2));
  passed = traffic-row max_events log;
  here = traffic-empty max_events log;
  other = traffic-empty-other max_events log;
}

-- one word more
pub take-word : (log : Log) (w : Word) → Below max_events w → take_word (log_rows log) none w ≡ log_rows (log ++ w ∷ [])
unfolding log_rows after
take-word log w below =
    ap₂ (λ (rs : List Row) (v : Counts). take_word rs v w)
    (map_same _ _ (rows max_events log) (λ v k. row-empty log v))
    counts-none
    ∙ take-from log w [] log (rows max_events log) below (ready_first log)
    ∙ ap (map (log_row (log ++ w ∷ []))) (sym (rows_snoc log w max_events))

-- a log word by word
pub take-log : (log ws : Log) → LogBelow max_events ws → take_log (log_rows log) ws ≡ log_rows (log ++ ws)
unfolding take_log
take-log log [] below = ap log_rows (sym (append-nil log))
take-log log (w ∷ ws) below =
    ap (λ (rs : List Row). take_log rs ws) (take-word log w (below w (Memᴰ.head refl)))
    ∙ take-log (log ++ w ∷ []) ws (λ x k. below x (Memᴰ.tail k))
    ∙ ap log_rows (append_snoc log w ws)

-- the empty log has the row of the empty word
pub first-row : log_rows [] ≡ new_row none ∷ []
unfolding log_rows mask_at traffic_at mask_of rows counts tabulate occurrences prefixes flat_map add_row any keep equal allowed passes traffic
first-row = refl

-- from there on
pub log-rows : (log : Log) → LogBelow max_events log → take_log (new_row none ∷ []) log ≡ log_rows log
log-rows log below = ap (λ (rs : List Row). take_log rs log) (sym first-row) ∙ take-log [] log below
