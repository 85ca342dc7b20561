-- The table after the words of a log are taken from a fresh one.
use Rattle.std.specs.Prelude.{◌≡◌, refl, true, ℕ, zero, suc, ◌+◌, ◌*◌, ◌-◌, ◌<◌, ◌≤◌, min, length, drop, ltb, Ok}
use Rattle.std.proofs.Common.{sym, ◌∙◌, subst, ⊎_elim, le_refl, le_trans, add-zero, zero-add, add_assoc, lt_of_lt_of_le, arith, length-append, length-drop, drop_at, length-take-le, leb-true}
use Rattle.std.proofs.Math.Path.{ap}
use mathlib.Core.List.Memᴰ
use mathlib.Core.List.{List, [], ◌∷◌, ◌++◌, map, map-map, append_assoc}
use Rattle.std.proofs.lemmas.List.{length-map, length-replicate, replicate-append-replicate}
use Rattle.laws.specs.Every.{Every}
use Rattle.laws.specs.Bits.{bit, mask_of, mask_of-same, mask_of-bit}
use Rattle.laws.specs.Scans.{all-failing}
use Rattle.laws.specs.Parts.{drop_more}
use Rattle.limits.specs.Limits.{max_events, max_log_events, max_rows}
use Rattle.refusals.specs.Results.{passed}
use Rattle.nets.specs.Events.{first_bad, EventsBelow, none_bad, each_below}
use Rattle.nets.specs.Nets.{Word, Log, Counts, event_count, rows, allowed, traffic}
use Rattle.nets.specs.Fits.{Below, LogBelow}
use Rattle.nets.specs.Wide.{wide, rows-wide, allowed-wide}
use Rattle.nets.proofs.Traffic.{traffic-wide}
use Rattle.rows.specs.Rows.{row_size, max_traffic, Row, row_at, numbers, rows_of, flat, with_rows, new_row, visit, follow, add_event, take_word, none, cleared}
use Rattle.logs.specs.Answers.{table_size, right_summary, fresh_summary, log_started, fresh_answer, fresh_table, rows_after, summary_after, word_taken, taken_answer, taken_table}
use Rattle.logs.specs.AnswerLaws.{next→value, right_event_count-most}
use Rattle.logs.specs.Log.{take_log, mask_at, traffic_at, log_row, log_rows, Takes}
use Rattle.rows.specs.Flat.{length-rows, rows-flat, length-numbers, row_at-numbers, counts-row_at}
use Rattle.rows.specs.Visiting.{counts_of, visit_cases, length-visit, counts-follow}
use Rattle.rows.specs.Growth.{length-add_event, visit_le}
use Rattle.logs.specs.LogRows.{log-rows}
use Rattle.logs.specs.declared.Summary.{Summary}

-- rows of twelve counts each
unfoldable pub Twelve : List Row → Type 0
Twelve rs = Every (λ (v : Counts). length v ≡ max_events) (counts_of rs)

twelve-same : (rs qs : List Row) → counts_of rs ≡ counts_of qs → Twelve qs → Twelve rs
unfolding Twelve
twelve-same rs qs same h = rw same h

pub rows-twelve : (k : ℕ) (t : List ℕ) → row_size * k ≤ length t → Twelve (rows_of k t)
unfolding Twelve rows_of counts_of
rows-twelve zero t h = tt
rows-twelve (suc k) t h = (ap length (counts-row_at t) ∙ length-take-le max_events t (omega arith), rows-twelve k (drop row_size t) (simp length-drop (omega arith)))

append-twelve : (rs qs : List Row) → Twelve rs → Twelve qs → Twelve (rs ++ qs)
unfolding Twelve counts_of
append-twelve [] qs h g = g
append-twelve (r ∷ rs) qs h g = (h.0, append-twelve rs qs h.1 g)

visit-twelve : (v : List ℕ) (rs : List Row) → length v ≡ max_events → Twelve rs → Twelve (visit v rs)
unfolding Twelve counts_of
visit-twelve v rs n h =
    ⊎_elim
    (λ p. twelve-same (visit v rs) rs p.0 h)
    (λ p. twelve-same (visit v rs) (rs ++ (new_row v ∷ [])) p.0 (append-twelve rs (new_row v ∷ []) h (n, tt)))
    (visit_cases v rs)

pub take-twelve : (rs : List Row) (v w : List ℕ) → length v ≡ max_events → Twelve rs → Twelve (take_word rs v w)
unfolding take_word
take-twelve rs v [] n h = visit-twelve v rs n h
take-twelve rs v (e ∷ w) n h =
    take-twelve (follow v e (visit v rs)) (add_event v e) w (length-add_event v e ∙ n)
    (twelve-same (follow v e (visit v rs)) (visit v rs) (counts-follow v e (visit v rs)) (visit-twelve v rs n h))

-- such rows, flat, are read back
length-flat : (rs : List Row) → Twelve rs → length (flat rs) ≡ row_size * length rs
unfolding Twelve counts_of flat
length-flat [] h = refl
length-flat (r ∷ rs) h = rw (length-append, length-numbers r h.0, length-flat rs h.1) (omega arith)

read-flat : (rs : List Row) (q : List ℕ) → Twelve rs → rows_of (length rs) (flat rs ++ q) ≡ rs
unfolding Twelve counts_of flat rows_of
read-flat [] q h = refl
read-flat (r ∷ rs) q h =
    let one : List ℕ = numbers r in
    let x : List ℕ = flat rs ++ q in
    rw (append_assoc one (flat rs) q)
    (ap (λ (l : List Row). row_at (one ++ x) ∷ l) (ap (rows_of (length rs)) (drop_at one x row_size (length-numbers r h.0)) ∙ read-flat rs q h.1)
    ∙ ap (λ (y : Row). y ∷ rs) (row_at-numbers r x h.0))

pub read_with : (rs : List Row) (t : List ℕ) → Twelve rs → rows_of (length rs) (with_rows rs t) ≡ rs
read_with rs t h = read-flat rs (drop (row_size * length rs) t) h

pub rest_with : (rs : List Row) (t : List ℕ) → Twelve rs → drop (row_size * length rs) (with_rows rs t) ≡ drop (row_size * length rs) t
rest_with rs t h = drop_at (flat rs) (drop (row_size * length rs) t) (row_size * length rs) (length-flat rs h)

pub length_with : (rs : List Row) (t : List ℕ) → Twelve rs → row_size * length rs ≤ length t → length (with_rows rs t) ≡ length t
length_with rs t h room = rw (length-append, length-flat rs h, length-drop) (omega arith)

-- a word that was taken passed every test
pub record Took (s : Summary) (t w : List ℕ) (next : Summary) : Type 0 where
  pub long : table_size ≤ length t
  pub fine : right_summary s ≡ true
  pub few : s.events + length w ≤ max_log_events
  pub below : EventsBelow s.n w
  pub fits : length (rows_after s t w) ≤ max_rows
  pub is : next ≡ summary_after s t w

pub took : (s : Summary) (t w : List ℕ) (next : Summary) → taken_answer s t w ≡ Ok next → Took s t w next
unfolding taken_answer word_taken first_bad
took s t w next e =
    let a = passed _ _ _ _ next (next→value (word_taken s t w) next e) in
    let b = passed _ _ _ _ next a.1 in
    let c = passed _ _ _ _ next b.1 in
    let d = passed _ _ _ _ next c.1 in
    let f = passed _ _ _ _ next d.1 in
    let events = all-failing (λ e. ltb e s.n) w d.0 in
    record {
      long = leb-true _ _ a.0;
      fine = b.0;
      few = leb-true _ _ c.0;
      below = none_bad s.n w (omega arith);
      fits = leb-true _ _ f.0;
      is = cc f.1;
    }

-- taking words only adds rows
take_le : (rs : List Row) (v w : List ℕ) → length rs ≤ length (take_word rs v w)
take_le rs v w = omega (arith, visit_le rs v w, length-visit v rs)

log_le : (rs : List Row) (ws : Log) → length rs ≤ length (take_log rs ws)
unfolding take_log
log_le rs [] = le_refl _
log_le rs (w ∷ ws) = le_trans (take_le rs none w) (log_le (take_word rs none w) ws)

-- what the words of ws leave, from any summary and table
record Left (s : Summary) (t : List ℕ) (ws : Log) (s' : Summary) (t' : List ℕ) : Type 0 where
  summary : s' ≡ record { n = s.n; rows = length (take_log (rows_of s.rows t) ws); events = s.events + event_count ws }
  table : t' ≡ with_rows (take_log (rows_of s.rows t) ws) t

left : (s : Summary) (t : List ℕ) (ws : Log) (s' : Summary) (t' : List ℕ) → row_size * s.rows ≤ length t → Takes s t ws s' t' → Left s t ws s' t'
unfolding Takes taken_table take_log event_count
left s t [] s' t' room takes =
    record {
      summary = takes.0 ∙ rw (length-rows, add-zero);
      table = takes.1 ∙ rw length-rows (sym (rows-flat s.rows t room));
    }
left s t (w ∷ ws) s' t' room takes =
    let k = took s t w takes.0 takes.1 in
    let rs : List Row = rows_after s t w in
    let t₁ : List ℕ = with_rows rs t in
    let next : Summary = summary_after s t w in
    let twelve = take-twelve (rows_of s.rows t) none w refl (rows-twelve s.rows t room) in
    let fits : row_size * length rs ≤ length t = omega (arith, k.fits, k.long) in
    let size = length_with rs t twelve fits in
    let rest : Takes next t₁ ws s' t' = rw (takes.1, k.is) at takes.2 in
    let all = left next t₁ ws s' t' (omega arith) rest in
    let back : rows_of (length rs) t₁ ≡ rs = read_with rs t twelve in
    let same : drop (row_size * length (take_log rs ws)) t₁ ≡ drop (row_size * length (take_log rs ws)) t =
    drop_more (row_size * length rs) (row_size * length (take_log rs ws)) t₁ t (omega (arith, log_le rs ws)) (rest_with rs t twelve) in
    record {
      summary = all.summary ∙ rw (back, add_assoc);
      table = all.table ∙ rw (back, same);
    }

-- a fresh table has one row, of zeros
cleared-first : (m : ℕ) (t : List ℕ) → rows_of 1 (cleared (row_size + m) t) ≡ new_row none ∷ []
unfolding rows_of row_at cleared
cleared-first m t = rw (← replicate-append-replicate {A = ℕ} row_size m 0)

pub cleared-table : (t : List ℕ) → rows_of 1 (cleared table_size t) ≡ new_row none ∷ []
cleared-table t = cleared-first (table_size - row_size) t

pub cleared-length : (k : ℕ) (t : List ℕ) → k ≤ length (cleared k t)
unfolding cleared
cleared-length k t = rw (length-append, length-replicate) (omega arith)

pub fresh-passed : (n : ℕ) (t : List ℕ) (s : Summary) → fresh_answer n t ≡ Ok s → (n ≤ max_events) × (s ≡ fresh_summary n)
unfolding fresh_answer log_started
fresh-passed n t s e =
    let a = passed _ _ _ _ s (next→value (log_started n t) s e) in
    let b = passed _ _ _ _ s a.1 in
    (right_event_count-most n b.0, cc b.1)

-- the words that were taken have events below n only
pub taken-below : (s : Summary) (t : List ℕ) (ws : Log) (s' : Summary) (t' : List ℕ) → Takes s t ws s' t' → LogBelow s.n ws
unfolding Takes
taken-below s t [] s' t' takes x m = absurd (Memᴰ.not-nil m)
taken-below s t (w ∷ ws) s' t' takes x (Memᴰ.head q) =
    let k = took s t w takes.0 takes.1 in
    subst (λ (y : Word). Below s.n y) (sym q) (each_below s.n w k.below)
taken-below s t (w ∷ ws) s' t' takes x (Memᴰ.tail m) =
    let k = took s t w takes.0 takes.1 in
    rw k.is at (taken-below takes.0 (taken_table (taken_answer s t w) s t w) ws s' t' takes.2 x m)

-- and leave at most 256 rows
pub taken-rows : (s : Summary) (t : List ℕ) (ws : Log) (s' : Summary) (t' : List ℕ) → s.rows ≤ max_rows → Takes s t ws s' t' → s'.rows ≤ max_rows
unfolding Takes
taken-rows s t [] s' t' few takes = rw takes.0 few
taken-rows s t (w ∷ ws) s' t' few takes =
    let k = took s t w takes.0 takes.1 in
    taken-rows takes.0 (taken_table (taken_answer s t w) s t w) ws s' t' (omega (arith, k.fits, ap (λ (x : Summary). x.rows) k.is)) takes.2

-- and at most 1,024 events
pub taken-events : (s : Summary) (t : List ℕ) (ws : Log) (s' : Summary) (t' : List ℕ) → s.events ≤ max_log_events → Takes s t ws s' t'
    → s'.events ≤ max_log_events
unfolding Takes
taken-events s t [] s' t' few takes = rw takes.0 few
taken-events s t (w ∷ ws) s' t' few takes =
    let k = took s t w takes.0 takes.1 in
    let here : takes.0.events ≤ max_log_events = omega (arith, k.few, ap (λ (x : Summary). x.events) k.is) in
    taken-events takes.0 (taken_table (taken_answer s t w) s t w) ws s' t' here takes.2

-- there are as many rows as the log has distinct count vectors
pub length-log_rows : (n : ℕ) (log : Log) → n ≤ max_events → LogBelow n log → length (log_rows log) ≡ length (rows n log)
unfolding log_rows
length-log_rows n log h below =
    let width : n + (max_events - n) ≡ max_events = omega arith in
    length-map (rows max_events log) _
    ∙ ap length (ap (λ (k : ℕ). rows k log) (sym width) ∙ rows-wide n (max_events - n) log below)
    ∙ length-map (rows n log) (wide (max_events - n))

-- THE LAW: from a fresh table, the words of a log leave its rows, zeros up to number 3,583, and the rest of a longer table untouched
pub log-table : (n : ℕ) (t : List ℕ) (ws : Log) (s s' : Summary) (t' : List ℕ)
    → fresh_answer n t ≡ Ok s → Takes s (fresh_table (fresh_answer n t) t) ws s' t'
    → (s' ≡ record { n = n; rows = length (rows n ws); events = event_count ws }) × (t' ≡ with_rows (log_rows ws) (cleared table_size t))
unfolding fresh_table
log-table n t ws s s' t' e takes =
    let fresh = fresh-passed n t s e in
    let from : Takes (fresh_summary n) (cleared table_size t) ws s' t' = rw (e, fresh.1) at takes in
    let below : LogBelow n ws = taken-below (fresh_summary n) (cleared table_size t) ws s' t' from in
    let all = left (fresh_summary n) (cleared table_size t) ws s' t' (omega (arith, cleared-length table_size t)) from in
    let one = cleared-table t in
    let same : take_log (rows_of 1 (cleared table_size t)) ws ≡ log_rows ws = ap (λ (rs : List Row). take_log rs ws) one ∙ log-rows ws (λ w m x k. lt_of_lt_of_le (below w m x k) fresh.0) in
    (all.summary ∙ rw (same, zero-add, length-log_rows n ws fresh.0 below), all.table ∙ rw same)

-- the rows of a log over n events, in the definitions' numbers: counts with zeros from n on, the mask of the allowed steps, and the traffic
module _ (n k : ℕ) (log : Log) (width : n + k ≡ max_events) (below : LogBelow n log) where
  pub log_rows-is : log_rows log ≡ map (λ (v : Counts). log_row log (wide k v)) (rows n log)
  unfolding log_rows
  log_rows-is =
      ap (map (log_row log)) (ap (λ (c : ℕ). rows c log) (sym width) ∙ rows-wide n k log below)
      ∙ map-map (log_row log) (wide k) (rows n log)

  pub log_row-mask : (v : Counts) → (log_row log (wide k v)).mask ≡ mask_of max_events (λ e. allowed n log (record { row = v; event = e }))
  unfolding mask_at
  log_row-mask v = mask_of-same max_events _ _ (λ e b. rw (← width) (allowed-wide n k log below v e))

  pub log_row-traffic : (v : Counts) → (log_row log (wide k v)).traffic ≡ min max_traffic (traffic n log v)
  unfolding traffic_at
  log_row-traffic v = ap (min max_traffic) (rw (← width) (traffic-wide n k log below v))

  pub log_row-bit : (v : Counts) (e : ℕ) → e < max_events → bit (log_row log (wide k v)).mask e ≡ allowed n log (record { row = v; event = e })
  log_row-bit v e h = ap (λ (m : ℕ). bit m e) (log_row-mask v) ∙ mask_of-bit max_events _ e h
