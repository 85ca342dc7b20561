-- The row of each completed word of a log, noted while the words are taken: the last row that taking the word visits.
use Rattle.std.specs.Prelude.{◌≡◌, refl, Bool, true, false, not, cond, ℕ, suc, ◌<◌, ◌≤◌, length, set, Option, Some, None}
use Rattle.std.proofs.Common.{sym, ap, ◌∙◌, arith, ltb-true, length-append, get_or-set_same, get_or-set_other}
use mathlib.Core.List.{List, [], ◌∷◌, ◌++◌, map, foldl, append-nil, append_assoc, Memᴰ}
use Rattle.std.proofs.Math.Decide.{ℕ_discrete}
use Rattle.std.proofs.Math.ListN.{get_or, get_or-append}
use Rattle.std.proofs.Math.Seq.{get_or-append_seam}
use Rattle.laws.specs.Booleans.{impossible, yes_true}
use Rattle.std.specs.Bool.{then_some}
use Rattle.laws.specs.Lists.{member, →member, get_d_member, equal, equal_true}
use Rattle.laws.specs.Scans.{first_failing}
use Rattle.limits.specs.Limits.{max_events}
use Rattle.nets.specs.Nets.{Word, Log, Counts, Entry, no_entry, words, counts, beginnings, add_row, rows}
use Rattle.nets.specs.Words.{word-prefix}
use Rattle.nets.proofs.Rows.{→row}
use Rattle.nets.specs.LogLaws.{rows_snoc}
use Rattle.nets.specs.LogLaws.{words_snoc, entry-word}
use Rattle.rows.specs.Rows.{Row, new_row, none, find_row}
use Rattle.rows.specs.Visiting.{counts_of, found-member, find_more}
use Rattle.logs.specs.Log.{log_row, log_rows}

-- what is noted of an entry: the row of its word where it is completed
unfoldable pub noted_row : List Row → Entry → Option ℕ
noted_row rs x = then_some x.completed (find_row (counts max_events x.word) rs)

-- of each entry of a log, in order
pub record Noted (entries : List Entry) (noted : List (Option ℕ)) : Type 0 where
  pub each : (j : ℕ) → j < length entries → get_or noted j None ≡ noted_row (log_rows (words entries)) (get_or entries j no_entry)

-- the row that is found has the counts
found-counts : (v : Counts) (rs : List Row) → find_row v rs < length rs → (get_or rs (find_row v rs) (new_row none)).counts ≡ v
unfolding find_row first_failing
found-counts v [] h = absurd (omega arith)
found-counts v (r ∷ rs) h = go (equal r.counts v) refl h (found-counts v rs)
  where
    go : (b : Bool) → equal r.counts v ≡ b → cond (not b) (suc (find_row v rs)) 0 < suc (length rs)
        → (find_row v rs < length rs → (get_or rs (find_row v rs) (new_row none)).counts ≡ v)
        → (get_or (r ∷ rs) (cond (not b) (suc (find_row v rs)) 0) (new_row none)).counts ≡ v
    go true e k later = equal_true r.counts v e
    go false e k later = later (omega arith)

-- ---- rows stay where they are

-- a row more is appended
row_more : (old : List Counts) (v : Counts) → (more : List Counts) × (add_row old v ≡ old ++ more)
unfolding add_row
row_more old v = go (member v old)
  where
    go : (b : Bool) → (more : List Counts) × (cond b old (old ++ v ∷ []) ≡ old ++ more)
    go true = ([], sym (append-nil old))
    go false = (v ∷ [], refl)

rows_more : (vs old : List Counts) → (more : List Counts) × (foldl add_row old vs ≡ old ++ more)
rows_more [] old = ([], sym (append-nil old))
rows_more (v ∷ vs) old =
    let one = row_more old v in
    let rest = rows_more vs (add_row old v) in
    (one.0 ++ rest.0, rest.1 ∙ ap (λ (l : List Counts). l ++ rest.0) one.1 ∙ append_assoc old one.0 rest.0)

counts-rows : (log : Log) → counts_of (log_rows log) ≡ rows max_events log
unfolding counts_of log_rows
counts-rows log = map-same-id (rows max_events log)
  where
    map-same-id : (vs : List Counts) → map (λ (r : Row). r.counts) (map (log_row log) vs) ≡ vs
    map-same-id [] = refl
    map-same-id (v ∷ vs) = ap (λ (l : List Counts). v ∷ l) (map-same-id vs)

-- the counts of a word of the log have a row
pub word-found : (log : Log) {w : Word} → Memᴰ w log → find_row (counts max_events w) (log_rows log) < length (log_rows log)
word-found log {w} m =
    let there = →member (counts max_events w) (rows max_events log) (→row max_events log w (word-prefix log w m)) in
    ltb-true _ _ (found-member (counts max_events w) (log_rows log) ∙ ap (member (counts max_events w)) (counts-rows log) ∙ yes_true _ there)

-- and keep it with a word more
found-again : (log : Log) (u : Word) (v : Counts) → find_row v (log_rows log) < length (log_rows log)
    → find_row v (log_rows (log ++ u ∷ [])) ≡ find_row v (log_rows log)
found-again log u v h =
    let more = rows_more (map (counts max_events) (beginnings u)) (rows max_events log) in
    find_more v (log_rows log) (log_rows (log ++ u ∷ [])) more.0
    (counts-rows (log ++ u ∷ []) ∙ rows_snoc log u max_events ∙ more.1 ∙ ap (λ (l : List Counts). l ++ more.0) (sym (counts-rows log))) h

noted-again : (entries : List Entry) (x y : Entry) → Memᴰ y entries
    → noted_row (log_rows (words (entries ++ x ∷ []))) y ≡ noted_row (log_rows (words entries)) y
unfolding noted_row
noted-again entries x y m =
    ap (then_some y.completed)
    (ap (λ (log : Log). find_row (counts max_events y.word) (log_rows log)) (words_snoc entries x)
    ∙ found-again (words entries) x.word (counts max_events y.word) (word-found (words entries) (entry-word entries m)))

-- ---- an entry more

pub noted-none : (noted : List (Option ℕ)) → Noted [] noted
noted-none noted = record { each = λ j h. absurd (omega arith) }

-- what is noted of it stands behind the others
pub noted-next : {entries : List Entry} {noted : List (Option ℕ)} → Noted entries noted → (x : Entry) → length entries < length noted
    → Noted (entries ++ x ∷ []) (set noted (length entries) (noted_row (log_rows (words (entries ++ x ∷ []))) x))
noted-next {entries} {noted} s x room =
    record { each = λ j h. go j (omega (arith, h, length-append entries (x ∷ []))) (ℕ_discrete j (length entries)) }
  where
    rs : List Row
    rs = log_rows (words (entries ++ x ∷ []))

    go : (j : ℕ) → j ≤ length entries → Dec (j ≡ length entries)
        → get_or (set noted (length entries) (noted_row rs x)) j None ≡ noted_row rs (get_or (entries ++ x ∷ []) j no_entry)
    go j h (yes q) =
        rw q (get_or-set_same noted (length entries) (noted_row rs x) None room ∙ ap (noted_row rs) (sym (get_or-append_seam entries x [] no_entry)))
    go j h (no ne) =
        let inside : j < length entries = omega arith in
        get_or-set_other noted (length entries) j (noted_row rs x) None ne
        ∙ s.each j inside
        ∙ sym (noted-again entries x (get_or entries j no_entry) (get_d_member entries j no_entry inside))
        ∙ ap (noted_row rs) (sym (get_or-append entries (x ∷ []) no_entry j inside))

-- ---- what is noted

module _ {entries : List Entry} {noted : List (Option ℕ)} (s : Noted entries noted) (j : ℕ) (inside : j < length entries) where
  abbrev x : Entry
  x = get_or entries j no_entry

  -- of a partial word nothing
  pub noted-partial : get_or noted j None ≡ None → x.completed ≡ false
  unfolding noted_row
  noted-partial none = go x.completed refl
    where
      go : (c : Bool) → x.completed ≡ c → x.completed ≡ false
      go true e =
          let some : Some (find_row (counts max_events x.word) (log_rows (words entries))) ≡ None = sym (s.each j inside ∙ rw e) ∙ none in
          impossible cc
      go false e = e

  -- of a completed one the row of its counts
  pub noted-completed : {r : ℕ} → get_or noted j None ≡ Some r → (x.completed ≡ true)
      × (r < length (log_rows (words entries))) × ((get_or (log_rows (words entries)) r (new_row none)).counts ≡ counts max_events x.word)
  unfolding noted_row
  noted-completed {r} some = go x.completed refl
    where
      found : find_row (counts max_events x.word) (log_rows (words entries)) < length (log_rows (words entries))
      found = word-found (words entries) (entry-word entries (get_d_member entries j no_entry inside))

      go : (c : Bool) → x.completed ≡ c → (x.completed ≡ true)
          × (r < length (log_rows (words entries))) × ((get_or (log_rows (words entries)) r (new_row none)).counts ≡ counts max_events x.word)
      go true e =
          let told : Some (find_row (counts max_events x.word) (log_rows (words entries))) ≡ Some r = sym (s.each j inside ∙ rw e) ∙ some in
          let is : find_row (counts max_events x.word) (log_rows (words entries)) ≡ r = cc in
          (e, omega (arith, is, found), rw (← is) (found-counts (counts max_events x.word) (log_rows (words entries)) found))
      go false e = let none : None ≡ Some r = sym (s.each j inside ∙ rw e) ∙ some in impossible cc
