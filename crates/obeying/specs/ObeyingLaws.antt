-- The code's steps, as laws of the definitions; and that a place obeys the rows that are noted exactly when it obeys the completed words.
use Rattle.std.specs.Prelude.{◌≡◌, refl, Bool, true, false, cond, ◌&&◌, ℕ, suc, ◌+◌, ◌-◌, ◌*◌, ◌≤◌, ◌<◌, eqb, T, ℤ, pos, ◌+ℤ◌, ◌-ℤ◌, length, get_or, drop, Option, Some, None, MatchOption, option_to_list, flat_map, All}
use Rattle.std.proofs.Common.{sym, ap, ap₂, ◌∙◌, arith, eqb→eq}
use mathlib.Core.List.{List, [], ◌∷◌}
use Rattle.std.specs.List.{list_all}
use Rattle.std.proofs.Math.Bool.{and-true}
use Rattle.std.proofs.Math.IntN.{+ℤ_comm, +ℤ_idl, +ℤ-neg_ℤ_cancel, -ℤ-+ℤ_cancel}
use Rattle.std.proofs.Math.ListN.{get_or-eq_default}
use Rattle.std.proofs.Math.Facts.{yes_eqb}
use Rattle.std.proofs.lemmas.List.Elements.{All-nil, All-cons}
use Rattle.std.proofs.lemmas.List.Folds.{list_all-append}
use mir.Val.{SFits, of_z, to_z}
use mir.Facts.{to_z-of_z}
use mir.Syntax.{w64}
use Rattle.laws.specs.Booleans.{same_test}
use Rattle.laws.specs.Differences.{is_zero_ℤ, zero-exactly}
use Rattle.laws.specs.Lists.{all, keep, get_d_member}
use Rattle.laws.specs.Parts.{get_d_padded}
use Rattle.laws.specs.Failure.{failure_found}
use Rattle.limits.specs.Limits.{max_events}
use Rattle.nets.specs.Nets.{Word, Place, Entry, no_entry, no_place, words, completed_words, counts, tokens, effect, place_obeys}
use Rattle.nets.specs.Surplus.{tokens-row, tokens-wide, tokens-effect}
use Rattle.nets.specs.CountLaws.{length-counts, counts-wide}
use Rattle.nets.specs.Wide.{wide}
use Rattle.nets.specs.Fits.{Below}
use Rattle.nets.specs.LogLaws.{entry-word}
use Rattle.nets.proofs.Entries.{none-completed}
use Rattle.rows.specs.Rows.{row_size, Row, row_at, new_row, none}
use Rattle.rows.specs.Flat.{length-rows, rows_at}
use Rattle.logs.specs.Log.{log_rows}
use Rattle.bundles.specs.Layout.{Head, HeadInLimits, obeys_in}
use Rattle.bundles.specs.Readers.{any_rows, head_of, events_in, log_in, net_in}
use Rattle.bundles.specs.Limits.{got→front, old-partial}
use Rattle.bundles.specs.Keeping.{behind}
use Rattle.bundles.specs.HeadReading.{net-size}
use Rattle.bundles.specs.NextPlace.{place_in}
use Rattle.bundles.specs.declared.net.Net.{Net}
use Rattle.heads.specs.Noted.{noted-partial, noted-completed}
use Rattle.heads.specs.Heads.{HeadHeld, HeadNoted}
use Rattle.obeying.specs.Obeying.{row_obeyed, completed_rows, disobeying}

-- ---- a row

-- two numbers of 64 bits are equal exactly when their difference is 0
same_number : (a b : ℤ) → SFits w64 a → SFits w64 b → eqb (of_z w64 a) (of_z w64 b) ≡ is_zero_ℤ (a -ℤ b)
same_number a b fa fb = same_test _ _ to from
  where
    to : T (eqb (of_z w64 a) (of_z w64 b)) → T (is_zero_ℤ (a -ℤ b))
    to t =
        let same : a ≡ b = sym (to_z-of_z fa) ∙ ap (to_z w64) (eqb→eq (of_z w64 a) (of_z w64 b) t) ∙ to_z-of_z fb in
        (zero-exactly (a -ℤ b)).1 (ap (λ (z : ℤ). z -ℤ b) (same ∙ sym (+ℤ_idl b)) ∙ +ℤ-neg_ℤ_cancel (pos 0) b)

    from : T (is_zero_ℤ (a -ℤ b)) → T (eqb (of_z w64 a) (of_z w64 b))
    from t =
        let same : a ≡ b = sym (-ℤ-+ℤ_cancel a b) ∙ ap (λ (z : ℤ). z +ℤ b) ((zero-exactly (a -ℤ b)).0 t) ∙ +ℤ_idl b in
        yes_eqb (ap (of_z w64) same)

-- the tokens after the row's counts are those of before exactly when the row is obeyed
pub row_tested : (p : Place) (r : Row) (now before : ℤ) → SFits w64 now → SFits w64 before
    → now ≡ tokens max_events p r.counts → before ≡ pos p.initial → eqb (of_z w64 now) (of_z w64 before) ≡ row_obeyed p r
unfolding row_obeyed
row_tested p r now before fits fits' after is = same_number now before fits fits' ∙ ap₂ (λ (x y : ℤ). is_zero_ℤ (x -ℤ y)) after is

-- what a word's twelve counts add to a place is its effect
word-effect : (n k : ℕ) → n + k ≡ max_events → (p : Place) (w : Word) → Below n w
    → tokens max_events p (counts max_events w) -ℤ pos p.initial ≡ effect n p (counts n w)
word-effect n k width p w below =
    ap (λ (z : ℤ). z -ℤ pos p.initial)
    (ap (λ (c : ℕ). tokens c p (counts c w)) (sym width)
    ∙ ap (tokens (n + k) p) (counts-wide n k w below)
    ∙ tokens-row (n + k) p (wide k (counts n w)) (counts n w) (λ i _. get_d_padded (counts n w) k i 0)
    ∙ tokens-wide n k p (counts n w) (λ i b. get_or-eq_default (counts n w) 0 {n = i} (omega (arith, length-counts n w)))
    ∙ tokens-effect n p (counts n w)
    ∙ +ℤ_comm (pos p.initial) (effect n p (counts n w)))
    ∙ +ℤ-neg_ℤ_cancel (effect n p (counts n w)) (pos p.initial)

-- ---- the entries of a log

-- the test of an entry
abbrev entry_obeys : ℕ → Place → Entry → Bool
entry_obeys n p x = cond x.completed (is_zero_ℤ (effect n p (counts n x.word))) true

-- where a test of what is noted of each entry is that of the entry, all tests are those of the completed words
entries-obeyed : (test : ℕ → Bool) (n : ℕ) (p : Place) (os : List (Option ℕ)) (xs : List Entry) → length os ≡ length xs
    → ((j : ℕ) → j < length xs → list_all test (option_to_list (get_or os j None)) ≡ entry_obeys n p (get_or xs j no_entry))
    → list_all test (flat_map option_to_list os) ≡ place_obeys n (completed_words xs) p
unfolding place_obeys completed_words words keep all
entries-obeyed test n p [] [] size each = refl
entries-obeyed test n p [] (x ∷ xs) size each = absurd (omega arith)
entries-obeyed test n p (o ∷ os) [] size each = absurd (omega arith)
entries-obeyed test n p (o ∷ os) (x ∷ xs) size each =
    list_all-append test (option_to_list o) (flat_map option_to_list os)
    ∙ ap₂ ◌&&◌ (each 0 (omega arith)) (entries-obeyed test n p os xs (omega arith) (λ j h. each (suc j) (omega arith)))
    ∙ go x.completed
  where
    go : (c : Bool) → (cond c (is_zero_ℤ (effect n p (counts n x.word))) true && place_obeys n (completed_words xs) p)
        ≡ place_obeys n (words (cond c (x ∷ keep (λ y. y.completed) xs) (keep (λ y. y.completed) xs))) p
    go true = refl
    go false = refl

-- what is there of a list of options is in bounds
options-inside : (n : ℕ) (os : List (Option ℕ)) → ((j r : ℕ) → j < length os → get_or os j None ≡ Some r → r < n)
    → All (λ r. r < n) (flat_map option_to_list os)
options-inside n [] each = All-nil _
options-inside n (None ∷ os) each = options-inside n os (λ j r b. each (suc j) r (omega arith))
options-inside n (Some r ∷ os) each =
    All-cons (λ k. k < n) r (flat_map option_to_list os) (each 0 r (omega arith) refl) (options-inside n os (λ j r b. each (suc j) r (omega arith)))

-- ---- a bundle

module _ {t : List ℕ} {noted : List (Option ℕ)} {net : Net} {is_new : Bool} {row_count : ℕ}
    (held : HeadHeld t net row_count) (marked : HeadNoted noted net is_new) where
  abbrev b : List ℕ
  b = net.bundle.now

  abbrev entries : List Entry
  entries = (head_of b).entries

  abbrev rs : List Row
  rs = log_rows (log_in b)

  row-count : length rs ≡ row_count
  row-count = sym (ap length held.table) ∙ length-rows row_count t

  -- the rows that are noted are in the table
  pub noted-inside : All (λ r. r < row_count) (completed_rows noted)
  noted-inside = options-inside row_count noted (λ j r h some.
      let row = noted-completed marked.rows j (omega (arith, marked.size)) some in
      omega (arith, row.1, row-count))

  -- a place obeys each of them exactly when it obeys the completed words
  pub noted-obeyed : (p : Place)
      → list_all (λ r. row_obeyed p (row_at (drop (row_size * r) t))) (completed_rows noted) ≡ obeys_in (head_of b) p
  unfolding row_obeyed
  noted-obeyed p = entries-obeyed test n p noted entries marked.size (λ j h. each j h (get_or noted j None) refl)
    where
      n : ℕ
      n = events_in b

      test : ℕ → Bool
      test r = row_obeyed p (row_at (drop (row_size * r) t))

      width : n + (max_events - n) ≡ max_events
      width = omega (arith, held.found.events, held.found.limits)

      each : (j : ℕ) → j < length entries → (o : Option ℕ) → get_or noted j None ≡ o
          → list_all test (option_to_list o) ≡ entry_obeys n p (get_or entries j no_entry)
      each j h None is = rw (noted-partial marked.rows j h is)
      each j h (Some r) is =
          let row = noted-completed marked.rows j h is in
          let few : r < row_count = omega (arith, row.1, row-count) in
          let x = get_or entries j no_entry in
          let there : (row_at (drop (row_size * r) t)).counts ≡ counts max_events x.word =
          ap (λ (q : Row). q.counts)
          (sym (rows_at row_count t r (new_row none) few) ∙ ap (λ (l : List Row). get_or l r (new_row none)) held.table)
          ∙ row.2 in
          let below = held.below x.word (entry-word entries (get_d_member entries j no_entry h)) in
          and-true (test r)
          ∙ ap (λ (v : List ℕ). is_zero_ℤ (tokens max_events p v -ℤ pos p.initial)) there
          ∙ ap is_zero_ℤ (word-effect n (max_events - n) width p x.word below)
          ∙ rw row.0

-- a search through the places of a bundle
module _ (b : List ℕ) (count : ℕ) (size : length (net_in b) ≡ count) where
  abbrev pub Obeyed : ℕ → Bool → Type 0
  Obeyed j t = obeys_in (head_of b) (place_in b j) ≡ t

  pub disobeying_first : (r : Option ℕ)
      → MatchOption r ((k : ℕ) → 0 ≤ k → k < count → Obeyed k true)
      (λ i. (0 ≤ i) × (i < count) × Obeyed i false × ((k : ℕ) → 0 ≤ k → k < i → Obeyed k true))
      → r ≡ disobeying b
  unfolding disobeying
  disobeying_first = failure_found (obeys_in (head_of b)) no_place (net_in b) count size

-- in the old edition no word is completed, so there is none
pub old-obeys : {t : List ℕ} {noted : List (Option ℕ)} {net : Net} {is_new : Bool} {row_count : ℕ}
    → HeadHeld t net row_count → HeadNoted noted net is_new → is_new ≡ false → None ≡ disobeying net.bundle.now
unfolding place_obeys all
old-obeys {net = net} held marked old =
    disobeying_first net.bundle.now net.count (net-size held.found) None
    (λ k _ l. rw (none-completed h.entries (old-partial h limits (marked.edition ∙ old))))
  where
    h : Head
    h = head_of net.bundle.now

    limits : HeadInLimits (head_of net.bundle.now)
    limits =
        let read = held.found.read in
        (got→front any_rows (λ n. tt) (λ n log more t. tt) net.bundle.now held.bytes (head_of net.bundle.now) (behind net) read).0.limits
