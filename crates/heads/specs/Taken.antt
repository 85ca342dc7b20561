-- A log whose rows are taken into a table while its words are read.
use Rattle.std.specs.Prelude.{◌≡◌, true, cond, Option, ℕ, zero, suc, ◌+◌, ◌-◌, ◌*◌, ◌≤◌, ◌<◌, get_or, set, take, drop, Ok, Err}
use Rattle.std.proofs.Math.Path.{refl, sym, ap}
use Rattle.std.proofs.Common.{◌∙◌, subst, ⊎_elim, not-suc-le-zero, le_of_suc-le-suc, lt_of_lt_of_le, arith, le-leb, ltb-true, length-append}
use mathlib.Core.List.Memᴰ
use mathlib.Core.List.{List, [], ◌∷◌, ◌++◌, Memᴰ}
use Rattle.std.proofs.Math.ListN.{length}
use Rattle.std.proofs.lemmas.List.{length-replicate}
use Rattle.std.proofs.lemmas.Bool.{lt-leb}
use Rattle.laws.specs.Every.{Every}
use Rattle.laws.specs.Parts.{drop_more}
use Rattle.limits.specs.Limits.{max_events, max_log_events, max_rows}
use Rattle.refusals.specs.Table.{rows_number}
use Rattle.refusals.specs.Results.{refused, bind}
use Rattle.refusals.specs.Answers.{Answer}
use Rattle.nets.specs.Events.{EventsBelow, each_below}
use Rattle.nets.specs.Nets.{Word, Log, Entry, words, counts, event_count, rows}
use Rattle.nets.specs.LogLaws.{event_count_snoc, words_snoc}
use Rattle.nets.specs.Fits.{Below, LogBelow}
use Rattle.rows.specs.Rows.{row_size, Row, rows_of, new_row, none, find_row, take_word, new_rows, Holds, Added}
use Rattle.taking.specs.Numbering.{whole_row}
use Rattle.logs.specs.Answers.{table_size}
use Rattle.logs.specs.Log.{log_rows}
use Rattle.logs.specs.LogRows.{take-word, first-row}
use Rattle.logs.specs.LogTable.{length-log_rows}
use Rattle.rows.specs.Adding.{added_some, added_none}
use Rattle.rows.specs.Growth.{length-take}
use Rattle.rows.specs.Flat.{length-rows}
use Rattle.bundles.specs.Reading as reading
use Rattle.bundles.specs.Reading.{got, following, onward}
use Rattle.bundles.specs.Layout.{First}
use Rattle.heads.specs.Noted.{noted_row, Noted, noted-none, noted-next}
use Rattle.std.specs.Bool.{then_some}
use Rattle.bundles.specs.Readers.{entry_after, entry, rows_in_limit}
use Rattle.bundles.specs.FieldReading.{below}
use Rattle.bundles.specs.WordReading.{rest, rest_all, rest-none, rest_more, rest-failed, entry-got, entry-tested}
use Rattle.bundles.specs.declared.Reader.{Reader}
use Rattle.heads.specs.declared.LogSoFar.{LogSoFar}

-- ---- what the code is given

-- a table that has the row of the empty log
pub record Fresh (t : List ℕ) : Type 0 where
  pub long : table_size ≤ length t
  pub first : rows_of 1 t ≡ new_row none ∷ []

-- ---- what the code gives

-- t is the table t₀ with the rows of the log over n events, which are so many, as are its events
pub record LogHeld (n : ℕ) (log : Log) (t₀ t : List ℕ) (row_count events : ℕ) : Type 0 where
  pub below : LogBelow n log
  pub total : events ≡ event_count log
  pub limit : events ≤ max_log_events
  pub size : row_count ≡ length (rows n log)
  pub few : row_count ≤ max_rows
  pub same : length t ≡ length t₀
  pub holds : Holds row_count (log_rows log) t₀ t

-- after the word at the reader's offset behind those of the entries: the log with it, and what is noted of it; or its refusal with the table as it
-- was
abbrev pub OneMore : First → Reader → Reader → List Entry → List ℕ → List ℕ → Option ℕ → LogSoFar → LogSoFar → Answer (Unit {0}) → Type 0
OneMore f old new entries t₀ t' noted was now (Ok done) =
    (new.bytes ≡ old.bytes)
    × ((x : Entry)
    × (entry (rows_in_limit f.events) f entries old.bytes.now old.at ≡ got x new.at)
    × LogHeld f.events (words (entries ++ x ∷ [])) t₀ t' now.rows now.events
    × (noted ≡ noted_row (log_rows (words (entries ++ x ∷ []))) x))
OneMore f old new entries t₀ t' noted was now (Err r) =
    (entry (rows_in_limit f.events) f entries old.bytes.now old.at ≡ refused r.number r.spot)
    × LogHeld f.events (words entries) t₀ t' was.rows was.events

-- so it is behind any entries whose log the table t holds
abbrev pub TakesNext : First → Reader → Reader → List ℕ → List ℕ → Option ℕ → LogSoFar → LogSoFar → Answer (Unit {0}) → Type 0
TakesNext f old new t t' noted was now result =
    (entries : List Entry) (t₀ : List ℕ) → LogHeld f.events (words entries) t₀ t was.rows was.events
    → OneMore f old new entries t₀ t' noted was now result

-- after the words at the reader's offset: the entries, how many rows they have, and what is noted of each; or a refusal with the table changed in
-- its first numbers only
abbrev pub AllTaken : First → Reader → Reader → ℕ → List ℕ → List ℕ → List (Option ℕ) → Answer ℕ → Type 0
AllTaken f old new count t₀ t noted (Ok row_count) =
    (new.bytes ≡ old.bytes)
    × ((entries : List Entry)
    × (following count (entry (rows_in_limit f.events) f) old.bytes.now old.at ≡ got entries new.at)
    × LogHeld f.events (words entries) t₀ t row_count (event_count (words entries))
    × (length entries ≡ count)
    × Noted entries (take count noted))
AllTaken f old new count t₀ t noted (Err r) =
    (following count (entry (rows_in_limit f.events) f) old.bytes.now old.at ≡ refused r.number r.spot) × (drop table_size t ≡ drop table_size t₀)

-- ---- a word that was read

every_below : (n c : ℕ) → n ≤ c → (w : Word) → Every (λ x. below n x ≡ true) w → EventsBelow c w
every_below n c h [] v k l = absurd (not-suc-le-zero l)
every_below n c h (x ∷ w) v zero l = lt_of_lt_of_le (ltb-true x n v.0) h
every_below n c h (x ∷ w) v (suc k) l = every_below n c h w v.1 k (le_of_suc-le-suc l)

-- the entry at an offset behind so many events
pub record EntryRead (f : First) (count : ℕ) (b : List ℕ) (at : ℕ) (x : Entry) (next : ℕ) : Type 0 where
  pub read : entry_after f count b at ≡ got x next
  pub counted : length x.word ≡ get_or b at 0
  pub limit : count + length x.word ≤ max_log_events
  pub events : EventsBelow f.events x.word
  pub below : EventsBelow max_events x.word

pub entry_read : (f : First) (events : ℕ) (b : List ℕ) (at : ℕ) (x : Entry) (next : ℕ)
    → f.events ≤ max_events → entry_after f events b at ≡ got x next
    → EntryRead f events b at x next
entry_read f events b at x next h e =
    let one = entry-got f events b at x next e in
    record {
      read = e;
      counted = one.counted;
      limit = one.limit;
      events = every_below f.events f.events (omega arith) x.word one.below;
      below = every_below f.events max_events h x.word one.below;
    }

-- ---- one word more

module _ (f : First) (entries : List Entry) {t₀ t : List ℕ} {row_count events : ℕ}
    (h : LogHeld f.events (words entries) t₀ t row_count events) (most : f.events ≤ max_events) (b : List ℕ) (at : ℕ) where
  -- the word's refusal
  pub entry-refused : {number spot : ℕ} → entry_after f events b at ≡ refused number spot
      → entry (rows_in_limit f.events) f entries b at ≡ refused number spot
  unfolding entry bind onward
  entry-refused {number} {spot} e =
      let read : entry_after f (event_count (words entries)) b at ≡ refused number spot = rw h.total at e in
      rw read

  module _ {x : Entry} {next : ℕ} (r : EntryRead f events b at x next) where
    log-below : LogBelow f.events ((words entries) ++ x.word ∷ [])
    log-below v m = ⊎_elim (λ old. h.below v old) (λ new. one v new) (Memᴰ.append_cases (words entries) m)
      where
        one : (v : Word) → Memᴰ v (x.word ∷ []) → Below f.events v
        one v (Memᴰ.head q) = subst (Below f.events) (sym q) (each_below f.events x.word r.events)
        one v (Memᴰ.tail m) = absurd (Memᴰ.not-nil m)

    rows_next : take_word (rows_of row_count t) none x.word ≡ log_rows ((words entries) ++ x.word ∷ [])
    rows_next = ap (λ (rs : List Row). take_word rs none x.word) h.holds.front
        ∙ take-word (words entries) x.word (each_below max_events x.word r.below)

    -- there are as many rows as before, and those of the word that are new
    rows-size : length (rows f.events ((words entries) ++ x.word ∷ [])) ≡ row_count + new_rows (rows_of row_count t) none x.word
    rows-size =
        sym (length-log_rows f.events ((words entries) ++ x.word ∷ []) most log-below)
        ∙ ap length (sym rows_next)
        ∙ length-take (rows_of row_count t) none x.word (length-replicate {A = ℕ} max_events 0) r.below
        ∙ ap (λ (k : ℕ). k + new_rows (rows_of row_count t) none x.word) (length-rows row_count t)

    tested : entry (rows_in_limit f.events) f entries b at
        ≡ cond (rows_in_limit f.events ((words entries) ++ x.word ∷ [])) (got x next) (refused rows_number at)
    tested =
        entry-tested (rows_in_limit f.events) f entries b at x next (rw h.total at r.read)
        ∙ ap (λ (l : Log). cond (rows_in_limit f.events l) (got x next) (refused rows_number at)) (words_snoc entries x)

    -- there are too many rows for the table
    pub no_room : (k : ℕ) (t' : List ℕ) → Added max_rows row_count x.word t t' (Err k)
        → (entry (rows_in_limit f.events) f entries b at ≡ refused rows_number at) × LogHeld f.events (words entries) t₀ t' row_count events
    no_room k t' added =
        let none = added_none max_rows row_count t x.word k t' added in (
          tested ∙ rw (lt-leb (length (rows f.events ((words entries) ++ x.word ∷ []))) max_rows (omega (arith, rows-size, none.0, none.1))),
          subst (λ (l : List ℕ). LogHeld f.events (words entries) t₀ l row_count events) (sym none.2) h,
        )

    -- or the table has them, and the word's own is noted where it is completed
    pub word-taken : (k : ℕ) (t' : List ℕ) → Added max_rows row_count x.word t t' (Ok k)
        → length t' ≡ length t → {row : ℕ} → row ≡ whole_row (rows_of row_count t) x.word
        → (entry (rows_in_limit f.events) f entries b at ≡ got x next)
        × LogHeld f.events (words (entries ++ x ∷ [])) t₀ t' k (events + length x.word)
        × (then_some x.completed row ≡ noted_row (log_rows (words (entries ++ x ∷ []))) x)
    unfolding whole_row noted_row
    word-taken k t' added kept whole =
        let some = added_some max_rows row_count t x.word k t' added in
        let is : k ≡ length (rows f.events ((words entries) ++ x.word ∷ [])) = some.0 ∙ sym rows-size in
        let all : words (entries ++ x ∷ []) ≡ (words entries) ++ x.word ∷ [] = words_snoc entries x in (
          tested ∙ rw (le-leb (length (rows f.events ((words entries) ++ x.word ∷ []))) max_rows (omega (arith, is, some.1))),
          subst (λ (l : Log). LogHeld f.events l t₀ t' k (events + length x.word)) (sym all) (record {
            below = log-below;
            total = omega (arith, event_count_snoc (words entries) x.word, h.total);
            limit = r.limit;
            size = is;
            few = some.1;
            same = kept ∙ h.same;
            holds = record {
              front = some.2.front ∙ rows_next;
              rest = some.2.rest ∙ drop_more (row_size * row_count) (row_size * k) t t₀ (omega (arith, some.0)) h.holds.rest;
            };
          }),
          ap (then_some x.completed) (whole ∙ ap (find_row (counts max_events x.word)) (rows_next ∙ ap log_rows (sym all))),
        )

-- ---- the words in a loop

-- the rows of a log end before number 3,584
pub held-rest : {n : ℕ} {log : Log} {t₀ t : List ℕ} {row_count events : ℕ}
    → LogHeld n log t₀ t row_count events → drop table_size t ≡ drop table_size t₀
held-rest {n} {log} {t₀} {t} {row_count} {events} h = drop_more (row_size * row_count) table_size t t₀ (omega (arith, h.few)) h.holds.rest

-- so far so many entries were read whose rows the table has, what is to note of them is noted, and so many are left behind them
pub record TakenSoFar (f : First) (b : List ℕ) (at count : ℕ) (t₀ t : List ℕ)
    (noted : List (Option ℕ)) (row_count events next done : ℕ) : Type 0 where
  pub entries : List Entry
  pub number : length entries ≡ done
  pub held : LogHeld f.events (words entries) t₀ t row_count events
  pub rows : Noted entries noted
  pub same : following count (entry (rows_in_limit f.events) f) b at ≡ rest (entry (rows_in_limit f.events) f) b (count - done) entries next

module _ (f : First) (b : List ℕ) (at count : ℕ) (t₀ : List ℕ) where
  abbrev one : List Entry → reading.Reader Entry
  one = entry (rows_in_limit f.events) f

  pub taken_start : f.events ≤ max_events → rows_of 1 t₀ ≡ new_row none ∷ []
      → (noted : List (Option ℕ)) → TakenSoFar f b at count t₀ t₀ noted 1 0 at 0
  unfolding words event_count
  taken_start most e noted =
      let all : count ≡ count - 0 = omega arith in
      record {
        entries = [];
        number = refl;
        held = record {
          below = none_below;
          total = refl;
          limit = omega arith;
          size = ap length (sym first-row) ∙ length-log_rows f.events [] most none_below;
          few = omega arith;
          same = refl;
          holds = record { front = e ∙ sym first-row; rest = refl };
        };
        rows = noted-none noted;
        same = rest_all one b count at ∙ ap (λ (k : ℕ). rest one b k [] at) all;
      }
    where
      none_below : LogBelow f.events []
      none_below v m = absurd (Memᴰ.not-nil m)

  module _ {t : List ℕ} {noted : List (Option ℕ)} {row_count events next done : ℕ}
      (s : TakenSoFar f b at count t₀ t noted row_count events next done) where
    pub taken-done : count ≤ done → following count one b at ≡ got s.entries next
    taken-done h = let none : count - done ≡ 0 = omega arith in s.same ∙ rw (none, rest-none)

    module _ (more : done < count) {t' : List ℕ} where
      pub taken_next : done < length noted → {x : Entry} {row_count' events' after : ℕ} {row : Option ℕ} → one s.entries b next ≡ got x after
          → LogHeld f.events (words (s.entries ++ x ∷ [])) t₀ t' row_count' events' → row ≡ noted_row (log_rows (words (s.entries ++ x ∷ []))) x
          → TakenSoFar f b at count t₀ t' (set noted done row) row_count' events' after (done + 1)
      taken_next room {x} {row_count'} {events'} {after} {row} read held is =
          let less : count - done - 1 ≡ count - (done + 1) = omega arith in
          record {
            entries = s.entries ++ x ∷ [];
            number = omega (arith, length-append s.entries (x ∷ []), s.number);
            held = held;
            rows = rw (is, ← s.number) (noted-next s.rows x (omega (arith, s.number)));
            same = s.same
                ∙ rest_more one b (count - done) s.entries next x after (omega arith) read
                ∙ ap (λ (k : ℕ). rest one b k (s.entries ++ x ∷ []) after) less;
          }

      pub taken-failed : {number spot : ℕ} → one s.entries b next ≡ refused number spot → LogHeld f.events (words s.entries) t₀ t' row_count events
          → (following count one b at ≡ refused number spot) × (drop table_size t' ≡ drop table_size t₀)
      taken-failed {number} {spot} read held =
          (s.same ∙ rest-failed one b (count - done) s.entries next number spot (omega arith) read, held-rest held)
