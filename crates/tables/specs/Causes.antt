-- Exactly when a fresh summary and a taken word are refused, and what they give else: one law for each test, in its order.
use Rattle.std.specs.Prelude.{◌≡◌, true, false, ◌↔◌, ◌⊎◌, List, ℕ, ◌+◌, ◌≤◌, ◌<◌, leb, ltb, length, Err, Ok}
use Rattle.std.proofs.Math.Path.{refl}
use Rattle.std.proofs.Common.{ap, inl, inr, ⊎_elim, arith, leb-true, leb-false, le-leb}
use mathlib.Core.Logic.Iff
use Rattle.std.proofs.lemmas.Bool.{lt-leb}
use Rattle.laws.specs.Booleans.{impossible, and_left, and_right, lt_or_le}
use Rattle.laws.specs.Lists.{all, any}
use Rattle.limits.specs.Limits.{max_events, max_log_events, max_rows}
use Rattle.refusals.specs.Table.{numbers_short_number, value_number, events_number, rows_number, state_range_number}
use Rattle.refusals.specs.Results.{Result, value, refused, refuses-end, refuses-test}
use Rattle.refusals.specs.Answers.{refusal}
use Rattle.refusals.specs.Exactly.{Exactly, Gives, exactly-here, exactly-later, gives_later, gives_value}
use Rattle.refusals.specs.declared.Refusal.{Refusal}
use Rattle.nets.specs.Events.{first_bad}
use Rattle.nets.specs.Nets.{Word}
use Rattle.logs.specs.Answers.{table_size, right_event_count, right_summary, taken_of, fresh_summary, log_started, fresh_answer, rows_after, summary_after, word_taken, taken_answer, Taken}
use Rattle.logs.specs.AnswerLaws.{right_summary-bounds}
use Rattle.logs.specs.declared.Summary.{Summary}

-- ---- The tests

-- n is 1 to 12
pub event_count-right : (n : ℕ) → (right_event_count n ≡ true) ↔ ((1 ≤ n) × (n ≤ max_events))
unfolding right_event_count
event_count-right n = (
  (λ e. (leb-true 1 n (and_left (leb 1 n) (leb n max_events) e), leb-true n max_events (and_right (leb 1 n) (leb n max_events) e))),
  (λ (some, most). rw (le-leb 1 n some, le-leb n max_events most)),
)

pub event_count_wrong : (n : ℕ) → (right_event_count n ≡ false) ↔ ((n ≡ 0) ⊎ (max_events < n))
unfolding right_event_count
event_count_wrong n = (to, ⊎_elim (λ e. rw (lt-leb 1 n (omega arith))) (λ h. rw (le-leb 1 n (omega arith), lt-leb n max_events h)))
  where
    to : right_event_count n ≡ false → (n ≡ 0) ⊎ (max_events < n)
    to e = ⊎_elim (λ none. inl (omega arith)) (λ some. inr (leb-false n max_events (rw (le-leb 1 n some) at e))) (lt_or_le n 1)

-- and a summary within its ranges
pub summary-right : (s : Summary) → (right_summary s ≡ true)
    ↔ ((1 ≤ s.n) × (s.n ≤ max_events) × (1 ≤ s.rows) × (s.rows ≤ max_rows) × (s.events ≤ max_log_events))
unfolding right_summary
summary-right s = (
  (λ e.
      let n = (event_count-right s.n).0 (and_left (right_event_count s.n) _ e) in
      let some = leb-true 1 s.rows (and_left (leb 1 s.rows) _ (and_right (right_event_count s.n) _ e)) in
      let b = right_summary-bounds s e in
      (n.0, n.1, some, b.1, b.2)),
  (λ (some, most, rows-some, rows-most, events-most).
      rw (
        (event_count-right s.n).1 (some, most),
        le-leb 1 s.rows rows-some,
        le-leb s.rows max_rows rows-most,
        le-leb
            s.events max_log_events events-most,
      )),
)

-- ---- The answer is the chain's

taken-refused-exactly : (m : Result Summary) (number spot : ℕ) → (taken_of m ≡ Err (refusal number spot)) ↔ (m ≡ refused number spot)
unfolding taken_of
taken-refused-exactly (value s) number spot = ((λ e. impossible cc), (λ e. impossible cc))
taken-refused-exactly (refused n at) number spot = (to, (λ e. ap taken_of e))
  where
    to : ◌≡◌ {A = Taken} (Err (refusal n at)) (Err (refusal number spot)) → ◌≡◌ {A = Result Summary} (refused n at) (refused number spot)
    to e = let same : refusal n at ≡ refusal number spot = cc in ap (λ (r : Refusal). refused r.number r.spot) same

taken-next-exactly : (m : Result Summary) (s : Summary) → (taken_of m ≡ Ok s) ↔ (m ≡ value s)
unfolding taken_of
taken-next-exactly (value s') s = ((λ e. cc), (λ e. ap taken_of e))
taken-next-exactly (refused n at) s = ((λ e. impossible cc), (λ e. impossible cc))

-- ---- fresh: 5, 16

module _ (n : ℕ) (t : List ℕ) where
  -- a line of the chain, for the answer
  pub fresh-refused : {number : ℕ} {C : ℕ → Type 0} → Exactly (log_started n t) number C → (spot : ℕ)
      → (fresh_answer n t ≡ Err (refusal number spot)) ↔ C spot
  unfolding fresh_answer
  fresh-refused {number} e spot = Iff.trans (taken-refused-exactly (log_started n t) number spot) (e.line spot)

  pub fresh-next : {When : Summary → Type 0} → Gives (log_started n t) When → (s : Summary) → (fresh_answer n t ≡ Ok s) ↔ When s
  unfolding fresh_answer
  fresh-next e s = Iff.trans (taken-next-exactly (log_started n t) s) (e.line s)

  pub fresh_5 : Exactly (log_started n t) numbers_short_number (λ spot. (spot ≡ table_size) × (leb table_size (length t) ≡ false))
  unfolding log_started any
  fresh_5 = exactly-here _ _ _ _ (refuses-test _ _ _ (refuses-end _)) refl

  pub fresh_16 : Exactly (log_started n t) state_range_number (λ spot. (leb table_size (length t) ≡ true) × ((spot ≡ 0) × (right_event_count n ≡ false)))
  unfolding log_started any
  fresh_16 = exactly-later _ _ _ _ (λ e. omega (arith, e)) (exactly-here _ _ _ _ (refuses-end _) refl)

  pub fresh_gives : Gives (log_started n t) (λ s. (leb table_size (length t) ≡ true) × ((right_event_count n ≡ true) × (s ≡ fresh_summary n)))
  unfolding log_started
  fresh_gives = gives_later _ _ _ _ (gives_later _ _ _ _ (gives_value _))

-- ---- take: 5, 16, 8, 7, 9

module _ (s : Summary) (t : List ℕ) (w : Word) where
  pub take-refused : {number : ℕ} {C : ℕ → Type 0} → Exactly (word_taken s t w) number C → (spot : ℕ)
      → (taken_answer s t w ≡ Err (refusal number spot)) ↔ C spot
  unfolding taken_answer
  take-refused {number} e spot = Iff.trans (taken-refused-exactly (word_taken s t w) number spot) (e.line spot)

  pub take_next : {When : Summary → Type 0} → Gives (word_taken s t w) When → (s' : Summary) → (taken_answer s t w ≡ Ok s') ↔ When s'
  unfolding taken_answer
  take_next e s' = Iff.trans (taken-next-exactly (word_taken s t w) s') (e.line s')

  -- the tests that come before the last two
  abbrev pub Admitted : Type 0 → Type 0
  Admitted Rest = (leb table_size (length t) ≡ true) × ((right_summary s ≡ true) × ((leb (s.events + length w) max_log_events ≡ true) × Rest))

  pub take_5 : Exactly (word_taken s t w) numbers_short_number (λ spot. (spot ≡ table_size) × (leb table_size (length t) ≡ false))
  unfolding word_taken any
  take_5 = exactly-here _ _ _ _ (refuses-test _ _ _ (refuses-test _ _ _ (refuses-test _ _ _ (refuses-test _ _ _ (refuses-end _))))) refl

  pub take_16 : Exactly (word_taken s t w) state_range_number (λ spot. (leb table_size (length t) ≡ true) × ((spot ≡ 0) × (right_summary s ≡ false)))
  unfolding word_taken any
  take_16 = exactly-later _ _ _ _ (λ e. omega (arith, e)) (exactly-here _ _ _ _
      (refuses-test _ _ _ (refuses-test _ _ _ (refuses-test _ _ _ (refuses-end _)))) refl)

  pub take_8 : Exactly (word_taken s t w) events_number (λ spot. (leb table_size (length t) ≡ true)
      × ((right_summary s ≡ true) × ((spot ≡ 0) × (leb (s.events + length w) max_log_events ≡ false))))
  unfolding word_taken any
  take_8 =
      exactly-later _ _ _ _ (λ e. omega (arith, e)) (exactly-later _ _ _ _ (λ e. omega (arith, e))
      (exactly-here _ _ _ _ (refuses-test _ _ _ (refuses-test _ _ _ (refuses-end _))) refl))

  pub take_7 : Exactly (word_taken s t w) value_number (λ spot. Admitted ((spot ≡ first_bad s.n w) × (all (λ e. ltb e s.n) w ≡ false)))
  unfolding word_taken any
  take_7 =
      exactly-later _ _ _ _ (λ e. omega (arith, e)) (exactly-later _ _ _ _ (λ e. omega (arith, e)) (exactly-later _ _ _ _ (λ e. omega (arith, e))
      (exactly-here _ _ _ _ (refuses-test _ _ _ (refuses-end _)) refl)))

  pub take_9 : Exactly (word_taken s t w) rows_number (λ spot. Admitted
      ((all (λ e. ltb e s.n) w ≡ true) × ((spot ≡ 0) × (leb (length (rows_after s t w)) max_rows ≡ false))))
  unfolding word_taken any
  take_9 =
      exactly-later _ _ _ _ (λ e. omega (arith, e)) (exactly-later _ _ _ _ (λ e. omega (arith, e)) (exactly-later _ _ _ _ (λ e. omega (arith, e))
      (exactly-later _ _ _ _ (λ e. omega (arith, e)) (exactly-here _ _ _ _ (refuses-end _) refl))))

  pub take_gives : Gives (word_taken s t w) (λ s'. Admitted ((all (λ e. ltb e s.n) w ≡ true)
      × ((leb (length (rows_after s t w)) max_rows ≡ true) × (s' ≡ summary_after s t w))))
  unfolding word_taken
  take_gives = gives_later _ _ _ _ (gives_later _ _ _ _ (gives_later _ _ _ _ (gives_later _ _ _ _ (gives_later _ _ _ _ (gives_value _)))))
