-- THE CALLS FOR C AND RUST (crates/abi): what each returns and, number by number, what stands in `answer` afterwards. What they leave in outputs and
-- tables is on the other pages: their contracts name the same definitions as those of the calls behind them.
-- 'Every call returns HOV_OK for a result, else the number of a refusal; screening and hov_step have a second result, HOV_STOPPED, and hov_reach
-- another one, HOV_NONE. A refusal's spot is in answer[0]; where a result is, each call says. Numbers of answer that a call does not use stay as
-- they were.' (include/hovmekhar.h) These two are 256 and 257.
use Rattle.std.specs.Prelude.{◌≡◌, ◌↔◌, List, Option, ℕ, length, get_or, Err, None, Ok, Some}
use Rattle.refusals.specs.Answers.{Answer, answer, number_of}
use Rattle.refusals.specs.declared.Refusal.{Refusal}
use Rattle.refusals.specs.Answers.{Written}
use Rattle.block.specs.File.{opened, sealed}
use Rattle.nets.specs.Nets.{Word}
use Rattle.logs.specs.Answers.{fresh_answer, taken_answer, taken_number}
use Rattle.logs.specs.declared.Summary.{Summary}
use Rattle.logs.specs.Answers.{Taken}
use Rattle.verdicts.specs.Judging.{verdict, verdict_number}
use Rattle.verdicts.specs.declared.Tally.{Tally}
use Rattle.verdicts.specs.Judging.{Verdict}
use Rattle.stops.specs.declared.Stop.{Stop}
use Rattle.screening.specs.Screening.{screened, screened_joined, screened_number}
use Rattle.screening.specs.Screening.{Screened}
use Rattle.editions.specs.Converting.{converting_to_new, converting_to_old}
use Rattle.pruning.specs.Pruning.{pruning}
use Rattle.engine.specs.declared.Outcome.{Outcome}
use Rattle.engine.specs.declared.Outcome.TheVariants.{Moved, Stopped}
use Rattle.demands.specs.Carrying.{start_answer, step_answer}
use Rattle.demands.specs.Replacing.{replace_answer}
use Rattle.demands.specs.Reaching.{reach_size}
use Rattle.numbers.specs.Numbers.{with_value, with_taken, with_verdict, with_screened, sized_number, with_size, stepped_number, with_stepped}
use Rattle.numbers.specs.Numbers.{done_number, with_done}

-- In each line `old` is what `answer` held before, `new` what it holds afterwards, and `result` what is returned.

-- answer[0] to answer[3]
pub record Numbers (new : List ℕ) (x₀ x₁ x₂ x₃ : ℕ) : Type 0 where
  pub first : get_or new 0 0 ≡ x₀
  pub second : get_or new 1 0 ≡ x₁
  pub third : get_or new 2 0 ≡ x₂
  pub fourth : get_or new 3 0 ≡ x₃
  pub size : length new ≡ 4

-- 'A refusal's spot is in answer[0]', its number is the result, and the others are as they were
abbrev pub RefusedOut : Refusal → ℕ → List ℕ → List ℕ → Type 0
RefusedOut r result old new = (result ≡ r.number) × Numbers new r.spot (get_or old 1 0) (get_or old 2 0) (get_or old 3 0)

-- a call that writes bytes: 0 exactly for a length, which is in answer[0]
pub record WrittenOut (a : Written) (result : ℕ) (old new : List ℕ) : Type 0 where
  pub ok : (result ≡ 0) ↔ ((n : ℕ) × (a ≡ Ok n))
  pub written : (n : ℕ) → a ≡ Ok n → Numbers new n (get_or old 1 0) (get_or old 2 0) (get_or old 3 0)
  pub refused : (r : Refusal) → a ≡ Err r → RefusedOut r result old new

-- a call on a log: 0 exactly for a summary, whose n, rows and events are in answer[0] to [2]
pub record TakenOut (a : Taken) (result : ℕ) (old new : List ℕ) : Type 0 where
  pub ok : (result ≡ 0) ↔ ((s : Summary) × (a ≡ Ok s))
  pub summary : (s : Summary) → a ≡ Ok s → Numbers new s.n s.rows s.events (get_or old 3 0)
  pub refused : (r : Refusal) → a ≡ Err r → RefusedOut r result old new

-- judging: 0 exactly for acceptance; the rows, the allowed steps, the certificates of kind 0 and those of kind 1
pub record VerdictOut (v : Verdict) (result : ℕ) (old new : List ℕ) : Type 0 where
  pub ok : (result ≡ 0) ↔ ((c : Tally) × (v ≡ Ok c))
  pub counts : (c : Tally) → v ≡ Ok c → Numbers new c.rows c.allowed c.by_place c.by_weights
  pub refused : (r : Refusal) → v ≡ Err r → RefusedOut r result old new

-- screening: 0 exactly for a permitted word, and `answer` is as it was; 256 exactly for a stopped one: position, place and shortfall
pub record ScreenedOut (s : Screened) (result : ℕ) (old new : List ℕ) : Type 0 where
  pub ok : (result ≡ 0) ↔ (s ≡ Ok None)
  pub stop : (result ≡ 256) ↔ ((t : Stop) × (s ≡ Ok (Some t)))
  pub permitted : s ≡ Ok None → new ≡ old
  pub stopped : (t : Stop) → s ≡ Ok (Some t) → Numbers new t.position t.place t.shortfall (get_or old 3 0)
  pub refused : (r : Refusal) → s ≡ Err r → RefusedOut r result old new

-- the search for a word: 0 exactly for a word, and how many events it has; 257 exactly where there is none, and `answer` is as it was
pub record SizedOut (a : Answer (Option ℕ)) (result : ℕ) (old new : List ℕ) : Type 0 where
  pub ok : (result ≡ 0) ↔ ((l : ℕ) × (a ≡ Ok (Some l)))
  pub nothing : (result ≡ 257) ↔ (a ≡ Ok None)
  pub found : (l : ℕ) → a ≡ Ok (Some l) → Numbers new l (get_or old 1 0) (get_or old 2 0) (get_or old 3 0)
  pub none : a ≡ Ok None → new ≡ old
  pub refused : (r : Refusal) → a ≡ Err r → RefusedOut r result old new

-- a step of the carried engine: 0 exactly for a permitted event, and the next number; 256 exactly for a stop: position, place and shortfall
pub record SteppedOut (a : Answer Outcome) (result : ℕ) (old new : List ℕ) : Type 0 where
  pub ok : (result ≡ 0) ↔ ((next : ℕ) × (a ≡ Ok (Moved next)))
  pub stop : (result ≡ 256) ↔ ((s : Stop) × (a ≡ Ok (Stopped s)))
  pub moved : (next : ℕ) → a ≡ Ok (Moved next) → Numbers new next (get_or old 1 0) (get_or old 2 0) (get_or old 3 0)
  pub stopped : (s : Stop) → a ≡ Ok (Stopped s) → Numbers new s.position s.place s.shortfall (get_or old 3 0)
  pub refused : (r : Refusal) → a ≡ Err r → RefusedOut r result old new

-- replacing: 0 exactly where it is done, and `answer` is as it was
pub record DoneOut (a : Answer (Unit {0})) (result : ℕ) (old new : List ℕ) : Type 0 where
  pub ok : (result ≡ 0) ↔ (a ≡ Ok tt)
  pub done : a ≡ Ok tt → new ≡ old
  pub refused : (r : Refusal) → a ≡ Err r → RefusedOut r result old new

-- ---- The calls: `result` and `new` are those of their contracts, and `answer` has four numbers

abbrev pub Writes : Written → Type 0
Writes a = (old : List ℕ) → length old ≡ 4 → WrittenOut a (number_of a) old (with_value old a)

abbrev pub Takes : Taken → Type 0
Takes a = (old : List ℕ) → length old ≡ 4 → TakenOut a (taken_number a) old (with_taken old a)

abbrev pub Judges : Verdict → Type 0
Judges v = (old : List ℕ) → length old ≡ 4 → VerdictOut v (verdict_number v) old (with_verdict old v)

abbrev pub Screens : Screened → Type 0
Screens s = (old : List ℕ) → length old ≡ 4 → ScreenedOut s (screened_number s) old (with_screened old s)

abbrev pub Finds : Answer (Option ℕ) → Type 0
Finds a = (old : List ℕ) → length old ≡ 4 → SizedOut a (sized_number a) old (with_size old a)

abbrev pub Steps : Answer Outcome → Type 0
Steps a = (old : List ℕ) → length old ≡ 4 → SteppedOut a (stepped_number a) old (with_stepped old a)

abbrev pub Does : Answer (Unit {0}) → Type 0
Does a = (old : List ℕ) → length old ≡ 4 → DoneOut a (done_number a) old (with_done old a)

pub record Boundary : Type 0 where
  pub hov_open : (file output : List ℕ) → Writes (answer (opened file) (length output))
  pub hov_seal : (b output : List ℕ) → Writes (answer (sealed b) (length output))
  pub hov_fresh : (n : ℕ) (table : List ℕ) → Takes (fresh_answer n table)
  pub hov_take : (n rows events : ℕ) (w : Word) (table : List ℕ) → Takes (taken_answer (record { n = n; rows = rows; events = events }) table w)
  pub hov_judge : (b table : List ℕ) → Judges (verdict (length table) b)
  pub hov_screen : (b : List ℕ) (w : Word) → Screens (screened b w)
  pub hov_screen_joined : (first second : List ℕ) (w : Word) → Screens (screened_joined first second w)
  pub hov_reach : (b : List ℕ) (wanted : ℕ) → Finds (reach_size b wanted)
  pub hov_prune : (b output table : List ℕ) → Writes (answer (pruning (length table) b) (length output))
  pub hov_to_new : (b output table : List ℕ) → Writes (answer (converting_to_new (length table) b) (length output))
  pub hov_to_old : (b output table : List ℕ) → Writes (answer (converting_to_old (length table) b) (length output))
  -- a start call: 0, and the number of events so far, which is 0
  pub hov_start : (b ts : List ℕ) → Writes (start_answer b ts)
  pub hov_step : (b ts kept : List ℕ) (number event : ℕ) → Steps (step_answer b ts kept number event)
  pub hov_replace : (old new ts kept : List ℕ) (number : ℕ) → Does (replace_answer old new ts kept number)
