-- What the numbers handed out hold afterwards.
use Rattle.std.specs.Prelude.{◌≡◌, refl, List, Option, ℕ, set, Err, None, Ok, Some}
use Rattle.refusals.specs.Answers.{Answer, Written, number_of, value_of}
use Rattle.refusals.specs.declared.Refusal.{Refusal}
use Rattle.logs.specs.Answers.{Taken, taken_number}
use Rattle.verdicts.specs.Judging.{Verdict, verdict_number}
use Rattle.screening.specs.Screening.{Screened, screened_number, stopped_number}
use Rattle.stops.specs.declared.Stop.{Stop}
use Rattle.engine.specs.declared.Outcome.{Outcome}
use Rattle.engine.specs.declared.Outcome.TheVariants.{Moved, Stopped}

-- a length, or a refusal's spot, in the first; the others stay
unfoldable pub with_value : List ℕ → Written → List ℕ
with_value numbers written = set numbers 0 (value_of written)

-- a summary's n, rows and events in the first three, or a refusal's spot in the first; the others stay
unfoldable pub with_taken : List ℕ → Taken → List ℕ
with_taken numbers (Ok s) = set (set (set numbers 0 s.n) 1 s.rows) 2 s.events
with_taken numbers (Err r) = set numbers 0 r.spot

-- the four counts, or a refusal's spot in the first; then the others stay
unfoldable pub with_verdict : List ℕ → Verdict → List ℕ
with_verdict numbers (Ok c) = set (set (set (set numbers 0 c.rows) 1 c.allowed) 2 c.by_place) 3 c.by_weights
with_verdict numbers (Err r) = set numbers 0 r.spot

-- a stop's position, place and shortfall in the first three; the last stays
unfoldable pub with_stop : List ℕ → Stop → List ℕ
with_stop numbers stop = set (set (set numbers 0 stop.position) 1 stop.place) 2 stop.shortfall

-- a stop, or a refusal's spot in the first; a word that is permitted leaves all as they were
unfoldable pub with_screened : List ℕ → Screened → List ℕ
with_screened numbers (Ok None) = numbers
with_screened numbers (Ok (Some stop)) = with_stop numbers stop
with_screened numbers (Err r) = set numbers 0 r.spot

-- the number of a step's answer: 0 where it is permitted, 256 where it is stopped, else the refusal's
unfoldable pub stepped_number : Answer Outcome → ℕ
stepped_number (Ok (Moved number)) = 0
stepped_number (Ok (Stopped stop)) = stopped_number
stepped_number (Err r) = r.number

-- how many events there were with it in the first, or a stop, or a refusal's spot in the first; the others stay
unfoldable pub with_stepped : List ℕ → Answer Outcome → List ℕ
with_stepped numbers (Ok (Moved number)) = set numbers 0 number
with_stepped numbers (Ok (Stopped stop)) = with_stop numbers stop
with_stepped numbers (Err r) = set numbers 0 r.spot

-- the number of an answer without a value: 0, or the refusal's
unfoldable pub done_number : Answer (Unit {0}) → ℕ
done_number (Ok u) = 0
done_number (Err r) = r.number

-- a refusal's spot in the first; else all stay
unfoldable pub with_done : List ℕ → Answer (Unit {0}) → List ℕ
with_done numbers (Ok u) = numbers
with_done numbers (Err r) = set numbers 0 r.spot

-- the number of an answer that finds a word, or none: 257 where there is none
abbrev pub none_number : ℕ
none_number = 257

unfoldable pub sized_number : Answer (Option ℕ) → ℕ
sized_number (Ok (Some length)) = 0
sized_number (Ok None) = none_number
sized_number (Err r) = r.number

-- how many events the word has, or a refusal's spot, in the first; where there is no word all stay
unfoldable pub with_size : List ℕ → Answer (Option ℕ) → List ℕ
with_size numbers (Ok (Some length)) = set numbers 0 length
with_size numbers (Ok None) = numbers
with_size numbers (Err r) = set numbers 0 r.spot

-- ---- A refusal is handed out alike by each: its number, and its spot in the first

-- of the number that an answer gets, and of what the numbers hold afterwards
pub record RefusedAlike {A : Type 0} (number : Answer A → ℕ) (shown : List ℕ → Answer A → List ℕ) : Type 0 where
  pub numbered : (r : Refusal) → number (Err r) ≡ r.number
  pub spotted : (numbers : List ℕ) (r : Refusal) → shown numbers (Err r) ≡ set numbers 0 r.spot

pub value_refused : RefusedAlike number_of with_value
unfolding number_of value_of with_value
value_refused = record { numbered = λ r. refl; spotted = λ numbers r. refl }

pub taken_refused : RefusedAlike taken_number with_taken
unfolding taken_number with_taken
taken_refused = record { numbered = λ r. refl; spotted = λ numbers r. refl }

pub verdict_refused : RefusedAlike verdict_number with_verdict
unfolding verdict_number with_verdict
verdict_refused = record { numbered = λ r. refl; spotted = λ numbers r. refl }

pub screened_refused : RefusedAlike screened_number with_screened
unfolding screened_number with_screened
screened_refused = record { numbered = λ r. refl; spotted = λ numbers r. refl }

pub stepped_refused : RefusedAlike stepped_number with_stepped
unfolding stepped_number with_stepped
stepped_refused = record { numbered = λ r. refl; spotted = λ numbers r. refl }

pub sized_refused : RefusedAlike sized_number with_size
unfolding sized_number with_size
sized_refused = record { numbered = λ r. refl; spotted = λ numbers r. refl }

pub done_refused : RefusedAlike done_number with_done
unfolding done_number with_done
done_refused = record { numbered = λ r. refl; spotted = λ numbers r. refl }
