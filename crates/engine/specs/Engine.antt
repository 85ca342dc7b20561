-- The carried engine on bytes: what starting, a step and replacing answer, and what they leave of the numbers and the buffer that are lent. Starting
-- and replacing leave the tokens in front of the numbers (`output_of`).
use Rattle.std.specs.Prelude.{Bool, List, ℕ, suc, ◌+◌, eqb, leb, ltb, length, set, take, Err, Ok}
use Rattle.laws.specs.Lists.{all}
use Rattle.laws.specs.Parts.{front}
use Rattle.laws.specs.Scans.{first_failing}
use Rattle.limits.specs.Limits.{max_word_events, max_tokens}
use Rattle.refusals.specs.Table.{output_short_number, word_length_number, word_event_number, numbers_short_number, state_range_number}
use Rattle.refusals.specs.Table.{replaced_events_number, run_stopped_number}
use Rattle.refusals.specs.Results.{Result, value, refused, ◌>>=◌, ◌>>◌, require}
use Rattle.refusals.specs.Answers.{refusal, Answer}
use Rattle.nets.specs.Nets.{Word, Net, screen, permitted, stopped}
use Rattle.nets.specs.Nets as nets
use Rattle.nets.specs.Events.{first_bad}
use Rattle.nets.specs.Carrying.{initials, Played, moved, lacking, play, marking_after}
use Rattle.bundles.specs.Layout.{Head, to_net}
use Rattle.bundles.specs.Readers.{read_head}
use Rattle.engine.specs.declared.Outcome.{Outcome}
use Rattle.engine.specs.declared.Outcome.TheVariants.{Moved, Stopped}

-- as many numbers as places: 5
abbrev pub room_for : Head → List ℕ → Result (Unit {0})
room_for h ts = require (leb (length h.places) (length ts)) numbers_short_number (length h.places)

-- starting: 4, then 6, 7, 8 in bundle order up to the last place; 5; then the initial tokens
unfoldable pub starting : List ℕ → List ℕ → Result (List ℕ)
starting b ts = do
  h ← read_head b
  room_for h ts
  value (initials (to_net h))

-- a number that a run can reach
abbrev pub reachable : ℕ → Bool
reachable t = leb t max_tokens

-- a step: 14; 4, then 6, 7, 8; 5; 16 for the lowest place with a number that no run reaches; 15; 3 where the buffer of the events so far is full;
-- then the event is played
unfoldable pub stepping : List ℕ → List ℕ → List ℕ → ℕ → ℕ → Result Played
stepping b ts kept number event = do
  require (ltb number max_word_events) word_length_number max_word_events
  h ← read_head b
  room_for h ts
  require (all reachable (take (length h.places) ts)) state_range_number (first_failing reachable (take (length h.places) ts))
  require (ltb event h.events) word_event_number number
  require (ltb number (length kept)) output_short_number (number + 1)
  value (play (to_net h) ts event)

-- the events so far on another net: 23 where it stops on them, else its marking behind them
unfoldable pub unless_stopped : List ℕ → nets.Answer → Result (List ℕ)
unless_stopped us permitted = value us
unless_stopped us (stopped i j k) = refused run_stopped_number i

unfoldable pub behind_events : ℕ → Net → Word → Result (List ℕ)
behind_events n net w = unless_stopped (marking_after n net w) (screen n net w)

-- replacing: 14; 3 where the buffer is shorter than the number; the old bundle's 4, 6, 7, 8; the new one's; 22; 5; 15 over the events so far; 23
unfoldable pub replacing : List ℕ → List ℕ → List ℕ → List ℕ → ℕ → Result (List ℕ)
replacing old new ts kept number = do
  require (leb number max_word_events) word_length_number max_word_events
  require (leb number (length kept)) output_short_number number
  one ← read_head old
  two ← read_head new
  require (eqb one.events two.events) replaced_events_number 0
  room_for two ts
  require (all (λ e. ltb e two.events) (take number kept)) word_event_number (first_bad two.events (take number kept))
  behind_events two.events (to_net two) (take number kept)

-- the answer of a call that writes tokens and hands back x
unfoldable pub handed_back : {A : Type 0} → A → Result (List ℕ) → Answer A
handed_back x (value us) = Ok x
handed_back x (refused number spot) = Err (refusal number spot)

-- starting hands back 0, the number of events so far; replacing nothing
abbrev pub started : Result (List ℕ) → Answer ℕ
started m = handed_back 0 m

abbrev pub replaced : Result (List ℕ) → Answer (Unit {0})
replaced m = handed_back tt m

-- the answer of a step: how many events there were with it, or where it stopped
unfoldable pub stepped : ℕ → Result Played → Answer Outcome
stepped number (value (moved us)) = Ok (Moved (suc number))
stepped number (value (lacking j lacks)) = Ok (Stopped (record { position = number; place = j; shortfall = lacks }))
stepped number (refused k spot) = Err (refusal k spot)

-- the numbers afterwards: as they were where it stopped or was refused
unfoldable pub tokens_stepped : Result Played → List ℕ → List ℕ
tokens_stepped (value (moved us)) ts = front us ts
tokens_stepped (value (lacking j lacks)) ts = ts
tokens_stepped (refused k spot) ts = ts

-- the buffer afterwards: the event behind those so far, where it is permitted
unfoldable pub kept_stepped : Result Played → List ℕ → ℕ → ℕ → List ℕ
kept_stepped (value (moved us)) kept number event = set kept number event
kept_stepped (value (lacking j lacks)) kept number event = kept
kept_stepped (refused k spot) kept number event = kept
