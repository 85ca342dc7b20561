-- Screening on bytes: which answer a bundle, or two of them joined, gives for a word, with the refusals' numbers and spots.
use Rattle.std.specs.Prelude.{List, ℕ, leb, ltb, eqb, length, Err, None, Ok, Option, Some}
use Rattle.laws.specs.Lists.{all}
use Rattle.limits.specs.Limits.{max_word_events}
use Rattle.refusals.specs.Table.{word_length_number, word_event_number, event_counts_number}
use Rattle.refusals.specs.Results.{Result, value, refused, ◌>>=◌, ◌>>◌, require}
use Rattle.refusals.specs.Answers.{refusal, Answer}
use Rattle.nets.specs.Nets.{Word, Net, join, screen, permitted, stopped}
use Rattle.nets.specs.Nets as nets
use Rattle.nets.specs.Events.{first_bad}
use Rattle.bundles.specs.Layout.{to_net}
use Rattle.bundles.specs.Readers.{read_head}
use Rattle.stops.specs.declared.Stop.{Stop}

-- a word on a net over the events below n: 15 over the whole word, then the replay
unfoldable pub word_on : Word → ℕ → Net → Result nets.Answer
word_on w n net = do
  require (all (λ e. ltb e n) w) word_event_number (first_bad n w)
  value (screen n net w)

-- screening of a word: 14; 4, then 6, 7, 8 in bundle order up to the last place; 15; then the replay
unfoldable pub screening : List ℕ → Word → Result nets.Answer
screening b w = do
  require (leb (length w) max_word_events) word_length_number max_word_events
  h ← read_head b
  word_on w h.events (to_net h)

-- with the place lists of two bundles joined: 14; the first bundle's 4, 6, 7, 8; the second's; 19; 15; then the replay
unfoldable pub joining : List ℕ → List ℕ → Word → Result nets.Answer
joining first second w = do
  require (leb (length w) max_word_events) word_length_number max_word_events
  one ← read_head first
  two ← read_head second
  require (eqb one.events two.events) event_counts_number 0
  word_on w one.events (join (to_net one) (to_net two))

-- the answer: the first refused step, none where the word is permitted; or the refusal
abbrev pub Screened : Type 0
Screened = Answer (Option Stop)

-- what the replay found
unfoldable pub replayed : nets.Answer → Screened
replayed permitted = Ok None
replayed (stopped position place shortfall) = Ok (Some (record { position = position; place = place; shortfall = shortfall }))

-- the answer
unfoldable pub screened_of : Result nets.Answer → Screened
screened_of (value x) = replayed x
screened_of (refused number spot) = Err (refusal number spot)

-- screening of a word with a bundle
unfoldable pub screened : List ℕ → Word → Screened
screened b w = screened_of (screening b w)

-- with two bundles, joined
unfoldable pub screened_joined : List ℕ → List ℕ → Word → Screened
screened_joined first second w = screened_of (joining first second w)

-- an answer as a number: 0 where the word is permitted, 256 where it is stopped, else the refusal's
abbrev pub stopped_number : ℕ
stopped_number = 256

unfoldable pub screened_number : Screened → ℕ
screened_number (Ok None) = 0
screened_number (Ok (Some stop)) = stopped_number
screened_number (Err r) = r.number
