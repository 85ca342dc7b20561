-- The search for a word that leads to a wanted event, on bytes: what it answers.
use Rattle.std.specs.Prelude.{List, Option, Some, None, ℕ, suc, ltb, length, replicate, Err, Ok}
use Rattle.laws.specs.Parts.{front}
use Rattle.limits.specs.Limits.{max_reach_events}
use Rattle.refusals.specs.Table.{word_event_number}
use Rattle.refusals.specs.Results.{Result, value, refused, ◌>>=◌, ◌>>◌, require}
use Rattle.refusals.specs.Answers.{refusal, Answer}
use Rattle.nets.specs.Nets.{Word, Net}
use Rattle.nets.specs.Reaching.{reached}
use Rattle.bundles.specs.Layout.{to_net}
use Rattle.bundles.specs.Readers.{read_head}
use Rattle.search.specs.declared.Reached.{Reached}

-- of at most five events
abbrev pub first_leading : ℕ → Net → ℕ → Option Word
first_leading n net wanted = reached n net wanted (suc max_reach_events)

-- 4, then 6, 7, 8 in bundle order up to the last place; 15; then the word, or none
unfoldable pub reaching : List ℕ → ℕ → Result (Option Word)
reaching b wanted = do
  h ← read_head b
  require (ltb wanted h.events) word_event_number 0
  value (first_leading h.events (to_net h) wanted)

-- how many events it has, and what is left of the bytes for it
unfoldable pub size_of : Option Word → Option ℕ
size_of None = None
size_of (Some w) = Some (length w)

unfoldable pub word_left : Option Word → List ℕ → List ℕ
word_left None bytes = bytes
word_left (Some w) bytes = front w bytes

-- the answers: the size with the bytes beside it, and both as a struct
unfoldable pub sized : Result (Option Word) → Answer (Option ℕ)
sized (value o) = Ok (size_of o)
sized (refused number spot) = Err (refusal number spot)

unfoldable pub word_written : Result (Option Word) → List ℕ → List ℕ
word_written (value o) bytes = word_left o bytes
word_written (refused number spot) bytes = bytes

unfoldable pub reached_of : Result (Option Word) → Answer Reached
reached_of (value o) = Ok (record { length = size_of o; word = word_left o (replicate max_reach_events 0) })
reached_of (refused number spot) = Err (refusal number spot)
