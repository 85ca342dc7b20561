-- REQUEST 9, the calls: 'Convert an accepted bundle to the new edition, with partial marks and empty second lists, and convert a new one back. A
-- bundle already in the wanted edition is copied.'
-- Exactly when each refusal meets the two calls, and what they write. The table is left as judging leaves it: that is in their contracts. What stands
-- in a bundle that is written, and what it keeps, is said by Converted.antt. A bundle is of the new edition where `is_new` of its head is true: what
-- its first byte says then is `first_byte` of Completed.antt. What is quoted of the output is said of 'this and every later written bundle' in
-- request 7.
use Rattle.std.specs.Prelude.{◌≡◌, ◌↔◌, ◌⊎◌, Bool, true, false, List, ℕ, ◌+◌, ◌≤◌, ◌<◌, length, get_or, Err, Ok}
use Rattle.refusals.specs.Results.{value}
use Rattle.refusals.specs.Answers.{refusal, answer}
use Rattle.nets.specs.Nets.{Entry, no_entry}
use Rattle.nets.specs.Entries.{NoneCompleted}
use Rattle.bundles.specs.Layout.{Contents, bytes_of}
use Rattle.verdicts.specs.Judging.{verdict}
use Rattle.verdicts.specs.declared.Tally.{Tally}
use Rattle.contents.specs.Behind.{JudgedAs}
use Rattle.editions.specs.Converting.{converting_to_new, converting_to_old}
use Rattle.demands.specs.Outputs.{LeavesOutput}

-- d' is d in an edition: its first byte says that one, and all else is as it was
pub record InEdition (is_new : Bool) (d d' : Contents) : Type 0 where
  pub edition : d'.head.is_new ≡ is_new
  pub events : d'.head.events ≡ d.head.events
  -- the words with their marks
  pub entries : d'.head.entries ≡ d.head.entries
  pub places : d'.head.places ≡ d.head.places
  -- those of kind 1 with their second lists
  pub certificates : d'.certificates ≡ d.certificates

-- ---- To the new edition: the judge's 4, 5, 6 to 10, 20, 11 to 13, then 4, then 3

-- how many bytes it takes
pub record NewLength (b : List ℕ) (c : Tally) (d : Contents) (n : ℕ) : Type 0 where
  -- 'A bundle already in the wanted edition is copied.'
  pub copied : d.head.is_new ≡ true → n ≡ length b
  -- a mark for each word, and for each certificate of kind 1 the count of its second list
  pub converted : d.head.is_new ≡ false → n ≡ length b + length d.head.entries + c.by_weights

-- an accepted bundle, with a result of n bytes, which are not too many
pub record ToNew (table_length : ℕ) (b : List ℕ) (c : Tally) (d : Contents) (n : ℕ) : Type 0 where
  pub accepted : JudgedAs table_length b c d
  pub size : NewLength b c d n
  pub within : n ≤ 64512

pub record ToNewExactly (table_length : ℕ) (b : List ℕ) (room : ℕ) : Type 0 where
  -- a refusal with another number than 3 and 4 is the judge's, at its spot; when, is said by JudgeExactly
  pub judged : (k : ℕ) → (k ≡ 3 → ⊥) → (k ≡ 4 → ⊥) → (spot : ℕ) → (answer (converting_to_new table_length b) room ≡ Err (refusal k spot))
      ↔ (verdict table_length b ≡ Err (refusal k spot))
  -- 'A result above 64,512 bytes gets 4, before 3': whatever the room
  pub too_long : (spot : ℕ) → (answer (converting_to_new table_length b) room ≡ Err (refusal 4 spot))
      ↔ ((verdict table_length b ≡ Err (refusal 4 spot)) ⊎ ((spot ≡ 0) × ((c : Tally) × (d : Contents) × JudgedAs table_length b c d
      × (d.head.is_new ≡ false) × (64512 < length b + length d.head.entries + c.by_weights))))
  -- 'a short output gets 3', with the length needed
  pub output_short : (spot : ℕ) → (answer (converting_to_new table_length b) room ≡ Err (refusal 3 spot))
      ↔ ((c : Tally) × (d : Contents) × ToNew table_length b c d spot × (room < spot))
  -- 'its length returned'
  pub result : (n : ℕ) → (answer (converting_to_new table_length b) room ≡ Ok n)
      ↔ ((c : Tally) × (d : Contents) × ToNew table_length b c d n × (n ≤ room))
  -- the bytes are those of the contents in the new edition
  pub bytes : (b' : List ℕ) → (converting_to_new table_length b ≡ value b')
      ↔ ((c : Tally) × (d : Contents) × ToNew table_length b c d (length b') × ((d' : Contents) × InEdition true d d' × (b' ≡ bytes_of d')))
  -- 'A bundle already in the wanted edition is copied', with completed words too
  pub copied : (c : Tally) (d : Contents) → JudgedAs table_length b c d → d.head.is_new ≡ true → converting_to_new table_length b ≡ value b
  -- 'goes to the output as in opening'; 'the output is then unchanged'
  pub output : LeavesOutput (converting_to_new table_length b) room

-- ---- To the old edition: the judge's 4, 5, 6 to 10, 20, 11 to 13, then 21, then 3

-- i is the number of the first completed word
pub record FirstCompleted (entries : List Entry) (i : ℕ) : Type 0 where
  pub there : i < length entries
  pub completed : (get_or entries i no_entry).completed ≡ true
  pub before : (j : ℕ) → j < i → (get_or entries j no_entry).completed ≡ false

-- how many bytes it takes: the other way
pub record OldLength (b : List ℕ) (c : Tally) (d : Contents) (n : ℕ) : Type 0 where
  pub copied : d.head.is_new ≡ false → n ≡ length b
  pub converted : d.head.is_new ≡ true → n + length d.head.entries + c.by_weights ≡ length b

-- an accepted bundle without a completed word, with a result of n bytes
pub record ToOld (table_length : ℕ) (b : List ℕ) (c : Tally) (d : Contents) (n : ℕ) : Type 0 where
  pub accepted : JudgedAs table_length b c d
  pub partial : NoneCompleted d.head.entries
  pub size : OldLength b c d n

pub record ToOldExactly (table_length : ℕ) (b : List ℕ) (room : ℕ) : Type 0 where
  -- a refusal with another number than 3 and 21 is the judge's, at its spot
  pub judged : (k : ℕ) → (k ≡ 3 → ⊥) → (k ≡ 21 → ⊥) → (spot : ℕ) → (answer (converting_to_old table_length b) room ≡ Err (refusal k spot))
      ↔ (verdict table_length b ≡ Err (refusal k spot))
  -- '21 on the way back for the first completed word, spot its number; after the judge's refusals and before 3': of an accepted bundle, whatever the
  -- room; the old edition has no completed word
  pub completed : (spot : ℕ) → (answer (converting_to_old table_length b) room ≡ Err (refusal 21 spot))
      ↔ ((c : Tally) × (d : Contents) × JudgedAs table_length b c d × (d.head.is_new ≡ true) × FirstCompleted d.head.entries spot)
  -- 'a short output gets 3', with the length needed
  pub output_short : (spot : ℕ) → (answer (converting_to_old table_length b) room ≡ Err (refusal 3 spot))
      ↔ ((c : Tally) × (d : Contents) × ToOld table_length b c d spot × (room < spot))
  -- 'its length returned'
  pub result : (n : ℕ) → (answer (converting_to_old table_length b) room ≡ Ok n)
      ↔ ((c : Tally) × (d : Contents) × ToOld table_length b c d n × (n ≤ room))
  -- the bytes are those of the contents in the old edition
  pub bytes : (b' : List ℕ) → (converting_to_old table_length b ≡ value b')
      ↔ ((c : Tally) × (d : Contents) × ToOld table_length b c d (length b') × ((d' : Contents) × InEdition false d d' × (b' ≡ bytes_of d')))
  -- 'A bundle already in the wanted edition is copied.'
  pub copied : (c : Tally) (d : Contents) → JudgedAs table_length b c d → d.head.is_new ≡ false → converting_to_old table_length b ≡ value b
  -- 'goes to the output as in opening'; 'the output is then unchanged'
  pub output : LeavesOutput (converting_to_old table_length b) room
