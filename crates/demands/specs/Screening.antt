-- SCREENING, with one bundle and with two joined, in the words of the requirements: exactly when each refusal meets the call, with its spot.
-- What it answers else is in demand 2.
-- Every line is about any bundle of bytes and any word.
use Rattle.std.specs.Prelude.{◌≡◌, true, ◌↔◌, ◌⊎◌, List, [], ◌∷◌, ℕ, ◌≤◌, ◌<◌, length, get_or, Err}
use Rattle.laws.specs.Lists.{among}
use Rattle.refusals.specs.Results.{refused}
use Rattle.refusals.specs.Answers.{refusal}
use Rattle.nets.specs.Nets.{Word, Entry}
use Rattle.bundles.specs.Layout.{First, Head, HeadInFront}
use Rattle.bundles.specs.Readers.{head, any_rows, events_in}
use Rattle.beginnings.specs.Beginnings.{BeginsHead, InFront, HeadEnds, HeadDeparts, EventsPass}
use Rattle.screening.specs.Screening.{screened, screened_joined}
use Rattle.screening.specs.Screens.{Readable}

-- ---- Screen: 14, 4, then 6, 7, 8 in bundle order, then 15

pub record ScreenExactly (b : List ℕ) (w : Word) : Type 0 where
  -- 'screened word above 65,535 events | 14 | 65,535'
  pub word-length : (spot : ℕ) → (screened b w ≡ Err (refusal 14 spot)) ↔ ((spot ≡ 65535) × (65535 < length w))
  -- 'bundle length 0 or above 64,512 | 4 | 0'
  pub bundle-length : (spot : ℕ) → (screened b w ≡ Err (refusal 4 spot))
      ↔ ((spot ≡ 0) × (length w ≤ 65535) × ((length b ≡ 0) ⊎ (64512 < length b)))
  -- 6, 7 and 8 are those of the reader of the head, field by field as for the judge
  pub fields : (number : ℕ) → among number (6 ∷ 7 ∷ 8 ∷ []) ≡ true → (spot : ℕ) → (screened b w ≡ Err (refusal number spot))
      ↔ ((length w ≤ 65535) × (1 ≤ length b) × (length b ≤ 64512) × (head any_rows b 0 ≡ refused number spot))
  -- .. and without the reader, of heads within their limits (crates/beginnings/specs/Beginnings.antt).
  -- 'bundle ends before or inside a field | 6 | offset of the field': all that is there is a beginning of some head, and no whole head
  pub short : ((spot : ℕ) × (screened b w ≡ Err (refusal 6 spot)))
      ↔ ((length w ≤ 65535) × (1 ≤ length b) × (length b ≤ 64512) × BeginsHead b × (InFront b → ⊥))
  pub ends : (spot : ℕ) → screened b w ≡ Err (refusal 6 spot) → HeadEnds b spot
  -- 'value outside its range .. | 7', 'events would pass 1,024 | 8': before the byte at the offset it is such a beginning, with it no longer
  pub departs : (spot : ℕ) → ((screened b w ≡ Err (refusal 7 spot)) ⊎ (screened b w ≡ Err (refusal 8 spot)))
      ↔ ((length w ≤ 65535) × (1 ≤ length b) × (length b ≤ 64512) × HeadDeparts b spot × (InFront b → ⊥))
  -- 'events would pass 1,024 | 8 | offset of the length byte': of the word that is due behind those of `before`, where the first byte says f
  pub events_pass : (spot : ℕ) → (screened b w ≡ Err (refusal 8 spot))
      ↔ ((length w ≤ 65535) × (1 ≤ length b) × (length b ≤ 64512) × ((f : First) × (before : List Entry) × EventsPass b f before spot))
  -- 'screened event not below n | 15 | its position': the first one; the bundle is the bytes of a head in its limits, then any rest
  pub event : (spot : ℕ) → (screened b w ≡ Err (refusal 15 spot))
      ↔ ((length w ≤ 65535) × (length b ≤ 64512) × ((h : Head) × (rest : List ℕ) × HeadInFront b h rest
      × (spot < length w) × (h.events ≤ get_or w spot 0) × ((i : ℕ) → i < spot → get_or w i 0 < h.events)))

-- ---- Screen, joined: 14; the first bundle's 4, 6, 7, 8; the second's; 19; 15

pub record JoinExactly (first second : List ℕ) (w : Word) : Type 0 where
  -- '14 still comes first'
  pub word-length : (spot : ℕ) → (screened_joined first second w ≡ Err (refusal 14 spot)) ↔ ((spot ≡ 65535) × (65535 < length w))
  -- 'both bundles' own refusals, first bundle before second': those that screening the empty word with the bundle gets (ScreenExactly)
  pub own : (number : ℕ) → among number (4 ∷ 6 ∷ 7 ∷ 8 ∷ []) ≡ true → (spot : ℕ) → (screened_joined first second w ≡ Err (refusal number spot))
      ↔ ((length w ≤ 65535) × ((screened first [] ≡ Err (refusal number spot))
      ⊎ (Readable first [] × (screened second [] ≡ Err (refusal number spot)))))
  -- '19 when the event counts aren't the same, spot 0; it comes after both bundles' own refusals .. and before 15'
  pub counts : (spot : ℕ) → (screened_joined first second w ≡ Err (refusal 19 spot))
      ↔ ((spot ≡ 0) × (length w ≤ 65535) × Readable first [] × Readable second [] × (events_in first ≡ events_in second → ⊥))
  -- 'screened event not below n | 15 | its position': the first one
  pub event : (spot : ℕ) → (screened_joined first second w ≡ Err (refusal 15 spot))
      ↔ ((length w ≤ 65535) × Readable first [] × Readable second [] × (events_in first ≡ events_in second)
      × (spot < length w) × (events_in first ≤ get_or w spot 0) × ((i : ℕ) → i < spot → get_or w i 0 < events_in first))
