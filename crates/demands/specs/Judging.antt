-- JUDGING, in the words of the requirements: exactly when each refusal meets the call, with its spot. When it accepts is the first line of
-- demand 2. Every line is about any bundle of bytes and a table of any size.
use Rattle.std.specs.Prelude.{◌≡◌, Bool, true, false, ◌↔◌, ◌⊎◌, List, [], ◌∷◌, ◌++◌, ℕ, ◌+◌, ◌≤◌, ◌<◌, leb, length, get_or, Err}
use Rattle.laws.specs.Lists.{among}
use Rattle.laws.specs.Numbers.{number_at}
use Rattle.refusals.specs.Results.{refused}
use Rattle.refusals.specs.Answers.{refusal}
use Rattle.nets.specs.Nets.{Log, Entry, Step, words, no_place, event_count, rows}
use Rattle.nets.specs.Words.{PermitsLog}
use Rattle.nets.specs.Fits.{Fits}
use Rattle.bundles.specs.Reading.{got, byte, number}
use Rattle.bundles.specs.Layout.{First, Head, Contents, WeightFields, kind0, kind1, wrong_in, to_net, bytes_of, words_in}
use Rattle.bundles.specs.Readers.{head, entry_after, entry, pair, certificate, rows_in_limit}
use Rattle.beginnings.specs.Beginnings.{HeadEnds, HeadDeparts, CertificateEnds, CertificateDeparts, EventsPass, RowsPass}
use Rattle.verdicts.specs.Judging.{verdict}
use Rattle.verdicts.specs.Reached.{HeadThere, LowestDisobeying, JudgedTo, CertificateDue, UnsolvedNext}

-- What stands in a bundle up to a point is said by five records of crates/verdicts/specs/Reached.antt. `HeadThere b h rest`: b is the bytes of the
-- head h, in its limits and with at most 256 rows, then `rest`. `LowestDisobeying h j`: some completed word has an effect on place j, and none has
-- on a lower one. `JudgedTo b d done rest`: b is the bytes of the contents d, then `rest`; d is in its limits, its net permits the log and obeys
-- its completed words, and its certificates solve the steps `done`. `CertificateDue b d s rest`: these are the first wrong continuations, and s is
-- the next one. `UnsolvedNext b d s c`: behind them stands its certificate c, in its limits, and does not solve s.

-- the tests before bundle order are passed
pub record Sized (table_length : ℕ) (b : List ℕ) : Type 0 where
  pub some : 1 ≤ length b
  pub most : length b ≤ 64512
  pub table : 3584 ≤ table_length

-- place j of the head does not fit, and each lower one does
pub record LowestMisfit (h : Head) (j : ℕ) : Type 0 where
  pub within : j < length (to_net h)
  pub misfit : Fits h.events (words_in h) (get_or (to_net h) j no_place) → ⊥
  pub lower : (i : ℕ) → i < j → Fits h.events (words_in h) (get_or (to_net h) i no_place)

-- the certificate that is due stops, as its own bytes say, at an offset from its first one
pub record DueStops (Stops : Head → List ℕ → ℕ → Type 0) (b : List ℕ) (spot : ℕ) : Type 0 where
  pub contents : Contents
  pub step : Step
  pub rest : List ℕ
  pub due : CertificateDue b contents step rest
  pub behind : ℕ
  pub offset : spot ≡ length (bytes_of contents) + behind
  pub stops : Stops contents.head rest behind

-- ---- Judge: 4, 5, then bundle order

pub record JudgeExactly (table_length : ℕ) (b : List ℕ) : Type 0 where
  -- 'bundle length 0 or above 64,512 | 4 | 0'
  pub bundle-length : (spot : ℕ) → (verdict table_length b ≡ Err (refusal 4 spot)) ↔ ((spot ≡ 0) × ((length b ≡ 0) ⊎ (64512 < length b)))
  -- 'table under 3,584 numbers | 5 | 3,584'
  pub table-short : (spot : ℕ) → (verdict table_length b ≡ Err (refusal 5 spot))
      ↔ ((spot ≡ 3584) × (1 ≤ length b) × (length b ≤ 64512) × (table_length < 3584))
  -- 6 to 9 are those of the readers of the head and, behind it and the certificates that solve their steps, of the certificate that is due
  pub fields : (k : ℕ) → among k (6 ∷ 7 ∷ 8 ∷ 9 ∷ []) ≡ true → (spot : ℕ) → (verdict table_length b ≡ Err (refusal k spot))
      ↔ (Sized table_length b × ((head rows_in_limit b 0 ≡ refused k spot)
      ⊎ ((d : Contents) × (s : Step) × (rest : List ℕ) × CertificateDue b d s rest
      × (certificate d.head b (length (bytes_of d)) ≡ refused k spot))))
  -- .. and without the readers, of heads and certificates within their own limits (crates/beginnings/specs/Beginnings.antt): the size of the whole
  -- bundle, its rows, and whether a certificate solves its step do not come into it.
  -- 'bundle ends before or inside a field | 6 | offset of the field': all that is there is a beginning of some head, or of some such certificate
  pub ends : (spot : ℕ) → verdict table_length b ≡ Err (refusal 6 spot) → HeadEnds b spot ⊎ DueStops CertificateEnds b spot
  -- 'value outside its range, or a row, event or place that isn't there | 7 | offset of the field': before the field it is, with it no longer
  pub departs : (spot : ℕ) → verdict table_length b ≡ Err (refusal 7 spot) → HeadDeparts b spot ⊎ DueStops CertificateDeparts b spot
  -- 'events would pass 1,024 | 8 | offset of the length byte': of the word that is due behind those of `before`, where the first byte says f
  pub events_pass : (spot : ℕ) → (verdict table_length b ≡ Err (refusal 8 spot))
      ↔ (Sized table_length b
      × ((f : First) × (before : List Entry) × (length (rows f.events (words before)) ≤ 256) × EventsPass b f before spot))
  -- 'rows would pass 256 | 9 | as for 8'
  pub rows_pass : (spot : ℕ) → (verdict table_length b ≡ Err (refusal 9 spot))
      ↔ (Sized table_length b
      × ((f : First) × (before : List Entry) × (length (rows f.events (words before)) ≤ 256) × RowsPass b f before spot))
  -- 'a place doesn't fit | 10 | lowest such place'
  pub place : (spot : ℕ) → (verdict table_length b ≡ Err (refusal 10 spot))
      ↔ (Sized table_length b × ((h : Head) × (rest : List ℕ) × HeadThere b h rest × LowestMisfit h spot))
  -- '20 for a place that breaks the rule, spot the lowest place, after 10 has passed for all places': so that the net permits the log
  pub rule : (spot : ℕ) → (verdict table_length b ≡ Err (refusal 20 spot))
      ↔ (Sized table_length b × ((h : Head) × (rest : List ℕ) × HeadThere b h rest × PermitsLog h.events (to_net h) (words_in h)
      × LowestDisobeying h spot))
  -- 'listed place doesn't refuse | 11 | certificate number'
  pub listed-place : (spot : ℕ) → (verdict table_length b ≡ Err (refusal 11 spot))
      ↔ (Sized table_length b × ((d : Contents) × (s : Step) × (j : ℕ) × UnsolvedNext b d s (kind0 j) × (spot ≡ length d.certificates)))
  -- 'kind 1 doesn't hold, or a term's step isn't allowed | 12 | certificate number'; 'A pair naming a partial word fails with 12'
  pub weights : (spot : ℕ) → (verdict table_length b ≡ Err (refusal 12 spot))
      ↔ (Sized table_length b × ((d : Contents) × (s : Step) × (w : WeightFields) × UnsolvedNext b d s (kind1 w) × (spot ≡ length d.certificates)))
  -- 'bytes follow | 13 | offset of the first'
  pub bytes-follow : (spot : ℕ) → (verdict table_length b ≡ Err (refusal 13 spot))
      ↔ (Sized table_length b × ((d : Contents) × (x : ℕ) × (rest : List ℕ) × JudgedTo b d (wrong_in d.head) (x ∷ rest) × (spot ≡ length (bytes_of d))))

-- ---- 6 and 7 of a field, 8 and 9 of a word, by the readers (without them: `ends` to `rows_pass` above). crates/bundles/specs/Readers.antt says
-- which field stands where, with which range: a reader takes its fields one after the other, and the first that is refused is its answer

-- a field of `size` bytes at an offset, with the value x, is refused
pub record FieldRefused (b : List ℕ) (at size x : ℕ) (in_range : ℕ → Bool) (k spot : ℕ) : Type 0 where
  pub here : spot ≡ at
  -- 'bundle ends before or inside a field | 6', 'value outside its range, or a row, event or place that isn't there | 7'
  pub cause : ((k ≡ 6) × (length b < at + size)) ⊎ ((k ≡ 7) × (at + size ≤ length b) × (in_range x ≡ false))

pub record FieldsExactly (b : List ℕ) (at : ℕ) : Type 0 where
  pub one_byte : (in_range : ℕ → Bool) (k spot : ℕ) → (byte in_range b at ≡ refused k spot) ↔ FieldRefused b at 1 (get_or b at 0) in_range k spot
  pub two_bytes : (in_range : ℕ → Bool) (k spot : ℕ) → (number in_range b at ≡ refused k spot) ↔ FieldRefused b at 2 (number_at b at) in_range k spot
  -- 'events would pass 1,024 | 8 | offset of the length byte', 'rows would pass 256 | 9 | as for 8': of a word behind those of `before`
  pub events : (rows_fit : Log → Bool) (f : First) (before : List Entry) (spot : ℕ) → (entry rows_fit f before b at ≡ refused 8 spot)
      ↔ ((spot ≡ at) × (at + 1 ≤ length b) × (1024 < event_count (words before) + get_or b at 0))
  pub rows : (rows_fit : Log → Bool) (f : First) (before : List Entry) (spot : ℕ) → (entry rows_fit f before b at ≡ refused 9 spot)
      ↔ ((spot ≡ at) × ((x : Entry) × (next : ℕ) × (entry_after f (event_count (words before)) b at ≡ got x next)
      × (rows_fit (words (before ++ x ∷ [])) ≡ false)))
  -- 'each length byte is followed by a mark, 0 partial or 1 completed, read after 8': in the new edition, 6 or 7 at its own offset
  pub mark : (rows_fit : Log → Bool) (f : First) (before : List Entry) → f.is_new ≡ true → (k : ℕ)
      → (entry rows_fit f before b at ≡ refused k (at + 1))
      ↔ ((at + 1 ≤ length b) × (event_count (words before) + get_or b at 0 ≤ 1024)
      × FieldRefused b (at + 1) 1 (get_or b (at + 1) 0) (λ m. leb m 1) k (at + 1))
  -- 'A pair .. naming no word with 7', at the offset of the word's number, where the log has so many words
  pub pair-word : (word_count spot : ℕ) → (pair word_count b at ≡ refused 7 spot)
      ↔ ((spot ≡ at) × (at + 1 ≤ length b) × (word_count ≤ get_or b at 0))
