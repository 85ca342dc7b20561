-- REQUEST 9, what is written: 'with partial marks and empty second lists'; 'Both results are accepted with the same counts'; 'from old there (unless
-- 4 comes) and back gives the same bytes'.
-- When the two calls write at all is said by Converting.antt, and ConvertingSamples.antt has bundles in both editions, byte by byte.
use Rattle.std.specs.Prelude.{◌≡◌, ◌↔◌, true, false, ℕ, ◌+◌, ◌≤◌, length, take, Ok}
use mathlib.Core.List.{List, [], ◌∷◌, ◌++◌, flat_map, Memᴰ}
use Rattle.laws.specs.Numbers.{Bytes, le16}
use Rattle.laws.specs.Parts.{front}
use Rattle.refusals.specs.Results.{value}
use Rattle.refusals.specs.Answers.{answer, written}
use Rattle.refusals.specs.Laws.{Ends}
use Rattle.nets.specs.Nets.{Word, Entry}
use Rattle.nets.specs.Entries.{NoneCompleted}
use Rattle.bundles.specs.Layout.{WeightFields, CertificateFields, kind0, kind1, Contents, term_bytes, places_bytes, bytes_of}
use Rattle.bundles.specs.Readers.{events_in, log_in, net_in}
use Rattle.verdicts.specs.Judging.{verdict, table_after}
use Rattle.verdicts.specs.declared.Tally.{Tally}
use Rattle.screening.specs.Screening.{screened, screened_joined}
use Rattle.contents.specs.Behind.{JudgedAs}
use Rattle.editions.specs.Converting.{converting_to_new, converting_to_old}
use Rattle.demands.specs.Completed.{entries_in}
use Rattle.demands.specs.Demands.{LogContained, Compared}
use Rattle.demands.specs.Converting.{InEdition}

-- ---- What stands in it

-- 'with partial marks and empty second lists'
pub record PartialAlone (d : Contents) : Type 0 where
  pub marks : (x : Entry) → Memᴰ x d.head.entries → x.completed ≡ false
  pub lists : (w : WeightFields) → Memᴰ (kind1 w) d.certificates → w.pairs ≡ []

-- the bytes of a word with such a mark, and without
abbrev pub marked : Entry → List ℕ
marked x = length x.word ∷ 0 ∷ x.word

abbrev pub unmarked : Entry → List ℕ
unmarked x = length x.word ∷ x.word

-- the bytes of a certificate up to its terms, then those of its second list, where it is of kind 1
unfoldable pub with_list : List ℕ → CertificateFields → List ℕ
with_list list (kind0 j) = 0 ∷ j ∷ []
with_list list (kind1 w) = 1 ∷ (le16 w.k ++ ((length w.terms ∷ flat_map term_bytes w.terms) ++ list))

-- such contents in both editions: the first byte, a byte 0 behind each length byte and a byte 0 behind the terms are all that differs
pub record BothEditions (d : Contents) : Type 0 where
  pub new : (d' : Contents) → InEdition true d d' → bytes_of d' ≡ (128 + d.head.events) ∷ length d.head.entries
      ∷ (flat_map marked d.head.entries ++ (places_bytes d.head.places ++ flat_map (with_list (0 ∷ [])) d.certificates))
  pub old : (d' : Contents) → InEdition false d d' → bytes_of d' ≡ d.head.events ∷ length d.head.entries
      ∷ (flat_map unmarked d.head.entries ++ (places_bytes d.head.places ++ flat_map (with_list []) d.certificates))

-- ---- What it keeps: b is accepted with the counts c, and b' is written by one of the calls

pub record KeepsAll (b b' : List ℕ) (c : Tally) : Type 0 where
  pub bytes : Bytes b'
  -- 'Both results are accepted with the same counts', and judging them leaves the same table
  pub accepted : (table_length : ℕ) → 3584 ≤ table_length → verdict table_length b' ≡ Ok c
  pub table : (table : List ℕ) → 3584 ≤ length table → table_after b' table ≡ table_after b table
  pub events : events_in b' ≡ events_in b
  -- the words with their marks
  pub entries : entries_in b' ≡ entries_in b
  pub log : log_in b' ≡ log_in b
  pub net : net_in b' ≡ net_in b
  -- screening gives the same answer for every word, 14 and 15 included; so it does when joined with any other bundle, on either side
  pub screened : (w : Word) → screened b' w ≡ screened b w
  pub joined_first : (x : List ℕ) (w : Word) → screened_joined b' x w ≡ screened_joined b x w
  pub joined_second : (x : List ℕ) (w : Word) → screened_joined x b' w ≡ screened_joined x b w
  -- demand 3 asks the same of b' as of b, whether it is the first of the two files or the second ..
  pub contained_first : (x : List ℕ) → LogContained b' x ↔ LogContained b x
  pub contained_second : (x : List ℕ) → LogContained x b' ↔ LogContained x b
  -- .. and says the same
  pub compared_first : (x : List ℕ) (c' : Tally) → Compared b' x c c' ↔ Compared b x c c'
  pub compared_second : (x : List ℕ) (c' : Tally) → Compared x b' c' c ↔ Compared x b c' c

-- ---- There and back

pub record Request9 : Type 0 where
  -- of an old bundle
  pub old : (table_length : ℕ) (b : List ℕ) → Bytes b → (c : Tally) (d : Contents) → JudgedAs table_length b c d → d.head.is_new ≡ false
      → PartialAlone d
  -- 'A new bundle with no completed word, so with empty second lists'
  pub partial : (table_length : ℕ) (b : List ℕ) → Bytes b → (c : Tally) (d : Contents) → JudgedAs table_length b c d → NoneCompleted d.head.entries
      → PartialAlone d
  pub layout : (d : Contents) → PartialAlone d → BothEditions d
  pub newer_keeps : (table_length : ℕ) (b : List ℕ) → Bytes b → (c : Tally) → verdict table_length b ≡ Ok c
      → (b' : List ℕ) → converting_to_new table_length b ≡ value b' → KeepsAll b b' c
  pub older_keeps : (table_length : ℕ) (b : List ℕ) → Bytes b → (c : Tally) → verdict table_length b ≡ Ok c
      → (b' : List ℕ) → converting_to_old table_length b ≡ value b' → KeepsAll b b' c
  -- 'from old there (unless 4 comes) and back gives the same bytes'
  pub there_and_back : (table_length : ℕ) (b : List ℕ) → Bytes b → (c : Tally) (d : Contents) → JudgedAs table_length b c d → d.head.is_new ≡ false
      → (b' : List ℕ) → converting_to_new table_length b ≡ value b'
      → (table_length' : ℕ) → 3584 ≤ table_length' → converting_to_old table_length' b' ≡ value b
  -- 'A new bundle with no completed word .. converts back, then forward, to itself'
  pub back_and_there : (table_length : ℕ) (b : List ℕ) → Bytes b → (c : Tally) (d : Contents) → JudgedAs table_length b c d → d.head.is_new ≡ true
      → NoneCompleted d.head.entries → (b' : List ℕ) × (converting_to_old table_length b ≡ value b')
      × ((table_length' : ℕ) → 3584 ≤ table_length' → converting_to_new table_length' b' ≡ value b)
  -- converting twice is converting once, since 'a bundle already in the wanted edition is copied'
  pub newer_twice : (table_length : ℕ) (b : List ℕ) → Bytes b → (b' : List ℕ) → converting_to_new table_length b ≡ value b'
      → (table_length' : ℕ) → 3584 ≤ table_length' → converting_to_new table_length' b' ≡ value b'
  pub older_twice : (table_length : ℕ) (b : List ℕ) → Bytes b → (b' : List ℕ) → converting_to_old table_length b ≡ value b'
      → (table_length' : ℕ) → 3584 ≤ table_length' → converting_to_old table_length' b' ≡ value b'
  -- 'With long enough buffers', by two calls one behind the other: the second has the n bytes that the first has written
  pub there_and_back_written : (table_length : ℕ) (b first second : List ℕ) → Bytes b → (c : Tally) (d : Contents) → JudgedAs table_length b c d
      → d.head.is_new ≡ false → (n : ℕ) → answer (converting_to_new table_length b) (length first) ≡ Ok n
      → (table_length' : ℕ) → 3584 ≤ table_length' → length b ≤ length second
      → Ends (converting_to_old table_length' (take n (written (converting_to_new table_length b) first))) second (Ok (length b)) (front b second)
  pub back_and_there_written : (table_length : ℕ) (b first second : List ℕ) → Bytes b → (c : Tally) (d : Contents) → JudgedAs table_length b c d
      → d.head.is_new ≡ true → NoneCompleted d.head.entries → length b ≤ length first → (table_length' : ℕ) → 3584 ≤ table_length'
      → length b ≤ length second → (n : ℕ) × (answer (converting_to_old table_length b) (length first) ≡ Ok n)
      × Ends (converting_to_new table_length' (take n (written (converting_to_old table_length b) first))) second (Ok (length b)) (front b second)
