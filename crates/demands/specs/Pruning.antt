-- REQUEST 7: 'Throw out idle places.' 'Nets carry places that no certificate names. Given an accepted bundle, write one without them, the rest in
-- their old order, with certificates renumbered.'
-- First the call: exactly when each refusal meets it, and what it writes. Then what stands in the bundle that is written, and what it keeps: of both
-- editions, with the first byte, the marks and the pairs as they were. (A bundle of the new edition is pruned in CompletedSamples.antt.)
use Rattle.std.specs.Prelude.{◌≡◌, not, ◌↔◌, ℕ, ◌≤◌, ◌<◌, T, length, get_or, Err, None, Ok, Some}
use mathlib.Core.List.{List, [], ◌∷◌, ◌++◌, Memᴰ}
use Rattle.laws.specs.Numbers.{Bytes}
use Rattle.refusals.specs.Results.{value}
use Rattle.refusals.specs.Answers.{refusal, answer}
use Rattle.nets.specs.Nets.{Word, Net, Place, permits}
use Rattle.nets.specs.Bundle.{Bundle, log_of, accepted, tally}
use Rattle.nets.specs.Pruning.{prune}
use Rattle.nets.specs.Words.{Prefix}
use Rattle.bundles.specs.Layout.{PlaceFields, CertificateFields, kind0, Contents, InLimits, bytes_of}
use Rattle.bundles.specs.Readers.{events_in, log_in, net_in}
use Rattle.verdicts.specs.Judging.{verdict, table_after}
use Rattle.verdicts.specs.declared.Tally.{Tally}
use Rattle.screening.specs.Screening.{screened, Screened}
use Rattle.contents.specs.Behind.{JudgedAs}
use Rattle.pruning.specs.Pruning.{pruned, pruning}
use Rattle.demands.specs.Completed.{entries_in}
use Rattle.demands.specs.Outputs.{LeavesOutput}

-- ---- Prune: the judge's 4, 5, 6 to 10, 20, 11 to 13, then 3

-- an accepted bundle, its counts and contents, and the length of what is left of it
pub record PrunesTo (table_length : ℕ) (b : List ℕ) (c : Tally) (d : Contents) (n : ℕ) : Type 0 where
  pub accepted : JudgedAs table_length b c d
  pub size : n ≡ length (bytes_of (pruned d))

pub record PruneExactly (table_length : ℕ) (b : List ℕ) (room : ℕ) : Type 0 where
  -- 'A bundle that isn't accepted gets the judge's refusal': when, and at which spot, is said by JudgeExactly
  pub judged : (k : ℕ) → (k ≡ 3 → ⊥) → (spot : ℕ) → (answer (pruning table_length b) room ≡ Err (refusal k spot))
      ↔ (verdict table_length b ≡ Err (refusal k spot))
  -- 'and a short output gets 3', with the length needed
  pub output_short : (spot : ℕ) → (answer (pruning table_length b) room ≡ Err (refusal 3 spot))
      ↔ ((c : Tally) × (d : Contents) × PrunesTo table_length b c d spot × (room < spot))
  -- 'its length returned'
  pub result : (n : ℕ) → (answer (pruning table_length b) room ≡ Ok n)
      ↔ ((c : Tally) × (d : Contents) × PrunesTo table_length b c d n × (n ≤ room))
  -- the bytes that are written are those of the pruned contents
  pub bytes : (b' : List ℕ) → (pruning table_length b ≡ value b')
      ↔ ((c : Tally) × (d : Contents) × PrunesTo table_length b c d (length b') × (b' ≡ bytes_of (pruned d)))
  -- 'goes to the output as in opening': in front of it, and the rest is left; on a refusal 'the output is then unchanged'
  pub output : LeavesOutput (pruning table_length b) room

-- ---- What is left of a bundle's contents

-- a certificate of kind 0 names place j
abbrev pub Named : Contents → ℕ → Type 0
Named d j = Memᴰ (kind0 j) d.certificates

-- d' is d without its idle places, in the same edition; `number` gives the places that stay their new numbers
pub record WithoutIdle (d d' : Contents) (number : ℕ → ℕ) (no_place : PlaceFields) (none : CertificateFields) : Type 0 where
  pub edition : d'.head.is_new ≡ d.head.is_new
  pub events : d'.head.events ≡ d.head.events
  -- the words with their marks
  pub entries : d'.head.entries ≡ d.head.entries
  -- a place that is named stays
  pub stays : (j : ℕ) → Named d j → (number j < length d'.head.places) × (get_or d'.head.places (number j) no_place ≡ get_or d.head.places j no_place)
  -- 'Nets carry places that no certificate names .. write one without them': each place that is left is one that was named, and is named
  pub only : (i : ℕ) → i < length d'.head.places → Named d' i × ((j : ℕ) × Named d j × (number j ≡ i))
  -- 'the rest in their old order'
  pub order : (j k : ℕ) → Named d j → j < k → number j < number k
  -- 'with certificates renumbered': as many, each of kind 0 with the new number of its place, each of kind 1 as it was,
  -- with its pairs
  pub certificates : length d'.certificates ≡ length d.certificates
  pub by_place : (i j : ℕ) → i < length d.certificates → get_or d.certificates i none ≡ kind0 j → get_or d'.certificates i none ≡ kind0 (number j)
  pub by_weights : (i : ℕ) → i < length d.certificates → ((j : ℕ) → get_or d.certificates i none ≡ kind0 j → ⊥)
      → get_or d'.certificates i none ≡ get_or d.certificates i none

-- ---- What it keeps: b is accepted with the counts c, and b' is written

-- stopped at a position, whatever the place
abbrev pub StoppedAt : ℕ → Screened → Type 0
StoppedAt i s = (j : ℕ) × (k : ℕ) × (s ≡ Ok (Some (record { position = i; place = j; shortfall = k })))

pub record Keeps (b b' : List ℕ) (c : Tally) : Type 0 where
  pub bytes : Bytes b'
  -- 'The result is accepted with the same four counts', and judging it leaves the same table
  pub accepted : (table_length : ℕ) → 3584 ≤ table_length → verdict table_length b' ≡ Ok c
  pub table : (table : List ℕ) → 3584 ≤ length table → table_after b' table ≡ table_after b table
  -- the first byte, which says the edition; the events, and the words with their marks
  pub first : get_or b' 0 0 ≡ get_or b 0 0
  pub events : events_in b' ≡ events_in b
  pub entries : entries_in b' ≡ entries_in b
  -- 'every log prefix with one event added gets the same yes or no'; screening says so, too, and where it is no, both stop at the added event
  pub prefixes : (w : Word) → Prefix (log_in b) w → (e : ℕ) → e < events_in b
      → permits (events_in b') (net_in b') (w ++ e ∷ []) ≡ permits (events_in b) (net_in b) (w ++ e ∷ [])
  pub permitted : (w : Word) → Prefix (log_in b) w → (e : ℕ) → e < events_in b
      → (screened b' (w ++ e ∷ []) ≡ Ok None) ↔ (screened b (w ++ e ∷ []) ≡ Ok None)
  pub stopped : (w : Word) → Prefix (log_in b) w → (e : ℕ) → e < events_in b → T (not (permits (events_in b) (net_in b) (w ++ e ∷ [])))
      → StoppedAt (length w) (screened b (w ++ e ∷ [])) × StoppedAt (length w) (screened b' (w ++ e ∷ []))
  -- 'Words that leave the log earlier may be permitted more often': no word less often
  pub more : (w : Word) → T (permits (events_in b) (net_in b) w) → T (permits (events_in b') (net_in b') w)
  -- 'Doing it twice equals doing it once.'
  pub twice : (table_length : ℕ) → 3584 ≤ table_length → pruning table_length b' ≡ value b'
  pub shorter : length b' ≤ length b

-- a word that leaves the log with an event before its last, stopped before and permitted afterwards
pub record PermittedMore : Type 0 where
  pub bundle : List ℕ
  pub bytes : Bytes bundle
  pub left : List ℕ
  pub prefix : Word
  pub event : ℕ
  pub rest : Word
  pub inside : Prefix (log_in bundle) prefix
  pub leaves : Prefix (log_in bundle) (prefix ++ event ∷ []) → ⊥
  pub earlier : 1 ≤ length rest
  pub counts : Tally
  pub accepted : verdict 3584 bundle ≡ Ok counts
  pub prunes : pruning 3584 bundle ≡ value left
  pub before : screened bundle (prefix ++ event ∷ rest) ≡ Ok (Some (record { position = 3; place = 0; shortfall = 1 }))
  pub after : screened left (prefix ++ event ∷ rest) ≡ Ok None

-- of a bundle of the theory, with whole numbers of any size
pub record BundlePruned (b : Bundle) : Type 0 where
  pub accepted : T (accepted (prune b))
  pub counts : tally (prune b) ≡ tally b
  pub entries : (prune b).entries ≡ b.entries
  pub prefixes : (w : Word) → Prefix (log_of b) w → (e : ℕ) → e < b.events
      → permits b.events (prune b).net (w ++ e ∷ []) ≡ permits b.events b.net (w ++ e ∷ [])
  pub more : (w : Word) → T (permits b.events b.net w) → T (permits b.events (prune b).net w)

pub record Request7 : Type 0 where
  pub contents : (d : Contents) → InLimits d → (no_place : PlaceFields) (none : CertificateFields)
      → (number : ℕ → ℕ) × WithoutIdle d (pruned d) number no_place none
  pub keeps : (table_length : ℕ) (b : List ℕ) → Bytes b → (c : Tally) → verdict table_length b ≡ Ok c
      → (b' : List ℕ) → pruning table_length b ≡ value b' → Keeps b b' c
  pub bundles : (b : Bundle) → T (accepted b) → BundlePruned b
  -- of any net: one with places left out permits at least as much
  pub nets : (n : ℕ) (net less : Net) → ((p : Place) → Memᴰ p less → Memᴰ p net) → (w : Word) → T (permits n net w) → T (permits n less w)
  pub sample : PermittedMore
