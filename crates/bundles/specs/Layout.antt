-- What a bundle holds, field by field; what it stands for in the definitions of nets; and its bytes.
use mathlib.Core.List.{List, [], ◌∷◌, ◌++◌, map, flat_map}
use Rattle.std.specs.Prelude.{◌≡◌, Bool, true, false, cond, ℕ, ◌+◌, ◌≤◌, ◌<◌, ltb, ℤ, length, get_or}
use Rattle.std.proofs.Math.IntN.{sub_ℕ}
use Rattle.laws.specs.Every.{Every}
use Rattle.laws.specs.Numbers.{le16}
use Rattle.limits.specs.Limits.{max_bundle_size, max_events, max_log_events, max_rows, max_places, max_terms, max_pairs, new_edition}
use Rattle.nets.specs.Nets.{Log, Entry, words, completed_words, Counts, Step, event_count, Place, Net, at}
use Rattle.nets.specs.Bundle.{Term, Pair, Weights, Certificate, by_place, by_weights, Bundle}
use Rattle.nets.specs.Nets.{rows, allowed, continuations, allowed_steps, wrong_continuations, fits, place_obeys}
use Rattle.nets.specs.Bundle.{weights_hold, solves, solves_all}
use Rattle.nets.specs.Fits.{Below, LogBelow}

-- the initial tokens, and the in and out numbers of each event
pub record PlaceFields : Type 0 where
  pub initial : ℕ
  pub produced : List ℕ
  pub consumed : List ℕ

-- a row's number, an event and a weight
pub record TermFields : Type 0 where
  pub row : ℕ
  pub event : ℕ
  pub weight : ℕ

-- a word's number, and a weight as it is written: its two bytes as a number
pub record PairFields : Type 0 where
  pub word : ℕ
  pub weight : ℕ

-- k, the terms, and in the new edition the pairs
pub record WeightFields : Type 0 where
  pub k : ℕ
  pub terms : List TermFields
  pub pairs : List PairFields

-- a certificate, by its kind byte
pub data CertificateFields : Type 0 where
  -- kind 0: a place's number
  kind0 : ℕ → CertificateFields
  -- kind 1: weights
  kind1 : WeightFields → CertificateFields

-- what the first byte says: whether it is the new edition, which marks its words, and n
pub record First : Type 0 where
  pub is_new : Bool
  pub events : ℕ

-- a bundle up to its last place
pub record Head : Type 0 where
  pub is_new : Bool
  pub events : ℕ
  pub entries : List Entry
  pub places : List PlaceFields

-- all that a bundle holds
pub record Contents : Type 0 where
  pub head : Head
  pub certificates : List CertificateFields

-- ---- what the fields stand for

-- a place's numbers, by event
unfoldable pub to_place : PlaceFields → Place
to_place p = record { initial = p.initial; produced = at p.produced; consumed = at p.consumed }

-- the net is the list of places
unfoldable pub to_net : Head → Net
to_net h = map to_place h.places

-- the head with other places
abbrev pub head_with : Head → List PlaceFields → Head
head_with h ps = record { is_new = h.is_new; events = h.events; entries = h.entries; places = ps }

-- what its first byte says
abbrev pub first_in : Head → First
first_in h = record { is_new = h.is_new; events = h.events }

-- the words of the log, in order, and the completed ones among them
abbrev pub words_in : Head → Log
words_in h = words h.entries

abbrev pub completed_in : Head → Log
completed_in h = completed_words h.entries

-- their events are below n
abbrev pub LogBelowIn : Head → Type 0
LogBelowIn h = LogBelow h.events (words_in h)

-- the rows of the log
abbrev pub rows_in : Head → List Counts
rows_in h = rows h.events (words_in h)

-- an allowed step
abbrev pub allowed_in : Head → Step → Bool
allowed_in h = allowed h.events (words_in h)

-- each row with each event, the allowed steps and the wrong continuations among them, by row, then event
abbrev pub continuations_in : Head → List Step
continuations_in h = continuations h.events (words_in h)

abbrev pub allowed_steps_in : Head → List Step
allowed_steps_in h = allowed_steps h.events (words_in h)

abbrev pub wrong_in : Head → List Step
wrong_in h = wrong_continuations h.events (words_in h)

-- a place fits the log
abbrev pub fits_in : Head → Place → Bool
fits_in h = fits h.events (words_in h)

-- a place obeys the completed words
abbrev pub obeys_in : Head → Place → Bool
obeys_in h = place_obeys h.events (completed_in h)

-- a term's step: the row of that number, and the event
unfoldable pub to_term : Head → TermFields → Term
to_term h t = record { step = record { row = get_or (rows_in h) t.row []; event = t.event }; weight = t.weight }

-- a number of two bytes in two's complement: 65,536 less from 32,768 on
unfoldable pub signed : ℕ → ℤ
signed x = sub_ℕ x (cond (ltb x 32768) 0 65536)

-- a pair, with its weight's sign
unfoldable pub to_pair : PairFields → Pair
to_pair q = record { number = q.word; weight = signed q.weight }

-- weights, with their terms' rows looked up
abbrev pub to_weights : Head → WeightFields → Weights
to_weights h w = record { k = w.k; terms = map (to_term h) w.terms; pairs = map to_pair w.pairs }

-- a certificate
unfoldable pub to_certificate : Head → CertificateFields → Certificate
to_certificate h (kind0 j) = by_place j
to_certificate h (kind1 w) = by_weights (to_weights h w)

-- weights hold for a step
abbrev pub weights_hold_in : Head → Step → WeightFields → Bool
weights_hold_in h s w = weights_hold h.events h.entries s (to_weights h w)

-- a certificate solves a step, and certificates solve the steps of a list, one by one
abbrev pub solves_in : Head → Step → CertificateFields → Bool
solves_in h s c = solves h.events h.entries (to_net h) s (to_certificate h c)

abbrev pub solves_all_in : Head → List Step → List CertificateFields → Bool
solves_all_in h ss cs = solves_all h.events h.entries (to_net h) ss (map (to_certificate h) cs)

-- the bundle of the definitions
unfoldable pub to_bundle : Contents → Bundle
to_bundle c = record {
  events = c.head.events;
  entries = c.head.entries;
  net = to_net c.head;
  certificates = map (to_certificate c.head) c.certificates;
}

-- ---- the bytes

-- the first byte: n, and 128 more in the new edition
unfoldable pub first_of : First → ℕ
first_of f = cond f.is_new new_edition 0 + f.events

-- the mark of a word in the new edition: 0 partial, 1 completed; in the old one there is none
unfoldable pub mark_bytes : Bool → Bool → List ℕ
mark_bytes is_new completed = cond is_new (cond completed 1 0 ∷ []) []

-- an entry: the length of its word, its mark, then the word's events
unfoldable pub entry_bytes : Bool → Entry → List ℕ
entry_bytes is_new x = length x.word ∷ (mark_bytes is_new x.completed ++ x.word)

-- a place: m, then in(i), then out(i), two bytes each
unfoldable pub place_bytes : PlaceFields → List ℕ
place_bytes p = le16 p.initial ++ (flat_map le16 p.produced ++ flat_map le16 p.consumed)

-- their count, then each place
unfoldable pub places_bytes : List PlaceFields → List ℕ
places_bytes ps = length ps ∷ flat_map place_bytes ps

-- a term: a row, an event, a weight
unfoldable pub term_bytes : TermFields → List ℕ
term_bytes t = le16 t.row ++ (t.event ∷ le16 t.weight)

-- a pair: a word's number, a weight
unfoldable pub pair_bytes : PairFields → List ℕ
pair_bytes q = q.word ∷ le16 q.weight

-- in the new edition the pair count, then each pair
unfoldable pub pairs_bytes : Bool → List PairFields → List ℕ
pairs_bytes is_new qs = cond is_new (length qs ∷ flat_map pair_bytes qs) []

-- weights: k, the term count, then each term, then the pairs
unfoldable pub weight_bytes : Bool → WeightFields → List ℕ
weight_bytes is_new w = le16 w.k ++ ((length w.terms ∷ flat_map term_bytes w.terms) ++ pairs_bytes is_new w.pairs)

-- a certificate: its kind, then a place's number, or weights
unfoldable pub certificate_bytes : Bool → CertificateFields → List ℕ
certificate_bytes is_new (kind0 j) = 0 ∷ j ∷ []
certificate_bytes is_new (kind1 w) = 1 ∷ weight_bytes is_new w

-- the first byte, then the words: their count, then each entry
unfoldable pub front_bytes : Head → List ℕ
front_bytes h = first_of (first_in h) ∷ length h.entries ∷ flat_map (entry_bytes h.is_new) h.entries

-- then the places
unfoldable pub head_bytes : Head → List ℕ
head_bytes h = front_bytes h ++ places_bytes h.places

-- then the certificates, and nothing more
unfoldable pub bytes_of : Contents → List ℕ
bytes_of c = head_bytes c.head ++ flat_map (certificate_bytes c.head.is_new) c.certificates

-- ---- the limits

-- a number of two bytes
abbrev pub TwoBytes : ℕ → Type 0
TwoBytes x = x < 65536

-- a word has at most 255 events, all below n; only the new edition has completed ones
pub record EntryInLimits (f : First) (x : Entry) : Type 0 where
  pub size : length x.word ≤ 255
  pub events : Below f.events x.word
  pub mark : x.completed ≡ true → f.is_new ≡ true

-- a place has n numbers in(i) and n numbers out(i), all of two bytes
pub record PlaceInLimits (n : ℕ) (p : PlaceFields) : Type 0 where
  pub initial : TwoBytes p.initial
  pub produced_size : length p.produced ≡ n
  pub produced : Every TwoBytes p.produced
  pub consumed_size : length p.consumed ≡ n
  pub consumed : Every TwoBytes p.consumed

-- 1 to 12 events, at most 255 words with 1,024 events in all, at most 64 places
pub record HeadInLimits (h : Head) : Type 0 where
  pub events : (1 ≤ h.events) × (h.events ≤ max_events)
  pub log_size : length h.entries ≤ 255
  pub entries : Every (EntryInLimits (first_in h)) h.entries
  pub log_events : event_count (words_in h) ≤ max_log_events
  pub places_size : length h.places ≤ max_places
  pub places : Every (PlaceInLimits h.events) h.places

-- a term's row and event are there
pub record TermInLimits (h : Head) (t : TermFields) : Type 0 where
  pub row : t.row < length (rows_in h)
  pub event : t.event < h.events
  pub weight : TwoBytes t.weight

-- a pair's word is there
pub record PairInLimits (h : Head) (q : PairFields) : Type 0 where
  pub word : q.word < length h.entries
  pub weight : TwoBytes q.weight

-- at most 64 pairs, and in the old edition none
pub record PairsInLimits (h : Head) (qs : List PairFields) : Type 0 where
  pub size : length qs ≤ max_pairs
  pub each : Every (PairInLimits h) qs
  pub edition : h.is_new ≡ false → qs ≡ []

-- k is at least 1, and there are at most 64 terms
pub record WeightsInLimits (h : Head) (w : WeightFields) : Type 0 where
  pub positive : 1 ≤ w.k
  pub factor : TwoBytes w.k
  pub terms_size : length w.terms ≤ max_terms
  pub terms : Every (TermInLimits h) w.terms
  pub pairs : PairsInLimits h w.pairs

-- kind 0: the place is there; kind 1: the weights are in their limits
abbrev pub CertificateInLimits : Head → CertificateFields → Type 0
CertificateInLimits h (kind0 j) = j < length h.places
CertificateInLimits h (kind1 w) = WeightsInLimits h w

-- and at most 256 rows and 64,512 bytes
pub record InLimits (c : Contents) : Type 0 where
  pub head : HeadInLimits c.head
  pub row_count : length (rows_in c.head) ≤ max_rows
  pub certificates : Every (CertificateInLimits c.head) c.certificates
  pub size : length (bytes_of c) ≤ max_bundle_size

-- ---- a bundle's beginning

-- the bundle begins with the head h, in its limits, and `rest` follows
pub record HeadInFront (b : List ℕ) (h : Head) (rest : List ℕ) : Type 0 where
  pub layout : b ≡ head_bytes h ++ rest
  pub limits : HeadInLimits h
