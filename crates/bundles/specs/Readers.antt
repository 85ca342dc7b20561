-- The readers of a bundle's fields, in the order of the layout: what each field is, and which refusal it gets.
use Rattle.std.specs.Prelude.{Bool, true, false, ◌&&◌, List, [], ◌∷◌, ◌++◌, ℕ, zero, suc, ◌+◌, ◌%◌, leb, ltb, eqb, length}
use Rattle.limits.specs.Limits.{max_events, max_log_events, max_rows, max_places, max_terms, max_pairs, new_edition, right_size}
use Rattle.refusals.specs.Table.{bundle_length_number, events_number, rows_number}
use Rattle.refusals.specs.Results.{Result, value, refused, bind}
use Rattle.nets.specs.Nets.{Log, Entry, words, Net, event_count, rows}
use Rattle.bundles.specs.Reading.{Read, item, item_in, Reader, ◌>>=◌, ◌>>◌, give, offset, require, byte, number, following, times}
use Rattle.bundles.specs.Layout.{PlaceFields, TermFields, PairFields, CertificateFields, kind0, kind1, First, Head, to_net, words_in, rows_in}

-- any value
abbrev pub anything : ℕ → Bool
anything x = true

-- the mark of a word: one byte in the new edition, 0 partial or 1 completed; none in the old one, where every word is partial
unfoldable pub mark : Bool → Reader ℕ
mark false = give 0
mark true = byte (λ m. leb m 1)

-- what follows the length byte: the mark, then the events one by one
abbrev pub marked_after : First → ℕ → Reader Entry
marked_after f size = do
  m ← mark f.is_new
  w ← times size (byte (λ e. ltb e f.events))
  give (record { word = w; completed = eqb m 1 })

-- an entry, behind so many events: its word's length byte; 8; its mark and its events
unfoldable pub entry_after : First → ℕ → Reader Entry
entry_after f count = do
  start ← offset
  size ← byte anything
  require (leb (count + size) max_log_events) events_number start
  marked_after f size

-- an entry, behind those before, and 9 where its rows do not fit
unfoldable pub entry : (Log → Bool) → First → List Entry → Reader Entry
entry rows_fit f before = do
  start ← offset
  x ← entry_after f (event_count (words before))
  require (rows_fit (words (before ++ x ∷ []))) rows_number start
  give x

-- a place: m, then n numbers in(i), then n numbers out(i)
unfoldable pub place : ℕ → Reader PlaceFields
place n = do
  m ← number anything
  ins ← times n (number anything)
  outs ← times n (number anything)
  give (record { initial = m; produced = ins; consumed = outs })

-- the place count, and the places
unfoldable pub places : ℕ → Reader (List PlaceFields)
places n = do
  count ← byte (λ k. leb k max_places)
  times count (place n)

-- a head behind its first byte: its words, with a test of the rows of each log so far, and its places
unfoldable pub head_after : (ℕ → Log → Bool) → First → Reader Head
head_after rows_fit f = do
  count ← byte anything
  entries ← following count (entry (rows_fit f.events) f)
  ps ← places f.events
  give (record { is_new = f.is_new; events = f.events; entries = entries; places = ps })

-- the first byte: n, the event count, 1 to 12; in the new edition 128 more
abbrev pub first_byte : Reader ℕ
first_byte = byte (λ x. leb 1 (x % new_edition) && leb (x % new_edition) max_events)

-- what it says
unfoldable pub to_first : ℕ → First
to_first x = record { is_new = leb new_edition x; events = x % new_edition }

unfoldable pub first : Reader First
first = do
  x ← first_byte
  give (to_first x)

-- a bundle up to its last place
unfoldable pub head : (ℕ → Log → Bool) → Reader Head
head rows_fit = do
  f ← first
  head_after rows_fit f

-- a term: a row, an event, a weight
unfoldable pub term : ℕ → ℕ → Reader TermFields
term n row_count = do
  row ← number (λ r. ltb r row_count)
  event ← byte (λ e. ltb e n)
  weight ← number anything
  give (record { row = row; event = event; weight = weight })

-- a pair: a word's number, a weight
unfoldable pub pair : ℕ → Reader PairFields
pair word_count = do
  word ← byte (λ w. ltb w word_count)
  weight ← number anything
  give (record { word = word; weight = weight })

-- in the new edition the pair count and the pairs; in the old one there are none
unfoldable pub pairs : Bool → ℕ → Reader (List PairFields)
pairs false word_count = give []
pairs true word_count = do
  count ← byte (λ c. leb c max_pairs)
  times count (pair word_count)

-- k, the term count and the terms, then the pairs
unfoldable pub weights : Head → Reader CertificateFields
weights h = do
  k ← number (leb 1)
  count ← byte (λ c. leb c max_terms)
  ts ← times count (term h.events (length (rows_in h)))
  qs ← pairs h.is_new (length h.entries)
  give (kind1 (record { k = k; terms = ts; pairs = qs }))

-- what follows the kind: a place number, or weights
unfoldable pub of_kind : Head → ℕ → Reader CertificateFields
of_kind h zero = do
  j ← byte (λ j. ltb j (length h.places))
  give (kind0 j)
of_kind h (suc _) = weights h

-- a certificate: its kind, then what follows it
unfoldable pub certificate : Head → Reader CertificateFields
certificate h = do
  kind ← byte (λ kind. leb kind 1)
  of_kind h kind

-- ---- A bundle's head

-- judging tests that the rows do not pass 256
abbrev pub rows_in_limit : ℕ → Log → Bool
rows_in_limit n log = leb (length (rows n log)) max_rows

-- screening does not count rows
abbrev pub any_rows : ℕ → Log → Bool
any_rows n log = true

-- a bundle of 1 to 64,512 bytes, or 4
unfoldable pub bundle_size : Reader (Unit {0})
bundle_size b at = require (right_size (length b)) bundle_length_number 0 b at

-- 4, then the head: what a call reads of a bundle that it does not judge
unfoldable pub bundle_head : Reader Head
bundle_head = do
  bundle_size
  head any_rows

-- the head of a bundle, or the refusal that it gets
unfoldable pub read_head : List ℕ → Result Head
read_head b = bind (bundle_head b 0) (λ i. value (item_in i))

-- the head that was read, or one without an event, a word and a place
unfoldable pub head_in : Read Head → Head
head_in (value (item h next)) = h
head_in (refused number spot) = record { is_new = false; events = 0; entries = []; places = [] }

-- the head of a bundle, as screening reads it
unfoldable pub head_of : List ℕ → Head
head_of b = head_in (head any_rows b 0)

-- a bundle's event count, log and net
abbrev pub events_in : List ℕ → ℕ
events_in b = (head_of b).events

abbrev pub log_in : List ℕ → Log
log_in b = words_in (head_of b)

abbrev pub net_in : List ℕ → Net
net_in b = to_net (head_of b)
