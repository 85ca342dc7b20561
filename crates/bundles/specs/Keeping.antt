-- The code's structs for what it reads of a head: what the first byte says, a word with its mark, the places; and what they stand for.
use Rattle.std.specs.Prelude.{◌≡◌, List, ℕ, ◌≤◌, ◌<◌, length, Ok, Err}
use Rattle.std.proofs.Props.{props}
use Rattle.std.proofs.Common.{ap}
use Rattle.refusals.specs.Answers.{Answer}
use Rattle.bundles.specs.Reading as reading
use Rattle.bundles.specs.Chains.{ReadAs, read_as, answer_in}
use Rattle.places.specs.Machine.{place_at}
use Rattle.places.specs.declared.Place.{Place}
use Rattle.bundles.specs.PlaceReading.{Kept, spot_of, end_of, fields_at, machine_place}
use Rattle.bundles.specs.declared.Reader.{Reader}
use Rattle.bundles.specs.declared.net.Net.{Net}
use Rattle.bundles.specs.declared.First.{First}
use Rattle.bundles.specs.declared.words.Entry.{Entry}
use Rattle.bundles.specs.Layout as layout
use Rattle.nets.specs.Nets as nets

-- what the first byte says
abbrev pub said : First → layout.First
said f = record { is_new = f.is_new; events = f.n }

-- a word with its mark
abbrev pub marked : Entry → nets.Entry
marked x = record { word = x.word.now; completed = x.completed }

-- the places of a net
abbrev pub kept : Net → Kept
kept net = record { bundle = net.bundle; n = net.n; count = net.count; first = net.first }

-- the offset of place j
abbrev pub place_spot : Net → ℕ → ℕ
place_spot net j = spot_of (kept net) j

-- the offset behind the last place
abbrev pub behind : Net → ℕ
behind net = end_of (kept net)

-- the code's place j
abbrev pub code_place : Net → ℕ → Place
code_place net j = machine_place (fields_at net.n net.bundle.now (place_spot net j))

-- the places below k, by number
abbrev pub PlacesBelow : Net → ℕ → List Place → Type 0
PlacesBelow net k places = (j : ℕ) → j < k → place_at places j ≡ code_place net j

-- all places, by number, and any behind them
pub record PlacesOf (net : Net) (places : List Place) : Type 0 where
  pub room : net.count ≤ length places
  pub each : PlacesBelow net net.count places

-- it has one proof at most
pub PlacesOf-prop : (net : Net) (places : List Place) → IsProp (PlacesOf net places)
PlacesOf-prop net places = hlevel props

-- an answer, by the fields
abbrev pub kept_answer : Answer Net → Answer Kept
kept_answer (Ok net) = Ok (kept net)
kept_answer (Err r) = Err r

-- the answer of a read alone
pub read_kept_answer : {old new : Reader} {result : Answer Net} {reader : reading.Reader Kept} → ReadAs kept old new result reader
    → kept_answer result ≡ answer_in (reader old.bytes.now old.at)
unfolding read_as answer_in
read_kept_answer {old} {new} {result} {reader} r = go result r.read
  where
    go : (k : Answer Net) → read_as kept k new.at ≡ reader old.bytes.now old.at → kept_answer k ≡ answer_in (reader old.bytes.now old.at)
    go (Ok x) e = ap answer_in e
    go (Err f) e = ap answer_in e
