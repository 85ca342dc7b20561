-- The numbers of a net by event and place, and the search on them.
use Rattle.std.specs.Prelude.{◌≡◌, Bool, true, false, List, [], ◌∷◌, Option, Some, None, ℕ, ◌+◌, ◌-◌, ◌*◌, ◌≤◌, ◌<◌, leb, length, get_or}
use Rattle.std.proofs.Math.Bool.{◌&&◌}
use Rattle.laws.specs.Lists.{tabulate}
use Rattle.laws.specs.Parts.{front}
use Rattle.limits.specs.Limits.{max_tokens}
use Rattle.nets.specs.Nets.{Word, Net}
use Rattle.nets.specs.Carrying.{taken_from, put_into, has_enough, tokens_behind, Played, moved, lacking, play}
use Rattle.laws.specs.Firsts.{first_of}
use Rattle.nets.specs.Reaching.{leading}
use Rattle.bundles.specs.declared.net.Net as bundle
use Rattle.bundles.specs.Keeping.{kept}
use Rattle.bundles.specs.PlaceReading.{place_there}
use Rattle.columns.specs.Matrix.{column, SamePlace}
use Rattle.incidence.specs.declared.Incidence.{Incidence}

-- its places
abbrev pub places_in : Incidence → Net
places_in b = tabulate b.count (λ j. column b.matrix j)

-- they are those of a net that was read
pub record SamePlaces (net : bundle.Net) (b : Incidence) : Type 0 where
  pub count : b.count ≡ net.count
  pub events : b.n ≡ net.n
  pub places : (j : ℕ) → j < net.count → SamePlace (column b.matrix j) (place_there (kept net) j)

-- so few tokens that so many events more can be played without passing what a run reaches
abbrev pub Playable : Incidence → List ℕ → ℕ → Type 0
Playable b ts more = (j : ℕ) → j < b.count → get_or ts j 0 + more * 65535 ≤ max_tokens

-- each place has enough
unfoldable pub moves : Played → Bool
moves (moved us) = true
moves (lacking j k) = false

-- and then enough for a second event
unfoldable pub and_then : Net → ℕ → Played → Bool
and_then net wanted (moved us) = moves (play net us wanted)
and_then net wanted (lacking j k) = false

abbrev pub moves_both : Net → List ℕ → ℕ → ℕ → Bool
moves_both net ts event wanted = and_then net wanted (play net ts event)

-- place j has enough for an event, and then for a second one
abbrev pub enough_both : Net → List ℕ → ℕ → ℕ → ℕ → Bool
enough_both net ts event wanted j =
    has_enough net ts event j && leb (taken_from net ts wanted j) (get_or ts j 0 - taken_from net ts event j + put_into net ts event j)

-- an event is played: where every place has enough, the tokens behind it are written
pub record EventPlayed (b : Incidence) (ts : List ℕ) (event : ℕ) (old new : List ℕ) (done : Bool) : Type 0 where
  pub is : done ≡ moves (play (places_in b) ts event)
  pub behind : done ≡ true → new ≡ front (tokens_behind (places_in b) ts event) old
  pub most : done ≡ true → (j : ℕ) → j < b.count → get_or new j 0 ≤ get_or ts j 0 + 65535

-- the first word of so many events
abbrev pub first_behind : Incidence → List ℕ → ℕ → ℕ → Option Word
first_behind b ts wanted d = first_of (leading b.n (places_in b) wanted d ts)

-- the first single event
abbrev pub FoundLast : Incidence → List ℕ → ℕ → Option ℕ → Type 0
FoundLast b ts wanted None = first_behind b ts wanted 1 ≡ None
FoundLast b ts wanted (Some e) = (first_behind b ts wanted 1 ≡ Some (e ∷ [])) × (e < b.n)

-- the word is written where there is one
pub record Searched (b : Incidence) (ts : List ℕ) (wanted : ℕ) (old new : List ℕ) (found : Bool) : Type 0 where
  pub size : length new ≡ length old
  pub some : found ≡ true → first_behind b ts wanted (length old) ≡ Some new
  pub none : found ≡ false → first_behind b ts wanted (length old) ≡ None
