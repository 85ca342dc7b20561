-- One event on the places of a bundle that was read: what the code answers and leaves.
use Rattle.std.specs.Prelude.{◌≡◌, List, ℕ, ◌+◌, ◌-◌, ◌≤◌, ◌<◌, Option, Some, None, length, get_or}
use Rattle.std.proofs.Common.{sym, ap, ◌∙◌, arith, ⊎_elim}
use Rattle.std.proofs.lemmas.List.{length-map}
use Rattle.std.proofs.lemmas.Option.{none-some}
use Rattle.laws.specs.Numbers.{number_at}
use Rattle.laws.specs.Lists.{get_d_map, get_d_tabulate, length-tabulate}
use Rattle.laws.specs.Parts.{front}
use Rattle.limits.specs.Limits.{max_tokens}
use Rattle.nets.specs.Nets.{Net, Place, no_place}
use Rattle.nets.specs.Carrying.{Played, moved, lacking, play, initials, taken_from, put_into, AllEnough, LowestShort, tokens_behind}
use Rattle.nets.proofs.Plays.{play-enough, play-short, play_cases}
use Rattle.bundles.specs.Layout.{to_place}
use Rattle.bundles.specs.Keeping.{kept}
use Rattle.bundles.specs.NumberReading.{items_at, items-length, get_d_items}
use Rattle.bundles.specs.PlaceReading.{place_size, fields_at, place_there, spot_of}
use Rattle.bundles.specs.declared.net.Net as bundle
use Rattle.stops.specs.Searching.{net_at, net-length}
use Rattle.engine.specs.declared.playing.Lack.{Lack}

-- the places of a bundle, as the theory has them
abbrev pub places_of : bundle.Net → Net
places_of net = net_at net.n net.bundle.now net.first net.count

module _ (net : bundle.Net) where
  pub places-count : length (places_of net) ≡ net.count
  places-count = net-length net.n net.bundle.now net.first net.count

  -- place j of them
  pub place-there : (j : ℕ) → j < net.count → get_or (places_of net) j no_place ≡ place_there (kept net) j
  place-there j h =
      let items = items_at (place_size net.n) (fields_at net.n) net.count net.bundle.now net.first in
      let inside : j < length items = omega (arith, items-length (place_size net.n) (fields_at net.n) net.count net.bundle.now net.first) in
      let none = fields_at net.n net.bundle.now net.first in
      get_d_map to_place items j none no_place inside
      ∙ ap to_place (get_d_items (place_size net.n) (fields_at net.n) net.count net.bundle.now net.first j none h)

-- the numbers that are lent can be played on: one for each place, which a run can reach, and the event is there
pub record Ready (net : bundle.Net) (ts : List ℕ) (event : ℕ) : Type 0 where
  pub room : net.count ≤ length ts
  pub reachable : (j : ℕ) → j < net.count → get_or ts j 0 ≤ max_tokens
  pub below : event < net.n

-- the code's answer: none where the tokens are moved
unfoldable pub lack_in : Played → Option Lack
lack_in (moved us) = None
lack_in (lacking j k) = Some (record { place = j; shortfall = k })

-- the numbers afterwards
unfoldable pub left_by : Played → List ℕ → List ℕ
left_by (moved us) ts = front us ts
left_by (lacking j k) ts = ts

-- ---- one event

module _ (net : bundle.Net) (ts : List ℕ) (event : ℕ) where
  abbrev places : Net
  places = places_of net

  -- what the code reads of place j
  pub taken-there : (j : ℕ) → j < net.count → (place_there (kept net) j).consumed event ≡ taken_from places ts event j
  taken-there j h = ap (λ (p : Place). p.consumed event) (sym (place-there net j h))

  pub put-there : (j : ℕ) → j < net.count → (place_there (kept net) j).produced event ≡ put_into places ts event j
  put-there j h = ap (λ (p : Place). p.produced event) (sym (place-there net j h))

  -- place j is the lowest that has too few tokens
  pub plays-short : (j k : ℕ) → LowestShort places ts event j → k ≡ taken_from places ts event j - get_or ts j 0
      → Some (record { place = j; shortfall = k }) ≡ lack_in (play places ts event)
  unfolding lack_in
  plays-short j k short is = rw (play-short places ts event j short, is)

  -- every place has enough
  pub plays-all : AllEnough places ts event → None ≡ lack_in (play places ts event)
  unfolding lack_in
  plays-all enough = rw (play-enough places ts event enough)

  -- what none says, and what some says
  pub none-played : None ≡ lack_in (play places ts event)
      → AllEnough places ts event × (left_by (play places ts event) ts ≡ front (tokens_behind places ts event) ts)
  unfolding lack_in left_by
  none-played e = ⊎_elim
      (λ enough. (enough, rw (play-enough places ts event enough)))
      (λ (j, short). absurd (none-some _ (rw (play-short places ts event j short) at e)))
      (play_cases places ts event)

  pub some-played : {l : Lack} → Some l ≡ lack_in (play places ts event) → left_by (play places ts event) ts ≡ ts
  unfolding lack_in left_by
  some-played e = ⊎_elim
      (λ enough. absurd (none-some _ (sym (rw (play-enough places ts event enough) at e))))
      (λ (j, short). rw (play-short places ts event j short))
      (play_cases places ts event)

  pub behind-there : (j : ℕ) → j < net.count
      → get_or (tokens_behind places ts event) j 0 ≡ get_or ts j 0 - taken_from places ts event j + put_into places ts event j
  unfolding tokens_behind
  behind-there j h = get_d_tabulate (length places) _ j 0 (omega (arith, places-count net))

  pub behind-count : length (tokens_behind places ts event) ≡ net.count
  unfolding tokens_behind
  behind-count = length-tabulate (length places) _ ∙ places-count net

-- the initial tokens, by number
module _ (net : bundle.Net) where
  pub initial-there : (j : ℕ) → j < net.count → get_or (initials (places_of net)) j 0 ≡ number_at net.bundle.now (spot_of (kept net) j)
  unfolding to_place
  initial-there j h =
      let inside : j < length (places_of net) = omega (arith, places-count net) in
      get_d_map (λ (p : Place). p.initial) (places_of net) j no_place 0 inside ∙ ap (λ (p : Place). p.initial) (place-there net j h)

  pub initials-count : length (initials (places_of net)) ≡ net.count
  initials-count = length-map (places_of net) (λ (p : Place). p.initial) ∙ places-count net
