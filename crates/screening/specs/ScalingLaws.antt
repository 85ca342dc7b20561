-- Bundles of which one place, or all, have their numbers multiplied: the calls permit the same words.
use Rattle.std.specs.Prelude.{◌≡◌, ◌↔◌, ℕ, ◌≤◌, None, Ok}
use Rattle.std.proofs.Math.Path.{sym, ap}
use Rattle.std.proofs.Common.{◌∙◌}
use mathlib.Core.List.{List, ◌∷◌, ◌++◌, map, map-append}
use Rattle.nets.specs.Nets.{Word, Net, permits}
use Rattle.nets.proofs.Scaling.{permits-scaled-place, permits-scaled}
use Rattle.bundles.specs.Layout.{PlaceFields, to_place, to_net}
use Rattle.bundles.specs.Readers.{head_of, events_in, net_in}
use Rattle.bundles.specs.HeadReading.{HeadIsRead}
use Rattle.bundles.specs.Scaling.{scaled_fields, one-scaled, all-scaled}
use Rattle.screening.specs.Screening.{screened}
use Rattle.screening.specs.Joins.{answer_on, screened-on, permitted-alike}

-- two bundles that are read, over the same events
pub record SameEvents (b b' : List ℕ) : Type 0 where
  pub read : HeadIsRead b
  pub read' : HeadIsRead b'
  pub events : events_in b ≡ events_in b'

-- b' has one place of b multiplied by k, and the others as they are
pub record ScaledPlace (k : ℕ) (b b' : List ℕ) : Type 0 where
  pub same : SameEvents b b'
  pub before : List PlaceFields
  pub place : PlaceFields
  pub behind : List PlaceFields
  pub places : (head_of b).places ≡ before ++ place ∷ behind
  pub places' : (head_of b').places ≡ before ++ scaled_fields k place ∷ behind

-- b' has each place of b multiplied by k
pub record ScaledPlaces (k : ℕ) (b b' : List ℕ) : Type 0 where
  pub same : SameEvents b b'
  pub places : (head_of b').places ≡ map (scaled_fields k) (head_of b).places

-- nets that permit a word alike, for the calls
alike : (b b' : List ℕ) → SameEvents b b' → (w : Word) → permits (events_in b) (net_in b) w ≡ permits (events_in b) (net_in b') w
    → (screened b w ≡ Ok None) ↔ (screened b' w ≡ Ok None)
alike b b' same w e =
    let on = screened-on b same.read w in
    let on' = screened-on b' same.read' w ∙ ap (λ (n : ℕ). answer_on w n (net_in b')) (sym same.events) in
    let law = permitted-alike w (events_in b) (net_in b) (net_in b') e in
    ((λ is. on' ∙ law.0 (sym on ∙ is)), (λ is. on ∙ law.1 (sym on' ∙ is)))

module _ (k : ℕ) (some : 1 ≤ k) (b b' : List ℕ) where
  pub screened-scaled-place : ScaledPlace k b b' → (w : Word) → (screened b w ≡ Ok None) ↔ (screened b' w ≡ Ok None)
  unfolding to_net
  screened-scaled-place s w =
      let net : net_in b ≡ map to_place s.before ++ to_place s.place ∷ map to_place s.behind = ap (map to_place) s.places ∙ map-append to_place s.before (s.place ∷ s.behind) in
      let net' = ap (map to_place) s.places' ∙ one-scaled k s.before s.place s.behind in
      alike b b' s.same w
      (ap (λ (l : Net). permits (events_in b) l w) net
      ∙ sym (permits-scaled-place (events_in b) k some (map to_place s.before) (to_place s.place) (map to_place s.behind) w)
      ∙ ap (λ (l : Net). permits (events_in b) l w) (sym net'))

  pub screened-scaled : ScaledPlaces k b b' → (w : Word) → (screened b w ≡ Ok None) ↔ (screened b' w ≡ Ok None)
  unfolding to_net
  screened-scaled s w =
      alike b b' s.same w
      (sym (permits-scaled (events_in b) k some (net_in b) w) ∙ ap (λ (l : Net). permits (events_in b) l w) (sym (ap (map to_place) s.places ∙ all-scaled k (head_of b).places)))
