-- A place's numbers as a bundle holds them, multiplied.
use Rattle.std.specs.Prelude.{◌≡◌, refl, List, [], ◌∷◌, ◌++◌, map, ℕ, zero, suc, ◌*◌, get_or}
use Rattle.std.proofs.Common.{sym, ap, ap₂, ◌∙◌, mul-zero}
use Rattle.std.proofs.lemmas.List.{map-append}
use Rattle.nets.specs.Nets.{Place, scaled}
use Rattle.bundles.specs.Layout.{PlaceFields, to_place}

-- each number of a place times k
abbrev pub scaled_fields : ℕ → PlaceFields → PlaceFields
scaled_fields k p = record { initial = k * p.initial; produced = map (λ x. k * x) p.produced; consumed = map (λ x. k * x) p.consumed }

at_scaled : (k : ℕ) (l : List ℕ) (i : ℕ) → get_or (map (λ x. k * x) l) i 0 ≡ k * get_or l i 0
at_scaled k [] i = sym (mul-zero k)
at_scaled k (x ∷ l) zero = refl
at_scaled k (x ∷ l) (suc i) = at_scaled k l i

module _ (k : ℕ) where
  -- is the theory's place, multiplied
  pub place-scaled : (p : PlaceFields) → to_place (scaled_fields k p) ≡ scaled k (to_place p)
  unfolding to_place
  place-scaled p = λ i. record { initial = k * p.initial; produced = λ x. at_scaled k p.produced x i; consumed = λ x. at_scaled k p.consumed x i }

  -- of one place of a list, and of all
  pub one-scaled : (before : List PlaceFields) (p : PlaceFields) (behind : List PlaceFields)
      → map to_place (before ++ scaled_fields k p ∷ behind) ≡ map to_place before ++ scaled k (to_place p) ∷ map to_place behind
  one-scaled before p behind = map-append to_place before (scaled_fields k p ∷ behind)
      ∙ ap (λ (q : Place). map to_place before ++ q ∷ map to_place behind) (place-scaled p)

  pub all-scaled : (ps : List PlaceFields) → map to_place (map (scaled_fields k) ps) ≡ map (scaled k) (map to_place ps)
  all-scaled [] = refl
  all-scaled (p ∷ ps) = ap₂ ◌∷◌ (place-scaled p) (all-scaled ps)
