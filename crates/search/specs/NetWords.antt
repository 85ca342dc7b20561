-- The words by the numbers that were read are those of the net.
use Rattle.std.specs.Prelude.{◌≡◌, ℕ, ◌<◌, List, length, get_or, take}
use Rattle.std.proofs.Common.{sym, ap, ◌∙◌, subst, arith}
use Rattle.std.proofs.Math.Seq.{take_all}
use Rattle.laws.specs.Lists.{get_d_tabulate}
use Rattle.laws.specs.Parts.{front, take-front}
use Rattle.nets.specs.Nets.{Place, no_place}
use Rattle.nets.specs.Carrying.{initials}
use Rattle.nets.specs.Reaching.{leading}
use Rattle.nets.proofs.Reaching.{SameNumbers, leading-same, leading-front}
use Rattle.bundles.specs.declared.net.Net as bundle
use Rattle.engine.specs.Playing.{places_of, places-count, place-there, initials-count}
use Rattle.columns.specs.Matrix.{column}
use Rattle.incidence.specs.declared.Incidence.{Incidence}
use Rattle.incidence.specs.Incidence.{places_in, SamePlaces}
use Rattle.incidence.specs.IncidenceLaws.{in-count}

-- the initial tokens in front of others
pub on-initials : (net : bundle.Net) (n wanted d : ℕ) (ts old : List ℕ) → ts ≡ front (initials (places_of net)) old
    → leading n (places_of net) wanted d ts ≡ leading n (places_of net) wanted d (initials (places_of net))
on-initials net n wanted d ts old is =
    leading-front n (places_of net) wanted d ts us (subst (λ (k : ℕ). take k ts ≡ take k us) size fronts)
  where
    us : List ℕ
    us = initials (places_of net)

    size : length us ≡ length (places_of net)
    size = initials-count net ∙ sym (places-count net)

    fronts : take (length us) ts ≡ take (length us) us
    fronts = ap (take (length us)) is ∙ take-front us old ∙ sym (take_all (length us) us (omega arith))

module _ (net : bundle.Net) (b : Incidence) (same : SamePlaces net b) where
  in-net : (j : ℕ) → j < b.count → get_or (places_in b) j no_place ≡ column b.matrix j
  in-net j h = get_d_tabulate b.count (λ j. column b.matrix j) j no_place h

  same-numbers : SameNumbers net.n (places_in b) (places_of net)
  same-numbers = record {
    size = in-count b ∙ same.count ∙ sym (places-count net);
    produced = λ j e h low.
        let there : j < b.count = omega (arith, h, in-count b) in
        let inside : j < net.count = omega (arith, there, same.count) in
        ap (λ (p : Place). p.produced e) (in-net j there) ∙ (same.places j inside).produced e (omega (arith, low, net.limit))
        ∙ ap (λ (p : Place). p.produced e) (sym (place-there net j inside));
    consumed = λ j e h low.
        let there : j < b.count = omega (arith, h, in-count b) in
        let inside : j < net.count = omega (arith, there, same.count) in
        ap (λ (p : Place). p.consumed e) (in-net j there) ∙ (same.places j inside).consumed e (omega (arith, low, net.limit))
        ∙ ap (λ (p : Place). p.consumed e) (sym (place-there net j inside));
  }

  pub on-incidence : (wanted d : ℕ) → wanted < net.n → (ts old : List ℕ) → ts ≡ front (initials (places_of net)) old
      → leading b.n (places_in b) wanted d ts ≡ leading net.n (places_of net) wanted d (initials (places_of net))
  on-incidence wanted d h ts old is =
      ap (λ (n : ℕ). leading n (places_in b) wanted d ts) same.events
      ∙ leading-same net.n (places_in b) (places_of net) same-numbers wanted h d ts
      ∙ on-initials net net.n wanted d ts old is
