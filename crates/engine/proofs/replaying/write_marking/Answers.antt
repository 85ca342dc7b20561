-- `engine::replaying::write_marking` meets its contract.
use Rattle.std.proofs.Common.{◌≡◌, sym, ap, ap₂, ◌∙◌, subst, arith, ℕ, ℤ, List, ◌++◌, drop, take, ◌<◌, T, w64, length, get_or, ext_get_or, length-take-le}
use Rattle.std.specs.Int.Signed.{non_neg}
use lib.Signed.{nat_abs-le}
use mir.Facts.{to_z-of_z}
use mir.Val.{to_z, of_z}
use Rattle.laws.specs.Differences.{positive_part}
use Rattle.laws.specs.Lists.{each_set}
use Rattle.laws.specs.Parts.{front}
use Rattle.nets.specs.Nets.{Place, no_place, tokens}
use Rattle.places.specs.Machine.{place_of}
use Rattle.bundles.specs.PlaceReading.{place_means}
use Rattle.engine.specs.Playing.{places_of, place-there}
use Rattle.laws.specs.Differences.{natural-part}
use Rattle.engine.specs.Replaying.{tokens_by, marking-count, marking-there}
use Rattle.engine.proofs.replaying.write_marking.Goals as goal
use Rattle.engine.proofs.replaying.write_marking.Goals.{Start, After-tokens}

-- the slice that is written has a number for each place
count : (c : Start) → length (take c.args.net.now.count c.args.tokens.now) ≡ c.args.net.now.count
count c = length-take-le c.args.net.now.count c.args.tokens.now c.requires.room

inside : (c : After-tokens) → c.loop-j.j < c.args.net.now.count
inside c = omega (arith, c.loop-j-test.true, count (goal.at.After-tokens c).Start)

-- the tokens of place j
counted : (c : After-tokens) → to_z w64 (of_z w64 c.tokens.result)
    ≡ tokens c.args.net.now.n (get_or (places_of c.args.net.now) c.loop-j.j no_place) c.args.counts.now
counted c =
    let v = c.args.counts.now in
    let place = ap place_of c.place.ensures ∙ place_means _ ∙ sym (place-there c.args.net.now c.loop-j.j (inside c)) in
    to_z-of_z {w = w64} (record { sfits = c.tokens.type_inv }) ∙ c.tokens.ensures.value
    ∙ ap₂ (λ (n : ℕ) (p : Place). tokens n p v) c.requires.all place

none : (c : After-tokens) → T (non_neg (to_z w64 (of_z w64 c.tokens.result)))
none c = subst (λ (z : ℤ). T (non_neg z)) (sym (counted c)) (c.requires.none c.loop-j.j (inside c))

pub overflow_cast-held : goal.overflow_cast-held
overflow_cast-held c =
    let at = (goal.at.overflow_cast-held c).After-tokens in
    let is = to_z-of_z {w = w64} {z = c.tokens.result} (record { sfits = c.tokens.type_inv }) in
    (none at, rw is (omega (arith, nat_abs-le c.tokens.result c.tokens.type_inv)))

pub loop-j-init : goal.loop-j-init
loop-j-init c = λ i h. absurd (omega arith)

pub loop-j-preserved : goal.loop-j-preserved
loop-j-preserved c =
    let at = (goal.at.loop-j-preserved c).After-tokens in
    let net = c.args.net.now in
    let v = c.args.counts.now in
    each_set 0 (λ i x. x ≡ get_or (tokens_by net v) i 0) c.loop-j.held-items c.loop-j.j _ (omega arith) c.loop-j.invariant
    (natural-part _ (none at) ∙ ap positive_part (counted at) ∙ sym (marking-there net v c.loop-j.j (inside at)))

pub returns : goal.returns
unfolding front
returns c =
    let at = goal.at.returns c in
    let net = c.args.net.now in
    let us = tokens_by net c.args.counts.now in
    let size : length c.loop-j.held-items ≡ net.count = c.loop-j.auto.held-items ∙ count at.Start in
    let all = marking-count net c.args.counts.now in
    let written = ext_get_or 0 c.loop-j.held-items us (size ∙ sym all) (λ i h. c.loop-j.invariant i (omega (arith, h, size, count at.Start))) in
    ap₂ (λ (l : List ℕ) (k : ℕ). l ++ drop k c.args.tokens.now) written (sym all)
