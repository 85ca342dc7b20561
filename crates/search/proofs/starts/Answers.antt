-- `search::starts` meets its contract.
use Rattle.std.proofs.Common.{◌≡◌, sym, ap, ap₂, ◌∙◌, arith, ◌≤◌, ◌<◌, ℕ, ℤ, pos, ◌-ℤ◌, w64, length, get_or, leb, leb-true, leb-false}
use mir.Facts.{to_z-of_z}
use Rattle.std.specs.Int.Signed.{non_neg}
use Rattle.laws.specs.Differences.{covers-exactly}
use Rattle.laws.specs.Lists.{each_next}
use Rattle.nets.specs.Carrying.{initials, taken_from, has_enough}
use Rattle.engine.specs.Playing.{places_of, places-count, taken-there, initial-there}
use Rattle.incidence.specs.IncidenceLaws.{moves-enough, moves-short}
use Rattle.search.proofs.starts.Goals as goal
use Rattle.search.proofs.starts.Goals.{After-covers}

-- what is tested is whether the place has enough
is_tested : (c : After-covers)
    → c.covers.result ≡ has_enough (places_of c.args.net.now) (initials (places_of c.args.net.now)) c.args.wanted c.loop-j.j
is_tested c =
    let net = c.args.net.now in
    let held = to_z-of_z {w = w64} (record { sfits = c.from.type_inv }) ∙ c.from.ensures in
    c.covers.ensures ∙ ap (λ (z : ℤ). non_neg (z -ℤ pos c.consumed.result)) held ∙ sym (covers-exactly c.initial.result c.consumed.result)
    ∙ ap₂ leb (c.consumed.ensures ∙ taken-there net (initials (places_of net)) c.args.wanted c.loop-j.j c.loop-j-test.true)
    (c.initial.ensures ∙ sym (initial-there net c.loop-j.j c.loop-j-test.true))

pub loop-j-preserved : goal.loop-j-preserved
loop-j-preserved c =
    let at = (goal.at.loop-j-preserved c).After-covers in
    let net = places_of c.args.net.now in
    each_next (λ (i : ℕ). taken_from net (initials net) c.args.wanted i ≤ get_or (initials net) i 0) c.loop-j.j c.loop-j.invariant
    (leb-true _ _ (sym (is_tested at) ∙ c.if-not-covers.false))

pub returns-then-not-covers : goal.returns-then-not-covers
returns-then-not-covers c =
    let at = (goal.at.returns-then-not-covers c).After-covers in
    let net = places_of c.args.net.now in
    let there : c.loop-j.j < length net = omega (arith, c.loop-j-test.true, places-count c.args.net.now) in
    sym (moves-short net (initials net) c.args.wanted c.loop-j.j there (leb-false _ _ (sym (is_tested at) ∙ c.if-not-covers.true)))

pub returns : goal.returns
returns c =
    let net = places_of c.args.net.now in
    let end = places-count c.args.net.now in
    sym (moves-enough net (initials net) c.args.wanted (λ i h. c.loop-j.invariant i (omega (arith, h, c.loop-j-test.false, end))))
