-- `incidence::Incidence::first_short` meets its contract.
use Rattle.std.proofs.Common.{◌≡◌, sym, ◌∙◌, arith, ◌≤◌, ℕ, get_or, leb-true, leb-false}
use Rattle.laws.specs.Lists.{each_next}
use Rattle.nets.specs.Carrying.{taken_from, has_enough}
use Rattle.nets.proofs.Plays.{lowest-is, enough-all}
use Rattle.incidence.specs.Incidence.{places_in}
use Rattle.incidence.specs.IncidenceLaws.{in-count, tested}
use Rattle.incidence.proofs.Incidence.first_short.Goals as goal
use Rattle.incidence.proofs.Incidence.first_short.Goals.{After-covers}

is_tested : (c : After-covers) → c.covers.result ≡ has_enough (places_in c.args.self.now) c.args.tokens.now c.args.event c.loop-j.j
is_tested c =
    let inside = c.loop-j-test.true in
    c.covers.ensures ∙ tested c.args.self.now c.args.tokens.now c.args.event c.loop-j.j inside (omega (arith, c.requires.0 c.loop-j.j inside))

pub loop-j-preserved : goal.loop-j-preserved
loop-j-preserved c =
    let at = goal.at.loop-j-preserved c in
    let enough = leb-true _ _ (sym (is_tested at.After-covers) ∙ c.if-not-covers.false) in
    each_next (λ (i : ℕ). taken_from (places_in c.args.self.now) c.args.tokens.now c.args.event i ≤ get_or c.args.tokens.now i 0) c.loop-j.j
    c.loop-j.invariant enough

pub returns-then-not-covers : goal.returns-then-not-covers
returns-then-not-covers c =
    let at = goal.at.returns-then-not-covers c in
    let short = leb-false _ _ (sym (is_tested at.After-covers) ∙ c.if-not-covers.true) in
    sym (lowest-is (places_in c.args.self.now) c.args.tokens.now c.args.event c.loop-j.j
    (omega (arith, c.loop-j-test.true, in-count c.args.self.now), short, c.loop-j.invariant))

pub returns : goal.returns
returns c =
    let b = c.args.self.now in
    sym (enough-all (places_in b) c.args.tokens.now c.args.event (λ i h. c.loop-j.invariant i (omega (arith, h, in-count b))) ∙ in-count b)
