-- `incidence::Incidence::last` meets its contract.
use Rattle.std.proofs.Common.{◌≡◌, sym, ◌∙◌, arith, ℕ}
use Rattle.std.specs.Prelude.{None}
use Rattle.laws.specs.Lists.{each_next}
use Rattle.laws.specs.Firsts.{first_of}
use Rattle.incidence.specs.Incidence.{places_in}
use Rattle.incidence.specs.IncidenceLaws.{beginning, single-first, single-none, leading-first, leading-none}
use Rattle.incidence.proofs.Incidence.last.Goals as goal

pub loop-event-preserved : goal.loop-event-preserved
loop-event-preserved c =
    let b = c.args.self.now in
    let ts = c.args.tokens.now in
    each_next (λ (i : ℕ). first_of (beginning b.n (places_in b) ts c.args.wanted 0 i) ≡ None) c.loop-event.event c.loop-event.invariant
    (single-none b.n (places_in b) ts c.args.wanted c.loop-event.event (sym c.covers_both.ensures ∙ c.if-covers_both.false))

pub returns-then-covers_both : goal.returns-then-covers_both
returns-then-covers_both c =
    let b = c.args.self.now in
    let ts = c.args.tokens.now in
    let e = c.loop-event.event in
    let one = single-first b.n (places_in b) ts c.args.wanted e (sym c.covers_both.ensures ∙ c.if-covers_both.true) in
    (leading-first b.n (places_in b) ts c.args.wanted 0 e c.loop-event-test.true c.loop-event.invariant _ one, c.loop-event-test.true)

pub returns : goal.returns
returns c =
    let b = c.args.self.now in
    leading-none b.n (places_in b) c.args.tokens.now c.args.wanted 0 (λ i h. c.loop-event.invariant i (omega (arith, h)))
