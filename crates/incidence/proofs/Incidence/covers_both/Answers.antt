-- `incidence::Incidence::covers_both` meets its contract.
use Rattle.std.proofs.Common.{◌≡◌, true, sym, ◌∙◌, arith, ℕ, get_or}
use Rattle.laws.specs.Lists.{each_next}
use Rattle.incidence.specs.Incidence.{places_in, enough_both}
use Rattle.incidence.specs.IncidenceLaws.{in-count, both-enough, both-short}
use Rattle.incidence.proofs.Incidence.covers_both.Goals as goal

pub returns-then-not-covers_both_at : goal.returns-then-not-covers_both_at
returns-then-not-covers_both_at c =
    let b = c.args.self.now in
    let first = get_or c.args.refusing.now c.args.event 0 in
    let short = sym c.covers_both_at.ensures ∙ c.if-not-covers_both_at.true in
    sym (both-short (places_in b) c.args.tokens.now c.args.event c.args.wanted first (omega (arith, c.if-first-self.true, in-count b)) short)

pub loop-j-init : goal.loop-j-init
loop-j-init c = λ i h. absurd (omega arith)

pub returns-then-not-covers_both_at-2 : goal.returns-then-not-covers_both_at-2
returns-then-not-covers_both_at-2 c =
    let b = c.args.self.now in
    let short = sym c.covers_both_at-in-loop-j.ensures ∙ c.if-not-covers_both_at-2.true in
    sym (both-short (places_in b) c.args.tokens.now c.args.event c.args.wanted c.loop-j.j (omega (arith, c.loop-j-test.true, in-count b)) short)

pub loop-j-preserved : goal.loop-j-preserved
loop-j-preserved c =
    each_next (λ (i : ℕ). enough_both (places_in c.args.self.now) c.args.tokens.now c.args.event c.args.wanted i ≡ true) c.loop-j.j
    c.loop-j.invariant (sym c.covers_both_at-in-loop-j.ensures ∙ c.if-not-covers_both_at-2.false)

pub returns : goal.returns
returns c =
    let b = c.args.self.now in
    sym (both-enough (places_in b) c.args.tokens.now c.args.event c.args.wanted
    (λ i h. c.loop-j.invariant i (omega (arith, h, c.loop-j-test.false, in-count b))))
