-- `certificates::check_place` meets its contract: the place is tested with the counts of the row.
use Rattle.std.proofs.Common.{◌≡◌, ◌∙◌, ◌<◌, ℕ, Ok, not, sym, length-take-le, ap, rules, arith, ltb-true}
use Rattle.std.proofs.lemmas.Result.{err_from_is_err_and}
use Rattle.refusals.specs.Table.{place_permits_number}
use Rattle.nets.specs.Nets as theory
use Rattle.nets.specs.Nets.{place_permits}
use Rattle.nets.specs.Surplus.{permits-front}
use Rattle.bundles.specs.Reading.{require, byte}
use Rattle.bundles.specs.FieldReading.{below, byte-got}
use Rattle.bundles.specs.Chains.{ReadBy, read_got, then-refused}
use Rattle.bundles.specs.NextPlace.{place_same}
use Rattle.weights.specs.Steps.{counts_before}
use Rattle.certificates.specs.Certifying.{permits_for}
use Rattle.certificates.specs.CheckLaws.{tested_passed, tested-refused}
use Rattle.certificates.proofs.check_place.Goals as goal
use Rattle.certificates.proofs.check_place.Goals.{In_ok-j, After-permits}

-- the place's number
read : (c : In_ok-j) → ReadBy c.args.reader.now c.byte.new.self (Ok c.in_ok-j.j) (byte (below c.args.step.now.head.now.net.count))
read c = c.in_ok-j.ensures (below c.args.step.now.head.now.net.count) (λ x small b answer. search rules)

pub returns-in_err-j : goal.returns-in_err-j
returns-in_err-j c =
    let q = err_from_is_err_and c.from_residual.result c.from_residual.ensures.1 in
    let s = c.args.step.now in
    let place = c.in_err-j.ensures (below s.head.now.net.count) (λ x small b answer. search rules) in
    rw (q.1, q.2) (then-refused (λ (j : ℕ). require (not (permits_for s j)) place_permits_number c.args.number) place)

-- it is a place of the net
listed : (c : In_ok-j) → c.in_ok-j.j < c.args.step.now.head.now.net.count
listed c = ltb-true _ _ (byte-got (below c.args.step.now.head.now.net.count) _ _ _ _ (read_got (read c))).0

pub bounds-step-from : goal.bounds-step-from
bounds-step-from c =
    let head = c.args.step.now.head.now in
    omega (arith, c.from.ensures, listed (goal.at.bounds-step-from c).In_ok-j, head.read.room, head.net.few)

pub permits-requires : goal.permits-requires
permits-requires c =
    let s = c.args.step.now in
    let net = s.head.now.net in
    let size = length-take-le {A = ℕ} net.n c.counts.result.now (omega (arith, c.counts.ensures.1, net.limit)) in
    (omega (arith, c.from-2.ensures, size, net.limit), omega (arith, net.limit, c.from-3.ensures, s.event_there))

-- the test of the place
tested : (c : After-permits) → permits_for c.args.step.now c.in_ok-j.j ≡ c.permits.result
tested c =
    let s = c.args.step.now in
    let net = s.head.now.net in
    let j = c.in_ok-j.j in
    let here = listed (goal.at.After-permits c).In_ok-j in
    let v = counts_before s in
    let size = length-take-le {A = ℕ} net.n c.counts.result.now (omega (arith, c.counts.ensures.1, net.limit)) in
    let permits = rw (c.from.ensures, c.from-2.ensures, c.from-3.ensures, size, c.counts.ensures.0) at c.permits.ensures in
    ap (λ (p : theory.Place). place_permits net.n p (record { row = v; event = s.event }))
    (sym (place_same s.head.now.held.found j here (s.head.now.read.each j here)))
    ∙ permits-front net.n _ v s.event
    ∙ sym permits

pub returns-then-permits : goal.returns-then-permits
returns-then-permits c =
    let s = c.args.step.now in
    let here = goal.at.returns-then-permits c in
    rw c.at.ensures
    (tested-refused (λ (j : ℕ). not (permits_for s j)) place_permits_number c.args.number
    (read here.In_ok-j) (ap not (tested here.After-permits ∙ c.if-permits.true)))

pub returns : goal.returns
returns c =
    let s = c.args.step.now in
    let here = goal.at.returns c in
    tested_passed (λ (j : ℕ). not (permits_for s j)) place_permits_number c.args.number
    (read here.In_ok-j) (ap not (tested here.After-permits ∙ c.if-permits.false))
