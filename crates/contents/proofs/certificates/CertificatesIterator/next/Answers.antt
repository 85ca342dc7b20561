-- `contents::certificates::Certificates::next` meets its contract: what is cut off is the first piece.
use Rattle.std.proofs.Common.{◌≡◌, sym, ap, ◌∙◌, arith, ◌<◌, length, get_or, []}
use Rattle.std.proofs.Math.Seq.{get_or-take}
use Rattle.std.proofs.lemmas.List.{nil_from_length}
use Rattle.contents.specs.Cuts.{cut-none}
use Rattle.contents.specs.Certificates.{pieces, PlaceInFront, WeightsInFront, place-front, weights-front}
use Rattle.contents.proofs.certificates.CertificatesIterator.next.Goals as goal
use Rattle.contents.proofs.certificates.CertificatesIterator.next.Goals.{In_ok-first, Then-branch-from, Else-branch-from}

pub returns-in_err-first-clause-steps : goal.returns-in_err-first-clause-steps
returns-in_err-first-clause-steps c =
    let none : c.args.self.now.rest.now ≡ [] = nil_from_length _ (omega (arith, c.in_err-first.ensures.item.3)) in
    let left = ap (pieces c.args.self.now.is_new) none ∙ cut-none _ _ in
    rw c.from_residual.ensures (left, left)

-- there is a first byte
some : (c : In_ok-first) → 0 < length c.args.self.now.rest.now
some c = c.in_ok-first.ensures.item.3.0

byte : (c : In_ok-first) → get_or c.args.self.now.rest.now 0 0 ≡ c.in_ok-first.field-0.now
byte c = sym (c.in_ok-first.ensures.item.3.1 0)

-- which says what stands in front
place : (c : Then-branch-from) → PlaceInFront c.args.self.now.is_new c.args.self.now.rest.now
place c =
    let first = (goal.at.Then-branch-from c).In_ok-first in
    let self = c.args.self.now in
    place-front self.is_new self.rest.now (some first) self.whole (byte first ∙ c.if-branch-from.true ∙ c.from.ensures)

weights : (c : Else-branch-from) → WeightsInFront c.args.self.now.is_new c.args.self.now.rest.now
weights c =
    let first = (goal.at.Else-branch-from c).In_ok-first in
    let self = c.args.self.now in
    weights-front self.is_new self.rest.now (some first) self.whole (λ e. c.if-branch-from.false (sym (byte first) ∙ e ∙ sym c.from.ensures))

pub split_at-requires : goal.split_at-requires
split_at-requires c = (place (goal.at.split_at-requires c).Then-branch-from).inside

pub invariant_of-self : goal.invariant_of-self
invariant_of-self c = record { whole = rw c.split_at.ensures.back (place (goal.at.invariant_of-self c).Then-branch-from).rest }

pub returns-then-branch-from-clause-steps : goal.returns-then-branch-from-clause-steps
returns-then-branch-from-clause-steps c =
    let p = place (goal.at.returns-then-branch-from-clause-steps c).Then-branch-from in
    rw (c.split_at.ensures.front, c.split_at.ensures.back, get_or-take 2 c.args.self.now.rest.now 1 0 (omega arith)) p.is

pub returns-then-branch-from-clause-goes : goal.returns-then-branch-from-clause-goes
returns-then-branch-from-clause-goes c =
    record { on = λ fin. (tt, tt, (omega (arith, ap length (returns-then-branch-from-clause-steps c)))); keeps = tt; rests = λ fin. tt }

pub weights_size-size-requires : goal.weights_size-size-requires
weights_size-size-requires c = (weights (goal.at.weights_size-size-requires c).Else-branch-from).inside

pub split_at-requires-2 : goal.split_at-requires-2
split_at-requires-2 c = omega (arith, (weights (goal.at.split_at-requires-2 c).Else-branch-from).inside, c.weights_size-size.ensures)

pub invariant_of-self-2 : goal.invariant_of-self-2
invariant_of-self-2 c =
    let w = weights (goal.at.invariant_of-self-2 c).Else-branch-from in
    record { whole = rw (c.split_at-2.ensures.back, c.weights_size-size.ensures) w.rest }

pub returns-clause-steps : goal.returns-clause-steps
returns-clause-steps c =
    let w = weights (goal.at.returns-clause-steps c).Else-branch-from in
    rw (c.split_at-2.ensures.front, c.split_at-2.ensures.back, c.weights_size-size.ensures) w.is

pub returns-clause-goes : goal.returns-clause-goes
returns-clause-goes c = record { on = λ fin. (tt, tt, (omega (arith, ap length (returns-clause-steps c)))); keeps = tt; rests = λ fin. tt }
