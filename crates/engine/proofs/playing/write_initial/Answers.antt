-- `engine::playing::write_initial` meets its contract.
use Rattle.std.proofs.Common.{rules, ◌≤◌, ◌≡◌, sym, ap₂, ◌∙◌, arith, ℕ, List, ◌++◌, drop, length, get_or, take, ◌<◌, ext_get_or, length-take-le}
use Rattle.laws.specs.Lists.{each_set}
use Rattle.laws.specs.Parts.{front}
use Rattle.nets.specs.Carrying.{initials}
use Rattle.engine.specs.Playing.{places_of, initial-there, initials-count}
use Rattle.engine.proofs.playing.write_initial.Goals as goal
use Rattle.engine.proofs.playing.write_initial.Goals.{Start}

pub loop-j-init : goal.loop-j-init
loop-j-init c = λ i h. absurd (omega arith)

-- the slice that is written has a number for each place
count : (c : Start) → length (take c.args.net.now.count c.args.tokens.now) ≡ c.args.net.now.count
count c = length-take-le c.args.net.now.count c.args.tokens.now c.requires

pub loop-j-preserved : goal.loop-j-preserved
loop-j-preserved c =
    let at = goal.at.loop-j-preserved c in
    let net = c.args.net.now in
    let inside : c.loop-j.j < net.count = omega (arith, c.loop-j-test.true, count at.Start) in
    let small : c.from.result ≤ 65535 = search rules in
    each_set 0 (λ i x. (x ≡ get_or (initials (places_of net)) i 0) × (x ≤ 65535)) c.loop-j.held-items c.loop-j.j c.from.result (omega arith)
    c.loop-j.invariant (c.from.ensures ∙ c.initial.ensures ∙ sym (initial-there net c.loop-j.j inside), small)

pub returns-clause-written : goal.returns-clause-written
unfolding front
returns-clause-written c =
    let at = goal.at.returns-clause-written c in
    let net = c.args.net.now in
    let us = initials (places_of net) in
    let size : length c.loop-j.held-items ≡ net.count = c.loop-j.auto.held-items ∙ count at.Start in
    let all = initials-count net in
    let written = ext_get_or 0 c.loop-j.held-items us (size ∙ sym all) (λ i h. (c.loop-j.invariant i (omega (arith, h, size, count at.Start))).0) in
    ap₂ (λ (l : List ℕ) (k : ℕ). l ++ drop k c.args.tokens.now) written (sym all)
