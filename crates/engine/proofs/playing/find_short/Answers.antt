-- `engine::playing::find_short` meets its contract: the first place that lacks tokens is the definition's.
use Rattle.std.proofs.Common.{◌≡◌, sym, ap, ap₂, ◌∙◌, arith, ◌≤◌, ◌<◌, ℕ, ℤ, pos, w64, length, get_or, leb-true, leb-false}
use mir.Facts.{to_z_pos, to_z-of_z}
use mir.Val.{to_z}
use Rattle.std.specs.Prelude.{◌-ℤ◌}
use Rattle.std.specs.Int.Signed.{non_neg}
use Rattle.laws.specs.Differences.{negative_part, covers-exactly, missing-is}
use Rattle.laws.specs.Lists.{each_next}
use Rattle.nets.specs.Carrying.{taken_from, has_enough}
use Rattle.engine.specs.Playing.{places_of, places-count, taken-there, plays-short, plays-all}
use Rattle.engine.proofs.playing.find_short.Goals as goal
use Rattle.engine.proofs.playing.find_short.Goals.{After-covers}

-- the tokens, as a signed number
held : (c : After-covers) → to_z w64 (get_or c.args.tokens.now c.loop-j.j 0) ≡ pos (get_or c.args.tokens.now c.loop-j.j 0)
held c = to_z_pos w64 (omega (arith, c.requires.reachable c.loop-j.j c.loop-j-test.true))

-- what is tested is whether the place has enough
tested : (c : After-covers) → has_enough (places_of c.args.net.now) c.args.tokens.now c.args.event c.loop-j.j ≡ c.covers.result
tested c =
    let consumed = c.consumed-consumed.ensures ∙ taken-there c.args.net.now c.args.tokens.now c.args.event c.loop-j.j c.loop-j-test.true in
    covers-exactly _ _ ∙ ap (λ (k : ℕ). non_neg (pos (get_or c.args.tokens.now c.loop-j.j 0) -ℤ pos k)) (sym consumed)
    ∙ ap (λ (z : ℤ). non_neg (z -ℤ pos c.consumed-consumed.result)) (sym (held c)) ∙ sym c.covers.ensures

pub loop-j-init : goal.loop-j-init
loop-j-init c = λ i h. absurd (omega arith)

pub loop-j-preserved : goal.loop-j-preserved
loop-j-preserved c =
    let at = goal.at.loop-j-preserved c in
    let enough = leb-true _ _ (tested at.After-covers ∙ c.if-not-covers.false) in
    each_next (λ (i : ℕ). taken_from (places_of c.args.net.now) c.args.tokens.now c.args.event i ≤ get_or c.args.tokens.now i 0) c.loop-j.j
    c.loop-j.invariant enough

pub returns-then-not-covers : goal.returns-then-not-covers
returns-then-not-covers c =
    let at = goal.at.returns-then-not-covers c in
    let consumed = c.consumed-consumed.ensures ∙ taken-there c.args.net.now c.args.tokens.now c.args.event c.loop-j.j c.loop-j-test.true in
    let missing =
    c.shortfall.ensures ∙ ap negative_part (to_z-of_z {w = w64} (record { sfits = c.surplus.type_inv }) ∙ c.surplus.ensures)
    ∙ ap₂ (λ (z : ℤ) (k : ℕ). negative_part (z -ℤ pos k)) (held at.After-covers) consumed ∙ sym (missing-is _ _) in
    let there : c.loop-j.j < length (places_of c.args.net.now) = omega (arith, c.loop-j-test.true, places-count c.args.net.now) in
    let short = leb-false _ _ (tested at.After-covers ∙ c.if-not-covers.true) in
    plays-short c.args.net.now c.args.tokens.now c.args.event c.loop-j.j c.shortfall.result (there, short, c.loop-j.invariant) missing

pub returns : goal.returns
returns c =
    plays-all c.args.net.now c.args.tokens.now c.args.event (λ i h. c.loop-j.invariant i (omega (arith, h, places-count c.args.net.now)))
