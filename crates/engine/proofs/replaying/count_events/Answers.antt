-- `engine::replaying::count_events` meets its contract.
use Rattle.std.proofs.Common.{◌≡◌, refl, sym, ap, ◌∙◌, arith, ℕ, ◌+◌, ◌<◌, [], ◌∷◌, ◌++◌, length, take, ext_get_or, length-set, length-take, length-take-le, take-suc, take_all, add-one}
use Rattle.std.proofs.Math.Seq.{get_or-take}
use Rattle.laws.specs.Lists.{get_d_member, get_d_copies}
use Rattle.nets.specs.Nets.{counts, occurrences}
use Rattle.nets.specs.CountLaws.{length-counts, at-counts, counted_next, occurrences-most}
use Rattle.engine.proofs.replaying.count_events.Goals as goal
use Rattle.engine.proofs.replaying.count_events.Goals.{After-from}

-- the event is there
below : (c : After-from) → c.from.result < c.args.n
below c = rw c.from.ensures (c.requires.below _ (get_d_member c.args.word.now c.loop-event.event-index 0 c.loop-event-test.true))

pub loop-event-init : goal.loop-event-init
unfolding occurrences
loop-event-init c = (refl, λ i h. get_d_copies 12 i 0)

pub bounds-counts-from : goal.bounds-counts-from
bounds-counts-from c = omega (arith, below (goal.at.bounds-counts-from c).After-from, c.requires.few.0)

pub bounds-counts-from-in-loop-event : goal.bounds-counts-from-in-loop-event
bounds-counts-from-in-loop-event c = omega (arith, below (goal.at.bounds-counts-from-in-loop-event c).After-from, c.requires.few.0)

pub overflow_add-counts : goal.overflow_add-counts
overflow_add-counts c =
    let at = (goal.at.overflow_add-counts c).After-from in
    let w = c.args.word.now in
    let counted = c.loop-event.invariant.1 c.from.result (below at) in
    omega (arith, counted, occurrences-most c.from.result (take c.loop-event.event-index w), length-take c.loop-event.event-index w, c.loop-event-test.true, c.requires.few.1)

pub loop-event-preserved : goal.loop-event-preserved
loop-event-preserved c =
    let at = (goal.at.loop-event-preserved c).After-from in
    let w = c.args.word.now in
    let k = c.loop-event.event-index in
    let inside : c.from.result < length c.loop-event.counts = omega (arith, below at, c.loop-event.invariant.0, c.requires.few.0) in
    let more : take (k + 1) w ≡ take k w ++ c.from.result ∷ [] =
    ap (λ (m : ℕ). take m w) (add-one k) ∙ take-suc w k 0 c.loop-event-test.true ∙ ap (λ (e : ℕ). take k w ++ e ∷ []) (sym c.from.ensures) in (
      length-set c.loop-event.counts c.from.result _ ∙ c.loop-event.invariant.0,
      λ i h. counted_next c.args.n (take k w) c.from.result c.loop-event.counts inside c.loop-event.invariant.1 i h
          ∙ ap (occurrences i) (sym more),
    )

pub returns : goal.returns
returns c =
    let w = c.args.word.now in
    let all = take_all c.loop-event.event-index w c.loop-event-test.false in
    let long : length (take c.args.n c.loop-event.counts) ≡ c.args.n =
    length-take-le c.args.n c.loop-event.counts (omega (arith, c.loop-event.invariant.0, c.requires.few.0)) in
    ext_get_or 0 (take c.args.n c.loop-event.counts) (counts c.args.n w) (long ∙ sym (length-counts c.args.n w))
    (λ i h.
    let b : i < c.args.n = omega (arith, h, long) in
    get_or-take c.args.n c.loop-event.counts i 0 b ∙ c.loop-event.invariant.1 i b ∙ ap (occurrences i) all ∙ sym (at-counts c.args.n w i b))
