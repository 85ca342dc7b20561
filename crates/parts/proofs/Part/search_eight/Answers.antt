use Rattle.std.proofs.Common.{arith, rules, ◌≡◌, ◌∙◌, sym, subst, true, None, ◌-◌, ◌+◌, ℕ, ℤ, pos, length, get_or, ◌<◌}
use Rattle.nets.specs.Nets.{step_at, place_permits}
use Rattle.bundles.specs.Keeping.{place_spot}
use Rattle.stops.specs.Positions.{stop_or_end}
use Rattle.stops.specs.Reached.{Reached, place_at}
use Rattle.stops.specs.Onward.{Onward, place_of, onward-all}
use Rattle.parts.specs.Parts.{eight}
use Rattle.parts.specs.Groups.{place-there, place-here}
use Rattle.parts.specs.SideBySide.{rest_replayable, rest-permits, rest-marked}
use Rattle.parts.proofs.Part.search_eight.Goals as goal
use Rattle.parts.proofs.Part.search_eight.Goals.{Then-replay}

pub replay-requires : goal.replay-requires
replay-requires c = rest_replayable c.requires.1 c.write_table.ensures

-- where the replay says so, each place permits the word
permits : (c : Then-replay) → let s = c.args.self.now.search in (j : ℕ) → j < eight s c.args.first → (i : ℕ) → i < length s.word.now
    → place_permits s.net.n (place_at s.net.n s.net.bundle.now (place_spot s.net c.args.first) j) (step_at s.net.n s.word.now i) ≡ true
permits c = rest-permits c.requires.1 c.write_table.ensures (c.replay.ensures.covered_all c.if-replay.true)

pub returns-then-replay-clause-late : goal.returns-then-replay-clause-late
unfolding stop_or_end
returns-then-replay-clause-late c = (c.requires.1.places.early, omega arith)

pub returns-then-replay-clause-onward : goal.returns-then-replay-clause-onward
unfolding stop_or_end
returns-then-replay-clause-onward c =
    let s = c.args.self.now.search in
    let first = c.args.first in
    let here = permits (goal.at.returns-then-replay-clause-onward c).Then-replay in
    onward-all s first (eight s first) None (λ j low high i h.
    place-there s first (λ p. place_permits s.net.n p (step_at s.net.n s.word.now i) ≡ true) j low (here (j - first) (omega arith) i h))

pub returns-then-replay-clause-marked : goal.returns-then-replay-clause-marked
returns-then-replay-clause-marked c none =
    rest-marked c.requires.1 c.write_table.ensures c.replay.ensures.advanced (c.replay.array_long ∙ sym c.told-tokens) (permits (goal.at.returns-then-replay-clause-marked c).Then-replay)

pub search_from-requires-clause-late : goal.search_from-requires-clause-late
unfolding stop_or_end
search_from-requires-clause-late c = (c.requires.1.places.early, omega arith)

pub search_from-requires-clause-reached : goal.search_from-requires-clause-reached
search_from-requires-clause-reached c j low high t gave =
    let s = c.args.self.now.search in
    let first = c.args.first in
    let is : get_or c.args.tokens.now (j - first) (pos 0) ≡ t = search rules in
    let h : j - first < eight s first = omega (arith, c.min.ensures) in
    subst (λ (z : ℤ). Reached s.net.n s.word.now (place_of s j) z c.args.self.now.done) is
    (place-there s first (λ p. Reached s.net.n s.word.now p (get_or c.args.tokens.now (j - first) (pos 0)) c.args.self.now.done) j low (c.requires.1.places.reached (j - first) h))

pub returns-clause-onward : goal.returns-clause-onward
returns-clause-onward c =
    let s = c.args.self.now.search in
    let first = c.args.first in
    let few : first + c.min.result - first ≡ eight s first = omega (arith, c.min.ensures) in
    subst (λ (k : ℕ). Onward s first k None c.search_from.result) few c.search_from.ensures.onward

pub returns-clause-marked : goal.returns-clause-marked
returns-clause-marked c none =
    let s = c.args.self.now.search in
    let first = c.args.first in
    rest-marked c.requires.1 c.write_table.ensures c.replay.ensures.advanced (c.replay.array_long ∙ sym c.told-tokens) (λ j h i l.
    place-here s first (λ p. place_permits s.net.n p (step_at s.net.n s.word.now i) ≡ true) j (c.search_from.ensures.permits none (first + j) (omega arith) (omega (arith, c.min.ensures)) i l))
