-- `parts::initial_tokens` meets its contract. The loop's invariant: the tokens of the places below j are written.
use Rattle.std.proofs.Common.{◌≡◌, ℕ, ◌<◌, pos, get_or}
use Rattle.stops.specs.Reached.{place_at}
use Rattle.parts.proofs.initial_tokens.Given as goal

abbrev pub invariant-loop-j : goal.invariant-loop-j
invariant-loop-j l = (i : ℕ) → i < l.j → get_or l.tokens-items i (pos 0) ≡ pos (place_at l.net.n l.net.bundle.now l.net.first i).initial
