-- `engine::playing::move_tokens` meets its contract. The loop's invariant: the tokens of the places below j are moved, the others as they were.
use Rattle.std.proofs.Common.{◌≡◌, ℕ, ◌≤◌, ◌<◌, get_or}
use Rattle.nets.specs.Carrying.{tokens_behind}
use Rattle.engine.specs.Playing.{places_of}
use Rattle.engine.proofs.playing.move_tokens.Given as goal

abbrev pub invariant-loop-j : goal.invariant-loop-j
invariant-loop-j l = ((i : ℕ) → i < l.j → get_or l.held-items i 0 ≡ get_or (tokens_behind (places_of l.net) l.fn.tokens l.event) i 0)
    × ((i : ℕ) → l.j ≤ i → i < l.net.count → get_or l.held-items i 0 ≡ get_or l.fn.tokens i 0)
