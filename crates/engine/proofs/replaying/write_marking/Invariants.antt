-- `engine::replaying::write_marking` meets its contract. The loop's invariant: the tokens of the places below j are written.
use Rattle.std.proofs.Common.{◌≡◌, ℕ, ◌<◌, get_or}
use Rattle.engine.specs.Replaying.{tokens_by}
use Rattle.engine.proofs.replaying.write_marking.Given as goal

abbrev pub invariant-loop-j : goal.invariant-loop-j
invariant-loop-j l = (i : ℕ) → i < l.j → get_or l.held-items i 0 ≡ get_or (tokens_by l.net l.counts) i 0
