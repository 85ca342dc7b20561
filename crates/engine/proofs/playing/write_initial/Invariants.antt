-- `engine::playing::write_initial` meets its contract. The loop's invariant: the tokens of the places below j are written, and each is a number of
-- two bytes.
use Rattle.std.proofs.Common.{◌≡◌, ℕ, ◌≤◌, ◌<◌, get_or}
use Rattle.nets.specs.Carrying.{initials}
use Rattle.engine.specs.Playing.{places_of}
use Rattle.engine.proofs.playing.write_initial.Given as goal

abbrev pub invariant-loop-j : goal.invariant-loop-j
invariant-loop-j l = (i : ℕ) → i < l.j → (get_or l.held-items i 0 ≡ get_or (initials (places_of l.net)) i 0) × (get_or l.held-items i 0 ≤ 65535)
