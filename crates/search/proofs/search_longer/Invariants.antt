-- `search::search_longer` meets its contract. The loop's invariant: no word of fewer events leads there, and nothing is written.
use Rattle.std.proofs.Common.{◌≡◌, ℕ, ◌<◌, length}
use Rattle.std.specs.Prelude.{None}
use Rattle.nets.specs.Carrying.{initials}
use Rattle.laws.specs.Firsts.{first_of}
use Rattle.nets.specs.Reaching.{leading}
use Rattle.engine.specs.Playing.{places_of}
use Rattle.search.proofs.search_longer.Given as goal

abbrev pub invariant-loop-length : goal.invariant-loop-length
invariant-loop-length l = (length l.tried ≡ 5) × ((l.word ≡ l.fn.word)
    × ((d : ℕ) → d < l.length → first_of (leading l.net.n (places_of l.net) l.wanted d (initials (places_of l.net))) ≡ None))
