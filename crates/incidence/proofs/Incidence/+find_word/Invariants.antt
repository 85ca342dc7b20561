-- `incidence::Incidence::find_word` meets its contract. The measure: the events of the word. The loop's
-- invariant: no word begins with an event below.
use Rattle.std.proofs.Common.{◌≡◌, ℕ, ◌-◌, ◌<◌, length}
use Rattle.std.specs.Prelude.{None}
use Rattle.laws.specs.Firsts.{first_of}
use Rattle.incidence.specs.Incidence.{places_in}
use Rattle.incidence.specs.IncidenceLaws.{beginning}
use Rattle.incidence.proofs.Incidence.+find_word.Given as goal

abbrev pub decreases-find_word : goal.decreases-find_word
decreases-find_word l = length l.word.now

abbrev pub invariant-loop-event : goal.invariant-loop-event
invariant-loop-event l = (length l.word ≡ length l.fn.word)
    × ((i : ℕ) → i < l.event → first_of (beginning l.self.n (places_in l.self) l.tokens l.wanted (length l.fn.word - 1) i) ≡ None)
