-- `bundles::Reader::words` meets its contract. The loop's invariant: so many words are left, behind those with so many events.
use Rattle.std.proofs.Common.{◌≡◌, ◌-◌}
use Rattle.bundles.specs.WordReading.{EntriesLeft}
use Rattle.bundles.specs.Keeping.{said}
use Rattle.bundles.proofs.Reader.words.Given as goal

abbrev pub invariant-loop-word : goal.invariant-loop-word
invariant-loop-word l =
    (l.self.bytes ≡ l.fn.self.bytes) × EntriesLeft (said l.first) l.fn.self.bytes.now l.fn.self.at l.count l.self.at l.events (l.count - l._word)
