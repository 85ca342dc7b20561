-- `bundles::net::row_within` meets its contract. The loop's invariant: the row has the numbers of the events below i and n, and zeros.
use Rattle.std.proofs.Common.{◌≡◌}
use Rattle.bundles.specs.PlaceReading.{kept_numbers}
use Rattle.bundles.proofs.net.row_within.Given as goal

abbrev pub invariant-loop-i : goal.invariant-loop-i
invariant-loop-i l = l.number-items ≡ kept_numbers l.n l.bundle l.at l.i
