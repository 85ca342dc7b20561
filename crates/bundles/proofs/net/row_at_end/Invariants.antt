-- `bundles::net::row_at_end` meets its contract. The loop's invariant: the row has the numbers of the events below i, and zeros.
use Rattle.std.proofs.Common.{◌≡◌, take}
use Rattle.bundles.specs.PlaceReading.{numbers_at, widened}
use Rattle.bundles.proofs.net.row_at_end.Given as goal

abbrev pub invariant-loop-i : goal.invariant-loop-i
invariant-loop-i l = l.number-items ≡ take l.n (widened (numbers_at l.i l.bundle l.at))
