-- `bundles::net::Net::read_places` meets its contract. The invariant: the places below j are written.
use Rattle.bundles.specs.Keeping.{PlacesBelow}
use Rattle.bundles.proofs.net.Net.read_places.Given as goal

abbrev pub invariant-loop-j : goal.invariant-loop-j
invariant-loop-j l = PlacesBelow l.self l.j l.place-items
