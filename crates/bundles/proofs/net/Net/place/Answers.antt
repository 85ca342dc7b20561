-- `bundles::net::Net::place` meets its contract.
use Rattle.bundles.specs.PlaceReading.{machine_place}
use Rattle.bundles.proofs.net.Net.place.Goals as goal

pub returns : goal.returns
unfolding machine_place
returns c = rw (c.number_at.ensures, c.row_at.ensures, c.row_at-2.ensures, c.from-n.ensures, c.offset-at.ensures)
