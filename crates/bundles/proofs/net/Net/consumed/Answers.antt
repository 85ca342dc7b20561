-- `bundles::net::Net::consumed` meets its contract.
use Rattle.std.proofs.Common.{sym, ◌∙◌}
use Rattle.bundles.specs.Keeping.{place_spot}
use Rattle.bundles.specs.PlaceReading.{consumed-at}
use Rattle.bundles.proofs.net.Net.consumed.Goals as goal

pub returns : goal.returns
returns c =
    let net = c.args.self.now in
    rw (c.offset.ensures, c.from.ensures) at c.number_at.ensures
    ∙ sym (consumed-at net.n net.bundle.now (place_spot net c.args.j) c.args.e c.requires.1)
