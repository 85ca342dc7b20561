-- `fitting::place_fits` meets its contract.
use Rattle.std.proofs.Common.{ap, ◌∙◌}
use Rattle.nets.specs.Nets.{fits}
use Rattle.bundles.specs.Readers.{events_in, log_in}
use Rattle.bundles.specs.NextPlace.{place_same}
use Rattle.fitting.specs.FittingLaws.{fits-held}
use Rattle.fitting.proofs.place_fits.Goals as goal

pub returns : goal.returns
returns c =
    let head = c.args.head.now in
    let b = head.net.bundle.now in
    c.fits.ensures ∙ fits-held head.held _ ∙ ap (fits (events_in b) (log_in b)) (place_same head.held.found c.args.j c.requires (head.read.each c.args.j c.requires))
