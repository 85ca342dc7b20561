use Rattle.std.proofs.Common.{rules, arith, ◌≡◌, get_or, length, Fits, w16}
use Rattle.std.proofs.Math.ListN.{get_or-eq_default}
use Rattle.limits.specs.Limits.{max_events}
use Rattle.replays.specs.StoringLaws.{stored}
use Rattle.replays.proofs.Table.write_column.Goals as goal

pub returns : goal.returns
returns c =
    let place = c.args.place in
    let put : length place.produced ≡ max_events = search rules in
    let took : length place.consumed ≡ max_events = search rules in
    stored (omega arith) (omega arith)
    (λ i. let f : Fits w16 (get_or place.produced i 0) = search rules in f.fits)
    (λ i. let f : Fits w16 (get_or place.consumed i 0) = search rules in f.fits)
    (get_or-eq_default place.produced 0 (omega arith), get_or-eq_default place.consumed 0 (omega arith))
    c.write-2.ensures c.loop-from.invariant
