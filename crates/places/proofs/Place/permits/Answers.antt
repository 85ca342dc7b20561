-- `places::Place::permits` meets its contract: the surplus is the tokens less what the event takes.
use Rattle.std.proofs.Common.{◌∙◌, ap, ℤ, ◌-ℤ◌, pos, get_or, w64}
use Rattle.std.specs.Int.Signed.{non_neg}
use mir.Facts.{to_z-of_z}
use Rattle.nets.specs.Nets.{place_permits, surplus}
use Rattle.places.proofs.Place.permits.Goals as goal

pub returns : goal.returns
unfolding place_permits surplus
returns c =
    c.covers.ensures
    ∙ ap (λ (t : ℤ). non_neg (t -ℤ pos (get_or c.args.self.consumed c.args.event 0)))
    (to_z-of_z {w = w64} (record { sfits = c.tokens.type_inv }) ∙ c.tokens.ensures.value)
