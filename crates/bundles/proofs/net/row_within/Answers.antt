use Rattle.std.proofs.Common.{◌≡◌, sym, ◌∙◌, arith}
use Rattle.limits.specs.Limits.{max_events}
use Rattle.bundles.specs.PlaceReading.{kept-start, kept_next, kept-all}
use Rattle.bundles.proofs.net.row_within.Goals as goal

pub loop-i-init : goal.loop-i-init
loop-i-init c = sym (kept-start _ _ _ c.requires.0)

pub loop-i-preserved : goal.loop-i-preserved
loop-i-preserved c = rw (c.loop-i.invariant, c.kept.ensures, c.number_at.ensures) (kept_next _ _ _ _ (omega arith) c.requires.0)

pub returns : goal.returns
returns c = c.loop-i.invariant ∙ let all : c.loop-i.i ≡ max_events = omega arith in rw all (kept-all _ _ _ c.requires.0)
