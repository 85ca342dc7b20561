-- `obeying::row_obeyed` meets its contract.
use Rattle.std.proofs.Common.{rules, ap, ◌∙◌, w64}
use mir.Val.{SFits}
use Rattle.limits.specs.Limits.{max_events}
use Rattle.nets.specs.Nets.{tokens}
use Rattle.places.specs.Machine.{place_of}
use Rattle.obeying.specs.ObeyingLaws.{row_tested}
use Rattle.obeying.proofs.row_obeyed.Goals as goal

pub returns : goal.returns
returns c =
    let now : SFits w64 c.tokens.result = search rules in
    let before : SFits w64 c.from.result = search rules in
    let place = place_of c.args.place.now in
    let after = rw c.counts_of.ensures.1 at c.tokens.ensures.value ∙ ap (tokens max_events place) c.counts_of.ensures.0 in
    row_tested place _ _ _ now before after c.from.ensures
