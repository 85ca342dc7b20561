-- `fitting::row_fits` meets its contract: the tokens after the row's counts decide for its events.
use Rattle.std.proofs.Common.{rules, sym, ◌∙◌, drop, get_or-drop, ◌*◌, w64}
use mir.Val.{SFits}
use mir.Facts.{to_z-of_z}
use Rattle.limits.specs.Limits.{max_events}
use Rattle.places.specs.Machine.{place_of}
use Rattle.rows.specs.Rows.{row_size}
use Rattle.fitting.specs.FittingLaws.{row-empty, table_row_fits}
use Rattle.fitting.proofs.row_fits.Goals as goal

pub returns-then-mask-eq0 : goal.returns-then-mask-eq0
returns-then-mask-eq0 c =
    let a = c.args in
    let at = row_size * a.row in
    sym (row-empty (place_of a.place.now) (drop at a.table.now) (get_or-drop at a.table.now max_events 0 ∙ sym c.mask_of-mask.ensures ∙ c.if-mask-eq0.true))

pub returns : goal.returns
returns c =
    let a = c.args in
    let fits : SFits w64 c.tokens-tokens.result = search rules in
    rw c.mask_of-mask.ensures at c.events_fit.ensures ∙ table_row_fits a.place.now a.table.now a.row _ _ (to_z-of_z fits ∙ rw c.counts_of.ensures.1 at c.tokens-tokens.ensures.value) c.counts_of.ensures.0
