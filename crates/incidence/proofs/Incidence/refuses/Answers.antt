-- `incidence::Incidence::refuses` meets its contract.
use Rattle.std.proofs.Common.{sym, ◌∙◌, arith, leb-false}
use Rattle.std.proofs.lemmas.Bool.{not-true}
use Rattle.incidence.specs.Incidence.{places_in}
use Rattle.incidence.specs.IncidenceLaws.{in-count, tested, moves-short}
use Rattle.incidence.proofs.Incidence.refuses.Goals as goal

pub returns : goal.returns
returns c q =
    let b = c.args.self.now in
    let ts = c.args.tokens.now in
    let inside = c.if-self-place.false in
    let is_tested = tested b ts c.args.event c.args.place inside (omega (arith, c.requires.0 c.args.place inside)) in
    let short = sym is_tested ∙ sym c.covers.ensures ∙ not-true _ q in
    moves-short (places_in b) ts c.args.event c.args.place (omega (arith, inside, in-count b)) (leb-false _ _ short)
