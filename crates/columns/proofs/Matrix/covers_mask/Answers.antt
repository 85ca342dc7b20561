use Rattle.std.proofs.Common.{rules, T, true}
use borrow.Author.Tests.{tests}
use Rattle.std.proofs.lemmas.Iterator.{serves_from_Range}
use Rattle.std.proofs.lemmas.Bool.{MatchBool-at_true}
use Rattle.laws.specs.Bits.{bit}
use Rattle.limits.specs.Limits.{max_events}
use Rattle.columns.specs.Markings.{CoversEvent}
use Rattle.columns.proofs.Ranges.{all_from_Range}
use Rattle.columns.proofs.Matrix.covers_mask.Goals as goal

pub all-requires-clause-callable : goal.all-requires-clause-callable
all-requires-clause-callable c = serves_from_Range (λ x q r. search (rules, tests)) (λ x a b. search (rules, tests, c.requires))

pub returns : goal.returns
returns c met e h set =
    let mask = c.args.mask in
    MatchBool-at_true _ _ met
    (all_from_Range max_events _ _ _ (λ e. T (bit mask e) → CoversEvent c.args.self.now c.args.marking.now e) (λ e. T true)
    c.all.ensures.ran (λ x q k. search (rules, tests)) (λ x q k. tt)) e h set
