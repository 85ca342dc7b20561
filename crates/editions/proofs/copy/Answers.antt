-- `editions::copy` meets its contract: 3, or the bundle.
use Rattle.std.proofs.Common.{refl, arith}
use Rattle.laws.specs.Clauses.{value-output_after}
use Rattle.laws.specs.Parts.{spliced-front}
use Rattle.refusals.proofs.Laws.{ends-short, ends-written}
use Rattle.editions.proofs.copy.Goals as goal

pub returns-then-output-bundle : goal.returns-then-output-bundle
returns-then-output-bundle c = rw c.at.ensures (value-output_after (ends-short _ _ c.args.bundle.now refl (omega arith)))

pub returns : goal.returns
returns c =
    rw (c.write_at.ensures, spliced-front c.args.bundle.now c.args.output.now)
    (value-output_after (ends-written _ _ c.args.bundle.now refl (omega arith)))
