-- `bundles::read_head` meets its contract: the bundle's length, then its fields.
use Rattle.std.proofs.Common.{sym, ap, ◌∙◌}
use Rattle.bundles.specs.Chains.{answer_in}
use Rattle.bundles.specs.Keeping.{read_kept_answer}
use Rattle.bundles.specs.HeadReading.{net_read, head_read, size_wrong, size-right}
use Rattle.bundles.proofs.read_head.Goals as goal

pub returns-then-not-size_fits : goal.returns-then-not-size_fits
unfolding net_read answer_in
returns-then-not-size_fits c =
    rw c.at.ensures (sym (ap (head_read c.args.bundle) (size_wrong _ (sym c.size_fits.ensures ∙ c.if-not-size_fits.true))))

pub returns : goal.returns
returns c = read_kept_answer c.head.ensures ∙ sym (ap (head_read c.args.bundle) (size-right _ (sym c.size_fits.ensures ∙ c.if-not-size_fits.false)))
