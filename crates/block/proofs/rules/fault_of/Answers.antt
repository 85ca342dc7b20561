-- `block::rules::fault_of` meets its contract: each test says which rule is kept, and each return cites the law of the first that is broken.
use Rattle.std.proofs.Common.{◌≡◌, sym, ◌∙◌, true}
use Rattle.laws.specs.Numbers.{number_at}
use Rattle.block.specs.Block.{right_use}
use Rattle.block.specs.BlockLaws.{fault-number-exactly, fault_use_exactly, fault-sums-exactly, fault-none-exactly}
use Rattle.block.proofs.rules.fault_of.Goals as goal
use Rattle.block.proofs.rules.fault_of.Goals.{Else-not-use_fits, Else-from-number}

numbered : (c : Else-from-number) → number_at c.args.block.now 0 ≡ c.args.number
numbered c = sym c.number_at.ensures ∙ sym c.from.ensures ∙ c.if-from-number.false

used : (c : Else-not-use_fits) → right_use c.args.last c.args.block.now ≡ true
used c = sym c.use_fits.ensures ∙ c.if-not-use_fits.false

pub returns-then-from-number : goal.returns-then-from-number
returns-then-from-number c = sym ((fault-number-exactly _ _ _).1 (λ e. c.if-from-number.true (c.from.ensures ∙ c.number_at.ensures ∙ e)))

pub returns-then-not-use_fits : goal.returns-then-not-use_fits
returns-then-not-use_fits c =
    sym ((fault_use_exactly _ _ _).1 (numbered (goal.at.returns-then-not-use_fits c).Else-from-number, sym c.use_fits.ensures ∙ c.if-not-use_fits.true))

pub returns-then-not-sums_match : goal.returns-then-not-sums_match
returns-then-not-sums_match c =
    let at = goal.at.returns-then-not-sums_match c in
    sym ((fault-sums-exactly _ _ _).1 (numbered at.Else-from-number, used at.Else-not-use_fits, sym c.sums_match.ensures ∙ c.if-not-sums_match.true))

pub returns : goal.returns
returns c =
    let at = goal.at.returns c in
    sym ((fault-none-exactly _ _ _).1 (numbered at.Else-from-number, used at.Else-not-use_fits, sym c.sums_match.ensures ∙ c.if-not-sums_match.false))
