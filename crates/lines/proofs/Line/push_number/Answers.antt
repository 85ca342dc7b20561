-- The digits that `io::decimal` writes are the number's own.
use Rattle.std.proofs.Common.{◌≡◌, [], ◌∷◌, take, ◌∙◌, append_assoc}
use Rattle.lines.specs.Decimals.{decimal, fewest_decimal}
use Rattle.lines.specs.Lines.{spaced}
use Rattle.lines.proofs.Line.push_number.Goals as goal

pub returns-clause-written : goal.returns-clause-written
unfolding spaced
returns-clause-written g c =
    let d = c.decimal-size in
    let own : take d.result d.new.out ≡ decimal c.args.n = d.ensures.digits ∙ fewest_decimal _ _ d.ensures.len in
    rw (c.push-2.ensures, c.push.ensures, own) (append_assoc c.args.self.now (32 ∷ []) (decimal c.args.n))
