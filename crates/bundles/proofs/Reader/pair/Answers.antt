-- `bundles::Reader::pair` meets its contract: its reads are those of `pair`, in the same order.
use Rattle.std.proofs.Common.{rules}
use Rattle.std.proofs.lemmas.Result.{err_from_is_err_and}
use Rattle.bundles.specs.Chains.{read_same, then_read, then-refused, read_give}
use Rattle.bundles.specs.FieldReading.{below}
use Rattle.bundles.specs.TermReading.{behind_word, made_pair, pair_chain}
use Rattle.bundles.proofs.Reader.pair.Goals as goal

pub returns-in_err-word : goal.returns-in_err-word
returns-in_err-word c =
    let q = err_from_is_err_and c.from_residual.result c.from_residual.ensures.1 in
    rw (q.1, q.2)
    (read_same (pair_chain _ _ _) (then-refused behind_word (c.in_err-word.ensures (below c.args.words) (λ x small b answer. search rules))))

pub returns-in_err-weight : goal.returns-in_err-weight
returns-in_err-weight c =
    let q = err_from_is_err_and c.from_residual-in_err-weight.result c.from_residual-in_err-weight.ensures.1 in
    let word = c.in_ok-word.ensures (below c.args.words) (λ x small b answer. search rules) in
    rw (q.1, q.2) (read_same (pair_chain _ _ _) (then_read behind_word word (then-refused (made_pair _) c.in_err-weight.ensures)))

pub returns : goal.returns
returns c =
    let word = c.in_ok-word.ensures (below c.args.words) (λ x small b answer. search rules) in
    read_same (pair_chain _ _ _) (then_read behind_word word (then_read (made_pair _) c.in_ok-weight.ensures (read_give _)))
