-- `search::reach` meets its contract.
use Rattle.std.proofs.lemmas.Result.{err_from_is_err_and}
use Rattle.search.specs.SearchLaws.{sized-err, sized-ok}
use Rattle.search.specs.Searching.{reaching}
use Rattle.search.proofs.reach.Goals as goal

pub returns-in_err-length : goal.returns-in_err-length
returns-in_err-length c =
    let q = err_from_is_err_and c.from_residual.result c.from_residual.ensures.1 in
    let refused = sized-err (reaching c.args.bundle.now c.args.wanted) c.in_err-length.field-0.0 c.in_err-length.ensures.value in
    rw (q.1, q.2) refused

pub returns : goal.returns
returns c = sized-ok (reaching c.args.bundle.now c.args.wanted) _ _ c.in_ok-length.ensures.value c.in_ok-length.ensures.word_after
