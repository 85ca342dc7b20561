-- `judging::judge_net` meets its contract: the places are tested, then the certificates decide.
use Rattle.std.proofs.Common.{◌≡◌, ◌∙◌, None, Err, sym, ap, length}
use Rattle.std.proofs.lemmas.Bool.{le-leb, lt-leb}
use Rattle.std.proofs.lemmas.Result.{err_from_is_err_and}
use Rattle.bundles.specs.Keeping.{behind}
use Rattle.fitting.specs.Fitting.{misfit}
use Rattle.obeying.specs.Obeying.{disobeying}
use Rattle.judging.specs.JudgeLaws.{ended_as, misfit-refused, disobeying-refused, certificates-decide}
use Rattle.judging.proofs.judge_net.Goals as goal
use Rattle.judging.proofs.judge_net.Goals.{In_default-first_disobeying}

pub returns-in-Some : goal.returns-in-Some
returns-in-Some c =
    let net = c.args.head.now.net in
    ap Err c.at.ensures ∙ sym (misfit-refused net.bundle.now (behind net) (sym c.first_misfit.ensures ∙ c.in-Some.is))

pub returns-in-Some-first_disobeying : goal.returns-in-Some-first_disobeying
returns-in-Some-first_disobeying c =
    let net = c.args.head.now.net in
    let fit = sym c.first_misfit.ensures ∙ c.in_default.is in
    ap Err c.at-in-Some-first_disobeying.ensures
    ∙ sym (disobeying-refused net.bundle.now (behind net) fit (sym c.first_disobeying.ensures ∙ c.in-Some-first_disobeying.is))

-- all places fit and obey
fit : (c : In_default-first_disobeying) → misfit c.args.head.now.net.bundle.now ≡ None
fit c = sym c.first_misfit.ensures ∙ c.in_default.is

obey : (c : In_default-first_disobeying) → disobeying c.args.head.now.net.bundle.now ≡ None
obey c = sym c.first_disobeying.ensures ∙ c.in_default-first_disobeying.is

pub returns-in_err-tally : goal.returns-in_err-tally
unfolding ended_as
returns-in_err-tally c =
    let q = err_from_is_err_and c.from_residual.result c.from_residual.ensures.1 in
    let net = c.args.head.now.net in
    let here = (goal.at.returns-in_err-tally c).In_default-first_disobeying in
    rw (q.1, q.2) (sym (certificates-decide net.bundle.now (behind net) (fit here) (obey here) _ (sym c.in_err-tally.was ∙ c.certify.ensures)))

pub returns-then-end-head : goal.returns-then-end-head
unfolding ended_as
returns-then-end-head c =
    let net = c.args.head.now.net in
    let here = (goal.at.returns-then-end-head c).In_default-first_disobeying in
    ap Err c.at-then-end-head.ensures
    ∙ sym (certificates-decide net.bundle.now (behind net) (fit here) (obey here) _ (sym c.in_ok-tally.was ∙ c.certify.ensures)
    ∙ rw (lt-leb (length net.bundle.now) c.in_ok-tally.end c.if-end-head.true))

pub returns : goal.returns
unfolding ended_as
returns c =
    let net = c.args.head.now.net in
    let here = (goal.at.returns c).In_default-first_disobeying in
    sym (certificates-decide net.bundle.now (behind net) (fit here) (obey here) _ (sym c.in_ok-tally.was ∙ c.certify.ensures)
    ∙ rw (le-leb (length net.bundle.now) c.in_ok-tally.end c.if-end-head.false))
