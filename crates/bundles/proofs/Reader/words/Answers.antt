use Rattle.std.proofs.Common.{◌≡◌, ◌+◌, ◌-◌, ◌<◌, ◌∙◌, refl, arith}
use Rattle.std.proofs.lemmas.Result.{err_from_is_err_and}
use Rattle.bundles.specs.Chains.{read_got, read-refused, →got, →refused}
use Rattle.bundles.specs.WordReading.{entries-start, entries_next, entries-failed, entries-done}
use Rattle.bundles.proofs.Reader.words.Goals as goal

pub loop-word-init : goal.loop-word-init
loop-word-init c = let all : c.args.count - 0 ≡ c.args.count = omega arith in (refl, rw all (entries-start _ _ _ _))

pub returns-in_err-events : goal.returns-in_err-events
returns-in_err-events c =
    let q = err_from_is_err_and c.from_residual.result c.from_residual.ensures.1 in
    let inv = c.loop-word.invariant in
    let r = c.in_err-events.ensures in
    let more : 0 < c.args.count - c.loop-word._word = omega arith in
    rw (q.1, q.2) (→refused (r.bytes ∙ inv.0) (entries-failed _ _ _ _ inv.1 more (rw inv.0 at (read-refused r))))

pub loop-word-preserved : goal.loop-word-preserved
loop-word-preserved c =
    let inv = c.loop-word.invariant in
    let r = c.in_ok-events.ensures in
    let more : 0 < c.args.count - c.loop-word._word = omega arith in
    let less : c.args.count - (c.loop-word._word + 1) ≡ c.args.count - c.loop-word._word - 1 = omega arith in
    (r.bytes ∙ inv.0, rw less (entries_next _ _ _ _ inv.1 more (rw inv.0 at (read_got r))))

pub overflow_add-events : goal.overflow_add-events
overflow_add-events c = omega (arith, (loop-word-preserved c).1.limit)

pub returns : goal.returns
returns c = →got c.loop-word.invariant.0 (entries-done _ _ _ _ c.loop-word.invariant.1 (omega arith))
