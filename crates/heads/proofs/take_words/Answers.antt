use Rattle.std.specs.Prelude.{Option, ℕ, ◌≡◌, ◌<◌, ◌++◌, length, take, drop}
use Rattle.std.proofs.Common.{sym, ap, ◌∙◌, refl, rules, arith, length-take-le}
use Rattle.std.proofs.Math.Seq.{take-append_seam}
use Rattle.std.proofs.lemmas.Result.{err_from_is_err_and}
use Rattle.heads.specs.Taken.{taken_start, taken_next, taken-failed, taken-done}
use Rattle.heads.proofs.take_words.Goals as goal
use Rattle.heads.proofs.take_words.Goals.{At-loop-row}

pub loop-row-init : goal.loop-row-init
loop-row-init c =
    let new = c.new-log.ensures in
    (refl, rw (new.0, new.1) (taken_start _ _ _ _ _ c.requires.0 c.requires.1.first _), rw new.0 new.2)

pub take_word-requires-clause-bounds : goal.take_word-requires-clause-bounds
take_word-requires-clause-bounds c =
    let i = c.loop-row.invariant in
    let s = i.1.held in
    (c.requires.0, s.few, s.limit, omega (arith, c.requires.1.long, s.same), rw i.0 c.requires.2)

-- a slot for each word
slots : (c : At-loop-row) → length c.loop-row.row-items ≡ c.args.count
slots c =
    let whole = length-take-le {A = Option ℕ} c.from.result c.args.noted.now (omega (arith, c.from.ensures, c.told-noted, c.ranges.count.fits)) in
    omega (arith, whole, c.from.ensures, c.loop-row.auto.row-items)

pub returns-in_err-take_word : goal.returns-in_err-take_word
returns-in_err-take_word c =
    let q = err_from_is_err_and c.from_residual.result c.from_residual.ensures.1 in
    let i = c.loop-row.invariant in
    let more : c.loop-row.row-index < c.args.count = omega (arith, c.loop-row-test.true, slots (goal.at.returns-in_err-take_word c).At-loop-row) in
    let one = rw (i.0, c.in_err-take_word.was) at (c.take_word.ensures.one_more _ _ i.1.held) in
    rw (q.1, q.2) (taken-failed _ _ _ _ _ i.1 more one.0 one.1)

pub loop-row-preserved : goal.loop-row-preserved
loop-row-preserved c =
    let i = c.loop-row.invariant in
    let all = slots (goal.at.loop-row-preserved c).At-loop-row in
    let more : c.loop-row.row-index < c.args.count = omega (arith, c.loop-row-test.true, all) in
    let one = rw (c.in_ok-take_word.was) at (c.take_word.ensures.one_more _ _ i.1.held) in
    (one.0 ∙ i.0, taken_next _ _ _ _ _ i.1 more (omega (arith, more, all)) {x = one.1.0} (rw i.0 at one.1.1) one.1.2 one.1.3, search rules)

pub returns : goal.returns
returns c =
    let i = c.loop-row.invariant in
    let s = i.1 in
    let all = slots (goal.at.returns c).At-loop-row in
    let done : c.loop-row.row-index ≡ c.args.count = omega (arith, c.loop-row-test.false, all) in
    let front = ap (λ (k : ℕ). take k (c.loop-row.row-items ++ drop c.from.result c.args.noted.now)) (sym all)
    ∙ take-append_seam c.loop-row.row-items _ in
    (i.0, (s.entries, taken-done _ _ _ _ _ s (omega (arith, done)), rw s.held.total at s.held, s.number ∙ done, rw front s.rows))
