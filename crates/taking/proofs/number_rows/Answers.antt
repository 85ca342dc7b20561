use Rattle.std.proofs.Common.{arith, ap, ◌∙◌, le_refl}
use Rattle.std.specs.Prelude.{set, ℕ}
use Rattle.rows.specs.Rows.{add_event}
use Rattle.taking.specs.Noting.{noting_none, noting_again, noting_end}
use Rattle.taking.proofs.number_rows.Goals as goal
use Rattle.taking.proofs.number_rows.Goals.{in-Some, in_default}

pub loop-i-init : goal.loop-i-init
loop-i-init c = noting_none _ _ _ _ _ c.new-prefix.ensures

pub loop-i-preserved : goal.loop-i-preserved
loop-i-preserved c =
    let l = c.loop-i in
    let a = c.args in
    noting_again _ _ _ _ _ _ _ _ l.invariant c.requires.word_in_bounds _ _ c.number_row-next.ensures.value
    (ap (λ (x : ℕ). set l.numbers l.i x) c.number_row-next.ensures.number_after) _ (omega arith) (c.requires.takable.below l.i (omega arith))
    (elim c.match-get.branch [
      | in-Some w ↦ ap (λ p. p.counts) w.prefix-is ∙ w.push.ensures
          ∙ ap (add_event l.prefix.counts) (w.from.ensures ∙ (rw w.in-Some.is at c.get.ensures.lookup).4 (le_refl l.i) 0)
      | in_default w ↦ absurd (omega (arith, (rw w.in_default.is at c.get.ensures.lookup).3))
    ])

pub returns-after-get-clause-value : goal.returns-after-get-clause-value
returns-after-get-clause-value c =
    let end = noting_end _ _ _ _ _ _ _ _ c.loop-i.invariant c.requires.word_in_bounds _ _ c.number_row-next.ensures.value
    (ap (λ (x : ℕ). set c.loop-i.numbers c.loop-i.i x) c.number_row-next.ensures.number_after) (omega arith) in
    end.0

pub returns-after-get-clause-numbers_after : goal.returns-after-get-clause-numbers_after
returns-after-get-clause-numbers_after c =
    let end = noting_end _ _ _ _ _ _ _ _ c.loop-i.invariant c.requires.word_in_bounds _ _ c.number_row-next.ensures.value
    (ap (λ (x : ℕ). set c.loop-i.numbers c.loop-i.i x) c.number_row-next.ensures.number_after) (omega arith) in
    end.1
