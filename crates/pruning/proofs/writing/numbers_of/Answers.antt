-- `pruning::writing::numbers_of` meets its contract.
use Rattle.std.proofs.Common.{◌≡◌, refl, sym, ap, ◌∙◌, arith, cond, Bool, true, false, get_or, set, add-one, ◌+◌, ◌≤◌}
use mir.Val.{bool_byte}
use Rattle.laws.specs.Ranks.{rank, rank-next, rank_most}
use Rattle.limits.specs.Limits.{max_places}
use Rattle.pruning.specs.Marking.{marked, mark_is}
use Rattle.pruning.specs.Writing.{numbers_done, numbers-none, numbers-next, numbers-all}
use Rattle.pruning.proofs.writing.numbers_of.Goals as goal

-- a mark as a number
mark-byte : (b : Bool) → bool_byte b ≡ cond b 1 0
mark-byte true = refl
mark-byte false = refl

mark-most : (b : Bool) → bool_byte b ≤ 1
mark-most true = omega arith
mark-most false = omega arith

pub loop-j-init : goal.loop-j-init
unfolding rank
loop-j-init c = record { next = refl; numbers = sym (numbers-none _) }

pub overflow_add-next : goal.overflow_add-next
overflow_add-next c = omega (arith, c.loop-j.invariant.next, c.from-next.ensures, mark-most (get_or c.args.marks.now c.loop-j.j false), rank_most (marked c.args.marks.now) c.loop-j.j, c.loop-j-test.true)

pub loop-j-preserved : goal.loop-j-preserved
loop-j-preserved c =
    let marks = c.args.marks.now in
    let j = c.loop-j.j in
    let inv = c.loop-j.invariant in
    let more : rank (marked marks) (j + 1) ≡ rank (marked marks) j + cond (get_or marks j false) 1 0
    = ap (rank (marked marks)) (add-one j) ∙ rank-next (marked marks) j ∙ rw (mark_is marks j) in
    let written : set (numbers_done (marked marks) j) j c.loop-j.next ≡ numbers_done (marked marks) (j + 1) = rw inv.next (numbers-next (marked marks) j) in
    record {
      next = rw (inv.next, more, c.from-next.ensures, mark-byte (get_or marks j false)) refl;
      numbers = rw inv.numbers written;
    }

pub returns : goal.returns
returns c =
    let all : c.loop-j.j ≡ max_places = omega (arith, c.loop-j.auto.j-end, c.loop-j-test.false) in
    c.loop-j.invariant.numbers ∙ rw all (numbers-all _)
