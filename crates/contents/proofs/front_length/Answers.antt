-- `contents::front_length` meets its contract.
use Rattle.std.proofs.Common.{◌≡◌, ap, ◌∙◌, arith, List, ◌+◌, ◌≤◌, length, take, get_or}
use Rattle.std.proofs.Math.Seq.{take_all}
use mathlib.Core.List.{flat_map}
use mir.Val.{bool_byte}
use Rattle.nets.specs.Nets.{Entry}
use Rattle.bundles.specs.Layout.{front_bytes}
use Rattle.contents.specs.Contents.{contents_of, front-inside}
use Rattle.contents.specs.Walking.{entries_in, entry_in, word_count, word-length}
use Rattle.contents.proofs.front_length.Goals as goal
use Rattle.contents.proofs.front_length.Goals.{In-loop-word}

pub bounds-bundle-1 : goal.bounds-bundle-1
bounds-bundle-1 c = let inside = front-inside c.requires.judged in omega (arith, inside.0, inside.1)

pub loop-word-init : goal.loop-word-init
unfolding flat_map
loop-word-init c = omega arith

-- the word of a turn
word : (c : In-loop-word) → let b = c.args.bundle.now in
    let at = c.loop-word.at in
    let size = 1 + bool_byte (contents_of b).head.is_new + get_or b at 0 in
    (at + size ≤ length b) × (at + size ≡ 2 + length (flat_map (entry_in b) (take (c.loop-word._word + 1) (entries_in b))))
word c =
    word-length c.requires.judged c.loop-word._word c.loop-word.at
    (omega (arith, word_count c.requires.judged, c.loop-word-test.true))
    c.loop-word.invariant

-- and the bytes of its mark
marks : (c : In-loop-word) → c.from-marks.result ≡ bool_byte (contents_of c.args.bundle.now).head.is_new
marks c = c.from-marks.ensures ∙ ap bool_byte c.requires.edition

pub bounds-bundle-at : goal.bounds-bundle-at
bounds-bundle-at c = omega (arith, (word (goal.at.bounds-bundle-at c).In-loop-word).0)

pub overflow_add-at-in-loop-word-2 : goal.overflow_add-at-in-loop-word-2
overflow_add-at-in-loop-word-2 c =
    let here = (goal.at.overflow_add-at-in-loop-word-2 c).In-loop-word in
    omega (arith, (word here).0, marks here, c.from.ensures)

pub loop-word-preserved : goal.loop-word-preserved
loop-word-preserved c =
    let here = (goal.at.loop-word-preserved c).In-loop-word in
    omega (arith, (word here).1, marks here, c.from.ensures)

pub returns : goal.returns
unfolding front_bytes
returns c =
    let b = c.args.bundle.now in
    let all : take c.loop-word._word (entries_in b) ≡ entries_in b =
    take_all c.loop-word._word (entries_in b) (omega (arith, word_count c.requires.judged, c.loop-word-test.false)) in
    omega (arith, c.loop-word.invariant, ap (λ (l : List Entry). length (flat_map (entry_in b) l)) all)
