-- `editions::writing::write_words` meets its contract.
use Rattle.std.proofs.Common.{◌≡◌, sym, ap, ◌∙◌, subst, arith, [], ◌∷◌, ◌++◌, ◌+◌, ◌<◌, ◌≤◌, length, take, get_or, length-append}
use Rattle.std.proofs.Math.Seq.{take_all}
use mir.Val.{bool_byte}
use Rattle.laws.specs.Every.{every_member}
use Rattle.laws.specs.Lists.{get_d_member}
use Rattle.laws.specs.Rewriting.{rewritten, rewritten-each}
use Rattle.nets.specs.Nets.{Entry, no_entry}
use Rattle.bundles.specs.Layout.{EntryInLimits, first_in, entry_bytes}
use Rattle.contents.specs.Contents.{contents_of}
use Rattle.contents.specs.Shown.{shown_word}
use Rattle.contents.specs.Walks.{AllWords, word-turn, words-end}
use Rattle.writer.specs.Pushing.{HasRoom, Pushed, pushed-none, pushed-next, piece-room, piece-pushed}
use Rattle.editions.specs.Writing.{room-first, room-shorter, room-next, word-piece}
use Rattle.editions.proofs.writing.write_words.Goals as goal
use Rattle.editions.proofs.writing.write_words.Goals.{Start, After-into_iter-word-iterator, In-Some}

pub loop-word-init : goal.loop-word-init
unfolding rewritten
loop-word-init c = pushed-none c.args.writer.now

-- there is room for all of them
room : (c : Start) → HasRoom c.args.writer.now (rewritten (λ i. entry_bytes c.args.is_new) (contents_of c.args.parts.now.bundle.now).head.entries)
room c = rw (rewritten-each (entry_bytes c.args.is_new) (contents_of c.args.parts.now.bundle.now).head.entries) c.requires.room

-- the loop goes over the words
all : (c : After-into_iter-word-iterator) → AllWords (contents_of c.args.parts.now.bundle.now) c.into_iter-word-iterator.result
all c = rw c.into_iter-word-iterator.ensures.into_iter_gives c.each_word-word-items.ensures

-- the word of a turn
turn : (c : In-Some) → let xs = (contents_of c.args.parts.now.bundle.now).head.entries in
    let k = length c.loop-word.yielded in
    (k < length xs) × (shown_word c.in-Some.word ≡ get_or xs k no_entry)
turn c =
    word-turn (contents_of c.args.parts.now.bundle.now) _ (all (goal.at.In-Some c).After-into_iter-word-iterator) c.loop-word.yielded _
    c.loop-word.yielded_by _ c.next.new.self c.in-Some.word c.in-Some.is c.next.ensures.steps

-- it has at most 255 events
short : (c : In-Some) → length c.in-Some.word.events.now ≤ 255
short c =
    let parts = c.args.parts.now in
    let h = (contents_of parts.bundle.now).head in
    let (more, is) = turn c in
    let limits = every_member (EntryInLimits (first_in h)) h.entries parts.judged.limits.head.entries (get_d_member h.entries _ no_entry more) in
    omega (arith, ap (λ (x : Entry). length x.word) is, limits.size)

-- what is written for it
as_word : (c : In-Some) → let events = c.in-Some.word.events.now in
    entry_bytes c.args.is_new (get_or (contents_of c.args.parts.now.bundle.now).head.entries (length c.loop-word.yielded) no_entry)
    ≡ take (1 + bool_byte c.args.is_new) (length events ∷ 0 ∷ []) ++ events
as_word c =
    let (more, is) = turn c in
    let partial = c.requires.partial _ (get_d_member (contents_of c.args.parts.now.bundle.now).head.entries _ no_entry more) in
    ap (entry_bytes c.args.is_new) (sym is)
    ∙ word-piece c.args.is_new (shown_word c.in-Some.word) (ap (λ (x : Entry). x.completed) is ∙ partial)

-- there is room for both pieces
room_for : (c : In-Some) → let events = c.in-Some.word.events.now in
    HasRoom c.loop-word.writer (take (1 + bool_byte c.args.is_new) (length events ∷ 0 ∷ []) ++ events)
room_for c =
    piece-room (λ i. entry_bytes c.args.is_new) (contents_of c.args.parts.now.bundle.now).head.entries _ c.loop-word.invariant no_entry (turn c).0
    (room (goal.at.In-Some c).Start) _ (as_word c)

pub overflow_cast-word : goal.overflow_cast-word
overflow_cast-word c = omega (arith, short (goal.at.overflow_cast-word c).In-Some)

pub push-requires : goal.push-requires
push-requires c =
    room-shorter _ _ (1 + bool_byte c.args.is_new) (omega (arith, c.from.ensures)) c.loop-word.writer
    (room-first c.loop-word.writer _ _ (room_for (goal.at.push-requires c).In-Some))

pub push-requires-in-loop-word : goal.push-requires-in-loop-word
push-requires-in-loop-word c =
    room-next _ _ (1 + bool_byte c.args.is_new) (omega (arith, c.from.ensures)) _ c.push.ensures
    (room_for (goal.at.push-requires-in-loop-word c).In-Some)

pub loop-word-preserved : goal.loop-word-preserved
loop-word-preserved c =
    let at = goal.at.loop-word-preserved c in
    let first = rw c.from.ensures at c.push.ensures in
    rw length-append
    (piece-pushed (λ i. entry_bytes c.args.is_new) (contents_of c.args.parts.now.bundle.now).head.entries _ c.loop-word.invariant no_entry
    (turn at.In-Some).0 (room at.Start) _ (as_word at.In-Some) (pushed-next first _ (room_for at.In-Some) c.push-in-loop-word.ensures))

pub returns : goal.returns
returns c =
    let xs = (contents_of c.args.parts.now.bundle.now).head.entries in
    let count =
    words-end (contents_of c.args.parts.now.bundle.now) _ (all (goal.at.returns c).After-into_iter-word-iterator) c.loop-word.yielded _
    c.loop-word.yielded_by _ c.next.new.self c.in-None.is c.next.ensures.steps in
    let whole = take_all (length c.loop-word.yielded) xs (omega (arith, count)) in
    subst (Pushed c.args.writer.now c.loop-word.writer)
    (ap (rewritten (λ i. entry_bytes c.args.is_new)) whole ∙ rewritten-each (entry_bytes c.args.is_new) xs) c.loop-word.invariant
