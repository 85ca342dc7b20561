-- `pruning::marking::Marked::write_places` meets its contract.
use Rattle.std.proofs.Common.{rules, ◌≡◌, refl, sym, ap, ◌∙◌, ⊎_elim, subst, arith, zero-mul, Bool, cond, List, [], ◌+◌, ◌≤◌, ◌<◌, length, take, get_or, length-append, length-drop}
use Rattle.std.proofs.Math.Seq.{take_all}
use Rattle.std.specs.Iterator.Adapters.{zip_first, zip_second}
use Rattle.std.specs.Slice.Iter.{chunks_exact_rest, chunks_exact_size, iter_rest}
use Rattle.laws.specs.Rewriting.{rewritten}
use Rattle.limits.specs.Limits.{max_places}
use Rattle.bundles.specs.Layout.{place_bytes}
use Rattle.contents.specs.Contents.{contents_of}
use Rattle.contents.specs.Walking.{no_place, place-there, place-cut, place-behind, places-end}
use Rattle.pruning.specs.Pruning.{named}
use Rattle.pruning.specs.Marking.{marked, length-marks, marks-named, mark-cut}
use Rattle.writer.specs.Pushing.{HasRoom, Pushed, pushed-none, piece-room, piece-pushed}
use Rattle.pruning.specs.Writing.{place_piece, places-all, PlacesBehind}
use Rattle.writer.specs.declared.Writer.{Writer}
use Rattle.pruning.proofs.marking.Marked.write_places.Goals as goal
use Rattle.pruning.proofs.marking.Marked.write_places.Goals.{Start, In-Some}

pub loop-place-init : goal.loop-place-init
unfolding rewritten
loop-place-init c =
    rw (c.into_iter-place-iterator.ensures.into_iter_gives, c.zip-place-items.ensures.first)
    record {
      most = omega arith;
      size_is = c.chunks_exact-places.ensures.size;
      rest = c.chunks_exact-places.ensures.rest ∙ rw (zero-mul c.args.self.now.parts.place_size);
      marks_left = search rules;
      pushed = pushed-none c.args.writer.now;
    }

-- there is room for all of them
room : (c : Start) → let contents = contents_of c.args.self.now.parts.bundle.now in HasRoom c.args.writer.now (rewritten (place_piece contents) contents.head.places)
room c = rw (places-all (contents_of c.args.self.now.parts.bundle.now)) c.requires

-- the place of a turn, and its mark
there : (c : In-Some) → length c.loop-place.yielded < length (contents_of c.args.self.now.parts.bundle.now).head.places
there c =
    let inv = c.loop-place.invariant in
    let parts = c.args.self.now.parts in
    let cut = c.in-Some.ensures.steps.0.1 in
    place-there parts.judged parts.places_are parts.size_is _ _ inv.rest _ _ cut.0 (cut.1 ∙ inv.size_is)

bytes : (c : In-Some) → c.in-Some.place.now ≡ place_bytes (get_or (contents_of c.args.self.now.parts.bundle.now).head.places (length c.loop-place.yielded) no_place)
bytes c =
    let inv = c.loop-place.invariant in
    let parts = c.args.self.now.parts in
    let cut = c.in-Some.ensures.steps.0.1 in
    place-cut parts.judged parts.places_are parts.size_is _ _ inv.rest _ _ cut.0 (cut.1 ∙ inv.size_is)

mark : (c : In-Some) → named (contents_of c.args.self.now.parts.bundle.now).certificates (length c.loop-place.yielded) ≡ c.in-Some.mark.now
mark c =
    let self = c.args.self.now in
    let k = length c.loop-place.yielded in
    let few : k < max_places = omega (arith, there c, self.parts.judged.limits.head.places_size) in
    sym (marks-named (contents_of self.parts.bundle.now).certificates k few)
    ∙ sym (ap (λ (l : List Bool). marked l k) self.marks_are)
    ∙ (mark-cut self.marks k _ _ (sym c.loop-place.invariant.marks_left ∙ c.in-Some.ensures.steps.1)).0

-- what is written for it
piece : (c : In-Some) → let contents = contents_of c.args.self.now.parts.bundle.now in
    let k = length c.loop-place.yielded in
    place_piece contents k (get_or contents.head.places k no_place) ≡ cond c.in-Some.mark.now c.in-Some.place.now []
piece c = rw (mark c, bytes c) refl

pub push-requires : goal.push-requires
push-requires c =
    let at = goal.at.push-requires c in
    let contents = contents_of c.args.self.now.parts.bundle.now in
    piece-room (place_piece contents) contents.head.places _ c.loop-place.invariant.pushed no_place (there at.In-Some) (room at.Start) c.in-Some.place.now
    (piece at.In-Some ∙ rw c.if-mark.true)

-- what is left behind it
turned : (c : In-Some) → let self = c.args.self.now in
    let contents = contents_of self.parts.bundle.now in
    let next = length c.loop-place.yielded + 1 in
    let places = zip_first c.next.new.self in
    (after : Writer) → Pushed c.args.writer.now after (rewritten (place_piece contents) (take next contents.head.places))
    → PlacesBehind self next (chunks_exact_size places) (chunks_exact_rest places) (iter_rest (zip_second c.next.new.self)) c.args.writer.now after
turned c after pushed =
    let inv = c.loop-place.invariant in
    let parts = c.args.self.now.parts in
    let cut = c.in-Some.ensures.steps.0.1 in
    record {
      most = omega (arith, there c);
      size_is = c.in-Some.ensures.steps.0.0 ∙ inv.size_is;
      rest = place-behind parts.judged parts.places_are parts.size_is _ _ inv.rest _ _ cut.0 (cut.1 ∙ inv.size_is);
      marks_left = (mark-cut c.args.self.now.marks (length c.loop-place.yielded) _ _ (sym inv.marks_left ∙ c.in-Some.ensures.steps.1)).1;
      pushed = pushed;
    }

pub loop-place-preserved-then-mark : goal.loop-place-preserved-then-mark
loop-place-preserved-then-mark c =
    let at = goal.at.loop-place-preserved-then-mark c in
    let contents = contents_of c.args.self.now.parts.bundle.now in
    rw length-append (turned at.In-Some _ (piece-pushed (place_piece contents) contents.head.places _ c.loop-place.invariant.pushed no_place (there at.In-Some) (room at.Start) c.in-Some.place.now
    (piece at.In-Some ∙ rw c.if-mark.true) c.push.ensures))

pub loop-place-preserved : goal.loop-place-preserved
loop-place-preserved c =
    let at = goal.at.loop-place-preserved c in
    let contents = contents_of c.args.self.now.parts.bundle.now in
    rw length-append (turned at.In-Some _ (piece-pushed (place_piece contents) contents.head.places _ c.loop-place.invariant.pushed no_place (there at.In-Some) (room at.Start) []
    (piece at.In-Some ∙ rw c.if-mark.false) (pushed-none c.loop-place.writer)))

pub returns : goal.returns
returns c =
    let self = c.args.self.now in
    let parts = self.parts in
    let inv = c.loop-place.invariant in
    let contents = contents_of self.parts.bundle.now in
    let k = length c.loop-place.yielded in
    let all : length contents.head.places ≤ k = ⊎_elim
    (λ (end, stops). places-end parts.judged parts.places_are parts.size_is k _ inv.rest (omega (arith, stops.1.0, inv.size_is)))
    (λ (end, stops). omega (arith, stops.0, ap length inv.marks_left, length-drop k self.marks, parts.judged.limits.head.places_size, ap length self.marks_are, length-marks contents.certificates))
    c.in-None.ensures.steps in
    subst (Pushed c.args.writer.now c.loop-place.writer) (ap (rewritten (place_piece contents)) (take_all k contents.head.places all) ∙ places-all contents) inv.pushed
