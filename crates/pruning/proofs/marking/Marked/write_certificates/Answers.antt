-- `pruning::marking::Marked::write_certificates` meets its contract.
use Rattle.std.proofs.Common.{◌≡◌, refl, sym, ap, ◌∙◌, subst, arith, [], ◌∷◌, ◌<◌, length, get_or, length-append}
use Rattle.std.proofs.Math.Seq.{take_all}
use Rattle.laws.specs.Rewriting.{rewritten}
use Rattle.limits.specs.Limits.{max_places}
use Rattle.contents.specs.Contents.{contents_of}
use Rattle.contents.specs.Certificates.{piece_of, no_certificate}
use Rattle.contents.specs.Shown.{shown}
use Rattle.contents.specs.Walks.{AllToCome, walk-turn, walk-end}
use Rattle.pruning.specs.Marking.{place-below}
use Rattle.writer.specs.Pushing.{HasRoom, Pushed, pushed-none, piece-room, piece-pushed}
use Rattle.pruning.specs.Writing.{certificate_piece, certificates-all, piece-place, piece-weights}
use Rattle.pruning.proofs.marking.Marked.write_certificates.Goals as goal
use Rattle.pruning.proofs.marking.Marked.write_certificates.Goals.{Start, After-into_iter-certificate-iterator, In-Some, In-Place, In-Weights, After-from-in-Place}

pub loop-certificate-init : goal.loop-certificate-init
unfolding rewritten
loop-certificate-init c = pushed-none c.args.writer.now

-- there is room for all of them
room : (c : Start) → let contents = contents_of c.args.self.now.parts.bundle.now in HasRoom c.args.writer.now (rewritten (certificate_piece contents) contents.certificates)
room c = rw (certificates-all (contents_of c.args.self.now.parts.bundle.now)) c.requires

-- the loop goes over the certificates
all : (c : After-into_iter-certificate-iterator) → AllToCome (contents_of c.args.self.now.parts.bundle.now) c.into_iter-certificate-iterator.result
all c = rw c.into_iter-certificate-iterator.ensures.into_iter_gives c.each_certificate-certificate-items.ensures

-- the certificate of a turn
turn : (c : In-Some) → let contents = contents_of c.args.self.now.parts.bundle.now in
    let k = length c.loop-certificate.yielded in
    (k < length contents.certificates)
    × (shown c.in-Some.certificate ≡ piece_of contents.head.is_new (get_or contents.certificates k no_certificate))
turn c =
    walk-turn (contents_of c.args.self.now.parts.bundle.now) _ (all (goal.at.In-Some c).After-into_iter-certificate-iterator)
    c.loop-certificate.yielded _ c.loop-certificate.yielded_by _ c.next.new.self c.in-Some.certificate c.in-Some.is c.next.ensures.steps

below : (c : In-Place) → c.in-Place.place < max_places
below c =
    let (more, is) = turn (goal.at.In-Place c).In-Some in
    let parts = c.args.self.now.parts in
    place-below (contents_of parts.bundle.now) parts.judged.limits _ more c.in-Place.place (ap shown (sym c.in-Place.is) ∙ is)

pub bounds-numbers-from : goal.bounds-numbers-from
bounds-numbers-from c = omega (arith, c.from-in-Place.ensures, below (goal.at.bounds-numbers-from c).In-Place)

-- what is written for it: a place's new number behind its kind
renumbered_place : (c : After-from-in-Place) → let contents = contents_of c.args.self.now.parts.bundle.now in
    let k = length c.loop-certificate.yielded in
    certificate_piece contents k (get_or contents.certificates k no_certificate) ≡ c.from.result ∷ get_or c.numbers-numbers.result c.from-in-Place.result 0 ∷ []
renumbered_place c =
    let at = goal.at.After-from-in-Place c in
    let self = c.args.self.now in
    piece-place (contents_of self.parts.bundle.now) _ c.in-Place.place (ap shown (sym c.in-Place.is) ∙ (turn at.In-Some).1) (below at.In-Place)
    ∙ rw (c.from.ensures, c.from-in-Place.ensures, c.numbers-numbers.ensures, self.marks_are) refl

-- or weights as they are
same_weights : (c : In-Weights) → let contents = contents_of c.args.self.now.parts.bundle.now in
    let k = length c.loop-certificate.yielded in
    certificate_piece contents k (get_or contents.certificates k no_certificate) ≡ c.in-Weights.bytes.now
same_weights c =
    piece-weights (contents_of c.args.self.now.parts.bundle.now) _ c.in-Weights.bytes.now (ap shown (sym c.in-Weights.is) ∙ (turn (goal.at.In-Weights c).In-Some).1)

pub push-requires : goal.push-requires
push-requires c =
    let at = goal.at.push-requires c in
    let contents = contents_of c.args.self.now.parts.bundle.now in
    piece-room (certificate_piece contents) contents.certificates _ c.loop-certificate.invariant no_certificate (turn at.In-Some).0 (room at.Start) _
    (renumbered_place at.After-from-in-Place)

pub push-requires-in-Weights : goal.push-requires-in-Weights
push-requires-in-Weights c =
    let at = goal.at.push-requires-in-Weights c in
    let contents = contents_of c.args.self.now.parts.bundle.now in
    piece-room (certificate_piece contents) contents.certificates _ c.loop-certificate.invariant no_certificate (turn at.In-Some).0 (room at.Start) _
    (same_weights at.In-Weights)

pub loop-certificate-preserved-in-Place : goal.loop-certificate-preserved-in-Place
loop-certificate-preserved-in-Place c =
    let at = goal.at.loop-certificate-preserved-in-Place c in
    let contents = contents_of c.args.self.now.parts.bundle.now in
    rw length-append
    (piece-pushed (certificate_piece contents) contents.certificates _ c.loop-certificate.invariant no_certificate (turn at.In-Some).0 (room at.Start) _
    (renumbered_place at.After-from-in-Place) c.push.ensures)

pub loop-certificate-preserved : goal.loop-certificate-preserved
loop-certificate-preserved c =
    let at = goal.at.loop-certificate-preserved c in
    let contents = contents_of c.args.self.now.parts.bundle.now in
    rw length-append
    (piece-pushed (certificate_piece contents) contents.certificates _ c.loop-certificate.invariant no_certificate (turn at.In-Some).0 (room at.Start) _
    (same_weights at.In-Weights) c.push-in-Weights.ensures)

pub returns : goal.returns
returns c =
    let contents = contents_of c.args.self.now.parts.bundle.now in
    let cs = contents.certificates in
    let count =
    walk-end contents _ (all (goal.at.returns c).After-into_iter-certificate-iterator) c.loop-certificate.yielded _ c.loop-certificate.yielded_by _
    c.next.new.self c.in-None.is c.next.ensures.steps in
    let whole = take_all (length c.loop-certificate.yielded) cs (omega (arith, count)) in
    subst (Pushed c.args.writer.now c.loop-certificate.writer) (ap (rewritten (certificate_piece contents)) whole ∙ certificates-all contents) c.loop-certificate.invariant
