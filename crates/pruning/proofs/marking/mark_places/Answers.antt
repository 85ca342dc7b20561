-- `pruning::marking::mark_places` meets its contract.
use Rattle.std.proofs.Common.{◌≡◌, sym, ap, ◌∙◌, arith, ◌<◌, length, get_or, length-append}
use Rattle.std.proofs.Math.Seq.{take_all}
use Rattle.contents.specs.Contents.{contents_of}
use Rattle.contents.specs.Certificates.{piece_of, no_certificate}
use Rattle.contents.specs.Shown.{shown}
use Rattle.contents.specs.Walks.{AllToCome, walk-turn, walk-end}
use Rattle.pruning.specs.Marking.{marks_of, marks-none, walk_place, walk_weights, place-below}
use Rattle.pruning.proofs.marking.mark_places.Goals as goal
use Rattle.pruning.proofs.marking.mark_places.Goals.{After-into_iter-certificate-iterator, In-Some, In-None}

pub loop-certificate-init : goal.loop-certificate-init
loop-certificate-init c = sym marks-none

-- the loop goes over the certificates
all : (c : After-into_iter-certificate-iterator) → AllToCome (contents_of c.args.parts.now.bundle.now) c.into_iter-certificate-iterator.result
all c = rw c.into_iter-certificate-iterator.ensures.into_iter_gives c.each_certificate-certificate-items.ensures

-- the certificate of a turn
turn : (c : In-Some) → let contents = contents_of c.args.parts.now.bundle.now in
    let k = length c.loop-certificate.yielded in
    (k < length contents.certificates)
    × (shown c.in-Some.certificate ≡ piece_of contents.head.is_new (get_or contents.certificates k no_certificate))
turn c =
    walk-turn (contents_of c.args.parts.now.bundle.now) _ (all (goal.at.In-Some c).After-into_iter-certificate-iterator)
    c.loop-certificate.yielded _ c.loop-certificate.yielded_by _ c.next.new.self c.in-Some.certificate c.in-Some.is c.next.ensures.steps

pub bounds-marks-from : goal.bounds-marks-from
bounds-marks-from c =
    let (more, is) = turn (goal.at.bounds-marks-from c).In-Some in
    let contents = contents_of c.args.parts.now.bundle.now in
    omega (arith, c.from.ensures, place-below contents c.args.parts.now.judged.limits _ more c.in-Place.place (ap shown (sym c.in-Place.is) ∙ is))

pub loop-certificate-preserved-in-Place : goal.loop-certificate-preserved-in-Place
loop-certificate-preserved-in-Place c =
    let (more, is) = turn (goal.at.loop-certificate-preserved-in-Place c).In-Some in
    rw (c.from.ensures, c.loop-certificate.invariant, length-append)
    (walk_place (contents_of c.args.parts.now.bundle.now).head.is_new _ _ more c.in-Place.place (ap shown (sym c.in-Place.is) ∙ is))

pub loop-certificate-preserved : goal.loop-certificate-preserved
loop-certificate-preserved c =
    let (more, is) = turn (goal.at.loop-certificate-preserved c).In-Some in
    rw (c.loop-certificate.invariant, length-append)
    (walk_weights (contents_of c.args.parts.now.bundle.now).head.is_new _ _ more c.in_default.field-0.now (ap shown (sym c.in_default.is) ∙ is))

pub returns : goal.returns
returns c =
    let contents = contents_of c.args.parts.now.bundle.now in
    let count =
    walk-end contents _ (all (goal.at.returns c).After-into_iter-certificate-iterator) c.loop-certificate.yielded _ c.loop-certificate.yielded_by _
    c.next.new.self c.in-None.is c.next.ensures.steps in
    c.loop-certificate.invariant ∙ ap marks_of (take_all (length c.loop-certificate.yielded) contents.certificates (omega (arith, count)))
