-- `editions::writing::write_certificates` meets its contract.
use Rattle.std.proofs.Common.{◌≡◌, sym, ap, ◌∙◌, subst, arith, [], ◌∷◌, ◌++◌, ◌-◌, ◌<◌, length, take, get_or, ℕ, length-append}
use Rattle.std.proofs.Math.Seq.{take_all}
use mir.Val.{bool_byte}
use Rattle.laws.specs.Every.{every_member}
use Rattle.laws.specs.Lists.{get_d_member}
use Rattle.laws.specs.Rewriting.{rewritten, rewritten-each}
use Rattle.bundles.specs.Layout.{certificate_bytes}
use Rattle.verdicts.specs.OldEdition.{NoPairs}
use Rattle.contents.specs.Contents.{contents_of}
use Rattle.contents.specs.Certificates.{piece_of, no_certificate, place-back}
use Rattle.contents.specs.Shown.{shown}
use Rattle.contents.specs.Walks.{AllToCome, walk-turn, walk-end}
use Rattle.writer.specs.Pushing.{HasRoom, Pushed, pushed-none, pushed-next, room_behind, piece-room, piece-pushed}
use Rattle.editions.specs.Writing.{room-first, room-shorter, pairless-fits, weights-piece}
use Rattle.editions.proofs.writing.write_certificates.Goals as goal
use Rattle.editions.proofs.writing.write_certificates.Goals.{Start, After-into_iter-certificate-iterator, In-Some, In-Place, In-Weights}

pub loop-certificate-init : goal.loop-certificate-init
unfolding rewritten
loop-certificate-init c = pushed-none c.args.writer.now

-- there is room for all of them
room : (c : Start)
    → HasRoom c.args.writer.now (rewritten (λ i. certificate_bytes c.args.is_new) (contents_of c.args.parts.now.bundle.now).certificates)
room c = rw (rewritten-each (certificate_bytes c.args.is_new) (contents_of c.args.parts.now.bundle.now).certificates) c.requires.room

-- the loop goes over the certificates
all : (c : After-into_iter-certificate-iterator) → AllToCome (contents_of c.args.parts.now.bundle.now) c.into_iter-certificate-iterator.result
all c = rw c.into_iter-certificate-iterator.ensures.into_iter_gives c.each_certificate-certificate-items.ensures

-- the certificate of a turn
turn : (c : In-Some) → let contents = contents_of c.args.parts.now.bundle.now in
    let k = length c.loop-certificate.yielded in
    (k < length contents.certificates)
    × (shown c.in-Some.certificate ≡ piece_of contents.head.is_new (get_or contents.certificates k no_certificate))
turn c =
    walk-turn (contents_of c.args.parts.now.bundle.now) _ (all (goal.at.In-Some c).After-into_iter-certificate-iterator)
    c.loop-certificate.yielded _ c.loop-certificate.yielded_by _ c.next.new.self c.in-Some.certificate c.in-Some.is c.next.ensures.steps

-- what is written for it: a place as it is
as_place : (c : In-Place) → let contents = contents_of c.args.parts.now.bundle.now in
    certificate_bytes c.args.is_new (get_or contents.certificates (length c.loop-certificate.yielded) no_certificate) ≡ 0 ∷ c.in-Place.place ∷ []
unfolding certificate_bytes
as_place c =
    let contents = contents_of c.args.parts.now.bundle.now in
    ap (certificate_bytes c.args.is_new)
    (place-back contents.head.is_new _ c.in-Place.place (ap shown (sym c.in-Place.is) ∙ (turn (goal.at.In-Place c).In-Some).1))

-- weights without their pair count, behind which a new one may stand
in_walk : (c : In-Weights) → let contents = contents_of c.args.parts.now.bundle.now in
    shown c.in-Some.certificate ≡ piece_of contents.head.is_new (get_or contents.certificates (length c.loop-certificate.yielded) no_certificate)
in_walk c = (turn (goal.at.In-Weights c).In-Some).1

as_weights : (c : In-Weights) → let contents = contents_of c.args.parts.now.bundle.now in
    let bytes = c.in-Weights.bytes.now in
    certificate_bytes c.args.is_new (get_or contents.certificates (length c.loop-certificate.yielded) no_certificate)
    ≡ take (length bytes - bool_byte c.args.parts.now.is_new) bytes ++ take (bool_byte c.args.is_new) (0 ∷ [])
as_weights c =
    let parts = c.args.parts.now in
    let contents = contents_of parts.bundle.now in
    let there = (turn (goal.at.In-Weights c).In-Some).0 in
    rw parts.edition_is
    (weights-piece contents.head.is_new c.args.is_new _ c.in-Weights.bytes.now (ap shown (sym c.in-Weights.is) ∙ in_walk c)
    (every_member NoPairs contents.certificates c.requires.pairs
    (get_d_member contents.certificates (length c.loop-certificate.yielded) no_certificate there)))

pub push-requires : goal.push-requires
push-requires c =
    let at = goal.at.push-requires c in
    piece-room (λ i. certificate_bytes c.args.is_new) (contents_of c.args.parts.now.bundle.now).certificates _
    c.loop-certificate.invariant no_certificate
    (turn at.In-Some).0 (room at.Start) _ (as_place at.In-Place ∙ ap (λ (kind : ℕ). kind ∷ c.in-Place.place ∷ []) (sym c.from.ensures))

pub loop-certificate-preserved-in-Place : goal.loop-certificate-preserved-in-Place
loop-certificate-preserved-in-Place c =
    let at = goal.at.loop-certificate-preserved-in-Place c in
    rw length-append
    (piece-pushed (λ i. certificate_bytes c.args.is_new) (contents_of c.args.parts.now.bundle.now).certificates _
    c.loop-certificate.invariant no_certificate
    (turn at.In-Some).0 (room at.Start) _ (as_place at.In-Place) (rw c.from.ensures at c.push.ensures))

pub overflow_sub-terms : goal.overflow_sub-terms
overflow_sub-terms c =
    let at = goal.at.overflow_sub-terms c in
    let fits = pairless-fits _ _ c.in-Weights.bytes.now (ap shown (sym c.in-Weights.is) ∙ in_walk at.In-Weights) in
    omega (arith, c.from-in-Weights.ensures, ap bool_byte c.args.parts.now.edition_is, fits)

-- there is room for both pieces
room_for : (c : In-Weights) → HasRoom c.loop-certificate.writer
    (take (length c.in-Weights.bytes.now - bool_byte c.args.parts.now.is_new) c.in-Weights.bytes.now ++ take (bool_byte c.args.is_new) (0 ∷ []))
room_for c =
    let at = goal.at.In-Weights c in
    piece-room (λ i. certificate_bytes c.args.is_new) (contents_of c.args.parts.now.bundle.now).certificates _
    c.loop-certificate.invariant no_certificate
    (turn at.In-Some).0 (room at.Start) _ (as_weights c)

pub push-requires-in-Weights : goal.push-requires-in-Weights
push-requires-in-Weights c =
    let at = goal.at.push-requires-in-Weights c in
    rw c.from-in-Weights.ensures (room-first c.loop-certificate.writer _ _ (room_for at.In-Weights))

pub push-requires-in-Weights-2 : goal.push-requires-in-Weights-2
push-requires-in-Weights-2 c =
    let at = goal.at.push-requires-in-Weights-2 c in
    let behind = room_behind (rw c.from-in-Weights.ensures at c.push-in-Weights.ensures) _ (room_for at.In-Weights) in
    room-shorter _ _ (bool_byte c.args.is_new) (omega (arith, c.from-in-Weights-2.ensures)) c.push-in-Weights.new.self behind

pub loop-certificate-preserved : goal.loop-certificate-preserved
loop-certificate-preserved c =
    let at = goal.at.loop-certificate-preserved c in
    let first = rw c.from-in-Weights.ensures at c.push-in-Weights.ensures in
    let second = rw c.from-in-Weights-2.ensures at c.push-in-Weights-2.ensures in
    rw length-append
    (piece-pushed (λ i. certificate_bytes c.args.is_new) (contents_of c.args.parts.now.bundle.now).certificates _
    c.loop-certificate.invariant no_certificate
    (turn at.In-Some).0 (room at.Start) _ (as_weights at.In-Weights) (pushed-next first _ (room_for at.In-Weights) second))

pub returns : goal.returns
returns c =
    let cs = (contents_of c.args.parts.now.bundle.now).certificates in
    let count =
    walk-end (contents_of c.args.parts.now.bundle.now) _ (all (goal.at.returns c).After-into_iter-certificate-iterator) c.loop-certificate.yielded _
    c.loop-certificate.yielded_by _ c.next.new.self c.in-None.is c.next.ensures.steps in
    let whole = take_all (length c.loop-certificate.yielded) cs (omega (arith, count)) in
    subst (Pushed c.args.writer.now c.loop-certificate.writer)
    (ap (rewritten (λ i. certificate_bytes c.args.is_new)) whole ∙ rewritten-each (certificate_bytes c.args.is_new) cs) c.loop-certificate.invariant
