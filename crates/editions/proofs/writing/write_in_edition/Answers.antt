-- `editions::writing::write_in_edition` meets its contract: five parts, one behind the other.
use Rattle.std.proofs.Common.{rules, ◌≡◌, refl, sym, ap, ap₂, ◌∙◌, arith, [], ◌∷◌, ◌+◌, ◌*◌, ◌%◌, ℕ, List, length, get_or}
use Rattle.limits.specs.Limits.{new_edition}
use mathlib.Core.List.{flat_map}
use Rattle.bundles.specs.Layout.{front_bytes, first_of, first_in, entry_bytes, place_bytes}
use Rattle.contents.specs.Contents.{contents_of}
use Rattle.writer.specs.Pushing.{pushed-front}
use Rattle.editions.specs.Converting.{in_edition}
use Rattle.editions.specs.Writing.{front-long, count-byte, first-byte, lengths, all-pushed}
use Rattle.editions.proofs.writing.write_in_edition.Goals as goal
use Rattle.editions.proofs.writing.write_in_edition.Goals.{After-from, After-push, After-write_words, After-push-3}

pub bounds-parts-0 : goal.bounds-parts-0
bounds-parts-0 c = omega (arith, front-long _ _ c.args.parts.now.front_is)

pub bounds-parts-1 : goal.bounds-parts-1
bounds-parts-1 c = omega (arith, front-long _ _ c.args.parts.now.front_is)

-- the first two bytes
first : (c : After-from) → let contents = contents_of c.args.parts.now.bundle.now in
    let front = c.args.parts.now.front.now in
    (get_or front 0 0 % new_edition + new_edition * c.from.result) ∷ get_or front 1 0 ∷ []
    ≡ first_of (first_in (in_edition c.args.is_new contents).head) ∷ length contents.head.entries ∷ []
unfolding front_bytes
first c =
    let parts = c.args.parts.now in
    let contents = contents_of parts.bundle.now in
    let front = ap (λ (l : List ℕ). get_or l 0 0) parts.front_is in
    let byte = first-byte c.args.is_new contents parts.judged.limits (get_or parts.front.now 0 0) front in
    ap₂ (λ (a b : ℕ). a ∷ b ∷ []) (rw c.from.ensures byte) (count-byte contents.head _ parts.front_is)

-- where the writer stands behind each part
behind_first : (c : After-push) → (c.push.new.self.end ≡ 2) × (length c.push.new.self.output.now ≡ length c.args.output.now)
behind_first c = (c.push.ensures.ends, c.push.ensures.size)

behind_words : (c : After-write_words) → let words = flat_map (entry_bytes c.args.is_new) (contents_of c.args.parts.now.bundle.now).head.entries in
    (c.write_words.new.writer.end ≡ 2 + length words) × (length c.write_words.new.writer.output.now ≡ length c.args.output.now)
behind_words c =
    let (end, size) = behind_first (goal.at.After-write_words c).After-push in
    (omega (arith, c.write_words.ensures.ends, end), c.write_words.ensures.size ∙ size)

behind_places : (c : After-push-3) → let h = (contents_of c.args.parts.now.bundle.now).head in
    (c.push-3.new.self.end ≡ 3 + length (flat_map (entry_bytes c.args.is_new) h.entries) + length (flat_map place_bytes h.places))
    × (length c.push-3.new.self.output.now ≡ length c.args.output.now)
behind_places c =
    let (end, size) = behind_words (goal.at.After-push-3 c).After-write_words in
    let places = ap length c.args.parts.now.places_are in
    (omega (arith, c.push-3.ensures.ends, c.push-2.ensures.ends, end, places), c.push-3.ensures.size ∙ c.push-2.ensures.size ∙ size)

pub push-requires : goal.push-requires
push-requires c = omega (arith, c.requires.room, lengths c.args.is_new (contents_of c.args.parts.now.bundle.now))

pub write_words-requires-clause-room : goal.write_words-requires-clause-room
write_words-requires-clause-room c =
    let (end, size) = behind_first (goal.at.write_words-requires-clause-room c).After-push in
    omega (arith, c.requires.room, lengths c.args.is_new (contents_of c.args.parts.now.bundle.now), end, size)

pub push-requires-2 : goal.push-requires-2
push-requires-2 c =
    let (end, size) = behind_words (goal.at.push-requires-2 c).After-write_words in
    omega (arith, c.requires.room, lengths c.args.is_new (contents_of c.args.parts.now.bundle.now), end, size)

pub push-requires-3 : goal.push-requires-3
push-requires-3 c =
    let (end, size) = behind_words (goal.at.push-requires-3 c).After-write_words in
    let places = ap length c.args.parts.now.places_are in
    let parts = lengths c.args.is_new (contents_of c.args.parts.now.bundle.now) in
    omega (arith, c.requires.room, parts, end, size, places, c.push-2.ensures.ends, c.push-2.ensures.size)

pub write_certificates-requires-clause-room : goal.write_certificates-requires-clause-room
write_certificates-requires-clause-room c =
    let (end, size) = behind_places (goal.at.write_certificates-requires-clause-room c).After-push-3 in
    omega (arith, c.requires.room, lengths c.args.is_new (contents_of c.args.parts.now.bundle.now), end, size)

pub returns : goal.returns
returns c =
    let at = goal.at.returns c in
    let parts = c.args.parts.now in
    let p₁ = rw (first at.After-from) at c.push.ensures in
    let p₃ = rw parts.count_is at c.push-2.ensures in
    let p₄ = rw parts.places_are at c.push-3.ensures in
    let p₂ = c.write_words.ensures in
    let all = all-pushed c.args.is_new (contents_of parts.bundle.now) p₁ p₂ p₃ p₄ c.write_certificates.ensures refl c.requires.room in
    let same = sym all.reference in
    let is = pushed-front all refl in
    search rules
