-- `pruning::marking::Marked::write` meets its contract: four parts, one behind the other.
use Rattle.std.proofs.Common.{rules, refl, sym, ap, arith, length}
use Rattle.contents.specs.Contents.{contents_of}
use Rattle.writer.specs.Pushing.{pushed-front}
use Rattle.pruning.specs.Writing.{lengths, count-room, places-room, certificates-room, all-pushed}
use Rattle.pruning.proofs.marking.Marked.write.Goals as goal

pub push-requires : goal.push-requires
push-requires c =
    let self = c.args.self.now in
    omega (arith, c.requires, ap length self.parts.front_is, lengths (contents_of self.parts.bundle.now))

pub push-requires-2 : goal.push-requires-2
push-requires-2 c =
    let self = c.args.self.now in
    let front = rw self.parts.front_is at c.push.ensures in
    count-room (contents_of self.parts.bundle.now) _ refl c.requires _ front self.kept

pub write_places-requires : goal.write_places-requires
write_places-requires c =
    let self = c.args.self.now in
    let front = rw self.parts.front_is at c.push.ensures in
    places-room (contents_of self.parts.bundle.now) _ refl c.requires _ front _ _ c.push-2.ensures

pub write_certificates-requires : goal.write_certificates-requires
write_certificates-requires c =
    let self = c.args.self.now in
    let front = rw self.parts.front_is at c.push.ensures in
    certificates-room (contents_of self.parts.bundle.now) _ refl c.requires _ front _ _ c.push-2.ensures _ c.write_places.ensures

pub returns : goal.returns
returns c =
    let self = c.args.self.now in
    let front = rw self.parts.front_is at c.push.ensures in
    let all = all-pushed (contents_of self.parts.bundle.now) _ refl c.requires _ front _ _ c.push-2.ensures _ c.write_places.ensures self.kept_is _ c.write_certificates.ensures in
    let same = sym all.reference in
    let is = pushed-front all refl in
    search rules
