-- `bundles::Reader::events` meets its contract: what the bundle has of the events is tested as a whole.
use Rattle.std.proofs.Common.{◌≡◌, ◌+◌, ap, ◌∙◌, refl, length, arith}
use Rattle.std.specs.Prelude.{min}
use Rattle.bundles.specs.Chains.{→got, →refused}
use Rattle.bundles.specs.WordReading.{events-good, events-few, events-bad, bad-within}
use Rattle.bundles.proofs.Reader.events.Goals as goal
use Rattle.bundles.proofs.Reader.events.Goals.{After-min-end}

-- where the events that are there end
ends : (c : After-min-end) → c.min-end.result ≡ min (length c.args.self.now.bytes.now) (c.args.self.now.at + c.args.size)
ends c = c.min-end.ensures ∙ ap (λ k. min (length c.args.self.now.bytes.now) (c.args.self.now.at + k)) c.from-size.ensures

pub overflow_add-at-in-Some : goal.overflow_add-at-in-Some
overflow_add-at-in-Some c =
    let s = c.args.self.now in
    omega (
      arith,
      bad-within c.args.n c.args.size s.bytes.now s.at _ c.requires (ends (goal.at.overflow_add-at-in-Some c).After-min-end) c.in-Some.ensures,
    )

pub returns-in-Some : goal.returns-in-Some
returns-in-Some c =
    let s = c.args.self.now in
    rw c.at.ensures (→refused refl
    (events-bad c.args.n c.args.size s.bytes.now s.at _ c.requires (ends (goal.at.returns-in-Some c).After-min-end) c.in-Some.ensures))

pub returns-then-word-size : goal.returns-then-word-size
returns-then-word-size c =
    let s = c.args.self.now in
    rw c.at-then-word-size.ensures
    (→refused refl (events-few c.args.n c.args.size s.bytes.now s.at _ c.requires
    (ends (goal.at.returns-then-word-size c).After-min-end) (omega arith) c.in_default.ensures))

pub returns : goal.returns
returns c =
    let s = c.args.self.now in
    →got refl
    (events-good c.args.n c.args.size s.bytes.now s.at _ c.requires (ends (goal.at.returns c).After-min-end) (omega arith) c.in_default.ensures)
