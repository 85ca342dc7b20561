-- `incidence::Incidence::covers_both_at` meets its contract.
use Rattle.std.proofs.Common.{rules, ◌≡◌, Bool, sym, ap, ap₂, ◌∙◌, subst, arith, ◌+◌, ◌-◌, ◌≤◌, ℕ, pos, w64, List, get_or, leb}
use Rattle.std.proofs.Math.Bool.{◌&&◌}
use mir.Facts.{to_z_pos}
use Rattle.laws.specs.Differences.{pos_of_difference}
use Rattle.places.specs.Machine.{Held, held}
use Rattle.nets.specs.Nets.{Net}
use Rattle.nets.specs.Carrying.{taken_from, put_into, has_enough}
use Rattle.incidence.specs.declared.Incidence.{Incidence}
use Rattle.incidence.specs.Incidence.{places_in}
use Rattle.incidence.specs.IncidenceLaws.{taken-in, put-in, covers-tokens, tested}
use Rattle.incidence.proofs.Incidence.covers_both_at.Goals as goal
use Rattle.incidence.proofs.Incidence.covers_both_at.Goals.{After-covers, After-from-2}

-- the first test is whether the place has enough
module _ (c : After-covers) where
  abbrev net : Net
  net = places_in c.args.self.now

  abbrev token : ℕ
  token = get_or c.args.tokens.now c.args.place 0

  first : c.covers.result ≡ has_enough net c.args.tokens.now c.args.event c.args.place
  first =
      let inside = c.requires.3 in
      c.covers.ensures ∙ tested c.args.self.now c.args.tokens.now c.args.event c.args.place inside (omega (arith, c.requires.0 c.args.place inside))

-- the second one is about the tokens behind the event
module _ (c : After-from-2) where
  abbrev left : ℕ
  left = get_or c.args.tokens.now c.args.place 0 - c.from.result + c.from-2.result

  left-is : left ≡ get_or c.args.tokens.now c.args.place 0 - taken_from (places_in c.args.self.now) c.args.tokens.now c.args.event c.args.place
      + put_into (places_in c.args.self.now) c.args.tokens.now c.args.event c.args.place
  left-is =
      let b = c.args.self.now in
      let ts = c.args.tokens.now in
      ap₂ (λ (x y : ℕ). get_or ts c.args.place 0 - x + y) (c.from.ensures ∙ sym (taken-in b ts c.args.event c.args.place c.requires.3))
      (c.from-2.ensures ∙ sym (put-in b ts c.args.event c.args.place c.requires.3))

  few : left ≤ 4294967295
  few =
      let small : c.from-2.result ≤ 65535 = search rules in
      omega (arith, c.requires.0 c.args.place c.requires.3, small)

abbrev second : Incidence → List ℕ → ℕ → ℕ → ℕ → Bool
second b ts e wanted j =
    leb (taken_from (places_in b) ts wanted j) (get_or ts j 0 - taken_from (places_in b) ts e j + put_into (places_in b) ts e j)

pub returns-then-not-covers : goal.returns-then-not-covers
returns-then-not-covers c =
    let at = (goal.at.returns-then-not-covers c).After-covers in
    let b = c.args.self.now in
    let ts = c.args.tokens.now in
    sym (ap (λ (t : Bool). t && second b ts c.args.event c.args.wanted c.args.place) (sym (first at) ∙ c.if-not-covers.true))

pub covers-requires-2 : goal.covers-requires-2
covers-requires-2 c =
    let at = (goal.at.covers-requires-2 c).After-from-2 in
    subst Held (sym (to_z_pos w64 (omega (arith, few at))))
    (held (left at) 0 (omega (arith, few at)) (omega arith) (sym (pos_of_difference (left at) 0 (omega arith) ∙ ap pos (omega arith))))

pub returns : goal.returns
returns c =
    let at = goal.at.returns c in
    let b = c.args.self.now in
    let ts = c.args.tokens.now in
    let left = left at.After-from-2 in
    c.covers-2.ensures ∙ covers-tokens left _ (omega (arith, few at.After-from-2))
    ∙ ap₂ leb (sym (taken-in b ts c.args.wanted c.args.place c.requires.3)) (left-is at.After-from-2)
    ∙ sym (ap (λ (t : Bool). t && second b ts c.args.event c.args.wanted c.args.place) (sym (first at.After-covers) ∙ c.if-not-covers.false))
