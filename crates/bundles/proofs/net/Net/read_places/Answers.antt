use Rattle.std.proofs.Common.{◌≡◌, sym, ap, ◌∙◌, ◌++◌, ℕ, arith, length, drop, length-append, length-take-le}
use Rattle.std.proofs.Math.Seq.{drop-append_seam}
use Rattle.std.proofs.Math.ListN.{get_or-append}
use Rattle.laws.specs.Lists.{each_set}
use Rattle.places.specs.declared.Place.{Place}
use Rattle.bundles.specs.Keeping.{code_place}
use Rattle.bundles.proofs.net.Net.read_places.Goals as goal
use Rattle.bundles.proofs.net.Net.read_places.Goals.{After-loop-j}

pub loop-j-preserved : goal.loop-j-preserved
loop-j-preserved c =
    let l = c.loop-j in
    each_set _ (λ (j : ℕ) (p : Place). p ≡ code_place c.args.self.now j) l.place-items l.j _
    (omega (arith, c.loop-j-test.true, l.auto.place-items)) l.invariant c.place.ensures

-- the places of the net are the whole of what was written
size : (c : After-loop-j) → length c.loop-j.place-items ≡ c.args.self.now.count
size c =
    let net = c.args.self.now in
    omega (arith, length-take-le {A = Place} net.count c.args.places.now (omega (arith, c.told-places, net.few)), c.loop-j.auto.place-items)

pub returns : goal.returns
returns c =
    let l = c.loop-j in
    let net = c.args.self.now in
    let all = size (goal.at.returns c).After-loop-j in
    let rest = drop net.count c.args.places.now in
    record {
      listed = record {
        room = omega (arith, length-append l.place-items rest, all);
        each = λ j b. get_or-append l.place-items rest _ j (omega (arith, b, all))
            ∙ l.invariant j (omega (arith, b, all, l.auto.place-items, c.loop-j-test.false));
      };
      rest = ap (λ (k : ℕ). drop k (l.place-items ++ rest)) (sym all) ∙ drop-append_seam l.place-items rest;
    }
