use Rattle.std.proofs.Common.{[], arith, ◌≡◌, ◌∙◌, ap, pos, w64, length, length-take}
use mir.Facts.{to_z-of_z}
use Rattle.laws.specs.Lists.{each_set}
use Rattle.laws.specs.Parts.{get_d_padded}
use Rattle.bundles.specs.Layout.{to_place}
use Rattle.stops.specs.Reached.{place_at}
use Rattle.parts.specs.Parts.{initial-front}
use Rattle.parts.proofs.initial_tokens.Goals as goal

pub loop-j-preserved : goal.loop-j-preserved
unfolding to_place
loop-j-preserved c =
    let net = c.args.net.now in
    each_set (pos 0) (λ i z. z ≡ pos (place_at net.n net.bundle.now net.first i).initial) c.loop-j.tokens-items c.loop-j.j _ (omega arith) c.loop-j.invariant
    (to_z-of_z {w = w64} (record { sfits = c.from.type_inv }) ∙ c.from.ensures ∙ ap pos c.initial.ensures)

pub returns : goal.returns
returns c =
    let few = c.args.net.now.few in
    let size : length c.loop-j.tokens-items ≡ c.args.net.now.count = c.loop-j.auto.tokens-items ∙ length-take _ _ ∙ omega (arith, few) in
    let all : c.loop-j.j ≡ c.args.net.now.count = omega (arith, size) in
    initial-front _ _ size (rw all at c.loop-j.invariant) (λ j. get_d_padded [] 64 j (pos 0))
