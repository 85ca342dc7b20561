-- `engine::playing::move_tokens` meets its contract.
use Rattle.std.proofs.Common.{◌≡◌, sym, ap, ap₂, ◌∙◌, arith, ℕ, ◌+◌, ◌-◌, ◌<◌, List, ◌++◌, drop, length, get_or, ext_get_or, length-take, length-take-le, get_or-set_other}
use Rattle.std.proofs.Math.Seq.{get_or-take}
use Rattle.laws.specs.Lists.{each_set}
use Rattle.laws.specs.Parts.{front}
use Rattle.nets.specs.Carrying.{tokens_behind, taken_from}
use Rattle.engine.specs.Playing.{places_of, places-count, taken-there, put-there, behind-there, behind-count}
use Rattle.engine.proofs.playing.move_tokens.Goals as goal
use Rattle.engine.proofs.playing.move_tokens.Goals.{After-from}

-- the turn is of a place
inside : (c : After-from) → c.loop-j.j < c.args.net.now.count
inside c = omega (arith, c.loop-j-test.true, length-take c.args.net.now.count c.args.tokens.now)

-- whose tokens are as they were, and are enough
before : (c : After-from) → get_or c.loop-j.held-items c.loop-j.j 0 ≡ get_or c.args.tokens.now c.loop-j.j 0
before c = c.loop-j.invariant.1 c.loop-j.j (omega arith) (inside c)

taken : (c : After-from) → c.from.result ≡ taken_from (places_of c.args.net.now) c.args.tokens.now c.args.event c.loop-j.j
taken c = c.from.ensures ∙ c.consumed.ensures ∙ taken-there c.args.net.now c.args.tokens.now c.args.event c.loop-j.j (inside c)

pub loop-j-init : goal.loop-j-init
loop-j-init c =
    ((λ i h. absurd (omega arith)), (λ i low h. get_or-take c.args.net.now.count c.args.tokens.now i 0 h))

pub overflow_sub-held : goal.overflow_sub-held
overflow_sub-held c =
    let at = (goal.at.overflow_sub-held c).After-from in
    omega (arith, taken at, before at, c.requires.enough c.loop-j.j (omega (arith, inside at, places-count c.args.net.now)))

pub overflow_add-held : goal.overflow_add-held
overflow_add-held c =
    let at = (goal.at.overflow_add-held c).After-from in
    omega (arith, before at, c.requires.ready.reachable c.loop-j.j (inside at), c.from-in-loop-j.ensures, c.produced.type_inv)

pub loop-j-preserved : goal.loop-j-preserved
loop-j-preserved c =
    let at = (goal.at.loop-j-preserved c).After-from in
    let net = c.args.net.now in
    let ts = c.args.tokens.now in
    let j = c.loop-j.j in
    let items = c.loop-j.held-items in
    let put = c.from-in-loop-j.ensures ∙ c.produced.ensures ∙ put-there net ts c.args.event j (inside at) in
    let is =
    ap₂ (λ (t k : ℕ). t - k + c.from-in-loop-j.result) (before at) (taken at)
    ∙ ap (λ (k : ℕ). get_or ts j 0 - taken_from (places_of net) ts c.args.event j + k) put in (
      each_set 0 (λ i x. x ≡ get_or (tokens_behind (places_of net) ts c.args.event) i 0) items j _ (omega arith) c.loop-j.invariant.0
          (is ∙ sym (behind-there net ts c.args.event j (inside at))),
      (λ i low h. get_or-set_other items j i _ 0 (λ e. omega arith) ∙ c.loop-j.invariant.1 i (omega arith) h),
    )

pub returns : goal.returns
unfolding front
returns c =
    let net = c.args.net.now in
    let us = tokens_behind (places_of net) c.args.tokens.now c.args.event in
    let few = length-take-le net.count c.args.tokens.now c.requires.ready.room in
    let size : length c.loop-j.held-items ≡ net.count = c.loop-j.auto.held-items ∙ few in
    let all = behind-count net c.args.tokens.now c.args.event in
    let written = ext_get_or 0 c.loop-j.held-items us (size ∙ sym all) (λ i h. c.loop-j.invariant.0 i (omega (arith, h, size, few))) in
    ap₂ (λ (l : List ℕ) (k : ℕ). l ++ drop k c.args.tokens.now) written (sym all)
