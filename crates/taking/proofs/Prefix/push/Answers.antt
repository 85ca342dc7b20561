-- `taking::Prefix::push` meets its contract.
use Rattle.std.proofs.Common.{rules, arith, ap, sym, ◌∙◌, ap₂, ◌+◌}
use Rattle.rows.specs.Index.{key}
use Rattle.rows.specs.IndexLaws.{key_le, key-add_event}
use Rattle.taking.proofs.Prefix.push.Goals as goal

pub add_event-requires : goal.add_event-requires
add_event-requires c = (c.requires.0, c.requires.1 c.args.e)

pub overflow_add-self : goal.overflow_add-self
overflow_add-self c =
    let p = c.args.self.now in
    omega (arith, key_le p.counts (search rules) (λ i. omega (arith, c.requires.1 i)), p.keyed, c.multiplier_of.ensures.1)

pub invariant_of-self : goal.invariant_of-self
invariant_of-self c =
    let p = c.args.self.now in
    let sum = ap₂ ◌+◌ p.keyed c.multiplier_of.ensures.0 in
    record { keyed = sum ∙ sym (key-add_event p.counts c.args.e (omega (arith, c.requires.0))) ∙ ap key (sym c.add_event.ensures) }
