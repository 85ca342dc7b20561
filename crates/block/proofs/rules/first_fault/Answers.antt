-- `block::rules::first_fault` meets its contract.
use Rattle.std.proofs.Common.{◌≡◌, sym, ap, ◌∙◌, arith, below_more, ℕ, ◌<◌, Err}
use Rattle.refusals.specs.Answers.{refusal}
use Rattle.refusals.specs.declared.Refusal.{Refusal}
use Rattle.block.specs.Faults.{fault_number, cause-number, as_result-none, as_result-some}
use Rattle.block.specs.File.{block_count, fault_at, first_fault}
use Rattle.block.specs.OpenLaws.{blocks-count, blocks_at, first_fault-none, first_fault-at}
use Rattle.block.proofs.rules.first_fault.Goals as goal
use Rattle.block.proofs.rules.first_fault.Goals.{In-loop-k, After-fault_of}

within : (c : In-loop-k) → c.loop-k.k < block_count c.args.file.now
within c = omega (arith, blocks-count _ _ c.as_chunks.ensures.front, c.loop-k-test.true)

-- what the call says of block k
tested : (c : After-fault_of) → fault_number c.fault_of.result ≡ fault_at c.args.file.now c.loop-k.k
unfolding fault_at
tested c =
    let turn = (goal.at.After-fault_of c).In-loop-k in
    let cut = c.as_chunks.ensures.front in
    c.fault_of.ensures ∙ rw (blocks-count _ _ cut, blocks_at _ _ cut c.loop-k.k _ (within turn))

pub returns-in-Some : goal.returns-in-Some
returns-in-Some c =
    let file = c.args.file.now in
    let k = c.loop-k.k in
    let here = sym (tested (goal.at.returns-in-Some c).After-fault_of) ∙ ap fault_number c.in-Some.is in
    let some : fault_at file k ≡ 0 → ⊥ = λ z. omega (arith, here, z, cause-number c.in-Some.cause) in
    let first = first_fault-at file k (within (goal.at.returns-in-Some c).In-loop-k) c.loop-k.invariant some in
    ap Err (c.at.ensures ∙ ap (λ (n : ℕ). refusal n k) (sym here) ∙ sym first)
    ∙ sym (as_result-some (first_fault file) (λ z. some (sym (ap (λ (r : Refusal). r.number) first) ∙ z)))

pub loop-k-preserved : goal.loop-k-preserved
loop-k-preserved c =
    below_more _ c.loop-k.k c.loop-k.invariant (sym (tested (goal.at.loop-k-preserved c).After-fault_of) ∙ ap fault_number c.in_default.is)

pub returns : goal.returns
returns c =
    let none = first_fault-none c.args.file.now (λ j l. c.loop-k.invariant j (omega (arith, blocks-count _ _ c.as_chunks.ensures.front, c.loop-k-test.false))) in
    sym (as_result-none _ (ap (λ (r : Refusal). r.number) none))
