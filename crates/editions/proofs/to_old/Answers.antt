-- `editions::to_old` meets its contract: the judge's refusal, or what an accepted bundle gets.
use Rattle.std.proofs.lemmas.Result.{err_from_is_err_and}
use Rattle.std.proofs.Common.{sym, ap, ◌∙◌, arith, List, ℕ, length}
use Rattle.laws.specs.Numbers.{Bytes}
use Rattle.refusals.specs.Results.{Result}
use Rattle.refusals.specs.Answers.{answer, written}
use Rattle.refusals.proofs.Laws.{ends-refused}
use Rattle.editions.specs.Judged.{to_old-refused, to_old-accepted, accepted-as}
use Rattle.editions.proofs.to_old.Goals as goal
use Rattle.editions.proofs.to_old.Goals.{In_ok-tally}

pub returns-in_err-tally : goal.returns-in_err-tally
returns-in_err-tally c =
    let p = err_from_is_err_and c.from_residual.result c.from_residual.ensures.1 in
    let r = c.in_err-tally.field-0.0 in
    let refused = to_old-refused (length c.args.table.now) c.args.bundle.now r (sym c.judge.ensures.value ∙ c.in_err-tally.was) in
    let ends = ends-refused _ c.args.output.now r.number r.spot refused in
    record { value = rw (p.1, p.2) ends.0; output_after = ends.1; table_after = c.judge.ensures.table_after }

-- the bundle's numbers are bytes
bytes : (c : In_ok-tally) → Bytes c.args.bundle.now
bytes c = λ i. omega (arith, c.type_inv.bundle i)

pub write_old-requires : goal.write_old-requires
write_old-requires c =
    let at = goal.at.write_old-requires c in
    accepted-as (length c.args.table.now) c.args.bundle.now (bytes at.In_ok-tally) _ (sym c.judge.ensures.value ∙ c.in_ok-tally.was)

pub returns : goal.returns
returns c =
    let at = goal.at.returns c in
    let same = to_old-accepted (length c.args.table.now) c.args.bundle.now (bytes at.In_ok-tally) _ (sym c.judge.ensures.value ∙ c.in_ok-tally.was) in
    record {
      value = c.write_old.ensures.value ∙ ap (λ (r : Result (List ℕ)). answer r (length c.args.output.now)) (sym same);
      output_after = c.write_old.ensures.output_after ∙ ap (λ (r : Result (List ℕ)). written r c.args.output.now) (sym same);
      table_after = c.judge.ensures.table_after;
    }
