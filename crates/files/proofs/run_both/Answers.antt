-- `files::run_both` meets its contract: demand 3 holds of what the two runs answered.
use Rattle.std.proofs.Common.{ℕ, length, take, ap, ◌∙◌, arith}
use Rattle.laws.specs.Numbers.{Bytes}
use Rattle.refusals.specs.Answers.{fitted}
use Rattle.block.specs.File.{opened}
use Rattle.files.specs.Files.{ran, table_ran, both-compared}
use Rattle.files.specs.declared.Both.{Both}
use Rattle.files.proofs.run_both.Goals as goal

pub returns : goal.returns
returns c =
    let args = c.args in
    let first = c.run-first.ensures in
    let second = c.run-second.ensures in
    -- the table has its length behind the first run
    let bundle₂ = fitted (opened args.file2.now) (length args.output2.now) in
    let answered = second.value ∙ ap (λ (k : ℕ). ran bundle₂ k args.word.now) c.run-first.auto.table in
    let small₁ : Bytes args.file1.now = λ i. omega (arith, c.type_inv.file1 i) in
    let small₂ : Bytes args.file2.now = λ i. omega (arith, c.type_inv.file2 i) in
    let answers : Both = record { first = c.run-first.result; second = c.run-second.result } in
    let compared = both-compared args.file1.now args.file2.now args.output1.now args.output2.now args.table.now args.word.now
    answers small₁ small₂ first.value answered in
    record {
      first_value = first.value;
      second_value = answered;
      output1_after = first.output_after;
      output2_after = second.output_after;
      table_after = second.table_after ∙ ap (table_ran bundle₂) first.table_after;
      answers_compared = λ a₁ a₂ c₁ c₂ o₁ o₂ v₁ v₂ b₁ b₂ f₁ f₂.
          compared a₁ a₂ c₁ c₂ o₁ o₂ v₁ v₂ b₁ b₂ (f₁ ∙ ap (take a₁.size) first.output_after) (f₂ ∙ ap (take a₂.size) second.output_after);
    }
