-- What lies in the buffer came of the whole input, so what is written is the line of that.
use Rattle.std.proofs.Common.{◌≡◌, refl, List, ℕ, ◌+◌, length, take, sym, ap, ◌∙◌, subst, rules, None, Some, IfSome, Ok, Err, OnOk}
use Rattle.std.specs.Prelude.{is_ok}
use Rattle.std.specs.declared.option.Option.{Option}
use Rattle.std.specs.declared.result.Result.{Result}
use Rattle.std.specs.Io.KnownBytes.{Appends}
use Rattle.limits.specs.Limits.{max_file_size}
use Rattle.laws.specs.Booleans.{impossible}
use Rattle.console.specs.Inputs.{whole-read}
use Rattle.judge.specs.Files.{Came}
use Rattle.judge.specs.Lines.{verdict_line}
use Rattle.judge.proofs.answer.Goals as goal

-- what was written whole is owed to every known input, whatever an error is called
owed : {E F : Type 0} (wrote : Result (Unit {0}) E) (answered : Result (Unit {0}) F) (Q : Type 0) (had : Option (List ℕ)) (P : List ℕ → Type 0)
    → is_ok answered ≡ is_ok wrote → OnOk wrote Q → ((file : List ℕ) → had ≡ Some file → Q → P file) → OnOk answered (IfSome had P)
owed wrote (Err f) Q had P same q owes = tt
owed (Err e) (Ok u) Q had P same q owes = impossible cc
owed (Ok v) (Ok u) Q None P same q owes = tt
owed (Ok v) (Ok u) Q (Some file) P same q owes = owes file refl q

pub returns-in-Ok-clause-answered : goal.returns-in-Ok-clause-answered
returns-in-Ok-clause-answered g c =
    let size : length c.read_input.new.buffer ≡ max_file_size + 1 = search rules in
    owed _ _ _ _ _ c.map_err.ensures.variant c.print.ensures (λ file known.
    let whole = whole-read _ _ _ _ _ file c.in-Ok.is c.in-Ok.ensures.within c.read_input.ensures.bytes known in
    let came : Came file (take c.in-Ok.n c.read_input.new.buffer) = ap (λ k. take k file) (sym size) ∙ whole in
    subst (Appends _ _) (c.as_bytes.ensures ∙ c.verdict_line-line.ensures ∙ ap verdict_line (c.judge_file.ensures file came)))
