-- What pruning answers behind the judge: its refusal, or the pruned bundle of one that it accepts.
use Rattle.std.specs.Prelude.{◌≡◌, List, ℕ, length, Err, Ok}
use Rattle.std.proofs.Common.{sym}
use Rattle.laws.specs.Numbers.{Bytes}
use Rattle.refusals.specs.Results.{Result, value, refused}
use Rattle.refusals.specs.Answers.{answer, written}
use Rattle.refusals.specs.Laws.{Ends}
use Rattle.refusals.proofs.Laws.{ends-refused}
use Rattle.refusals.specs.declared.Refusal.{Refusal}
use Rattle.bundles.specs.Layout.{Contents, bytes_of}
use Rattle.verdicts.specs.Judging.{verdict}
use Rattle.verdicts.specs.declared.Tally.{Tally}
use Rattle.contents.specs.Contents.{IsBundle, contents_of, judged-accepted, accepted-bundle, behind-refused, behind-accepted}
use Rattle.pruning.specs.Pruning.{pruned, pruning}

module _ (table_length : ℕ) (b : List ℕ) where
  abbrev rest : Contents → Result (List ℕ)
  rest c = value (bytes_of (pruned c))

  -- a refusal of the judge
  pub judge_refused : (r : Refusal) → verdict table_length b ≡ Err r → pruning table_length b ≡ refused r.number r.spot
  unfolding pruning
  judge_refused r e = behind-refused table_length b rest r e

  -- an accepted bundle
  pub judge_accepted : Bytes b → (t : Tally) → verdict table_length b ≡ Ok t → IsBundle b × (pruning table_length b ≡ value (bytes_of (pruned (contents_of b))))
  unfolding pruning
  judge_accepted bytes t e = (accepted-bundle (judged-accepted table_length b bytes t e).0, behind-accepted table_length b rest bytes t e)

  -- the same clause by clause, for the check of `prune`
  module _ (output : List ℕ) (r : Refusal) (told : verdict table_length b ≡ Err r) where
    ends : Ends (pruning table_length b) output (Err r) output
    ends = ends-refused (pruning table_length b) output r.number r.spot (judge_refused r told)

    pub refused-answer : answer (pruning table_length b) (length output) ≡ Err r
    refused-answer = sym ends.0

    pub refused-output : written (pruning table_length b) output ≡ output
    refused-output = sym ends.1

  module _ (bytes : Bytes b) (t : Tally) (told : verdict table_length b ≡ Ok t) where
    pub accepted-layout : IsBundle b
    accepted-layout = (judge_accepted bytes t told).0

    pub accepted-result : pruning table_length b ≡ value (bytes_of (pruned (contents_of b)))
    accepted-result = (judge_accepted bytes t told).1

pub ruleset judge_told = (refused-answer, refused-output, accepted-layout, accepted-result)
