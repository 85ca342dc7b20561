-- `editions::first_completed` meets its contract: the library finds the word that the definition names.
use Rattle.std.proofs.Common.{◌≡◌, refl, ◌∙◌, Bool, true, false, not, cond, List, ℕ, arith, suc, ◌+◌, rules, tests}
use Rattle.std.proofs.lemmas.Iterator.Search.{position_from_yields_List}
use Rattle.std.proofs.lemmas.List.Recursion.{is_position_or_len}
use Rattle.std.specs.List.{position_or_len}
use Rattle.laws.specs.Failure.{failure}
use Rattle.laws.specs.Scans.{first_failing}
use Rattle.nets.specs.Nets.{Entry}
use Rattle.contents.specs.Contents.{contents_of}
use Rattle.contents.specs.Walks.{words-road}
use Rattle.editions.specs.Converting.{is_partial}
use Rattle.editions.proofs.first_completed.Goals as goal

step : (b : Bool) (k : ℕ) → cond (not b) (suc k) 0 ≡ cond b 0 (1 + k)
step true k = refl
step false k = omega arith

-- the first that is completed is the first that is not partial
found : (xs : List Entry) → first_failing is_partial xs ≡ position_or_len (λ x. x.completed) xs
unfolding first_failing
found xs = is_position_or_len (first_failing is_partial) (λ x. x.completed) refl (λ x rest. step x.completed (first_failing is_partial rest)) xs

pub returns : goal.returns
unfolding failure
returns c =
    let contents = contents_of c.args.parts.now.bundle.now in
    position_from_yields_List (λ x. x.completed) c.position.new.self _ c.position.result c.position.ensures.ran
    (words-road contents _ c.each_word.ensures) (λ x b q k. search (rules, tests))
    ∙ rw (← found contents.head.entries)
