-- `block::rules::all_zero` meets its contract: the library's test of all is the definition's.
use Rattle.std.proofs.Common.{◌≡◌, refl, ap, ◌∙◌, Bool, ◌&&◌, List, [], ◌∷◌, ℕ, rules, tests}
use Rattle.std.specs.List.{list_all}
use Rattle.std.proofs.lemmas.Iterator.{YieldsList-from_slice}
use Rattle.std.proofs.lemmas.Iterator.Search.{all_from_yields_List}
use Rattle.laws.specs.Lists.{all}
use Rattle.block.specs.Block.{is_zero}
use Rattle.block.proofs.rules.all_zero.Goals as goal

same : (test : ℕ → Bool) (l : List ℕ) → list_all test l ≡ all test l
unfolding all
same test [] = refl
same test (x ∷ l) = ap (λ (b : Bool). test x && b) (same test l)

pub returns : goal.returns
returns c =
    all_from_yields_List is_zero _ _ _ c.all.ensures.ran (YieldsList-from_slice c.args.bytes.now cc) (λ x b q k. search (rules, tests))
    ∙ same is_zero c.args.bytes.now
