-- `places::all_below` meets its contract.
use Rattle.std.proofs.Common.{◌≡◌, sym, ◌∙◌, Bool, true, ◌&&◌, List, [], ◌∷◌, ℕ, ltb, rules, tests}
use Rattle.std.proofs.Math.Bool.{and-true, and_assoc}
use Rattle.std.specs.List.{fold}
use Rattle.laws.specs.Lists.{all}
use Rattle.std.proofs.lemmas.Iterator.{YieldsList-from_slice}
use Rattle.std.proofs.lemmas.Iterator.Consumers.{fold_from_yields_List}
use Rattle.places.proofs.all_below.Goals as goal

-- each event adds its test to the tests of those before it
folded : (test : ℕ → Bool) (fit : Bool) (w : List ℕ) → fold (λ b e. b && test e) fit w ≡ fit && all test w
unfolding all
folded test fit [] = sym (and-true fit)
folded test fit (e ∷ w) = folded test (fit && test e) w ∙ and_assoc fit (test e) (all test w)

pub returns : goal.returns
returns c =
    let test : ℕ → Bool = λ e. ltb e c.args.n in
    let road = YieldsList-from_slice c.args.word.now cc in
    fold_from_yields_List _ (λ fit e. fit && test e) true _ c.fold.ensures.ran road (λ a x b q k. search (rules, tests))
    ∙ folded test true c.args.word.now
