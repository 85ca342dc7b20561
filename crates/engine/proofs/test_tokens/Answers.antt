-- `engine::test_tokens` meets its contract: the library finds the place that the definition names.
use Rattle.std.specs.Prelude.{Err}
use Rattle.std.proofs.Common.{◌≡◌, refl, ap, sym, ◌∙◌, arith, ℕ, ◌+◌, suc, List, leb, cond, take, ltb, rules, tests, lt-ltb, le-ltb, le-leb, ⊎_elim}
use Rattle.std.proofs.lemmas.Bool.{lt-leb}
use Rattle.std.proofs.lemmas.Iterator.{YieldsList-from_slice}
use Rattle.std.proofs.lemmas.Iterator.Search.{position_from_yields_List}
use Rattle.std.proofs.lemmas.List.Recursion.{is_position_or_len}
use Rattle.std.specs.List.{position_or_len}
use Rattle.laws.specs.Booleans.{lt_or_le}
use Rattle.laws.specs.Failure.{failure, failure-some, failure-none}
use Rattle.laws.specs.Scans.{first_failing}
use Rattle.refusals.specs.Tests.{test-passes, test-fails}
use Rattle.limits.specs.Limits.{max_tokens}
use Rattle.engine.specs.Engine.{reachable}
use Rattle.engine.proofs.test_tokens.Goals as goal
use Rattle.engine.proofs.test_tokens.Goals.{After-position}

step : (t k : ℕ) → cond (leb t max_tokens) (suc k) 0 ≡ cond (ltb max_tokens t) 0 (1 + k)
step t k = ⊎_elim
    (λ over. rw (lt-ltb max_tokens t over, lt-leb t max_tokens over) refl)
    (λ fits. rw (le-ltb max_tokens t fits, le-leb t max_tokens fits) (omega arith))
    (lt_or_le max_tokens t)

-- the first number that no run reaches
found : (ts : List ℕ) → first_failing reachable ts ≡ position_or_len (λ t. ltb max_tokens t) ts
unfolding first_failing
found ts = is_position_or_len (first_failing reachable) (λ t. ltb max_tokens t) refl (λ t rest. step t (first_failing reachable rest)) ts

position : (c : After-position) → c.position.result ≡ failure reachable (take c.args.net.now.count c.args.tokens.now)
unfolding failure
position c =
    let ts = take c.args.net.now.count c.args.tokens.now in
    let road = YieldsList-from_slice ts cc in
    position_from_yields_List (λ t. ltb max_tokens t) _ _ c.position.result c.position.ensures.ran road (λ x b q k. search (rules, tests))
    ∙ rw (← found ts)

pub returns-in-Some : goal.returns-in-Some
returns-in-Some c =
    let at = goal.at.returns-in-Some c in
    let ts = take c.args.net.now.count c.args.tokens.now in
    let (some, first) = failure-some reachable ts (sym (position at.After-position) ∙ c.in-Some.is) in
    rw first (ap Err c.at.ensures ∙ test-fails _ _ some)

pub returns-in-None : goal.returns-in-None
returns-in-None c =
    let at = goal.at.returns-in-None c in
    test-passes _ _ (failure-none reachable (take c.args.net.now.count c.args.tokens.now) (sym (position at.After-position) ∙ c.in-None.is))
