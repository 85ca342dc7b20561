-- `weights::Step::read_weights` meets its contract: its reads are those of `weights`, in the same order.
use Rattle.std.proofs.Common.{◌≡◌, Bool, List, ℕ, leb, rules, leb-true}
use Rattle.std.proofs.lemmas.Result.{err_from_is_err_and}
use Rattle.limits.specs.Limits.{max_terms}
use Rattle.bundles.specs.Reading.{Reader, ◌>>=◌, number}
use Rattle.bundles.specs.Readers.{head_of, weights}
use Rattle.bundles.specs.FieldReading.{up_to, byte-got}
use Rattle.bundles.specs.Chains.{read_got, read_same, then_read, then-refused}
use Rattle.weights.specs.Terms.{weighed_by}
use Rattle.weights.specs.Steps.{holds_for, pairs_for}
use Rattle.weights.specs.TermSums.{behind_factor, behind_count, weights_chain}
use Rattle.weights.specs.declared.Step.{Step}
use Rattle.weights.proofs.Step.read_weights.Goals as goal

-- the reads behind k, and behind the term count
abbrev after_factor : Step → ℕ → Reader Bool
after_factor s = behind_factor (holds_for s) s.head.now.net.n s.head.now.rows (pairs_for s)

abbrev after_count : Step → ℕ → ℕ → Reader Bool
after_count s = behind_count (holds_for s) s.head.now.net.n s.head.now.rows (pairs_for s)

same : (s : Step) (b : List ℕ) (from : ℕ)
    → weighed_by (holds_for s) (weights (head_of s.head.now.net.bundle.now)) b from ≡ (number (leb 1) >>= after_factor s) b from
same s = weights_chain (holds_for s)
    (head_of s.head.now.net.bundle.now) s.head.now.net.n s.head.now.rows s.head.now.held.found.events s.head.now.held.size

pub returns-in_err-k : goal.returns-in_err-k
returns-in_err-k c =
    let q = err_from_is_err_and c.from_residual.result c.from_residual.ensures.1 in
    let s = c.args.self.now in
    let k = c.in_err-k.ensures (leb 1) (λ x small b answer. search rules) in
    rw (q.1, q.2) (read_same (same s _ _) (then-refused (after_factor s) k))

pub returns-in_err-count : goal.returns-in_err-count
returns-in_err-count c =
    let q = err_from_is_err_and c.from_residual-in_err-count.result c.from_residual-in_err-count.ensures.1 in
    let s = c.args.self.now in
    let k = c.in_ok-k.ensures (leb 1) (λ x small b answer. search rules) in
    let count = c.in_err-count.ensures (up_to max_terms) (λ x small b answer. search rules) in
    rw (q.1, q.2) (read_same (same s _ _) (then_read (after_factor s) k (then-refused (after_count s c.in_ok-k.k) count)))

pub weigh_terms-requires : goal.weigh_terms-requires
weigh_terms-requires c =
    let count = c.in_ok-count.ensures (up_to max_terms) (λ x small b answer. search rules) in
    leb-true _ _ (byte-got (up_to max_terms) _ _ _ _ (read_got count)).0

pub returns : goal.returns
returns c =
    let s = c.args.self.now in
    let k = c.in_ok-k.ensures (leb 1) (λ x small b answer. search rules) in
    let count = c.in_ok-count.ensures (up_to max_terms) (λ x small b answer. search rules) in
    read_same (same s _ _) (then_read (after_factor s) k (then_read (after_count s c.in_ok-k.k) count c.weigh_terms.ensures))
