-- `pairs::read_pairs` meets its contract: its reads are those of `pairs`, in the same order.
use Rattle.std.proofs.Common.{◌≡◌, ◌+◌, ◌-◌, ◌<◌, ◌∙◌, Fits, w16, List, ℕ, ap, refl, sym, rules, arith, length, leb-true, true}
use Rattle.std.proofs.lemmas.Result.{err_from_is_err_and}
use Rattle.limits.specs.Limits.{max_pairs}
use Rattle.bundles.specs.Readers.{head_of, pairs}
use Rattle.bundles.specs.FieldReading.{up_to, byte-got}
use Rattle.bundles.specs.Reading.{◌>>=◌, byte}
use Rattle.bundles.specs.Chains.{mapped, read_got, read-refused, read_same, then_read, then-refused, →got, →refused}
use Rattle.heads.specs.declared.TakenHead.{TakenHead}
use Rattle.pairs.specs.Pairs.{sums_for}
use Rattle.pairs.specs.PairSums.{Bounded, small-rows, behind_pairs, pairs_chain, pair-word, pairs-start, pairs-done, pairs-room, pairs-failed, pairs_next}
use Rattle.pairs.proofs.read_pairs.Goals as goal
use Rattle.pairs.proofs.read_pairs.Goals.{At-loop-pair, In_ok-count, In_ok-pair}

-- a word of each slot
abbrev words : TakenHead → ℕ
words head = length head.noted.now

same : (head : TakenHead) (b : List ℕ) (from : ℕ)
    → mapped (sums_for head) (pairs true (length (head_of head.net.bundle.now).entries)) b from
    ≡ (byte (up_to max_pairs) >>= behind_pairs head (words head)) b from
same head b from = ap (λ (k : ℕ). mapped (sums_for head) (pairs true k) b from) (sym head.marked.size) ∙ pairs_chain head (words head) b from

pub returns-in_err-count-clause-read : goal.returns-in_err-count-clause-read
returns-in_err-count-clause-read c =
    let q = err_from_is_err_and c.from_residual.result c.from_residual.ensures.1 in
    let head = c.args.head.now in
    rw (q.1, q.2) (read_same (same head _ _)
    (then-refused (behind_pairs head (words head)) (c.in_err-count.ensures (up_to max_pairs) (λ x small b answer. search rules))))

pub loop-pair-init : goal.loop-pair-init
loop-pair-init c =
    let all : c.in_ok-count.count - 0 ≡ c.in_ok-count.count = omega arith in
    (refl, rw all (pairs-start _ _ _ _ _))

-- the pair count is in its range
few : (c : In_ok-count) → c.in_ok-count.count < max_pairs + 1
few c =
    let count = c.in_ok-count.ensures (up_to max_pairs) (λ x small b answer. search rules) in
    omega (arith, leb-true _ _ (byte-got (up_to max_pairs) _ _ _ _ (read_got count)).0)

-- the sums are far from the bounds of an `i64`
room : (c : At-loop-pair) → Bounded c.loop-pair.sums.weighed
room c =
    let head = c.args.head.now in
    let small = small-rows head.rows head.table.now (λ j. omega (arith, head.held.numbers j)) in
    pairs-room _ _ _ _ _ c.loop-pair.invariant.1 small (omega (arith, few (goal.at.At-loop-pair c).In_ok-count))

pub returns-in_err-pair-clause-read : goal.returns-in_err-pair-clause-read
returns-in_err-pair-clause-read c =
    let q = err_from_is_err_and c.from_residual-in_err-pair.result c.from_residual-in_err-pair.ensures.1 in
    let head = c.args.head.now in
    let i = c.loop-pair.invariant in
    let r = c.in_err-pair.ensures in
    let more : 0 < c.in_ok-count.count - c.loop-pair._pair = omega arith in
    let count = c.in_ok-count.ensures (up_to max_pairs) (λ x small b answer. search rules) in
    rw (q.1, q.2)
    (read_same (same head _ _)
    (then_read (behind_pairs head (words head)) count (→refused (r.bytes ∙ i.0) (pairs-failed _ _ _ _ _ i.1 more (rw i.0 at (read-refused r))))))

-- the weight of a pair that was read has two bytes
weight : (c : In_ok-pair) → c.in_ok-pair.pair.weight < 65536
weight c = let w : Fits w16 c.in_ok-pair.pair.weight = search rules in omega (arith, w.fits)

pub add-requires : goal.add-requires
add-requires c =
    (pair-word _ _ _ _ _ (read_got c.in_ok-pair.ensures), room (goal.at.add-requires c).At-loop-pair)

pub loop-pair-preserved : goal.loop-pair-preserved
loop-pair-preserved c =
    let i = c.loop-pair.invariant in
    let r = c.in_ok-pair.ensures in
    let more : 0 < c.in_ok-count.count - c.loop-pair._pair = omega arith in
    let less : c.in_ok-count.count - (c.loop-pair._pair + 1) ≡ c.in_ok-count.count - c.loop-pair._pair - 1 = omega arith in
    let small = weight (goal.at.loop-pair-preserved c).In_ok-pair in
    (r.bytes ∙ i.0, rw (less, c.add.ensures) (pairs_next _ _ _ _ _ i.1 more (rw i.0 at (read_got r)) small))

pub returns-clause-read : goal.returns-clause-read
returns-clause-read c =
    let head = c.args.head.now in
    let i = c.loop-pair.invariant in
    let count = c.in_ok-count.ensures (up_to max_pairs) (λ x small b answer. search rules) in
    read_same (same head _ _) (then_read (behind_pairs head (words head)) count (→got i.0 (pairs-done _ _ _ _ _ i.1 (omega arith))))

pub returns-clause-bounded : goal.returns-clause-bounded
returns-clause-bounded c = room (goal.at.returns-clause-bounded c).At-loop-pair
