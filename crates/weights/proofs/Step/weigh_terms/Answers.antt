use Rattle.std.specs.Prelude.{Bool, true, false, List, [], ℕ, length}
use Rattle.bundles.specs.Reading.{Read, Reader, give, times}
use Rattle.bundles.specs.Readers.{head_of, term, pairs}
use Rattle.bundles.specs.Layout.{PairFields}
use Rattle.weights.specs.Terms.{weighed_terms}
use Rattle.weights.specs.declared.Step.{Step}
use Rattle.std.proofs.Common.{sym, ap, ◌≡◌, ◌+◌, ◌-◌, ◌<◌, ◌≤◌, ◌∙◌, Fits, w16, rules, refl, arith}
use Rattle.std.proofs.lemmas.Result.{err_from_is_err_and}
use Rattle.limits.specs.Limits.{max_events}
use Rattle.bundles.specs.Chains.{read_got, read-refused, →got, →refused}
use Rattle.weights.specs.Steps.{counts_before, holds_for, pairs_for}
use Rattle.weights.specs.Totals.{max_number}
use Rattle.weights.specs.TermSums.{terms-start, terms-room, terms-next, terms-failed, terms-done, terms-alone}
use Rattle.weights.proofs.Step.weigh_terms.Goals as goal
use Rattle.weights.proofs.Step.weigh_terms.Goals.{In_ok-term}

pub loop-term-init : goal.loop-term-init
loop-term-init c =
    let all : c.args.count - 0 ≡ c.args.count = omega arith in
    (refl, rw all (terms-start _ _ _ _ _ _))

pub returns-in_err-term : goal.returns-in_err-term
returns-in_err-term c =
    let q = err_from_is_err_and c.from_residual.result c.from_residual.ensures.1 in
    let i = c.loop-term.invariant in
    let r = c.in_err-term.ensures in
    let more : 0 < c.args.count - c.loop-term._term = omega arith in
    rw (q.1, q.2) (→refused (r.bytes ∙ i.0) (terms-failed _ _ _ _ _ _ i.1 more (holds_for c.args.self.now) c.args.k
    (pairs_for c.args.self.now) (rw (i.0, c.from-n.ensures) at (read-refused r))))

-- the weight of a term that was read has two bytes
weight : (c : In_ok-term) → c.in_ok-term.term.weight ≤ max_number
weight c = let w : Fits w16 c.in_ok-term.term.weight = search rules in omega (arith, w.fits)

narrow : (c : In_ok-term) → c.args.self.now.head.now.net.n ≤ max_events
narrow c = c.args.self.now.head.now.held.found.limits.1

pub add-requires : goal.add-requires
add-requires c =
    let here = (goal.at.add-requires c).In_ok-term in
    let held = c.args.self.now.head.now.held in
    let i = c.loop-term.invariant in
    let more : 0 < c.args.count - c.loop-term._term = omega arith in
    terms-room _ _ _ _ _ _ i.1 more (rw (i.0, c.from-n.ensures) at (read_got c.in_ok-term.ensures))
    (weight here) (λ j. omega (arith, held.numbers j)) c.requires (narrow here) held.room

pub loop-term-preserved : goal.loop-term-preserved
loop-term-preserved c =
    let here = (goal.at.loop-term-preserved c).In_ok-term in
    let held = c.args.self.now.head.now.held in
    let i = c.loop-term.invariant in
    let r = c.in_ok-term.ensures in
    let more : 0 < c.args.count - c.loop-term._term = omega arith in
    let less : c.args.count - (c.loop-term._term + 1) ≡ c.args.count - c.loop-term._term - 1 = omega arith in (
      r.bytes ∙ i.0,
      rw (less, c.add.ensures) (terms-next _ _ _ _ _ _ i.1 more (rw (i.0, c.from-n.ensures) at (read_got r))
          (weight here) (λ j. omega (arith, held.numbers j)) (narrow here)),
    )

pub weigh_pairs-requires : goal.weigh_pairs-requires
weigh_pairs-requires c =
    let summed = c.loop-term.invariant.1.summed in
    (omega (arith, c.from-k.ensures), summed.before_small, summed.event_small)

-- the words of the log
abbrev words : Step → ℕ
words s = length (head_of s.head.now.net.bundle.now).entries

-- the reads, with the pairs behind the terms by the edition
abbrev weighed : Step → ℕ → ℕ → Reader (List PairFields) → List ℕ → ℕ → Read Bool
weighed s k count behind b at = weighed_terms (holds_for s) k behind (times count (term s.head.now.net.n s.head.now.rows)) b at

new-pairs : (s : Step) (k count : ℕ) (b : List ℕ) (at : ℕ) → s.head.now.is_new ≡ true
    → weighed s k count (pairs_for s) b at ≡ weighed s k count (pairs true (words s)) b at
new-pairs s k count b at new = ap (λ (e : Bool). weighed s k count (pairs e (words s)) b at) (s.head.now.marked.edition ∙ new)

old-pairs : (s : Step) (k count : ℕ) (b : List ℕ) (at : ℕ) → s.head.now.is_new ≡ false
    → weighed s k count (pairs_for s) b at ≡ weighed s k count (give []) b at
unfolding pairs
old-pairs s k count b at old = ap (λ (e : Bool). weighed s k count (pairs e (words s)) b at) (s.head.now.marked.edition ∙ old)

pub returns-then-self : goal.returns-then-self
returns-then-self c =
    let i = c.loop-term.invariant in
    let s = c.args.self.now in
    let w = c.weigh_pairs.ensures in
    let done = new-pairs s c.args.k c.args.count _ _ c.if-self.true
    ∙ terms-done _ _ _ _ _ _ i.1 (omega arith) s.head.now.noted.now (counts_before s) s.event c.args.k (omega arith) (pairs true (words s)) in
    record { bytes = w.bytes ∙ i.0; read = w.read ∙ rw (i.0, c.from-k.ensures) (sym done) }

pub returns : goal.returns
returns c =
    let i = c.loop-term.invariant in
    let s = c.args.self.now in
    let done = old-pairs s c.args.k c.args.count _ _ c.if-self.false
    ∙ terms-alone _ _ _ _ _ _ i.1 (omega arith) s.head.now.noted.now (counts_before s) s.event c.args.k (omega arith) in
    →got i.0 (done ∙ rw (c.hold-holds.ensures, c.counts.ensures.0, c.from-k.ensures, c.from.ensures))
