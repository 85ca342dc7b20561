-- `search::search_longer` meets its contract.
use Rattle.std.proofs.Common.{◌≡◌, refl, sym, ap, ap₂, ◌∙◌, arith, ℕ, List, ◌++◌, length, take, drop, length-append, length-drop, length-take-le}
use Rattle.std.specs.Prelude.{Option, Some, None}
use Rattle.std.proofs.Math.Seq.{take-append_seam}
use Rattle.laws.specs.Lists.{each_next}
use Rattle.laws.specs.Parts.{front}
use Rattle.nets.specs.Nets.{Word}
use Rattle.nets.specs.Carrying.{initials}
use Rattle.laws.specs.Firsts.{first_of}
use Rattle.nets.specs.Reaching.{leading}
use Rattle.engine.specs.Playing.{places_of}
use Rattle.incidence.specs.Incidence.{places_in}
use Rattle.search.specs.NetWords.{on-incidence}
use Rattle.search.specs.SearchLaws.{first_sized, found-sized, none-sized}
use Rattle.search.specs.Searching.{size_of, word_left}
use Rattle.search.proofs.search_longer.Goals as goal
use Rattle.search.proofs.search_longer.Goals.{After-find_word}

-- the search by the numbers is that on the net
abbrev events : (c : After-find_word) → ℕ
events c = c.loop-length.length

known : (c : After-find_word) → length (take (events c) c.loop-length.tried) ≡ events c
known c = length-take-le (events c) c.loop-length.tried (omega (arith, c.loop-length.invariant.0, c.loop-length-test.true))

same : (c : After-find_word)
    → leading c.read-incidence.result.n (places_in c.read-incidence.result) c.args.wanted (length (take (events c) c.loop-length.tried))
    c.write_initial.new.tokens
    ≡ leading c.args.net.now.n (places_of c.args.net.now) c.args.wanted (events c) (initials (places_of c.args.net.now))
same c =
    ap (λ (d : ℕ). leading c.read-incidence.result.n (places_in c.read-incidence.result) c.args.wanted d c.write_initial.new.tokens) (known c)
    ∙ on-incidence c.args.net.now c.read-incidence.result c.read-incidence.ensures c.args.wanted (events c) c.requires.0
    c.write_initial.new.tokens _ c.write_initial.ensures.written

pub loop-length-init : goal.loop-length-init
loop-length-init c =
    let net = c.args.net.now in
    (refl, (refl, λ d h. let zero : d ≡ 0 = omega (arith, h) in ap (first_sized net.n (places_of net) c.args.wanted) zero ∙ c.requires.1))

pub returns-then-find_word : goal.returns-then-find_word
unfolding size_of word_left front
returns-then-find_word c =
    let at = (goal.at.returns-then-find_word c).After-find_word in
    let net = c.args.net.now in
    let l = c.loop-length.length in
    let new = c.find_word.new.word in
    let size : length new ≡ l = c.find_word.ensures.size ∙ known at in
    let found = ap first_of (sym (same at)) ∙ c.find_word.ensures.some c.if-find_word.true in
    let all = found-sized net.n (places_of net) c.args.wanted l (omega (arith, c.loop-length-test.true)) c.loop-length.invariant.1.1
    new found in
    let copied = c.copy_from_slice.ensures.after ∙ ap (λ (k : ℕ). take k (new ++ drop l c.loop-length.tried)) (sym size)
    ∙ take-append_seam new (drop l c.loop-length.tried) in
    record {
      value = ap (λ (k : ℕ). Some k) (sym size) ∙ ap size_of (sym all);
      word_after = ap₂ (λ (a b : List ℕ). a ++ b) copied (ap (λ (w : List ℕ). drop l w) c.loop-length.invariant.1.0)
          ∙ ap (λ (k : ℕ). new ++ drop k c.args.word.now) (sym size)
          ∙ ap (λ (o : Option Word). word_left o c.args.word.now) (sym all);
    }

pub loop-length-preserved : goal.loop-length-preserved
loop-length-preserved c =
    let at = (goal.at.loop-length-preserved c).After-find_word in
    let net = c.args.net.now in
    let l = c.loop-length.length in
    let new = c.find_word.new.word in
    let size : length new ≡ l = c.find_word.ensures.size ∙ known at in
    let none = ap first_of (sym (same at)) ∙ c.find_word.ensures.none c.if-find_word.false in (
      omega (
        arith,
        size,
        length-append new (drop l c.loop-length.tried),
        length-drop l c.loop-length.tried,
        c.loop-length.invariant.0,
        c.loop-length-test.true,
      ),
      (
        c.loop-length.invariant.1.0,
        each_next (λ (d : ℕ). first_sized net.n (places_of net) c.args.wanted d ≡ None) l c.loop-length.invariant.1.1 none,
      ),
    )

pub returns : goal.returns
unfolding size_of word_left
returns c =
    let net = c.args.net.now in
    let all = none-sized net.n (places_of net) c.args.wanted (λ d h. c.loop-length.invariant.1.1 d (omega (arith, h, c.loop-length-test.false))) in
    record {
      value = ap size_of (sym all);
      word_after = c.loop-length.invariant.1.0 ∙ ap (λ (o : Option Word). word_left o c.args.word.now) (sym all);
    }
