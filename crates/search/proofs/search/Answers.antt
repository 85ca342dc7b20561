-- `search::search` meets its contract: the empty word is the first of all.
use Rattle.std.proofs.Common.{◌≡◌, sym, ap, ◌∙◌, arith, []}
use Rattle.std.specs.Prelude.{Option, Some}
use Rattle.laws.specs.Parts.{front}
use Rattle.nets.specs.Nets.{Word}
use Rattle.nets.specs.Carrying.{initials}
use Rattle.engine.specs.Playing.{places_of}
use Rattle.search.specs.SearchLaws.{found-sized, empty-first, empty-none}
use Rattle.search.specs.Searching.{first_leading, size_of, word_left}
use Rattle.search.proofs.search.Goals as goal
use Rattle.search.proofs.search.Goals.{Then-starts}

empty : (c : Then-starts) → first_leading c.args.net.now.n (places_of c.args.net.now) c.args.wanted ≡ Some []
empty c =
    let net = places_of c.args.net.now in
    found-sized c.args.net.now.n net c.args.wanted 0 (omega arith) (λ i h. absurd (omega (arith, h))) []
    (empty-first c.args.net.now.n net c.args.wanted (initials net) (sym c.starts.ensures ∙ c.if-starts.true))

pub returns-then-starts-clause-value : goal.returns-then-starts-clause-value
unfolding size_of
returns-then-starts-clause-value c = ap size_of (sym (empty c))

pub returns-then-starts-clause-word_after : goal.returns-then-starts-clause-word_after
unfolding word_left front
returns-then-starts-clause-word_after c = ap (λ (o : Option Word). word_left o c.args.word.now) (sym (empty c))

pub search_longer-requires : goal.search_longer-requires
search_longer-requires c =
    let net = places_of c.args.net.now in
    (c.requires, empty-none c.args.net.now.n net c.args.wanted (initials net) (sym c.starts.ensures ∙ c.if-starts.false))
