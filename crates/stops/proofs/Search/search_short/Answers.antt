use Rattle.std.proofs.Common.{rules, ◌≡◌, ℤ, pos, subst, arith}
use Rattle.stops.specs.Reached.{Reached, reached-first}
use Rattle.stops.specs.Onward.{onward_then, onward-over}
use Rattle.stops.specs.Onward.{place_of as place_in}
use Rattle.stops.proofs.Search.search_short.Goals as goal

pub search_from-requires-clause-reached : goal.search_from-requires-clause-reached
search_from-requires-clause-reached c j low high t gave =
    let s = c.args.self.now in
    let is : pos (place_in s j).initial ≡ t = search rules in
    subst (λ (z : ℤ). Reached s.net.n s.word.now (place_in s j) z 0) is (reached-first _ _ _)

pub returns : goal.returns
returns c =
    let s = c.args.self.now in
    onward-over s (onward_then s 0 _ _ _ _ _ (omega arith) (omega arith) c.search_pairs-found.ensures.onward c.search_from.ensures.onward)
