-- `parts::search_long` meets its contract.
use Rattle.std.proofs.Common.{arith, ap, ◌≡◌, Option, None, length, length-take, take}
use Rattle.std.specs.Option.{option_or}
use Rattle.nets.specs.Nets.{Word}
use Rattle.bundles.specs.declared.net.Net.{Net}
use Rattle.stops.specs.declared.Search.{Search}
use Rattle.stops.specs.declared.Stop.{Stop}
use Rattle.stops.specs.Positions.{finds-or}
use Rattle.stops.specs.Onward.{end_of, places_of, OnwardIn, Searched, onward-over}
use Rattle.parts.proofs.search_long.Goals as goal

pub search_parts-requires : goal.search_parts-requires
search_parts-requires c =
    omega (arith, c.end.ensures, c.requires.0, c.requires.1, ap length c.front-part.ensures.word, length-take c.end.result c.args.search.now.word.now)

-- what is found with a net, in a word: those of the search, in the steps before `from`
searched : (s : Search) (from found : Option Stop) {net : Net} {word : Word} → net ≡ s.net → word ≡ take (end_of s from) s.word.now
    → OnwardIn net s.before word 0 net.count None found → Searched s from (option_or found from)
searched s from found net word search =
    let here = rw (net, word) at search in
    onward-over s (λ others size finds. finds-or s.net.n others (places_of s 0 s.net.count) s.word.now from found finds (here others size))

-- the number of places before the net is reckoned, since a must-fail edit changes it
pub returns : goal.returns
returns c =
    let front = rw c.end.ensures at c.front-part.ensures in
    rw c.or.ensures (searched c.args.search.now c.args.from c.search_parts.result front.net front.word
    (λ others size finds. c.search_parts.ensures.onward others (omega (arith, size, front.before)) finds))
