use Rattle.std.proofs.Common.{arith, rules, ◌≡◌, ◌∙◌, refl, ap, length, take, length-take}
use Rattle.stops.specs.Positions.{stop_or_end}
use Rattle.stops.specs.Onward.{onward-front, of_front, in_front}
use Rattle.parts.specs.Parts.{long_word, MarkedIn, marked_start, marked-cut, marked-whole}
use Rattle.parts.proofs.search_parts.Goals as goal

pub search_part-requires : goal.search_part-requires
search_part-requires c =
    let s = c.args.search.now in
    in_front c.front.ensures (λ at k w. MarkedIn at w 0 c.initial_tokens-marking.result)
    (marked-cut c.requires (omega arith)
    (marked_start s.net.limit s.net.inside s.over s.net.few (search rules) c.initial_tokens-marking.ensures (λ j. refl)))

pub returns-in-Some-clause-late : goal.returns-in-Some-clause-late
unfolding stop_or_end
returns-in-Some-clause-late c =
    let late = rw c.in-Some.is at c.search_part.ensures.late in
    (omega arith, omega (arith, late.1, c.requires, ap length c.front.ensures.word, length-take long_word c.args.search.now.word.now))

pub returns-in-Some-clause-onward : goal.returns-in-Some-clause-onward
returns-in-Some-clause-onward c =
    let s = c.args.search.now in
    onward-front s c.front.ensures 0 (λ at. at.count) c.requires (rw c.in-Some.is at c.search_part.ensures.onward)

pub search_rest-requires : goal.search_rest-requires
search_rest-requires c =
    let s = c.args.search.now in
    let size : length (take long_word s.word.now) ≡ long_word = length-take long_word s.word.now ∙ omega (arith, c.requires) in
    let all : length c.front.result.word.now ≡ long_word = ap length c.front.ensures.word ∙ size in
    let marked = c.search_part.ensures.marked c.in_default.is in
    let front = of_front c.front.ensures (λ at k w. MarkedIn at w (length c.front.result.word.now) c.search_part.new.marking) marked in
    (c.requires, marked-whole c.requires s.over (rw all at front))
