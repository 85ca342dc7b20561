-- Searches for a word: what is computed, with what is expected.
use Rattle.std.specs.Prelude.{◌≡◌, refl, true, Option, Some, None, ℕ, Err, Ok}
use mathlib.Core.List.{List, [], ◌∷◌, ◌++◌, flat_map}
use Rattle.laws.specs.Firsts.{first_of}
use Rattle.laws.specs.Lists.{all, any, tabulate, equal}
use Rattle.laws.specs.Numbers.{number_at}
use Rattle.laws.specs.Parts.{front}
use Rattle.laws.specs.Scans.{first_false, first_failing}
use Rattle.limits.specs.Limits.{right_size}
use Rattle.refusals.specs.Results.{bind}
use Rattle.refusals.specs.Results as results
use Rattle.refusals.specs.Answers.{Answer}
use Rattle.nets.specs.Nets.{words, event_count}
use Rattle.nets.specs.Carrying.{first_short, tokens_behind, play}
use Rattle.nets.specs.Reaching.{where_moved, leading, all_leading, reached}
use Rattle.bundles.specs.Reading.{item_in, require, field, byte, number, each, onward}
use Rattle.bundles.specs.Layout.{to_place, to_net}
use Rattle.bundles.specs.Readers.{mark, entry_after, entry, place, places, head_after, to_first, first, head, bundle_size, bundle_head, read_head}
use Rattle.search.specs.Searching.{reaching, size_of, word_left, sized, word_written, reached_of}
use Rattle.search.specs.declared.Reached.{Reached}
use Rattle.numbers.specs.Numbers.{sized_number, with_size}
use Rattle.demands.specs.Reaching.{reach_answer, reach_size, reach_leaves}

-- 0, how many events the word has, and the five bytes; 257 and the five bytes; or the refusal's number and spot
unfoldable of_found : Option ℕ → List ℕ → List ℕ
of_found (Some l) w = 0 ∷ l ∷ w
of_found None w = 257 ∷ w

unfoldable of_reached : Answer Reached → List ℕ
of_reached (Ok x) = of_found x.length x.word
of_reached (Err r) = r.number ∷ r.spot ∷ []

abbrev reach : List ℕ → ℕ → List ℕ
reach b wanted = of_reached (reach_answer b wanted)

-- in C: what is returned, `answer`, which held 20, 21, 22 and 23, and the five bytes, which held 7 to 11
abbrev handed : List ℕ → ℕ → List ℕ
handed b wanted = sized_number (reach_size b wanted) ∷ with_size (20 ∷ 21 ∷ 22 ∷ 23 ∷ []) (reach_size b wanted)
    ++ reach_leaves b wanted (7 ∷ 8 ∷ 9 ∷ 10 ∷ 11 ∷ [])

-- a place into which event 0 puts a token, and out of which event 1 takes so many, in either edition
abbrev filling : ℕ → ℕ → List ℕ
filling first taken = first ∷ 0 ∷ 1 ∷ 0 ∷ 0 ∷ 1 ∷ 0 ∷ 0 ∷ 0 ∷ 0 ∷ 0 ∷ taken ∷ 0 ∷ []

-- the same with the events exchanged
abbrev filling_by_1 : ℕ → ℕ → List ℕ
filling_by_1 first taken = first ∷ 0 ∷ 1 ∷ 0 ∷ 0 ∷ 0 ∷ 0 ∷ 1 ∷ 0 ∷ taken ∷ 0 ∷ 0 ∷ 0 ∷ []

-- two places: event 1 puts a token into the first, event 0 one into the second, and event 2 takes one out of each; event 0 also takes so many out of
-- the first, and puts as many back
abbrev both : ℕ → List ℕ
both taken = 3 ∷ 0 ∷ 2 ∷ 0 ∷ 0 ∷ taken ∷ 0 ∷ 1 ∷ 0 ∷ 0 ∷ 0 ∷ taken ∷ 0 ∷ 0 ∷ 0 ∷ 1 ∷ 0
    ∷ 0 ∷ 0 ∷ 1 ∷ 0 ∷ 0 ∷ 0 ∷ 0 ∷ 0 ∷ 0 ∷ 0 ∷ 0 ∷ 0 ∷ 1 ∷ 0 ∷ []

pub reaching_samples : List (List ℕ × List ℕ)
reaching_samples =
    -- the empty word; words of two and of five events; none, where six would do it; an event that always can occur
    (reach (filling 2 0) 1, 0 ∷ 0 ∷ 0 ∷ 0 ∷ 0 ∷ 0 ∷ 0 ∷ [])
    ∷ (reach (filling 2 2) 1, 0 ∷ 2 ∷ 0 ∷ 0 ∷ 0 ∷ 0 ∷ 0 ∷ [])
    ∷ (reach (filling 130 5) 1, 0 ∷ 5 ∷ 0 ∷ 0 ∷ 0 ∷ 0 ∷ 0 ∷ [])
    ∷ (reach (filling 130 6) 1, 257 ∷ 0 ∷ 0 ∷ 0 ∷ 0 ∷ 0 ∷ [])
    ∷ (reach (filling 2 6) 0, 0 ∷ 0 ∷ 0 ∷ 0 ∷ 0 ∷ 0 ∷ 0 ∷ [])
    -- the events exchanged
    ∷ (reach (filling_by_1 130 2) 0, 0 ∷ 2 ∷ 1 ∷ 1 ∷ 0 ∷ 0 ∷ 0 ∷ [])
    ∷ (reach (filling_by_1 2 5) 0, 0 ∷ 5 ∷ 1 ∷ 1 ∷ 1 ∷ 1 ∷ 1 ∷ [])
    ∷ (reach (filling_by_1 2 6) 0, 257 ∷ 0 ∷ 0 ∷ 0 ∷ 0 ∷ 0 ∷ [])
    -- of 0 1 and 1 0 the first by numbers; 1 0 alone, where 0 is refused at first
    ∷ (reach (both 0) 2, 0 ∷ 2 ∷ 0 ∷ 1 ∷ 0 ∷ 0 ∷ 0 ∷ [])
    ∷ (reach (both 1) 2, 0 ∷ 2 ∷ 1 ∷ 0 ∷ 0 ∷ 0 ∷ 0 ∷ [])
    -- 15 with spot 0; the bundle's refusals before it
    ∷ (reach (filling 2 2) 2, 15 ∷ 0 ∷ [])
    ∷ (reach (filling 2 2) 99, 15 ∷ 0 ∷ [])
    ∷ (reach [] 0, 4 ∷ 0 ∷ [])
    ∷ (reach (1 ∷ 0 ∷ 1 ∷ 0 ∷ []) 1, 6 ∷ 3 ∷ [])
    ∷ (reach (13 ∷ []) 99, 7 ∷ 0 ∷ [])
    -- handed out: a word, none, refusals
    ∷ (handed (both 1) 2, 0 ∷ 2 ∷ 21 ∷ 22 ∷ 23 ∷ 1 ∷ 0 ∷ 9 ∷ 10 ∷ 11 ∷ [])
    ∷ (handed (filling 2 6) 1, 257 ∷ 20 ∷ 21 ∷ 22 ∷ 23 ∷ 7 ∷ 8 ∷ 9 ∷ 10 ∷ 11 ∷ [])
    ∷ (handed (filling 2 2) 2, 15 ∷ 0 ∷ 21 ∷ 22 ∷ 23 ∷ 7 ∷ 8 ∷ 9 ∷ 10 ∷ 11 ∷ [])
    ∷ (handed (1 ∷ 0 ∷ 1 ∷ 0 ∷ []) 0, 6 ∷ 3 ∷ 21 ∷ 22 ∷ 23 ∷ 7 ∷ 8 ∷ 9 ∷ 10 ∷ 11 ∷ [])
    ∷ []

pub reaching-samples-hold : all (λ c. equal c.0 c.1) reaching_samples ≡ true
unfolding reaching_samples of_found of_reached all any tabulate equal number_at front first_false first_failing right_size bind results.require
    words event_count flat_map first_short tokens_behind play where_moved leading all_leading first_of reached item_in require field byte number
    each onward to_place to_net mark entry_after entry place places head_after to_first first head bundle_size bundle_head read_head reaching
    size_of word_left reached_of sized word_written sized_number with_size
reaching-samples-hold = refl
