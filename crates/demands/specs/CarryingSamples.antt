-- Starts, steps and runs of the carried engine: what is computed, with what is expected.
use Rattle.std.specs.Prelude.{◌≡◌, refl, true, ℕ, Err, Ok}
use mathlib.Core.List.{List, [], ◌∷◌, ◌++◌}
use Rattle.laws.specs.Lists.{all, any, tabulate, equal}
use Rattle.laws.specs.Differences.{negative_part, sumℤ}
use Rattle.laws.specs.Numbers.{number_at}
use Rattle.laws.specs.Parts.{front}
use Rattle.laws.specs.Scans.{first_false, first_failing}
use Rattle.limits.specs.Limits.{right_size}
use Rattle.refusals.specs.Results.{bind}
use Rattle.refusals.specs.Results as results
use Rattle.refusals.specs.Answers.{Answer, output_of}
use Rattle.nets.specs.Nets.{words, event_count, same, occurrences, counts, tokens, surplus, place_permits, net_permits}
use Rattle.nets.specs.Nets.{first_refusing, shortfall, shortfall_of, stopped_at, screen_after, screen}
use Rattle.nets.specs.Events.{first_bad}
use Rattle.nets.specs.Carrying.{first_short, tokens_behind, play}
use Rattle.bundles.specs.Reading.{item_in, require, field, byte, number, each, onward}
use Rattle.bundles.specs.Layout.{to_place, to_net}
use Rattle.bundles.specs.Readers.{mark, entry_after, entry, place, places, head_after, to_first, first, head, bundle_size, bundle_head, read_head}
use Rattle.screening.specs.Screening.{word_on, screening, replayed, screened_of, screened}
use Rattle.engine.specs.Engine.{starting, handed_back, stepping, stepped, tokens_stepped, kept_stepped}
use Rattle.engine.specs.declared.Outcome.{Outcome}
use Rattle.engine.specs.declared.Outcome.TheVariants.{Moved, Stopped}
use Rattle.demands.specs.Samples.{of_screened}
use Rattle.demands.specs.Carrying.{start_answer, start_leaves, step_answer, step_leaves, step_keeps}
use Rattle.demands.specs.Carried.{State, first_number, next_number, begun, behind, after, go_on, steps, begin, run}

-- 0 and the number of events so far, or the refusal's number and spot; then the slice afterwards
unfoldable of_start : Answer ℕ → List ℕ → List ℕ
of_start (Ok n) ts = 0 ∷ n ∷ ts
of_start (Err r) ts = r.number ∷ r.spot ∷ ts

-- 0 and the next number; 256, position, place and shortfall; or the refusal's number and spot; then the slice and the buffer afterwards
unfoldable of_step : Answer Outcome → List ℕ → List ℕ
of_step (Ok (Moved next)) ts = 0 ∷ next ∷ ts
of_step (Ok (Stopped s)) ts = 256 ∷ s.position ∷ s.place ∷ s.shortfall ∷ ts
of_step (Err r) ts = r.number ∷ r.spot ∷ ts

abbrev start : List ℕ → List ℕ → List ℕ
start b ts = of_start (start_answer b ts) (start_leaves b ts)

abbrev step : List ℕ → List ℕ → List ℕ → ℕ → ℕ → List ℕ
step b ts kept number event = of_step (step_answer b ts kept number event) (step_leaves b ts kept number event ++ step_keeps b ts kept number event)

abbrev pub of_state : State → List ℕ
of_state s = s.number ∷ (s.slice ++ s.kept)

-- two places over two events, whose numbers all differ: m = 10, in = 1 2, out = 3 5; and m = 20, in = 4 7, out = 8 13
abbrev two_places : List ℕ
two_places =
    2 ∷ 10 ∷ 0 ∷ 1 ∷ 0 ∷ 2 ∷ 0 ∷ 3 ∷ 0 ∷ 5 ∷ 0
    ∷ 20 ∷ 0 ∷ 4 ∷ 0 ∷ 7 ∷ 0 ∷ 8 ∷ 0 ∷ 13 ∷ 0 ∷ []

-- in the old edition and in the new one, with no word; and a bundle that ends inside its place
abbrev pub old : List ℕ
old = 2 ∷ 0 ∷ two_places

abbrev pub new : List ℕ
new = 130 ∷ 0 ∷ two_places

abbrev pub cut : List ℕ
cut = 1 ∷ 0 ∷ 1 ∷ 0 ∷ []

pub carrying_samples : List (List ℕ × List ℕ)
carrying_samples =
    -- start: the initial tokens, in a slice as long as the places, and in a longer one, whose rest stays
    (start old (97 ∷ 98 ∷ []), 0 ∷ 0 ∷ 10 ∷ 20 ∷ [])
    ∷ (start old (97 ∷ 98 ∷ 99 ∷ []), 0 ∷ 0 ∷ 10 ∷ 20 ∷ 99 ∷ [])
    ∷ (start new (97 ∷ 98 ∷ 99 ∷ []), 0 ∷ 0 ∷ 10 ∷ 20 ∷ 99 ∷ [])
    -- 5 with the place count; 4, 6 and 7 before it; nothing is written
    ∷ (start old (97 ∷ []), 5 ∷ 2 ∷ 97 ∷ [])
    ∷ (start [] [], 4 ∷ 0 ∷ [])
    ∷ (start cut [], 6 ∷ 3 ∷ [])
    ∷ (start (13 ∷ []) [], 7 ∷ 0 ∷ [])
    -- no place: an empty slice is long enough
    ∷ (start (1 ∷ 0 ∷ 0 ∷ []) [], 0 ∷ 0 ∷ [])
    -- steps: the tokens moved and the event kept behind those so far, the rest as it was
    ∷ (step old (10 ∷ 20 ∷ 99 ∷ []) (77 ∷ 78 ∷ []) 0 0, 0 ∷ 1 ∷ 8 ∷ 16 ∷ 99 ∷ 0 ∷ 78 ∷ [])
    ∷ (step old (10 ∷ 20 ∷ 99 ∷ []) (77 ∷ 78 ∷ []) 0 1, 0 ∷ 1 ∷ 7 ∷ 14 ∷ 99 ∷ 1 ∷ 78 ∷ [])
    ∷ (step new (10 ∷ 30 ∷ 99 ∷ []) (70 ∷ 71 ∷ 72 ∷ 73 ∷ []) 2 1, 0 ∷ 3 ∷ 7 ∷ 24 ∷ 99 ∷ 70 ∷ 71 ∷ 1 ∷ 73 ∷ [])
    -- as many tokens as are taken; one fewer in place 1, and place 0 keeps its tokens and the buffer its bytes
    ∷ (step old (3 ∷ 8 ∷ []) (71 ∷ 72 ∷ []) 1 0, 0 ∷ 2 ∷ 1 ∷ 4 ∷ 71 ∷ 0 ∷ [])
    ∷ (step old (6 ∷ 7 ∷ 99 ∷ []) (71 ∷ 72 ∷ 73 ∷ []) 2 0, 256 ∷ 2 ∷ 1 ∷ 1 ∷ 6 ∷ 7 ∷ 99 ∷ 71 ∷ 72 ∷ 73 ∷ [])
    -- too few in place 0, where in(1) would make up for it; in both places, of which the lower is named; and in place 1
    ∷ (step old (4 ∷ 40 ∷ []) (71 ∷ 72 ∷ []) 1 1, 256 ∷ 1 ∷ 0 ∷ 1 ∷ 4 ∷ 40 ∷ 71 ∷ 72 ∷ [])
    ∷ (step old (1 ∷ 2 ∷ []) (71 ∷ 72 ∷ []) 1 1, 256 ∷ 1 ∷ 0 ∷ 4 ∷ 1 ∷ 2 ∷ 71 ∷ 72 ∷ [])
    ∷ (step old (5 ∷ 2 ∷ []) (71 ∷ 72 ∷ []) 1 1, 256 ∷ 1 ∷ 1 ∷ 11 ∷ 5 ∷ 2 ∷ 71 ∷ 72 ∷ [])
    -- 14 before 4; the last number that passes it
    ∷ (step [] [] [] 65535 0, 14 ∷ 65535 ∷ [])
    ∷ (step old (10 ∷ 20 ∷ []) (71 ∷ []) 65536 0, 14 ∷ 65535 ∷ 10 ∷ 20 ∷ 71 ∷ [])
    ∷ (step [] [] [] 65534 0, 4 ∷ 0 ∷ [])
    ∷ (step old (10 ∷ 20 ∷ []) (71 ∷ []) 65534 0, 3 ∷ 65535 ∷ 10 ∷ 20 ∷ 71 ∷ [])
    -- 6 and 7 before 5; 5 before 16; 16 before 15; 15 before 3, which the length needed goes with; 3 before a stop
    ∷ (step cut [] (71 ∷ []) 0 0, 6 ∷ 3 ∷ 71 ∷ [])
    ∷ (step (13 ∷ []) [] [] 0 0, 7 ∷ 0 ∷ [])
    ∷ (step old (4294901761 ∷ []) [] 0 0, 5 ∷ 2 ∷ 4294901761 ∷ [])
    ∷ (step old (10 ∷ 4294901761 ∷ []) [] 3 2, 16 ∷ 1 ∷ 10 ∷ 4294901761 ∷ [])
    ∷ (step old (0 ∷ 0 ∷ []) (71 ∷ 72 ∷ 73 ∷ []) 3 2, 15 ∷ 3 ∷ 0 ∷ 0 ∷ 71 ∷ 72 ∷ 73 ∷ [])
    ∷ (step old (0 ∷ 0 ∷ []) (71 ∷ 72 ∷ 73 ∷ []) 3 0, 3 ∷ 4 ∷ 0 ∷ 0 ∷ 71 ∷ 72 ∷ 73 ∷ [])
    ∷ (step old (0 ∷ 0 ∷ []) (71 ∷ 72 ∷ 73 ∷ []) 2 0, 256 ∷ 2 ∷ 0 ∷ 3 ∷ 0 ∷ 0 ∷ 71 ∷ 72 ∷ 73 ∷ [])
    ∷ (step old (10 ∷ 20 ∷ []) [] 0 0, 3 ∷ 1 ∷ 10 ∷ 20 ∷ [])
    ∷ (step old (10 ∷ 20 ∷ []) (71 ∷ []) 4 0, 3 ∷ 5 ∷ 10 ∷ 20 ∷ 71 ∷ [])
    -- 16 before a stop, for the lowest such place; equal to the limit passes; behind the places it is not looked at
    ∷ (step old (0 ∷ 4294901761 ∷ []) (71 ∷ []) 0 0, 16 ∷ 1 ∷ 0 ∷ 4294901761 ∷ 71 ∷ [])
    ∷ (step old (4294901761 ∷ 4294901762 ∷ []) (71 ∷ []) 0 0, 16 ∷ 0 ∷ 4294901761 ∷ 4294901762 ∷ 71 ∷ [])
    ∷ (step old (4294901760 ∷ 4294901760 ∷ []) (71 ∷ []) 0 0, 0 ∷ 1 ∷ 4294901758 ∷ 4294901756 ∷ 0 ∷ [])
    ∷ (step old (10 ∷ 20 ∷ 4294901761 ∷ []) (71 ∷ []) 0 0, 0 ∷ 1 ∷ 8 ∷ 16 ∷ 4294901761 ∷ 0 ∷ [])
    -- runs: permitted, and stopped where screening stops, with its shortfall; what is behind them; the bundle's refusal; a buffer that is full
    ∷ (of_screened (run old (97 ∷ 98 ∷ 99 ∷ []) (71 ∷ 72 ∷ []) (0 ∷ 1 ∷ [])), 0 ∷ [])
    ∷ (of_state (after old (97 ∷ 98 ∷ 99 ∷ []) (71 ∷ 72 ∷ 73 ∷ []) (0 ∷ 1 ∷ [])), 2 ∷ 5 ∷ 10 ∷ 99 ∷ 0 ∷ 1 ∷ 73 ∷ [])
    ∷ (of_screened (run old (97 ∷ 98 ∷ 99 ∷ []) (71 ∷ 72 ∷ 73 ∷ 74 ∷ []) (0 ∷ 1 ∷ 1 ∷ 0 ∷ [])), 256 ∷ 2 ∷ 1 ∷ 3 ∷ [])
    ∷ (of_screened (screened old (0 ∷ 1 ∷ 1 ∷ 0 ∷ [])), 256 ∷ 2 ∷ 1 ∷ 3 ∷ [])
    ∷ (of_screened (run cut (97 ∷ []) (71 ∷ []) (0 ∷ [])), 6 ∷ 3 ∷ [])
    ∷ (of_screened (run old (97 ∷ 98 ∷ []) (71 ∷ []) (0 ∷ 1 ∷ [])), 3 ∷ 2 ∷ [])
    -- a 1 that is refused and an event that is not there are not counted, nor kept
    ∷ (of_state (after old (97 ∷ 98 ∷ 99 ∷ []) (71 ∷ 72 ∷ 73 ∷ 74 ∷ []) (0 ∷ 1 ∷ 1 ∷ 2 ∷ 0 ∷ [])), 3 ∷ 3 ∷ 6 ∷ 99 ∷ 0 ∷ 1 ∷ 0 ∷ 74 ∷ [])
    ∷ []

pub carrying-samples-hold : all (λ c. equal c.0 c.1) carrying_samples ≡ true
unfolding carrying_samples of_start of_step of_screened all any tabulate equal number_at front first_false first_failing right_size bind
    results.require words event_count first_short tokens_behind play item_in require field byte number each onward to_place to_net mark entry_after
    entry place places head_after to_first first head bundle_size bundle_head read_head starting handed_back output_of stepping stepped
    tokens_stepped kept_stepped first_number next_number begun behind go_on steps begin run screened screened_of screening word_on replayed screen screen_after
    stopped_at net_permits place_permits shortfall shortfall_of first_refusing surplus tokens counts occurrences same sumℤ negative_part first_bad
carrying-samples-hold = refl
