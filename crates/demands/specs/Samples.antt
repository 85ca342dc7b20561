-- Samples A to I of the paper for the definitions, on their bytes, and further refusals: what is computed, with what is expected.
use Rattle.std.specs.Prelude.{◌≡◌, refl, Bool, true, false, cond, ℕ, ◌-◌, ltb, length, Err, None, Ok, Some}
use mathlib.Core.List.{List, [], ◌∷◌, map, flat_map}
use Rattle.laws.specs.Lists.{all, any, keep, tabulate, equal, member}
use Rattle.laws.specs.Numbers.{number_at}
use Rattle.laws.specs.Differences.{negative_part, is_zero_ℤ, sumℤ}
use Rattle.laws.specs.Scans.{first_failing}
use Rattle.limits.specs.Limits.{right_size}
use Rattle.refusals.specs.Results.{bind}
use Rattle.refusals.specs.Results as results
use Rattle.nets.specs.Nets.{Log, words, completed_words, place_obeys, same, occurrences, event_count, weighed, beginnings, prefixes, add_row}
use Rattle.nets.specs.Nets.{counts, step_after, tokens, surplus, place_permits, shortfall, net_permits, permits_after, permits, first_refusing}
use Rattle.nets.specs.Nets.{shortfall_of, stopped_at, screen_after, screen, rows, allowed, passes, traffic, row_steps, continuations, allowed_steps}
use Rattle.nets.specs.Nets.{wrong_continuations, fits, refused_by}
use Rattle.nets.specs.Bundle.{names_completed, pair_counts, paired, weighs_before, weighs_after, weights_hold, solves, is_by_place, tally}
use Rattle.nets.specs.Events.{first_bad}
use Rattle.logs.specs.Answers.{table_size}
use Rattle.bundles.specs.Reading.{item_in, require, field, byte, number, each, onward}
use Rattle.bundles.specs.Layout.{to_place, to_net, to_term, signed, to_pair, to_certificate, to_bundle}
use Rattle.bundles.specs.Readers.{head_in, head_of, events_in, log_in, net_in, mark, entry_after, entry, place, places, head_after, to_first, first}
use Rattle.bundles.specs.Readers.{head, bundle_size, bundle_head, read_head, term, pair, pairs, weights, of_kind, certificate}
use Rattle.verdicts.specs.Judging.{unsolved, solved, at_end, after_head, contents, judging, judged, Verdict, verdict_of, verdict, verdict_number}
use Rattle.verdicts.specs.declared.Tally.{Tally}
use Rattle.screening.specs.Screening.{word_on, screening, joining, replayed, screened_of, screened, screened_joined, screened_number, Screened}
use Rattle.numbers.specs.Numbers.{with_verdict, with_stop, with_screened}

-- 0 and the four counts, or the refusal's number and spot
unfoldable pub of_verdict : Verdict → List ℕ
of_verdict (Ok c) = 0 ∷ c.rows ∷ c.allowed ∷ c.by_place ∷ c.by_weights ∷ []
of_verdict (Err r) = r.number ∷ r.spot ∷ []

-- 0 where it is permitted; 256, position, place and shortfall where it is stopped; or the refusal's number and spot
unfoldable pub of_screened : Screened → List ℕ
of_screened (Ok None) = 0 ∷ []
of_screened (Ok (Some s)) = 256 ∷ s.position ∷ s.place ∷ s.shortfall ∷ []
of_screened (Err r) = r.number ∷ r.spot ∷ []

-- what a call for C returns, then the four numbers of `answer`, which held 10, 11, 12 and 13
unfoldable pub handed_verdict : Verdict → List ℕ
handed_verdict v = verdict_number v ∷ with_verdict (10 ∷ 11 ∷ 12 ∷ 13 ∷ []) v

handed_screened : Screened → List ℕ
handed_screened s = screened_number s ∷ with_screened (10 ∷ 11 ∷ 12 ∷ 13 ∷ []) s

-- case A: 53 bytes
unfoldable pub bytes_a : List ℕ
bytes_a =
    2 ∷ 2 ∷ 1 ∷ 1 ∷ 3 ∷ 0 ∷ 0 ∷ 1 ∷ 2
    ∷ 1 ∷ 0 ∷ 1 ∷ 0 ∷ 0 ∷ 0 ∷ 1 ∷ 0 ∷ 1 ∷ 0
    ∷ 2 ∷ 0 ∷ 0 ∷ 0 ∷ 0 ∷ 0 ∷ 1 ∷ 0 ∷ 0 ∷ 0
    ∷ 0 ∷ 0 ∷ 0 ∷ 0 ∷ 1 ∷ 2 ∷ 0 ∷ 2 ∷ 0 ∷ 0 ∷ 1 ∷ 1 ∷ 0 ∷ 3 ∷ 0 ∷ 1 ∷ 1 ∷ 0 ∷ 0 ∷ 1 ∷ 0 ∷ 0 ∷ 0 ∷ 0 ∷ []

-- two bundles of 2 events, no word and no certificate: a place out of which 0 takes 1; one that nothing touches, and one with 1 token of which 1 takes 3
unfoldable pub bytes_q : List ℕ
bytes_q = 2 ∷ 0 ∷ 1 ∷ 0 ∷ 0 ∷ 0 ∷ 0 ∷ 0 ∷ 0 ∷ 1 ∷ 0 ∷ 0 ∷ 0 ∷ []

unfoldable pub bytes_r : List ℕ
bytes_r = 2 ∷ 0 ∷ 2 ∷ 0 ∷ 0 ∷ 0 ∷ 0 ∷ 0 ∷ 0 ∷ 0 ∷ 0 ∷ 0 ∷ 0 ∷ 1 ∷ 0 ∷ 0 ∷ 0 ∷ 0 ∷ 0 ∷ 0 ∷ 0 ∷ 3 ∷ 0 ∷ []

-- the log 1, 0 0 0 0 1 over 2 events, with four different counts: 1 is allowed at the start and after four 0, so permitted after one, two and three
unfoldable pub bytes_four : List ℕ
bytes_four =
    2 ∷ 2 ∷ 1 ∷ 1 ∷ 5 ∷ 0 ∷ 0 ∷ 0 ∷ 0 ∷ 1 ∷ 2
    ∷ 1 ∷ 0 ∷ 1 ∷ 0 ∷ 0 ∷ 0 ∷ 1 ∷ 0 ∷ 1 ∷ 0
    ∷ 4 ∷ 0 ∷ 0 ∷ 0 ∷ 0 ∷ 0 ∷ 1 ∷ 0 ∷ 0 ∷ 0
    ∷ 0 ∷ 0 ∷ 0 ∷ 0 ∷ 1 ∷ 4 ∷ 0 ∷ 2 ∷ 0 ∷ 0 ∷ 1 ∷ 3 ∷ 0 ∷ 5 ∷ 0 ∷ 1 ∷ 1 ∷ 0
    ∷ 1 ∷ 2 ∷ 0 ∷ 2 ∷ 0 ∷ 0 ∷ 1 ∷ 1 ∷ 0 ∷ 5 ∷ 0 ∷ 1 ∷ 1 ∷ 0
    ∷ 1 ∷ 4 ∷ 0 ∷ 2 ∷ 0 ∷ 0 ∷ 1 ∷ 1 ∷ 0 ∷ 5 ∷ 0 ∷ 1 ∷ 3 ∷ 0 ∷ 0 ∷ 1 ∷ 0 ∷ 0 ∷ 0 ∷ 0 ∷ []

-- the log of I: prefixes 0 1 and 1 0 have the same counts, so 3 is allowed after 0 1
log_i : Log
log_i = (0 ∷ 1 ∷ 2 ∷ []) ∷ (1 ∷ 0 ∷ 3 ∷ []) ∷ []

pub samples : List (List ℕ × List ℕ)
samples =
    -- A
    (of_verdict (verdict table_size bytes_a), 0 ∷ 5 ∷ 4 ∷ 5 ∷ 1 ∷ [])
    -- B
    ∷ (of_screened (screened bytes_a (0 ∷ 1 ∷ [])), 0 ∷ [])
    -- C
    ∷ (of_screened (screened bytes_a (1 ∷ 0 ∷ [])), 256 ∷ 1 ∷ 0 ∷ 1 ∷ [])
    -- D
    ∷ (of_screened (screened bytes_a (0 ∷ 0 ∷ 0 ∷ [])), 256 ∷ 2 ∷ 1 ∷ 1 ∷ [])
    -- E
    ∷ (of_verdict (verdict table_size (1 ∷ 0 ∷ 1 ∷ 0 ∷ 0 ∷ 0 ∷ 0 ∷ 1 ∷ 0 ∷ 0 ∷ 0 ∷ [])), 0 ∷ 1 ∷ 0 ∷ 1 ∷ 0 ∷ [])
    -- four different counts: rows, allowed steps, kind 0, kind 1
    ∷ (of_verdict (verdict table_size bytes_four), 0 ∷ 7 ∷ 6 ∷ 5 ∷ 3 ∷ [])
    -- F
    ∷ (of_verdict (verdict table_size (1 ∷ 0 ∷ 0 ∷ [])), 6 ∷ 3 ∷ [])
    -- G; it also isolates the third inequality, the only one that its empty sums do not meet
    ∷ (of_verdict (verdict table_size (1 ∷ 0 ∷ 0 ∷ 1 ∷ 1 ∷ 0 ∷ 0 ∷ [])), 12 ∷ 0 ∷ [])
    -- H
    ∷ (of_verdict (verdict table_size (1 ∷ 0 ∷ 0 ∷ 1 ∷ 0 ∷ 0 ∷ 0 ∷ [])), 7 ∷ 4 ∷ [])
    -- I: rows, allowed steps, wrong continuations, and 3 after 0 1
    ∷ (length (rows 4 log_i) ∷ length (allowed_steps 4 log_i) ∷ length (wrong_continuations 4 log_i) ∷ cond (allowed 4 log_i (step_after 4 (0 ∷ 1 ∷ []) 3)) 1 0 ∷ [], 6 ∷ 6 ∷ 18 ∷ 1 ∷ [])
    -- and the traffic of its rows; with two empty words; two words of which one is a prefix of the other
    ∷ (map (traffic 4 log_i) (rows 4 log_i), 2 ∷ 1 ∷ 2 ∷ 1 ∷ 1 ∷ 1 ∷ [])
    ∷ (map (traffic 4 ([] ∷ [] ∷ log_i)) (rows 4 ([] ∷ [] ∷ log_i)), 4 ∷ 1 ∷ 2 ∷ 1 ∷ 1 ∷ 1 ∷ [])
    ∷ (map (traffic 1 ((0 ∷ 0 ∷ []) ∷ (0 ∷ []) ∷ [])) (rows 1 ((0 ∷ 0 ∷ []) ∷ (0 ∷ []) ∷ [])), 2 ∷ 2 ∷ 1 ∷ [])
    -- further verdicts
    ∷ (of_verdict (verdict table_size []), 4 ∷ 0 ∷ [])
    ∷ (of_verdict (verdict (table_size - 1) (13 ∷ [])), 5 ∷ table_size ∷ [])
    ∷ (of_verdict (verdict table_size (13 ∷ [])), 7 ∷ 0 ∷ [])
    ∷ (of_verdict (verdict table_size (1 ∷ 1 ∷ [])), 6 ∷ 2 ∷ [])
    ∷ (of_verdict (verdict table_size (1 ∷ 1 ∷ 2 ∷ 0 ∷ [])), 6 ∷ 4 ∷ [])
    ∷ (of_verdict (verdict table_size (1 ∷ 1 ∷ 2 ∷ 1 ∷ [])), 7 ∷ 3 ∷ [])
    ∷ (of_verdict (verdict table_size (1 ∷ 0 ∷ 65 ∷ [])), 7 ∷ 2 ∷ [])
    ∷ (of_verdict (verdict table_size (1 ∷ 0 ∷ 1 ∷ 0 ∷ 0 ∷ 0 ∷ [])), 6 ∷ 5 ∷ [])
    ∷ (of_verdict (verdict table_size (1 ∷ 1 ∷ 1 ∷ 0 ∷ 1 ∷ 0 ∷ 0 ∷ 0 ∷ 0 ∷ 1 ∷ 0 ∷ [])), 10 ∷ 0 ∷ [])
    ∷ (of_verdict (verdict table_size (2 ∷ 0 ∷ 1 ∷ 0 ∷ 0 ∷ 0 ∷ 0 ∷ 0 ∷ 0 ∷ 1 ∷ 0 ∷ 0 ∷ 0 ∷ 0 ∷ 0 ∷ 0 ∷ 0 ∷ [])), 11 ∷ 1 ∷ [])
    ∷ (of_verdict (verdict table_size (1 ∷ 0 ∷ 1 ∷ 0 ∷ 0 ∷ 0 ∷ 0 ∷ 1 ∷ 0 ∷ 0 ∷ 1 ∷ [])), 7 ∷ 10 ∷ [])
    ∷ (of_verdict (verdict table_size (1 ∷ 0 ∷ 1 ∷ 0 ∷ 0 ∷ 0 ∷ 0 ∷ 1 ∷ 0 ∷ 0 ∷ 0 ∷ 0 ∷ [])), 13 ∷ 11 ∷ [])
    ∷ (of_verdict (verdict table_size (1 ∷ 0 ∷ 0 ∷ 2 ∷ [])), 7 ∷ 3 ∷ [])
    ∷ (of_verdict (verdict table_size (1 ∷ 0 ∷ 0 ∷ 1 ∷ 1 ∷ 0 ∷ 1 ∷ 1 ∷ 0 ∷ 0 ∷ 0 ∷ 0 ∷ [])), 7 ∷ 7 ∷ [])
    ∷ (of_verdict (verdict table_size (1 ∷ 0 ∷ 0 ∷ 1 ∷ 1 ∷ 0 ∷ 1 ∷ 0 ∷ 0 ∷ 0 ∷ 0 ∷ 0 ∷ [])), 12 ∷ 0 ∷ [])
    -- 65 terms; a term's event, and its weight
    ∷ (of_verdict (verdict table_size (1 ∷ 0 ∷ 0 ∷ 1 ∷ 1 ∷ 0 ∷ 65 ∷ [])), 7 ∷ 6 ∷ [])
    ∷ (of_verdict (verdict table_size (1 ∷ 0 ∷ 0 ∷ 1 ∷ 1 ∷ 0 ∷ 1 ∷ 0 ∷ 0 ∷ 5 ∷ 0 ∷ 0 ∷ [])), 7 ∷ 9 ∷ [])
    ∷ (of_verdict (verdict table_size (1 ∷ 0 ∷ 0 ∷ 1 ∷ 1 ∷ 0 ∷ 1 ∷ 0 ∷ 0 ∷ 0 ∷ 0 ∷ [])), 6 ∷ 10 ∷ [])
    -- the inequalities of kind 1, each the only one that is not met: the sum of g at most k; the second; the third
    ∷ (of_verdict (verdict table_size (1 ∷ 1 ∷ 1 ∷ 0 ∷ 0 ∷ 1 ∷ 1 ∷ 0 ∷ 1 ∷ 0 ∷ 0 ∷ 0 ∷ 2 ∷ 0 ∷ [])), 12 ∷ 0 ∷ [])
    ∷ (of_verdict (verdict table_size (2 ∷ 1 ∷ 2 ∷ 0 ∷ 1 ∷ 0 ∷ 1 ∷ 1 ∷ 0 ∷ 1 ∷ 1 ∷ 0 ∷ 1 ∷ 1 ∷ 0 ∷ [])), 12 ∷ 0 ∷ [])
    ∷ (of_verdict (verdict table_size (2 ∷ 1 ∷ 2 ∷ 0 ∷ 1 ∷ 0 ∷ 1 ∷ 1 ∷ 0 ∷ 1 ∷ 0 ∷ 0 ∷ 0 ∷ 1 ∷ 0 ∷ [])), 12 ∷ 0 ∷ [])
    -- further answers of screening: 4, 6, 7, 15, and a bundle that is not accepted
    ∷ (of_screened (screened [] (0 ∷ [])), 4 ∷ 0 ∷ [])
    ∷ (of_screened (screened (1 ∷ 0 ∷ []) (0 ∷ [])), 6 ∷ 2 ∷ [])
    ∷ (of_screened (screened (13 ∷ []) (0 ∷ [])), 7 ∷ 0 ∷ [])
    ∷ (of_screened (screened (1 ∷ 0 ∷ 1 ∷ 0 ∷ 0 ∷ 0 ∷ 0 ∷ 1 ∷ []) (0 ∷ [])), 6 ∷ 7 ∷ [])
    ∷ (of_screened (screened bytes_a (0 ∷ 2 ∷ [])), 15 ∷ 1 ∷ [])
    ∷ (of_screened (screened bytes_a []), 0 ∷ [])
    ∷ (of_screened (screened (1 ∷ 0 ∷ 1 ∷ 0 ∷ 0 ∷ 0 ∷ 0 ∷ 1 ∷ 0 ∷ 9 ∷ []) (0 ∷ [])), 256 ∷ 0 ∷ 0 ∷ 1 ∷ [])
    -- two bundles joined: the second's places are numbered behind the first's; the earlier stop, and the lowest place of it, whichever comes first
    ∷ (of_screened (screened_joined bytes_q bytes_r (1 ∷ [])), 256 ∷ 0 ∷ 2 ∷ 2 ∷ [])
    ∷ (of_screened (screened_joined bytes_r bytes_q (1 ∷ [])), 256 ∷ 0 ∷ 1 ∷ 2 ∷ [])
    ∷ (of_screened (screened_joined bytes_q bytes_r (1 ∷ 0 ∷ [])), 256 ∷ 0 ∷ 2 ∷ 2 ∷ [])
    ∷ (of_screened (screened_joined bytes_q bytes_r (0 ∷ 1 ∷ [])), 256 ∷ 0 ∷ 0 ∷ 1 ∷ [])
    ∷ (of_screened (screened_joined bytes_r bytes_r (1 ∷ [])), 256 ∷ 0 ∷ 1 ∷ 2 ∷ [])
    ∷ (of_screened (screened_joined bytes_q bytes_r []), 0 ∷ [])
    ∷ (of_screened (screened_joined bytes_a (2 ∷ 0 ∷ 0 ∷ []) (0 ∷ 1 ∷ [])), 0 ∷ [])
    -- the first bundle's refusal, though the second has a lower number; the second's; 19 before 15; 15
    ∷ (of_screened (screened_joined (13 ∷ []) [] (9 ∷ [])), 7 ∷ 0 ∷ [])
    ∷ (of_screened (screened_joined bytes_q (1 ∷ 0 ∷ []) (9 ∷ [])), 6 ∷ 2 ∷ [])
    ∷ (of_screened (screened_joined bytes_q (1 ∷ 0 ∷ 0 ∷ []) (9 ∷ [])), 19 ∷ 0 ∷ [])
    ∷ (of_screened (screened_joined bytes_q bytes_r (1 ∷ 2 ∷ [])), 15 ∷ 1 ∷ [])
    -- as C gets them: the four counts; a spot; a stop's position, place and shortfall, with one bundle and joined; permitted; a spot
    ∷ (handed_verdict (verdict table_size (2 ∷ 1 ∷ 1 ∷ 0 ∷ 1 ∷ 1 ∷ 0 ∷ 0 ∷ 0 ∷ 0 ∷ 0 ∷ 1 ∷ 0 ∷ 2 ∷ 0 ∷ 0 ∷ 0 ∷ 0 ∷ 0 ∷ 0 ∷ 0 ∷ [])), 0 ∷ 2 ∷ 1 ∷ 3 ∷ 0 ∷ [])
    ∷ (handed_verdict (verdict table_size (1 ∷ 0 ∷ 0 ∷ 1 ∷ 0 ∷ 0 ∷ 0 ∷ [])), 7 ∷ 4 ∷ 11 ∷ 12 ∷ 13 ∷ [])
    ∷ (handed_screened (screened bytes_r (0 ∷ 0 ∷ 0 ∷ 1 ∷ [])), 256 ∷ 3 ∷ 1 ∷ 2 ∷ 13 ∷ [])
    ∷ (handed_screened (screened_joined bytes_a bytes_r (0 ∷ 1 ∷ [])), 256 ∷ 1 ∷ 3 ∷ 2 ∷ 13 ∷ [])
    ∷ (handed_screened (screened bytes_a []), 0 ∷ 10 ∷ 11 ∷ 12 ∷ 13 ∷ [])
    ∷ (handed_screened (screened bytes_a (0 ∷ 2 ∷ [])), 15 ∷ 1 ∷ 11 ∷ 12 ∷ 13 ∷ [])
    ∷ []

-- case A with a further word 0, and twice the numbers of its second place
unfoldable pub bytes_a' : List ℕ
bytes_a' =
    2 ∷ 3 ∷ 1 ∷ 1 ∷ 3 ∷ 0 ∷ 0 ∷ 1 ∷ 1 ∷ 0 ∷ 2
    ∷ 1 ∷ 0 ∷ 1 ∷ 0 ∷ 0 ∷ 0 ∷ 1 ∷ 0 ∷ 1 ∷ 0
    ∷ 4 ∷ 0 ∷ 0 ∷ 0 ∷ 0 ∷ 0 ∷ 2 ∷ 0 ∷ 0 ∷ 0
    ∷ 0 ∷ 0 ∷ 0 ∷ 0 ∷ 1 ∷ 2 ∷ 0 ∷ 2 ∷ 0 ∷ 0 ∷ 1 ∷ 1 ∷ 0 ∷ 3 ∷ 0 ∷ 1 ∷ 1 ∷ 0 ∷ 0 ∷ 1 ∷ 0 ∷ 0 ∷ 0 ∷ 0 ∷ []

-- 5 rows, 4 allowed steps, 5 certificates of kind 0 and 1 of kind 1
unfoldable pub counts_a : Tally
counts_a = record { rows = 5; allowed = 4; by_place = 5; by_weights = 1 }

-- each word of the one list is in the other
abbrev pub listed_in : List (List ℕ) → List (List ℕ) → Bool
listed_in l₁ l₂ = all (λ w. member w l₂) l₁

-- ---- One result over all of it

-- what computing gives
pub record Computed : Type 0 where
  -- A to I, and the further refusals, are as expected
  pub samples_hold : all (λ c. equal c.0 c.1) samples ≡ true
  pub accepted_a : verdict table_size bytes_a ≡ Ok counts_a
  pub accepted_a' : verdict table_size bytes_a' ≡ Ok counts_a
  pub events : events_in bytes_a ≡ events_in bytes_a'
  pub two : events_in bytes_a ≡ 2
  pub to : listed_in (prefixes (log_in bytes_a)) (prefixes (log_in bytes_a')) ≡ true
  pub from : listed_in (prefixes (log_in bytes_a')) (prefixes (log_in bytes_a)) ≡ true
  -- and no word is completed
  pub none : completed_words (head_of bytes_a).entries ≡ []
  pub none' : completed_words (head_of bytes_a').entries ≡ []
  pub bytes_of_a : all (λ x. ltb x 256) bytes_a ≡ true
  pub bytes_of_a' : all (λ x. ltb x 256) bytes_a' ≡ true
  -- after 0 the event 1 is not allowed, and permitted; after 1 the event 0 is not allowed, and refused
  pub prefix0 : member (0 ∷ []) (prefixes (log_in bytes_a)) ≡ true
  pub wrong01 : allowed (events_in bytes_a) (log_in bytes_a) (step_after (events_in bytes_a) (0 ∷ []) 1) ≡ false
  pub permits01 : permits (events_in bytes_a) (net_in bytes_a) (0 ∷ 1 ∷ []) ≡ true
  pub prefix1 : member (1 ∷ []) (prefixes (log_in bytes_a)) ≡ true
  pub wrong10 : allowed (events_in bytes_a) (log_in bytes_a) (step_after (events_in bytes_a) (1 ∷ []) 0) ≡ false
  pub refuses10 : permits (events_in bytes_a) (net_in bytes_a) (1 ∷ 0 ∷ []) ≡ false

pub computed : Computed
unfolding of_verdict of_screened handed_verdict handed_screened verdict_number with_verdict screened_number with_stop with_screened bytes_a bytes_q
    bytes_r bytes_four log_i samples all any keep tabulate equal number_at first_failing negative_part sumℤ same occurrences event_count weighed beginnings
    prefixes add_row counts tokens surplus place_permits shortfall net_permits first_refusing shortfall_of stopped_at screen_after screen rows
    allowed passes traffic row_steps continuations allowed_steps wrong_continuations fits refused_by weighs_before weighs_after weights_hold solves
    is_by_place tally first_bad flat_map bind results.require onward item_in require field byte number each words completed_words is_zero_ℤ
    place_obeys names_completed pair_counts paired to_place to_net to_term signed to_pair to_certificate to_bundle right_size mark entry_after
    entry place places head_after to_first first head bundle_size bundle_head read_head term pair pairs weights of_kind certificate unsolved solved
    at_end after_head contents judging judged verdict_of verdict replayed word_on screening joining screened_of screened screened_joined bytes_a'
    counts_a head_of head_in permits permits_after
computed = record {
  samples_hold = refl;
  accepted_a = refl;
  accepted_a' = refl;
  events = refl;
  two = refl;
  to = refl;
  from = refl;
  none = refl;
  none' = refl;
  bytes_of_a = refl;
  bytes_of_a' = refl;
  prefix0 = refl;
  wrong01 = refl;
  permits01 = refl;
  prefix1 = refl;
  wrong10 = refl;
  refuses10 = refl;
}

pub samples_hold_lem : all (λ c. equal c.0 c.1) samples ≡ true
samples_hold_lem = computed.samples_hold
