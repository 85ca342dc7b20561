-- Bundles in both editions, byte by byte, and refusals of conversion: what is computed, with what is expected.
use Rattle.std.specs.Prelude.{◌≡◌, refl, true, List, [], ◌∷◌, ◌++◌, ℕ}
use mathlib.Core.List.{flat_map}
use Rattle.laws.specs.Lists.{all, any, keep, tabulate, equal}
use Rattle.laws.specs.Numbers.{number_at}
use Rattle.laws.specs.Differences.{negative_part, is_zero_ℤ, sumℤ}
use Rattle.laws.specs.Scans.{first_failing}
use Rattle.limits.specs.Limits.{right_size}
use Rattle.refusals.specs.Results.{bind}
use Rattle.refusals.specs.Results as results
use Rattle.refusals.specs.Answers.{fitted}
use Rattle.nets.specs.Nets.{words, completed_words, place_obeys, same, occurrences, event_count, weighed, beginnings, prefixes, add_row, counts}
use Rattle.nets.specs.Nets.{tokens, surplus, place_permits, net_permits}
use Rattle.nets.specs.Nets.{rows, allowed, row_steps, continuations, allowed_steps, wrong_continuations, fits, refused_by}
use Rattle.nets.specs.Bundle.{names_completed, pair_counts, paired, weighs_before, weighs_after, weights_hold, solves, is_by_place, tally}
use Rattle.logs.specs.Answers.{table_size}
use Rattle.bundles.specs.Reading.{item_in, require, field, byte, number, each, onward}
use Rattle.bundles.specs.Layout.{to_place, to_net, to_term, signed, to_pair, to_certificate, to_bundle, first_of, mark_bytes, entry_bytes}
use Rattle.bundles.specs.Layout.{place_bytes, places_bytes, term_bytes, pair_bytes, pairs_bytes, weight_bytes, certificate_bytes, front_bytes}
use Rattle.bundles.specs.Layout.{head_bytes, bytes_of}
use Rattle.bundles.specs.Readers as readers
use Rattle.bundles.specs.Readers.{mark, entry_after, entry, place, places, head_after, to_first, bundle_size, bundle_head}
use Rattle.bundles.specs.Readers.{term, pair, pairs, weights, of_kind, certificate}
use Rattle.verdicts.specs.Judging as verdicts
use Rattle.verdicts.specs.Judging.{unsolved, solved, at_end, after_head, contents, judged}
use Rattle.editions.specs.Converting.{in_new, in_old, converting_to_new, converting_to_old}
use Rattle.demands.specs.CallSamples.{of_result}
use Rattle.demands.specs.CompletedSamples.{bytes_sales'}

-- four places, and seven certificates, of which the second is of kind 1, with two terms and behind them these bytes
abbrev behind_words : List ℕ → List ℕ
behind_words list =
    (4 ∷ 1 ∷ 0 ∷ 1 ∷ 0 ∷ 0 ∷ 0 ∷ 1 ∷ 0 ∷ 1 ∷ 0 ∷ 1 ∷ 0 ∷ 2 ∷ 0 ∷ 0 ∷ 0 ∷ 1 ∷ 0 ∷ 2 ∷ 0 ∷ [])
    ++ (3 ∷ 0 ∷ 0 ∷ 0 ∷ 0 ∷ 0 ∷ 1 ∷ 0 ∷ 0 ∷ 0 ∷ 1 ∷ 0 ∷ 0 ∷ 0 ∷ 0 ∷ 0 ∷ 0 ∷ 0 ∷ 1 ∷ 0 ∷ [])
    ++ ((0 ∷ 1 ∷ 1 ∷ 2 ∷ 0 ∷ 2 ∷ 1 ∷ 0 ∷ 1 ∷ 1 ∷ 0 ∷ 3 ∷ 0 ∷ 1 ∷ 1 ∷ 0 ∷ []) ++ (list ++ 0 ∷ 2 ∷ 0 ∷ 2 ∷ 0 ∷ 3 ∷ 0 ∷ 1 ∷ 0 ∷ 1 ∷ []))

-- two events, the words 0 0 0 1, 0 1 and 0: 79 bytes in the old edition, and in the new one a byte more for each word and for the one certificate of
-- kind 1
abbrev old_form : List ℕ
old_form = (2 ∷ 3 ∷ 4 ∷ 0 ∷ 0 ∷ 0 ∷ 1 ∷ 2 ∷ 0 ∷ 1 ∷ 1 ∷ 0 ∷ []) ++ behind_words []

abbrev new_form : List ℕ
new_form = (130 ∷ 3 ∷ 4 ∷ 0 ∷ 0 ∷ 0 ∷ 0 ∷ 1 ∷ 2 ∷ 0 ∷ 0 ∷ 1 ∷ 1 ∷ 0 ∷ 0 ∷ []) ++ behind_words (0 ∷ [])

-- one event, a completed word 0, no place; the certificate of 0 behind 0 is missing
abbrev unfinished : List ℕ
unfinished = 129 ∷ 1 ∷ 1 ∷ 1 ∷ 0 ∷ 0 ∷ []

pub converting_samples : List (List ℕ × List ℕ)
converting_samples =
    -- there, back, and copied; into outputs as long as the result, and a byte shorter, with 3 and the length needed
    (of_result (fitted (converting_to_new table_size old_form) 83), 0 ∷ new_form)
    ∷ (of_result (fitted (converting_to_new table_size old_form) 82), 3 ∷ 83 ∷ [])
    ∷ (of_result (fitted (converting_to_old table_size new_form) 79), 0 ∷ old_form)
    ∷ (of_result (fitted (converting_to_old table_size new_form) 78), 3 ∷ 79 ∷ [])
    ∷ (of_result (fitted (converting_to_new table_size new_form) 83), 0 ∷ new_form)
    ∷ (of_result (fitted (converting_to_new table_size new_form) 82), 3 ∷ 83 ∷ [])
    ∷ (of_result (fitted (converting_to_old table_size old_form) 79), 0 ∷ old_form)
    ∷ (of_result (fitted (converting_to_old table_size old_form) 78), 3 ∷ 79 ∷ [])
    -- words 1 and 2 are completed, the first of them at byte 8: copied as it is, and on the way back 21, before 3
    ∷ (of_result (converting_to_new table_size bytes_sales'), 0 ∷ bytes_sales')
    ∷ (of_result (fitted (converting_to_old table_size bytes_sales') 0), 21 ∷ 1 ∷ [])
    -- the judge's refusals come before 21: the table is a number too short, a certificate is missing
    ∷ (of_result (converting_to_old 3583 bytes_sales'), 5 ∷ 3584 ∷ [])
    ∷ (of_result (converting_to_old table_size unfinished), 6 ∷ 6 ∷ [])
    -- and before 3
    ∷ (of_result (fitted (converting_to_new 3583 old_form) 0), 5 ∷ 3584 ∷ [])
    ∷ (of_result (fitted (converting_to_new table_size unfinished) 0), 6 ∷ 6 ∷ [])
    ∷ []

pub converting-samples-hold : all (λ c. equal c.0 c.1) converting_samples ≡ true
unfolding converting_samples of_result bytes_sales' all any keep tabulate equal number_at negative_part is_zero_ℤ sumℤ first_failing right_size bind
    results.require fitted words completed_words place_obeys same occurrences event_count weighed beginnings prefixes add_row counts tokens surplus
    place_permits net_permits rows allowed row_steps continuations allowed_steps wrong_continuations fits refused_by names_completed pair_counts
    paired weighs_before weighs_after weights_hold solves is_by_place tally flat_map item_in require field byte number each onward to_place to_net
    to_term signed to_pair to_certificate to_bundle first_of mark_bytes entry_bytes place_bytes places_bytes term_bytes pair_bytes pairs_bytes
    weight_bytes certificate_bytes front_bytes head_bytes bytes_of mark entry_after entry place places head_after to_first readers.first
    readers.head bundle_size bundle_head term pair pairs weights of_kind certificate unsolved solved at_end after_head contents verdicts.judging
    judged in_new in_old converting_to_new converting_to_old
converting-samples-hold = refl
