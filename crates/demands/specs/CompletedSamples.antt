-- Bundles of the new edition, as bytes: what is computed, with what is expected (`of_verdict`, `of_screened` and `handed_verdict` are those of
-- Samples.antt).
use Rattle.std.specs.Prelude.{◌≡◌, refl, true, false, ℕ, ltb, pos, neg_ℤ, get_or, Ok}
use mathlib.Core.List.{List, [], ◌∷◌, ◌++◌, flat_map}
use Rattle.laws.specs.Lists.{all, any, keep, tabulate, equal, member}
use Rattle.laws.specs.Numbers.{number_at}
use Rattle.laws.specs.Differences.{negative_part, is_zero_ℤ, sumℤ}
use Rattle.laws.specs.Ranks.{keep_at, rank}
use Rattle.laws.specs.Scans.{first_failing}
use Rattle.limits.specs.Limits.{right_size}
use Rattle.refusals.specs.Results.{Result, value, refused, bind}
use Rattle.refusals.specs.Results as results
use Rattle.nets.specs.Nets.{Net, words, completed_words, place_obeys, same, occurrences, event_count, weighed, beginnings, prefixes, add_row}
use Rattle.nets.specs.Nets.{counts, step_after, tokens, surplus, place_permits, shortfall, net_permits, permits_after, permits, permits_log}
use Rattle.nets.specs.Nets.{first_refusing, shortfall_of, stopped_at, screen_after, screen, rows, allowed, row_steps, continuations, allowed_steps}
use Rattle.nets.specs.Nets.{wrong_continuations, fits, refused_by}
use Rattle.nets.specs.Bundle.{names_completed, pair_counts, paired, weighs_before, weighs_after, weights_hold, solves, is_by_place, tally}
use Rattle.nets.specs.Events.{first_bad}
use Rattle.logs.specs.Answers.{table_size}
use Rattle.bundles.specs.Reading.{item_in, require, field, byte, number, each, onward}
use Rattle.bundles.specs.Layout.{WeightFields, kind0, kind1, to_place, to_net, to_term, signed, to_pair, to_certificate, to_bundle}
use Rattle.bundles.specs.Layout.{wrong_in, weights_hold_in, first_of, mark_bytes, entry_bytes, place_bytes, places_bytes, term_bytes, pair_bytes, pairs_bytes}
use Rattle.bundles.specs.Layout.{weight_bytes, certificate_bytes, front_bytes, head_bytes, bytes_of}
use Rattle.bundles.specs.Readers.{head_in, head_of, events_in, log_in, net_in, mark, entry_after, entry, place, places, head_after, to_first, first}
use Rattle.bundles.specs.Readers.{head, bundle_size, bundle_head, read_head, term, pair, pairs, weights, of_kind, certificate}
use Rattle.verdicts.specs.Judging.{unsolved, solved, at_end, after_head, contents, judging, judged, verdict_of, verdict, verdict_number}
use Rattle.verdicts.specs.declared.Tally.{Tally}
use Rattle.screening.specs.Screening.{word_on, screening, joining, replayed, screened_of, screened, screened_joined}
use Rattle.contents.specs.Contents.{contents_in, contents_of}
use Rattle.pruning.specs.Pruning.{names, named, renumbered, pruned, pruning}
use Rattle.numbers.specs.Numbers.{with_verdict}
use Rattle.demands.specs.Completed.{entries_in}
use Rattle.demands.specs.Samples.{of_verdict, of_screened, handed_verdict, bytes_a, listed_in}

-- ---- A third sale begins as the first one

-- three events; a word 0 1 0 1 that was broken off and a completed word 0 1, then further words; places, of which 0 and 1 are those of the numbers
-- a and b: 1 takes what 0 puts there, and 2 would take 2; 0 takes what 1 puts there. The ninth certificate is the one of 0 behind 0 1 0 1, by k = 3,
-- 3 times 0 at the start, and pairs.
abbrev sales : ℕ → List ℕ → List ℕ → ℕ → ℕ → List ℕ → List ℕ
sales count more places a b pairs =
    (131 ∷ count ∷ 4 ∷ 0 ∷ 0 ∷ 1 ∷ 0 ∷ 1 ∷ 2 ∷ 1 ∷ 0 ∷ 1 ∷ [])
    ++ (more ++ (places ++ ((0 ∷ a ∷ 0 ∷ a ∷ 0 ∷ b ∷ 0 ∷ a ∷ 0 ∷ a ∷ 0 ∷ a ∷ 0 ∷ b ∷ 0 ∷ a ∷ 1 ∷ 3 ∷ 0 ∷ 1 ∷ 0 ∷ 0 ∷ 0 ∷ 3 ∷ 0 ∷ [])
    ++ (pairs ++ 0 ∷ a ∷ 0 ∷ a ∷ []))))

abbrev two : List ℕ
two = 0 ∷ 0 ∷ 1 ∷ 0 ∷ 0 ∷ 0 ∷ 0 ∷ 0 ∷ 0 ∷ 0 ∷ 1 ∷ 0 ∷ 2 ∷ 0 ∷ 1 ∷ 0 ∷ 0 ∷ 0 ∷ 1 ∷ 0 ∷ 0 ∷ 0 ∷ 1 ∷ 0 ∷ 0 ∷ 0 ∷ 0 ∷ 0 ∷ []

-- with these words and places alone
abbrev ninth : List ℕ → List ℕ
ninth pairs = sales 2 [] (2 ∷ two) 0 1 pairs

-- and with a further word 0 1, with a mark
abbrev same_events : ℕ → List ℕ → List ℕ
same_events m pairs = sales 3 (2 ∷ m ∷ 0 ∷ 1 ∷ []) (2 ∷ two) 0 1 pairs

-- and with a place in front that no certificate names
abbrev with_idle : List ℕ
with_idle = sales 2 [] (3 ∷ 7 ∷ 0 ∷ 4 ∷ 0 ∷ 0 ∷ 0 ∷ 0 ∷ 0 ∷ 0 ∷ 0 ∷ 4 ∷ 0 ∷ 0 ∷ 0 ∷ two) 1 2 (1 ∷ 1 ∷ 6 ∷ 0 ∷ [])

-- the same words, broken off; a third place with 2 tokens, of which 0 takes 1, answers the ninth certificate
abbrev broken_off : List ℕ
broken_off =
    (131 ∷ 2 ∷ 4 ∷ 0 ∷ 0 ∷ 1 ∷ 0 ∷ 1 ∷ 2 ∷ 0 ∷ 0 ∷ 1 ∷ 3 ∷ two)
    ++ (2 ∷ 0 ∷ 0 ∷ 0 ∷ 0 ∷ 0 ∷ 0 ∷ 0 ∷ 1 ∷ 0 ∷ 0 ∷ 0 ∷ 0 ∷ 0 ∷ [])
    ++ (0 ∷ 0 ∷ 0 ∷ 0 ∷ 0 ∷ 1 ∷ 0 ∷ 0 ∷ 0 ∷ 0 ∷ 0 ∷ 0 ∷ 0 ∷ 1 ∷ 0 ∷ 0 ∷ 0 ∷ 2 ∷ 0 ∷ 0 ∷ 0 ∷ 0 ∷ [])

-- ---- What is allowed behind a completed word is so at the start

-- three events; a word 0 1 2 that was broken off, a completed word 0; 1 at the start by k, k times 1 behind 0, and the pair of the completed word
-- with h, k and h as they are written; 0 behind 0 by k = 5, 5 times 0 at the start, and that pair with h = 5
abbrev earlier : List ℕ → List ℕ → List ℕ
earlier k h =
    (131 ∷ 2 ∷ 3 ∷ 0 ∷ 0 ∷ 1 ∷ 2 ∷ 1 ∷ 1 ∷ 0 ∷ 2 ∷ 3 ∷ 0 ∷ 2 ∷ 0 ∷ 0 ∷ 0 ∷ 0 ∷ 0 ∷ 2 ∷ 0 ∷ 3 ∷ 0 ∷ 0 ∷ 0 ∷ [])
    ++ ((0 ∷ 0 ∷ 0 ∷ 0 ∷ 1 ∷ 0 ∷ 0 ∷ 0 ∷ 0 ∷ 0 ∷ 0 ∷ 0 ∷ 1 ∷ 0 ∷ 1 ∷ []) ++ (k ++ 1 ∷ 1 ∷ 0 ∷ 1 ∷ (k ++ 1 ∷ 1 ∷ (h
    ++ 0 ∷ 1 ∷ 1 ∷ 5 ∷ 0 ∷ 1 ∷ 0 ∷ 0 ∷ 0 ∷ 5 ∷ 0 ∷ 1 ∷ 1 ∷ 5 ∷ 0 ∷ 0 ∷ 1 ∷ 0 ∷ 0 ∷ 0 ∷ 0 ∷ 0 ∷ 0 ∷ 0 ∷ 0 ∷ 0 ∷ 1 ∷ []))))

-- ---- The rule

-- two events; completed words 0 and 1; three places, of which the first has only zeros; no certificate
abbrev ruled : List ℕ → List ℕ
ruled numbers = 130 ∷ 2 ∷ 1 ∷ 1 ∷ 0 ∷ 1 ∷ 1 ∷ 1 ∷ 3 ∷ 0 ∷ 0 ∷ 0 ∷ 0 ∷ 0 ∷ 0 ∷ 0 ∷ 0 ∷ 0 ∷ 0 ∷ numbers

-- 1 puts a token into the second place, 0 one into the third
abbrev broken : List ℕ
broken = ruled (0 ∷ 0 ∷ 0 ∷ 0 ∷ 1 ∷ 0 ∷ 0 ∷ 0 ∷ 0 ∷ 0 ∷ 0 ∷ 0 ∷ 1 ∷ 0 ∷ 0 ∷ 0 ∷ 0 ∷ 0 ∷ 0 ∷ 0 ∷ [])

-- the same second place, and a third that lacks the token which 0 takes and gives back
abbrev misfit : List ℕ
misfit = ruled (0 ∷ 0 ∷ 0 ∷ 0 ∷ 1 ∷ 0 ∷ 0 ∷ 0 ∷ 0 ∷ 0 ∷ 0 ∷ 0 ∷ 1 ∷ 0 ∷ 0 ∷ 0 ∷ 1 ∷ 0 ∷ 0 ∷ 0 ∷ [])

-- the bytes that pruning writes, or its refusal's number and spot
of_pruned : Result (List ℕ) → List ℕ
of_pruned (value l) = l
of_pruned (refused number spot) = number ∷ spot ∷ []

pub completed_samples : List (List ℕ × List ℕ)
completed_samples =
    -- four different counts, by a pair with h = 6; by one that repeats, with h = −1 and 7; by two that name two words of the same events
    (of_verdict (verdict table_size (ninth (1 ∷ 1 ∷ 6 ∷ 0 ∷ []))), 0 ∷ 5 ∷ 4 ∷ 10 ∷ 1 ∷ [])
    ∷ (of_verdict (verdict table_size (ninth (2 ∷ 1 ∷ 255 ∷ 255 ∷ 1 ∷ 7 ∷ 0 ∷ []))), 0 ∷ 5 ∷ 4 ∷ 10 ∷ 1 ∷ [])
    ∷ (of_verdict (verdict table_size (same_events 1 (2 ∷ 2 ∷ 2 ∷ 0 ∷ 1 ∷ 4 ∷ 0 ∷ []))), 0 ∷ 5 ∷ 4 ∷ 10 ∷ 1 ∷ [])
    -- not without the pair, with less, or with more
    ∷ (of_verdict (verdict table_size (ninth (0 ∷ []))), 12 ∷ 8 ∷ [])
    ∷ (of_verdict (verdict table_size (ninth (1 ∷ 1 ∷ 5 ∷ 0 ∷ []))), 12 ∷ 8 ∷ [])
    ∷ (of_verdict (verdict table_size (ninth (1 ∷ 1 ∷ 7 ∷ 0 ∷ []))), 12 ∷ 8 ∷ [])
    -- a pair that names a partial word: though its counts would do, with h = 0, and though a completed word has the same events
    ∷ (of_verdict (verdict table_size (ninth (1 ∷ 0 ∷ 3 ∷ 0 ∷ []))), 12 ∷ 8 ∷ [])
    ∷ (of_verdict (verdict table_size (ninth (2 ∷ 1 ∷ 6 ∷ 0 ∷ 0 ∷ 0 ∷ 0 ∷ []))), 12 ∷ 8 ∷ [])
    ∷ (of_verdict (verdict table_size (same_events 0 (1 ∷ 2 ∷ 6 ∷ 0 ∷ []))), 12 ∷ 8 ∷ [])
    ∷ (of_verdict (verdict table_size (same_events 0 (1 ∷ 1 ∷ 6 ∷ 0 ∷ []))), 0 ∷ 5 ∷ 4 ∷ 10 ∷ 1 ∷ [])
    -- a pair that names no word, behind one that names a partial word; 65 pairs; a weight of which a byte is missing
    ∷ (of_verdict (verdict table_size (ninth (2 ∷ 0 ∷ 6 ∷ 0 ∷ 2 ∷ 0 ∷ 0 ∷ []))), 7 ∷ 70 ∷ [])
    ∷ (of_verdict (verdict table_size (ninth (65 ∷ 1 ∷ 6 ∷ 0 ∷ []))), 7 ∷ 66 ∷ [])
    ∷ (of_verdict (verdict table_size (129 ∷ 1 ∷ 1 ∷ 1 ∷ 0 ∷ 0 ∷ 1 ∷ 1 ∷ 0 ∷ 0 ∷ 1 ∷ 0 ∷ 9 ∷ [])), 6 ∷ 12 ∷ [])
    -- h = −2, and the least h, −32,768, which is written as a k of 32,768 is; not with h = 0, nor with −1
    ∷ (of_verdict (verdict table_size (earlier (2 ∷ 0 ∷ []) (254 ∷ 255 ∷ []))), 0 ∷ 4 ∷ 3 ∷ 7 ∷ 2 ∷ [])
    ∷ (of_verdict (verdict table_size (earlier (0 ∷ 128 ∷ []) (0 ∷ 128 ∷ []))), 0 ∷ 4 ∷ 3 ∷ 7 ∷ 2 ∷ [])
    ∷ (of_verdict (verdict table_size (earlier (2 ∷ 0 ∷ []) (0 ∷ 0 ∷ []))), 12 ∷ 0 ∷ [])
    ∷ (of_verdict (verdict table_size (earlier (2 ∷ 0 ∷ []) (255 ∷ 255 ∷ []))), 12 ∷ 0 ∷ [])
    -- the lowest place that breaks the rule, by a later word than a higher one does; behind a place that does not fit; pruning has it, screening not
    ∷ (of_verdict (verdict table_size broken), 20 ∷ 1 ∷ [])
    ∷ (of_verdict (verdict table_size misfit), 10 ∷ 2 ∷ [])
    ∷ (handed_verdict (verdict table_size broken), 20 ∷ 1 ∷ 11 ∷ 12 ∷ 13 ∷ [])
    ∷ (of_pruned (pruning table_size broken), 20 ∷ 1 ∷ [])
    ∷ (of_screened (screened broken (1 ∷ 0 ∷ 0 ∷ [])), 0 ∷ [])
    -- a mark of 2, and one that is missing, in each call that reads words; the mark of an empty word; 7 of a mark before 6 of the events
    ∷ (of_verdict (verdict table_size (130 ∷ 2 ∷ 1 ∷ 1 ∷ 0 ∷ 1 ∷ 2 ∷ 1 ∷ 0 ∷ [])), 7 ∷ 6 ∷ [])
    ∷ (of_pruned (pruning table_size (130 ∷ 2 ∷ 1 ∷ 1 ∷ 0 ∷ 1 ∷ 2 ∷ 1 ∷ 0 ∷ [])), 7 ∷ 6 ∷ [])
    ∷ (of_screened (screened (130 ∷ 2 ∷ 1 ∷ 1 ∷ 0 ∷ 1 ∷ 2 ∷ 1 ∷ 0 ∷ []) (0 ∷ [])), 7 ∷ 6 ∷ [])
    ∷ (of_screened (screened_joined bytes_a (130 ∷ 2 ∷ 1 ∷ 1 ∷ 0 ∷ 1 ∷ 2 ∷ 1 ∷ 0 ∷ []) (0 ∷ [])), 7 ∷ 6 ∷ [])
    ∷ (of_verdict (verdict table_size (130 ∷ 2 ∷ 1 ∷ 1 ∷ 0 ∷ 1 ∷ [])), 6 ∷ 6 ∷ [])
    ∷ (of_screened (screened (130 ∷ 2 ∷ 1 ∷ 1 ∷ 0 ∷ 1 ∷ []) (0 ∷ [])), 6 ∷ 6 ∷ [])
    ∷ (of_verdict (verdict table_size (129 ∷ 1 ∷ 0 ∷ [])), 6 ∷ 3 ∷ [])
    ∷ (of_verdict (verdict table_size (129 ∷ 1 ∷ 0 ∷ 1 ∷ [])), 6 ∷ 4 ∷ [])
    ∷ (of_verdict (verdict table_size (129 ∷ 1 ∷ 7 ∷ 3 ∷ [])), 7 ∷ 3 ∷ [])
    -- first bytes that say no edition; the pair count of a certificate is missing in the new one, and not looked for in the old one
    ∷ (of_verdict (verdict table_size (128 ∷ 0 ∷ 0 ∷ [])), 7 ∷ 0 ∷ [])
    ∷ (of_verdict (verdict table_size (141 ∷ 0 ∷ 0 ∷ [])), 7 ∷ 0 ∷ [])
    ∷ (of_screened (screened (127 ∷ 0 ∷ 0 ∷ []) []), 7 ∷ 0 ∷ [])
    ∷ (of_verdict (verdict table_size (129 ∷ 0 ∷ 0 ∷ 1 ∷ 1 ∷ 0 ∷ 0 ∷ [])), 6 ∷ 7 ∷ [])
    ∷ (of_verdict (verdict table_size (1 ∷ 0 ∷ 0 ∷ 1 ∷ 1 ∷ 0 ∷ 0 ∷ [])), 12 ∷ 0 ∷ [])
    -- sale behind sale; a stop in the third one; joined with an old bundle, whose net is over two events
    ∷ (of_screened (screened (ninth []) (0 ∷ 1 ∷ 0 ∷ 1 ∷ 0 ∷ 1 ∷ 0 ∷ [])), 0 ∷ [])
    ∷ (of_screened (screened (ninth []) (0 ∷ 1 ∷ 0 ∷ 1 ∷ 0 ∷ 2 ∷ [])), 256 ∷ 5 ∷ 0 ∷ 1 ∷ [])
    ∷ (of_screened (screened_joined (ninth []) bytes_a []), 19 ∷ 0 ∷ [])
    ∷ (of_screened (screened_joined bytes_a broken (1 ∷ 0 ∷ [])), 256 ∷ 1 ∷ 0 ∷ 1 ∷ [])
    -- with the same prefixes and no completed word another net is accepted, and refuses what that one permits
    ∷ (of_verdict (verdict table_size broken_off), 0 ∷ 5 ∷ 4 ∷ 11 ∷ 0 ∷ [])
    ∷ (of_screened (screened broken_off (0 ∷ 1 ∷ 0 ∷ 1 ∷ 0 ∷ [])), 256 ∷ 4 ∷ 2 ∷ 1 ∷ [])
    -- without the idle place: the edition, the marks and the pair are as they were
    ∷ (of_pruned (pruning table_size with_idle), ninth (1 ∷ 1 ∷ 6 ∷ 0 ∷ []))
    ∷ []

-- ---- Three of them, for the premises of demand 3

unfoldable pub bytes_sales : List ℕ
bytes_sales = ninth (1 ∷ 1 ∷ 6 ∷ 0 ∷ [])

-- the same prefixes and completed words, but other words and pairs
unfoldable pub bytes_sales' : List ℕ
bytes_sales' = same_events 1 (2 ∷ 2 ∷ 2 ∷ 0 ∷ 1 ∷ 4 ∷ 0 ∷ [])

unfoldable pub bytes_earlier : List ℕ
bytes_earlier = earlier (2 ∷ 0 ∷ []) (254 ∷ 255 ∷ [])

unfoldable pub counts_sales : Tally
counts_sales = record { rows = 5; allowed = 4; by_place = 10; by_weights = 1 }

unfoldable pub counts_earlier : Tally
counts_earlier = record { rows = 4; allowed = 3; by_place = 7; by_weights = 2 }

-- the weights of the ninth certificate of the one, and of the first of the other
abbrev pub sales_weights : WeightFields
sales_weights = record { k = 3; terms = record { row = 0; event = 0; weight = 3 } ∷ []; pairs = record { word = 1; weight = 6 } ∷ [] }

abbrev pub earlier_weights : WeightFields
earlier_weights = record { k = 2; terms = record { row = 1; event = 1; weight = 2 } ∷ []; pairs = record { word = 1; weight = 65534 } ∷ [] }

-- nets of one place that permit the two logs: with 2 tokens of which 0 takes 1; without a token, where 0 puts 1 that 1 takes
abbrev pub used_up : Net
used_up = record { initial = 2; produced = λ i. 0; consumed = λ i. same i 0 } ∷ []

abbrev pub waiting : Net
waiting = record { initial = 0; produced = λ i. same i 0; consumed = λ i. same i 1 } ∷ []

-- what computing gives
pub record Computed : Type 0 where
  -- the samples are as expected
  pub samples_hold : all (λ c. equal c.0 c.1) completed_samples ≡ true
  pub accepted_sales : verdict table_size bytes_sales ≡ Ok counts_sales
  pub accepted_sales' : verdict table_size bytes_sales' ≡ Ok counts_sales
  pub accepted_earlier : verdict table_size bytes_earlier ≡ Ok counts_earlier
  pub small : (all (λ x. ltb x 256) bytes_sales ≡ true) × (all (λ x. ltb x 256) bytes_sales' ≡ true) × (all (λ x. ltb x 256) bytes_earlier ≡ true)
  pub events : events_in bytes_sales ≡ events_in bytes_sales'
  pub to : listed_in (prefixes (log_in bytes_sales)) (prefixes (log_in bytes_sales')) ≡ true
  pub from : listed_in (prefixes (log_in bytes_sales')) (prefixes (log_in bytes_sales)) ≡ true
  pub to_completed : listed_in (completed_words (entries_in bytes_sales)) (completed_words (entries_in bytes_sales')) ≡ true
  pub from_completed : listed_in (completed_words (entries_in bytes_sales')) (completed_words (entries_in bytes_sales)) ≡ true
  pub three : (events_in bytes_sales ≡ 3) × (events_in bytes_earlier ≡ 3)
  -- the certificates
  pub layout_sales : bytes_sales ≡ bytes_of (contents_of bytes_sales)
  pub ninth_is : get_or (contents_of bytes_sales).certificates 8 (kind0 0) ≡ kind1 sales_weights
  pub holds_sales : weights_hold_in (contents_of bytes_sales).head (step_after (events_in bytes_sales) (0 ∷ 1 ∷ 0 ∷ 1 ∷ []) 0) sales_weights ≡ true
  pub layout_earlier : bytes_earlier ≡ bytes_of (contents_of bytes_earlier)
  pub first_is : get_or (contents_of bytes_earlier).certificates 0 (kind0 0) ≡ kind1 earlier_weights
  pub holds_earlier : weights_hold_in (contents_of bytes_earlier).head (step_after (events_in bytes_earlier) [] 1) earlier_weights ≡ true
  -- the steps: 0 behind 0 1 0 1, and 1 at the start
  pub due_sales : get_or (wrong_in (contents_of bytes_sales).head) 8 (step_after 0 [] 0) ≡ step_after (events_in bytes_sales) (0 ∷ 1 ∷ 0 ∷ 1 ∷ []) 0
  pub due_earlier : get_or (wrong_in (contents_of bytes_earlier).head) 0 (step_after 0 [] 0) ≡ step_after (events_in bytes_earlier) [] 1
  pub inside_sales : member (0 ∷ 1 ∷ 0 ∷ 1 ∷ []) (prefixes (log_in bytes_sales)) ≡ true
  pub permits_sales : permits (events_in bytes_sales) (net_in bytes_sales) (0 ∷ 1 ∷ 0 ∷ 1 ∷ 0 ∷ []) ≡ true
  pub permits_earlier : permits (events_in bytes_earlier) (net_in bytes_earlier) (1 ∷ []) ≡ true
  pub used_permits : permits_log (events_in bytes_sales) used_up (log_in bytes_sales) ≡ true
  pub used_refuses : permits (events_in bytes_sales) used_up (0 ∷ 1 ∷ 0 ∷ 1 ∷ 0 ∷ []) ≡ false
  pub waiting_permits : permits_log (events_in bytes_earlier) waiting (log_in bytes_earlier) ≡ true
  pub waiting_refuses : permits (events_in bytes_earlier) waiting (1 ∷ []) ≡ false
  pub signs : ((to_pair (record { word = 1; weight = 6 })).weight ≡ pos 6) × ((to_pair (record { word = 1; weight = 65534 })).weight ≡ neg_ℤ (pos 2))

pub computed : Computed
unfolding of_verdict of_screened of_pruned handed_verdict verdict_number with_verdict completed_samples bytes_a bytes_sales bytes_sales'
    bytes_earlier counts_sales counts_earlier all any keep tabulate equal number_at negative_part is_zero_ℤ sumℤ keep_at rank first_failing
    right_size bind results.require words completed_words place_obeys same occurrences event_count weighed beginnings prefixes add_row counts
    tokens surplus place_permits shortfall net_permits permits_after permits permits_log first_refusing shortfall_of stopped_at screen_after screen
    rows allowed row_steps continuations allowed_steps wrong_continuations fits refused_by names_completed pair_counts paired weighs_before
    weighs_after weights_hold solves is_by_place tally first_bad flat_map item_in require field byte number each onward to_place to_net to_term
    signed to_pair to_certificate to_bundle first_of mark_bytes entry_bytes place_bytes places_bytes term_bytes pair_bytes pairs_bytes weight_bytes
    certificate_bytes front_bytes head_bytes bytes_of head_in head_of mark entry_after entry place places head_after to_first first head
    bundle_size bundle_head read_head term pair pairs weights of_kind certificate unsolved solved at_end after_head contents judging judged
    verdict_of verdict word_on screening joining replayed screened_of screened screened_joined names named renumbered pruned pruning contents_in
    contents_of
computed = record {
  samples_hold = refl;
  accepted_sales = refl;
  accepted_sales' = refl;
  accepted_earlier = refl;
  small = (refl, refl, refl);
  events = refl;
  to = refl;
  from = refl;
  to_completed = refl;
  from_completed = refl;
  three = (refl, refl);
  layout_sales = refl;
  ninth_is = refl;
  holds_sales = refl;
  layout_earlier = refl;
  first_is = refl;
  holds_earlier = refl;
  due_sales = refl;
  due_earlier = refl;
  inside_sales = refl;
  permits_sales = refl;
  permits_earlier = refl;
  used_permits = refl;
  used_refuses = refl;
  waiting_permits = refl;
  waiting_refuses = refl;
  signs = (refl, refl);
}

pub completed-samples-hold : all (λ c. equal c.0 c.1) completed_samples ≡ true
completed-samples-hold = computed.samples_hold
