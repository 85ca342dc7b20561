-- Replacements, and sales with them: what is computed, with what is expected. And two accepted files that meet the comparison's premise, and two that
-- do not, where a replacement is refused with 23.
use Rattle.std.specs.Prelude.{◌≡◌, refl, true, ℕ, ◌≤◌, length, Err, Ok}
use mathlib.Core.List.{List, [], ◌∷◌, ◌++◌}
use Rattle.laws.specs.Lists.{all, any, tabulate, equal}
use Rattle.laws.specs.Differences.{negative_part, positive_part, sumℤ}
use Rattle.laws.specs.Numbers.{number_at}
use Rattle.laws.specs.Parts.{front}
use Rattle.laws.specs.Scans.{first_false, first_failing}
use Rattle.limits.specs.Limits.{right_size}
use Rattle.refusals.specs.Results.{bind}
use Rattle.refusals.specs.Results as results
use Rattle.refusals.specs.Answers.{Answer, output_of}
use Rattle.logs.specs.Answers.{table_size}
use Rattle.nets.specs.Nets.{words, event_count, same, occurrences, counts, tokens, surplus, place_permits, net_permits}
use Rattle.nets.specs.Nets.{first_refusing, shortfall, shortfall_of, stopped_at, screen_after, screen}
use Rattle.nets.specs.Words.{Prefix}
use Rattle.nets.specs.Events.{first_bad}
use Rattle.nets.specs.Carrying.{first_short, tokens_behind, play, marking_after}
use Rattle.bundles.specs.Reading.{item_in, require, field, byte, number, each, onward}
use Rattle.bundles.specs.Layout.{to_place, to_net}
use Rattle.bundles.specs.Readers.{mark, entry_after, entry, place, places, head_after, to_first, first, head, bundle_size, bundle_head, read_head, log_in}
use Rattle.verdicts.specs.Judging.{verdict}
use Rattle.engine.specs.Engine.{starting, handed_back, stepping, stepped, tokens_stepped, kept_stepped}
use Rattle.engine.specs.Engine.{replacing, behind_events, unless_stopped}
use Rattle.demands.specs.Carried.{first_number, next_number, begun, behind}
use Rattle.demands.specs.Samples.{bytes_a, bytes_a', counts_a, computed}
use Rattle.demands.specs.CompletedSamples as completed
use Rattle.demands.specs.CompletedSamples.{bytes_sales, bytes_earlier}
use Rattle.demands.specs.Met.{first-accepted, second-accepted, files-of-bytes, contained, prefix-of}
use Rattle.demands.specs.CarryingSamples.{old, new, cut, of_state}
use Rattle.demands.specs.Replacing.{replace_answer, replace_leaves}
use Rattle.demands.specs.Sales.{Sale, Call, step, replace, bundle_behind, next_sale, sale_behind, begun_sale, counted, events_of, ReplacesSurely}
use Rattle.demands.specs.SalesWhole.{request_11}

-- 0, or the refusal's number and spot; then the slice afterwards
unfoldable of_replaced : Answer (Unit {0}) → List ℕ → List ℕ
of_replaced (Ok u) ts = 0 ∷ ts
of_replaced (Err r) ts = r.number ∷ r.spot ∷ ts

abbrev replaced : List ℕ → List ℕ → List ℕ → List ℕ → ℕ → List ℕ
replaced b₁ b₂ ts kept number = of_replaced (replace_answer b₁ b₂ ts kept number) (replace_leaves b₁ b₂ ts kept number)

-- the length of its bundle, then where the sale is
abbrev of_sale : Sale → List ℕ
of_sale s = length s.bundle ∷ of_state s.state

-- a place over two events whose numbers all differ: m = 6, in = 9 1, out = 0 11; three such places without tokens; no place; one event and a place
abbrev other : List ℕ
other = 130 ∷ 0 ∷ 1 ∷ 6 ∷ 0 ∷ 9 ∷ 0 ∷ 1 ∷ 0 ∷ 0 ∷ 0 ∷ 11 ∷ 0 ∷ []

abbrev none : List ℕ
none = 2 ∷ 0 ∷ 0 ∷ []

abbrev single : List ℕ
single = 129 ∷ 0 ∷ 1 ∷ 0 ∷ 0 ∷ 0 ∷ 0 ∷ 0 ∷ 0 ∷ []

-- a sale that begins on the two places, and what is asked of it: 1 is stopped behind 0 1, the net with the one place does not permit 1 0,
-- and with it a further 1 is stopped, too
abbrev begun_here : List Call → Sale
begun_here calls = sale_behind old (97 ∷ 98 ∷ 99 ∷ []) (71 ∷ 72 ∷ 73 ∷ 74 ∷ []) calls

abbrev events_here : List Call → List ℕ
events_here calls = events_of (begun_sale old (97 ∷ 98 ∷ 99 ∷ []) (71 ∷ 72 ∷ 73 ∷ 74 ∷ [])) calls

abbrev granted : List Call
granted = step 0 ∷ step 1 ∷ step 1 ∷ replace other ∷ step 1 ∷ step 0 ∷ []

abbrev again : List Call
again = granted ++ replace new ∷ step 0 ∷ []

abbrev not_granted : List Call
not_granted = step 1 ∷ replace other ∷ step 0 ∷ []

pub replacing_samples : List (List ℕ × List ℕ)
replacing_samples =
    -- the marking behind the events so far in front of the slice, none of the events behind them; the number of the old net's second place stays
    (replaced old other (97 ∷ 98 ∷ 99 ∷ []) (0 ∷ 1 ∷ 77 ∷ []) 2, 0 ∷ 5 ∷ 98 ∷ 99 ∷ [])
    ∷ (replaced old other (97 ∷ 98 ∷ 99 ∷ []) (0 ∷ 1 ∷ 77 ∷ []) 1, 0 ∷ 15 ∷ 98 ∷ 99 ∷ [])
    ∷ (replaced old other (97 ∷ 98 ∷ 99 ∷ []) (77 ∷ []) 0, 0 ∷ 6 ∷ 98 ∷ 99 ∷ [])
    ∷ (replaced other old (97 ∷ 98 ∷ 99 ∷ []) (0 ∷ 1 ∷ []) 2, 0 ∷ 5 ∷ 10 ∷ 99 ∷ [])
    -- the edition does not matter, nor a number that no run reaches; a net without places asks for no number and writes none
    ∷ (replaced new old (4294901761 ∷ 4294901762 ∷ []) (0 ∷ 0 ∷ []) 2, 0 ∷ 6 ∷ 12 ∷ [])
    ∷ (replaced old none (97 ∷ []) (1 ∷ 1 ∷ 1 ∷ []) 3, 0 ∷ 97 ∷ [])
    -- 23 with the position: of the first event, and of a later one
    ∷ (replaced old other (97 ∷ 98 ∷ []) (1 ∷ 0 ∷ []) 2, 23 ∷ 0 ∷ 97 ∷ 98 ∷ [])
    ∷ (replaced none other (97 ∷ 98 ∷ []) (0 ∷ 1 ∷ 1 ∷ 0 ∷ []) 4, 23 ∷ 2 ∷ 97 ∷ 98 ∷ [])
    ∷ (replaced none old (97 ∷ 98 ∷ []) (0 ∷ 1 ∷ 1 ∷ 0 ∷ []) 3, 23 ∷ 2 ∷ 97 ∷ 98 ∷ [])
    -- 14 before 3; the last number that passes it; 3 with the number, before 4
    ∷ (replaced old other (97 ∷ []) (0 ∷ []) 65536, 14 ∷ 65535 ∷ 97 ∷ [])
    ∷ (replaced old other (97 ∷ []) (0 ∷ []) 65535, 3 ∷ 65535 ∷ 97 ∷ [])
    ∷ (replaced [] [] (97 ∷ []) (0 ∷ []) 2, 3 ∷ 2 ∷ 97 ∷ [])
    -- the old bundle's refusals before the new one's; the new one's before 22
    ∷ (replaced (13 ∷ []) [] (97 ∷ []) [] 0, 7 ∷ 0 ∷ 97 ∷ [])
    ∷ (replaced old [] (97 ∷ []) [] 0, 4 ∷ 0 ∷ 97 ∷ [])
    ∷ (replaced old cut (97 ∷ []) [] 0, 6 ∷ 3 ∷ 97 ∷ [])
    -- 22 before 5; 5 with the place count, before 15; 15 of every event so far before 23, and of none behind them
    ∷ (replaced old single [] (0 ∷ []) 1, 22 ∷ 0 ∷ [])
    ∷ (replaced single other [] (0 ∷ []) 1, 22 ∷ 0 ∷ [])
    ∷ (replaced other old (97 ∷ []) (2 ∷ []) 1, 5 ∷ 2 ∷ 97 ∷ [])
    ∷ (replaced old other (97 ∷ []) (1 ∷ 0 ∷ 0 ∷ 2 ∷ 3 ∷ []) 5, 15 ∷ 3 ∷ 97 ∷ [])
    ∷ (replaced old other (97 ∷ []) (0 ∷ 2 ∷ []) 1, 0 ∷ 15 ∷ [])
    -- a sale: the stopped event does not count, the new net goes on behind the two events, and one more is stopped on it
    ∷ (of_sale (begun_here granted), 13 ∷ 3 ∷ 14 ∷ 10 ∷ 99 ∷ 0 ∷ 1 ∷ 0 ∷ 74 ∷ [])
    ∷ (events_here granted, 0 ∷ 1 ∷ 0 ∷ [])
    -- and a further net behind it, with two places again, on which one more 0 is stopped
    ∷ (of_sale (begun_here again), 23 ∷ 3 ∷ 3 ∷ 6 ∷ 99 ∷ 0 ∷ 1 ∷ 0 ∷ 74 ∷ [])
    ∷ (events_here again, 0 ∷ 1 ∷ 0 ∷ [])
    -- a refused replacement: the sale goes on with the tokens of the old net
    ∷ (of_sale (begun_here not_granted), 23 ∷ 2 ∷ 5 ∷ 10 ∷ 99 ∷ 1 ∷ 0 ∷ 73 ∷ 74 ∷ [])
    ∷ (events_here not_granted, 1 ∷ 0 ∷ [])
    -- two accepted files over three events; 0 1 0 1 is a word of the first log, and no prefix of the second
    ∷ (replaced bytes_sales bytes_earlier (97 ∷ 98 ∷ []) (0 ∷ 1 ∷ 0 ∷ 1 ∷ []) 4, 23 ∷ 2 ∷ 97 ∷ 98 ∷ [])
    ∷ []

pub replacing-samples-hold : all (λ c. equal c.0 c.1) replacing_samples ≡ true
unfolding of_replaced replacing_samples bytes_sales bytes_earlier all any tabulate equal number_at negative_part positive_part sumℤ front first_failing
    first_false right_size bind results.require words event_count same occurrences counts tokens surplus place_permits shortfall net_permits
    first_refusing shortfall_of stopped_at screen_after screen first_bad first_short tokens_behind play marking_after item_in require field byte
    number each onward to_place to_net mark entry_after entry place places head_after to_first first head bundle_size bundle_head read_head
    starting handed_back output_of stepping stepped tokens_stepped kept_stepped replacing behind_events unless_stopped first_number next_number
    begun behind bundle_behind next_sale counted events_of
replacing-samples-hold = refl

-- 'Otherwise it may': the two files are accepted, and the kept events are a word of the old log
pub otherwise : (verdict table_size bytes_sales ≡ Ok completed.counts_sales) × (verdict table_size bytes_earlier ≡ Ok completed.counts_earlier)
    × Prefix (log_in bytes_sales) (0 ∷ 1 ∷ 0 ∷ 1 ∷ [])
otherwise = let c = completed.computed in (c.accepted_sales, c.accepted_earlier, prefix-of bytes_sales _ c.inside_sales)

-- and where the premise is met, with the first event of a word kept
module _ (output₁ output₂ table₁ table₂ : List ℕ) (room₁ : length bytes_a ≤ length output₁) (room₂ : length bytes_a' ≤ length output₂)
    (long₁ : table_size ≤ length table₁) (long₂ : table_size ≤ length table₂) where
  pub met : (ts kept : List ℕ) → ReplacesSurely bytes_a bytes_a' ts (0 ∷ kept) 1
  met ts kept = request_11.never _ _ output₁ output₂ table₁ table₂ bytes_a bytes_a' counts_a counts_a files-of-bytes.0 files-of-bytes.1
      (first-accepted output₁ output₂ table₁ table₂ room₁ room₂ long₁ long₂) (second-accepted output₁ output₂ table₁ table₂ room₁ room₂ long₁ long₂)
      contained.0 ts (0 ∷ kept) 1 (prefix-of bytes_a (0 ∷ []) computed.prefix0)
