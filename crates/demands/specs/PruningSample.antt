-- A sample of pruning: a word that leaves the log earlier and is permitted only afterwards.
use Rattle.std.specs.Prelude.{refl, ℕ}
use mathlib.Core.List.{List, [], ◌∷◌, flat_map}
use Rattle.std.proofs.Common.{arith}
use Rattle.laws.specs.Lists.{all, any, keep, tabulate, equal, member→, →member}
use Rattle.laws.specs.Numbers.{number_at, all-bytes}
use Rattle.laws.specs.Differences.{negative_part, is_zero_ℤ, sumℤ}
use Rattle.laws.specs.Scans.{first_failing}
use Rattle.laws.specs.Ranks.{keep_at, rank}
use Rattle.limits.specs.Limits.{right_size}
use Rattle.refusals.specs.Results.{bind}
use Rattle.refusals.specs.Results as results
use Rattle.nets.specs.Nets.{words, completed_words, place_obeys, same, occurrences, event_count, weighed, beginnings, prefixes, add_row, counts}
use Rattle.nets.specs.Nets.{tokens, surplus, place_permits, shortfall, net_permits, first_refusing, shortfall_of, stopped_at, screen_after, screen}
use Rattle.nets.specs.Nets.{rows, allowed, passes, row_steps, continuations, allowed_steps, wrong_continuations, fits, refused_by}
use Rattle.nets.specs.Bundle.{names_completed, pair_counts, paired, weighs_before, weighs_after, weights_hold, solves, is_by_place, tally}
use Rattle.nets.specs.Events.{first_bad}
use Rattle.bundles.specs.Reading.{item_in, require, field, byte, number, each, onward}
use Rattle.bundles.specs.Layout.{to_place, to_net, to_term, signed, to_pair, to_certificate, to_bundle, first_of, mark_bytes, entry_bytes}
use Rattle.bundles.specs.Layout.{place_bytes, places_bytes, term_bytes, pair_bytes, pairs_bytes, weight_bytes, certificate_bytes, front_bytes}
use Rattle.bundles.specs.Layout.{head_bytes, bytes_of}
use Rattle.bundles.specs.Readers as readers
use Rattle.bundles.specs.Readers.{head_of, log_in, mark, entry_after, entry, place, places, head_after, to_first, bundle_size, bundle_head}
use Rattle.bundles.specs.Readers.{read_head, term, pair, pairs, weights, of_kind, certificate}
use Rattle.verdicts.specs.Judging as verdicts
use Rattle.verdicts.specs.Judging.{unsolved, solved, at_end, after_head, contents, judged, verdict_of, verdict}
use Rattle.screening.specs.Screening.{word_on, screening, replayed, screened_of, screened}
use Rattle.pruning.specs.Pruning.{names, named, renumbered, pruned, pruning}
use Rattle.demands.specs.Pruning.{PermittedMore}

-- 77 bytes, of whose four places no certificate names the first; the words 0 0 0 1 and 0 1

unfoldable with_idle : List ℕ
with_idle =
    2 ∷ 2 ∷ 4 ∷ 0 ∷ 0 ∷ 0 ∷ 1 ∷ 2 ∷ 0 ∷ 1 ∷ 4
    ∷ 1 ∷ 0 ∷ 1 ∷ 0 ∷ 0 ∷ 0 ∷ 1 ∷ 0 ∷ 1 ∷ 0
    ∷ 1 ∷ 0 ∷ 2 ∷ 0 ∷ 0 ∷ 0 ∷ 1 ∷ 0 ∷ 2 ∷ 0
    ∷ 3 ∷ 0 ∷ 0 ∷ 0 ∷ 0 ∷ 0 ∷ 1 ∷ 0 ∷ 0 ∷ 0
    ∷ 1 ∷ 0 ∷ 0 ∷ 0 ∷ 0 ∷ 0 ∷ 0 ∷ 0 ∷ 1 ∷ 0
    ∷ 0 ∷ 1 ∷ 1 ∷ 2 ∷ 0 ∷ 2 ∷ 1 ∷ 0 ∷ 1 ∷ 1 ∷ 0 ∷ 3 ∷ 0 ∷ 1 ∷ 1 ∷ 0 ∷ 0 ∷ 2 ∷ 0 ∷ 2 ∷ 0 ∷ 3 ∷ 0 ∷ 1 ∷ 0 ∷ 1 ∷ []

unfoldable without_idle : List ℕ
without_idle =
    2 ∷ 2 ∷ 4 ∷ 0 ∷ 0 ∷ 0 ∷ 1 ∷ 2 ∷ 0 ∷ 1 ∷ 3
    ∷ 1 ∷ 0 ∷ 2 ∷ 0 ∷ 0 ∷ 0 ∷ 1 ∷ 0 ∷ 2 ∷ 0
    ∷ 3 ∷ 0 ∷ 0 ∷ 0 ∷ 0 ∷ 0 ∷ 1 ∷ 0 ∷ 0 ∷ 0
    ∷ 1 ∷ 0 ∷ 0 ∷ 0 ∷ 0 ∷ 0 ∷ 0 ∷ 0 ∷ 1 ∷ 0
    ∷ 0 ∷ 0 ∷ 1 ∷ 2 ∷ 0 ∷ 2 ∷ 1 ∷ 0 ∷ 1 ∷ 1 ∷ 0 ∷ 3 ∷ 0 ∷ 1 ∷ 1 ∷ 0 ∷ 0 ∷ 1 ∷ 0 ∷ 1 ∷ 0 ∷ 2 ∷ 0 ∷ 0 ∷ 0 ∷ 0 ∷ []

pub permitted-more : PermittedMore
unfolding with_idle without_idle all any keep tabulate equal number_at first_failing negative_part sumℤ same occurrences event_count weighed
    beginnings prefixes add_row counts tokens surplus place_permits shortfall net_permits first_refusing shortfall_of stopped_at screen_after
    screen rows allowed passes row_steps continuations allowed_steps wrong_continuations fits refused_by weighs_before weighs_after weights_hold
    solves is_by_place tally first_bad flat_map bind results.require onward item_in require field byte number each words completed_words is_zero_ℤ
    place_obeys names_completed pair_counts paired to_place to_net to_term signed to_pair to_certificate to_bundle right_size mark entry_after
    entry place places head_after to_first readers.first readers.head bundle_size bundle_head read_head readers.head_in head_of term pair pairs
    weights of_kind certificate unsolved solved at_end after_head contents verdicts.judging judged verdict_of verdict replayed word_on screening
    screened_of screened names named keep_at rank renumbered pruned pruning first_of mark_bytes entry_bytes place_bytes places_bytes term_bytes
    pair_bytes pairs_bytes weight_bytes certificate_bytes front_bytes head_bytes bytes_of
permitted-more = record {
  bundle = with_idle;
  bytes = all-bytes with_idle refl;
  left = without_idle;
  prefix = 0 ∷ 0 ∷ [];
  event = 1;
  rest = 0 ∷ [];
  inside = member→ (0 ∷ 0 ∷ []) (prefixes (log_in with_idle)) tt;
  leaves = λ m. →member (0 ∷ 0 ∷ 1 ∷ []) (prefixes (log_in with_idle)) m;
  earlier = omega arith;
  counts = record { rows = 6; allowed = 5; by_place = 6; by_weights = 1 };
  accepted = refl;
  prunes = refl;
  before = refl;
  after = refl;
}
