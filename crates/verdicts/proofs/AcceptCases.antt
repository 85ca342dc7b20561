-- The samples of specs/AcceptCases.antt, computed.
use Rattle.std.specs.Prelude.{refl}
use mathlib.Core.List.{flat_map}
use Rattle.laws.specs.Lists.{all, any, keep, tabulate, equal}
use Rattle.laws.specs.Numbers.{number_at}
use Rattle.laws.specs.Differences.{is_zero_ℤ, sumℤ}
use Rattle.laws.specs.Scans.{first_failing}
use Rattle.limits.specs.Limits.{right_size}
use Rattle.refusals.specs.Results.{bind}
use Rattle.nets.specs.Nets.{words, completed_words, same, occurrences, event_count, weighed, beginnings, prefixes, add_row, counts}
use Rattle.nets.specs.Nets.{tokens, surplus, place_permits, place_obeys}
use Rattle.nets.specs.Nets.{rows, allowed, row_steps, continuations, allowed_steps, wrong_continuations, fits, refused_by}
use Rattle.nets.specs.Bundle.{names_completed, pair_counts, paired, weighs_before, weighs_after, weights_hold, solves, is_by_place, tally}
use Rattle.bundles.specs.Reading.{require, field, byte, number, each, onward}
use Rattle.bundles.specs.Layout.{to_place, to_net, to_term, signed, to_pair, to_certificate, to_bundle}
use Rattle.bundles.specs.Readers.{mark, entry_after, entry, place, places, head_after, to_first, first, head}
use Rattle.bundles.specs.Readers.{bundle_size, term, pair, pairs, weights, of_kind, certificate}
use Rattle.verdicts.specs.Judging.{unsolved, solved, at_end, after_head, contents, judging, judged, verdict_of, verdict}
use Rattle.verdicts.specs.AcceptCases.{Computed}

pub computed : Computed
unfolding all any keep tabulate equal number_at is_zero_ℤ sumℤ first_failing right_size bind words completed_words same occurrences event_count
    weighed beginnings prefixes add_row counts tokens surplus place_permits place_obeys rows allowed row_steps continuations allowed_steps
    wrong_continuations fits refused_by names_completed pair_counts paired weighs_before weighs_after weights_hold solves is_by_place tally flat_map
    onward require field byte number each to_place to_net to_term signed to_pair to_certificate to_bundle mark entry_after entry place places
    head_after to_first first head bundle_size term pair pairs weights of_kind certificate unsolved solved at_end after_head contents judging
    judged verdict_of verdict
computed = record {
  accepted_e = refl;
  accepted_four = refl;
  refused13 = refl;
  refused10 = refl;
  refused_g = refl;
  above = refl;
  repeated = refl;
  above_needed = refl;
  of_partial = refl;
  of_none = refl;
  too_many = refl;
  uncounted = refl;
  below = refl;
  least = refl;
  below_needed = refl;
  refused20 = refl;
  not_completed = refl;
  lowest_place = refl;
  refused_both = refl;
  mark2 = refl;
  unmarked = refl;
  empty_marked = refl;
  no_event = refl;
  many_events = refl;
}
