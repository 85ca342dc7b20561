-- The samples of specs/Cases.antt, computed.
use Rattle.std.specs.Prelude.{refl}
use mathlib.Core.List.{flat_map}
use Rattle.laws.specs.Firsts.{first_of}
use Rattle.laws.specs.Lists.{all, any, keep, tabulate, equal}
use Rattle.laws.specs.Scans.{first_failing, first_false}
use Rattle.laws.specs.Differences.{negative_part, is_zero_ℤ, sumℤ}
use Rattle.nets.specs.Nets.{words, completed_words, place_obeys, obeys, same, occurrences, weighed, beginnings, prefixes, add_row, counts, rows, allowed, passes, traffic, row_steps, continuations, allowed_steps, wrong_continuations, tokens, surplus, place_permits, shortfall, net_permits, permits_after, permits, permits_log, refused_by, first_refusing, shortfall_of, stopped_at, screen_after, screen}
use Rattle.nets.specs.Bundle.{names_completed, pair_counts, paired, weighs_before, weighs_after, weights_hold, solves, solves_all, accepted}
use Rattle.nets.specs.Carrying.{first_short, tokens_behind, play}
use Rattle.nets.specs.Reaching.{where_moved, leading, all_leading, reached}
use Rattle.nets.specs.Cases.{Computed}

pub computed : Computed
unfolding all any keep tabulate equal first_failing first_false negative_part is_zero_ℤ sumℤ words completed_words place_obeys obeys same
    occurrences weighed beginnings prefixes add_row counts rows allowed passes traffic row_steps continuations allowed_steps wrong_continuations
    tokens surplus place_permits shortfall net_permits permits_after permits permits_log refused_by first_refusing shortfall_of stopped_at
    screen_after screen names_completed pair_counts paired weighs_before weighs_after weights_hold solves solves_all accepted flat_map
    first_short tokens_behind play where_moved leading all_leading first_of reached
computed = record {
  rows_i = refl;
  allowed_i = refl;
  wrong_i = refl;
  after01 = refl;
  traffic_i = refl;
  traffic_empty = refl;
  out_first = refl;
  lacks = refl;
  lacks_later = refl;
  zero_fails = refl;
  total_fails = refl;
  before_fails = refl;
  returned = refl;
  more_left = refl;
  fewer_left = refl;
  not_completed = refl;
  above_holds = refl;
  above_needed = refl;
  above_less = refl;
  above_more = refl;
  below_holds = refl;
  below_needed = refl;
  repeated_holds = refl;
  inner_holds = refl;
  partial_fails = refl;
  same_fails = refl;
  same_zero_fails = refl;
  none_fails = refl;
  idle_accepted = refl;
  idle_needed = refl;
  idle_broken = refl;
  idle_old = refl;
  idle_permits = refl;
  used_permits = refl;
  used_refuses = refl;
  kept_permits = refl;
  kept_refuses = refl;
  empty_leads = refl;
  one_leads = refl;
  first_leads = refl;
  none_leads = refl;
  refused_leads = refl;
}
