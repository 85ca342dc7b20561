-- The three demands, proved.
use Rattle.std.specs.Prelude.{◌≡◌, refl, List, ℕ, length}
use Rattle.std.proofs.Common.{sym, ap, ◌∙◌}
use Rattle.refusals.specs.Results.{value}
use Rattle.refusals.specs.Answers.{number_of}
use Rattle.refusals.proofs.Laws.{answer-length, answer-rest, answer-taken, refused-writes-nothing}
use Rattle.block.specs.File.{opened}
use Rattle.block.specs.RefusalNumbers.{open_numbers_lem, seal_numbers_lem}
use Rattle.block.specs.RoundTrip.{opened-small, seals, seal_then_open, open_then_seal}
use Rattle.logs.specs.Answers.{fresh_table, taken_number}
use Rattle.logs.specs.RefusalNumbers.{fresh-numbers, take-numbers}
use Rattle.logs.specs.AnswerLaws.{refused-table}
use Rattle.logs.specs.LogTable.{log-table}
use Rattle.nets.specs.Nets.{join}
use Rattle.nets.specs.Words.{Prefix}
use Rattle.nets.proofs.Order.{wrong_sorted}
use Rattle.nets.proofs.SeparationProblems.{wrong_problem, constraint_unsolved}
use Rattle.bundles.specs.Readers.{events_in, net_in}
use Rattle.verdicts.proofs.Acceptance.{accepted-exactly}
use Rattle.verdicts.specs.RefusalNumbers.{judge_numbers_lem, refused_judge}
use Rattle.verdicts.specs.Judging.{verdict_number}
use Rattle.verdicts.specs.declared.Tally.{Tally}
use Rattle.screening.specs.Screening.{screened_number}
use Rattle.screening.proofs.RefusalNumbers.{screen-numbers, join-numbers}
use Rattle.screening.specs.Screens.{permitted-exactly, stopped-exactly, readable-exactly, screenable-head, replay-permits, replay-stops}
use Rattle.screening.proofs.JoinLaws.{join-readable, joined-replayed}
use Rattle.editions.specs.RefusalNumbers.{to_new-numbers, to_old-numbers}
use Rattle.pruning.specs.RefusalNumbers.{prune-numbers}
use Rattle.demands.specs.Demands.{Demand1, Demand2, Demand3, FileAccepted}
use Rattle.demands.specs.OpeningProved.{open_exactly, seal_exactly}
use Rattle.demands.specs.TablesProved.{fresh-exactly, take-exactly, take-leaves, taken-left}
use Rattle.demands.specs.JudgingProved.{judge_exactly, fields-exactly}
use Rattle.demands.specs.ScreeningProved.{screen-exactly, join-exactly}
use Rattle.demands.specs.PruningProved.{prune-exactly}
use Rattle.demands.specs.ConvertingProved.{to_new-exactly, to_old-exactly}
use Rattle.demands.specs.CarryingProved.{calls-of-engine}
use Rattle.demands.specs.ReplacingProved.{call-of-replacing}
use Rattle.demands.specs.ReachingProved.{request_12}
use Rattle.demands.specs.BoundaryProved.{boundary}
use Rattle.demands.specs.Accepting.{acceptance-asks, counts_are, regions-exactly}
use Rattle.demands.specs.Comparing.{accepted-head, net-complete, net-suboptimal, table-left, numbers-left, compared}

pub demand_1 : Demand1
unfolding fresh_table number_of taken_number verdict_number screened_number
demand_1 = record {
  open_exactly = open_exactly;
  seal_exactly = seal_exactly;
  fresh-exactly = fresh-exactly;
  take-exactly = take-exactly;
  judge_exactly = judge_exactly;
  screen-exactly = screen-exactly;
  join-exactly = join-exactly;
  prune-exactly = prune-exactly;
  to_new-exactly = λ table_length b room bytes. to_new-exactly table_length b bytes room;
  to_old-exactly = λ table_length b room bytes. to_old-exactly table_length b bytes room;
  fields-exactly = fields-exactly;
  engine = calls-of-engine;
  replacing = call-of-replacing;
  search = request_12;
  boundary = boundary;
  refusals_of_open = open_numbers_lem;
  refusals_of_seal = seal_numbers_lem;
  refusals_of_fresh = fresh-numbers;
  refusals_of_take = take-numbers;
  refusals_of_judge = judge_numbers_lem;
  refusals_of_screen = screen-numbers;
  refusals_of_join = join-numbers;
  refusals_of_prune = prune-numbers;
  refusals_of_to_new = to_new-numbers;
  refusals_of_to_old = to_old-numbers;
  counts-most = (refl, refl, refl);
  refusal-numbers = λ r. (refl, refl, refl, refl);
  refused_output = refused-writes-nothing;
  result_output = λ result output n e. let a = answer-length result output n e in (a.0, a.1, a.2.0, a.2.1);
  result-rest = answer-rest;
  fresh-table = λ n table s e. rw e;
  log-table = log-table;
  log-numbers = taken-left;
  taken-table = take-leaves;
  refused-fresh = λ n table r e. rw e;
  refused-take = λ s table w r e. sym (refused-table s table w r e);
  refused_judge = refused_judge;
  accepted_judge = λ table b bytes c e. table-left b bytes (length table) c e table refl;
  accepted-numbers = λ table b bytes c e. numbers-left b bytes (length table) c e table refl;
}

pub demand_2 : Demand2
demand_2 = record {
  accepted = accepted-exactly;
  asks = acceptance-asks;
  head = accepted-head;
  counts = λ table_length b bytes c e. counts_are b bytes table_length c e;
  by-regions = λ table_length long b bytes. regions-exactly b bytes table_length long;
  problems = wrong_problem;
  unsolvable = λ n log s c h. constraint_unsolved n (Prefix log) s c h.0 h.1 h.2;
  order = wrong_sorted;
  complete = net-complete;
  suboptimal = net-suboptimal;
  permitted = permitted-exactly;
  stopped = λ b w readable i j k. stopped-exactly b w readable (record { position = i; place = j; shortfall = k });
  readable = readable-exactly;
  readable-head = screenable-head;
  joined-readable = join-readable;
  joined-permitted = λ first second w readable. replay-permits (events_in first) (join (net_in first) (net_in second)) w (joined-replayed first second w readable);
  joined-stopped = λ first second w readable i j k.
      replay-stops (events_in first) (join (net_in first) (net_in second)) w (joined-replayed first second w readable) (record { position = i; place = j; shortfall = k });
  seals = seals;
  seal_then_open = seal_then_open;
  open_then_seal = open_then_seal;
}

-- the bundle of a file that opens and is accepted
pub accepted-bundle : {file output table b : List ℕ} {c : Tally} → FileAccepted file output table b c → opened file ≡ value b
accepted-bundle {file} {output} f = answer-taken (opened file) output f.size f.opens ∙ ap value f.bundle

pub demand_3 : Demand3
demand_3 file₁ file₂ output₁ output₂ table₁ table₂ b₁ b₂ c₁ c₂ small₁ small₂ first second contained =
    compared b₁ b₂ (opened-small file₁ b₁ small₁ (accepted-bundle first)) (opened-small file₂ b₂ small₂ (accepted-bundle second)) (length table₁) (length table₂) c₁ c₂ first.accepted second.accepted contained
