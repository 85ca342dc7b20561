-- The refusal numbers of the three calls are those of their lines in the order of refusals: 4, then 6, 7, 8, then 5 of starting; 14, 4, then 6, 7, 8,
-- then 5, 16, 15, 3 of a step; 14, 3, 4, then 6, 7, 8, then 22, 5, 15, 23 of replacing.
use Rattle.std.specs.Prelude.{◌≡◌, true, List, [], ◌∷◌, ℕ, ◌+◌, leb, ltb, length, take, Err}
use Rattle.laws.specs.Lists.{all, any, among}
use Rattle.laws.specs.Scans.{first_failing}
use Rattle.limits.specs.Limits.{max_word_events}
use Rattle.refusals.specs.Table.{bundle_length_number, bundle_end_number, value_number, events_number, word_length_number, word_event_number}
use Rattle.refusals.specs.Table.{output_short_number, numbers_short_number, state_range_number, replaced_events_number, run_stopped_number}
use Rattle.refusals.specs.Results.{Refuses, refuses-end, refuses-test, refuses-then, refuses-wider}
use Rattle.refusals.specs.declared.Refusal.{Refusal}
use Rattle.nets.specs.Carrying.{play, initials}
use Rattle.bundles.specs.Layout.{to_net}
use Rattle.bundles.specs.HeadReading.{head-refuses}
use Rattle.engine.specs.Engine.{starting, stepping, replacing, started, stepped, replaced, reachable}
use Rattle.engine.specs.Answers.{handed-among, stepped-among}
use Rattle.engine.specs.ReplaceCauses.{replacing-refuses}

abbrev pub start_numbers : List ℕ
start_numbers = bundle_length_number ∷ bundle_end_number ∷ value_number ∷ events_number ∷ numbers_short_number ∷ []

abbrev pub step_numbers : List ℕ
step_numbers =
    word_length_number ∷ bundle_length_number ∷ bundle_end_number ∷ value_number ∷ events_number
    ∷ numbers_short_number ∷ state_range_number ∷ word_event_number ∷ output_short_number ∷ []

abbrev pub replace_numbers : List ℕ
replace_numbers =
    word_length_number ∷ output_short_number ∷ bundle_length_number ∷ bundle_end_number ∷ value_number ∷ events_number
    ∷ replaced_events_number ∷ numbers_short_number ∷ word_event_number ∷ run_stopped_number ∷ []

pub starting-refuses : (b ts : List ℕ) → Refuses start_numbers (starting b ts)
unfolding starting all any
starting-refuses b ts = refuses-then (refuses-wider tt (head-refuses b)) (λ h. refuses-wider tt
    (refuses-test (leb (length h.places) (length ts)) numbers_short_number (length h.places) (refuses-end (initials (to_net h)))))

pub stepping-refuses : (b ts kept : List ℕ) (number event : ℕ) → Refuses step_numbers (stepping b ts kept number event)
unfolding stepping all any
stepping-refuses b ts kept number event = refuses-test (ltb number max_word_events) word_length_number max_word_events
    (refuses-then (refuses-wider tt (head-refuses b)) (λ h. refuses-wider tt
    (refuses-test (leb (length h.places) (length ts)) numbers_short_number (length h.places)
    (refuses-test (all reachable (take (length h.places) ts)) state_range_number (first_failing reachable (take (length h.places) ts))
    (refuses-test (ltb event h.events) word_event_number number
    (refuses-test (ltb number (length kept)) output_short_number (number + 1) (refuses-end (play (to_net h) ts event))))))))

-- a refusal that is answered has one of them
pub start_numbers_lem : (b ts : List ℕ) (r : Refusal) → started (starting b ts) ≡ Err r → among r.number start_numbers ≡ true
start_numbers_lem b ts = handed-among 0 (starting-refuses b ts)

pub step_numbers_lem : (b ts kept : List ℕ) (number event : ℕ) (r : Refusal) → stepped number (stepping b ts kept number event) ≡ Err r
    → among r.number step_numbers ≡ true
step_numbers_lem b ts kept number event = stepped-among number (stepping-refuses b ts kept number event)

pub replace_numbers_lem : (old new ts kept : List ℕ) (number : ℕ) (r : Refusal) → replaced (replacing old new ts kept number) ≡ Err r
    → among r.number replace_numbers ≡ true
replace_numbers_lem old new ts kept number = handed-among tt (replacing-refuses old new ts kept number)
