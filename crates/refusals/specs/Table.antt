-- The numbers of the refusal table, by the names that the code has for them.
use Rattle.std.specs.Prelude.{ℕ}
use Rattle.refusals.specs.declared.Cause.{Cause}
use Rattle.refusals.specs.declared.Cause.TheVariants.{FileLength, BlockSums, OutputShort, BundleLength, NumbersShort, BundleEnd, Value, Events, Rows, PlaceMisfit, PlacePermits, Weights, BytesFollow, WordLength, WordEvent, StateRange, BlockNumber, BlockUse, EventCounts, PlaceDisobeys, WordCompleted}
use Rattle.refusals.specs.declared.Cause.TheVariants.{ReplacedEvents, RunStopped}

abbrev pub file_length_number : ℕ
file_length_number = 1

abbrev pub block_sums_number : ℕ
block_sums_number = 2

abbrev pub output_short_number : ℕ
output_short_number = 3

abbrev pub bundle_length_number : ℕ
bundle_length_number = 4

abbrev pub numbers_short_number : ℕ
numbers_short_number = 5

abbrev pub bundle_end_number : ℕ
bundle_end_number = 6

abbrev pub value_number : ℕ
value_number = 7

abbrev pub events_number : ℕ
events_number = 8

abbrev pub rows_number : ℕ
rows_number = 9

abbrev pub place_misfit_number : ℕ
place_misfit_number = 10

abbrev pub place_permits_number : ℕ
place_permits_number = 11

abbrev pub weights_number : ℕ
weights_number = 12

abbrev pub bytes_follow_number : ℕ
bytes_follow_number = 13

abbrev pub word_length_number : ℕ
word_length_number = 14

abbrev pub word_event_number : ℕ
word_event_number = 15

abbrev pub state_range_number : ℕ
state_range_number = 16

abbrev pub block_number_number : ℕ
block_number_number = 17

abbrev pub block_use_number : ℕ
block_use_number = 18

abbrev pub event_counts_number : ℕ
event_counts_number = 19

abbrev pub place_disobeys_number : ℕ
place_disobeys_number = 20

abbrev pub word_completed_number : ℕ
word_completed_number = 21

abbrev pub replaced_events_number : ℕ
replaced_events_number = 22

abbrev pub run_stopped_number : ℕ
run_stopped_number = 23

-- the number of a cause
abbrev pub number : Cause → ℕ
number FileLength = file_length_number
number BlockSums = block_sums_number
number OutputShort = output_short_number
number BundleLength = bundle_length_number
number NumbersShort = numbers_short_number
number BundleEnd = bundle_end_number
number Value = value_number
number Events = events_number
number Rows = rows_number
number PlaceMisfit = place_misfit_number
number PlacePermits = place_permits_number
number Weights = weights_number
number BytesFollow = bytes_follow_number
number WordLength = word_length_number
number WordEvent = word_event_number
number StateRange = state_range_number
number BlockNumber = block_number_number
number BlockUse = block_use_number
number EventCounts = event_counts_number
number PlaceDisobeys = place_disobeys_number
number WordCompleted = word_completed_number
number ReplacedEvents = replaced_events_number
number RunStopped = run_stopped_number
