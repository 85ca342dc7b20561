-- Samples of opening, sealing and the log table for the definitions: what is computed, with what is expected.
use Rattle.std.specs.Prelude.{◌≡◌, refl, true, List, [], ◌∷◌, ◌++◌, ℕ, take, drop, get_or, set, replicate, Err, Ok}
use Rattle.std.proofs.Common.{ap, arith}
use Rattle.laws.specs.Lists.{all, any, equal}
use Rattle.laws.specs.Distance.{differing, distance}
use Rattle.laws.specs.Numbers.{all-bytes, number_at}
use Rattle.laws.specs.Pieces.{joined}
use Rattle.laws.specs.Scans.{first_false, first_failing}
use Rattle.laws.specs.Sums.{weighted}
use Rattle.laws.specs.Bits.{with_bit}
use Rattle.limits.specs.Limits.{right_size}
use Rattle.refusals.specs.Results.{Result, value, refused, bind, require}
use Rattle.refusals.specs.Answers.{fitted, answer_of, answer, number_of, value_of}
use Rattle.refusals.specs.Answers.{Written}
use Rattle.nets.specs.Nets.{Word}
use Rattle.nets.specs.Events.{first_bad}
use Rattle.sums.specs.Checksums.{plain_sum, position_sum}
use Rattle.block.specs.Block.{padded, summed_bytes, with_sums, block, used_count, used_contents, right_number, right_count, right_padding, right_use, right_sums, fault}
use Rattle.block.specs.File.{block_count, block_at, fault_at, first_faulty, first_fault, contents_at, bundle_of, right_length, opened, part_at, sealed_block_at, blocks_for, sealed_file, sealed}
use Rattle.rows.specs.Rows.{row_at, numbers, rows_of, flat, find_row, present, visit, update_at, follow, add_event, take_word}
use Rattle.logs.specs.Answers.{table_size, right_event_count, right_summary, taken_of, log_started, fresh_answer, word_taken, taken_answer, taken_table, taken_number}
use Rattle.logs.specs.declared.Summary.{Summary}
use Rattle.logs.specs.Answers.{Taken}
use Rattle.numbers.specs.Numbers.{with_value, with_taken}
use Rattle.demands.specs.BlockOrder.{without_block, with_block_twice}
use Rattle.demands.specs.Alterations.{swapped, ThreeUncaught}
use Rattle.demands.specs.Samples.{bytes_a}

-- 0 and the bytes, or the refusal's number and spot
unfoldable pub of_result : Result (List ℕ) → List ℕ
of_result (value bytes) = 0 ∷ bytes
of_result (refused number spot) = number ∷ spot ∷ []

-- 0 and the summary, or the refusal's number and spot
of_taken : Taken → List ℕ
of_taken (Ok s) = 0 ∷ s.n ∷ s.rows ∷ s.events ∷ []
of_taken (Err r) = r.number ∷ r.spot ∷ []

-- what a call for C returns, then the four numbers of `answer`, which held 10, 11, 12 and 13
handed_written : Written → List ℕ
handed_written a = number_of a ∷ with_value (10 ∷ 11 ∷ 12 ∷ 13 ∷ []) a

handed_taken : Taken → List ℕ
handed_taken a = taken_number a ∷ with_taken (10 ∷ 11 ∷ 12 ∷ 13 ∷ []) a

-- case A, sealed: one block, number 0, 53 bytes used, S = 85, W = 991
unfoldable pub file_a : List ℕ
file_a = (0 ∷ 0 ∷ 53 ∷ 0 ∷ []) ++ bytes_a ++ replicate 451 0 ++ (85 ∷ 0 ∷ 223 ∷ 3 ∷ [])

-- bytes 4 to 6 of it, altered by +1, −2 and +1
unfoldable pub file_three : List ℕ
file_three = take 4 file_a ++ (3 ∷ 0 ∷ 2 ∷ drop 7 file_a)

-- a table of sevens, as long as a call asks for, and one of zeros
unfoldable sevens : List ℕ
sevens = replicate table_size 7

unfoldable zeros : List ℕ
zeros = replicate table_size 0

abbrev summary : ℕ → ℕ → ℕ → Summary
summary n rows events = record { n = n; rows = rows; events = events }

-- the word 0 0 1 over 2 events, taken into a fresh table: rows 0 0, 1 0, 2 0 and 2 1, with their masks and 1 word each, and zeros behind them
unfoldable rows001 : List ℕ
rows001 =
    0 ∷ 0 ∷ 0 ∷ 0 ∷ 0 ∷ 0 ∷ 0 ∷ 0 ∷ 0 ∷ 0 ∷ 0 ∷ 0 ∷ 1 ∷ 1
    ∷ 1 ∷ 0 ∷ 0 ∷ 0 ∷ 0 ∷ 0 ∷ 0 ∷ 0 ∷ 0 ∷ 0 ∷ 0 ∷ 0 ∷ 1 ∷ 1
    ∷ 2 ∷ 0 ∷ 0 ∷ 0 ∷ 0 ∷ 0 ∷ 0 ∷ 0 ∷ 0 ∷ 0 ∷ 0 ∷ 0 ∷ 2 ∷ 1
    ∷ 2 ∷ 1 ∷ 0 ∷ 0 ∷ 0 ∷ 0 ∷ 0 ∷ 0 ∷ 0 ∷ 0 ∷ 0 ∷ 0 ∷ 0 ∷ 1
    ∷ 0 ∷ []

-- two rows with the same counts in front of sevens, the lower with 65,535 words; and with the word 0 taken: its bit and its row, and 65,535 stays
unfoldable twins : List ℕ
twins = replicate 12 0 ++ (4 ∷ 65535 ∷ []) ++ replicate 12 0 ++ (8 ∷ 7 ∷ []) ++ replicate 3556 7

unfoldable twins0 : List ℕ
twins0 = replicate 12 0 ++ (5 ∷ 65535 ∷ []) ++ replicate 12 0 ++ (8 ∷ 7 ∷ 1 ∷ []) ++ replicate 11 0 ++ (0 ∷ 1 ∷ 7 ∷ [])

-- a sealed file of two blocks
file_two : List ℕ
file_two = sealed_file (replicate 505 1)

table_after : Summary → List ℕ → Word → List ℕ
table_after s t w = taken_table (taken_answer s t w) s t w

pub call_samples : List (List ℕ × List ℕ)
call_samples =
    -- seal and open: A; 4; 1
    (of_result (sealed bytes_a), 0 ∷ file_a)
    ∷ (of_result (opened file_a), 0 ∷ bytes_a)
    ∷ (of_result (sealed []), 4 ∷ 0 ∷ [])
    ∷ (of_result (opened []), 1 ∷ 0 ∷ [])
    ∷ (of_result (opened (take 511 file_a)), 1 ∷ 0 ∷ [])
    -- into outputs: as long as the result, and a byte shorter, with 3 and the length needed
    ∷ (of_result (fitted (opened file_a) 53), 0 ∷ bytes_a)
    ∷ (of_result (fitted (opened file_a) 52), 3 ∷ 53 ∷ [])
    ∷ (of_result (fitted (sealed bytes_a) 512), 0 ∷ file_a)
    ∷ (of_result (fitted (sealed bytes_a) 511), 3 ∷ 512 ∷ [])
    -- each fault of a block alone: its number; no byte used, a last block in the middle; its sums
    ∷ (of_result (opened (block 1 bytes_a)), 17 ∷ 0 ∷ [])
    ∷ (of_result (opened (replicate 512 0)), 18 ∷ 0 ∷ [])
    ∷ (of_result (opened (file_a ++ file_a)), 18 ∷ 0 ∷ [])
    ∷ (of_result (opened (take 4 file_a ++ (3 ∷ drop 5 file_a))), 2 ∷ 0 ∷ [])
    -- within a block 17, 18, 2: all three; 18 and 2, by the used count, and by a byte behind the used ones
    ∷ (of_result (opened (replicate 512 1)), 17 ∷ 0 ∷ [])
    ∷ (of_result (opened (0 ∷ 0 ∷ 0 ∷ drop 3 file_a)), 18 ∷ 0 ∷ [])
    ∷ (of_result (opened (take 507 file_a ++ (1 ∷ drop 508 file_a))), 18 ∷ 0 ∷ [])
    -- the lowest faulty block is named: 18 in block 0, all three faults in block 1
    ∷ (of_result (opened (file_a ++ replicate 512 1)), 18 ∷ 0 ∷ [])
    -- two blocks that change places, the first one lost, the first one twice
    ∷ (of_result (opened (drop 512 file_two ++ take 512 file_two)), 17 ∷ 0 ∷ [])
    ∷ (of_result (opened (without_block 0 file_two)), 17 ∷ 0 ∷ [])
    ∷ (of_result (opened (with_block_twice 0 file_two)), 17 ∷ 1 ∷ [])
    -- bytes that changed places: two of the contents, then one of them and the used count; a byte altered, and S put right, then W; a byte of W
    ∷ (of_result (opened (swapped 4 6 file_a)), 2 ∷ 0 ∷ [])
    ∷ (of_result (opened (swapped 2 4 file_a)), 18 ∷ 0 ∷ [])
    ∷ (of_result (opened (set (set file_a 4 3) 508 86)), 2 ∷ 0 ∷ [])
    ∷ (of_result (opened (set (set file_a 4 3) 510 228)), 2 ∷ 0 ∷ [])
    ∷ (of_result (opened (set file_a 511 4)), 2 ∷ 0 ∷ [])
    -- in block 1: its number, its padding; a byte of each block
    ∷ (of_result (opened (set file_two 512 0)), 17 ∷ 1 ∷ [])
    ∷ (of_result (opened (set file_two 517 1)), 18 ∷ 1 ∷ [])
    ∷ (of_result (opened (set (set file_two 512 0) 4 0)), 2 ∷ 0 ∷ [])
    -- fresh: a summary; 5; 16
    ∷ (of_taken (fresh_answer 2 sevens), 0 ∷ 2 ∷ 1 ∷ 0 ∷ [])
    ∷ (of_taken (fresh_answer 13 (drop 1 sevens)), 5 ∷ 3584 ∷ [])
    ∷ (of_taken (fresh_answer 13 sevens), 16 ∷ 0 ∷ [])
    -- take: the next summary and the table; 5; 16; 8; 7; 9
    ∷ (of_taken (taken_answer (summary 2 1 0) zeros (0 ∷ 0 ∷ 1 ∷ [])), 0 ∷ 2 ∷ 4 ∷ 3 ∷ [])
    ∷ (take 57 (table_after (summary 2 1 0) zeros (0 ∷ 0 ∷ 1 ∷ [])), rows001)
    ∷ (take 43 (table_after (summary 1 2 0) twins (0 ∷ [])), twins0)
    ∷ (of_taken (taken_answer (summary 2 0 0) (drop 1 zeros) (2 ∷ [])), 5 ∷ 3584 ∷ [])
    ∷ (of_taken (taken_answer (summary 2 0 1024) zeros (2 ∷ [])), 16 ∷ 0 ∷ [])
    ∷ (of_taken (taken_answer (summary 2 1 1024) zeros (2 ∷ [])), 8 ∷ 0 ∷ [])
    ∷ (of_taken (taken_answer (summary 2 256 0) zeros (1 ∷ 2 ∷ [])), 7 ∷ 1 ∷ [])
    ∷ (of_taken (taken_answer (summary 2 256 0) zeros (1 ∷ [])), 9 ∷ 0 ∷ [])
    -- as C gets them: a length, and the length needed; n, rows and events; a spot
    ∷ (handed_written (answer (opened file_a) 53), 0 ∷ 53 ∷ 11 ∷ 12 ∷ 13 ∷ [])
    ∷ (handed_written (answer (sealed bytes_a) 511), 3 ∷ 512 ∷ 11 ∷ 12 ∷ 13 ∷ [])
    ∷ (handed_taken (fresh_answer 2 sevens), 0 ∷ 2 ∷ 1 ∷ 0 ∷ 13 ∷ [])
    ∷ (handed_taken (taken_answer (summary 2 1 0) zeros (0 ∷ 0 ∷ 1 ∷ [])), 0 ∷ 2 ∷ 4 ∷ 3 ∷ 13 ∷ [])
    ∷ (handed_taken (taken_answer (summary 2 256 0) zeros (1 ∷ 2 ∷ [])), 7 ∷ 1 ∷ 11 ∷ 12 ∷ 13 ∷ [])
    ∷ []

pub call-samples_hold : all (λ c. equal c.0 c.1) call_samples ≡ true
unfolding call_samples of_result of_taken handed_written handed_taken number_of value_of answer_of answer fitted taken_number with_value with_taken bytes_a file_a file_two sevens zeros rows001 twins twins0 table_after all any equal number_at joined first_false first_failing weighted with_bit right_size bind require first_bad plain_sum position_sum padded summed_bytes with_sums block used_count used_contents right_number right_count right_padding right_use right_sums fault block_count block_at fault_at first_faulty first_fault contents_at bundle_of right_length opened part_at sealed_block_at blocks_for sealed_file sealed row_at numbers rows_of flat find_row present visit update_at follow add_event take_word right_event_count right_summary taken_of log_started fresh_answer word_taken taken_answer taken_table
call-samples_hold = refl

-- the bundle of case A: its first three bytes, 2 2 1, are now 3 0 2. Neither sum changes
pub three_uncaught : ThreeUncaught
unfolding bytes_a file_a file_three all number_at joined first_false weighted differing distance right_size bind require plain_sum position_sum padded summed_bytes with_sums block used_count used_contents right_number right_count right_padding right_use right_sums fault block_count block_at fault_at first_faulty first_fault contents_at bundle_of right_length opened part_at sealed_block_at blocks_for sealed_file sealed
three_uncaught = record {
  bundle = bytes_a;
  file = file_a;
  altered = file_three;
  other = 3 ∷ 0 ∷ 2 ∷ drop 3 bytes_a;
  small = all-bytes bytes_a refl;
  seals = refl;
  size = refl;
  bytes = all-bytes file_three refl;
  three = refl;
  opens = refl;
  differs = λ e. let first : ◌≡◌ {A = ℕ} 3 2 = ap (λ (l : List ℕ). get_or l 0 0) e in omega (arith, first);
}
