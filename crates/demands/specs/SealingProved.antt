-- The page of request 3, proved.
use Rattle.std.specs.Prelude.{◌≡◌, refl, List, ℕ, ◌+◌, ◌*◌, ◌/◌, ◌≤◌, ◌<◌, length, take, drop, Err, Ok}
use Rattle.std.proofs.Math.Path.{sym}
use Rattle.std.proofs.Common.{◌∙◌, subst, arith}
use Rattle.refusals.specs.Results.{value}
use Rattle.refusals.specs.Answers.{refusal, answer}
use Rattle.refusals.proofs.Laws.{answer-rest, answer-taken, refused-writes-nothing}
use Rattle.block.specs.File.{part_at, sealed_file, sealed}
use Rattle.block.specs.SealLaws.{blocks_for-is, sealed→}
use Rattle.block.specs.RoundTrip.{opened-sealed, contents_at-sealed}
use Rattle.demands.specs.Opening.{WholeBlocks, BlockKept, contents_of, sealed_size}
use Rattle.demands.specs.OpeningProved.{open_exactly, kept-exactly, contents-is, sealed-size, seal_exactly}
use Rattle.demands.specs.Sealing.{sealed_into, file_in, SealsInto, Request3}

module _ (b : List ℕ) (some : 1 ≤ length b) (most : length b ≤ 64512) where
  abbrev blocks : ℕ
  blocks = (length b + 503) / 504

  module _ (output : List ℕ) (room : sealed_size (length b) ≤ length output) where
    answered : answer (sealed b) (length output) ≡ Ok (sealed_size (length b))
    answered = ((seal_exactly b (length output)).result (sealed_size (length b))).1 (some, most, refl, room)

    is : sealed b ≡ value (file_in b output)
    is = answer-taken (sealed b) output (sealed_size (length b)) answered

    pub file-is : file_in b output ≡ sealed_file b
    file-is = sym (sealed→ b (file_in b output) is).1

    whole : WholeBlocks (file_in b output) blocks
    whole = record { size = (sealed-size b (file_in b output) is).2; some = omega arith; most = omega arith }

    kept : (k : ℕ) → k < blocks → BlockKept (file_in b output) blocks k
    kept =
        let (count, w, each, _) = ((open_exactly (file_in b output) 0).bundle b).0 (opened-sealed b (file_in b output) is) in
        let same : count ≡ blocks = omega (arith, w.size, whole.size) in
        subst (λ (n : ℕ). (k : ℕ) → k < n → BlockKept (file_in b output) n k) same each

    contents : (k : ℕ) → k < blocks → contents_of (file_in b output) k ≡ take 504 (drop (504 * k) b)
    unfolding part_at
    contents k h =
        sym (contents-is (file_in b output) blocks whole (λ j less. (kept-exactly (file_in b output) blocks whole j less).1 (kept j less)) k h)
        ∙ rw file-is (contents_at-sealed b some most k (rw blocks_for-is h))

    seals_into : SealsInto b output blocks
    seals_into = let rest = answer-rest (sealed b) output (sealed_size (length b)) answered in record {
      answered = answered;
      whole = whole;
      kept = kept;
      contents = contents;
      size = rest.0;
      behind = rest.1;
    }

  -- a refusal, and what it leaves
  short : (output : List ℕ) → length output < sealed_size (length b)
      → (answer (sealed b) (length output) ≡ Err (refusal 3 (sealed_size (length b)))) × (sealed_into b output ≡ output)
  short output less =
      let refuses = ((seal_exactly b (length output)).output_short (sealed_size (length b))).1 (some, most, refl, less) in
      (refuses, refused-writes-nothing (sealed b) output _ refuses)

pub request_3 : Request3
request_3 = record {
  result = λ b output some most room. seals_into b some most output room;
  same = λ b one other some most room₁ room₂. file-is b some most one room₁ ∙ sym (file-is b some most other room₂);
  short = λ b output some most less. short b some most output less;
  bundle = λ b output wrong.
      let refuses = ((seal_exactly b (length output)).bundle-length 0).1 (refl, wrong) in
      (refuses, refused-writes-nothing (sealed b) output _ refuses);
}
