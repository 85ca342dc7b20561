-- The order of blocks, proved: the lines of BlockOrder.antt from the laws of the blocks.
use Rattle.std.specs.Prelude.{◌≡◌, refl, ◌⊎◌, eqb, length, drop, Err}
use Rattle.std.proofs.Common.{sym, ap, ◌∙◌, subst, inl, inr, ⊎_elim, arith, length-append, length-take, length-drop, take_at, drop_at, length-take-le, eqb-true}
use mathlib.Core.List.{List, ◌++◌}
use Prim.Native.Nat.{ℕ, ◌+◌, ◌-◌, ◌*◌, ◌≤◌, ◌<◌}
use Rattle.std.proofs.Math.ListN.{take}
use Rattle.std.proofs.lemmas.Bool.{eqb-false}
use Rattle.laws.specs.Pieces.{joined, length-joined, part-joined}
use Rattle.laws.specs.Scans.{first_false_cases}
use Rattle.refusals.specs.Results.{Result, value, refused, bind}
use Rattle.refusals.specs.Answers.{refusal, fitted, answer_of, answer}
use Rattle.block.specs.File.{block_count, block_at, opened}
use Rattle.block.specs.OtherBlocks.{front-blocks, same_blocks, other_block}
use Rattle.demands.specs.Opening.{WholeBlocks}
use Rattle.demands.specs.OpeningProved.{whole-exactly, open_exactly}
use Rattle.demands.specs.BlockOrder.{block_of, InOrder, in_order, LowestMoved, with_block_twice, BlockOrder, Request1}

-- a refusal is the answer, whatever the output
pub answer-refused : (result : Result (List ℕ)) (number spot room : ℕ) → result ≡ refused number spot
    → answer result room ≡ Err (refusal number spot)
unfolding answer answer_of fitted bind
answer-refused result number spot room e = rw e

count_of : (file : List ℕ) (blocks : ℕ) → length file ≡ 512 * blocks → block_count file ≡ blocks
unfolding block_count
count_of file blocks size = omega (arith, size)

-- which block is moved
some-moved : (order : ℕ → ℕ) (blocks : ℕ) → ((k : ℕ) × LowestMoved order blocks k) ⊎ ((k : ℕ) → k < blocks → order k ≡ k)
some-moved order blocks = ⊎_elim
    (λ (k, within, here, lower). inl (
      k,
      record { within = within; moved = eqb-false _ _ here; lower = λ j below. eqb-true _ _ (lower j below) },
    ))
    (λ own. inr (λ k h. eqb-true _ _ (own k h)))
    (first_false_cases (λ k. eqb (order k) k) blocks)

module _ (file b : List ℕ) (opens : opened file ≡ value b) (blocks : ℕ) (whole : WholeBlocks file blocks) (room : ℕ) where
  count : block_count file ≡ blocks
  count = count_of file blocks whole.size

  -- another file, up to the position whose block is not its own
  refused-at : (other : List ℕ) (others : ℕ) → WholeBlocks other others → (k i : ℕ) → k < others → k < blocks → i < blocks → (i ≡ k → ⊥)
      → ((j : ℕ) → j < k → block_of other j ≡ block_of file j) → block_of other k ≡ block_of file i
      → answer (opened other) room ≡ Err (refusal 17 k)
  unfolding block_at
  refused-at other others w k i here there within moved lower block =
      answer-refused (opened other) 17 k room
      (other_block file other b opens ((whole-exactly other).1 (others, w)) k i
      (rw (count_of other others w.size) here) (rw count there) (rw count within) moved block lower)

  -- the front up to block k, and behind it the file from another block on
  pasted : (k i : ℕ) → k < blocks → i < blocks → (i ≡ k → ⊥) → k + (blocks - i) ≤ 128
      → answer (opened (take (512 * k) file ++ drop (512 * i) file)) room ≡ Err (refusal 17 k)
  unfolding block_at
  pasted k i there within moved most =
      refused-at other (k + (blocks - i)) (record { size = long; some = omega arith; most = most }) k i (omega arith) there within moved
      (front-blocks file other k (take_at front rest (512 * k) cut))
      (ap (take 512) (drop_at front rest (512 * k) cut))
    where
      front : List ℕ
      front = take (512 * k) file

      rest : List ℕ
      rest = drop (512 * i) file

      other : List ℕ
      other = front ++ rest

      cut : length front ≡ 512 * k
      cut = length-take-le (512 * k) file (omega (arith, whole.size))

      long : length other ≡ 512 * (k + (blocks - i))
      long = simp (length-append, length-drop) (omega (arith, cut, whole.size))

  -- every block in its own position
  same-file : (other : List ℕ) → length other ≡ length file → ((k : ℕ) → k < blocks → block_of other k ≡ block_of file k) → other ≡ file
  unfolding block_at
  same-file other size = same_blocks file other blocks whole.size (size ∙ whole.size)

  too_long : (i : ℕ) → i < blocks → blocks ≡ 128 → answer (opened (with_block_twice i file)) room ≡ Err (refusal 1 0)
  too_long i inside most = ((open_exactly (with_block_twice i file) room).file-length 0).1 (refl, inr (inr long))
    where
      long : 65536 < length (with_block_twice i file)
      long = simp (length-append, length-take, length-drop) (omega (arith, whole.size))

  block_size : (k : ℕ) → k < blocks → length (block_of file k) ≡ 512
  block_size k h = simp (length-take, length-drop) (omega (arith, whole.size))

  -- the blocks joined in an order
  made : (order : ℕ → ℕ) → ((k : ℕ) → k < blocks → order k < blocks) → InOrder file blocks order (in_order file blocks order)
  made order within = record {
    size = length-joined piece 512 blocks (λ k h. block_size (order k) (within k h)) ∙ sym whole.size;
    within = within;
    each = λ k h.
        let full = block_size (order k) (within k h) in
        let before = length-joined piece 512 k (λ j less. block_size (order j) (within j (omega arith))) in
        subst (λ (n : ℕ). take n (drop (512 * k) (joined piece blocks)) ≡ piece k) full (part-joined piece blocks k (512 * k) h before);
  }
    where
      piece : ℕ → List ℕ
      piece k = block_of file (order k)

  block-order : BlockOrder file blocks room
  block-order = record {
    other_block = refused-at;
    shuffled = λ order other o k m. refused-at other blocks (record { size = o.size ∙ whole.size; some = whole.some; most = whole.most })
        k (order k) m.within m.within (o.within k m.within) m.moved
        (λ j less. o.each j (omega (arith, m.within)) ∙ ap (block_of file) (m.lower j less)) (o.each k m.within);
    made = made;
    some-moved = λ order. some-moved order blocks;
    none-moved = λ order other o own. same-file other o.size (λ k h. o.each k h ∙ ap (block_of file) (own k h));
    lost = λ i inside. pasted i (i + 1) (omega arith) inside (λ e. omega (arith, e)) (omega (arith, whole.most));
    doubled = λ i inside small. pasted (i + 1) i inside (omega arith) (λ e. omega (arith, e)) (omega arith);
    doubled-long = too_long;
  }

pub request_1 : Request1
request_1 = block-order
