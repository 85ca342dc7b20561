-- Opening and sealing, proved: the lines of Opening.antt from the laws of the blocks.
use Rattle.std.specs.Prelude.{◌≡◌, refl, ◌↔◌, eqb, leb, length, drop, get_or, Err}
use Rattle.std.proofs.Math.Path.{sym, ap, ap₂, subst}
use Rattle.std.proofs.Common.{◌∙◌, eq-or-lt_of_le, length-take, length-drop, length-take-le}
use Rattle.std.proofs.Math.Bool.{true}
use mathlib.Core.Logic.Iff
use Rattle.std.proofs.Math.Logic.{⊎_elim}
use mathlib.Core.List.{List}
use Prim.Native.Nat.{ℕ, ◌+◌, ◌-◌, ◌*◌, ◌/◌, ◌%◌, ◌≤◌, ◌<◌}
use Rattle.std.proofs.Math.Nat.{one-mul}
use native.Mathlib.Omega.{arith}
use Rattle.std.proofs.Math.ListN.{take}
use Rattle.std.proofs.Math.Seq.{get_or-take, get_or-drop}
use borrow.Author.Tests.{leb-true, le-leb, eqb-true, eq-eqb, ne_eqb}
use Rattle.laws.specs.Booleans.{and_left, and_right, fails-exactly}
use Rattle.laws.specs.Lists.{all, any}
use Rattle.laws.specs.Numbers.{Bytes, number_at}
use Rattle.laws.specs.Pieces.{joined, joined_same}
use Rattle.limits.specs.Limits.{right_size-bounds, right_size_intro, right_size_wrong}
use Rattle.laws.specs.Scans.{all-exactly}
use Rattle.laws.specs.Sums.{sum, sum_same, weighted, weighted-sum}
use Rattle.refusals.specs.Table.{block_sums_number, block_number_number, block_use_number}
use Rattle.refusals.specs.Results.{value}
use Rattle.refusals.specs.Answers.{refusal, answer}
use Rattle.refusals.specs.Exactly.{answer-refused-exactly, answer-short-exactly, answer-length-exactly}
use Rattle.sums.specs.Checksums.{plain_sum, position_sum}
use Rattle.block.specs.Block.{is_zero, used_count, right_count, right_padding, right_use, right_sums}
use Rattle.block.specs.File.{block_count, block_at, fault_at, contents_at, bundle_of, right_length, opened, Sound, sealed_file, sealed}
use Rattle.block.specs.BlockLaws.{right_count-most}
use Rattle.block.specs.OpenLaws.{contents-part, right_length-whole}
use Rattle.block.specs.SealLaws.{blocks_for-is, length-sealed_file}
use Rattle.block.specs.RoundTrip.{opened-sealed, sealed-opened, sealed-small}
use Rattle.block.specs.Causes.{fault_at-none, fault_at-number, fault_at_use, fault_at-sums, right_length_wrong, LowestFault, opened-length-exactly, opened-refuses, opened-fault-exactly, opened_gives, sealed-length-exactly, sealed-refuses, sealed_gives}
use Rattle.demands.specs.Opening.{WholeBlocks, byte_of, field_of, UseKept, SumsKept, BlockKept, contents_of, LowestFaulty, WrongNumber, WrongUse, WrongSums, OpenExactly, sealed_size, SealExactly}

-- ---- The bytes of a block

module _ (file : List ℕ) (k : ℕ) where
  block-byte : (i : ℕ) → i < 512 → get_or (block_at file k) i 0 ≡ byte_of file k i
  unfolding block_at
  block-byte i h = get_or-take 512 (drop (512 * k) file) i 0 h ∙ get_or-drop (512 * k) file i 0

  block-field : (i : ℕ) → i + 1 < 512 → number_at (block_at file k) i ≡ field_of file k i
  unfolding number_at
  block-field i h = ap₂ (λ (x y : ℕ). x + 256 * y) (block-byte i (omega arith)) (block-byte (i + 1) h)

  -- the two sums, of any weights
  block-sum : (w : ℕ → ℕ) → 508 ≤ length (block_at file k) → weighted w (take 508 (block_at file k)) ≡ sum 508 (λ i. w i * byte_of file k i)
  block-sum w long =
      let front : List ℕ = take 508 (block_at file k) in
      weighted-sum w front
      ∙ ap (λ (n : ℕ). sum n (λ i. w i * get_or front i 0)) (length-take-le 508 (block_at file k) long)
      ∙ sum_same 508 _ _ (λ i h. ap (λ (x : ℕ). w i * x) (get_or-take 508 (block_at file k) i 0 h ∙ block-byte i (omega arith)))

module _ (file : List ℕ) (blocks : ℕ) (whole : WholeBlocks file blocks) where
  count : block_count file ≡ blocks
  unfolding block_count
  count = omega (arith, whole.size)

  module _ (k : ℕ) (within : k < blocks) where
    abbrev b : List ℕ
    b = block_at file k

    abbrev used : ℕ
    used = field_of file k 2

    size : length b ≡ 512
    unfolding block_at
    size = simp (length-take, length-drop) (omega (arith, whole.size))

    used-is : used_count b ≡ used
    unfolding used_count
    used-is = block-field file k 2 (omega arith)

    sum_S : plain_sum (take 508 b) ≡ sum 508 (λ i. byte_of file k i) % 65521
    unfolding plain_sum
    sum_S = ap (λ (n : ℕ). n % 65521) (block-sum file k (λ i. 1) (omega (arith, size)) ∙ sum_same 508 _ _ (λ i h. one-mul (byte_of file k i)))

    sum_W : position_sum (take 508 b) ≡ sum 508 (λ i. (i + 1) * byte_of file k i) % 65521
    unfolding position_sum
    sum_W = ap (λ (n : ℕ). n % 65521) (block-sum file k (λ i. i + 1) (omega (arith, size)))

    -- the used count
    Counted : Type 0
    Counted = (k + 1 < blocks → used ≡ 504) × (k + 1 ≡ blocks → (1 ≤ used) × (used ≤ 504))

    counted-exactly : (right_count (eqb (k + 1) blocks) used ≡ true) ↔ Counted
    unfolding right_count Counted
    counted-exactly = let next : k + 1 ≤ blocks = omega arith in ⊎_elim
        (λ e. rw (eq-eqb (k + 1) blocks e) (
          (λ q. (
            (λ less. absurd (omega arith)),
            (λ _. (
              leb-true 1 used (and_left (leb 1 used) (leb used 504) q),
              leb-true used 504
                  (and_right (leb 1 used) (leb used 504) q),
            )),
          )),
          (λ c. let r = c.1 e in rw (le-leb 1 used r.0, le-leb used 504 r.1)),
        ))
        (λ less. rw (ne_eqb (k + 1) blocks (λ e. omega arith)) (
          (λ q. ((λ _. eqb-true used 504 q), (λ e. absurd (omega arith)))),
          (λ c. eq-eqb used 504 (c.0 less)),
        ))
        (eq-or-lt_of_le next)

    -- the unused contents
    Unused : Type 0
    Unused = (i : ℕ) → used ≤ i → i < 504 → byte_of file k (4 + i) ≡ 0

    unused-exactly : used ≤ 504 → (all is_zero (take (504 - used) (drop (4 + used) b)) ≡ true) ↔ Unused
    unfolding Unused
    unused-exactly most = (
      to,
      λ none. (all-exactly is_zero 0 part).1
          (λ j h. rw (at j (omega (arith, h, long))) (eq-eqb _ 0 (back none j (omega (arith, h, long))))),
    )
      where
        part : List ℕ
        part = take (504 - used) (drop (4 + used) b)

        long : length part ≡ 504 - used
        long = simp (length-take, length-drop) (omega (arith, size))

        at : (j : ℕ) → j < 504 - used → get_or part j 0 ≡ byte_of file k (4 + used + j)
        at j h = get_or-take (504 - used) (drop (4 + used) b) j 0 h ∙ get_or-drop (4 + used) b j 0 ∙ block-byte file k (4 + used + j) (omega arith)

        back : ((i : ℕ) → used ≤ i → i < 504 → byte_of file k (4 + i) ≡ 0) → (j : ℕ) → j < 504 - used → byte_of file k (4 + used + j) ≡ 0
        back none j h = let there : 4 + used + j ≡ 4 + (used + j) = omega arith in ap (byte_of file k) there
            ∙ none (used + j) (omega arith) (omega arith)

        to : all is_zero part ≡ true → (i : ℕ) → used ≤ i → i < 504 → byte_of file k (4 + i) ≡ 0
        to e i from h =
            let there : 4 + used + (i - used) ≡ 4 + i = omega arith in
            ap (byte_of file k) (sym there) ∙ sym (at (i - used) (omega arith))
            ∙ eqb-true _ 0 ((all-exactly is_zero 0 part).0 e (i - used) (omega (arith, long)))

    -- the used count and the unused contents
    use_exactly : (right_use (eqb (k + 1) blocks) b ≡ true) ↔ UseKept file blocks k
    unfolding Counted Unused right_use right_padding
    use_exactly = (
      (λ e.
          let counted = and_left (right_count (eqb (k + 1) blocks) (used_count b)) _ e in
          let c = counted-exactly.0 (subst (λ (u : ℕ). right_count (eqb (k + 1) blocks) u ≡ true) used-is counted) in
          let most : used ≤ 504 = subst (λ (u : ℕ). u ≤ 504) used-is (right_count-most _ _ counted) in
          record {
            full = c.0;
            last = c.1;
            unused = (unused-exactly most).0 (subst (λ (u : ℕ). all is_zero (take (504 - u) (drop (4 + u) b)) ≡ true) used-is
                (and_right (right_count (eqb (k + 1) blocks) (used_count b)) _ e));
          }),
      (λ r.
          let c : right_count (eqb (k + 1) blocks) used ≡ true = counted-exactly.1 (r.full, r.last) in
          rw (used-is, c) ((unused-exactly (right_count-most _ _ c)).1 r.unused)),
    )

    -- the sums
    sums-exactly : (right_sums b ≡ true) ↔ SumsKept file k
    unfolding right_sums
    sums-exactly = (
      (λ e. record {
        plain = sym (block-field file k 508 (omega arith)) ∙ eqb-true _ _ (and_left _ _ e) ∙ sum_S;
        weighted = sym (block-field file k 510 (omega arith)) ∙ eqb-true _ _ (and_right (eqb (number_at b 508) (plain_sum (take 508 b))) _ e) ∙ sum_W;
      }),
      (λ r. rw (
        eq-eqb _ _ (block-field file k 508 (omega arith) ∙ r.plain ∙ sym sum_S),
        eq-eqb _ _ (block-field file k 510 (omega arith) ∙ r.weighted ∙ sym sum_W),
      )),
    )

    -- the number
    numbered-exactly : (number_at b 0 ≡ k) ↔ (field_of file k 0 ≡ k)
    numbered-exactly = let same = block-field file k 0 (omega arith) in ((λ e. sym same ∙ e), (λ e. same ∙ e))

    -- a block keeps the rules exactly when it has no fault
    pub kept-exactly : (fault_at file k ≡ 0) ↔ BlockKept file blocks k
    kept-exactly = Iff.trans (fault_at-none file k) (rw count (
      (λ (n, c, s). record { number = numbered-exactly.0 n; contents = use_exactly.0 c; sums = sums-exactly.0 s }),
      (λ r. (numbered-exactly.1 r.number, use_exactly.1 r.contents, sums-exactly.1 r.sums)),
    ))

    -- and a fault's number says which rule is the first that it breaks
    number-exactly : (fault_at file k ≡ block_number_number) ↔ WrongNumber file k
    number-exactly = Iff.trans (fault_at-number file k) ((λ other e. other (numbered-exactly.1 e)), (λ other e. other (numbered-exactly.0 e)))

    wrong_use_exactly : (fault_at file k ≡ block_use_number) ↔ WrongUse file blocks k
    wrong_use_exactly = Iff.trans (fault_at_use file k) (rw count (
        let fails = fails-exactly _ use_exactly in
        ((λ (n, e). (numbered-exactly.0 n, fails.0 e)), (λ (n, other). (numbered-exactly.1 n, fails.1 other)))
        ))

    wrong_sums_exactly : (fault_at file k ≡ block_sums_number) ↔ WrongSums file blocks k
    wrong_sums_exactly = Iff.trans (fault_at-sums file k) (rw count (
        let fails = fails-exactly _ sums-exactly in (
          (λ (n, c, e). (numbered-exactly.0 n, use_exactly.0 c, fails.0 e)),
          (λ (n, c, other). (numbered-exactly.1 n, use_exactly.1 c, fails.1 other)),
        )
        ))

  -- the lowest block with a fault of a number
  lowest-exactly : (number : ℕ) (Fault : ℕ → Type 0) → ((k : ℕ) → k < blocks → (fault_at file k ≡ number) ↔ Fault k) → (k : ℕ)
      → LowestFault file number k ↔ LowestFaulty file blocks k (Fault k)
  lowest-exactly number Fault faulty k = rw count (
    (λ (within, here, lower). record {
      within = within;
      here = (faulty k within).0 here;
      lower = λ j less. (kept-exactly j (omega arith)).0 (lower j less);
    }),
    (λ l. (
      l.within,
      (faulty k l.within).1 l.here,
      λ j less. (kept-exactly j (omega (arith, l.within))).1 (l.lower j less),
    )),
  )

-- ---- Open

pub whole-exactly : (file : List ℕ) → (right_length (length file) ≡ true) ↔ ((blocks : ℕ) × WholeBlocks file blocks)
unfolding right_length
whole-exactly file = (
  (λ e. let w = right_length-whole (length file) e in (
    length file / 512,
    record {
      size = w.1;
      some = omega (arith, w.0, w.1);
      most = omega
          (arith, w.1, w.2);
    },
  )),
  (λ (blocks, w). rw (
    le-leb 1 (length file) (omega (arith, w.size, w.some)),
    eq-eqb (length file % 512) 0 (omega (arith, w.size)),
    le-leb
        (length file) 65536 (omega (arith, w.size, w.most)),
  )),
)

-- the contents of a block and the bundle, by the bytes of the file
module _ (file : List ℕ) (blocks : ℕ) (whole : WholeBlocks file blocks) (none : (k : ℕ) → k < blocks → fault_at file k ≡ 0) where
  sound-is : Sound file
  sound-is = let same = count file blocks whole in record {
    whole = rw same whole.size;
    some = rw same whole.some;
    most = rw same whole.most;
    each = rw same none;
  }

  pub contents-is : (k : ℕ) → k < blocks → contents_at file k ≡ contents_of file k
  contents-is k h =
      sym (contents-part file sound-is k (rw (count file blocks whole) h))
      ∙ ap (λ (u : ℕ). take u (drop (512 * k + 4) file)) (used-is file blocks whole k h)

  bundle-is : bundle_of file ≡ joined (contents_of file) blocks
  unfolding bundle_of
  bundle-is = rw (count file blocks whole) (joined_same (contents_at file) (contents_of file) blocks contents-is)

bundle-exactly : (file b : List ℕ) → (opened file ≡ value b)
    ↔ ((blocks : ℕ) × WholeBlocks file blocks × ((k : ℕ) → k < blocks → BlockKept file blocks k) × (b ≡ joined (contents_of file) blocks))
bundle-exactly file b = Iff.trans ((opened_gives file).line b) (to, from)
  where
    to : (right_length (length file) ≡ true) × ((k : ℕ) → k < block_count file → fault_at file k ≡ 0) × (b ≡ bundle_of file)
        → (blocks : ℕ) × WholeBlocks file blocks × ((k : ℕ) → k < blocks → BlockKept file blocks k) × (b ≡ joined (contents_of file) blocks)
    to (e, none, is) =
        let w = (whole-exactly file).0 e in
        let none' : (k : ℕ) → k < w.0 → fault_at file k ≡ 0 = rw (count file w.0 w.1) at none in
        (w.0, w.1, (λ k h. (kept-exactly file w.0 w.1 k h).0 (none' k h)), is ∙ bundle-is file w.0 w.1 none')

    from : (blocks : ℕ) × WholeBlocks file blocks × ((k : ℕ) → k < blocks → BlockKept file blocks k) × (b ≡ joined (contents_of file) blocks)
        → (right_length (length file) ≡ true) × ((k : ℕ) → k < block_count file → fault_at file k ≡ 0) × (b ≡ bundle_of file)
    from (blocks, w, kept, is) =
        let none : (k : ℕ) → k < blocks → fault_at file k ≡ 0 = λ k h. (kept-exactly file blocks w k h).1 (kept k h) in
        ((whole-exactly file).1 (blocks, w), rw (count file blocks w) none, is ∙ sym (bundle-is file blocks w none))

-- a line of a fault's number, whatever the fault
fault-line : (file : List ℕ) (room number : ℕ) (Fault : ℕ → ℕ → Type 0) → (number ≡ 0 → ⊥) → (1 ≡ number → ⊥) → (number ≡ 3 → ⊥)
    → ((blocks : ℕ) → WholeBlocks file blocks → (k : ℕ) → k < blocks → (fault_at file k ≡ number) ↔ Fault blocks k)
    → (spot : ℕ) → (answer (opened file) room ≡ Err (refusal number spot))
    ↔ ((blocks : ℕ) × WholeBlocks file blocks × LowestFaulty file blocks spot (Fault blocks spot))
fault-line file room number Fault some other short faulty spot =
    Iff.trans (answer-refused-exactly (opened file) room (opened-fault-exactly file number some other) short spot) (
      (λ (e, l).
          let (blocks, w) = (whole-exactly file).0 e in
          (blocks, w, (lowest-exactly file blocks w number (Fault blocks) (faulty blocks w) spot).0 l)),
      (λ (blocks, w, l). ((whole-exactly file).1 (blocks, w), (lowest-exactly file blocks w number (Fault blocks) (faulty blocks w) spot).1 l)),
    )

pub open_exactly : (file : List ℕ) (room : ℕ) → OpenExactly file room
unfolding any
open_exactly file room = record {
  file-length = λ spot. Iff.trans (answer-refused-exactly (opened file) room (opened-length-exactly file) (λ e. omega (arith, e)) spot)
      ((λ (at, e). (at, (right_length_wrong (length file)).0 e)), (λ (at, c). (at, (right_length_wrong (length file)).1 c)));
  block-number = fault-line file room 17 (λ blocks k. WrongNumber file k) (λ e. omega (arith, e)) (λ e. omega (arith, e)) (λ e. omega (arith, e))
      (number-exactly file);
  block_use = fault-line file room 18 (λ blocks k. WrongUse file blocks k) (λ e. omega (arith, e)) (λ e. omega (arith, e))
      (λ e. omega (arith, e)) (wrong_use_exactly file);
  block-sums = fault-line file room 2 (λ blocks k. WrongSums file blocks k) (λ e. omega (arith, e)) (λ e. omega (arith, e)) (λ e. omega (arith, e))
      (wrong_sums_exactly file);
  output_short = answer-short-exactly (opened file) room (opened-refuses file) refl;
  result = answer-length-exactly (opened file) room;
  bundle = bundle-exactly file;
}

-- ---- Seal

-- a bundle that is sealed has the right size, and its file is so long
pub sealed-size : (b file : List ℕ) → (sealed b ≡ value file) → (1 ≤ length b) × (length b ≤ 64512) × (length file ≡ sealed_size (length b))
sealed-size b file e =
    let (right, is) = ((sealed_gives b).line file).0 e in
    let bounds = right_size-bounds (length b) right in
    (bounds.0, bounds.1, ap length is ∙ length-sealed_file b ∙ ap (λ (k : ℕ). 512 * k) (blocks_for-is (length b)))

right-sealed : (b : List ℕ) → 1 ≤ length b → length b ≤ 64512 → (file : List ℕ) × (sealed b ≡ value file) × (length file ≡ sealed_size (length b))
right-sealed b some most =
    let is = ((sealed_gives b).line (sealed_file b)).1 (right_size_intro (length b) some most, refl) in
    (sealed_file b, is, (sealed-size b (sealed_file b) is).2)

pub seal_exactly : (b : List ℕ) (room : ℕ) → SealExactly b room
unfolding any
seal_exactly b room = record {
  bundle-length = λ spot. Iff.trans (answer-refused-exactly (sealed b) room (sealed-length-exactly b) (λ e. omega (arith, e)) spot)
      ((λ (at, e). (at, (right_size_wrong (length b)).0 e)), (λ (at, c). (at, (right_size_wrong (length b)).1 c)));
  output_short = λ spot. Iff.trans (answer-short-exactly (sealed b) room (sealed-refuses b) refl spot) (
    (λ (file, is, at, short). let s = sealed-size b file is in (s.0, s.1, at ∙ s.2, subst (λ (k : ℕ). room < k) s.2 short)),
    (λ (some, most, at, short). let f = right-sealed b some most in (f.0, f.1, at ∙ sym f.2, subst (λ (k : ℕ). room < k) (sym f.2) short)),
  );
  result = λ n. Iff.trans (answer-length-exactly (sealed b) room n) (
    (λ (file, is, size, fits). let s = sealed-size b file is in (s.0, s.1, size ∙ s.2, subst (λ (k : ℕ). k ≤ room) s.2 fits)),
    (λ (some, most, size, fits). let f = right-sealed b some most in (f.0, f.1, size ∙ sym f.2, subst (λ (k : ℕ). k ≤ room) (sym f.2) fits)),
  );
  file = λ bytes f. (
    (λ e. (subst Bytes (sym (((sealed_gives b).line f).0 e).1) (sealed-small b bytes), opened-sealed b f e)),
    (λ (small, e). sealed-opened f b small e),
  );
}
