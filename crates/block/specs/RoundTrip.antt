-- Sealing and opening undo each other.
use Rattle.std.specs.Prelude.{◌≡◌, true, List, ◌++◌, ℕ, ◌+◌, ◌-◌, ◌*◌, ◌%◌, ◌≤◌, ◌<◌, min, length, drop, replicate, eqb, Ok}
use Rattle.std.proofs.Math.Path.{sym, ap}
use Rattle.std.proofs.Common.{◌∙◌, subst, ⊎_elim, eq-or-lt_of_le, length-drop}
use native.Mathlib.Omega.{arith}
use Rattle.std.proofs.Math.ListN.{take}
use Rattle.std.proofs.Math.Seq.{take_all}
use borrow.Author.Tests.{eqb-false, eq-eqb, le-leb}
use Rattle.laws.specs.Parts.{front, take_min}
use Rattle.laws.specs.Pieces.{joined_same, joined-parts, part-joined}
use Rattle.laws.specs.Numbers.{Bytes, bytes_take, bytes_drop, bytes-append, bytes-joined, bytes-zeros, le16, bytes-le16}
use Rattle.limits.specs.Limits.{max_file_size, max_bundle_size, right_size-bounds, right_size_intro}
use Rattle.refusals.specs.Results.{Result, value}
use Rattle.refusals.specs.Answers.{refusal, answer, written}
use Rattle.refusals.specs.Laws.{Ends}
use Rattle.refusals.proofs.Laws.{ends-written, answer-taken}
use Rattle.sums.specs.Checksums.{plain_sum, position_sum}
use Rattle.block.specs.Block.{padded, summed_bytes, with_sums, block, right_count, used_count, used_contents}
use Rattle.block.specs.File.{block_count, block_at, fault_at, first_fault, contents_at, bundle_of, right_length, opened, Sound, part_at, sealed_block_at, blocks_for, sealed_file, sealed}
use Rattle.block.specs.BlockLaws.{right_count-some, right_count_intro, block-contents, block-sound, block_unique}
use Rattle.block.specs.OpenLaws.{length-block_at, keeps, used-most, used-full, length-contents_at, length_before, length-bundle, first_fault-none, opened-bundle, opened→, opened-sound}
use Rattle.block.specs.SealLaws.{length-part_at, length-sealed_block_at, length_blocks_before, length-sealed_file, sealed-file, sealed→}

-- ---- Opening what sealing wrote

module _ (bundle : List ℕ) (some : 1 ≤ length bundle) (most : length bundle ≤ max_bundle_size) where
  count-sealed : block_count (sealed_file bundle) ≡ blocks_for (length bundle)
  unfolding block_count
  count-sealed = omega (arith, length-sealed_file bundle)

  fits-sealed : right_length (length (sealed_file bundle)) ≡ true
  unfolding right_length blocks_for
  fits-sealed =
      let size = length-sealed_file bundle in
      rw (le-leb 1 (length (sealed_file bundle)) (omega arith), eq-eqb (length (sealed_file bundle) % 512) 0 (omega arith), le-leb (length (sealed_file bundle)) max_file_size (omega arith))

  block_at-sealed : (k : ℕ) → k < blocks_for (length bundle) → block_at (sealed_file bundle) k ≡ sealed_block_at bundle k
  unfolding block_at sealed_file
  block_at-sealed k h =
      rw (length-sealed_block_at bundle k) at (part-joined (sealed_block_at bundle) (blocks_for (length bundle)) k (512 * k) h (length_blocks_before bundle k))

  counted-part : (k : ℕ) → k < blocks_for (length bundle) → right_count (eqb (k + 1) (blocks_for (length bundle))) (length (part_at bundle k)) ≡ true
  unfolding blocks_for
  counted-part k h =
      let size = length-part_at bundle k in
      right_count_intro _ _ (omega arith) (omega arith) (λ e. let inner = eqb-false (k + 1) (blocks_for (length bundle)) e in omega arith)

  number_small : (k : ℕ) → k < blocks_for (length bundle) → k < 65536
  unfolding blocks_for
  number_small k h = omega arith

  fault_at-sealed : (k : ℕ) → k < blocks_for (length bundle) → fault_at (sealed_file bundle) k ≡ 0
  unfolding fault_at sealed_block_at
  fault_at-sealed k h =
      rw (count-sealed, block_at-sealed k h)
      (block-sound k (part_at bundle k) (number_small k h) (omega (arith, length-part_at bundle k)) _ (counted-part k h))

  -- a block of the sealed file holds its part of the bundle
  pub contents_at-sealed : (k : ℕ) → k < blocks_for (length bundle) → contents_at (sealed_file bundle) k ≡ part_at bundle k
  unfolding contents_at sealed_block_at
  contents_at-sealed k h =
      rw (block_at-sealed k h) (block-contents k (part_at bundle k) (number_small k h) (omega (arith, length-part_at bundle k)))

  bundle-sealed : bundle_of (sealed_file bundle) ≡ bundle
  unfolding bundle_of part_at blocks_for
  bundle-sealed =
      rw count-sealed
      (joined_same (contents_at (sealed_file bundle)) (part_at bundle) (blocks_for (length bundle)) contents_at-sealed
      ∙ joined-parts bundle 504 (blocks_for (length bundle))
      ∙ take_all (504 * blocks_for (length bundle)) bundle (omega arith))

  none-sealed : first_fault (sealed_file bundle) ≡ refusal 0 (block_count (sealed_file bundle))
  none-sealed = first_fault-none (sealed_file bundle) (λ k h. fault_at-sealed k (omega (arith, count-sealed)))

  opened-sealed_file : opened (sealed_file bundle) ≡ value bundle
  opened-sealed_file = opened-bundle (sealed_file bundle) fits-sealed (rw none-sealed) ∙ ap value bundle-sealed

-- opening what sealing gave gives the bundle back
pub opened-sealed : (bundle file : List ℕ) → sealed bundle ≡ value file → opened file ≡ value bundle
opened-sealed bundle file e =
    let s = sealed→ bundle file e in
    let size = right_size-bounds (length bundle) s.0 in
    ap opened (sym s.1) ∙ opened-sealed_file bundle size.0 size.1

-- ---- Sealing what opening gave

-- a file that opens: its blocks keep the rules, and the bundle is theirs
pub opened-bytes : (file bundle : List ℕ) → opened file ≡ value bundle → Sound file × (bundle_of file ≡ bundle)
opened-bytes file bundle e = let o = opened→ file bundle e in (opened-sound file o.0 o.1, o.2)

module _ (file : List ℕ) (sound : Sound file) where
  -- the last block's used count
  used-last : (1 ≤ used_count (block_at file (block_count file - 1))) × (used_count (block_at file (block_count file - 1)) ≤ 504)
  used-last =
      let k : ℕ = block_count file - 1 in
      let here : k < block_count file = omega arith in
      (right_count-some _ _ (keeps file sound k here).counted, used-most file sound k here)

  blocks_for-bundle : blocks_for (length (bundle_of file)) ≡ block_count file
  unfolding blocks_for
  blocks_for-bundle = omega (arith, used-last, length-bundle file sound)

  -- block k holds 504 bytes of the bundle, and the last what is left
  length_part : (k : ℕ) → k < block_count file → min 504 (length (drop (504 * k) (bundle_of file))) ≡ length (contents_at file k)
  length_part k h =
      let whole = length-bundle file sound in
      let rest = length-drop (504 * k) (bundle_of file) in
      let here = length-contents_at file sound k h in
      ⊎_elim
      (λ e. let last : k ≡ block_count file - 1 = omega (arith, e) in omega (arith, used-last, ap (λ (j : ℕ). used_count (block_at file j)) last))
      (λ l. let full = used-full file sound k (omega (arith, l)) in omega (arith, used-last, l))
      (eq-or-lt_of_le h)

  part_at-bundle : (k : ℕ) → k < block_count file → part_at (bundle_of file) k ≡ contents_at file k
  unfolding part_at bundle_of
  part_at-bundle k h =
      sym (take_min 504 (drop (504 * k) (bundle_of file)))
      ∙ ap (λ (n : ℕ). take n (drop (504 * k) (bundle_of file))) (length_part k h)
      ∙ part-joined (contents_at file) (block_count file) k (504 * k) h (length_before file sound k h)

module _ (file : List ℕ) (sound : Sound file) (small : Bytes file) where
  bytes-block : (k : ℕ) → Bytes (block_at file k)
  unfolding block_at
  bytes-block k = bytes_take 512 (drop (512 * k) file) (bytes_drop (512 * k) file small)

  sealed_block_at-bundle : (k : ℕ) → k < block_count file → sealed_block_at (bundle_of file) k ≡ block_at file k
  unfolding sealed_block_at contents_at
  sealed_block_at-bundle k h =
      rw (part_at-bundle file sound k h)
      (block_unique _ k (block_at file k) (length-block_at file sound k h) (bytes-block k) (keeps file sound k h))

  sealed_file-bundle : sealed_file (bundle_of file) ≡ file
  unfolding sealed_file block_at
  sealed_file-bundle =
      rw (blocks_for-bundle file sound)
      (joined_same (sealed_block_at (bundle_of file)) (block_at file) (block_count file) sealed_block_at-bundle
      ∙ joined-parts file 512 (block_count file)
      ∙ take_all (512 * block_count file) file (omega arith))

-- opening gives 1 to 64,512 bytes
pub opened-size : (file bundle : List ℕ) → opened file ≡ value bundle → (1 ≤ length bundle) × (length bundle ≤ max_bundle_size)
opened-size file bundle e =
    let o = opened-bytes file bundle e in
    (omega (arith, used-last file o.0, length-bundle file o.0, ap length o.1), omega (arith, used-last file o.0, length-bundle file o.0, ap length o.1))

-- sealing what opening gave gives the file back
pub sealed-opened : (file bundle : List ℕ) → Bytes file → opened file ≡ value bundle → sealed bundle ≡ value file
sealed-opened file bundle small e =
    let o = opened-bytes file bundle e in
    let size = opened-size file bundle e in
    sealed-file bundle (right_size_intro (length bundle) size.0 size.1) ∙ ap value (ap sealed_file (sym o.1) ∙ sealed_file-bundle file o.0 small)

-- the bundle of a file of bytes has bytes
pub opened-small : (file bundle : List ℕ) → Bytes file → opened file ≡ value bundle → Bytes bundle
unfolding bundle_of contents_at used_contents block_at
opened-small file bundle small e =
    subst Bytes (opened-bytes file bundle e).1
    (bytes-joined (contents_at file) (block_count file) (λ k. bytes_take (used_count (block_at file k)) (drop 4 (block_at file k)) (bytes_drop 4 (block_at file k) (bytes_take 512 (drop (512 * k) file) (bytes_drop (512 * k) file small)))))

-- and so has the file of a bundle of bytes
block-small : (number : ℕ) (contents : List ℕ) → Bytes contents → Bytes (block number contents)
unfolding block with_sums summed_bytes padded
block-small number contents small =
    let rest : List ℕ = le16 (length contents) ++ padded contents in
    let summed : List ℕ = le16 number ++ rest in
    bytes-append summed (le16 (plain_sum summed) ++ le16 (position_sum summed))
    (bytes-append (le16 number) rest (bytes-le16 number) (bytes-append (le16 (length contents)) (padded contents) (bytes-le16 (length contents)) (bytes-append contents (replicate (504 - length contents) 0) small (bytes-zeros (504 - length contents)))))
    (bytes-append (le16 (plain_sum summed)) (le16 (position_sum summed)) (bytes-le16 (plain_sum summed)) (bytes-le16 (position_sum summed)))

pub sealed-small : (bundle : List ℕ) → Bytes bundle → Bytes (sealed_file bundle)
unfolding sealed_file sealed_block_at part_at
sealed-small bundle small = bytes-joined (sealed_block_at bundle) (blocks_for (length bundle)) (λ k. block-small k (part_at bundle k) (bytes_take 504 (drop (504 * k) bundle) (bytes_drop (504 * k) bundle small)))

-- ---- As a caller sees it

-- two calls of which the second undoes the first: what the first wrote to a long enough output, the second takes back to where it came from
undone : (f g : List ℕ → Result (List ℕ)) (x : List ℕ) → ((y : List ℕ) → f x ≡ value y → g y ≡ value x)
    → (first second : List ℕ) (n : ℕ) → answer (f x) (length first) ≡ Ok n → length x ≤ length second
    → Ends (g (take n (written (f x) first))) second (Ok (length x)) (front x second)
undone f g x back first second n e room = ends-written _ second x (back _ (answer-taken (f x) first n e)) room

-- a bundle of 1 to 64,512 bytes is sealed into a long enough output
pub seals : (bundle output : List ℕ) → 1 ≤ length bundle → length bundle ≤ max_bundle_size → 512 * blocks_for (length bundle) ≤ length output
    → answer (sealed bundle) (length output) ≡ Ok (512 * blocks_for (length bundle))
seals bundle output some most room =
    let size = length-sealed_file bundle in
    let ends = ends-written (sealed bundle) output (sealed_file bundle) (sealed-file bundle (right_size_intro (length bundle) some most)) (omega (arith, size)) in
    sym ends.0 ∙ ap Ok size

-- a bundle sealed into one output, and the file opened into another
pub seal_then_open : (bundle first second : List ℕ) (n : ℕ) → answer (sealed bundle) (length first) ≡ Ok n → length bundle ≤ length second
    → Ends (opened (take n (written (sealed bundle) first))) second (Ok (length bundle)) (front bundle second)
seal_then_open bundle = undone sealed opened bundle (opened-sealed bundle)

-- a file opened into one output, and the bundle sealed into another
pub open_then_seal : (file first second : List ℕ) (n : ℕ) → Bytes file → answer (opened file) (length first) ≡ Ok n → length file ≤ length second
    → Ends (sealed (take n (written (opened file) first))) second (Ok (length file)) (front file second)
open_then_seal file first second n small = undone opened sealed file (λ y. sealed-opened file y small) first second n
