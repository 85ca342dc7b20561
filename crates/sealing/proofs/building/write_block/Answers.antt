-- `sealing::building::write_block` meets its contract: the sums are of the bytes that were written, and stand behind them.
use Rattle.std.proofs.Common.{◌≡◌, refl, ap, ◌∙◌, List, [], ◌++◌, ℕ, ◌+◌, ◌-◌, ◌≤◌, length, take, drop, replicate, arith, append-nil, length-append, length-take, length-drop}
use Rattle.std.proofs.Math.ListN.{drop_of_length-le}
use Rattle.std.proofs.lemmas.List.{length-replicate}
use borrow.Rule.Slice.PartMut.{put_mid, mid_of}
use Rattle.laws.specs.Parts.{front, spliced, spliced-front, part-spliced, length-spliced}
use Rattle.laws.specs.Numbers.{le16}
use Rattle.sums.specs.Checksums.{plain_sum, position_sum}
use Rattle.block.specs.Block.{summed_bytes, with_sums, block}
use Rattle.block.specs.BlockLaws.{length-summed_bytes, written-summed, written-sums}
use Rattle.sealing.proofs.Pieces.{put}
use Rattle.sealing.proofs.building.write_block.Goals as goal

module _ (number : ℕ) (contents l : List ℕ) (most : length contents ≤ 504) (size : length l ≡ 512) where
  abbrev used : ℕ
  used = length contents

  -- the fields in front of the contents, then the contents
  abbrev fronted : List ℕ
  fronted = spliced 4 contents (spliced 2 (le16 used) (spliced 0 (le16 number) l))

  length-fronted : length fronted ≡ 512
  length-fronted =
      let first = length-spliced 0 (le16 number) l (omega (arith, size)) in
      let second = length-spliced 2 (le16 used) (spliced 0 (le16 number) l) (omega (arith, first, size)) in
      omega (arith, length-spliced 4 contents (spliced 2 (le16 used) (spliced 0 (le16 number) l)) (omega (arith, first, second, size)), first, second, size)

  -- then zeros: the bytes that the sums are of
  summed : (zeros : List ℕ) → zeros ≡ replicate (length (mid_of (4 + used) (508 - (4 + used)) fronted)) 0
      → put_mid (4 + used) (508 - (4 + used)) fronted zeros ≡ spliced 0 (summed_bytes number contents) l
  summed zeros e =
      let count : length (mid_of (4 + used) (508 - (4 + used)) fronted) ≡ 504 - used = simp (length-take, length-drop) (omega (arith, length-fronted)) in
      let filled : zeros ≡ replicate (504 - used) 0 = e ∙ ap (λ (n : ℕ). replicate n 0) count in
      put (4 + used) (508 - (4 + used)) fronted zeros (omega (arith, ap length filled, length-replicate {A = ℕ} (504 - used) 0))
      ∙ rw filled (written-summed 0 number contents l most (omega (arith, size)))

  -- and the sums behind them
  whole : (p q : ℕ) → p ≡ plain_sum (summed_bytes number contents) → q ≡ position_sum (summed_bytes number contents)
      → spliced 510 (le16 q) (spliced 508 (le16 p) (spliced 0 (summed_bytes number contents) l)) ≡ block number contents
  unfolding block with_sums front
  whole p q ep eq =
      let body = summed_bytes number contents in
      let long = length-summed_bytes number contents most in
      let all : length (body ++ (le16 p ++ le16 q)) ≡ 512 = omega (arith, length-append body (le16 p ++ le16 q), long) in
      let none : drop (length (body ++ (le16 p ++ le16 q))) l ≡ [] = drop_of_length-le l (omega (arith, all, size)) in
      written-sums 0 p q body l long (omega arith)
      ∙ spliced-front _ l
      ∙ rw (none, ep, eq) (append-nil _)

pub returns : goal.returns
returns c =
    let a = c.args in
    let l = a.output.now in
    let body = summed_bytes a.number a.contents.now in
    let before : c.write_at.new.output ≡ fronted a.number a.contents.now l c.requires.1 c.requires.0
    = rw (c.write_at.ensures, c.write_number-2.ensures, c.write_number.ensures) refl in
    let written = rw (← before) at (summed a.number a.contents.now l c.requires.1 c.requires.0 c.fill.new.self (rw before at (c.fill.ensures.after (λ y e. e)))) in
    let chunk = rw c.unwrap.ensures at c.first_chunk.ensures.cases in
    let read : c.unwrap.result.now ≡ body = chunk.same ∙ ap (take 508) written ∙ part-spliced 0 508 body l (length-summed_bytes a.number a.contents.now c.requires.1) (omega arith) in
    rw (c.write_number-4.ensures, c.write_number-3.ensures, written)
    (whole a.number a.contents.now l c.requires.1 c.requires.0 _ _ (c.into.ensures ∙ c.sums_of-sums.ensures.0 ∙ ap plain_sum read) (c.into-2.ensures ∙ c.sums_of-sums.ensures.1 ∙ ap position_sum read))
