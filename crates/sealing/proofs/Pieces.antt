-- Pieces written and cut, as the library says it.
use Rattle.std.proofs.Common.{◌≡◌, refl, sym, ap, ◌∙◌, ⊎_elim, List, ◌++◌, ℕ, ◌+◌, ◌*◌, ◌≤◌, min, length, take, drop, arith, append_assoc, take_at, drop_at}
use Rattle.std.proofs.Math.ListN.{drop_of_length-le}
use Rattle.std.proofs.Math.Seq.{drop-drop}
use borrow.Rule.Slice.PartMut.{put_mid}
use Rattle.laws.specs.Booleans.{lt_or_le}
use Rattle.laws.specs.Parts.{spliced, take_min}
use Rattle.block.specs.File.{part_at}

-- a part that is written
pub put : (at k : ℕ) (l new : List ℕ) → length new ≡ k → put_mid at k l new ≡ spliced at new l
unfolding spliced
put at k l new size = rw (← size) (simp (drop-drop, append_assoc))

-- behind as many elements as there are
drop_min : (n : ℕ) (l : List ℕ) → drop (min n (length l)) l ≡ drop n l
drop_min n l = ⊎_elim
    (λ less. let is : min n (length l) ≡ n = omega arith in rw is)
    (λ most.
    let is : min n (length l) ≡ length l = omega arith in
    let all : length l ≤ length l = omega arith in
    rw (is, drop_of_length-le l {i = n} most, drop_of_length-le l {i = length l} all))
    (lt_or_le n (length l))

-- a piece that the library cuts off a bundle is the contents of a block
module _ (bundle part rest behind : List ℕ) (n size : ℕ) (cut : rest ≡ part ++ behind) (long : length part ≡ min size (length rest))
    (is : rest ≡ drop (504 * n) bundle) (whole : size ≡ 504) where
  pub part-is : part ≡ part_at bundle n
  unfolding part_at
  part-is =
      sym (take_at part behind (length part) refl)
      ∙ ap (take (length part)) (sym cut)
      ∙ ap (λ (k : ℕ). take k rest) long
      ∙ take_min size rest
      ∙ rw (whole, is) refl

  pub behind-is : behind ≡ drop (504 * (n + 1)) bundle
  behind-is =
      let next : 504 * n + 504 ≡ 504 * (n + 1) = omega arith in
      sym (drop_at part behind (length part) refl)
      ∙ ap (drop (length part)) (sym cut)
      ∙ ap (λ (k : ℕ). drop k rest) long
      ∙ drop_min size rest
      ∙ rw (whole, is, ← next) (drop-drop 504 (504 * n) bundle)
