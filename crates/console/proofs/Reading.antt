-- What one read more puts into the buffer.
use Rattle.std.proofs.Common.{ℕ, ◌+◌, ◌≤◌, ◌≡◌, List, ◌++◌, length, take, sym, ap, ◌∙◌, subst, length-take-le}
use Rattle.std.proofs.lemmas.List.{take-append-le}
use Rattle.std.proofs.Math.Seq.{take-append-add}
use Rattle.std.specs.declared.option.Option.{Option}
use Rattle.std.specs.Io.KnownBytes.{Consumes}
use Rattle.std.proofs.KnownBytes.{Consumes-trans}
use borrow.Rule.Slice.PartMut.{put_mid, post_of}

-- n bytes in front and the first k of those behind them
front-more : (n k r : ℕ) (old new : List ℕ) → n ≤ length old → k ≤ length new → take (n + k) (put_mid n r old new) ≡ take n old ++ take k new
front-more n k r old new fits more =
    ap (λ (m : ℕ). take (m + k) (put_mid n r old new)) (sym (length-take-le n old fits))
    ∙ take-append-add (take n old) (new ++ post_of n r old) k
    ∙ ap (λ (l : List ℕ). take n old ++ l) (take-append-le k new (post_of n r old) more)

-- what came before and what came now are the beginning of the input
pub read_more : (had mid left : Option (List ℕ)) (n k r : ℕ) (old new : List ℕ) → n ≤ length old → k ≤ length new
    → Consumes had mid (take n old) → Consumes mid left (take k new) → Consumes had left (take (n + k) (put_mid n r old new))
read_more had mid left n k r old new fits more before now =
    subst (Consumes had left) (sym (front-more n k r old new fits more)) (Consumes-trans had mid left _ _ before now)
