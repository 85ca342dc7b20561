-- The chunks that the library cuts a list into.
use Rattle.std.proofs.Common.{◌≡◌, refl, ap, ◌∙◌, List, ℕ, zero, suc, ◌+◌, ◌*◌, ◌<◌, length, take, drop, get_or, mul-zero, arith}
use Rattle.std.proofs.Math.Seq.{drop-drop}
use Rattle.std.specs.Simd.{first_chunks}

-- one among the first k, each of n elements
pub chunk : {A : Type 0} → (n k : ℕ) (l : List A) (i : ℕ) (d : List A) → i < k → get_or (first_chunks n k l) i d ≡ take n (drop (n * i) l)
chunk n zero l i d h = absurd (omega arith)
chunk n (suc k) l zero d h = rw mul-zero refl
chunk n (suc k) l (suc i) d h =
    let next : n + n * i ≡ n * suc i = omega arith in
    chunk n k (drop n l) i d (omega arith) ∙ ap (take n) (drop-drop (n * i) n l ∙ ap (λ (m : ℕ). drop m l) next)

pub length-chunks : {A : Type 0} → (n k : ℕ) (l : List A) → length (first_chunks n k l) ≡ k
length-chunks n zero l = refl
length-chunks n (suc k) l = ap suc (length-chunks n k (drop n l))
