-- Pieces one behind the other, `flat_map g xs`: where the piece of an element stands, and one piece more; a value stored in `tabulate`.
use Rattle.std.specs.Prelude.{◌≡◌, refl, Bool, true, false, cond, ℕ, zero, suc, ◌+◌, ◌≤◌, ◌<◌, eqb, length, take, get_or, set}
use Rattle.std.proofs.Common.{sym, ap₂, ◌∙◌, true≢false, add-one, arith, eq-eqb, ne_eqb, eqb-true, length-append, take_at}
use Rattle.std.proofs.Math.Path.{ap}
use mathlib.Core.List.{List, [], ◌∷◌, ◌++◌, flat_map, append-nil, append_assoc}
use Rattle.std.proofs.Math.Nat.{suc_inj}
use Rattle.std.proofs.Math.ListN.{drop}
use Rattle.std.proofs.Math.Seq.{take-suc, split_at, drop-append_seam}
use Rattle.laws.specs.Lists.{tabulate, tabulate-same, flat_map-append}

module _ {A : Type 0} (g : A → List ℕ) (xs : List A) (i : ℕ) (d : A) (h : i < length xs) where
  -- the pieces before one, that one, and those behind it
  span_split : flat_map g xs ≡ flat_map g (take i xs) ++ (g (get_or xs i d) ++ flat_map g (drop (suc i) xs))
  unfolding flat_map
  span_split = ap (flat_map g) (split_at xs i d h) ∙ flat_map-append g (take i xs) (get_or xs i d ∷ drop (suc i) xs)

  -- one piece more
  pub span_next : flat_map g (take (i + 1) xs) ≡ flat_map g (take i xs) ++ g (get_or xs i d)
  unfolding flat_map
  span_next = rw (add-one i, take-suc xs i d h) (flat_map-append g (take i xs) (get_or xs i d ∷ []) ∙ ap (λ (l : List ℕ). flat_map g (take i xs) ++ l) (append-nil (g (get_or xs i d))))

  -- in a list where they stand between others
  pub span_at : (before rest b : List ℕ) → b ≡ before ++ (flat_map g xs ++ rest)
      → b ≡ (before ++ flat_map g (take i xs)) ++ (g (get_or xs i d) ++ (flat_map g (drop (suc i) xs) ++ rest))
  span_at before rest b is =
      is
      ∙ ap (λ (l : List ℕ). before ++ (l ++ rest)) span_split
      ∙ ap (λ (l : List ℕ). before ++ l) (append_assoc (flat_map g (take i xs)) (g (get_or xs i d) ++ flat_map g (drop (suc i) xs)) rest ∙ ap (λ (l : List ℕ). flat_map g (take i xs) ++ l) (append_assoc (g (get_or xs i d)) (flat_map g (drop (suc i) xs)) rest))
      ∙ sym (append_assoc before (flat_map g (take i xs)) (g (get_or xs i d) ++ (flat_map g (drop (suc i) xs) ++ rest)))

-- a part of a list, by what stands before it
pub part_at : (before piece rest b : List ℕ) (at n : ℕ) → b ≡ before ++ (piece ++ rest) → length before ≡ at → length piece ≡ n → take n (drop at b) ≡ piece
part_at before piece rest b at n is size long = rw (is, ← size, drop-append_seam) (take_at piece rest n long)

pub part-within : (before piece rest b : List ℕ) (at : ℕ) → b ≡ before ++ (piece ++ rest) → length before ≡ at → at + length piece ≤ length b
part-within before piece rest b at is size = omega (arith, ap length is, length-append before (piece ++ rest), length-append piece rest)

-- a number stored in a table of values
pub set-tabulate : {A : Type 0} (n : ℕ) (f : ℕ → A) (j : ℕ) (x : A) → set (tabulate n f) j x ≡ tabulate n (λ i. cond (eqb i j) x (f i))
unfolding tabulate
set-tabulate zero f j x = refl
set-tabulate (suc n) f zero x = ap₂ ◌∷◌ refl (tabulate-same n (λ i. f (suc i)) (λ i. cond (eqb (suc i) 0) x (f (suc i))) (λ i h. rw (ne_eqb (suc i) 0 (λ e. omega (arith, e)))))
set-tabulate {A} (suc n) f (suc j) x = ap₂ ◌∷◌
    (rw (ne_eqb 0 (suc j) (λ e. omega (arith, e))))
    (set-tabulate n (λ i. f (suc i)) j x ∙ tabulate-same n (λ i. cond (eqb i j) x (f (suc i))) (λ i. cond (eqb (suc i) (suc j)) x (f (suc i))) (λ i h. ap (λ (b : Bool). cond b x (f (suc i))) (sym (next i))))
  where
    next : (i : ℕ) → eqb (suc i) (suc j) ≡ eqb i j
    next i = go (eqb i j) refl
      where
        go : (b : Bool) → eqb i j ≡ b → eqb (suc i) (suc j) ≡ b
        go true e = eq-eqb (suc i) (suc j) (ap suc (eqb-true i j e))
        go false e = ne_eqb (suc i) (suc j) (λ same. true≢false (sym (eq-eqb i j (suc_inj same)) ∙ e))
