-- A list rewritten: a piece for each element, by its index, one behind the other; and a loop that writes them.
use Rattle.std.specs.Prelude.{◌≡◌, Bool, ℕ, suc, ◌+◌, ◌≤◌, ◌<◌, length, take, get_or}
use Rattle.std.proofs.Math.Path.{refl, sym, ap}
use Rattle.std.proofs.Common.{ap₂, ◌∙◌, add-one, arith, length-append, take-suc, length-take-le}
use Rattle.std.proofs.Math.Bool.{true, false, cond}
use mathlib.Core.List.{List, [], ◌∷◌, ◌++◌, map, flat_map, append-nil, append_assoc}
use Rattle.laws.specs.Parts.{spliced, spliced-none, spliced-next}
use Rattle.laws.specs.Ranks.{keep_at}

module _ {A : Type 0} where
  -- the piece of each element, one behind the other
  unfoldable pub rewritten : (ℕ → A → List ℕ) → List A → List ℕ
  rewritten g [] = []
  rewritten g (x ∷ xs) = g 0 x ++ rewritten (λ i. g (suc i)) xs

  rewritten_snoc : (g : ℕ → A → List ℕ) (xs : List A) (y : A) → rewritten g (xs ++ y ∷ []) ≡ rewritten g xs ++ g (length xs) y
  unfolding rewritten
  rewritten_snoc g [] y = append-nil (g 0 y)
  rewritten_snoc g (x ∷ xs) y = ap (λ (l : List ℕ). g 0 x ++ l) (rewritten_snoc (λ i. g (suc i)) xs y) ∙ sym (append_assoc (g 0 x) (rewritten (λ i. g (suc i)) xs) (g (suc (length xs)) y))

  -- one element more
  pub rewritten-next : (g : ℕ → A → List ℕ) (xs : List A) (k : ℕ) (d : A) → k < length xs → rewritten g (take (k + 1) xs) ≡ rewritten g (take k xs) ++ g k (get_or xs k d)
  rewritten-next g xs k d h =
      ap (rewritten g) (rw (add-one k) (take-suc xs k d h))
      ∙ rewritten_snoc g (take k xs) (get_or xs k d)
      ∙ ap (λ (i : ℕ). rewritten g (take k xs) ++ g i (get_or xs k d)) (length-take-le k xs (omega arith))

  -- where each element is changed
  pub rewritten-map : {B : Type 0} (g : B → List ℕ) (f : A → B) (xs : List A) → rewritten (λ i x. g (f x)) xs ≡ flat_map g (map f xs)
  unfolding rewritten flat_map
  rewritten-map g f [] = refl
  rewritten-map g f (x ∷ xs) = ap (λ (l : List ℕ). g (f x) ++ l) (rewritten-map g f xs)

  -- where each is as its element says
  pub rewritten-each : (g : A → List ℕ) (xs : List A) → rewritten (λ i x. g x) xs ≡ flat_map g xs
  unfolding rewritten flat_map
  rewritten-each g [] = refl
  rewritten-each g (x ∷ xs) = ap (λ (l : List ℕ). g x ++ l) (rewritten-each g xs)

  -- where some are left out
  pub rewritten-kept : (g : A → List ℕ) (f : ℕ → Bool) (xs : List A) → rewritten (λ i x. cond (f i) (g x) []) xs ≡ flat_map g (keep_at f xs)
  unfolding rewritten flat_map keep_at
  rewritten-kept g f [] = refl
  rewritten-kept g f (x ∷ xs) = ap (λ (l : List ℕ). cond (f 0) (g x) [] ++ l) (rewritten-kept g (λ i. f (suc i)) xs) ∙ go (f 0)
    where
      go : (b : Bool) → cond b (g x) [] ++ flat_map g (keep_at (λ i. f (suc i)) xs) ≡ flat_map g (cond b (x ∷ keep_at (λ i. f (suc i)) xs) (keep_at (λ i. f (suc i)) xs))
      go true = refl
      go false = refl

-- the pieces of the first k elements are written to a list from `start` on, up to `at`
pub record PiecesWritten {A : Type 0} (g : ℕ → A → List ℕ) (xs : List A) (k start : ℕ) (output₀ output : List ℕ) (at : ℕ) : Type 0 where
  pub size : length output ≡ length output₀
  pub ends : at ≡ start + length (rewritten g (take k xs))
  pub is : output ≡ spliced start (rewritten g (take k xs)) output₀

module _ {A : Type 0} {g : ℕ → A → List ℕ} {xs : List A} {start : ℕ} {output₀ : List ℕ} where
  -- none at first
  pub pieces_start : PiecesWritten g xs 0 start output₀ output₀ start
  unfolding rewritten
  pieces_start = record { size = refl; ends = omega arith; is = sym (spliced-none start output₀) }

  -- one piece more, written behind them
  pub pieces_next : {k at : ℕ} {output : List ℕ} → PiecesWritten g xs k start output₀ output at → (d : A) → k < length xs → start ≤ length output₀
      → (piece after : List ℕ) (next : ℕ) → g k (get_or xs k d) ≡ piece → length after ≡ length output → next ≡ at + length piece → after ≡ spliced at piece output
      → PiecesWritten g xs (k + 1) start output₀ after next
  pieces_next {k} r d more inside piece after next is same ends written =
      let done = rewritten g (take k xs) in
      let longer : rewritten g (take (k + 1) xs) ≡ done ++ piece = rewritten-next g xs k d more ∙ ap (λ (l : List ℕ). done ++ l) is in
      record {
        size = same ∙ r.size;
        ends = omega (arith, ends, r.ends, ap length longer, length-append done piece);
        is = written ∙ ap₂ (λ (i : ℕ) (l : List ℕ). spliced i piece l) r.ends r.is ∙ spliced-next start done piece output₀ inside ∙ ap (λ (l : List ℕ). spliced start l output₀) (sym longer);
      }
