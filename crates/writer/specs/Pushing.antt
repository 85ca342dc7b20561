-- What is written to an output piece by piece, each behind those before it.
use Rattle.std.specs.Prelude.{◌≡◌, refl, ℕ, zero, suc, ◌+◌, ◌≤◌, ◌<◌, length, take, get_or}
use Rattle.std.proofs.Common.{sym, ap, ◌∙◌, arith, length-append}
use mathlib.Core.List.{List, [], ◌∷◌, ◌++◌}
use Rattle.laws.specs.Parts.{front, spliced, spliced-none, spliced-next, spliced-front}
use Rattle.laws.specs.Rewriting.{rewritten, rewritten-next}
use Rattle.writer.specs.declared.Writer.{Writer}

-- the output takes as many bytes more
abbrev pub HasRoom : Writer → List ℕ → Type 0
HasRoom writer bytes = writer.end + length bytes ≤ length writer.output.now

-- bytes were written to it, and nothing else
pub record Pushed (before after : Writer) (bytes : List ℕ) : Type 0 where
  pub output : after.output.now ≡ spliced before.end bytes before.output.now
  pub size : length after.output.now ≡ length before.output.now
  pub ends : after.end ≡ before.end + length bytes
  pub reference : after.output.ghost_name ≡ before.output.ghost_name

-- no bytes
pub pushed-none : (writer : Writer) → Pushed writer writer []
pushed-none writer = record { output = sym (spliced-none writer.end writer.output.now); size = refl; ends = omega arith; reference = refl }

-- bytes behind others
module _ {w₀ w₁ : Writer} {a : List ℕ} (first : Pushed w₀ w₁ a) (b : List ℕ) (room : HasRoom w₀ (a ++ b)) where
  pub room_behind : HasRoom w₁ b
  room_behind = omega (arith, first.ends, first.size, length-append a b)

  pub pushed-next : {w₂ : Writer} → Pushed w₁ w₂ b → Pushed w₀ w₂ (a ++ b)
  pushed-next second = record {
    output = second.output ∙ rw (first.output, first.ends) (spliced-next w₀.end a b w₀.output.now (omega arith));
    size = second.size ∙ first.size;
    ends = omega (arith, first.ends, second.ends, length-append a b);
    reference = second.reference ∙ first.reference;
  }

-- to the front of an output
pub pushed-front : {w₀ w₁ : Writer} {bytes : List ℕ} → Pushed w₀ w₁ bytes → w₀.end ≡ 0 → w₁.output.now ≡ front bytes w₀.output.now
pushed-front {w₀} {w₁} {bytes} p starts = p.output ∙ rw starts (spliced-front bytes w₀.output.now)

-- ---- a piece for each element of a list

module _ {A : Type 0} where
  rewritten-shorter : (g : ℕ → A → List ℕ) (xs : List A) (k : ℕ) → length (rewritten g (take k xs)) ≤ length (rewritten g xs)
  unfolding rewritten
  rewritten-shorter g [] zero = omega arith
  rewritten-shorter g [] (suc k) = omega arith
  rewritten-shorter g (x ∷ xs) zero = omega arith
  rewritten-shorter g (x ∷ xs) (suc k) = omega (
    arith,
    length-append (g 0 x) (rewritten (λ i. g (suc i)) (take k xs)),
    length-append (g 0 x) (rewritten (λ i. g (suc i)) xs),
    rewritten-shorter (λ i. g (suc i)) xs k,
  )

  module _ (g : ℕ → A → List ℕ) (xs : List A) (k : ℕ) {w₀ w₁ : Writer} (done : Pushed w₀ w₁ (rewritten g (take k xs))) (d : A) (more : k < length xs)
      (room : HasRoom w₀ (rewritten g xs)) (piece : List ℕ) (is : g k (get_or xs k d) ≡ piece) where
    longer : rewritten g (take (k + 1) xs) ≡ rewritten g (take k xs) ++ piece
    longer = rewritten-next g xs k d more ∙ ap (λ (l : List ℕ). rewritten g (take k xs) ++ l) is

    room-so_far : HasRoom w₀ (rewritten g (take k xs) ++ piece)
    room-so_far = rw (← longer) (omega (arith, rewritten-shorter g xs (k + 1)))

    pub piece-room : HasRoom w₁ piece
    piece-room = room_behind done piece room-so_far

    pub piece-pushed : {w₂ : Writer} → Pushed w₁ w₂ piece → Pushed w₀ w₂ (rewritten g (take (k + 1) xs))
    piece-pushed p = rw longer (pushed-next done piece room-so_far p)
