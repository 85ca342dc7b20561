-- The token game of Badouel and Schlachter, section 2.1, in their terms, with equation (1); it permits exactly the words that `permits` does.
-- A place is their vector (M₀(p); •p; p•): `initial`, `produced` is •p, the tokens that an event puts there, `consumed` is p•. The events E
-- are the numbers below n.
use Rattle.std.specs.Prelude.{◌≡◌, refl, ◌↔◌, ℕ, ◌+◌, ◌-◌, ◌≤◌, T, ℤ, ◌+ℤ◌, ◌-ℤ◌, ◌≤ℤ◌}
use Rattle.std.proofs.Math.Path.{sym, ap}
use Rattle.std.proofs.Common.{◌∙◌}
use mathlib.Core.List.{[], ◌∷◌, ◌++◌, foldl, foldl-append, append-nil, Memᴰ}
use Rattle.std.proofs.Math.IntN.{pos}
use Rattle.std.proofs.Math.Seq.{append_snoc}
use Rattle.laws.specs.Every.{Each, each_snoc}
use Rattle.nets.specs.Nets.{Word, Place, Net, Step, counts, tokens, place_permits}
use Rattle.nets.specs.Fits.{Below}
use Rattle.nets.specs.Markings.{moved, tokens_none, tokens_snoc}

-- ---- 2.1: nets, markings, the language of a net

-- a Petri net is its set of places, finite or not
abbrev pub Places : Type 1
Places = Place → Type 0

-- of a net that is a list
abbrev pub places_of : Net → Places
places_of net p = Memᴰ p net

-- a set of words
abbrev pub Language : Type 1
Language = Word → Type 0

-- an extended marking, in ℤ^P: negative entries are admitted
abbrev pub ExtendedMarking : Type 0
ExtendedMarking = Place → ℤ

-- M₀
abbrev pub initially : ExtendedMarking
initially p = pos p.initial

-- M • e, point (2): (M • e)(p) = M(p) − p•(e) + •p(e)
unfoldable pub after : ExtendedMarking → ℕ → ExtendedMarking
after M e p = M p -ℤ pos (p.consumed e) +ℤ pos (p.produced e)

-- M • w
abbrev pub after_word : ExtendedMarking → Word → ExtendedMarking
after_word M w = foldl after M w

-- M[e⟩, point (2): M(p) ≥ p•(e) for every place p
abbrev pub Enabled : Places → ExtendedMarking → ℕ → Type 0
Enabled N M e = (p : Place) → N p → pos (p.consumed e) ≤ℤ M p

-- M[w⟩: each event e of w is enabled at M • u, where u has the events before it
abbrev pub Fires : Places → ExtendedMarking → Word → Type 0
Fires N M w = Each (λ u e. Enabled N (after_word M u) e) w

-- L(N), the words over E with M₀[w⟩
abbrev pub language_of : ℕ → Places → Language
language_of n N w = Below n w × Fires N initially w

-- points (1) and (3) of the action: M • ε = M, M • (w·e) = (M • w) • e
pub after-empty : (M : ExtendedMarking) → after_word M [] ≡ M
after-empty M = refl

pub after_snoc : (M : ExtendedMarking) (w : Word) (e : ℕ) → after_word M (w ++ e ∷ []) ≡ after (after_word M w) e
after_snoc M w e = foldl-append after M w (e ∷ [])

-- points (1) and (3) of the relation: M[ε⟩ always holds, M[w·e⟩ exactly when M[w⟩ and (M • w)[e⟩
pub fires_empty : (N : Places) (M : ExtendedMarking) → Fires N M []
fires_empty N M = tt

pub fires_snoc : (N : Places) (M : ExtendedMarking) (w : Word) (e : ℕ) → Fires N M (w ++ e ∷ []) ↔ (Fires N M w × Enabled N (after_word M w) e)
fires_snoc N M w e = each_snoc (λ u x. Enabled N (after_word M u) x) w e

-- ---- Equation (1)

module _ (n : ℕ) where
  marking_from : (p : Place) (w u : Word) (M : ExtendedMarking) → M p ≡ tokens n p (counts n u) → Below n w
      → after_word M w p ≡ tokens n p (counts n (u ++ w))
  unfolding after
  marking_from p [] u M is below = is ∙ ap (λ (x : Word). tokens n p (counts n x)) (sym (append-nil u))
  marking_from p (e ∷ w) u M is below =
      marking_from p w (u ++ e ∷ []) (after M e) one_more (λ x m. below x (Memᴰ.tail m))
      ∙ ap (λ (x : Word). tokens n p (counts n x)) (append_snoc u e w)
    where
      one_more : M p -ℤ pos (p.consumed e) +ℤ pos (p.produced e) ≡ tokens n p (counts n (u ++ e ∷ []))
      one_more =
          ap (λ (z : ℤ). moved p z e) is ∙ sym (tokens_snoc n p u e (below e (Memᴰ.head refl)))

  -- (M₀ • w)(p) = M₀(p) + Ψ(w)(•p − p•): by definition `tokens` is the right side, and `counts n w` the Parikh vector Ψ(w)
  pub equation_1 : (w : Word) → Below n w → (p : Place) → after_word initially w p ≡ tokens n p (counts n w)
  equation_1 w below p = marking_from p w [] initially (sym (tokens_none n p)) below

  -- so M₀ • w enables e exactly when every place permits e after the counts of w
  abbrev pub PlacesPermit : Places → Step → Type 0
  PlacesPermit N s = (p : Place) → N p → T (place_permits n p s)

-- ---- The transition relation, between markings with natural numbers

-- a marking: so many tokens in each place
abbrev pub Marking : Type 0
Marking = Place → ℕ

-- M₀
abbrev pub initial_tokens : Marking
initial_tokens p = p.initial

-- M[e⟩M' on the places of N: every place holds what e takes, and M' is M − p•(e) + •p(e)
pub record Transition (N : Places) (M : Marking) (e : ℕ) (M' : Marking) : Type 0 where
  pub enabled : (p : Place) → N p → p.consumed e ≤ M p
  pub next : (p : Place) → N p → M' p ≡ M p - p.consumed e + p.produced e

-- M[w⟩M'
abbrev pub Run : Places → Marking → Word → Marking → Type 0
Run N M [] M' = (p : Place) → N p → M' p ≡ M p
Run N M (e ∷ w) M' = (M'' : Marking) × Transition N M e M'' × Run N M'' w M'

-- where it ends counts on the places of N only
pub run_end : (N : Places) (w : Word) (M M' M'' : Marking) → ((p : Place) → N p → M'' p ≡ M' p) → Run N M w M' → Run N M w M''
run_end N [] M M' M'' same r = λ p m. same p m ∙ r p m
run_end N (e ∷ w) M M' M'' same r = (r.0, r.1, run_end N w r.0 M' M'' same r.2)

module _ (n : ℕ) (N : Places) where
  -- M is the marking after the events of u, by equation (1)
  abbrev pub Reached : Marking → Word → Type 0
  Reached M u = (p : Place) → N p → pos (M p) ≡ tokens n p (counts n u)
