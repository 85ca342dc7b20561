-- Words over n events, by position: the first event that is not below n.
use Rattle.std.specs.Prelude.{◌≡◌, true, false, ◌↔◌, [], ◌∷◌, ℕ, suc, ◌≤◌, ◌<◌, ltb, length, get_or}
use Rattle.std.proofs.Common.{sym, subst, suc-le-suc, arith, ltb-true, ltb-false, lt-ltb, le-ltb}
use mathlib.Core.List.Memᴰ
use Rattle.laws.specs.Lists.{all}
use Rattle.laws.specs.Scans.{first_failing, failing-none, failing-exactly, all-exactly}
use Rattle.nets.specs.Nets.{Word}
use Rattle.nets.specs.Fits.{Below}

-- the position of the first event that is not below n, or the word's length
unfoldable pub first_bad : ℕ → Word → ℕ
first_bad n w = first_failing (λ e. ltb e n) w

-- every event of a word is below n: `Below`, said by position
abbrev pub EventsBelow : ℕ → Word → Type 0
EventsBelow n w = (k : ℕ) → k < length w → get_or w k 0 < n

pub each_below : (n : ℕ) (w : Word) → EventsBelow n w → Below n w
each_below n [] h e x'' = elim x'' [ ]
each_below n (a ∷ w) h e (Memᴰ.head q) = subst (λ (x : ℕ). x < n) (sym q) (h 0 (omega arith))
each_below n (a ∷ w) h e (Memᴰ.tail m) = each_below n w (λ k l. h (suc k) (suc-le-suc l)) e m

-- where no event is bad, all are below n
pub none_bad : (n : ℕ) (w : Word) → length w ≤ first_bad n w → EventsBelow n w
unfolding first_bad
none_bad n w h k l = ltb-true _ _ (failing-none (λ e. ltb e n) 0 w h k l)

pub below-exactly : (n : ℕ) (w : Word) → (all (λ e. ltb e n) w ≡ true) ↔ EventsBelow n w
below-exactly n w =
    let law = all-exactly (λ e. ltb e n) 0 w in
    ((λ e k h. ltb-true _ _ (law.0 e k h)), (λ below. law.1 (λ k h. lt-ltb _ _ (below k h))))

-- position k has the first event that is not below n
abbrev pub FirstBad : ℕ → Word → ℕ → Type 0
FirstBad n w k = (k < length w) × (n ≤ get_or w k 0) × ((i : ℕ) → i < k → get_or w i 0 < n)

-- and the first bad one, exactly
pub bad_exactly : (n : ℕ) (w : Word) (k : ℕ) → ((k ≡ first_bad n w) × (all (λ e. ltb e n) w ≡ false)) ↔ FirstBad n w k
unfolding first_bad
bad_exactly n w k =
    let law = failing-exactly (λ e. ltb e n) 0 w k in (
      (λ c. let r = law.0 c in (r.0, ltb-false _ _ r.1, λ i h. ltb-true _ _ (r.2 i h))),
      (λ (within, here, lower). law.1 (within, le-ltb _ _ here, λ i h. lt-ltb _ _ (lower i h))),
    )
