-- Places that fit a log, and words over the events below n.
use Rattle.std.specs.Prelude.{refl, ◌↔◌, ℕ, ◌<◌, T}
use Rattle.std.proofs.Common.{sym, subst, ⊎_elim}
use mathlib.Core.List.Memᴰ
use mathlib.Core.List.{◌∷◌, [], ◌++◌, Memᴰ}
use Rattle.laws.specs.Lists.{all-member}
use Rattle.nets.specs.Nets.{Word, Log, Net, Place, Step, place_permits, net_permits, allowed}
use Rattle.nets.specs.Words.{Prefix, prefix→, PermitsLog, permits-allowed}

-- every event of a word, and of every word of a log, is below n
abbrev pub Below : ℕ → Word → Type 0
Below n w = (e : ℕ) → Memᴰ e w → e < n

module _ (n : ℕ) where
  pub below-empty : Below n []
  below-empty e m = absurd (Memᴰ.not-nil m)

  pub below-shorter : (u s : Word) → Below n (u ++ s) → Below n u
  below-shorter u s below e m = below e (Memᴰ.append_left s m)

  -- one event more, behind the word or in front of it
  pub below_snoc : (u : Word) (e : ℕ) → Below n (u ++ e ∷ []) ↔ (Below n u × (e < n))
  below_snoc u e = (
    (λ below. (below-shorter u (e ∷ []) below, below e (Memᴰ.append_right u (Memᴰ.head refl)))),
    λ h x m. ⊎_elim (h.0 x) (λ k. subst (λ (y : ℕ). y < n) (sym (Memᴰ.eq_of_singleton k)) h.1) (Memᴰ.append_cases u m),
  )

  pub below_cons : (e : ℕ) (w : Word) → e < n → Below n w → Below n (e ∷ w)
  below_cons e w low below x (Memᴰ.head q) = subst (λ (y : ℕ). y < n) (sym q) low
  below_cons e w low below x (Memᴰ.tail m) = below x m

abbrev pub LogBelow : ℕ → Log → Type 0
LogBelow n log = (w : Word) → Memᴰ w log → Below n w

pub prefix-below : (n : ℕ) (log : Log) → LogBelow n log → (u : Word) → Prefix log u → Below n u
prefix-below n log below u m e k = ⊎_elim
    (λ q. absurd (Memᴰ.not-nil (subst (λ (x : Word). Memᴰ e x) q k)))
    (λ r. below r.0 r.1 e (subst (λ (x : Word). Memᴰ e x) r.2.1 (Memᴰ.append_left r.2.0 k)))
    (prefix→ log u m)

-- a place permits every step that the log allows
abbrev pub Fits : ℕ → Log → Place → Type 0
Fits n log p = (s : Step) → T (allowed n log s) → T (place_permits n p s)

-- each place of a net that permits all words of a log
pub net-fits : (n : ℕ) (net : Net) (log : Log) → PermitsLog n net log → (p : Place) → Memᴰ p net → Fits n log p
unfolding net_permits
net-fits n net log h p m s t = all-member (λ q. place_permits n q s) net (permits-allowed n net log h s t) m
