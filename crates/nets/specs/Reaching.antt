-- The words of a net that lead to a wanted event: played event by event, in their order. Their laws are in proofs/Reaching.antt.
use Rattle.std.specs.Prelude.{Option, ℕ, zero, suc}
use mathlib.Core.List.{List, [], ◌∷◌, map, flat_map}
use Rattle.laws.specs.Firsts.{first_of}
use Rattle.laws.specs.Lists.{tabulate}
use Rattle.nets.specs.Nets.{Word, Net}
use Rattle.nets.specs.Carrying.{initials, Played, moved, lacking, play}

-- what follows an event that moves the tokens; nothing follows one that a place refuses
unfoldable pub where_moved : {A : Type 0} → Played → (List ℕ → List A) → List A
where_moved (moved us) f = f us
where_moved (lacking j k) f = []

module _ (n : ℕ) (net : Net) (wanted : ℕ) where
  -- the words of d events that the net permits from the tokens ts on, and the wanted event behind them; in the order of event numbers
  unfoldable pub leading : ℕ → List ℕ → List Word
  leading zero ts = where_moved (play net ts wanted) (λ us. [] ∷ [])
  leading (suc d) ts = flat_map (λ e. where_moved (play net ts e) (λ us. map (λ w. e ∷ w) (leading d us))) (tabulate n (λ e. e))

  -- those of fewer than k events from the start, the shortest first
  unfoldable pub all_leading : ℕ → List Word
  all_leading k = flat_map (λ d. leading d (initials net)) (tabulate k (λ d. d))

-- the first of them: a shortest word that leads there, and of the shortest ones the first
unfoldable pub reached : ℕ → Net → ℕ → ℕ → Option Word
reached n net wanted k = first_of (all_leading n net wanted k)
