-- Places that fit a log: a net permits every word of a log exactly when each of its places permits every allowed step.
use Rattle.std.specs.Prelude.{◌↔◌, ℕ, T}
use Rattle.std.proofs.Common.{sym}
use mathlib.Core.List.Memᴰ
use mathlib.Core.List.{◌∷◌, [], ◌++◌, Memᴰ}
use Rattle.laws.specs.Lists.{all, all-member, all_intro}
use Rattle.nets.specs.Nets.{Log, Net, Step, place_permits, net_permits, allowed, allowed_steps, fits}
use Rattle.nets.specs.Words.{prefix-shorter, PermitsLog, allowed→, steps-permit}
use Rattle.nets.proofs.Rows.{→row, →continuation, allowed_step→, →allowed_step}
use Rattle.nets.specs.Fits.{below_snoc, LogBelow, prefix-below, net-fits}

-- the list of allowed steps has every allowed step
pub allowed-listed : (n : ℕ) (log : Log) → LogBelow n log → (s : Step) → T (allowed n log s) → Memᴰ s (allowed_steps n log)
allowed-listed n log below s t =
    let f = allowed→ n log s t in
    →allowed_step n log s
    (→continuation n log s
    (Memᴰ.cast (sym f.1) (→row n log f.0 (prefix-shorter log f.0 (s.event ∷ []) f.2)))
    ((below_snoc n f.0 s.event).0 (prefix-below n log below (f.0 ++ s.event ∷ []) f.2)).1)
    t

-- a net permits all words of a log exactly when each of its places fits
pub permits-fits : (n : ℕ) (net : Net) (log : Log) → LogBelow n log → T (all (fits n log) net) ↔ PermitsLog n net log
unfolding fits net_permits
permits-fits n net log below = (to, from)
  where
    to : T (all (fits n log) net) → PermitsLog n net log
    to t = steps-permit n net log (λ s a. all_intro (λ p. place_permits n p s) net (λ p m.
        all-member (place_permits n p) (allowed_steps n log) (all-member (fits n log) net t m) (allowed-listed n log below s a)))

    from : PermitsLog n net log → T (all (fits n log) net)
    from h = all_intro (fits n log) net (λ p m. all_intro (place_permits n p) (allowed_steps n log) (λ s k.
        net-fits n net log h p m s (allowed_step→ n log s k).1))
