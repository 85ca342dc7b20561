-- A place with tokens added. The theorems on the shortfall are in proofs/Shortfall.antt.
use Prim.Native.Nat.{ℕ, ◌+◌}
use Rattle.nets.specs.Nets.{Place}

-- a place with t tokens more at first
abbrev pub with_tokens : Place → ℕ → Place
with_tokens p t = record { initial = p.initial + t; produced = p.produced; consumed = p.consumed }
