-- What the comparison of two accepted bundles (demand 3) is stated with. Its theorems are in proofs/Comparison.antt.
use Rattle.std.specs.Prelude.{◌≡◌, ℕ}
use mathlib.Core.List.{List}
use Rattle.std.proofs.Math.Dec.{T}
use Rattle.nets.specs.Nets.{Word, Log, Entry, Net, words, completed_words, wrong_continuations}
use Rattle.nets.specs.Bundle.{Certificate, Bundle, solves_all, accepted}
use Rattle.nets.specs.Acceptance.{accepted-parts}
use Rattle.nets.specs.Words.{PermitsLog, Obeys, Prefix}
use Rattle.nets.specs.Entries.{Completed}

-- each prefix of the first log is one of the second
abbrev pub PrefixesIn : Log → Log → Type 0
PrefixesIn log₁ log₂ = (u : Word) → Prefix log₁ u → Prefix log₂ u

-- each completed word of the first log is a completed word of the second
abbrev pub CompletedIn : List Entry → List Entry → Type 0
CompletedIn entries₁ entries₂ = (w : Word) → Completed entries₁ w → Completed entries₂ w

-- the premise of the comparison: two logs over as many events, each prefix of the first one of the second, and each completed word completed there
pub record Contained (n₁ : ℕ) (entries₁ : List Entry) (n₂ : ℕ) (entries₂ : List Entry) : Type 0 where
  pub events : n₁ ≡ n₂
  pub prefixes : PrefixesIn (words entries₁) (words entries₂)
  pub completed : CompletedIn entries₁ entries₂

-- ---- one accepted bundle

-- the entries of a log, a net and certificates over the events below n, with what acceptance asks
pub record Judged (n : ℕ) : Type 0 where
  pub entries : List Entry
  pub net : Net
  pub certificates : List Certificate
  pub permitted : PermitsLog n net (words entries)
  pub obeyed : Obeys n net (completed_words entries)
  pub solved : T (solves_all n entries net (wrong_continuations n (words entries)) certificates)

-- ---- the comparison, for bundles

unfoldable pub judged : (b : Bundle) (n : ℕ) → n ≡ b.events → T (accepted b) → Judged n
judged b n q t = record {
  entries = b.entries;
  net = b.net;
  certificates = b.certificates;
  permitted = rw q ((accepted-parts b).0 t).permitted;
  obeyed = rw q ((accepted-parts b).0 t).obeyed;
  solved = rw q ((accepted-parts b).0 t).solved;
}
