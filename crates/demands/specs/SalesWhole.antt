-- The page of request 11, proved: two files that meet the comparison's premise, and the whole.
use Rattle.std.specs.Prelude.{◌≡◌, ℕ, ◌≤◌, ◌<◌, length, get_or, Err, Ok}
use Rattle.std.proofs.Common.{sym, ap, ◌∙◌, arith, subst}
use mathlib.Core.List.{List, [], ◌∷◌, foldl}
use Rattle.laws.specs.Booleans.{impossible}
use Rattle.laws.specs.Lists.{get_d_member}
use Rattle.laws.specs.Numbers.{Bytes}
use Rattle.refusals.specs.declared.Refusal.{Refusal}
use Rattle.block.specs.RoundTrip.{opened-small}
use Rattle.nets.specs.Nets.{Word}
use Rattle.nets.specs.Fits.{Below, below-empty}
use Rattle.nets.specs.Words.{Prefix}
use Rattle.bundles.specs.Readers.{events_in, log_in}
use Rattle.verdicts.specs.Judging.{verdict}
use Rattle.verdicts.specs.declared.Tally.{Tally}
use Rattle.demands.specs.Demands.{LogContained}
use Rattle.demands.specs.Proved.{accepted-bundle}
use Rattle.demands.specs.Comparing.{prefix-length, prefix-events, prefix-permitted, word-readable}
use Rattle.demands.specs.Carrying.{place_count}
use Rattle.demands.specs.Replacing.{replace_answer, so_far, BothRead, ReplaceExactly}
use Rattle.demands.specs.ReplacingProved.{word-length, same_event, replace_exactly, call-of-replacing}
use Rattle.demands.specs.Sales.{Sale, Call, replace, replacement, next_sale, events_of, ReplacesSurely, Request11}
use Rattle.demands.specs.SalesProved.{refused-same, goes_on, anew}

-- ---- Two accepted bundles of which the new one's log contains the old one's, and events that are a prefix of the old log

module _ (old new : List ℕ) (bytes₁ : Bytes old) (bytes₂ : Bytes new) (size₁ size₂ : ℕ) (c₁ c₂ : Tally) (yes₁ : verdict size₁ old ≡ Ok c₁)
    (yes₂ : verdict size₂ new ≡ Ok c₂) (contained : LogContained old new) (ts kept : List ℕ) (number : ℕ)
    (prefix : Prefix (log_in old) (so_far kept number)) where
  abbrev u : Word
  u = so_far kept number

  abbrev exactly : ReplaceExactly old new ts kept number
  exactly = replace_exactly old new ts kept number

  below : number ≤ length kept → (i : ℕ) → i < number → get_or kept i 0 < events_in new
  below all i h =
      let there = subst (λ (n : ℕ). Below n u) contained.events (prefix-events old bytes₁ size₁ c₁ yes₁ u prefix) in
      subst (λ (x : ℕ). x < events_in new) (same_event old new ts kept number all i h)
      (there (get_or u i 0) (get_d_member u i 0 (omega (arith, h, word-length old new ts kept number all))))

  succeeds : number ≤ length kept → place_count new ≤ length ts → replace_answer old new ts kept number ≡ Ok tt
  succeeds all room =
      let read : BothRead old new kept number = record {
        few = omega (arith, prefix-length old bytes₁ size₁ c₁ yes₁ u prefix, word-length old new ts kept number all);
        all = all;
        first = word-readable old bytes₁ size₁ c₁ yes₁ [] (omega arith) (below-empty (events_in old));
        second = word-readable new bytes₂ size₂ c₂ yes₂ [] (omega arith) (below-empty (events_in new));
      } in
      exactly.result.1 (
        record { read = read; counts = contained.events; room = room; below = below all },
        prefix-permitted new bytes₂ size₂ c₂ yes₂ u (contained.prefixes u prefix),
      )

  pub replaces-surely : ReplacesSurely old new ts kept number
  replaces-surely = record {
    never_23 = λ spot e. let (x, first) = (exactly.stopped spot).0 e in impossible (cc (sym e ∙ succeeds x.read.all x.room));
    never_22 = λ spot e. let (at, read, differ) = (exactly.unequal spot).0 e in differ contained.events;
    never_15 = λ spot e.
        let (read, counts, room, there, bad, lower) = (exactly.no_event spot).0 e in
        let less = below read.all spot there in
        let never : ◌≡◌ {A = ℕ} 0 1 = omega (arith, bad, less) in
        impossible never;
    succeeds = succeeds;
  }

-- ---- The whole

untried : (s : Sale) (new : List ℕ) (r : Refusal) → replacement s new ≡ Err r → (calls : List Call)
    → (foldl next_sale s (replace new ∷ calls) ≡ foldl next_sale s calls) × (events_of s (replace new ∷ calls) ≡ events_of s calls)
unfolding events_of
untried s new r is calls =
    let same = refused-same s new r is in
    (ap (λ (x : Sale). foldl next_sale x calls) same, ap (λ (x : Sale). events_of x calls) same)

pub request_11 : Request11
request_11 = record {
  call = call-of-replacing;
  goes_on = λ b bytes ts kept granted calls all. goes_on b bytes ts kept granted calls all;
  replaced = λ b bytes ts kept granted calls all new small yes. anew b bytes ts kept granted calls all new small yes;
  never = λ file₁ file₂ output₁ output₂ table₁ table₂ old new c₁ c₂ small₁ small₂ first second contained ts kept number prefix.
      replaces-surely old new (opened-small file₁ old small₁ (accepted-bundle first)) (opened-small file₂ new small₂ (accepted-bundle second))
      (length table₁) (length table₂) c₁ c₂ first.accepted second.accepted contained ts kept number prefix;
  refused = refused-same;
  untried = untried;
}
