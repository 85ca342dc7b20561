-- A place written into a column of a table, as laws of the definitions in Columns.
use Rattle.std.specs.Prelude.{◌≡◌, List, [], ℕ, ◌+◌, ◌≤◌, ◌<◌, ℤ, pos, ◌-ℤ◌, length, get_or, set}
use Rattle.std.proofs.Common.{sym, ap, ◌∙◌, subst, arith, get_or-set_same, get_or-set_other}
use Rattle.std.proofs.Math.ListN.{get_or-map}
use Rattle.std.proofs.Math.Seq.{map-set_same}
use Rattle.laws.specs.Differences.{less_none}
use Rattle.laws.specs.Lists.{each_set}
use Rattle.limits.specs.Limits.{max_events}
use Rattle.nets.specs.Nets.{Place}
use Rattle.replays.specs.declared.Changes.{Changes}
use Rattle.replays.specs.Columns.{from_event, change, Column, Beside, Changed}

-- what element k has in common with the one that is written there, each element has in common with the one that it was
set-keeps : {A B : Type 0} (f : A → B) (l : List A) (k i : ℕ) (x d : A) → f x ≡ f (get_or l k d) → f (get_or (set l k x) i d) ≡ f (get_or l i d)
set-keeps f l k i x d same = sym (get_or-map f (set l k x) i d) ∙ ap (λ m. get_or m i (f d)) (map-set_same f l k x d same) ∙ get_or-map f l i d

-- ---- The changes from one event

-- r is r₀ but for the changes in column j to the events below e
pub record Changing (r₀ r : Changes) (j x : ℕ) (consumed : ℕ → ℕ) (e : ℕ) : Type 0 where
  pub changes : (b : ℕ) → b < e → change r b j ≡ pos x -ℤ pos (consumed b)
  pub others : (b k : ℕ) → (k ≡ j → ⊥) → change r b k ≡ change r₀ b k

-- r with the change z to event e in column j
abbrev written : Changes → ℕ → ℕ → ℤ → Changes
written r e j z = record { to = set r.to e (set (get_or r.to e []) j z) }

module _ {r₀ : Changes} {j x : ℕ} {consumed : ℕ → ℕ} where
  pub changing_next : {r : Changes} {e : ℕ} {z : ℤ} → e < length r.to → j < length (get_or r.to e []) → z ≡ pos x -ℤ pos (consumed e)
      → Changing r₀ r j x consumed e → Changing r₀ (written r e j z) j x consumed (e + 1)
  changing_next {r} {e} {z} here there is c = record {
    changes = each_set [] (λ (b : ℕ) (l : List ℤ). get_or l j (pos 0) ≡ pos x -ℤ pos (consumed b)) r.to e _ here c.changes
        (get_or-set_same (get_or r.to e []) j z (pos 0) there ∙ is);
    others = λ b k ne. set-keeps (λ (l : List ℤ). get_or l k (pos 0)) r.to e b _ [] (get_or-set_other (get_or r.to e []) j k z (pos 0) ne) ∙ c.others b k ne;
  }

  -- the change to the event that takes nothing, written last
  pub changed : {r : Changes} {e : ℕ} {z : ℤ} → e ≡ max_events → max_events < length r.to → j < length (get_or r.to max_events []) → z ≡ pos x
      → consumed max_events ≡ 0 → Changing r₀ r j x consumed e → Changed r₀ (written r max_events j z) j x consumed
  changed {r} {e} {z} end here there is none c =
      let value : z ≡ pos x -ℤ pos (consumed max_events) = is ∙ sym (less_none (pos x) none) in
      let last = changing_next here there value (subst (Changing r₀ r j x consumed) end c) in
      record { changes = λ b h. last.changes b (omega arith); others = last.others }

-- ---- The changes from each event

-- m is m₀ but for column j, which has the changes of a place from the events below e
pub record Storing (m₀ m : List Changes) (j : ℕ) (p : Place) (e : ℕ) : Type 0 where
  pub changes : (a b : ℕ) → a < e → b ≤ max_events → change (from_event m a) b j ≡ pos (p.produced a) -ℤ pos (p.consumed b)
  pub beside : Beside m₀ m j

module _ {m₀ : List Changes} {j : ℕ} {p : Place} where
  -- the changes r from event e
  pub storing_next : {m : List Changes} {r : Changes} {e : ℕ} → e < length m → Changed (from_event m e) r j (p.produced e) p.consumed
      → Storing m₀ m j p e → Storing m₀ (set m e r) j p (e + 1)
  storing_next {m} {r} {e} here c s = record {
    changes = λ a b ha hb.
        each_set (record { to = [] }) (λ (a : ℕ) (q : Changes). change q b j ≡ pos (p.produced a) -ℤ pos (p.consumed b)) m e r here (λ a h. s.changes a b h hb)
        (c.changes b hb) a ha;
    beside = λ a b k ne. set-keeps (λ (q : Changes). change q b k) m e a r (record { to = [] }) (c.others b k ne) ∙ s.beside a b k ne;
  }

  -- those from the event that puts nothing there, written last
  pub stored : {m : List Changes} {r : Changes} {e : ℕ} → e ≡ max_events → max_events < length m → ((i : ℕ) → p.produced i < 65536)
      → ((i : ℕ) → p.consumed i < 65536) → (p.produced max_events ≡ 0) × (p.consumed max_events ≡ 0)
      → Changed (from_event m max_events) r j 0 p.consumed → Storing m₀ m j p e → Column p (set m max_events r) j × Beside m₀ (set m max_events r) j
  stored {m} {r} end here produced consumed still c s =
      let put = subst (λ (x : ℕ). Changed (from_event m max_events) r j x p.consumed) (sym still.0) c in
      let last = storing_next here put (subst (Storing m₀ m j p) end s) in
      (record { changes = λ a b ha hb. last.changes a b (omega arith) hb; still = still; produced = produced; consumed = consumed }, last.beside)
