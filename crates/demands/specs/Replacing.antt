-- REQUEST 11, the call: 'A fresh net may arrive while a sale is half done. Replacing is allowed between two events of the carried engine .. Replacing
-- takes both bundles, slice, buffer and number of events.'
-- Exactly when replacing answers what, and what it leaves of the slice, for any two bundles of bytes, any slice, any buffer and any number of events
-- so far. The buffer is lent to be read only. What replacing does to an open sale is said by Sales.antt.
use Rattle.std.specs.Prelude.{◌≡◌, true, ◌↔◌, ◌⊎◌, List, [], ◌∷◌, ℕ, ◌≤◌, ◌<◌, T, length, get_or, take, Err, Ok}
use Rattle.laws.specs.Lists.{among}
use Rattle.refusals.specs.Answers.{refusal, Answer, output_of}
use Rattle.refusals.specs.declared.Refusal.{Refusal}
use Rattle.nets.specs.Nets.{Word, permits}
use Rattle.nets.specs.Screening.{FirstRefused}
use Rattle.bundles.specs.Readers.{events_in, net_in}
use Rattle.screening.specs.Screening.{screened}
use Rattle.screening.specs.Screens.{Readable}
use Rattle.engine.specs.Engine.{replacing, replaced}
use Rattle.demands.specs.Carrying.{place_count}
use Rattle.demands.specs.Carried.{Marked}

-- what the call answers, and how it leaves the slice, by the definitions that its contract cites
abbrev pub replace_answer : List ℕ → List ℕ → List ℕ → List ℕ → ℕ → Answer (Unit {0})
replace_answer old new ts kept number = replaced (replacing old new ts kept number)

abbrev pub replace_leaves : List ℕ → List ℕ → List ℕ → List ℕ → ℕ → List ℕ
replace_leaves old new ts kept number = output_of (replacing old new ts kept number) ts

-- 'the events so far, in order, at the front of a lent byte buffer'
abbrev pub so_far : List ℕ → ℕ → Word
so_far kept number = take number kept

-- ---- 14, 3, the old bundle's 4, 6, 7, 8, the new one's, 22, 5, 15, 23

-- what was passed before the two bundles are compared
pub record BothRead (old new kept : List ℕ) (number : ℕ) : Type 0 where
  pub few : number ≤ 65535
  pub all : number ≤ length kept
  pub first : Readable old []
  pub second : Readable new []

-- what was passed before the new net is asked about the events so far
pub record Playable (old new ts kept : List ℕ) (number : ℕ) : Type 0 where
  pub read : BothRead old new kept number
  pub counts : events_in old ≡ events_in new
  pub room : place_count new ≤ length ts
  pub below : (i : ℕ) → i < number → get_or kept i 0 < events_in new

pub record ReplaceExactly (old new ts kept : List ℕ) (number : ℕ) : Type 0 where
  -- 'A number above 65,535 gets 14'
  pub many : (spot : ℕ) → (replace_answer old new ts kept number ≡ Err (refusal 14 spot)) ↔ ((spot ≡ 65535) × (65535 < number))
  -- 'a buffer shorter than it 3'
  pub cut : (spot : ℕ) → (replace_answer old new ts kept number ≡ Err (refusal 3 spot))
      ↔ ((spot ≡ number) × (number ≤ 65535) × (length kept < number))
  -- 'the old bundle's refusals, the new one's': those that screening the empty word with the bundle gets (ScreenExactly)
  pub own : (k : ℕ) → among k (4 ∷ 6 ∷ 7 ∷ 8 ∷ []) ≡ true → (spot : ℕ) → (replace_answer old new ts kept number ≡ Err (refusal k spot))
      ↔ ((number ≤ 65535) × (number ≤ length kept)
      × ((screened old [] ≡ Err (refusal k spot)) ⊎ (Readable old [] × (screened new [] ≡ Err (refusal k spot)))))
  -- '22 when event counts aren't the same, spot 0'
  pub unequal : (spot : ℕ) → (replace_answer old new ts kept number ≡ Err (refusal 22 spot))
      ↔ ((spot ≡ 0) × BothRead old new kept number × (events_in old ≡ events_in new → ⊥))
  -- 'a slice too short for the new net 5'
  pub short : (spot : ℕ) → (replace_answer old new ts kept number ≡ Err (refusal 5 spot))
      ↔ ((spot ≡ place_count new) × BothRead old new kept number × (events_in old ≡ events_in new) × (length ts < place_count new))
  -- 'A kept event not below n gets 15': the first one's position
  pub no_event : (spot : ℕ) → (replace_answer old new ts kept number ≡ Err (refusal 15 spot))
      ↔ (BothRead old new kept number × (events_in old ≡ events_in new) × (place_count new ≤ length ts)
      × (spot < number) × (events_in new ≤ get_or kept spot 0) × ((i : ℕ) → i < spot → get_or kept i 0 < events_in new))
  -- '23 when the new net stops on the events so far, spot the position': that of the first refused step, as in demand 2
  pub stopped : (spot : ℕ) → (replace_answer old new ts kept number ≡ Err (refusal 23 spot))
      ↔ (Playable old new ts kept number × ((j : ℕ) × FirstRefused (events_in new) (net_in new) (so_far kept number) spot j))
  -- else the new net permits the events so far
  pub result : (replace_answer old new ts kept number ≡ Ok tt)
      ↔ (Playable old new ts kept number × T (permits (events_in new) (net_in new) (so_far kept number)))
  -- and the slice then has its marking behind them, in front of what stood there
  pub tokens : replace_answer old new ts kept number ≡ Ok tt → Marked new (so_far kept number) ts (replace_leaves old new ts kept number)
  -- 'no refusal of this engine, now or later, writes anything' (request 10)
  pub refused : (r : Refusal) → replace_answer old new ts kept number ≡ Err r → replace_leaves old new ts kept number ≡ ts

-- ---- The call

pub record CallOfReplacing : Type 0 where
  pub replace_exactly : (old new ts kept : List ℕ) (number : ℕ) → ReplaceExactly old new ts kept number
  -- 16 is none of them: the slice is not looked at
  pub refusals_of_replace : (old new ts kept : List ℕ) (number : ℕ) (r : Refusal) → replace_answer old new ts kept number ≡ Err r
      → among r.number (14 ∷ 3 ∷ 4 ∷ 6 ∷ 7 ∷ 8 ∷ 22 ∷ 5 ∷ 15 ∷ 23 ∷ []) ≡ true
