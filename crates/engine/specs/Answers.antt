-- The answers of starting, replacing and a step, and what they leave of the numbers and the buffer that are lent, by what their chains give.
use Rattle.std.specs.Prelude.{◌≡◌, refl, true, ◌↔◌, List, ℕ, suc, set, Ok, Err}
use Rattle.std.proofs.Common.{sym, ap, ◌∙◌}
use Rattle.laws.specs.Booleans.{impossible}
use Rattle.laws.specs.Parts.{front}
use Rattle.refusals.specs.Results.{Result, value, refused}
use Rattle.refusals.specs.Answers.{refusal, output_of}
use Rattle.laws.specs.Lists.{among}
use Rattle.refusals.specs.Results.{Refuses}
use Rattle.refusals.specs.Exactly.{Exactly, RefusesAs, refused-as, answers-exactly, answers-among}
use Rattle.refusals.specs.declared.Refusal.{Refusal}
use Rattle.nets.specs.Carrying.{Played, moved, lacking}
use Rattle.stops.specs.declared.Stop.{Stop}
use Rattle.engine.specs.declared.Outcome.TheVariants.{Moved, Stopped}
use Rattle.engine.specs.Engine.{handed_back, stepped, tokens_stepped, kept_stepped}

-- ---- a call that writes tokens and hands back x

module _ {A : Type 0} (x : A) where
  handed-as : RefusesAs (handed_back x)
  unfolding handed_back
  handed-as = record { granted = λ us r e. impossible cc; same = λ number spot. refl }

  module _ {m : Result (List ℕ)} where
    pub handed-refused : {number : ℕ} {C : ℕ → Type 0} → Exactly m number C → (spot : ℕ) → (handed_back x m ≡ Err (refusal number spot)) ↔ C spot
    handed-refused line spot = answers-exactly handed-as line spot

    pub handed-among : {numbers : List ℕ} → Refuses numbers m → (r : Refusal) → handed_back x m ≡ Err r → among r.number numbers ≡ true
    handed-among only r e = answers-among handed-as only r e

    pub handed-value : (y : A) → (handed_back x m ≡ Ok y) ↔ ((y ≡ x) × ((us : List ℕ) × (m ≡ value us)))
    unfolding handed_back
    handed-value y = (to m, λ (same, (us, is)). ap (handed_back x) is ∙ ap (λ (z : A). Ok z) (sym same))
      where
        to : (m : Result (List ℕ)) → handed_back x m ≡ Ok y → (y ≡ x) × ((us : List ℕ) × (m ≡ value us))
        to (value us) e = (cc, (us, refl))
        to (refused n s) e = impossible cc

-- the tokens in front, or the numbers as they were
pub tokens-left : {m : Result (List ℕ)} {us : List ℕ} → m ≡ value us → (ts : List ℕ) → output_of m ts ≡ front us ts
unfolding output_of
tokens-left is ts = rw is

pub tokens-kept : {A : Type 0} (x : A) (m : Result (List ℕ)) (ts : List ℕ) (r : Refusal) → handed_back x m ≡ Err r → output_of m ts ≡ ts
unfolding output_of
tokens-kept x m ts r e = rw (refused-as (handed-as x) m r e)

-- ---- a step

module _ (number : ℕ) where
  stepped-as : RefusesAs (stepped number)
  unfolding stepped
  stepped-as = record { granted = granted; same = λ k spot. refl }
    where
      granted : (p : Played) (r : Refusal) → stepped number (value p) ≡ Err r → ⊥
      granted (moved us) r e = impossible cc
      granted (lacking j k) r e = impossible cc

module _ (number : ℕ) {m : Result Played} where
  pub stepped-refused : {k : ℕ} {C : ℕ → Type 0} → Exactly m k C → (spot : ℕ) → (stepped number m ≡ Err (refusal k spot)) ↔ C spot
  stepped-refused line spot = answers-exactly (stepped-as number) line spot

  pub stepped-among : {numbers : List ℕ} → Refuses numbers m → (r : Refusal) → stepped number m ≡ Err r → among r.number numbers ≡ true
  stepped-among only r e = answers-among (stepped-as number) only r e

  pub stepped-moved : (next : ℕ) → (stepped number m ≡ Ok (Moved next)) ↔ ((next ≡ suc number) × ((us : List ℕ) × (m ≡ value (moved us))))
  unfolding stepped
  stepped-moved next = (to m, λ (more, (us, is)). ap (stepped number) is ∙ ap (λ (n : ℕ). Ok (Moved n)) (sym more))
    where
      to : (m : Result Played) → stepped number m ≡ Ok (Moved next) → (next ≡ suc number) × ((us : List ℕ) × (m ≡ value (moved us)))
      to (value (moved us)) e = (cc, (us, refl))
      to (value (lacking i j)) e = impossible cc
      to (refused n s) e = impossible cc

  pub stepped-stopped : (s : Stop) → (stepped number m ≡ Ok (Stopped s)) ↔ ((s.position ≡ number) × (m ≡ value (lacking s.place s.shortfall)))
  unfolding stepped
  stepped-stopped s = (
    to m,
    λ (at, is). ap (stepped number) is ∙ ap (λ (n : ℕ). Ok (Stopped (record { position = n; place = s.place; shortfall = s.shortfall }))) (sym at),
  )
    where
      to : (m : Result Played) → stepped number m ≡ Ok (Stopped s) → (s.position ≡ number) × (m ≡ value (lacking s.place s.shortfall))
      to (value (moved us)) e = impossible cc
      to (value (lacking i j)) e =
          let same : ◌≡◌ {A = Stop} (record { position = number; place = i; shortfall = j }) s = cc in
          (ap (λ (t : Stop). t.position) (sym same), ap (λ (t : Stop). value (lacking t.place t.shortfall)) same)
      to (refused n s) e = impossible cc

-- the tokens in front, or the numbers as they were
pub moved-left : {m : Result Played} {us : List ℕ} → m ≡ value (moved us) → (ts : List ℕ) → tokens_stepped m ts ≡ front us ts
unfolding tokens_stepped
moved-left is ts = rw is

-- the buffer with the event, where it is permitted
pub kept-with : {m : Result Played} {us : List ℕ} → m ≡ value (moved us) → (kept : List ℕ) (number event : ℕ)
    → kept_stepped m kept number event ≡ set kept number event
unfolding kept_stepped
kept-with is kept number event = rw is

module _ (number : ℕ) (m : Result Played) (ts kept : List ℕ) (event : ℕ) where
  abbrev Untouched : Type 0
  Untouched = (tokens_stepped m ts ≡ ts) × (kept_stepped m kept number event ≡ kept)

  pub stopped-kept : (s : Stop) → stepped number m ≡ Ok (Stopped s) → Untouched
  unfolding stepped tokens_stepped kept_stepped
  stopped-kept s e = go m e
    where
      go : (m : Result Played) → stepped number m ≡ Ok (Stopped s) → (tokens_stepped m ts ≡ ts) × (kept_stepped m kept number event ≡ kept)
      go (value (moved us)) e = impossible cc
      go (value (lacking i j)) e = (refl, refl)
      go (refused n s) e = (refl, refl)

  pub refused-kept : (r : Refusal) → stepped number m ≡ Err r → Untouched
  unfolding tokens_stepped kept_stepped
  refused-kept r e = rw (refused-as (stepped-as number) m r e) (refl, refl)
