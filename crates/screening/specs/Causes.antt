-- Exactly when screening refuses with each number, and at which spot, by what the bundle and the word hold.
use Rattle.std.specs.Prelude.{◌≡◌, true, ◌↔◌, List, [], ◌∷◌, ℕ, leb, length, Err}
use Rattle.std.proofs.Math.Path.{refl}
use Rattle.std.proofs.Common.{arith}
use Rattle.std.proofs.Math.Bool.{false, not}
use Rattle.std.proofs.Math.Dec.{ltb}
use Rattle.laws.specs.Booleans.{impossible, no_false}
use Rattle.laws.specs.Lists.{all, any, among, not-among, among-all}
use Rattle.laws.specs.Numbers.{Bytes}
use Rattle.limits.specs.Limits.{max_word_events, right_size}
use Rattle.refusals.specs.Table.{bundle_length_number, bundle_end_number, value_number, events_number, word_length_number, word_event_number}
use Rattle.refusals.specs.Results.{Result, value, refused, bind, Refuses, refuses-end, refuses-test, refuses-then, refuses-wider}
use Rattle.refusals.specs.Answers.{refusal}
use Rattle.refusals.specs.Exactly.{RefusesAs, answers-exactly, Exactly, exactly-same, exactly-here, exactly-later, exactly-first, exactly-behind}
use Rattle.refusals.specs.declared.Refusal.{Refusal}
use Rattle.nets.specs.Nets as nets
use Rattle.nets.specs.Nets.{Word, Net, permitted, stopped, screen}
use Rattle.nets.specs.Events.{first_bad}
use Rattle.bundles.specs.Layout.{Head, to_net, HeadInFront}
use Rattle.bundles.specs.Readers.{any_rows, head, read_head}
use Rattle.bundles.specs.HeadReading.{head-refuses, head_4, head-field, read→front, front→read}
use Rattle.screening.specs.Screening.{word_on, screening, replayed, screened_of, screened}

-- the answer refuses where the chain does
pub refuses-as : RefusesAs screened_of
unfolding screened_of replayed
refuses-as = record { granted = granted; same = λ number spot. refl }
  where
    granted : (a : nets.Answer) (r : Refusal) → screened_of (value a) ≡ Err r → ⊥
    granted permitted r e = impossible cc
    granted (stopped i j k) r e = impossible cc

pub refused-exactly : {m : Result nets.Answer} {number : ℕ} {C : ℕ → Type 0} → Exactly m number C
    → (spot : ℕ) → (screened_of m ≡ Err (refusal number spot)) ↔ C spot
refused-exactly e spot = answers-exactly refuses-as e spot

module _ (w : Word) (n : ℕ) (net : Net) where
  pub word-refuses : Refuses (word_event_number ∷ []) (word_on w n net)
  unfolding word_on
  word-refuses = refuses-test (all (λ e. ltb e n) w) word_event_number (first_bad n w) (refuses-end (screen n net w))

  pub word_15 : Exactly (word_on w n net) word_event_number (λ spot. (spot ≡ first_bad n w) × (all (λ e. ltb e n) w ≡ false))
  unfolding word_on any
  word_15 = exactly-here (all (λ e. ltb e n) w) word_event_number (first_bad n w) (value (screen n net w)) (refuses-end (screen n net w)) refl

module _ (b : List ℕ) (w : Word) where
  -- the head, then the word
  abbrev behind : Result nets.Answer
  behind = bind (read_head b) (λ h. word_on w h.events (to_net h))

  behind-refuses : Refuses (bundle_length_number ∷ bundle_end_number ∷ value_number ∷ events_number ∷ word_event_number ∷ []) behind
  unfolding all any
  behind-refuses = refuses-then (refuses-wider tt (head-refuses b)) (λ h. refuses-wider tt (word-refuses w h.events (to_net h)))

  -- a line of what follows the word's length, for the answer
  lined : {number : ℕ} {C : ℕ → Type 0} → (word_length_number ≡ number → ⊥) → Exactly behind number C
      → (spot : ℕ) → (screened b w ≡ Err (refusal number spot)) ↔ ((leb (length w) max_word_events ≡ true) × C spot)
  unfolding screened screening
  lined other e = refused-exactly (exactly-later (leb (length w) max_word_events) word_length_number max_word_events behind other e)

  -- ---- 14, 4, then 6, 7, 8 in bundle order, then 15

  pub screen_14 : (spot : ℕ) → (screened b w ≡ Err (refusal word_length_number spot))
      ↔ ((spot ≡ max_word_events) × (leb (length w) max_word_events ≡ false))
  unfolding screened screening any
  screen_14 = refused-exactly (exactly-here (leb (length w) max_word_events) word_length_number max_word_events behind behind-refuses refl)

  pub screen_4 : (spot : ℕ) → (screened b w ≡ Err (refusal bundle_length_number spot))
      ↔ ((leb (length w) max_word_events ≡ true) × ((spot ≡ 0) × (right_size (length b) ≡ false)))
  unfolding any
  screen_4 = lined (λ e. omega (arith, e)) (exactly-first (head_4 b) (λ h. word-refuses w h.events (to_net h)) refl)

  abbrev field_numbers : List ℕ
  field_numbers = bundle_end_number ∷ value_number ∷ events_number ∷ []

  -- 6, 7 and 8 are those of the head
  pub screen-field : (number : ℕ) → among number field_numbers ≡ true → (spot : ℕ) → (screened b w ≡ Err (refusal number spot))
      ↔ ((leb (length w) max_word_events ≡ true) × ((right_size (length b) ≡ true) × (head any_rows b 0 ≡ refused number spot)))
  unfolding all any
  screen-field number listed =
      let other : (k : ℕ) → among k field_numbers ≡ false → k ≡ number → ⊥ = λ k none. not-among field_numbers k number none listed in
      lined (other word_length_number refl) (exactly-first
      (head-field b number (other bundle_length_number refl))
      (λ h. word-refuses w h.events (to_net h))
      (no_false (among number (word_event_number ∷ [])) (among-all (λ k. not (among k (word_event_number ∷ []))) field_numbers tt number (rw listed tt))))

  -- the head that was read stands in front of the bundle
  module _ (bytes : Bytes b) where
    exactly_15 : Exactly behind word_event_number (λ spot. (right_size (length b) ≡ true)
        × ((h : Head) × (rest : List ℕ) × HeadInFront b h rest × (spot ≡ first_bad h.events w) × (all (λ e. ltb e h.events) w ≡ false)))
    unfolding any
    exactly_15 = exactly-same (exactly-behind (head-refuses b) refl (λ h. word_15 w h.events (to_net h))) (λ spot. (
      (λ (h, is, (at, fails)). let (right, (rest, front)) = read→front b bytes h is in (right, (h, rest, front, at, fails))),
      (λ (right, (h, rest, front, at, fails)). (h, front→read b bytes h rest right front, (at, fails))),
    ))

    pub screen_15 : (spot : ℕ) → (screened b w ≡ Err (refusal word_event_number spot))
        ↔ ((leb (length w) max_word_events ≡ true) × ((right_size (length b) ≡ true)
        × ((h : Head) × (rest : List ℕ) × HeadInFront b h rest × (spot ≡ first_bad h.events w) × (all (λ e. ltb e h.events) w ≡ false))))
    screen_15 = lined (λ e. omega (arith, e)) exactly_15
