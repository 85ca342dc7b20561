-- Exactly when the joined call refuses with each number, and at which spot: by what screening says of each bundle, and by the word.
use Rattle.std.specs.Prelude.{◌≡◌, true, ◌↔◌, ◌⊎◌, List, [], ◌∷◌, ℕ, leb, eqb, length, Err}
use Rattle.std.proofs.Math.Path.{refl}
use Rattle.std.proofs.Math.Bool.{false, not}
use Rattle.std.proofs.Math.Logic.{inl, inr, ⊎_elim}
use Rattle.std.proofs.Common.{arith}
use Rattle.std.proofs.Math.Dec.{ltb}
use Rattle.laws.specs.Booleans.{no_false}
use Rattle.laws.specs.Lists.{all, any, among, not-among, among-all}
use Rattle.limits.specs.Limits.{max_word_events}
use Rattle.refusals.specs.Table.{bundle_length_number, bundle_end_number, value_number, events_number, word_length_number, word_event_number, event_counts_number}
use Rattle.refusals.specs.Results.{Result, refused, bind, require, Refuses, refuses-end, refuses-test, refuses-then, refuses-wider}
use Rattle.refusals.specs.Answers.{refusal}
use Rattle.refusals.specs.Exactly.{Exactly, exactly-same, exactly-here, exactly-later, exactly-first, exactly-behind, exactly-then}
use Rattle.nets.specs.Nets as nets
use Rattle.nets.specs.Nets.{Word, join, screen}
use Rattle.nets.specs.Events.{first_bad}
use Rattle.bundles.specs.Layout.{Head, to_net}
use Rattle.bundles.specs.Readers.{read_head, head_of, events_in}
use Rattle.bundles.specs.HeadReading.{HeadIsRead, head_refusal_numbers, head-refuses, read-head-of, read_is}
use Rattle.screening.specs.Screening.{word_on, joining, screened, screened_joined}
use Rattle.screening.specs.Causes.{refused-exactly, word-refuses, word_15}
use Rattle.screening.specs.Joins.{empty-word}

-- a chain, by its own refusals
itself : {A : Type 0} (m : Result A) (number : ℕ) → Exactly m number (λ spot. m ≡ refused number spot)
itself m number = record { line = λ spot. ((λ e. e), (λ e. e)) }

-- a bundle's own refusals are those of screening the empty word
pub empty-refused : (b : List ℕ) (number spot : ℕ) → (screened b [] ≡ Err (refusal number spot)) ↔ (read_head b ≡ refused number spot)
unfolding screened any
empty-refused b number = refused-exactly (rw (empty-word b) (exactly-first (itself (read_head b) number) (λ h. refuses-end (screen h.events (to_net h) [])) refl))

module _ (first second : List ℕ) (w : Word) where
  -- behind both heads: 19, then the word
  abbrev on_heads : Head → Head → Result nets.Answer
  on_heads one two = bind (require (eqb one.events two.events) event_counts_number 0) (λ u. word_on w one.events (join (to_net one) (to_net two)))

  -- behind the first
  abbrev on_first : Head → Result nets.Answer
  on_first one = bind (read_head second) (on_heads one)

  abbrev behind : Result nets.Answer
  behind = bind (read_head first) on_first

  on_heads-refuses : (one two : Head) → Refuses (event_counts_number ∷ word_event_number ∷ []) (on_heads one two)
  on_heads-refuses one two = refuses-test (eqb one.events two.events) event_counts_number 0 (word-refuses w one.events (join (to_net one) (to_net two)))

  behind-refuses : Refuses (bundle_length_number ∷ bundle_end_number ∷ value_number ∷ events_number ∷ event_counts_number ∷ word_event_number ∷ []) behind
  unfolding all any
  behind-refuses = refuses-then (refuses-wider tt (head-refuses first)) (λ one. refuses-then (refuses-wider tt (head-refuses second)) (λ two. refuses-wider tt (on_heads-refuses one two)))

  lined : {number : ℕ} {C : ℕ → Type 0} → (word_length_number ≡ number → ⊥) → Exactly behind number C
      → (spot : ℕ) → (screened_joined first second w ≡ Err (refusal number spot)) ↔ ((leb (length w) max_word_events ≡ true) × C spot)
  unfolding screened_joined joining
  lined other e = refused-exactly (exactly-later (leb (length w) max_word_events) word_length_number max_word_events behind other e)

  -- ---- 14, the first bundle's 4, 6, 7, 8, the second's, 19, 15

  pub join_14 : (spot : ℕ) → (screened_joined first second w ≡ Err (refusal word_length_number spot))
      ↔ ((spot ≡ max_word_events) × (leb (length w) max_word_events ≡ false))
  unfolding screened_joined joining any
  join_14 = refused-exactly (exactly-here (leb (length w) max_word_events) word_length_number max_word_events behind behind-refuses refl)

  -- a bundle's own refusal: the first one's, or the second's where the first is read
  pub join-own : (number : ℕ) → among number head_refusal_numbers ≡ true → (spot : ℕ) → (screened_joined first second w ≡ Err (refusal number spot))
      ↔ ((leb (length w) max_word_events ≡ true) × ((read_head first ≡ refused number spot) ⊎ (HeadIsRead first × (read_head second ≡ refused number spot))))
  unfolding all any
  join-own number listed = lined (not-among head_refusal_numbers word_length_number number refl listed) (exactly-same (exactly-then (itself (read_head first) number) (λ one. exactly-first (itself (read_head second) number) (on_heads-refuses one) none)) (λ spot. (
    ⊎_elim (λ e. inl e) (λ (one, is, e). inr (read_is first one is, e)),
    ⊎_elim (λ e. inl e) (λ (is, e). inr (head_of first, is, e)),
  )))
    where
      none : among number (event_counts_number ∷ word_event_number ∷ []) ≡ false
      none = no_false (among number (event_counts_number ∷ word_event_number ∷ [])) (among-all (λ k. not (among k (event_counts_number ∷ word_event_number ∷ []))) head_refusal_numbers tt number (rw listed tt))

  -- what both heads' chain refuses, for the bundles' own heads
  both : {number : ℕ} {D : Head → Head → ℕ → Type 0} → among number head_refusal_numbers ≡ false → ((one two : Head) → Exactly (on_heads one two) number (D one two))
      → Exactly behind number (λ spot. HeadIsRead first × HeadIsRead second × D (head_of first) (head_of second) spot)
  both {number} {D} other line = exactly-same (exactly-behind (head-refuses first) other (λ one. exactly-behind (head-refuses second) other (line one))) (λ spot. (
    (λ (one, is, (two, is', d)). (read_is first one is, read_is second two is', rw (read-head-of first one is, read-head-of second two is') d)),
    (λ (is, is', d). (head_of first, is, (head_of second, is', d))),
  ))

  pub join_19 : (spot : ℕ) → (screened_joined first second w ≡ Err (refusal event_counts_number spot))
      ↔ ((leb (length w) max_word_events ≡ true) × (HeadIsRead first × HeadIsRead second × ((spot ≡ 0) × (eqb (events_in first) (events_in second) ≡ false))))
  unfolding any
  join_19 = lined (λ e. omega (arith, e)) (both {D = λ one two spot. (spot ≡ 0) × (eqb one.events two.events ≡ false)} refl (λ one two.
      exactly-here (eqb one.events two.events) event_counts_number 0 (word_on w one.events (join (to_net one) (to_net two))) (word-refuses w one.events (join (to_net one) (to_net two))) refl))

  pub join_15 : (spot : ℕ) → (screened_joined first second w ≡ Err (refusal word_event_number spot))
      ↔ ((leb (length w) max_word_events ≡ true) × (HeadIsRead first × HeadIsRead second
      × ((eqb (events_in first) (events_in second) ≡ true) × ((spot ≡ first_bad (events_in first) w) × (all (λ e. ltb e (events_in first)) w ≡ false)))))
  unfolding any
  join_15 = lined (λ e. omega (arith, e)) (both {D = λ one two spot. (eqb one.events two.events ≡ true) × ((spot ≡ first_bad one.events w) × (all (λ e. ltb e one.events) w ≡ false))} refl (λ one two.
      exactly-later (eqb one.events two.events) event_counts_number 0 (word_on w one.events (join (to_net one) (to_net two))) (λ e. omega (arith, e)) (word_15 w one.events (join (to_net one) (to_net two)))))
