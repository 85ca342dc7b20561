-- Exactly when replacing refuses with each number, at which spot, and what it gives.
use Rattle.std.specs.Prelude.{◌≡◌, refl, true, false, ◌⊎◌, List, [], ◌∷◌, ℕ, ◌≤◌, ◌<◌, eqb, leb, ltb, length, take}
use Rattle.std.proofs.Common.{arith, inl, inr, ⊎_elim}
use mathlib.Core.Logic.Iff
use Rattle.laws.specs.Booleans.{at_least, less}
use Rattle.laws.specs.Lists.{all, any, among, not-among}
use Rattle.limits.specs.Limits.{max_word_events}
use Rattle.refusals.specs.Table.{bundle_length_number, bundle_end_number, value_number, events_number, word_length_number, word_event_number}
use Rattle.refusals.specs.Table.{output_short_number, numbers_short_number, replaced_events_number, run_stopped_number}
use Rattle.refusals.specs.Results.{Result, value, refused, bind, require, Refuses, refuses-test, refuses-then, refuses-wider}
use Rattle.refusals.specs.Exactly.{Exactly, Gives, exactly-same, gives_same, exactly-here, exactly-later, exactly-then, gives_later}
use Rattle.nets.specs.Nets.{Word, screen, permitted}
use Rattle.nets.specs.Carrying.{marking_after}
use Rattle.nets.specs.Events.{first_bad, FirstBad, EventsBelow}
use Rattle.bundles.specs.Layout.{Head, to_net}
use Rattle.bundles.specs.Readers.{read_head, head_of, events_in, net_in}
use Rattle.bundles.specs.HeadReading.{HeadIsRead, head_refusal_numbers, head-refuses, read_is}
use Rattle.engine.specs.Engine.{room_for, replacing, behind_events}
use Rattle.engine.specs.NetTests.{Room}
use Rattle.engine.specs.ReplaceTests.{StopsAt, replace_on, replace_on-refuses, replace_on_22, replace_on_5, replace_on_15, replace_on_23, replace_on-gives}
use Rattle.engine.specs.Causes.{own, behind, gives, head-places}

module _ (old new ts kept : List ℕ) (number : ℕ) where
  -- the events so far
  abbrev so_far : Word
  so_far = take number kept

  abbrev on_heads : Head → Head → Result (List ℕ)
  on_heads one two = replace_on two.events (to_net two) so_far one.events ts

  abbrev heads_on : Result (List ℕ)
  heads_on = bind (read_head old) (λ one. bind (read_head new) (λ two. on_heads one two))

  abbrev kept_on : Result (List ℕ)
  kept_on = bind (require (leb number (length kept)) output_short_number number) (λ u. heads_on)

  abbrev all_on : Result (List ℕ)
  all_on = bind (require (leb number max_word_events) word_length_number max_word_events) (λ u. kept_on)

  replace_chain : replacing old new ts kept number ≡ all_on
  unfolding replacing bind
  replace_chain = go (read_head old) (read_head new)
    where
      on : Head → Head → Result (List ℕ)
      on one two = bind (require (eqb one.events two.events) replaced_events_number 0) (λ u. bind (room_for two ts) (λ u.
          bind (require (all (λ e. ltb e two.events) so_far) word_event_number (first_bad two.events so_far)) (λ u.
          behind_events two.events (to_net two) so_far)))

      from : Result Head → Result Head → (Head → Head → Result (List ℕ)) → Result (List ℕ)
      from k m f = bind (require (leb number max_word_events) word_length_number max_word_events) (λ u.
          bind (require (leb number (length kept)) output_short_number number) (λ u. bind k (λ one. bind m (λ two. f one two))))

      go : (k m : Result Head) → from k m on ≡ from k m on_heads
      go (value one) (value two) = rw (head-places two)
      go (value one) (refused n spot) = refl
      go (refused n spot) m = refl

  -- behind the new bundle's head, and behind both
  two-refuses : (one : Head) → Refuses (bundle_length_number ∷ bundle_end_number ∷ value_number ∷ events_number ∷ replaced_events_number
      ∷ numbers_short_number ∷ word_event_number ∷ run_stopped_number ∷ []) (bind (read_head new) (λ two. on_heads one two))
  unfolding all any
  two-refuses one = refuses-then (refuses-wider tt (head-refuses new))
      (λ two. refuses-wider tt (replace_on-refuses two.events (to_net two) so_far one.events ts))

  heads_on-refuses : Refuses (bundle_length_number ∷ bundle_end_number ∷ value_number ∷ events_number ∷ replaced_events_number
      ∷ numbers_short_number ∷ word_event_number ∷ run_stopped_number ∷ []) heads_on
  unfolding all any
  heads_on-refuses = refuses-then (refuses-wider tt (head-refuses old)) (λ one. refuses-wider tt (two-refuses one))

  kept_on-refuses : Refuses (output_short_number ∷ bundle_length_number ∷ bundle_end_number ∷ value_number ∷ events_number ∷ replaced_events_number
      ∷ numbers_short_number ∷ word_event_number ∷ run_stopped_number ∷ []) kept_on
  kept_on-refuses = refuses-test _ _ _ heads_on-refuses

  pub replacing-refuses : Refuses (word_length_number ∷ output_short_number ∷ bundle_length_number ∷ bundle_end_number ∷ value_number ∷ events_number
      ∷ replaced_events_number ∷ numbers_short_number ∷ word_event_number ∷ run_stopped_number ∷ []) (replacing old new ts kept number)
  replacing-refuses = rw replace_chain (refuses-test _ _ _ kept_on-refuses)

  -- the events so far are few, and the buffer has them
  abbrev Few : Type 0
  Few = number ≤ max_word_events

  abbrev Kept : Type 0
  Kept = number ≤ length kept

  module _ {k : ℕ} {C : ℕ → Type 0} where
    after_few : (word_length_number ≡ k → ⊥) → Exactly kept_on k C → Exactly (replacing old new ts kept number) k (λ spot. Few × C spot)
    after_few other line = rw replace_chain (exactly-same
        (exactly-later (leb number max_word_events) word_length_number max_word_events kept_on other line)
        (λ spot. ((λ (e, c). ((at_least number max_word_events).0 e, c)), λ (h, c). ((at_least number max_word_events).1 h, c))))

  module _ {k : ℕ} {C : ℕ → Type 0} where
    after_kept : (word_length_number ≡ k → ⊥) → (output_short_number ≡ k → ⊥) → Exactly heads_on k C
        → Exactly (replacing old new ts kept number) k (λ spot. Few × (Kept × C spot))
    after_kept first second line = after_few first (exactly-same
        (exactly-later (leb number (length kept)) output_short_number number heads_on second line)
        (λ spot. ((λ (e, c). ((at_least number (length kept)).0 e, c)), λ (h, c). ((at_least number (length kept)).1 h, c))))

  -- ---- 14; 3; the old bundle's 4, 6, 7, 8; the new one's; 22; 5; 15; 23

  pub replace_14 : Exactly (replacing old new ts kept number) word_length_number (λ spot. (spot ≡ max_word_events) × (max_word_events < number))
  unfolding any
  replace_14 = rw replace_chain (exactly-same
      (exactly-here (leb number max_word_events) word_length_number max_word_events kept_on kept_on-refuses refl)
      (λ spot. ((λ (at, e). (at, (less number max_word_events).0 e)), λ (at, h). (at, (less number max_word_events).1 h))))

  pub replace_3 : Exactly (replacing old new ts kept number) output_short_number (λ spot. Few × ((spot ≡ number) × (length kept < number)))
  unfolding any
  replace_3 = after_few (λ e. omega (arith, e)) (exactly-same
      (exactly-here (leb number (length kept)) output_short_number number heads_on heads_on-refuses refl)
      (λ spot. ((λ (at, e). (at, (less number (length kept)).0 e)), λ (at, h). (at, (less number (length kept)).1 h))))

  -- the new bundle's only where the old one was read
  pub replace-own : (k : ℕ) → among k head_refusal_numbers ≡ true
      → Exactly (replacing old new ts kept number) k
      (λ spot. Few × (Kept × ((read_head old ≡ refused k spot) ⊎ (HeadIsRead old × (read_head new ≡ refused k spot)))))
  unfolding all any
  replace-own k listed = after_kept (not-among head_refusal_numbers word_length_number k refl listed)
      (not-among head_refusal_numbers output_short_number k refl listed)
      (exactly-same (exactly-then (record { line = λ spot. Iff.rfl }) (λ one. own new (λ two. replace_on-refuses two.events (to_net two) so_far one.events ts) tt k listed))
      (λ spot. (
        ⊎_elim (λ first. inl first) (λ (one, is, second). inr (read_is old one is, second)),
        ⊎_elim (λ first. inl first) (λ (is, second). inr (_, is, second)),
      )))

  both : {k : ℕ} {D : Head → Head → ℕ → Type 0} → (word_length_number ≡ k → ⊥) → (output_short_number ≡ k → ⊥) → among k head_refusal_numbers ≡ false
      → ((one two : Head) → Exactly (on_heads one two) k (D one two))
      → Exactly (replacing old new ts kept number) k (λ spot. Few × (Kept × (HeadIsRead old × (HeadIsRead new × D (head_of old) (head_of new) spot))))
  both first second other line = after_kept first second (behind old other (λ one. behind new other (λ two. line one two)))

  pub replace_22 : Exactly (replacing old new ts kept number) replaced_events_number
      (λ spot. Few × (Kept × (HeadIsRead old × (HeadIsRead new × ((spot ≡ 0) × (events_in old ≡ events_in new → ⊥))))))
  unfolding any
  replace_22 = both (λ e. omega (arith, e)) (λ e. omega (arith, e)) refl
      (λ one two. replace_on_22 two.events (to_net two) so_far one.events ts)

  pub replace_5 : Exactly (replacing old new ts kept number) numbers_short_number
      (λ spot. Few × (Kept × (HeadIsRead old × (HeadIsRead new
      × ((events_in old ≡ events_in new) × ((spot ≡ length (net_in new)) × (length ts < length (net_in new))))))))
  unfolding any
  replace_5 = both (λ e. omega (arith, e)) (λ e. omega (arith, e)) refl
      (λ one two. replace_on_5 two.events (to_net two) so_far one.events ts)

  pub replace_15 : Exactly (replacing old new ts kept number) word_event_number
      (λ spot. Few × (Kept × (HeadIsRead old × (HeadIsRead new
      × ((events_in old ≡ events_in new) × (Room (net_in new) ts × FirstBad (events_in new) so_far spot))))))
  unfolding any
  replace_15 = both (λ e. omega (arith, e)) (λ e. omega (arith, e)) refl
      (λ one two. replace_on_15 two.events (to_net two) so_far one.events ts)

  pub replace_23 : Exactly (replacing old new ts kept number) run_stopped_number
      (λ spot. Few × (Kept × (HeadIsRead old × (HeadIsRead new
      × ((events_in old ≡ events_in new) × (Room (net_in new) ts
      × (EventsBelow (events_in new) so_far × StopsAt (events_in new) (net_in new) so_far spot)))))))
  unfolding any
  replace_23 = both (λ e. omega (arith, e)) (λ e. omega (arith, e)) refl
      (λ one two. replace_on_23 two.events (to_net two) so_far one.events ts)

  pub replace-gives : Gives (replacing old new ts kept number)
      (λ us. Few × (Kept × (HeadIsRead old × (HeadIsRead new
      × ((events_in old ≡ events_in new) × (Room (net_in new) ts × (EventsBelow (events_in new) so_far
      × ((screen (events_in new) (net_in new) so_far ≡ permitted) × (us ≡ marking_after (events_in new) (net_in new) so_far)))))))))
  replace-gives = rw replace_chain (gives_same (gives_later _ _ _ _ (gives_later _ _ _ _
      (gives old (λ one. gives new (λ two. replace_on-gives two.events (to_net two) so_far one.events ts)))))
      (λ us. (
        (λ (few, (there, c)). ((at_least number max_word_events).0 few, ((at_least number (length kept)).0 there, c))),
        λ (few, (there, c)). ((at_least number max_word_events).1 few, ((at_least number (length kept)).1 there, c)),
      )))
