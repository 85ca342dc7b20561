-- Exactly when the search refuses with each number, at which spot, and what it gives.
use Rattle.std.specs.Prelude.{◌≡◌, refl, true, List, [], ◌∷◌, Option, ℕ, ◌≤◌, ◌<◌, ltb, Err}
use Rattle.std.proofs.Common.{lt-ltb, le-ltb}
use Rattle.std.proofs.lemmas.Bool.{ltb-true, ltb-false}
use Rattle.laws.specs.Booleans.{impossible}
use Rattle.laws.specs.Lists.{all, any, among}
use Rattle.refusals.specs.Table.{bundle_length_number, bundle_end_number, value_number, events_number, word_event_number}
use Rattle.refusals.specs.Results.{Result, value, refused, bind, require, Refuses, refuses-test, refuses-then, refuses-end, refuses-wider}
use Rattle.refusals.specs.Exactly.{Exactly, Gives, exactly-same, gives_same, exactly-here, gives_later, gives_value, RefusesAs, answers-among}
use Rattle.refusals.specs.declared.Refusal.{Refusal}
use Rattle.nets.specs.Nets.{Word}
use Rattle.bundles.specs.Layout.{Head, to_net}
use Rattle.bundles.specs.Readers.{read_head, events_in, net_in}
use Rattle.bundles.specs.HeadReading.{HeadIsRead, head_refusal_numbers, head-refuses}
use Rattle.engine.specs.Causes.{own, behind, gives}
use Rattle.search.specs.Searching.{first_leading, reaching, sized, reached_of}

abbrev pub reach_numbers : List ℕ
reach_numbers = bundle_length_number ∷ bundle_end_number ∷ value_number ∷ events_number ∷ word_event_number ∷ []

module _ (b : List ℕ) (wanted : ℕ) where
  abbrev on_head : Head → Result (Option Word)
  on_head h = bind (require (ltb wanted h.events) word_event_number 0) (λ u. value (first_leading h.events (to_net h) wanted))

  reach_chain : reaching b wanted ≡ bind (read_head b) on_head
  unfolding reaching bind
  reach_chain = refl

  on_head-refuses : (h : Head) → Refuses (word_event_number ∷ []) (on_head h)
  on_head-refuses h = refuses-test _ _ _ (refuses-end (first_leading h.events (to_net h) wanted))

  reaching-refuses : Refuses reach_numbers (reaching b wanted)
  unfolding all any
  reaching-refuses = rw reach_chain (refuses-then (refuses-wider tt (head-refuses b)) (λ h. refuses-wider tt (on_head-refuses h)))

  pub reach-own : (number : ℕ) → among number head_refusal_numbers ≡ true
      → Exactly (reaching b wanted) number (λ spot. read_head b ≡ refused number spot)
  unfolding all any
  reach-own number listed = rw reach_chain (own b on_head-refuses tt number listed)

  on_head_15 : (h : Head) → Exactly (on_head h) word_event_number (λ spot. (spot ≡ 0) × (h.events ≤ wanted))
  unfolding any
  on_head_15 h = exactly-same
      (exactly-here (ltb wanted h.events) word_event_number 0 (value (first_leading h.events (to_net h) wanted)) (refuses-end _) refl)
      (λ spot. ((λ (at, e). (at, ltb-false wanted h.events e)), λ (at, l). (at, le-ltb wanted h.events l)))

  on_head-gives : (h : Head) → Gives (on_head h) (λ o. (wanted < h.events) × (o ≡ first_leading h.events (to_net h) wanted))
  on_head-gives h = gives_same (gives_later _ _ _ _ (gives_value (first_leading h.events (to_net h) wanted)))
      (λ o. ((λ (e, is). (ltb-true wanted h.events e, is)), λ (l, is). (lt-ltb wanted h.events l, is)))

  pub reach_15 : Exactly (reaching b wanted) word_event_number (λ spot. HeadIsRead b × ((spot ≡ 0) × (events_in b ≤ wanted)))
  unfolding any
  reach_15 = rw reach_chain (behind b refl on_head_15)

  pub reach-gives : Gives (reaching b wanted)
      (λ o. HeadIsRead b × ((wanted < events_in b) × (o ≡ first_leading (events_in b) (net_in b) wanted)))
  reach-gives = rw reach_chain (gives b on_head-gives)

-- the answers refuse where the chain does
pub reached_refuses : RefusesAs reached_of
unfolding reached_of
reached_refuses = record { granted = λ o r e. impossible cc; same = λ number spot. refl }

pub sized_refuses : RefusesAs sized
unfolding sized
sized_refuses = record { granted = λ o r e. impossible cc; same = λ number spot. refl }

pub reach_numbers_lem : (b : List ℕ) (wanted : ℕ) (r : Refusal) → reached_of (reaching b wanted) ≡ Err r
    → among r.number reach_numbers ≡ true
reach_numbers_lem b wanted = answers-among reached_refuses (reaching-refuses b wanted)

pub size_numbers_lem : (b : List ℕ) (wanted : ℕ) (r : Refusal) → sized (reaching b wanted) ≡ Err r → among r.number reach_numbers ≡ true
size_numbers_lem b wanted = answers-among sized_refuses (reaching-refuses b wanted)
