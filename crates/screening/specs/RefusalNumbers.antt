-- The refusal numbers of screening are those of its line in the order of refusals: 14, 4, then 6, 7, 8, then 15; with two bundles also 19.
use Rattle.std.specs.Prelude.{List, [], ◌∷◌, ℕ, leb, eqb, length}
use Rattle.laws.specs.Lists.{all, any}
use Rattle.limits.specs.Limits.{max_word_events}
use Rattle.refusals.specs.Table.{bundle_length_number, bundle_end_number, value_number, events_number, word_length_number, word_event_number, event_counts_number}
use Rattle.refusals.specs.Results.{Refuses, refuses-test, refuses-then, refuses-wider}
use Rattle.nets.specs.Nets.{Word, join}
use Rattle.bundles.specs.Layout.{to_net}
use Rattle.bundles.specs.HeadReading.{head-refuses}
use Rattle.screening.specs.Screening.{screening, joining}
use Rattle.screening.specs.Causes.{word-refuses}

abbrev pub behind_numbers : List ℕ
behind_numbers = bundle_length_number ∷ bundle_end_number ∷ value_number ∷ events_number ∷ word_event_number ∷ []

pub screening-refuses : (b : List ℕ) (w : Word) → Refuses (word_length_number ∷ behind_numbers) (screening b w)
unfolding screening all any
screening-refuses b w = refuses-test (leb (length w) max_word_events) word_length_number max_word_events
    (refuses-then (refuses-wider tt (head-refuses b)) (λ h. refuses-wider tt (word-refuses w h.events (to_net h))))

abbrev pub join_numbers : List ℕ
join_numbers = bundle_length_number ∷ bundle_end_number ∷ value_number ∷ events_number ∷ event_counts_number ∷ word_event_number ∷ []

pub joining-refuses : (first second : List ℕ) (w : Word) → Refuses (word_length_number ∷ join_numbers) (joining first second w)
unfolding joining all any
joining-refuses first second w = refuses-test (leb (length w) max_word_events) word_length_number max_word_events
    (refuses-then (refuses-wider tt (head-refuses first)) (λ one.
    refuses-then (refuses-wider tt (head-refuses second)) (λ two.
    refuses-wider tt (refuses-test (eqb one.events two.events) event_counts_number 0 (word-refuses w one.events (join (to_net one) (to_net two)))))))
