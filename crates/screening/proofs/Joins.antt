-- What the joined call permits.
use Rattle.std.specs.Prelude.{◌≡◌, ℕ, leb, eqb, length, Err}
use Rattle.std.proofs.Math.Path.{refl, sym, ap}
use Rattle.std.proofs.Common.{◌∙◌}
use mathlib.Core.List.{List}
use borrow.Author.Tests.{eqb-true}
use Rattle.limits.specs.Limits.{max_word_events}
use Rattle.refusals.specs.Table.{word_length_number, event_counts_number}
use Rattle.refusals.specs.Results.{Result, value, refused, bind-value, passed}
use Rattle.refusals.specs.Answers.{refusal}
use Rattle.refusals.specs.declared.Refusal.{Refusal}
use Rattle.nets.specs.Nets as nets
use Rattle.nets.specs.Nets.{Word}
use Rattle.bundles.specs.Layout.{Head}
use Rattle.bundles.specs.Readers.{read_head, events_in}
use Rattle.bundles.specs.HeadReading.{HeadIsRead, read-head-of, read_is}
use Rattle.screening.specs.Screening.{joining, screened_of, screened_joined}
use Rattle.screening.specs.Joins.{JoinReadable}

-- ---- permitted

-- what a readable word has passed
module _ (first second : List ℕ) (w : Word) where
  joining→ : (x : nets.Answer) → joining first second w ≡ value x → HeadIsRead first × HeadIsRead second × (events_in first ≡ events_in second)
  unfolding joining
  joining→ x e =
      let p = passed (leb (length w) max_word_events) word_length_number max_word_events _ x e in
      let (one, is, rest) = bind-value (read_head first) _ x p.1 in
      let (two, is', rest') = bind-value (read_head second) _ x rest in
      let q = passed (eqb one.events two.events) event_counts_number 0 _ x rest' in
      let events : (b : List ℕ) (h : Head) → read_head b ≡ value h → events_in b ≡ h.events = λ b h e. ap (λ (x : Head). x.events) (read-head-of b h e) in (
        read_is first one is,
        read_is second two is',
        events first one is ∙ eqb-true one.events two.events q.0 ∙ sym (events second two is'),
      )

  pub joined→ : JoinReadable first second w → HeadIsRead first × HeadIsRead second × (events_in first ≡ events_in second)
  unfolding screened_joined screened_of
  joined→ readable = go (joining first second w) refl readable
    where
      go : (m : Result nets.Answer) → joining first second w ≡ m → ((r : Refusal) → screened_of m ≡ Err r → ⊥) → HeadIsRead first × HeadIsRead second × (events_in first ≡ events_in second)
      go (value x) is rest = joining→ x is
      go (refused number spot) is rest = absurd (rest (refusal number spot) refl)
