-- Screening with two bundles joined, by what screening with each of them says.
use Rattle.std.specs.Prelude.{◌≡◌, true, false, cond, ◌↔◌, ℕ, T, leb, length, Err, None, Ok}
use Rattle.std.proofs.Math.Path.{refl, sym, ap}
use Rattle.std.proofs.Common.{◌∙◌, subst}
use Rattle.std.proofs.Math.Bool.{Bool}
use mathlib.Core.List.{List, []}
use borrow.Author.Tests.{eq-eqb}
use Rattle.std.proofs.Math.Dec.{ltb}
use Rattle.laws.specs.Booleans.{impossible}
use Rattle.laws.specs.Lists.{all}
use Rattle.limits.specs.Limits.{max_word_events}
use Rattle.refusals.specs.Table.{word_length_number, word_event_number}
use Rattle.refusals.specs.Results.{Result, value, refused, bind, require}
use Rattle.refusals.specs.Answers.{refusal}
use Rattle.refusals.specs.declared.Refusal.{Refusal}
use Rattle.nets.specs.Nets.{Word, Net, join, permits, screen}
use Rattle.nets.specs.Events.{first_bad}
use Rattle.bundles.specs.Layout.{Head, to_net}
use Rattle.bundles.specs.Readers.{read_head, events_in, net_in}
use Rattle.bundles.specs.HeadReading.{HeadIsRead, read_is}
use Rattle.screening.specs.Screening.{word_on, screening, joining, replayed, screened_of, screened, screened_joined}
use Rattle.screening.specs.Screens.{Readable, replayed-never, replay-permits}
use Rattle.screening.specs.Screening.{Screened}

-- no refusal meets the call
abbrev pub JoinReadable : List ℕ → List ℕ → Word → Type 0
JoinReadable first second w = (r : Refusal) → screened_joined first second w ≡ Err r → ⊥

-- the answer for a word on a net: 14, 15, then the replay
unfoldable pub answer_on : Word → ℕ → Net → Screened
answer_on w n net = screened_of (bind (require (leb (length w) max_word_events) word_length_number max_word_events) (λ u. word_on w n net))

-- ---- a bundle that is read up to its last place

-- the empty word is refused where the head is
pub empty-word : (b : List ℕ) → screening b [] ≡ bind (read_head b) (λ h. value (screen h.events (to_net h) []))
unfolding screening word_on require bind all
empty-word b = refl

pub read-exactly : (b : List ℕ) → Readable b [] ↔ HeadIsRead b
unfolding screened bind screened_of replayed
read-exactly b = (
  (λ readable. go (read_head b) refl (λ r e. readable r (ap screened_of (empty-word b) ∙ e))),
  (λ read r e. replayed-never (screen (events_in b) (net_in b) []) r (sym (answer read) ∙ e)),
)
  where
    go : (m : Result Head) → read_head b ≡ m → ((r : Refusal) → screened_of (bind m (λ h. value (screen h.events (to_net h) []))) ≡ Err r → ⊥) → HeadIsRead b
    go (value h) is readable = read_is b h is
    go (refused number spot) is readable = absurd (readable (refusal number spot) refl)

    answer : HeadIsRead b → screened b [] ≡ replayed (screen (events_in b) (net_in b) [])
    answer read = ap screened_of (empty-word b) ∙ rw read

-- the answer is that of its net
pub screened-on : (b : List ℕ) → HeadIsRead b → (w : Word) → screened b w ≡ answer_on w (events_in b) (net_in b)
unfolding screened screening answer_on bind
screened-on b read w = rw read

pub joined-on : (first second : List ℕ) → HeadIsRead first → HeadIsRead second → events_in first ≡ events_in second → (w : Word)
    → screened_joined first second w ≡ answer_on w (events_in first) (join (net_in first) (net_in second))
unfolding screened_joined joining answer_on bind require
joined-on first second one two same w = rw (one, two, eq-eqb (events_in first) (events_in second) same)

-- ---- permitted

-- a word over the events that is not too long
abbrev pub Passes : Word → ℕ → Type 0
Passes w n = (leb (length w) max_word_events ≡ true) × (all (λ e. ltb e n) w ≡ true)

-- the answer is refused, or the replay's
module _ (w : Word) (n : ℕ) (net : Net) where
  pub answer-replayed : Passes w n → answer_on w n net ≡ replayed (screen n net w)
  unfolding answer_on word_on require bind screened_of
  answer-replayed (short, below) = rw (short, below)

  pub readable-on : ((r : Refusal) → answer_on w n net ≡ Err r → ⊥) ↔ Passes w n
  unfolding answer_on word_on require bind screened_of
  readable-on = (
    (λ readable. to (leb (length w) max_word_events) refl (all (λ e. ltb e n) w) refl readable),
    (λ passes r e. replayed-never (screen n net w) r (sym (answer-replayed passes) ∙ e)),
  )
    where
      answer : Bool → Bool → Screened
      answer short below = screened_of (bind (cond short (value (tt {0})) (refused word_length_number max_word_events))
          (λ u. bind (cond below (value (tt {0})) (refused word_event_number (first_bad n w))) (λ u. value (screen n net w))))

      to : (short : Bool) → leb (length w) max_word_events ≡ short → (below : Bool) → all (λ e. ltb e n) w ≡ below
          → ((r : Refusal) → answer short below ≡ Err r → ⊥) → Passes w n
      to true s true b readable = (s, b)
      to true s false b readable = absurd (readable (refusal word_event_number (first_bad n w)) refl)
      to false s below b readable = absurd (readable (refusal word_length_number max_word_events) refl)

  pub permitted-on : (answer_on w n net ≡ Ok None) ↔ (Passes w n × T (permits n net w))
  permitted-on = (
    (λ e. let passes = readable-on.0 (λ r refused. impossible (cc (sym e ∙ refused))) in (passes, (replay-permits n net w (answer-replayed passes)).0 e)),
    (λ (passes, t). (replay-permits n net w (answer-replayed passes)).1 t),
  )

-- nets that answer the word alike
pub answer-same : (w : Word) (n : ℕ) (one two : Net) → screen n one w ≡ screen n two w → answer_on w n one ≡ answer_on w n two
unfolding answer_on word_on
answer-same w n one two e = rw e

-- nets that permit the word alike get the same yes or no
pub permitted-alike : (w : Word) (n : ℕ) (one two : Net) → permits n one w ≡ permits n two w
    → (answer_on w n one ≡ Ok None) ↔ (answer_on w n two ≡ Ok None)
permitted-alike w n one two same = (
  (λ e. let (passes, t) = (permitted-on w n one).0 e in (permitted-on w n two).1 (passes, subst T same t)),
  (λ e. let (passes, t) = (permitted-on w n two).0 e in (permitted-on w n one).1 (passes, subst T (sym same) t)),
)
