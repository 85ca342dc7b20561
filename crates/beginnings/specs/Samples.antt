-- Samples: where the readers stop in small bundles, and why a certificate's three cases of Beginnings.antt stand apart.
use Rattle.std.specs.Prelude.{◌≡◌, refl, Bool, true, false, ℕ, ◌+◌, ◌<◌, ltb, length, take}
use Rattle.std.proofs.Common.{ap, ⊎_elim, arith}
use Rattle.std.proofs.lemmas.Bool.{false≢true}
use mathlib.Core.List.{List, [], ◌∷◌, flat_map}
use Rattle.laws.specs.Every.{every_member}
use Rattle.laws.specs.Lists.{all, any, equal, tabulate}
use Rattle.laws.specs.Numbers.{number_at, all-bytes}
use Rattle.refusals.specs.Results.{value, refused, bind}
use Rattle.nets.specs.Nets.{Entry, words, event_count, rows, prefixes, add_row, beginnings, counts, occurrences, same}
use Rattle.bundles.specs.Reading.{Read, item, onward, require, field, byte, number, each}
use Rattle.bundles.specs.Layout.{Head, HeadInLimits}
use Rattle.bundles.specs.Readers.{any_rows, mark, entry_after, entry, place, places, to_first, first, head_after, head}
use Rattle.bundles.specs.Readers.{term, pair, pairs, weights, of_kind, certificate}
use Rattle.beginnings.specs.Beginnings.{BeginsHead, BeginsCertificate}
use Rattle.beginnings.specs.Stops.{begins-less}
use Rattle.beginnings.specs.Heads.{head-departs}
use Rattle.beginnings.specs.Certificates.{certificate-departs}

-- 0 and the offset behind what was read, or the refusal's number and spot
stop : {A : Type 0} → Read A → List ℕ
stop (value (item x next)) = 0 ∷ next ∷ []
stop (refused number spot) = number ∷ spot ∷ []

head_stop : List ℕ → List ℕ
head_stop b = stop (head any_rows b 0)

-- one event, some words, no place
abbrev pub head_over : Bool → List Entry → Head
head_over is_new xs = record { is_new = is_new; events = 1; entries = xs; places = [] }

-- the partial word 0
abbrev pub one_entry : List Entry
one_entry = record { word = 0 ∷ []; completed = false } ∷ []

-- two rows, in both editions; and no word
abbrev pub one_word : Head
one_word = head_over false one_entry

abbrev pub new_word : Head
new_word = head_over true one_entry

abbrev pub no_word : Head
no_word = head_over true []

certificate_stop : Head → List ℕ → List ℕ
certificate_stop h l = stop (certificate h l 0)

pub samples : List (List ℕ × List ℕ)
samples =
    -- a head: the first byte missing, 0, 13, 128, 141; the word count missing, in both editions
    (head_stop [], 6 ∷ 0 ∷ [])
    ∷ (head_stop (0 ∷ []), 7 ∷ 0 ∷ [])
    ∷ (head_stop (13 ∷ []), 7 ∷ 0 ∷ [])
    ∷ (head_stop (128 ∷ []), 7 ∷ 0 ∷ [])
    ∷ (head_stop (141 ∷ []), 7 ∷ 0 ∷ [])
    ∷ (head_stop (1 ∷ []), 6 ∷ 1 ∷ [])
    ∷ (head_stop (140 ∷ []), 6 ∷ 1 ∷ [])
    -- an event missing, not below n; the place count missing, 65; a number missing, half there
    ∷ (head_stop (1 ∷ 1 ∷ 2 ∷ 0 ∷ []), 6 ∷ 4 ∷ [])
    ∷ (head_stop (1 ∷ 1 ∷ 2 ∷ 1 ∷ []), 7 ∷ 3 ∷ [])
    ∷ (head_stop (1 ∷ 0 ∷ []), 6 ∷ 2 ∷ [])
    ∷ (head_stop (1 ∷ 0 ∷ 65 ∷ []), 7 ∷ 2 ∷ [])
    ∷ (head_stop (1 ∷ 0 ∷ 1 ∷ 0 ∷ 0 ∷ []), 6 ∷ 5 ∷ [])
    ∷ (head_stop (1 ∷ 0 ∷ 1 ∷ 0 ∷ 0 ∷ 9 ∷ []), 6 ∷ 5 ∷ [])
    ∷ (head_stop (1 ∷ 0 ∷ 0 ∷ []), 0 ∷ 3 ∷ [])
    -- in the new edition the mark missing, 2; an event missing behind it, not below n; a word without events has a mark too
    ∷ (head_stop (129 ∷ 1 ∷ 1 ∷ []), 6 ∷ 3 ∷ [])
    ∷ (head_stop (129 ∷ 1 ∷ 1 ∷ 2 ∷ []), 7 ∷ 3 ∷ [])
    ∷ (head_stop (129 ∷ 1 ∷ 1 ∷ 1 ∷ []), 6 ∷ 4 ∷ [])
    ∷ (head_stop (129 ∷ 1 ∷ 1 ∷ 0 ∷ 1 ∷ []), 7 ∷ 4 ∷ [])
    ∷ (head_stop (129 ∷ 1 ∷ 0 ∷ 1 ∷ 0 ∷ []), 0 ∷ 5 ∷ [])
    -- a certificate: the kind missing, 2; k half there, 0; a row that is not there; its low byte alone; an event that is not there
    ∷ (certificate_stop one_word [], 6 ∷ 0 ∷ [])
    ∷ (certificate_stop one_word (2 ∷ []), 7 ∷ 0 ∷ [])
    ∷ (certificate_stop one_word (1 ∷ 0 ∷ []), 6 ∷ 1 ∷ [])
    ∷ (certificate_stop one_word (1 ∷ 0 ∷ 0 ∷ []), 7 ∷ 1 ∷ [])
    ∷ (certificate_stop one_word (1 ∷ 1 ∷ 0 ∷ 1 ∷ 2 ∷ 0 ∷ []), 7 ∷ 4 ∷ [])
    ∷ (certificate_stop one_word (1 ∷ 1 ∷ 0 ∷ 1 ∷ 2 ∷ []), 6 ∷ 4 ∷ [])
    ∷ (certificate_stop one_word (1 ∷ 1 ∷ 0 ∷ 1 ∷ 1 ∷ 0 ∷ 1 ∷ []), 7 ∷ 6 ∷ [])
    -- without terms: the whole in the old edition; in the new one the pair count missing, 65; a word missing; its weight half there; no such word
    ∷ (certificate_stop one_word (1 ∷ 1 ∷ 0 ∷ 0 ∷ []), 0 ∷ 4 ∷ [])
    ∷ (certificate_stop new_word (1 ∷ 1 ∷ 0 ∷ 0 ∷ []), 6 ∷ 4 ∷ [])
    ∷ (certificate_stop new_word (1 ∷ 1 ∷ 0 ∷ 0 ∷ 65 ∷ []), 7 ∷ 4 ∷ [])
    ∷ (certificate_stop new_word (1 ∷ 1 ∷ 0 ∷ 0 ∷ 1 ∷ []), 6 ∷ 5 ∷ [])
    ∷ (certificate_stop new_word (1 ∷ 1 ∷ 0 ∷ 0 ∷ 1 ∷ 0 ∷ 9 ∷ []), 6 ∷ 6 ∷ [])
    ∷ (certificate_stop new_word (1 ∷ 1 ∷ 0 ∷ 0 ∷ 1 ∷ 1 ∷ []), 7 ∷ 5 ∷ [])
    ∷ (certificate_stop new_word (1 ∷ 1 ∷ 0 ∷ 0 ∷ 1 ∷ 0 ∷ 9 ∷ 0 ∷ []), 0 ∷ 8 ∷ [])
    -- kind 0 without a place: its number is missing, or is not there
    ∷ (certificate_stop one_word (0 ∷ []), 6 ∷ 1 ∷ [])
    ∷ (certificate_stop one_word (0 ∷ 0 ∷ []), 7 ∷ 1 ∷ [])
    -- and a pair without a word
    ∷ (certificate_stop no_word (1 ∷ 1 ∷ 0 ∷ 0 ∷ 1 ∷ []), 6 ∷ 5 ∷ [])
    ∷ (certificate_stop no_word (1 ∷ 1 ∷ 0 ∷ 0 ∷ 1 ∷ 0 ∷ []), 7 ∷ 5 ∷ [])
    ∷ []

pub samples_hold_lem : all (λ s. equal s.0 s.1) samples ≡ true
unfolding samples head_stop certificate_stop stop to_first first head head_after entry entry_after mark place places term pair pairs weights of_kind
    certificate field byte number require each bind onward number_at words event_count rows prefixes add_row
    beginnings counts occurrences same flat_map tabulate all any equal
samples_hold_lem = refl

-- ---- what is no beginning, of a head and of a certificate: a reader that tests one of these ranges behind later fields answers 6 here

departs-at : (b : List ℕ) → all (λ x. ltb x 256) b ≡ true → (spot : ℕ) → head any_rows b 0 ≡ refused 7 spot → BeginsHead (take (spot + 1) b) → ⊥
departs-at b bytes spot e = (head-departs b (all-bytes b bytes) spot 7 (λ six. omega (arith, six)) e).behind

-- 13 events, in both editions; 65 places; an event that is not there; a mark of 2
pub no_heads : (BeginsHead (13 ∷ []) → ⊥) × (BeginsHead (141 ∷ []) → ⊥) × (BeginsHead (1 ∷ 0 ∷ 65 ∷ []) → ⊥)
    × (BeginsHead (1 ∷ 1 ∷ 2 ∷ 1 ∷ []) → ⊥) × (BeginsHead (129 ∷ 1 ∷ 1 ∷ 2 ∷ []) → ⊥)
unfolding to_first first head head_after entry entry_after mark places place field byte number require each bind onward number_at words
    event_count all
no_heads = (
  departs-at (13 ∷ []) refl 0 refl,
  departs-at (141 ∷ []) refl 0 refl,
  departs-at (1 ∷ 0 ∷ 65 ∷ []) refl 2 refl,
  departs-at (1 ∷ 1 ∷ 2 ∷ 1 ∷ []) refl 3 refl,
  departs-at (129 ∷ 1 ∷ 1 ∷ 2 ∷ []) refl 3 refl,
)

-- the heads with a word are within their limits
one-word-limits : (is_new : Bool) → HeadInLimits (head_over is_new one_entry)
unfolding words event_count
one-word-limits is_new = record {
  events = (omega arith, omega arith);
  log_size = omega arith;
  entries = (
    record {
      size = omega arith;
      events = λ e m. every_member (λ (e : ℕ). e < 1) (0 ∷ []) (omega arith, tt) m;
      mark = λ never. absurd (false≢true never);
    },
    tt,
  );
  log_events = omega arith;
  places_size = omega arith;
  places = tt;
}

-- row 2 of two; word 1 of one
pub no_certificate_lem : BeginsCertificate one_word (1 ∷ 1 ∷ 0 ∷ 1 ∷ 2 ∷ 0 ∷ []) → ⊥
unfolding certificate of_kind weights term pairs field byte number require each bind onward number_at words rows prefixes add_row beginnings counts
    occurrences same flat_map tabulate all any equal
no_certificate_lem s =
    let five = begins-less (1 ∷ 1 ∷ 0 ∷ 1 ∷ 2 ∷ []) (0 ∷ []) s in
    ⊎_elim
    (λ (_, d). d.behind five)
    (⊎_elim
    (λ (_, e). ⊎_elim (λ d. d.behind five) (λ d. d.behind s) e)
    (λ (none, _). ⊎_elim (λ place. omega (arith, place.number)) (λ word. omega (arith, ap length word.entries)) none))
    (certificate-departs one_word (one-word-limits false) (omega arith) [] (1 ∷ 1 ∷ 0 ∷ 1 ∷ 2 ∷ 0 ∷ []) 4 7 (λ e. omega (arith, e))
    (all-bytes (1 ∷ 1 ∷ 0 ∷ 1 ∷ 2 ∷ 0 ∷ []) refl) refl)

pub no-pair : BeginsCertificate new_word (1 ∷ 1 ∷ 0 ∷ 0 ∷ 1 ∷ 1 ∷ []) → ⊥
unfolding certificate of_kind weights term pair pairs field byte number require each bind onward number_at words rows prefixes add_row beginnings
    counts occurrences same flat_map tabulate all any equal
no-pair s = ⊎_elim
    (λ (_, d). d.behind s)
    (⊎_elim
    (λ (_, e). ⊎_elim (λ d. d.behind s) (λ d. omega (arith, d.there)) e)
    (λ (none, _). ⊎_elim (λ place. omega (arith, place.number)) (λ word. omega (arith, ap length word.entries)) none))
    (certificate-departs new_word (one-word-limits true) (omega arith) [] (1 ∷ 1 ∷ 0 ∷ 0 ∷ 1 ∷ 1 ∷ []) 5 7 (λ e. omega (arith, e))
    (all-bytes (1 ∷ 1 ∷ 0 ∷ 0 ∷ 1 ∷ 1 ∷ []) refl) refl)
