-- Exactly when conversion refuses behind the judge, and what it gives.
use Rattle.std.specs.Prelude.{◌≡◌, refl, ◌↔◌, Bool, true, false, not, List, ℕ, ◌≤◌, ◌<◌, leb, length, get_or}
use Rattle.std.proofs.Common.{ap, true≢false}
use Rattle.std.proofs.lemmas.Bool.{false≢true}
use Rattle.laws.specs.Booleans.{at_least, less, yes_true}
use Rattle.laws.specs.Lists.{all, all_intro, all-member}
use Rattle.laws.specs.Scans.{first_failing, failing-exactly}
use Rattle.limits.specs.Limits.{max_bundle_size}
use Rattle.refusals.specs.Table.{bundle_length_number, word_completed_number}
use Rattle.refusals.specs.Results.{value, refused}
use Rattle.refusals.proofs.Laws.{require-refused, require-value}
use Rattle.nets.specs.Nets.{Entry, no_entry}
use Rattle.nets.specs.Entries.{NoneCompleted}
use Rattle.bundles.specs.Layout.{Contents, bytes_of}
use Rattle.editions.specs.Converting.{is_partial, newer, older, in_new, in_old}

-- ---- completed words

partial : (b : Bool) → not b ≡ true → b ≡ false
partial false e = refl
partial true e = absurd (false≢true e)

completed : (b : Bool) → not b ≡ false → b ≡ true
completed true e = refl
completed false e = absurd (true≢false e)

-- each word is partial
pub all-partial : (entries : List Entry) → (all is_partial entries ≡ true) ↔ NoneCompleted entries
all-partial entries = (
  (λ e x m. partial x.completed (yes_true (is_partial x) (all-member is_partial entries (rw e tt) m))),
  (λ none. yes_true (all is_partial entries) (all_intro is_partial entries (λ x m. rw (none x m) tt))),
)

-- the first completed word: it is there, and each before it is partial
pub first-exactly : (entries : List Entry) (i : ℕ) → ((i ≡ first_failing is_partial entries) × (all is_partial entries ≡ false))
    ↔ ((i < length entries) × ((get_or entries i no_entry).completed ≡ true) × ((j : ℕ) → j < i → (get_or entries j no_entry).completed ≡ false))
first-exactly entries i =
    let law = failing-exactly is_partial no_entry entries i in (
      (λ c. let (there, here, before) = law.0 c in (there, completed _ here, λ j h. partial _ (before j h))),
      (λ (there, here, before). law.1 (there, ap not here, λ j h. ap not (before j h))),
    )

-- ---- what follows the judge

module _ (d : Contents) where
  -- 4 alone, where that passes 64,512 bytes
  pub in_new-refused : (k spot : ℕ) → (in_new d ≡ refused k spot)
      ↔ ((k ≡ bundle_length_number) × (spot ≡ 0) × (max_bundle_size < length (bytes_of (newer d))))
  unfolding in_new
  in_new-refused k spot =
      let law = require-refused (leb (length (bytes_of (newer d))) max_bundle_size) bundle_length_number 0 (bytes_of (newer d)) k spot in
      let size = less (length (bytes_of (newer d))) max_bundle_size in (
        (λ e. let (n, s, over) = law.0 e in (n, s, size.0 over)),
        (λ (n, s, over). law.1 (n, s, size.1 over)),
      )

  pub in_new-value : (l : List ℕ) → (in_new d ≡ value l) ↔ ((length (bytes_of (newer d)) ≤ max_bundle_size) × (l ≡ bytes_of (newer d)))
  unfolding in_new
  in_new-value l =
      let law = require-value (leb (length (bytes_of (newer d))) max_bundle_size) bundle_length_number 0 (bytes_of (newer d)) l in
      let size = at_least (length (bytes_of (newer d))) max_bundle_size in (
        (λ e. let (fits, is) = law.0 e in (size.0 fits, is)),
        (λ (fits, is). law.1 (size.1 fits, is)),
      )

  -- 21 alone, for the first completed word
  pub in_old-refused : (k spot : ℕ) → (in_old d ≡ refused k spot) ↔ ((k ≡ word_completed_number) × (spot < length d.head.entries)
      × ((get_or d.head.entries spot no_entry).completed ≡ true) × ((j : ℕ) → j < spot → (get_or d.head.entries j no_entry).completed ≡ false))
  unfolding in_old
  in_old-refused k spot =
      let entries = d.head.entries in
      let law = require-refused (all is_partial entries) word_completed_number (first_failing is_partial entries) (bytes_of (older d)) k spot in
      let first = first-exactly entries spot in (
        (λ e. let (n, s, some) = law.0 e in let (there, here, before) = first.0 (s, some) in (n, there, here, before)),
        (λ (n, there, here, before). let (s, some) = first.1 (there, here, before) in law.1 (n, s, some)),
      )

  pub in_old-value : (l : List ℕ) → (in_old d ≡ value l) ↔ (NoneCompleted d.head.entries × (l ≡ bytes_of (older d)))
  unfolding in_old
  in_old-value l =
      let entries = d.head.entries in
      let law = require-value (all is_partial entries) word_completed_number (first_failing is_partial entries) (bytes_of (older d)) l in
      let none = all-partial entries in (
        (λ e. let (all_partial, is) = law.0 e in (none.0 all_partial, is)),
        (λ (partial_all, is). law.1 (none.1 partial_all, is)),
      )
