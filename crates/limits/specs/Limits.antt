-- The limits of files, bundles, logs and words, by the names that the code has for them.
use Rattle.std.specs.Prelude.{◌≡◌, Bool, true, false, ◌&&◌, ◌↔◌, ◌⊎◌, ℕ, ◌≤◌, ◌<◌, leb}
use Rattle.std.proofs.Common.{inl, inr, ⊎_elim, arith, leb-true, leb-false, le-leb}
use Rattle.std.proofs.lemmas.Bool.{lt-leb}
use Rattle.laws.specs.Booleans.{and_left, and_right, lt_or_le}

-- a sealed file's bytes
abbrev pub max_file_size : ℕ
max_file_size = 65536

-- a bundle's bytes
abbrev pub max_bundle_size : ℕ
max_bundle_size = 64512

-- a bundle has 1 to 64,512 bytes, or refusal 4 meets the call
unfoldable pub right_size : ℕ → Bool
right_size n = leb 1 n && leb n max_bundle_size

pub right_size-bounds : (n : ℕ) → right_size n ≡ true → (1 ≤ n) × (n ≤ max_bundle_size)
unfolding right_size
right_size-bounds n e = (leb-true 1 n (and_left (leb 1 n) (leb n max_bundle_size) e), leb-true n max_bundle_size (and_right (leb 1 n) (leb n max_bundle_size) e))

pub right_size_intro : (n : ℕ) → 1 ≤ n → n ≤ max_bundle_size → right_size n ≡ true
unfolding right_size
right_size_intro n some most = rw (le-leb 1 n some, le-leb n max_bundle_size most)

-- and else 0 bytes, or more
pub right_size_wrong : (n : ℕ) → (right_size n ≡ false) ↔ ((n ≡ 0) ⊎ (max_bundle_size < n))
unfolding right_size
right_size_wrong n = (to, ⊎_elim (λ e. rw (lt-leb 1 n (omega arith))) over)
  where
    to : right_size n ≡ false → (n ≡ 0) ⊎ (max_bundle_size < n)
    to e = ⊎_elim
        (λ none. inl (omega arith))
        (λ some. inr (leb-false n max_bundle_size (rw (le-leb 1 n some) at e)))
        (lt_or_le n 1)

    over : max_bundle_size < n → right_size n ≡ false
    over h = rw (le-leb 1 n (omega arith), lt-leb n max_bundle_size h)

-- the events of a bundle, and so the counts of a row and the in and out numbers of a place
abbrev pub max_events : ℕ
max_events = 12

-- the events of a log, in all its words
abbrev pub max_log_events : ℕ
max_log_events = 1024

-- the rows of a log
abbrev pub max_rows : ℕ
max_rows = 256

-- the places of a net
abbrev pub max_places : ℕ
max_places = 64

-- the terms of a certificate
abbrev pub max_terms : ℕ
max_terms = 64

-- the pairs of a certificate
abbrev pub max_pairs : ℕ
max_pairs = 64

-- what the first byte of a bundle has beyond its event count in the new edition
abbrev pub new_edition : ℕ
new_edition = 128

-- the events of a screened word
abbrev pub max_word_events : ℕ
max_word_events = 65535

-- the events of a word that is searched for
abbrev pub max_reach_events : ℕ
max_reach_events = 5

-- the most tokens that a run can leave in a place: 65,535 at first, and 65,535 more at each of 65,535 events
abbrev pub max_tokens : ℕ
max_tokens = 4294901760
