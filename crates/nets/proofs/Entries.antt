-- Laws of entries and of the nets that obey their completed words; with no completed word, every net does.
use Rattle.std.specs.Prelude.{◌≡◌, refl, ◌↔◌, ℕ, ◌≤◌, ◌<◌, T, ltb, length, get_or}
use Rattle.std.proofs.Common.{sym, ap, subst, ⊎_elim, ltb→lt, nltb→le}
use mathlib.Core.List.Memᴰ
use mathlib.Core.List.{List, [], ◌∷◌, Memᴰ}
use Rattle.std.proofs.lemmas.List.{get_or_past}
use Rattle.laws.specs.Booleans.{decide}
use Rattle.laws.specs.Differences.{is_zero_ℤ, zero-exactly}
use Rattle.laws.specs.Lists.{all-member, all_intro, keep, keep-member, keep_intro, get_d_member}
use Rattle.nets.specs.Nets.{Word, Log, Entry, no_entry, Net, Place, words, completed_words, counts, effect, place_obeys, obeys}
use Rattle.nets.specs.Bundle.{Pair, names_completed}
use Rattle.nets.specs.Words.{Prefix, word-prefix, Obeys, EveryNetPermits, EveryObeyingNetPermits}
use Rattle.nets.specs.LogLaws.{entry-word}
use Rattle.nets.specs.Entries.{Completed, Returns, NoneCompleted}

-- ---- completed words

module _ (entries : List Entry) where
  -- it is the word of an entry that is completed
  pub completed→ : (w : Word) → Completed entries w → (x : Entry) × Memᴰ x entries × T x.completed × (x.word ≡ w)
  unfolding completed_words words
  completed→ w m =
      let r = Memᴰ.of_map (λ (x : Entry). x.word) (keep (λ x. x.completed) entries) m in
      let k = keep-member (λ x. x.completed) entries r.1 in
      (r.0, k.0, k.1, r.2)

  pub →completed : (x : Entry) → Memᴰ x entries → T x.completed → Completed entries x.word
  unfolding completed_words words
  →completed x m t = Memᴰ.map (λ (x : Entry). x.word) (keep_intro (λ x. x.completed) entries m t)

  -- so a word of the log
  pub completed-listed : (w : Word) → Completed entries w → Memᴰ w (words entries)
  completed-listed w m = let r = completed→ w m in Memᴰ.cast (sym r.3) (entry-word entries r.1)

  pub completed-prefix : (w : Word) → Completed entries w → Prefix (words entries) w
  completed-prefix w m = word-prefix (words entries) w (completed-listed w m)

-- a pair that names a completed word names an entry of the log
module _ (n : ℕ) (entries : List Entry) (q : Pair) (t : T (names_completed n entries q)) where
  pub named-inside : q.number < length entries
  unfolding names_completed
  named-inside = ⊎_elim (λ h. ltb→lt q.number (length entries) h) (λ h. absurd (beyond (nltb→le q.number (length entries) h)))
      (decide (ltb q.number (length entries)))
    where
      beyond : length entries ≤ q.number → ⊥
      beyond h = subst (λ (x : Entry). T x.completed) (get_or_past entries q.number no_entry h) t

  pub named-completed : Completed entries (get_or entries q.number no_entry).word
  unfolding names_completed
  named-completed = →completed entries (get_or entries q.number no_entry) (get_d_member entries q.number no_entry named-inside) t

-- ---- obeying

module _ (n : ℕ) where
  pub place-returns : (completed : Log) (p : Place) → T (place_obeys n completed p) ↔ Returns n completed p
  unfolding place_obeys
  place-returns completed p = (
    (λ t w m. (zero-exactly (effect n p (counts n w))).0 (all-member (λ w. is_zero_ℤ (effect n p (counts n w))) completed t m)),
    λ h. all_intro (λ w. is_zero_ℤ (effect n p (counts n w))) completed (λ w m. (zero-exactly (effect n p (counts n w))).1 (h w m)),
  )

  -- a net obeys completed words exactly when it is so for each of its places
  pub net-returns : (net : Net) (completed : Log) → Obeys n net completed ↔ ((p : Place) → Memᴰ p net → Returns n completed p)
  unfolding obeys
  net-returns net completed = (
    (λ t p m. (place-returns completed p).0 (all-member (place_obeys n completed) net t m)),
    λ h. all_intro (place_obeys n completed) net (λ p m. (place-returns completed p).1 (h p m)),
  )

  -- with fewer places it still obeys, and it obeys fewer words
  pub obeys-less : (net less : Net) (completed fewer : Log) → ((p : Place) → Memᴰ p less → Memᴰ p net)
      → ((w : Word) → Memᴰ w fewer → Memᴰ w completed) → Obeys n net completed → Obeys n less fewer
  obeys-less net less completed fewer places listed t =
      (net-returns less fewer).1 (λ p m w k. (net-returns net completed).0 t p (places p m) w (listed w k))

-- ---- no completed word, as in a bundle of the old edition

pub none-completed : (entries : List Entry) → NoneCompleted entries → completed_words entries ≡ []
unfolding completed_words words keep
none-completed entries none = ap words (kept entries none)
  where
    kept : (xs : List Entry) → NoneCompleted xs → keep (λ x. x.completed) xs ≡ []
    kept [] none = refl
    kept (x ∷ xs) none = rw (none x (Memᴰ.head refl)) (kept xs (λ y m. none y (Memᴰ.tail m)))

pub none-word : (entries : List Entry) → NoneCompleted entries → (w : Word) → Completed entries w → ⊥
none-word entries none w m = Memᴰ.not-nil (subst (λ (l : Log). Memᴰ w l) (none-completed entries none) m)

-- every net obeys
pub none-obeyed : (n : ℕ) (net : Net) (entries : List Entry) → NoneCompleted entries → Obeys n net (completed_words entries)
none-obeyed n net entries none = (net-returns n net (completed_words entries)).1 (λ p m w k. absurd (none-word entries none w k))

-- so every net that permits the log permits the word
pub old-every-net : (n : ℕ) (entries : List Entry) → NoneCompleted entries → (w : Word)
    → EveryObeyingNetPermits n entries w ↔ EveryNetPermits n (words entries) w
old-every-net n entries none w = ((λ h net t. h net t (none-obeyed n net entries none)), λ h net t obeyed. h net t)
