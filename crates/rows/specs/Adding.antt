-- A word that was added, or not for want of room: the law of each of the two answers, and what each of them says.
use Rattle.std.specs.Prelude.{◌≡◌, List, ℕ, ◌+◌, ◌<◌, ◌≤◌, Ok, Err}
use Rattle.std.proofs.Common.{refl, sym, ap, ◌∙◌, ⊎_elim}
use Rattle.std.proofs.lemmas.Bool.{le-leb, lt-leb}
use Rattle.laws.specs.Booleans.{impossible, lt_or_le}
use Rattle.nets.specs.Nets.{Word}
use Rattle.rows.specs.Rows.{rows_of, new_rows, take_word, none, rows_with, Holds, Added}

module _ (most k : ℕ) (t : List ℕ) (w : Word) where
  pub rows_with-some : k + new_rows (rows_of k t) none w ≤ most → rows_with most k t w ≡ Ok (k + new_rows (rows_of k t) none w)
  unfolding rows_with
  rows_with-some h = rw (le-leb (k + new_rows (rows_of k t) none w) most h)

  pub rows_with-none : most < k + new_rows (rows_of k t) none w → rows_with most k t w ≡ Err (k + new_rows (rows_of k t) none w)
  unfolding rows_with
  rows_with-none h = rw (lt-leb (k + new_rows (rows_of k t) none w) most h)

  -- there is room for the word
  pub added-word : (n : ℕ) (t' : List ℕ) → n ≡ k + new_rows (rows_of k t) none w → n ≤ most → Holds n (take_word (rows_of k t) none w) t t'
      → Added most k w t t' (Ok n)
  added-word n t' size few holds = record {
    size = ap Ok size ∙ sym (rows_with-some (rw (← size) few));
    fits = λ m e. let same : n ≡ m = cc in rw (← same) holds;
    full = λ m e. impossible cc;
  }

  -- or there is none
  pub added_nothing : (n : ℕ) → n ≡ k + new_rows (rows_of k t) none w → most < n → Added most k w t t (Err n)
  added_nothing n size more = record {
    size = ap Err size ∙ sym (rows_with-none (rw (← size) more));
    fits = λ m e. impossible cc;
    full = λ _ _. refl;
  }

  -- so there is room where so many rows are the answer
  pub added_some : (n : ℕ) (t' : List ℕ) → Added most k w t t' (Ok n)
      → (n ≡ k + new_rows (rows_of k t) none w) × (n ≤ most) × Holds n (take_word (rows_of k t) none w) t t'
  added_some n t' added = ⊎_elim
      (λ more. let e = added.size ∙ rows_with-none more in impossible cc)
      (λ few. let e = added.size ∙ rows_with-some few in let same : n ≡ k + new_rows (rows_of k t) none w = cc in (same, rw same few, added.fits n refl))
      (lt_or_le most (k + new_rows (rows_of k t) none w))

  -- and none where the answer is how many there would be
  pub added_none : (n : ℕ) (t' : List ℕ) → Added most k w t t' (Err n) → (n ≡ k + new_rows (rows_of k t) none w) × (most < n) × (t' ≡ t)
  added_none n t' added = ⊎_elim
      (λ more. let e = added.size ∙ rows_with-none more in let same : n ≡ k + new_rows (rows_of k t) none w = cc in (same, rw same more, added.full n refl))
      (λ few. let e = added.size ∙ rows_with-some few in impossible cc)
      (lt_or_le most (k + new_rows (rows_of k t) none w))
