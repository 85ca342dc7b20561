-- Laws of `visit` and `follow`. Of the counts of the rows: there may be one more, at the end, and so they tell how many rows there are and where
-- counts are found; whoever takes a word uses these. Of the rows as they are (`visit-is`, `update_here`, `update_later`): only LogRows, for the masks
-- and the traffic of a log, and Storing, for the numbers in a table.
use Rattle.std.specs.Prelude.{◌≡◌, refl, ◌⊎◌, Bool, true, false, cond, ◌||◌, ℕ, zero, suc, ◌+◌, ◌<◌, ◌≤◌, length, ltb}
use Rattle.std.proofs.Common.{sym, ◌∙◌, arith, length-append, lt-ltb, le-ltb}
use Rattle.std.proofs.Math.Path.{ap}
use Rattle.std.proofs.Math.Logic.{inl, inr, ⊎_elim}
use Rattle.std.proofs.Math.Bool.{not}
use mathlib.Core.List.{List, [], ◌∷◌, ◌++◌, map}
use Rattle.std.proofs.lemmas.List.{length-map}
use Rattle.std.proofs.Math.Dec.{leb-suc-suc}
use Rattle.laws.specs.Booleans.{lt_or_le, yes_true}
use Rattle.laws.specs.Lists.{any, equal, equal_sym, eq→equal, member}
use Rattle.laws.specs.Scans.{first_failing, failing-append, failing-found, failing-most}
use Rattle.nets.specs.Nets.{Counts}
use Rattle.rows.specs.Rows.{Row, find_row, new_row, present, visit, passed_once, marked, update_at, follow, absent}

-- ---- What depends on the counts of the rows only

-- the counts of each row
unfoldable pub counts_of : List Row → List Counts
counts_of rs = map (λ (r : Row). r.counts) rs

length-counts_of : (rs : List Row) → length (counts_of rs) ≡ length rs
unfolding counts_of
length-counts_of rs = length-map rs (λ (r : Row). r.counts)

find_counts_of : (u : Counts) (rs : List Row) → find_row u rs ≡ first_failing (λ v. not (equal v u)) (counts_of rs)
unfolding find_row first_failing counts_of
find_counts_of u [] = refl
find_counts_of u (r ∷ rs) = ap (λ (n : ℕ). cond (not (equal r.counts u)) (suc n) 0) (find_counts_of u rs)

-- counts are found where they are a member
pub found-member : (v : Counts) (rs : List Row) → ltb (find_row v rs) (length rs) ≡ member v (counts_of rs)
unfolding find_row first_failing any counts_of
found-member v [] = refl
found-member v (y ∷ ys) = rw (equal_sym y.counts v) (go (equal v y.counts) ys (found-member v ys))
  where
    go : (b : Bool) (rs : List Row) → ltb (find_row v rs) (length rs) ≡ member v (counts_of rs)
        → ltb (cond (not b) (suc (find_row v rs)) 0) (suc (length rs)) ≡ (b || member v (counts_of rs))
    go true rs e = lt-ltb 0 (suc (length rs)) (omega arith)
    go false rs e = leb-suc-suc (suc (find_row v rs)) (length rs) ∙ e

-- and still so, in the same row, with more rows behind
pub find_more : (v : Counts) (rs qs : List Row) (more : List Counts) → counts_of qs ≡ counts_of rs ++ more → find_row v rs < length rs → find_row v qs ≡ find_row v rs
find_more v rs qs more is h =
    find_counts_of v qs
    ∙ ap (first_failing (λ y. not (equal y v))) is
    ∙ failing-found (λ y. not (equal y v)) (counts_of rs) more (omega (arith, h, find_counts_of v rs, length-counts_of rs))
    ∙ sym (find_counts_of v rs)

module _ (rs qs : List Row) (same : counts_of rs ≡ counts_of qs) where
  pub length-same : length rs ≡ length qs
  length-same = sym (length-counts_of rs) ∙ ap length same ∙ length-counts_of qs

  pub find_same : (u : Counts) → find_row u rs ≡ find_row u qs
  find_same u = find_counts_of u rs ∙ ap (first_failing (λ v. not (equal v u))) same ∙ sym (find_counts_of u qs)

  pub absent-same : (u : Counts) → absent u rs ≡ absent u qs
  unfolding absent
  absent-same u = rw (find_same u, length-same)

-- ---- Row r changed by f, which keeps its counts

pub update_counts : (f : Row → Row) → ((x : Row) → (f x).counts ≡ x.counts) → (r : ℕ) (rs : List Row) → counts_of (update_at r f rs) ≡ counts_of rs
unfolding counts_of update_at
update_counts f keeps r [] = refl
update_counts f keeps zero (x ∷ rs) = ap (λ (v : Counts). v ∷ counts_of rs) (keeps x)
update_counts f keeps (suc r) (x ∷ rs) = ap (λ (l : List Counts). x.counts ∷ l) (update_counts f keeps r rs)

module _ (v : Counts) (f : Row → Row) (x : Row) (rs : List Row) where
  -- the first row is that of v
  pub update_here : equal x.counts v ≡ true → update_at (find_row v (x ∷ rs)) f (x ∷ rs) ≡ f x ∷ rs
  unfolding update_at find_row first_failing
  update_here h = rw h

  -- or is not
  pub update_later : equal x.counts v ≡ false → update_at (find_row v (x ∷ rs)) f (x ∷ rs) ≡ x ∷ update_at (find_row v rs) f rs
  unfolding update_at find_row first_failing
  update_later h = rw h

-- ---- A prefix with the counts v is visited

module _ (v : Counts) (rs : List Row) where
  -- its row is there, or is appended
  pub present-found : find_row v rs < length rs → present v rs ≡ rs
  unfolding present
  present-found h = rw (lt-ltb (find_row v rs) (length rs) h)

  pub present-new : length rs ≤ find_row v rs → present v rs ≡ rs ++ (new_row v ∷ [])
  unfolding present
  present-new h = rw (le-ltb (find_row v rs) (length rs) h)

  find_new : find_row v (rs ++ (new_row v ∷ [])) ≡ find_row v rs
  unfolding find_row
  find_new = failing-append (λ r. not (equal r.counts v)) rs (new_row v) [] (ap not (yes_true (equal v v) (eq→equal v v refl)))

  -- it is found where it was looked for
  pub find_present : find_row v (present v rs) ≡ find_row v rs
  find_present = ⊎_elim
      (λ h. ap (find_row v) (present-found h))
      (λ h. ap (find_row v) (present-new h) ∙ find_new)
      (lt_or_le (find_row v rs) (length rs))

  -- there it has one word more, and its counts
  pub visit-is : visit v rs ≡ update_at (find_row v (present v rs)) passed_once (present v rs)
  unfolding visit
  visit-is = ap (λ (r : ℕ). update_at r passed_once (present v rs)) (sym find_present)

  pub counts-visit : counts_of (visit v rs) ≡ counts_of (present v rs)
  unfolding visit
  counts-visit = update_counts passed_once (λ x. refl) (find_row v rs) (present v rs)

  pub visit_cases : ((counts_of (visit v rs) ≡ counts_of rs) × (absent v rs ≡ 0))
      ⊎ ((counts_of (visit v rs) ≡ counts_of (rs ++ (new_row v ∷ []))) × (absent v rs ≡ 1))
  unfolding absent
  visit_cases = ⊎_elim
      (λ h. inl (counts-visit ∙ ap counts_of (present-found h), rw (lt-ltb (find_row v rs) (length rs) h)))
      (λ h. inr (counts-visit ∙ ap counts_of (present-new h), rw (le-ltb (find_row v rs) (length rs) h)))
      (lt_or_le (find_row v rs) (length rs))

  pub length-visit : length (visit v rs) ≡ length rs + absent v rs
  length-visit = ⊎_elim
      (λ p. omega (arith, length-same (visit v rs) rs p.0, p.1))
      (λ p. omega (arith, length-same (visit v rs) (rs ++ (new_row v ∷ [])) p.0, length-append rs (new_row v ∷ []), p.1))
      visit_cases

  pub find_visit : find_row v (visit v rs) ≡ find_row v rs
  find_visit = find_same (visit v rs) (present v rs) counts-visit v ∙ find_present

  -- and there it is
  pub visit_finds : find_row v (visit v rs) < length (visit v rs)
  unfolding absent find_row
  visit_finds = ⊎_elim
      (λ h. omega (arith, find_visit, length-visit))
      (λ h. let one : absent v rs ≡ 1 = rw (le-ltb (find_row v rs) (length rs) h) in
      omega (arith, one, find_visit, length-visit, failing-most (λ r. not (equal r.counts v)) rs))
      (lt_or_le (find_row v rs) (length rs))

-- ---- The event e follows it

module _ (v : Counts) (e : ℕ) where
  pub counts-follow : (rs : List Row) → counts_of (follow v e rs) ≡ counts_of rs
  unfolding follow
  counts-follow rs = update_counts (marked e) (λ x. refl) (find_row v rs) rs

  pub length-follow : (rs : List Row) → length (follow v e rs) ≡ length rs
  length-follow rs = length-same (follow v e rs) rs (counts-follow rs)
