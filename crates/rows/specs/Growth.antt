-- How many rows a word adds: as many as it has prefixes with no row, since no two prefixes of a word have the same counts.
use Rattle.std.specs.Prelude.{◌≡◌, refl, Bool, true, false, not, cond, List, [], ◌∷◌, ◌++◌, ℕ, zero, suc, ◌+◌, ◌<◌, ◌≤◌, length, get_or, ltb}
use Rattle.std.proofs.Common.{ap, ◌∙◌, ⊎_elim, zero-le, suc-le-suc, le_refl, le_of_suc-le-suc, not-suc-le-zero, add_assoc, arith, length-set, lt-ltb}
use Rattle.std.proofs.Math.Dec.{leb-suc-suc}
use Rattle.laws.specs.Booleans.{true_or_false}
use Rattle.laws.specs.Lists.{tabulate, equal, equal_true}
use Rattle.laws.specs.Scans.{first_failing}
use Rattle.limits.specs.Limits.{max_events}
use Rattle.nets.specs.Nets.{Word, occurrences, counts}
use Rattle.nets.specs.CountLaws.{counts_snoc}
use Rattle.nets.specs.Events.{EventsBelow}
use Rattle.rows.specs.Rows.{Row, find_row, new_row, visit, follow, add_event, take_word, none, absent, new_rows}
use Rattle.rows.specs.Visiting.{counts_of, absent-same, visit_cases, length-visit, counts-follow, length-follow}

-- the counts of the empty word, and of a word with an event more
pub counts-none : none ≡ counts max_events []
unfolding counts tabulate occurrences
counts-none = refl

pub counts-more : (u : Word) (e : ℕ) → e < max_events → counts max_events (u ++ e ∷ []) ≡ add_event (counts max_events u) e
unfolding add_event
counts-more u e h = counts_snoc max_events u e h

-- the number of events that v counts
pub total : List ℕ → ℕ
total [] = 0
total (x ∷ v) = x + total v

pub total-add_event : (v : List ℕ) (e : ℕ) → e < length v → total (add_event v e) ≡ suc (total v)
unfolding total add_event
total-add_event [] e h = absurd (not-suc-le-zero h)
total-add_event (x ∷ v) zero h = omega arith
total-add_event (x ∷ v) (suc e) h = omega (arith, total-add_event v e (le_of_suc-le-suc h))

pub length-add_event : (v : List ℕ) (e : ℕ) → length (add_event v e) ≡ length v
unfolding add_event
length-add_event v e = length-set v e (get_or v e 0 + 1)

pub differ : (u v : List ℕ) → total u < total v → equal u v ≡ false
differ u v h = ⊎_elim (λ p. let q : total u ≡ total v = ap total (equal_true u v p) in absurd (omega arith)) (λ p. p) (true_or_false (equal u v))

-- whether counts are absent, row by row
absent-cons : (v : List ℕ) (r : Row) (rs : List Row) → absent v (r ∷ rs) ≡ cond (equal r.counts v) 0 (absent v rs)
unfolding absent find_row first_failing
absent-cons v r rs = from (equal r.counts v)
  where
    from : (b : Bool) → ◌≡◌ {A = ℕ} (cond (ltb (cond (not b) (suc (find_row v rs)) 0) (suc (length rs))) 0 1) (cond b 0 (cond (ltb (find_row v rs) (length rs)) 0 1))
    from true = rw (lt-ltb 0 (suc (length rs)) (omega arith))
    from false = rw leb-suc-suc

-- the rows count by their counts only
new-same : (rs qs : List Row) → counts_of rs ≡ counts_of qs → (v w : List ℕ) → new_rows rs v w ≡ new_rows qs v w
unfolding new_rows
new-same rs qs same v [] = absent-same rs qs same v
new-same rs qs same v (x ∷ w) = rw (absent-same rs qs same v, new-same rs qs same (add_event v x) w)

-- a row with other counts does not count
absent-other : (v : List ℕ) (x : Row) (rs : List Row) → equal x.counts v ≡ false → absent v (rs ++ (x ∷ [])) ≡ absent v rs
absent-other v x [] h = rw (absent-cons, h)
absent-other v x (r ∷ rs) h = rw (absent-cons, absent-cons, absent-other v x rs h)

pub below-tail : (n e : ℕ) (w : List ℕ) → EventsBelow n (e ∷ w) → EventsBelow n w
below-tail n e w h k l = h (suc k) (suc-le-suc l)

new-other : (x : Row) (rs : List Row) (v w : List ℕ) → total x.counts < total v → length v ≡ max_events → EventsBelow max_events w
    → new_rows (rs ++ (x ∷ [])) v w ≡ new_rows rs v w
unfolding new_rows
new-other x rs v [] h twelve below = absent-other v x rs (differ x.counts v h)
new-other x rs v (e ∷ w) h twelve below =
    let more = total-add_event v e (rw twelve (below 0 (suc-le-suc zero-le))) in
    rw (absent-other v x rs (differ x.counts v h), new-other x rs (add_event v e) w (omega arith) (length-add_event v e ∙ twelve) (below-tail max_events e w below))

pub new_le : (n : ℕ) (v : List ℕ) (rs : List Row) → n ≡ absent v rs → n ≤ 1
new_le n v rs e = ⊎_elim (λ p. omega (arith, p.1)) (λ p. omega (arith, p.1)) (visit_cases v rs)

new-visit : (rs : List Row) (v u w : List ℕ) → total v < total u → length u ≡ max_events → EventsBelow max_events w → new_rows (visit v rs) u w ≡ new_rows rs u w
new-visit rs v u w h twelve below =
    ⊎_elim
    (λ p. new-same (visit v rs) rs p.0 u w)
    (λ p. new-same (visit v rs) (rs ++ (new_row v ∷ [])) p.0 u w ∙ new-other (new_row v) rs u w h twelve below)
    (visit_cases v rs)

-- a word adds as many rows as it has prefixes with no row
pub length-take : (rs : List Row) (v w : List ℕ) → length v ≡ max_events → EventsBelow max_events w → length (take_word rs v w) ≡ length rs + new_rows rs v w
unfolding take_word new_rows
length-take rs v [] twelve below = length-visit v rs
length-take rs v (e ∷ w) twelve below =
    let below' = below-tail max_events e w below in
    let twelve' : length (add_event v e) ≡ max_events = length-add_event v e ∙ twelve in
    let more = total-add_event v e (rw twelve (below 0 (suc-le-suc zero-le))) in
    length-take (follow v e (visit v rs)) (add_event v e) w twelve' below'
    ∙ rw (length-follow, length-visit, new-same (follow v e (visit v rs)) (visit v rs) (counts-follow v e (visit v rs)) (add_event v e) w, new-visit rs v (add_event v e) w (omega arith) twelve' below', add_assoc)

-- the row of the prefix at hand is among them
pub visit_le : (rs : List Row) (v w : List ℕ) → length (visit v rs) ≤ length (take_word rs v w)
unfolding take_word
visit_le rs v [] = le_refl _
visit_le rs v (e ∷ w) =
    let rs' : List Row = follow v e (visit v rs) in
    let up = visit_le rs' (add_event v e) w in
    omega (arith, up, length-visit (add_event v e) rs', length-follow v e (visit v rs))
