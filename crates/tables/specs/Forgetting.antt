-- Rows with their traffic forgotten: a word does to them what it did before rows had any.
use Rattle.std.specs.Prelude.{◌≡◌, refl, Bool, true, false, cond, List, [], ◌∷◌, ◌++◌, map, ℕ, zero, suc, ltb, length}
use Rattle.std.proofs.Common.{ap, ◌∙◌}
use Rattle.std.proofs.lemmas.Simd.{map-map}
use Rattle.std.proofs.lemmas.List.{length-map}
use Rattle.laws.specs.Lists.{map-append}
use Rattle.nets.specs.Nets.{Word, Log, Counts}
use Rattle.rows.specs.Rows.{Row, find_row, new_row, present, passed_once, visit, marked, update_at, follow, add_event, take_word}
use Rattle.logs.specs.Log.{mask_at}
use Rattle.rows.specs.Visiting.{counts_of, find_same}

-- a row without its traffic
abbrev pub forget : Row → Row
forget r = record { counts = r.counts; mask = r.mask; traffic = 0 }

-- the row of a log for the counts v, without its traffic
abbrev pub mask_row : Log → Counts → Row
mask_row log v = record { counts = v; mask = mask_at log v; traffic = 0 }

-- a word taken without a count of words: each prefix's row is there, or is appended, and the bit of the next event is set
unfoldable pub take_uncounted : List Row → Counts → Word → List Row
take_uncounted rs v [] = present v rs
take_uncounted rs v (e ∷ w) = take_uncounted (follow v e (present v rs)) (add_event v e) w

find_forget : (v : Counts) (rs : List Row) → find_row v (map forget rs) ≡ find_row v rs
unfolding counts_of
find_forget v rs = find_same (map forget rs) rs (map-map (λ (r : Row). r.counts) forget rs) v

present-forget : (v : Counts) (rs : List Row) → map forget (present v rs) ≡ present v (map forget rs)
unfolding present
present-forget v rs = rw (find_forget v rs, length-map rs forget) (go (ltb (find_row v rs) (length rs)))
  where
    go : (b : Bool) → map forget (cond b rs (rs ++ (new_row v ∷ []))) ≡ cond b (map forget rs) (map forget rs ++ (new_row v ∷ []))
    go true = refl
    go false = map-append forget rs (new_row v ∷ [])

-- row k changed by f, which is g without its traffic
update_forget : (f g : Row → Row) → ((x : Row) → forget (f x) ≡ g (forget x)) → (k : ℕ) (rs : List Row)
    → map forget (update_at k f rs) ≡ update_at k g (map forget rs)
unfolding update_at
update_forget f g does k [] = refl
update_forget f g does zero (x ∷ rs) = ap (λ (r : Row). r ∷ map forget rs) (does x)
update_forget f g does (suc k) (x ∷ rs) = ap (λ (l : List Row). forget x ∷ l) (update_forget f g does k rs)

update_none : (k : ℕ) (rs : List Row) → update_at k (λ x. x) rs ≡ rs
unfolding update_at
update_none k [] = refl
update_none zero (x ∷ rs) = refl
update_none (suc k) (x ∷ rs) = ap (λ (l : List Row). x ∷ l) (update_none k rs)

visit-forget : (v : Counts) (rs : List Row) → map forget (visit v rs) ≡ present v (map forget rs)
unfolding visit
visit-forget v rs =
    update_forget passed_once (λ x. x) (λ x. refl) (find_row v rs) (present v rs)
    ∙ update_none (find_row v rs) (map forget (present v rs))
    ∙ present-forget v rs

follow-forget : (v : Counts) (e : ℕ) (rs : List Row) → map forget (follow v e rs) ≡ follow v e (map forget rs)
unfolding follow
follow-forget v e rs = rw (find_forget v rs) (update_forget (marked e) (marked e) (λ x. refl) (find_row v rs) rs)

pub take-forget : (w : Word) (v : Counts) (rs : List Row) → map forget (take_word rs v w) ≡ take_uncounted (map forget rs) v w
unfolding take_word take_uncounted
take-forget [] v rs = visit-forget v rs
take-forget (e ∷ w) v rs =
    take-forget w (add_event v e) (follow v e (visit v rs))
    ∙ ap (λ (qs : List Row). take_uncounted qs (add_event v e) w) (follow-forget v e (visit v rs) ∙ ap (follow v e) (visit-forget v rs))
