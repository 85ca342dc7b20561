-- Laws of count vectors, for code that keeps them in an array: one event more, and a wider vector.
use Rattle.std.specs.Prelude.{◌≡◌, refl, true, false, Bool, cond, ℕ, zero, suc, ◌+◌, ◌≤◌, ◌<◌, eqb, length, set, replicate}
use Rattle.std.proofs.Common.{sym, ap, ap₂, ◌∙◌, subst, zero-le, suc-le-suc, add-zero, zero-add, suc-add, ne_of_gt, lt_of_lt_of_le, arith, length-set, ext_get_or, get_or-set_same, get_or-set_other}
use mathlib.Core.List.{List, [], ◌∷◌, ◌++◌, Memᴰ}
use Rattle.std.proofs.Math.Decide.{ℕ_discrete}
use Rattle.laws.specs.Lists.{tabulate, length-tabulate, get_d_tabulate}
use Rattle.nets.specs.Nets.{Word, Counts, at, same, occurrences, counts}
use Rattle.nets.specs.Weights.{same_refl, same_ne}

pub length-counts : (n : ℕ) (w : Word) → length (counts n w) ≡ n
unfolding counts
length-counts n w = length-tabulate n (λ i. occurrences i w)

pub at-counts : (n : ℕ) (w : Word) (i : ℕ) → i < n → at (counts n w) i ≡ occurrences i w
unfolding counts
at-counts n w i h = get_d_tabulate n (λ j. occurrences j w) i 0 h

pub occurrences_snoc : (i : ℕ) (w : Word) (e : ℕ) → occurrences i (w ++ e ∷ []) ≡ occurrences i w + same e i
unfolding occurrences
occurrences_snoc i [] e = omega arith
occurrences_snoc i (a ∷ w) e = omega (arith, occurrences_snoc i w e)

pub occurrences-append : (i : ℕ) (w x : Word) → occurrences i (w ++ x) ≡ occurrences i w + occurrences i x
unfolding occurrences
occurrences-append i [] x = omega arith
occurrences-append i (a ∷ w) x = omega (arith, occurrences-append i w x)

-- a longer word has other counts
pub counts-longer : (n : ℕ) (u : Word) (e : ℕ) (x : Word) → e < n → counts n (u ++ e ∷ x) ≡ counts n u → ⊥
unfolding occurrences
counts-longer n u e x h q =
    let same : occurrences e (u ++ e ∷ x) ≡ occurrences e u = sym (at-counts n (u ++ e ∷ x) e h) ∙ ap (λ (v : List ℕ). at v e) q ∙ at-counts n u e h in
    omega (arith, same, occurrences-append e u (e ∷ x), same_refl e)

-- numbers that count the events of u, and one event more
pub counted_next : (n : ℕ) (u : Word) (e : ℕ) (v : Counts) → e < length v → ((i : ℕ) → i < n → at v i ≡ occurrences i u)
    → (i : ℕ) → i < n → at (set v e (at v e + 1)) i ≡ occurrences i (u ++ e ∷ [])
counted_next n u e v inside counted i b = go (ℕ_discrete i e)
  where
    go : Dec (i ≡ e) → at (set v e (at v e + 1)) i ≡ occurrences i (u ++ e ∷ [])
    go (yes p) =
        ap (at (set v e (at v e + 1))) p ∙ get_or-set_same v e (at v e + 1) 0 inside
        ∙ ap₂ ◌+◌ (ap (at v) (sym p) ∙ counted i b) (sym (same_refl e) ∙ ap (λ (k : ℕ). same e k) (sym p)) ∙ sym (occurrences_snoc i u e)
    go (no ne) =
        get_or-set_other v e i (at v e + 1) 0 ne ∙ counted i b ∙ sym (add-zero (occurrences i u))
        ∙ ap (λ (k : ℕ). occurrences i u + k) (sym (same_ne e i (λ q. ne (sym q)))) ∙ sym (occurrences_snoc i u e)

-- one event more adds 1 at its place
pub counts_snoc : (n : ℕ) (w : Word) (e : ℕ) → e < n → counts n (w ++ e ∷ []) ≡ set (counts n w) e (at (counts n w) e + 1)
counts_snoc n w e h = ext_get_or 0 (counts n (w ++ e ∷ [])) (set (counts n w) e (at (counts n w) e + 1))
    (length-counts n (w ++ e ∷ []) ∙ sym (length-set (counts n w) e (at (counts n w) e + 1) ∙ length-counts n w))
    (λ i b. each i (subst (λ (l : ℕ). i < l) (length-counts n (w ++ e ∷ [])) b))
  where
    inside : e < length (counts n w)
    inside = subst (λ (l : ℕ). e < l) (sym (length-counts n w)) h

    each : (i : ℕ) → i < n → at (counts n (w ++ e ∷ [])) i ≡ at (set (counts n w) e (at (counts n w) e + 1)) i
    each i b = at-counts n (w ++ e ∷ []) i b ∙ sym (counted_next n w e (counts n w) inside (at-counts n w) i b)

-- no event occurs more often than there are events
pub occurrences-most : (i : ℕ) (w : Word) → occurrences i w ≤ length w
unfolding occurrences same
occurrences-most i [] = omega arith
occurrences-most i (a ∷ w) = go (eqb a i) (occurrences-most i w)
  where
    go : (b : Bool) → occurrences i w ≤ length w → cond b 1 0 + occurrences i w ≤ suc (length w)
    go true h = omega (arith, h)
    go false h = omega (arith, h)

-- an event that does not occur
pub occurrences-none : (i : ℕ) (w : Word) → ((a : ℕ) → Memᴰ a w → a ≡ i → ⊥) → occurrences i w ≡ 0
unfolding occurrences
occurrences-none i [] h = refl
occurrences-none i (a ∷ w) h = ap₂ ◌+◌ (same_ne a i (h a (Memᴰ.head refl))) (occurrences-none i w (λ b m. h b (Memᴰ.tail m)))

-- a wider vector has zeros behind: the twelve counts of a table row, with n + k = 12
tabulate-zeros : (n k : ℕ) (f : ℕ → ℕ) → ((i : ℕ) → n ≤ i → f i ≡ 0) → tabulate (n + k) f ≡ tabulate n f ++ replicate k 0
unfolding tabulate
tabulate-zeros zero k f h = ap (λ (l : ℕ). tabulate l f) (zero-add k) ∙ zeros k f (λ i. h i zero-le)
  where
    zeros : (k : ℕ) (g : ℕ → ℕ) → ((i : ℕ) → g i ≡ 0) → tabulate k g ≡ replicate k 0
    zeros zero g h = refl
    zeros (suc k) g h = ap₂ ◌∷◌ (h 0) (zeros k (λ i. g (suc i)) (λ i. h (suc i)))
tabulate-zeros (suc n) k f h =
    ap (λ (l : ℕ). tabulate l f) (suc-add n k)
    ∙ ap (λ (l : List ℕ). f zero ∷ l) (tabulate-zeros n k (λ i. f (suc i)) (λ i b. h (suc i) (suc-le-suc b)))

pub counts-wide : (n k : ℕ) (w : Word) → ((a : ℕ) → Memᴰ a w → a < n) → counts (n + k) w ≡ counts n w ++ replicate k 0
unfolding counts
counts-wide n k w h = tabulate-zeros n k (λ i. occurrences i w) (λ i b. occurrences-none i w (λ a m q. ne_of_gt (lt_of_lt_of_le (h a m) b) (sym q)))
